use mathlib.Core.Path.{ap, ◌∙◌}
use lib.ListN.{length}
use Rattle.std.specs.Prelude.{unwrap_or}
use Rattle.parsing.proofs.Lines.{front_position}
use Rattle.parsing.proofs.line_length.Goals as goal

pub returns : goal.returns
returns c =
    let t = c.args.text.now in
    c.unwrap_or.ensures ∙ ap (λ o. unwrap_or o (length t)) c.first_feed.ensures ∙ front_position t
