-- The marking call leaves its list behind the question's number.
use Prim.Native.Nat.{◌+◌}
use mathlib.Core.Path.{◌≡◌, refl}
use denote.Enum.Declared.{tag_of}
use Rattle.marker.specs.contracts.Question.{the_type}
use Rattle.marker.specs.declared.Question.{Question}
use Rattle.marker.specs.declared.Question.TheVariants.{Zones, Lbt, Fzf}
use Rattle.marker.specs.Questions.{number}
use Rattle.sheet.proofs.Making.{made}
use Rattle.sheet.proofs.ask.Goals as goal

is_number : (q : Question) → tag_of the_type q + 1 ≡ number q
is_number Zones = refl
is_number Lbt = refl
is_number Fzf = refl

pub returns : goal.returns
returns c =
    let e = is_number c.args.question in
    rw e (made c.args.table.now c.args.register (number c.args.question) c.args.allowance c.args.page.now c.requires _ _ (rw e at c.mark.ensures.outcome))
