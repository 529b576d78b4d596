-- The number of a question.
-- Assumes nothing.
use Rattle.std.specs.Prelude.{ℕ}
use Rattle.marker.specs.declared.Question.{Question}
use Rattle.marker.specs.declared.Question.TheVariants.{Zones, Lbt, Fzf}

abbrev pub number : Question → ℕ
number Zones = 1
number Lbt = 2
number Fzf = 3
