-- What the theorem about FZF says, of a prepared history H (document 01, "FZF"; 000, section IV).
-- Assumes nothing.
use Rattle.std.specs.Prelude.{List}
use Rattle.history.specs.declared.Op.{Op}
use Rattle.methods.specs.Zones.{Decision}
use Rattle.witnesses.specs.Decides.{Decides}

-- d, what FZF decides, decides 2-atomicity (01, "FZF")
abbrev pub FzfDecides : List Op → Decision → Type 0
FzfDecides H d = Decides 2 H d
