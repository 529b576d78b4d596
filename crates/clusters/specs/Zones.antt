-- What the theorems about clusters and the zone method say, of a prepared history H (document 01, "Zones"; 000,
-- section IV).
-- Assumes nothing.
use Rattle.std.specs.Prelude.{◌≡◌, List}
use Rattle.history.specs.declared.Op.{Op}
use Rattle.methods.specs.Zones.{Decision, first_finish}
use Rattle.witnesses.specs.Decides.{Decides}

-- the smallest finish of the cluster of w is that of w (000, section II.C: a write ends before its dictated reads)
abbrev pub FirstFinish : List Op → Op → Type 0
FirstFinish H w = first_finish H w ≡ w.finish

-- d, what the zone method decides, decides 1-atomicity (01, "Zones")
abbrev pub ZonesDecide : List Op → Decision → Type 0
ZonesDecide H d = Decides 1 H d
