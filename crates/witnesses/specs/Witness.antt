-- A witness that a history is k-atomic (000, section II.B): a position for each operation, instead of a list. Its conditions are about members
-- only, so it is a witness of each part of the history too.
-- Assumes nothing.
use Rattle.std.specs.Prelude.{ℕ, ◌<◌, ◌≡◌, length}
use mathlib.Core.List.{List, Memᴰ as In}
use Rattle.lists.specs.Pairs.{Pairs}
use Rattle.history.specs.declared.Op.{Op}
use Rattle.history.specs.Table.{Precedes}
use Rattle.witnesses.specs.Histories.{Write, Reads}

module _ (pos : Op → ℕ) where
  -- the positions rise along the list
  abbrev pub Climbs : List Op → Type 0
  Climbs l = Pairs (λ x y. pos x < pos y) l

  -- z is a write of H behind w and before r
  pub record Between (H : List Op) (w r z : Op) : Type 0 where
    pub write : Write H z
    pub after : pos w < pos z
    pub before : pos z < pos r

  -- different operations have different positions, precedence is kept, and each read follows its write with fewer than k writes between
  pub record Witness (k : ℕ) (H : List Op) : Type 0 where
    pub apart : (x y : Op) → In x H → In y H → pos x ≡ pos y → x ≡ y
    pub valid : (x y : Op) → In x H → In y H → Precedes x y → pos x < pos y
    pub after : (w r : Op) → Reads H w r → pos w < pos r
    pub near : (w r : Op) → Reads H w r → (zs : List Op) → Climbs zs → ((z : Op) → In z zs → Between H w r z) → length zs < k
