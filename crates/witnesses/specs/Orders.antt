-- An order of a history as a list of its operations (000, section II; document 01, "The row"): each operation once, precedence kept, and each
-- read among the values of the k last writes before it.
-- Assumes nothing.
use Rattle.std.specs.Prelude.{ℕ, ◌≡◌, ◌≢◌, true, false, take}
use mathlib.Core.List.{List, [], ◌∷◌, Memᴰ as In}
use Rattle.lists.specs.Pairs.{Pairs}
use Rattle.history.specs.declared.Op.{Op}
use Rattle.history.specs.Table.{is_write, Precedes}

-- a may stand before b: they are two rows, and b does not precede a (01, "The row")
pub record Before (a b : Op) : Type 0 where
  pub apart : a.row ≢ b.row
  pub valid : ¬ Precedes b a

-- From the values s of the writes passed, last first, the list keeps each read within k, and the values passed are then e (000, section II.B).
pub data Runs (k : ℕ) : List ℕ → List Op → List ℕ → Type 0 where
  run_nil : {s : List ℕ} → Runs k s [] s
  run_write : {s e : List ℕ} {x : Op} {l : List Op} → is_write x ≡ true → Runs k (x.value ∷ s) l e → Runs k s (x ∷ l) e
  run_read : {s e : List ℕ} {x : Op} {l : List Op} → is_write x ≡ false → In x.value (take k s) → Runs k s l e → Runs k s (x ∷ l) e

-- o is a valid k-atomic total order of H (01, "The row"; 000, section II.B)
pub record Orders (k : ℕ) (H o : List Op) : Type 0 where
  pub from : (x : Op) → In x o → In x H
  pub into : (x : Op) → In x H → In x o
  pub pairs : Pairs Before o
  pub passed : List ℕ
  pub runs : Runs k [] o passed
