-- The operations at some positions of a history: their parts, and their members.
-- Assumes nothing.
use Prim.Native.Nat.{ℕ, zero, suc, ◌≤◌, ◌<◌}
use mathlib.Core.Path.{◌≡◌, refl, ap, sym, ◌∙◌}
use mathlib.Core.Bool.{Bool, true}
use mathlib.Core.List.{List, [], ◌∷◌, ◌++◌, map, Memᴰ as In}
use native.Mathlib.Omega.{arith}
use lib.ListN.{length, take}
use lib.Seq.{take-suc}
use Rattle.lists.specs.Lists.{keep}
use Rattle.lists.proofs.Maps.{in_map, map_in}
use Rattle.lists.proofs.Images.{keep_map, map_append}
use Rattle.history.specs.declared.Op.{Op}
use Rattle.positions.specs.Places.{upto, and}
use Rattle.positions.specs.Columns.{nothing, op, ops}
use Rattle.positions.proofs.Places.{keep_upto, in_upto, in_place}

module _ (H : List Op) (P : ℕ → Bool) (n : ℕ) where
  pub keep_ops : (q : Op → Bool) → keep q (ops H (upto P n)) ≡ ops H (upto (and P (λ j. q (op H j))) n)
  keep_ops q = keep_map (op H) q (upto P n) ∙ ap (map (op H)) (keep_upto P (λ j. q (op H j)) n)

  pub in_ops : {o : Op} → In o (ops H (upto P n)) → (j : ℕ) × (o ≡ op H j) × (j < n) × (P j ≡ true)
  in_ops m = let k = in_map (op H) (upto P n) m in let i = in_upto P n k.1 in (k.0, k.2, i.0, i.1)

  pub ops_in : {j : ℕ} → j < n → P j ≡ true → In (op H j) (ops H (upto P n))
  ops_in h e = map_in (op H) (in_place P n h e)

-- a test that always holds gives all the operations
pub ops_all : (H : List Op) (P : ℕ → Bool) (n : ℕ) → n ≤ length H → ((j : ℕ) → j < n → P j ≡ true) → ops H (upto P n) ≡ take n H
unfolding upto
ops_all H P zero h p = refl
ops_all H P (suc n) h p =
    rw (p n (omega arith))
    (map_append (op H) (upto P n) (n ∷ [])
    ∙ ap (λ (l : List Op). l ++ (op H n ∷ [])) (ops_all H P n (omega arith) (λ j k. p j (omega arith)))
    ∙ sym (take-suc H n nothing (omega arith)))
