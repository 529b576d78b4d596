-- The loop that looks for a bound above the clusters of a list, and what the bound says.
-- Assumes nothing.
use Prim.Native.Nat.{ℕ, ◌+◌, ◌≤◌, ◌<◌, max}
use mathlib.Core.Path.{◌≡◌, refl}
use mathlib.Core.Bool.{true, false}
use mathlib.Core.Logic.{◌⊎◌, inl, inr}
use mathlib.Core.List.Memᴰ
use mathlib.Core.List.Memᴰ.{head as here}
use mathlib.Core.List.{List, [], ◌∷◌, ◌++◌, Memᴰ as In}
use native.Mathlib.Omega.{arith}
use native.Mathlib.Numerals.{add-one}
use lib.ListN.{length, get_or, take}
use lib.Seq.{take-suc}
use lib.Dec.{eqb}
use borrow.Author.Tests.{eqb-true, eqb-false, eq-eqb}
use Rattle.lists.proofs.Tests.{both, test}
use Rattle.positions.specs.Columns.{read_of, Linked}
use Rattle.positions.proofs.Places.{below}
use Rattle.positions.proofs.Latest.{latest_le, latest_none}
use Rattle.freeing.specs.Marks.{unlisted, Writes, Above}
use Rattle.freeing.specs.Freed.{Topped}
use Rattle.freeing.proofs.Listing.{in_listed}
use Rattle.freeing.proofs.Dyeing.{other_read}

-- r is the highest of a bound, a write's place plus one, and a read's place plus one
pub record Highest (top w read r : ℕ) : Type 0 where
  pub bound : top ≤ r
  pub write : w < r
  pub last : read ≤ r
  pub least : (n : ℕ) → top ≤ n → w < n → read ≤ n → r ≤ n

pub highest : (top w read s r : ℕ) → s ≡ max top (w + 1) → r ≡ max s read → Highest top w read r
highest top w read s r e f = record { bound = omega arith; write = omega arith; last = omega arith; least = λ n a b c. omega arith }

-- one list and then another
pub above_both : (last a b : List ℕ) (top t r : ℕ) → Above last a top t → Above last b t r → Above last (a ++ b) top r
above_both last a b top t r g h =
    record {
      bound = omega (arith, g.bound, h.bound);
      each = λ w m. go w (Memᴰ.append_cases a m);
      least = λ n k q. h.least n (g.least n k (λ w m. q w (Memᴰ.append_left b m))) (λ w m. q w (Memᴰ.append_right a m));
    }
  where
    go : (w : ℕ) → In w a ⊎ In w b → (w < r) × (get_or last w 0 ≤ r)
    go w (inl m) = let k = g.each w m in (omega (arith, k.0, h.bound), omega (arith, k.1, h.bound))
    go w (inr m) = h.each w m

-- the first i of a list
pub record Topping (last list : List ℕ) (top i t : ℕ) : Type 0 where
  pub within : i ≤ length list
  pub above : Above last (take i list) top t

module _ (last list : List ℕ) (top i t : ℕ) (g : Topping last list top i t) where
  pub top_on : i < length list → (r : ℕ) → Highest t (get_or list i 0) (get_or last (get_or list i 0) 0) r → Topping last list top (i + 1) r
  top_on h r k = record { within = omega arith; above = rw next (above_both last (take i list) (w ∷ []) top t r g.above one) }
    where
      w : ℕ
      w = get_or list i 0

      next : take (i + 1) list ≡ take i list ++ (w ∷ [])
      next = rw (add-one i) (take-suc list i 0 h)

      each : (x : ℕ) → In x (w ∷ []) → (x < r) × (get_or last x 0 ≤ r)
      each x (here e) = rw e (k.write, k.last)
      each x (Memᴰ.tail x5) = elim x5 [ ]

      one : Above last (w ∷ []) t r
      one = record { bound = k.bound; each = each; least = λ n a q. let y = q w (here refl) in k.least n a y.0 y.1 }

module _ (writer last prev : List ℕ) (p : Linked writer last prev) (list : List ℕ) (k : Writes writer list) (r : ℕ) (g : Above last list 0 r) where
  -- nothing of the clusters is from the bound on
  pub above_topped : Topped writer list r
  above_topped j l h = go (test (unlisted list (get_or writer j 0)))
    where
      v : ℕ
      v = get_or writer j 0

      lower : In v list → j < r
      lower m = at (test (eqb j v))
        where
          at : (eqb j v ≡ true) ⊎ (eqb j v ≡ false) → j < r
          at (inl e) = let q : j ≡ v = eqb-true j v e in omega (arith, (g.each v m).0)
          at (inr e) = under (below j r)
            where
              under : (j < r) ⊎ (r ≤ j) → j < r
              under (inl a) = a
              under (inr a) =
                  let w = k v m in
                  absurd (both (other_read writer v j (eqb-false j v e) (eq-eqb v v refl)) (latest_none (read_of writer v) (length writer) j (omega (arith, (g.each v m).1, p.lasts v w.0 w.1)) l))

      go : (unlisted list v ≡ true) ⊎ (unlisted list v ≡ false) → unlisted list v ≡ true
      go (inl e) = e
      go (inr e) = absurd (omega (arith, lower (in_listed list v e)))

  -- and the bound is within the history
  pub above_low : r ≤ length writer
  above_low = g.least (length writer) (omega arith) (λ w m. let x = k w m in (x.0, omega (arith, p.lasts w x.0 x.1, latest_le (read_of writer w) (length writer))))
