-- The registers of a table rise, and are those that its rows bear.
-- Assumes nothing.
use Prim.Native.Nat.{ℕ, suc, ◌≤◌, ◌<◌}
use mathlib.Core.Path.{◌≡◌, refl, sym, subst, ◌∙◌}
use mathlib.Core.Logic.{◌⊎◌, inl, inr, ◌↔◌}
use mathlib.Core.Bool.{Bool, true, false, cond}
use mathlib.Core.List.Memᴰ.{head as here}
use mathlib.Core.List.Memᴰ.{tail as there}
use mathlib.Core.List.{List, [], ◌∷◌, Memᴰ as In}
use native.Mathlib.Omega.{arith}
use lib.Dec.{eqb, leb}
use lib.ListN.{length, length-map}
use borrow.Author.Tests.{eqb-true, eqb-false, leb-true, leb-false}
use Rattle.lists.specs.Lists.{up_to}
use Rattle.lists.specs.Sorts.{sort}
use Rattle.lists.specs.Pairs.{Pairs, nil, cons}
use Rattle.lists.proofs.Maps.{in_map, map_in}
use Rattle.lists.proofs.Ranges.{below_in, in_below}
use Rattle.lists.proofs.Sorts.{in_sort, sort_in, sort_length, sort_ordered}
use Rattle.history.specs.Table.{RowOf, row_count}
use Rattle.lists.proofs.Ranges.{from_length}
use Rattle.grouping.specs.Registers.{others, distinct, register_at, register_column, registers}

-- what follows x is in the list, and above x
in_others : (x : ℕ) (l : List ℕ) {y : ℕ} → In y (others x l) → In y l
unfolding others
in_others x (z ∷ l) {y} m = go (eqb z x) m (in_others x l) (in_others z l)
  where
    go : (b : Bool) → In y (cond b (others x l) (z ∷ others z l)) → (In y (others x l) → In y l) → (In y (others z l) → In y l) → In y (z ∷ l)
    go true k f g = there (f k)
    go false (here e) f g = here e
    go false (there k) f g = there (g k)
in_others x [] {y = y} m = elim m [ ]

above : (x : ℕ) (l : List ℕ) → ((y : ℕ) → In y l → x ≤ y) → Pairs (λ a b. a ≤ b) l → (y : ℕ) → In y (others x l) → x < y
unfolding others
above x (z ∷ l) h (cons f p) y m = go (eqb z x) refl m (above x l (λ w k. h w (there k)) p)
  where
    go : (b : Bool) → eqb z x ≡ b → In y (cond b (others x l) (z ∷ others z l)) → ((y : ℕ) → In y (others x l) → x < y) → x < y
    go true e k ih = ih y k
    go false e (here q) ih = omega (arith, q, h z (here refl), eqb-false z x e)
    go false e (there k) ih = omega (arith, f y (in_others z l k), h z (here refl), eqb-false z x e)
above x [] h _ y m = elim m [ ]

others_rise : (x : ℕ) (l : List ℕ) → Pairs (λ a b. a ≤ b) l → Pairs (λ a b. a < b) (others x l)
unfolding others
others_rise x [] p = nil
others_rise x (z ∷ l) (cons f p) = go (eqb z x) (others_rise x l p) (others_rise z l p)
  where
    go : (b : Bool) → Pairs (λ a b. a < b) (others x l) → Pairs (λ a b. a < b) (others z l) → Pairs (λ a b. a < b) (cond b (others x l) (z ∷ others z l))
    go true i j = i
    go false i j = cons (above z l f p) j

distinct_rises : (l : List ℕ) → Pairs (λ a b. a ≤ b) l → Pairs (λ a b. a < b) (distinct l)
unfolding distinct
distinct_rises [] p = nil
distinct_rises (x ∷ l) (cons f p) = cons (above x l f p) (others_rise x l p)

-- every number of the list is among them
others_in : (x : ℕ) (l : List ℕ) {y : ℕ} → In y l → (y ≡ x) ⊎ In y (others x l)
unfolding others
others_in x (z ∷ l) {y} m = go (eqb z x) refl m (others_in x l) (others_in z l)
  where
    next : (y ≡ z) ⊎ In y (others z l) → In y (z ∷ others z l)
    next (inl e) = here e
    next (inr k) = there k

    go : (b : Bool) → eqb z x ≡ b → In y (z ∷ l) → (In y l → (y ≡ x) ⊎ In y (others x l)) → (In y l → (y ≡ z) ⊎ In y (others z l)) →
        (y ≡ x) ⊎ In y (cond b (others x l) (z ∷ others z l))
    go true e (here q) f g = inl (q ∙ eqb-true z x e)
    go true e (there k) f g = f k
    go false e (here q) f g = inr (here q)
    go false e (there k) f g = inr (next (g k))
others_in x [] {y = y} m = elim m [ ]

distinct_in : (l : List ℕ) {y : ℕ} → In y l → In y (distinct l)
unfolding distinct
distinct_in (x ∷ l) {y} (here e) = here e
distinct_in (x ∷ l) {y} (there m) = go (others_in x l m)
  where
    go : (y ≡ x) ⊎ In y (others x l) → In y (x ∷ others x l)
    go (inl e) = here e
    go (inr k) = there k
distinct_in [] {y = y} x' = elim x' [ ]

in_distinct : (l : List ℕ) {y : ℕ} → In y (distinct l) → In y l
unfolding distinct
in_distinct (x ∷ l) (here e) = here e
in_distinct (x ∷ l) (there m) = there (in_others x l m)
in_distinct [] {y = y} x' = elim x' [ ]

others_few : (x : ℕ) (l : List ℕ) → length (others x l) ≤ length l
unfolding others
others_few x [] = omega arith
others_few x (z ∷ l) = go (eqb z x) (others_few x l) (others_few z l)
  where
    go : (b : Bool) → length (others x l) ≤ length l → length (others z l) ≤ length l → length (cond b (others x l) (z ∷ others z l)) ≤ suc (length l)
    go true f g = omega arith
    go false f g = omega arith

distinct_few : (l : List ℕ) → length (distinct l) ≤ length l
unfolding distinct
distinct_few [] = omega arith
distinct_few (x ∷ l) = omega (arith, others_few x l)

module _ (t : List ℕ) where
  -- THE REGISTERS RISE
  pub registers_rise : Pairs (λ a b. a < b) (registers t)
  unfolding registers
  registers_rise = distinct_rises (sort leb (register_column t)) (sort_ordered leb (λ x y. x ≤ y) (λ x y e. leb-true x y e) (λ x y e. omega (arith, leb-false x y e)) (λ x y z h k. omega arith) (register_column t))

  -- THEY ARE THOSE THAT THE ROWS BEAR
  pub registers_exactly : (register : ℕ) → In register (registers t) ↔ ((i : ℕ) × RowOf t register i)
  unfolding registers register_at
  registers_exactly register = (into, onto)
    where
      into : In register (registers t) → (i : ℕ) × RowOf t register i
      into m =
          let k = in_map (register_at t) (up_to (row_count t)) (in_sort leb (register_column t) (in_distinct (sort leb (register_column t)) m)) in
          (k.0, record { exists = in_below (row_count t) k.1; bears = sym k.2 })

      onto : ((i : ℕ) × RowOf t register i) → In register (registers t)
      onto k = distinct_in (sort leb (register_column t)) (sort_in leb (register_column t) (subst (λ (r : ℕ). In r (register_column t)) k.1.bears (map_in (register_at t) (below_in (row_count t) k.1.exists))))

  -- there are no more of them than rows
  pub registers_few : length (registers t) ≤ row_count t
  unfolding registers
  registers_few =
      omega (arith, distinct_few (sort leb (register_column t)), sort_length leb (register_column t), length-map (up_to (row_count t)) (register_at t), from_length 0 (row_count t))
