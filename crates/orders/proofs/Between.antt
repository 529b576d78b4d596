-- Writes counted along an order: those before a position, and those between two.
-- Assumes nothing.
use Prim.Native.Nat.{ℕ, zero, suc, ◌+◌, ◌-◌, ◌≤◌, ◌<◌}
use mathlib.Core.Path.{◌≡◌, refl, sym, ◌∙◌}
use mathlib.Core.Bool.{Bool, true, false}
use mathlib.Core.List.{List}
use native.Mathlib.Numerals.{add-one}
use native.Mathlib.Omega.{arith}
use native.Mathlib.Decide.{dec_lt}
use lib.ListN.{length, get_or, set, take, drop, length-set}
use lib.Seq.{drop-cons, get_or-set_same, get_or-set_other}
use Rattle.lists.specs.Lists.{one_if, put, keep}
use Rattle.history.specs.Table.{op_at, is_write}
use Rattle.history.proofs.Searches.{one_if_small}
use Rattle.atomicity.specs.Order.{writes_between}
use Rattle.orders.specs.Faults.{writes_before, Counted}

-- the writes from position j on and before p
abbrev left : List ℕ → List ℕ → ℕ → ℕ → ℕ
left t order p j = length (keep (λ i. is_write (op_at t i)) (take (p - j) (drop j order)))

-- 1 where a write stands at the position
abbrev pub one_at : List ℕ → List ℕ → ℕ → ℕ
one_at t order j = one_if (is_write (op_at t (get_or order j 0)))

module _ (t order : List ℕ) where
  left_cons : (p j : ℕ) → j < p → p ≤ length order → left t order p j ≡ one_at t order j + left t order p (suc j)
  unfolding keep put
  left_cons p j h k =
      let e : p - j ≡ suc (p - suc j) = omega arith in
      let l : j < length order = omega arith in
      rw (e, drop-cons order j 0 l) (go (is_write (op_at t (get_or order j 0))))
    where
      go : (b : Bool) → length (put b (get_or order j 0) (keep (λ i. is_write (op_at t i)) (take (p - suc j) (drop (suc j) order)))) ≡ one_if b + left t order p (suc j)
      go true = omega arith
      go false = omega arith

  left_none : (p : ℕ) → left t order p p ≡ 0
  unfolding keep
  left_none p = let z : p - p ≡ 0 = omega arith in rw z

  left_split : (n p q : ℕ) → n ≤ q → q ≤ p → p ≤ length order → left t order p (q - n) ≡ left t order q (q - n) + left t order p q
  left_split zero p q a h k = let z : q - 0 ≡ q = omega arith in rw (z, left_none q) (omega arith)
  left_split (suc n) p q a h k =
      let s : suc (q - suc n) ≡ q - n = omega arith in
      let ih = left_split n p q (omega arith) h k in
      let l = left_cons p (q - suc n) (omega arith) k in
      let m = left_cons q (q - suc n) (omega arith) (omega arith) in
      let l' : left t order p (q - suc n) ≡ one_at t order (q - suc n) + left t order p (q - n) = rw s at l in
      let m' : left t order q (q - suc n) ≡ one_at t order (q - suc n) + left t order q (q - n) = rw s at m in
      omega arith

  before_left : (p : ℕ) → writes_before t order p ≡ left t order p 0
  before_left p = let z : p - 0 ≡ p = omega arith in rw z

  from_start : (p q : ℕ) → q ≤ p → p ≤ length order → writes_before t order p ≡ writes_before t order q + left t order p q
  from_start p q h k =
      let z : q - q ≡ 0 = omega arith in
      omega (arith, before_left p, before_left q, rw z at (left_split q p q (omega arith) h k))

  pub before_more : (p : ℕ) → p < length order → writes_before t order (p + 1) ≡ writes_before t order p + one_at t order p
  before_more p h =
      rw (add-one p) (omega (arith, from_start (suc p) p (omega arith) (omega arith), left_cons (suc p) p (omega arith) (omega arith), left_none (suc p)))

  pub before_between : (q p : ℕ) → q < p → p ≤ length order → writes_before t order p ≡ writes_before t order q + (one_at t order q + writes_between t order q p)
  unfolding writes_between
  before_between q p h k = omega (arith, from_start p q (omega arith) k, left_cons p q h k)

  pub before_none : writes_before t order 0 ≡ 0
  unfolding keep
  before_none = refl

-- The loop that counts: before position p the places are filled, and so many writes were met.
pub record Counting (t order : List ℕ) (p writes : ℕ) (counts : List ℕ) : Type 0 where
  pub long : length counts ≡ length order
  pub within : p ≤ length order
  pub small : writes ≤ p
  pub met : writes ≡ writes_before t order p
  pub filled : (q : ℕ) → q < p → get_or counts q 0 ≡ writes_before t order q

module _ (t order : List ℕ) where
  pub counting_none : (counts : List ℕ) → length counts ≡ length order → Counting t order 0 0 counts
  counting_none counts e = record { long = e; within = omega arith; small = omega arith; met = sym (before_none t order); filled = λ q h. absurd (omega arith) }

  pub one_small : (p one : ℕ) → one ≡ one_at t order p → one ≤ 1
  one_small p one e = omega (arith, e, one_if_small (is_write (op_at t (get_or order p 0))))

  pub counting_more : (p writes one : ℕ) (counts : List ℕ) → p < length order → one ≡ one_at t order p → Counting t order p writes counts →
      Counting t order (p + 1) (writes + one) (set counts p writes)
  counting_more p writes one counts h e c =
      record {
        long = length-set counts p writes ∙ c.long;
        within = omega arith;
        small = omega (arith, c.small, one_small p one e);
        met = omega (arith, c.met, before_more t order p h);
        filled = λ q l. go q (dec_lt q p) l;
      }
    where
      go : (q : ℕ) → Dec (q < p) → q < p + 1 → get_or (set counts p writes) q 0 ≡ writes_before t order q
      go q (yes k) l = get_or-set_other counts p q writes 0 (λ (e : q ≡ p). absurd (omega arith)) ∙ c.filled q k
      go q (no n) l =
          let same : q ≡ p = omega arith in
          rw same (get_or-set_same counts p writes 0 (omega (arith, c.long)) ∙ c.met)

  pub counting_end : (p writes : ℕ) (counts : List ℕ) → length order ≤ p → Counting t order p writes counts → Counted t order counts
  counting_end p writes counts h c = record { long = c.long; all = λ q l. c.filled q (omega arith) }
