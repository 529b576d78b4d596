-- The fields behind the days: two or three digits behind a mark, each below its limit.
-- Assumes nothing.
use Prim.Native.Nat.{ℕ, ◌+◌, ◌-◌, ◌*◌, ◌/◌, ◌≤◌, ◌<◌}
use mathlib.Core.Path.{◌≡◌, refl, ap}
use mathlib.Core.Bool.{Bool, true, false, cond}
use mathlib.Core.List.{List, [], ◌∷◌}
use native.Mathlib.Omega.{arith}
use lib.Dec.{eqb, ltb}
use lib.ListN.{length}
use borrow.Author.Tests.{ltb-true, ltb-false, lt-ltb, le-ltb, eqb-true, eq-eqb}
use Rattle.lists.specs.Lists.{all}
use Rattle.history.specs.Table.{largest_stamp}
use Rattle.text.specs.Decimal.{digit}
use Rattle.std.specs.Prelude.{Option, Some, None}
use Rattle.parsing.specs.Numbers.{worth, says, number_of}
use Rattle.parsing.proofs.Values.{held_small}
use Rattle.parsing.proofs.Back.{digit_is}
use Rattle.clock.specs.Clock.{two, three, field_in, with_field}
use Rattle.clock.proofs.Days.{digits_both, number_is}

-- two digits are those of the number that they say
two_are : (t : List ℕ) (x : ℕ) → length t ≡ 2 → number_of t ≡ Some x → t ≡ two x
unfolding worth
two_are [] x l h = absurd (omega arith)
two_are (a ∷ []) x l h = absurd (omega arith)
two_are (a ∷ b ∷ []) x l h =
    let d = number_is (a ∷ b ∷ []) x h in
    let i = digits_both a (b ∷ []) d.each in
    let j = digits_both b [] i.2 in
    let p : digit (x / 10) ≡ a = omega (arith, d.value, i.0, i.1, j.0, j.1) in
    let q : digit x ≡ b = omega (arith, d.value, i.0, i.1, j.0, j.1) in
    rw (p, q)
two_are (a ∷ b ∷ c ∷ t) x l h = absurd (omega arith)

three_are : (t : List ℕ) (x : ℕ) → length t ≡ 3 → number_of t ≡ Some x → t ≡ three x
unfolding worth
three_are [] x l h = absurd (omega arith)
three_are (a ∷ []) x l h = absurd (omega arith)
three_are (a ∷ b ∷ []) x l h = absurd (omega arith)
three_are (a ∷ b ∷ c ∷ []) x l h =
    let d = number_is (a ∷ b ∷ c ∷ []) x h in
    let i = digits_both a (b ∷ c ∷ []) d.each in
    let j = digits_both b (c ∷ []) i.2 in
    let k = digits_both c [] j.2 in
    let p : digit (x / 100) ≡ a = omega (arith, d.value, i.0, i.1, j.0, j.1, k.0, k.1) in
    let q : digit (x / 10) ≡ b = omega (arith, d.value, i.0, i.1, j.0, j.1, k.0, k.1) in
    let r : digit x ≡ c = omega (arith, d.value, i.0, i.1, j.0, j.1, k.0, k.1) in
    rw (p, q, r)
three_are (a ∷ b ∷ c ∷ e ∷ t) x l h = absurd (omega arith)

two_back : (x : ℕ) → x < 100 → number_of (two x) ≡ Some x
unfolding number_of says all worth
two_back x h =
    let e : (0 * 10 + (digit (x / 10) - 48)) * 10 + (digit x - 48) ≡ x = omega arith in
    rw (digit_is (x / 10), digit_is x, e) (held_small x (omega arith))

three_back : (x : ℕ) → x < 1000 → number_of (three x) ≡ Some x
unfolding number_of says all worth
three_back x h =
    let e : ((0 * 10 + (digit (x / 100) - 48)) * 10 + (digit (x / 10) - 48)) * 10 + (digit x - 48) ≡ x = omega arith in
    rw (digit_is (x / 100), digit_is (x / 10), digit_is x, e) (held_small x (omega arith))

module _ (mark x : ℕ) where
  -- a field of two digits, and one of three, behind the mark
  pub field_two : (t : List ℕ) → length t ≡ 3 → field_in mark t ≡ Some x → t ≡ mark ∷ two x
  unfolding field_in
  field_two [] l h = absurd (omega arith)
  field_two (c ∷ t) l h = go (eqb c mark) refl h
    where
      go : (b : Bool) → eqb c mark ≡ b → cond b (number_of t) None ≡ Some x → c ∷ t ≡ mark ∷ two x
      go true e h = rw (eqb-true c mark e) (ap (λ (r : List ℕ). mark ∷ r) (two_are t x (omega arith) h))
      go false e h = let z : ◌≡◌ {A = ℕ} 0 1 = cc in absurd (omega arith)

  pub field_three : (t : List ℕ) → length t ≡ 4 → field_in mark t ≡ Some x → t ≡ mark ∷ three x
  unfolding field_in
  field_three [] l h = absurd (omega arith)
  field_three (c ∷ t) l h = go (eqb c mark) refl h
    where
      go : (b : Bool) → eqb c mark ≡ b → cond b (number_of t) None ≡ Some x → c ∷ t ≡ mark ∷ three x
      go true e h = rw (eqb-true c mark e) (ap (λ (r : List ℕ). mark ∷ r) (three_are t x (omega arith) h))
      go false e h = let z : ◌≡◌ {A = ℕ} 0 1 = cc in absurd (omega arith)

  pub two_said : x < 100 → field_in mark (mark ∷ two x) ≡ Some x
  unfolding field_in
  two_said h = rw (eq-eqb mark mark refl) (two_back x h)

  pub three_said : x < 1000 → field_in mark (mark ∷ three x) ≡ Some x
  unfolding field_in
  three_said h = rw (eq-eqb mark mark refl) (three_back x h)

-- What a count with a field behind it is.
pub record WithField (limit : ℕ) (a b : Option ℕ) (n : ℕ) : Type 0 where
  pub count : ℕ
  pub field : ℕ
  pub counted : a ≡ Some count
  pub said : b ≡ Some field
  pub below : field < limit
  pub total : n ≡ count * limit + field
  pub small : n ≤ largest_stamp

pub with_field_is : (limit : ℕ) (a b : Option ℕ) (n : ℕ) → with_field limit a b ≡ Some n → WithField limit a b n
unfolding with_field
with_field_is limit None b n h = let z : ◌≡◌ {A = ℕ} 0 1 = cc in absurd (omega arith)
with_field_is limit (Some v) None n h = let z : ◌≡◌ {A = ℕ} 0 1 = cc in absurd (omega arith)
with_field_is limit (Some v) (Some x) n h = go (ltb x limit) refl (ltb largest_stamp (v * limit + x)) refl h
  where
    go : (b : Bool) → ltb x limit ≡ b → (l : Bool) → ltb largest_stamp (v * limit + x) ≡ l → cond b (cond l None (Some (v * limit + x))) None ≡ Some n
        → WithField limit (Some v) (Some x) n
    go false e l g h = let z : ◌≡◌ {A = ℕ} 0 1 = cc in absurd (omega arith)
    go true e true g h = let z : ◌≡◌ {A = ℕ} 0 1 = cc in absurd (omega arith)
    go true e false g h =
        let t : n ≡ v * limit + x = cc in
        record {
          count = v;
          field = x;
          counted = refl;
          said = refl;
          below = ltb-true x limit e;
          total = t;
          small = omega (arith, t, ltb-false largest_stamp (v * limit + x) g);
        }

pub with_field_back : (limit v x n : ℕ) → x < limit → v * limit + x ≡ n → n ≤ largest_stamp → with_field limit (Some v) (Some x) ≡ Some n
unfolding with_field
with_field_back limit v x n h e l = rw (e, lt-ltb x limit h, le-ltb largest_stamp n l)
