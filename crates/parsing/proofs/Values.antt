-- What bytes say as a number, one byte at a time: what the whole text says is what the bytes from here on say behind the value so far.
-- Assumes nothing.
use Prim.Native.Nat.{ℕ, suc, ◌+◌, ◌-◌, ◌*◌, ◌^◌, ◌≤◌, ◌<◌}
use mathlib.Core.Path.{◌≡◌, refl, ap, sym, ◌∙◌}
use mathlib.Core.Bool.{Bool, true, false, cond}
use mathlib.Core.List.{List, [], ◌∷◌}
use native.Mathlib.Numerals.{add-one}
use native.Mathlib.Omega.{arith}
use lib.Dec.{ltb}
use lib.ListN.{length, get_or, drop, drop_of_length-le}
use lib.Seq.{drop-cons}
use borrow.Author.Tests.{lt-ltb, le-ltb, lt-leb, le-leb, ltb-true, ltb-false}
use mathlib.Core.Logic.{◌⊎◌, inl, inr}
use Rattle.std.specs.Option.{SomeIff}
use Rattle.lists.specs.Lists.{all}
use Rattle.parsing.specs.Numbers.{is_digit, worth, held, says, number_of, number_in}
use Rattle.std.specs.Prelude.{Option, Some, None}

worth_grows : (v : ℕ) (t : List ℕ) → v ≤ worth v t
unfolding worth
worth_grows v [] = omega arith
worth_grows v (c ∷ t) = omega (arith, worth_grows (v * 10 + (c - 48)) t)

pub held_large : (v : ℕ) → 2 ^ 64 ≤ v → held v ≡ None
unfolding held
held_large v h = rw (le-ltb v (2 ^ 64) h)

pub held_small : (v : ℕ) → v < 2 ^ 64 → held v ≡ Some v
unfolding held
held_small v h = rw (lt-ltb v (2 ^ 64) h)

either : (b : Bool) (n : Option ℕ) → cond b n n ≡ n
either true n = refl
either false n = refl

module _ (v c : ℕ) where
  abbrev more : ℕ
  more = v * 10 + (c - 48)

  -- the byte is a digit, and the value with it fits
  pub says_next : (t : List ℕ) (w : ℕ) → says v (c ∷ []) ≡ Some w → says v (c ∷ t) ≡ says w t
  unfolding says all worth held
  says_next t w h = go (is_digit c) (ltb more (2 ^ 64)) h
    where
      go : (d b : Bool) → cond (cond d true false) (cond b (Some more) None) None ≡ Some w
          → cond (cond d (all is_digit t) false) (held (worth more t)) None ≡ cond (all is_digit t) (held (worth w t)) None
      go true true h = let e : more ≡ w = cc in ap (λ (u : ℕ). cond (all is_digit t) (held (worth u t)) None) e
      go true false h = let z : ◌≡◌ {A = ℕ} 0 1 = cc in absurd (omega arith)
      go false b h = let z : ◌≡◌ {A = ℕ} 0 1 = cc in absurd (omega arith)

  pub says_fits : (w : ℕ) → says v (c ∷ []) ≡ Some w → w < 2 ^ 64
  unfolding says all worth held
  says_fits w h = go (is_digit c) (ltb more (2 ^ 64)) refl h
    where
      go : (d b : Bool) → ltb more (2 ^ 64) ≡ b → cond (cond d true false) (cond b (Some more) None) None ≡ Some w → w < 2 ^ 64
      go true true e h = let q : more ≡ w = cc in omega (arith, ltb-true more (2 ^ 64) e)
      go true false e h = let z : ◌≡◌ {A = ℕ} 0 1 = cc in absurd (omega arith)
      go false b e h = let z : ◌≡◌ {A = ℕ} 0 1 = cc in absurd (omega arith)

  -- the byte is no digit, or the value with it is too large
  pub says_not : (t : List ℕ) → says v (c ∷ []) ≡ None → says v (c ∷ t) ≡ None
  unfolding says all worth held
  says_not t h = go (is_digit c) (ltb more (2 ^ 64)) refl h
    where
      go : (d b : Bool) → ltb more (2 ^ 64) ≡ b → cond (cond d true false) (cond b (Some more) None) None ≡ None
          → cond (cond d (all is_digit t) false) (held (worth more t)) None ≡ None
      go true true e h = let z : ◌≡◌ {A = ℕ} 0 1 = cc in absurd (omega arith)
      go true false e h =
          ap (λ (n : Option ℕ). cond (all is_digit t) n None) (held_large (worth more t) (omega (arith, ltb-false more (2 ^ 64) e, worth_grows more t)))
          ∙ either (all is_digit t) None
      go false b e h = refl

pub held_iff : (r : Option ℕ) (v : ℕ) → SomeIff r (v < 2 ^ 64) v → r ≡ held v
held_iff None v h = sym (held_large v (omega arith))
held_iff (Some x) v h = sym (held_small v h.0 ∙ ap Some (sym h.1))

module _ (v c : ℕ) where
  pub says_out : (c < 48) ⊎ (57 < c) → says v (c ∷ []) ≡ None
  unfolding says all is_digit
  says_out (inl h) = rw (lt-ltb c 48 h)
  says_out (inr h) = rw (le-ltb c 48 (omega arith), lt-leb c 57 h)

  pub says_in : 48 ≤ c → c ≤ 57 → says v (c ∷ []) ≡ held (v * 10 + (c - 48))
  unfolding says all is_digit worth
  says_in l h = rw (le-ltb c 48 l, le-leb c 57 h)

module _ (text : List ℕ) where
  pub number_empty : length text < 1 → number_of text ≡ None
  unfolding number_of
  number_empty h = rw (lt-ltb (length text) 1 h)

  pub number_some : 1 ≤ length text → number_of text ≡ says 0 text
  unfolding number_of
  number_some h = rw (le-ltb (length text) 1 h)

  pub number_long : 20 < length text → number_in text ≡ None
  unfolding number_in
  number_long h = rw (lt-ltb 20 (length text) h)

  pub number_short : length text ≤ 20 → number_in text ≡ number_of text
  unfolding number_in
  number_short l = rw (le-ltb 20 (length text) l)

  pub number_sized : 1 ≤ length text → length text ≤ 20 → number_in text ≡ says 0 text
  number_sized h l = number_short l ∙ number_some h

  -- the bytes from i on decide, behind a value
  pub record Reading (value i : ℕ) : Type 0 where
    pub small : value < 2 ^ 64
    pub whole : number_of text ≡ says value (drop i text)

  pub read_none : 1 ≤ length text → Reading 0 0
  read_none h = record { small = omega arith; whole = number_some h }

  module _ {value i : ℕ} (g : Reading value i) where
    pub read_more : (w : ℕ) → i < length text → says value (get_or text i 0 ∷ []) ≡ Some w → Reading w (i + 1)
    read_more w h e =
        record {
          small = says_fits value (get_or text i 0) w e;
          whole = g.whole ∙ rw (drop-cons text i 0 h, add-one i) (says_next value (get_or text i 0) (drop (suc i) text) w e);
        }

    pub read_other : i < length text → says value (get_or text i 0 ∷ []) ≡ None → number_of text ≡ None
    read_other h e = g.whole ∙ rw (drop-cons text i 0 h) (says_not value (get_or text i 0) (drop (suc i) text) e)

    pub read_end : length text ≤ i → number_of text ≡ Some value
    unfolding says all worth
    read_end h = g.whole ∙ rw (drop_of_length-le text h) (held_small value g.small)
