-- The lines of a text, one by one: where a line ends, and what the lines from there on hold.
-- Assumes nothing.
use Prim.Native.Nat.{ℕ, zero, suc, ◌+◌, ◌-◌, ◌≤◌, ◌<◌}
use mathlib.Core.Path.{◌≡◌, refl, ap, sym, ◌∙◌}
use mathlib.Core.Bool.{Bool, true, false, cond}
use mathlib.Core.List.{List, [], ◌∷◌}
use native.Mathlib.Omega.{arith}
use lib.Dec.{eqb, ltb}
use lib.ListN.{length, take, drop, length-drop, drop_of_length-le}
use lib.Seq.{drop-drop}
use borrow.Author.Tests.{ltb-false}
use Rattle.parsing.specs.Numbers.{number_in, front, after, is_number, before, sound, leading, lines_in, numbers, no_list}
use Rattle.std.specs.Prelude.{Option, Some, None, not, unwrap_or, ◌==◌}
use Rattle.std.specs.Option.{is_some}
use Rattle.std.specs.List.{position, position_or_len}
use Rattle.std.proofs.lemmas.List.{take_rest}

pub front_take : (t : List ℕ) → take (length (front t)) t ≡ front t
unfolding front
front_take [] = refl
front_take (c ∷ t) = go (eqb c 10) (front_take t)
  where
    go : (b : Bool) → take (length (front t)) t ≡ front t
        → take (length (cond b [] (c ∷ front t))) (c ∷ t) ≡ cond b [] (c ∷ front t)
    go true h = refl
    go false h = ap (λ (l : List ℕ). c ∷ l) h

pub front_length : (t : List ℕ) → length (front t) ≤ length t
unfolding front
front_length [] = omega arith
front_length (c ∷ t) = go (eqb c 10) (front_length t)
  where
    go : (b : Bool) → length (front t) ≤ length t → length (cond b [] (c ∷ front t)) ≤ suc (length t)
    go true h = omega arith
    go false h = omega arith

front_prefix : (t : List ℕ) → position_or_len (λ b. b == 10) t ≡ length (front t)
unfolding front
front_prefix [] = refl
front_prefix (c ∷ t) = go (eqb c 10) (front_prefix t)
  where
    go : (b : Bool) → position_or_len (λ b. b == 10) t ≡ length (front t)
        → cond (not b) (1 + position_or_len (λ b. b == 10) t) 0 ≡ length (cond b [] (c ∷ front t))
    go true h = refl
    go false h = omega arith

-- The line is as long as what a search for its line feed passes.
pub front_position : (t : List ℕ) → unwrap_or (position (λ b. b == 10) t) (length t) ≡ length (front t)
front_position t = go (position_or_len (λ b. b == 10) t) (front_prefix t)
  where
    go : (n : ℕ) → n ≡ length (front t) → unwrap_or (cond (ltb n (length t)) (Some n) None) (length t) ≡ length (front t)
    go n e = tell (ltb n (length t)) refl
      where
        tell : (b : Bool) → ltb n (length t) ≡ b → unwrap_or (cond b (Some n) None) (length t) ≡ length (front t)
        tell true h = e
        tell false h = omega (arith, e, front_length t, ltb-false n (length t) h)

pub sound_some : (k : ℕ) (t : List ℕ) → 0 < length t → sound (suc k) t ≡ cond (is_number (number_in (front t))) (sound k (after t)) false
unfolding sound
sound_some k [] h = absurd (omega arith)
sound_some k (c ∷ t) h = refl

pub leading_some : (k : ℕ) (t : List ℕ) → 0 < length t → leading (suc k) t ≡ before (number_in (front t)) (leading k (after t))
unfolding leading
leading_some k [] h = absurd (omega arith)
leading_some k (c ∷ t) h = refl

-- the numbers are at most as many as the lines
pub leading_length : (k : ℕ) (t : List ℕ) → length (leading k t) ≤ k
unfolding leading before
leading_length zero t = omega arith
leading_length (suc k) [] = omega arith
leading_length (suc k) (c ∷ t) = go (number_in (front (c ∷ t))) (leading_length k (after (c ∷ t)))
  where
    go : (n : Option ℕ) → length (leading k (after (c ∷ t))) ≤ k → length (before n (leading k (after (c ∷ t)))) ≤ suc k
    go (Some x) h = omega arith
    go None h = omega arith

number_some : (n : Option ℕ) → is_number n ≡ is_some n
unfolding is_number
number_some (Some x) = refl
number_some None = refl

-- k lines are allowed, and n of them are passed
module _ (text : List ℕ) (k n at : ℕ) where
  pub sound_full : k ≤ n → sound (k - n) (drop at text) ≡ true
  unfolding sound
  sound_full h = let e : k - n ≡ 0 = omega arith in rw e

  pub leading_full : k ≤ n → leading (k - n) (drop at text) ≡ []
  unfolding leading
  leading_full h = let e : k - n ≡ 0 = omega arith in rw e

  module _ (less : n < k) where
    one : k - n ≡ suc (k - (n + 1))
    one = omega arith

    pub sound_done : length text ≤ at → sound (k - n) (drop at text) ≡ true
    unfolding sound
    sound_done h = rw (drop_of_length-le text h, one)

    pub leading_done : length text ≤ at → leading (k - n) (drop at text) ≡ []
    unfolding leading
    leading_done h = rw (drop_of_length-le text h, one)

    -- the line that starts here, and where it ends
    module _ (inside : at < length text) (end : ℕ) (ends : end ≡ at + length (front (take (length text - at) (drop at text)))) where
      ends' : end ≡ at + length (front (drop at text))
      ends' = ends ∙ ap (λ (t : List ℕ). at + length (front t)) (take_rest text at)

      some : 0 < length (drop at text)
      some = omega (arith, length-drop at text)

      pub end_within : end ≤ length text
      end_within = omega (arith, ends', length-drop at text, front_length (drop at text))

      here : take (end - at) (drop at text) ≡ front (drop at text)
      here = let e : end - at ≡ length (front (drop at text)) = omega (arith, ends') in rw e (front_take (drop at text))

      behind : after (drop at text) ≡ drop (end + 1) text
      unfolding after
      behind =
          let e : at + (length (front (drop at text)) + 1) ≡ end + 1 = omega (arith, ends') in
          drop-drop (length (front (drop at text)) + 1) at text ∙ rw e

      module _ (number : Option ℕ) (reads : number ≡ number_in (take (end - at) (drop at text))) where
        said : number_in (front (drop at text)) ≡ number
        said = sym (reads ∙ ap number_in here)

        pub sound_next : is_some number ≡ true → sound (k - n) (drop at text) ≡ sound (k - (n + 1)) (drop (end + 1) text)
        sound_next e = rw one (sound_some (k - (n + 1)) (drop at text) some ∙ rw (said, number_some number, e, behind))

        pub sound_not : is_some number ≡ false → sound (k - n) (drop at text) ≡ false
        sound_not e = rw one (sound_some (k - (n + 1)) (drop at text) some ∙ rw (said, number_some number, e))

        pub leading_next : (x : ℕ) → number ≡ Some x → leading (k - n) (drop at text) ≡ x ∷ leading (k - (n + 1)) (drop (end + 1) text)
        unfolding before
        leading_next x e = rw one (leading_some (k - (n + 1)) (drop at text) some ∙ rw (said, e, behind))

        pub leading_not : number ≡ None → leading (k - n) (drop at text) ≡ []
        unfolding before
        leading_not e = rw one (leading_some (k - (n + 1)) (drop at text) some ∙ rw (said, e))

module _ (text : List ℕ) (k : ℕ) where
  pub lines_good : sound k text ≡ true → lines_in k text ≡ numbers (leading k text)
  unfolding lines_in
  lines_good e = rw e

  pub lines_bad : sound k text ≡ false → lines_in k text ≡ no_list
  unfolding lines_in
  lines_bad e = rw e
