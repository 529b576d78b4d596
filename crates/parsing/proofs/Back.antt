-- What is printed is read back: a number, and numbers one a line.
-- Assumes nothing.
use Prim.Native.Nat.{ℕ, zero, suc, ◌+◌, ◌-◌, ◌*◌, ◌/◌, ◌^◌, ◌<◌}
use mathlib.Core.Path.{◌≡◌, refl, ap, ◌∙◌}
use mathlib.Core.Bool.{Bool, true, false, cond}
use mathlib.Core.List.Memᴰ.{head as here}
use mathlib.Core.List.Memᴰ.{tail as there}
use mathlib.Core.List.{List, [], ◌∷◌, ◌++◌, append_assoc, append-nil, Memᴰ as In}
use native.Mathlib.Nat.{pow-suc}
use native.Mathlib.Omega.{arith}
use lib.Dec.{eqb, ltb, leb}
use lib.ListN.{length, take, length-append}
use lib.Seq.{drop-append-add}
use borrow.Author.Tests.{ltb-true, ltb-false, le-ltb, le-leb, ne_eqb}
use Rattle.lists.specs.Lists.{all}
use Rattle.text.specs.Decimal.{digit, digits, decimal, behind, joined, line, lines_of}
use Rattle.parsing.specs.Numbers.{is_digit, worth, says, number_in, front, after, is_number, before, sound, leading, lines_in, numbers}
use Rattle.std.specs.Prelude.{Some}
use Rattle.text.proofs.Digits.{decimal_length}
use Rattle.parsing.proofs.Values.{held_small, number_sized}
use Rattle.parsing.proofs.Lines.{sound_some, leading_some, lines_good}

worth_snoc : (v : ℕ) (t : List ℕ) (c : ℕ) → worth v (t ++ (c ∷ [])) ≡ worth v t * 10 + (c - 48)
unfolding worth
worth_snoc v [] c = refl
worth_snoc v (b ∷ t) c = worth_snoc (v * 10 + (b - 48)) t c

pub digit_is : (n : ℕ) → is_digit (digit n) ≡ true
unfolding is_digit
digit_is n = rw (le-ltb (digit n) 48 (omega arith), le-leb (digit n) 57 (omega arith))

all_snoc : (t : List ℕ) (c : ℕ) → all is_digit t ≡ true → is_digit c ≡ true → all is_digit (t ++ (c ∷ [])) ≡ true
unfolding all
all_snoc [] c h e = rw e
all_snoc (b ∷ t) c h e = go (is_digit b) h (all_snoc t c)
  where
    go : (d : Bool) → cond d (all is_digit t) false ≡ true → (all is_digit t ≡ true → is_digit c ≡ true → all is_digit (t ++ (c ∷ [])) ≡ true)
        → cond d (all is_digit (t ++ (c ∷ []))) false ≡ true
    go true h next = next h e
    go false h next = h

pub digits_digits : (f n : ℕ) → all is_digit (digits f n) ≡ true
unfolding digits all
digits_digits zero n = refl
digits_digits (suc f) n = go (ltb n 10) (digits_digits f (n / 10))
  where
    go : (b : Bool) → all is_digit (digits f (n / 10)) ≡ true → all is_digit (cond b (digit n ∷ []) (digits f (n / 10) ++ (digit n ∷ []))) ≡ true
    go true h = rw (digit_is n)
    go false h = all_snoc (digits f (n / 10)) (digit n) h (digit_is n)

digits_worth : (f n : ℕ) → n < 10 ^ f → worth 0 (digits f n) ≡ n
unfolding digits worth
digits_worth zero n h = omega arith
digits_worth (suc f) n h = go (ltb n 10) refl (digits_worth f (n / 10))
  where
    go : (b : Bool) → ltb n 10 ≡ b → (n / 10 < 10 ^ f → worth 0 (digits f (n / 10)) ≡ n / 10)
        → worth 0 (cond b (digit n ∷ []) (digits f (n / 10) ++ (digit n ∷ []))) ≡ n
    go true e next = omega (arith, ltb-true n 10 e)
    go false e next =
        worth_snoc 0 (digits f (n / 10)) (digit n) ∙ omega (arith, next (omega (arith, pow-suc 10 f)))

-- A number of 64 bits is read back from its decimal digits.
pub decimal_number : (n : ℕ) → n < 2 ^ 64 → number_in (decimal n) ≡ Some n
unfolding decimal says
decimal_number n h =
    let l = decimal_length n in
    number_sized (decimal n) l.0 l.1 ∙ rw (digits_digits 20 n, digits_worth 20 n (omega arith)) (held_small n h)

-- digits before a line feed
module _ (r : List ℕ) where
  front_digits : (d : List ℕ) → all is_digit d ≡ true → front (d ++ (10 ∷ r)) ≡ d
  unfolding front all is_digit
  front_digits [] h = refl
  front_digits (c ∷ d) h = go (ltb c 48) refl h (front_digits d)
    where
      go : (b : Bool) → ltb c 48 ≡ b → cond (cond b false (leb c 57)) (all is_digit d) false ≡ true → (all is_digit d ≡ true → front (d ++ (10 ∷ r)) ≡ d)
          → cond (eqb c 10) [] (c ∷ front (d ++ (10 ∷ r))) ≡ c ∷ d
      go true e h next = let z : ◌≡◌ {A = ℕ} 0 1 = cc in absurd (omega arith)
      go false e h next = rw (ne_eqb c 10 (λ q. omega (arith, ltb-false c 48 e))) (ap (λ (l : List ℕ). c ∷ l) (next (inner (leb c 57) h)))
        where
          inner : (b : Bool) → cond b (all is_digit d) false ≡ true → all is_digit d ≡ true
          inner true h = h
          inner false h = let z : ◌≡◌ {A = ℕ} 0 1 = cc in absurd (omega arith)

  module _ (x : ℕ) where
    front_decimal : front (decimal x ++ (10 ∷ r)) ≡ decimal x
    unfolding decimal
    front_decimal = front_digits (digits 20 x) (digits_digits 20 x)

    after_decimal : after (decimal x ++ (10 ∷ r)) ≡ r
    unfolding after
    after_decimal = rw front_decimal (drop-append-add (decimal x) (10 ∷ r) 1)

    some : 0 < length (decimal x ++ (10 ∷ r))
    some = omega (arith, length-append (decimal x) (10 ∷ r))

-- each number on a line of its own
lines_one : (x : ℕ) (l : List ℕ) → lines_of 1 (suc (length l)) (x ∷ l) ≡ decimal x ++ (10 ∷ lines_of 1 (length l) l)
unfolding lines_of line joined behind
lines_one x l = rw append-nil (append_assoc (decimal x) (10 ∷ []) (lines_of 1 (length l) l))

lines_sound : (k : ℕ) (l : List ℕ) → ((x : ℕ) → In x l → x < 2 ^ 64) → sound k (lines_of 1 (length l) l) ≡ true
unfolding sound lines_of is_number
lines_sound zero l h = refl
lines_sound (suc k) [] h = refl
lines_sound (suc k) (x ∷ l) h =
    let r = lines_of 1 (length l) l in
    rw (lines_one x l)
    (sound_some k (decimal x ++ (10 ∷ r)) (some r x)
    ∙ rw (front_decimal r x, decimal_number x (h x (here refl)), after_decimal r x) (lines_sound k l (λ y i. h y (there i))))

lines_leading : (k : ℕ) (l : List ℕ) → ((x : ℕ) → In x l → x < 2 ^ 64) → leading k (lines_of 1 (length l) l) ≡ take k l
unfolding leading lines_of before
lines_leading zero l h = refl
lines_leading (suc k) [] h = refl
lines_leading (suc k) (x ∷ l) h =
    let r = lines_of 1 (length l) l in
    rw (lines_one x l)
    (leading_some k (decimal x ++ (10 ∷ r)) (some r x)
    ∙ rw (front_decimal r x, decimal_number x (h x (here refl)), after_decimal r x) (ap (λ (t : List ℕ). x ∷ t) (lines_leading k l (λ y i. h y (there i)))))

-- Numbers of 64 bits, one a line, are read back: as many of them as there is room for.
pub lines_back : (k : ℕ) (l : List ℕ) → ((x : ℕ) → In x l → x < 2 ^ 64) → lines_in k (lines_of 1 (length l) l) ≡ numbers (take k l)
lines_back k l h = lines_good (lines_of 1 (length l) l) k (lines_sound k l h) ∙ ap numbers (lines_leading k l h)
