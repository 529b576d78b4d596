-- Days: a text without leading zeros says a number if and only if it is the number's decimal digits.
-- Assumes nothing.
use Prim.Native.Nat.{ℕ, zero, suc, ◌+◌, ◌-◌, ◌*◌, ◌/◌, ◌^◌, ◌≤◌, ◌<◌}
use mathlib.Core.Path.{◌≡◌, refl, sym, ap, ◌∙◌}
use mathlib.Core.Bool.{Bool, true, false, cond}
use mathlib.Core.List.{List, [], ◌∷◌, ◌++◌, append_assoc, append-nil}
use native.Mathlib.Nat.{pow-suc}
use native.Mathlib.Omega.{arith}
use lib.Dec.{ltb, leb}
use lib.ListN.{length}
use borrow.Author.Tests.{ltb-true, ltb-false, leb-true, ne_eqb, eqb-false}
use Rattle.lists.specs.Lists.{all}
use Rattle.text.specs.Decimal.{digit, digits, decimal}
use Rattle.text.proofs.Digits.{digits_last, digits_more}
use Rattle.std.specs.Prelude.{Some, None}
use Rattle.parsing.specs.Numbers.{is_digit, worth, held, says, number_of, number_in}
use Rattle.parsing.proofs.Back.{decimal_number}
use Rattle.clock.specs.Clock.{leading_zero, days_in}

digit_bounds : (c : ℕ) → is_digit c ≡ true → (48 ≤ c) × (c ≤ 57)
unfolding is_digit
digit_bounds c h = go (ltb c 48) refl h
  where
    go : (b : Bool) → ltb c 48 ≡ b → cond b false (leb c 57) ≡ true → (48 ≤ c) × (c ≤ 57)
    go true e h = let z : ◌≡◌ {A = ℕ} 0 1 = cc in absurd (omega arith)
    go false e h = (ltb-false c 48 e, leb-true c 57 h)

-- the first of some digits, and the rest
pub digits_both : (c : ℕ) (t : List ℕ) → all is_digit (c ∷ t) ≡ true → (48 ≤ c) × (c ≤ 57) × (all is_digit t ≡ true)
unfolding all
digits_both c t h = go (is_digit c) refl h
  where
    go : (b : Bool) → is_digit c ≡ b → cond b (all is_digit t) false ≡ true → (48 ≤ c) × (c ≤ 57) × (all is_digit t ≡ true)
    go true e h = let d = digit_bounds c e in (d.0, d.1, h)
    go false e h = let z : ◌≡◌ {A = ℕ} 0 1 = cc in absurd (omega arith)

-- What a text that is a number is.
pub record Digits (t : List ℕ) (n : ℕ) : Type 0 where
  pub some : 1 ≤ length t
  pub each : all is_digit t ≡ true
  pub value : worth 0 t ≡ n
  pub fits : n < 2 ^ 64

pub number_is : (t : List ℕ) (n : ℕ) → number_of t ≡ Some n → Digits t n
unfolding number_of says held
number_is t n h = go (ltb (length t) 1) refl (all is_digit t) refl (ltb (worth 0 t) (2 ^ 64)) refl h
  where
    go : (b : Bool) → ltb (length t) 1 ≡ b → (d : Bool) → all is_digit t ≡ d → (f : Bool) → ltb (worth 0 t) (2 ^ 64) ≡ f
        → cond b None (cond d (cond f (Some (worth 0 t)) None) None) ≡ Some n → Digits t n
    go true e d g f i h = let z : ◌≡◌ {A = ℕ} 0 1 = cc in absurd (omega arith)
    go false e false g f i h = let z : ◌≡◌ {A = ℕ} 0 1 = cc in absurd (omega arith)
    go false e true g false i h = let z : ◌≡◌ {A = ℕ} 0 1 = cc in absurd (omega arith)
    go false e true g true i h =
        let v : worth 0 t ≡ n = cc in
        record { some = ltb-false (length t) 1 e; each = g; value = v; fits = omega (arith, v, ltb-true (worth 0 t) (2 ^ 64) i) }

-- digits behind a number above 0 are the last of its decimal digits
digits_of : (t : List ℕ) (v f : ℕ) → 0 < v → all is_digit t ≡ true → length t ≤ f → digits f (worth v t) ≡ digits (f - length t) v ++ t
unfolding worth
digits_of [] v f p h l = let e : f - 0 ≡ f = omega arith in rw e (sym (append-nil (digits f v)))
digits_of (c ∷ t) v f p h l =
    let d = digits_both c t h in
    let w = v * 10 + (c - 48) in
    let a : w / 10 ≡ v = omega (arith, d.0, d.1) in
    let b : digit w ≡ c = omega (arith, d.0, d.1) in
    let g : f - length t - 1 ≡ f - suc (length t) = omega arith in
    digits_of t w f (omega arith) d.2 (omega arith)
    ∙ ap (λ (l : List ℕ). l ++ t) (digits_more (f - length t) w (omega arith) (omega arith))
    ∙ rw (a, b, g) (append_assoc (digits (f - suc (length t)) v) (c ∷ []) t)

-- a text without leading zeros is the decimal digits of what it is worth
digits_canonical : (t : List ℕ) (n : ℕ) → leading_zero t ≡ false → Digits t n → length t ≤ 20 → t ≡ decimal n
unfolding leading_zero decimal worth
digits_canonical [] n z d l = absurd (omega (arith, d.some))
digits_canonical (c ∷ []) n z d l =
    let b = digits_both c [] d.each in
    let e : digit n ≡ c = omega (arith, d.value, b.0, b.1) in
    sym (digits_last 20 n (omega arith) (omega (arith, d.value, b.0, b.1)) ∙ ap (λ (x : ℕ). x ∷ []) e)
digits_canonical (c ∷ x ∷ t) n z d l =
    let b = digits_both c (x ∷ t) d.each in
    let q = eqb-false c 48 z in
    let m : 49 ≤ c = below c b.0 q in
    let f : digits (20 - length (x ∷ t)) (c - 48) ≡ digit (c - 48) ∷ [] = digits_last (20 - length (x ∷ t)) (c - 48) (omega arith) (omega (arith, b.1)) in
    let e : digit (c - 48) ≡ c = omega (arith, b.0, b.1) in
    let u : 0 * 10 + (c - 48) ≡ c - 48 = omega arith in
    sym
    (ap (digits 20) (sym d.value)
    ∙ ap (λ (k : ℕ). digits 20 (worth k (x ∷ t))) u
    ∙ digits_of (x ∷ t) (c - 48) 20 (omega arith) b.2 (omega arith) ∙ rw (f, e))
  where
    below : (c : ℕ) → 48 ≤ c → (c ≡ 48 → ⊥) → 49 ≤ c
    below c h q = omega arith

-- the first digit is not 0
abbrev Over : List ℕ → Type 0
Over [] = ⊥
Over (c ∷ t) = 48 < c

over_append : (l r : List ℕ) → Over l → Over (l ++ r)
over_append [] r h = absurd h
over_append (c ∷ l) r h = h

over_leads : (l : List ℕ) → Over l → leading_zero l ≡ false
unfolding leading_zero
over_leads [] h = refl
over_leads (c ∷ []) h = refl
over_leads (c ∷ d ∷ t) h = ne_eqb c 48 (λ e. omega arith)

digits_over : (f n : ℕ) → 0 < n → n < 10 ^ f → Over (digits f n)
unfolding digits
digits_over zero n p h = absurd (omega arith)
digits_over (suc f) n p h = go (ltb n 10) refl (digits_over f (n / 10))
  where
    go : (b : Bool) → ltb n 10 ≡ b → (0 < n / 10 → n / 10 < 10 ^ f → Over (digits f (n / 10)))
        → Over (cond b (digit n ∷ []) (digits f (n / 10) ++ (digit n ∷ [])))
    go true e next = omega (arith, ltb-true n 10 e)
    go false e next =
        over_append (digits f (n / 10)) (digit n ∷ []) (next (omega (arith, ltb-false n 10 e)) (omega (arith, pow-suc 10 f)))

decimal_leads : (n : ℕ) → n < 2 ^ 64 → leading_zero (decimal n) ≡ false
unfolding decimal leading_zero
decimal_leads zero h = rw (digits_last 20 0 (omega arith) (omega arith)) refl
decimal_leads (suc n) h = over_leads (digits 20 (suc n)) (digits_over 20 (suc n) (omega arith) (omega arith))

-- Days are the decimal digits of a number of 64 bits.
pub days_are : (t : List ℕ) (n : ℕ) → days_in t ≡ Some n → (t ≡ decimal n) × (n < 2 ^ 64)
unfolding days_in number_in
days_are t n h = go (leading_zero t) refl (ltb 20 (length t)) refl h
  where
    go : (b : Bool) → leading_zero t ≡ b → (l : Bool) → ltb 20 (length t) ≡ l → cond b None (cond l None (number_of t)) ≡ Some n → (t ≡ decimal n) × (n < 2 ^ 64)
    go true z l e h = let z : ◌≡◌ {A = ℕ} 0 1 = cc in absurd (omega arith)
    go false z true e h = let z : ◌≡◌ {A = ℕ} 0 1 = cc in absurd (omega arith)
    go false z false e h = let d = number_is t n h in (digits_canonical t n z d (ltb-false 20 (length t) e), d.fits)

pub days_back : (n : ℕ) → n < 2 ^ 64 → days_in (decimal n) ≡ Some n
unfolding days_in
days_back n h = rw (decimal_leads n h) (decimal_number n h)
