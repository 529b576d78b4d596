-- A text says a stamp if and only if it is the stamp's clock text.
-- Assumes nothing.
use Prim.Native.Nat.{ℕ, ◌+◌, ◌-◌, ◌*◌, ◌/◌, ◌%◌, ◌≤◌, ◌<◌}
use mathlib.Core.Path.{◌≡◌, refl, sym, ap, ◌∙◌}
use mathlib.Core.List.{List, ◌∷◌, ◌++◌}
use native.Mathlib.Omega.{arith}
use lib.ListN.{length, take, drop, length-append, take-append-drop, length-take, length-drop}
use lib.Seq.{take_all, take_at, drop-drop, drop-append-add, length-take-le}
use Rattle.history.specs.Table.{largest_stamp}
use Rattle.text.specs.Decimal.{decimal}
use Rattle.text.proofs.Digits.{decimal_length}
use Rattle.std.specs.Prelude.{Option, Some}
use Rattle.clock.specs.Clock.{colon, point, two, three, time_of, clock_of, days_in, field_in, slice, said_at, clock_in, SaysExactly}
use Rattle.clock.proofs.Days.{days_are, days_back}
use Rattle.clock.proofs.Fields.{field_two, field_three, two_said, three_said, with_field_is, with_field_back}

-- the bytes from i on are w of them and the bytes behind those
cut : (t : List ℕ) (i w j : ℕ) → i + w ≡ j → drop i t ≡ slice i w t ++ drop j t
cut t i w j e = sym (take-append-drop w (drop i t)) ∙ ap (λ (r : List ℕ). slice i w t ++ r) (drop-drop w i t ∙ ap (λ (k : ℕ). drop k t) e)

-- a text is its days, its three fields of three bytes and its field of four
parts : (t : List ℕ) (n : ℕ) → length t ≡ n + 13
    → t ≡ take n t ++ (slice n 3 t ++ (slice (n + 3) 3 t ++ (slice (n + 6) 3 t ++ slice (n + 9) 4 t)))
parts t n l =
    let a = cut t n 3 (n + 3) refl in
    let b = cut t (n + 3) 3 (n + 6) (omega arith) in
    let c = cut t (n + 6) 3 (n + 9) (omega arith) in
    let d : slice (n + 9) 4 t ≡ drop (n + 9) t = take_all 4 (drop (n + 9) t) (omega (arith, length-drop (n + 9) t)) in
    sym (take-append-drop n t)
    ∙ ap (λ (r : List ℕ). take n t ++ r)
    (a
    ∙ ap (λ (r : List ℕ). slice n 3 t ++ r)
    (b ∙ ap (λ (r : List ℕ). slice (n + 3) 3 t ++ r) (c ∙ ap (λ (r : List ℕ). slice (n + 6) 3 t ++ r) (sym d))))

slice_length : (t : List ℕ) (i w : ℕ) → i + w ≤ length t → length (slice i w t) ≡ w
slice_length t i w h = length-take-le w (drop i t) (omega (arith, length-drop i t))

-- the fields of a stamp
module _ (s d h m c u : ℕ) (e : s ≡ (((d * 24 + h) * 60 + m) * 60 + c) * 1000 + u) (hs : h < 24) (ms : m < 60) (cs : c < 60) (us : u < 1000) where
  joined : (p q r v w : List ℕ) → p ≡ decimal d → q ≡ colon ∷ two h → r ≡ colon ∷ two m → v ≡ colon ∷ two c → w ≡ point ∷ three u
      → p ++ (q ++ (r ++ (v ++ w))) ≡ clock_of s
  unfolding clock_of
  joined p q r v w ep eq er ev ew =
      let days : s / 86400000 ≡ d = omega (arith, e) in
      let hours : s / 3600000 % 24 ≡ h = omega (arith, e) in
      let minutes : s / 60000 % 60 ≡ m = omega (arith, e) in
      let seconds : s / 1000 % 60 ≡ c = omega (arith, e) in
      let rest : s % 1000 ≡ u = omega (arith, e) in
      rw (ep, eq, er, ev, ew, days, hours, minutes, seconds, rest)

-- What a text says is the stamp of which it is the clock text.
module _ (t : List ℕ) (s : ℕ) where
  said_are : (n : ℕ) → said_at n t ≡ Some s → length t ≡ n + 13 → (s ≤ largest_stamp) × (t ≡ clock_of s)
  unfolding said_at
  said_are n h l =
      let m = with_field_is 1000 _ (field_in point (slice (n + 9) 4 t)) s h in
      let c = with_field_is 60 _ (field_in colon (slice (n + 6) 3 t)) m.count m.counted in
      let b = with_field_is 60 _ (field_in colon (slice (n + 3) 3 t)) c.count c.counted in
      let a = with_field_is 24 (days_in (take n t)) (field_in colon (slice n 3 t)) b.count b.counted in (
        m.small,
        parts t n l
            ∙ joined s a.count a.field b.field c.field m.field (omega (arith, m.total, c.total, b.total, a.total)) a.below b.below c.below m.below
            (take n t) (slice n 3 t) (slice (n + 3) 3 t) (slice (n + 6) 3 t) (slice (n + 9) 4 t)
            (days_are (take n t) a.count a.counted).0
            (field_two colon a.field (slice n 3 t) (slice_length t n 3 (omega (arith, l))) a.said)
            (field_two colon b.field (slice (n + 3) 3 t) (slice_length t (n + 3) 3 (omega (arith, l))) b.said)
            (field_two colon c.field (slice (n + 6) 3 t) (slice_length t (n + 6) 3 (omega (arith, l))) c.said)
            (field_three point m.field (slice (n + 9) 4 t) (slice_length t (n + 9) 4 (omega (arith, l))) m.said),
      )

  -- a text too short for the fields has no days
  days_long : (n d : ℕ) → days_in (take n t) ≡ Some d → 1 ≤ n
  days_long n d h = omega (arith, (decimal_length d).0, ap length (days_are (take n t) d h).0, length-take n t)

  said_long : said_at (length t - 13) t ≡ Some s → 13 ≤ length t
  unfolding said_at
  said_long h =
      let n = length t - 13 in
      let m = with_field_is 1000 _ (field_in point (slice (n + 9) 4 t)) s h in
      let c = with_field_is 60 _ (field_in colon (slice (n + 6) 3 t)) m.count m.counted in
      let b = with_field_is 60 _ (field_in colon (slice (n + 3) 3 t)) c.count c.counted in
      let a = with_field_is 24 (days_in (take n t)) (field_in colon (slice n 3 t)) b.count b.counted in
      omega (arith, days_long n a.count a.counted)

  clock_are : clock_in t ≡ Some s → (s ≤ largest_stamp) × (t ≡ clock_of s)
  unfolding clock_in
  clock_are h = said_are (length t - 13) h (omega (arith, said_long h))

-- a stamp's clock text says it
pub clock_length : (s : ℕ) → length (clock_of s) ≡ length (decimal (s / 86400000)) + 13
unfolding clock_of
clock_length s = length-append (decimal (s / 86400000)) (time_of s)

module _ (s : ℕ) (small : s ≤ largest_stamp) where
  text_said : (d r : List ℕ) → d ≡ decimal (s / 86400000) → r ≡ time_of s → said_at (length d) (d ++ r) ≡ Some s
  unfolding said_at
  text_said d r ed er =
      let days = days_back (s / 86400000) (omega arith) in
      let hours = two_said colon (s / 3600000 % 24) (omega arith) in
      let minutes = two_said colon (s / 60000 % 60) (omega arith) in
      let seconds = two_said colon (s / 1000 % 60) (omega arith) in
      let rest = three_said point (s % 1000) (omega arith) in
      let in-hours = with_field_back 24 (s / 86400000) (s / 3600000 % 24) (s / 3600000) (omega arith) (omega arith) (omega arith) in
      let in-minutes = with_field_back 60 (s / 3600000) (s / 60000 % 60) (s / 60000) (omega arith) (omega arith) (omega arith) in
      let in-seconds = with_field_back 60 (s / 60000) (s / 1000 % 60) (s / 1000) (omega arith) (omega arith) (omega arith) in
      rw (take_at d r (length d) refl, at 0 (length d) (omega arith), drop-append-add d r 3, drop-append-add d r 6, drop-append-add d r 9, ed, er)
      (rw (days, hours, minutes, seconds, rest)
      (rw (in-hours, in-minutes, in-seconds) (with_field_back 1000 (s / 1000) (s % 1000) s (omega arith) (omega arith) small)))
    where
      at : (k n : ℕ) → length d + k ≡ n → drop n (d ++ r) ≡ drop k r
      at k n e = ap (λ (j : ℕ). drop j (d ++ r)) (sym e) ∙ drop-append-add d r k

  clock_back : clock_in (clock_of s) ≡ Some s
  unfolding clock_in clock_of
  clock_back =
      let e : length (decimal (s / 86400000) ++ time_of s) - 13 ≡ length (decimal (s / 86400000)) = omega (arith, length-append (decimal (s / 86400000)) (time_of s)) in
      rw e (text_said (decimal (s / 86400000)) (time_of s) refl refl)

-- A text says a stamp if and only if the stamp is at most the largest one and the text is its clock text (02, W-205).
pub clock_exactly : (t : List ℕ) → SaysExactly t (clock_in t)
clock_exactly t s = (clock_are t s, λ h. ap clock_in h.1 ∙ clock_back s h.0)

-- The same of what a call read.
pub read_exactly : (t : List ℕ) (r : Option ℕ) → r ≡ clock_in t → (r ≡ clock_in t) × SaysExactly t r
read_exactly t r e = (e, rw e (clock_exactly t))
