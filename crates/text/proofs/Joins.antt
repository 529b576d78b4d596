-- Lines of numbers: from the first number on, from the next number on, and how long they are.
-- Assumes nothing.
use Prim.Native.Nat.{ℕ, zero, suc, ◌+◌, ◌-◌, ◌*◌, ◌≤◌, ◌<◌}
use mathlib.Core.Path.{◌≡◌, refl, ap, sym}
use mathlib.Core.List.{List, [], ◌∷◌, ◌++◌, append_assoc}
use native.Mathlib.Numerals.{add-one}
use native.Mathlib.Nat.{suc-mul}
use native.Mathlib.Omega.{arith}
use lib.ListN.{length, get_or, take, drop, length-append, length-take, drop_of_length-le}
use lib.Seq.{drop-cons, drop-drop}
use Rattle.text.specs.Decimal.{decimal, behind, joined, line, lines_of}
use Rattle.text.proofs.Digits.{decimal_length}

-- what follows a line's first number, where l is left
abbrev pub rest : List ℕ → List ℕ
rest l = behind l ++ (10 ∷ [])

pub line_none : (l : List ℕ) → length l < 1 → line l ≡ 10 ∷ []
unfolding line joined
line_none [] h = refl
line_none (x ∷ l) h = absurd (omega arith)

pub line_some : (l : List ℕ) → 0 < length l → line l ≡ decimal (get_or l 0 0) ++ rest (drop 1 l)
unfolding line joined
line_some [] h = absurd (omega arith)
line_some (x ∷ l) h = append_assoc (decimal x) (behind l) (10 ∷ [])

pub rest_next : (l : List ℕ) (i : ℕ) → i < length l → rest (drop i l) ≡ (44 ∷ decimal (get_or l i 0)) ++ rest (drop (i + 1) l)
unfolding behind
rest_next l i h = rw (drop-cons l i 0 h, add-one i) (append_assoc (44 ∷ decimal (get_or l i 0)) (behind (drop (suc i) l)) (10 ∷ []))

pub rest_end : (l : List ℕ) (i : ℕ) → length l ≤ i → rest (drop i l) ≡ 10 ∷ []
unfolding behind
rest_end l i h = rw (drop_of_length-le l h)

pub behind_length : (l : List ℕ) (i : ℕ) → i < length l → length (behind (drop i l)) ≡ 1 + length (decimal (get_or l i 0)) + length (behind (drop (i + 1) l))
unfolding behind
behind_length l i h = rw (drop-cons l i 0 h, add-one i) (omega (arith, length-append (decimal (get_or l i 0)) (behind (drop (suc i) l))))

pub behind_end : (l : List ℕ) (i : ℕ) → length l ≤ i → length (behind (drop i l)) ≡ 0
unfolding behind
behind_end l i h = rw (drop_of_length-le l h)

pub line_behind : (l : List ℕ) → 0 < length l → length (line l) ≡ length (behind l)
unfolding line joined behind
line_behind [] h = absurd (omega arith)
line_behind (x ∷ l) h = omega (arith, length-append (decimal x ++ behind l) (10 ∷ []))

behind_bound : (l : List ℕ) → length (behind l) ≤ 21 * length l
unfolding behind
behind_bound [] = omega arith
behind_bound (x ∷ l) = omega (arith, length-append (decimal x) (behind l), decimal_length x, behind_bound l)

-- A line has at most twenty-one bytes for each number, and one where it has none.
pub line_length : (l : List ℕ) → length (line l) ≤ 21 * length l + 1
line_length [] = omega (arith, ap length (line_none [] (omega arith)))
line_length (x ∷ l) = omega (arith, line_behind (x ∷ l) (omega arith), behind_bound (x ∷ l))

-- The same of several lines.
pub lines_length : (w k : ℕ) (l : List ℕ) → length (lines_of w k l) ≤ k * (21 * w + 1)
unfolding lines_of
lines_length w zero l = omega arith
lines_length w (suc k) l =
    omega (arith, suc-mul k (21 * w + 1), length-append (line (take w l)) (lines_of w k (drop w l)), line_length (take w l), length-take w l, lines_length w k (drop w l))

-- a loop that prints k lines, of which i are printed
module _ (w k i : ℕ) (l : List ℕ) where
  pub lines_next : i < k
      → lines_of w (k - i) (drop (i * w) l) ≡ line (take w (drop (i * w) l)) ++ lines_of w (k - (i + 1)) (drop ((i + 1) * w) l)
  unfolding lines_of
  lines_next h =
      let e : k - i ≡ suc (k - (i + 1)) = omega arith in
      let m : i * w + w ≡ (i + 1) * w = rw add-one (sym (suc-mul i w)) in
      rw (e, drop-drop w (i * w) l, m)

  pub lines_end : k ≤ i → lines_of w (k - i) (drop (i * w) l) ≡ []
  unfolding lines_of
  lines_end h = let e : k - i ≡ 0 = omega arith in rw e
