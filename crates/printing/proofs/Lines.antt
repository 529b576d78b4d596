-- The loops over lines of as many numbers each: how long they are, and their writing.
-- Assumes nothing.
use Prim.Native.Nat.{ℕ, ◌+◌, ◌-◌, ◌*◌, ◌≤◌, ◌<◌}
use mathlib.Core.Path.{◌≡◌, refl, sym, ap, ap₂, ◌∙◌}
use mathlib.Core.List.{List, [], ◌∷◌, ◌++◌, flat_map, append_assoc}
use native.Mathlib.Nat.{mul-le-mul_right}
use native.Mathlib.Omega.{arith}
use lib.ListN.{length, take, drop, length-append}
use lib.Seq.{sets, take_at, drop_at}
use Rattle.text.specs.Decimal.{line, lines_of}
use Rattle.text.proofs.Joins.{lines_length, lines_next, lines_end}
use Rattle.text.proofs.Putting.{Putting, put_more, put_end}

-- lines of w numbers each are those at the front of the list alone
pub lines_front : {A : Type 0} (f : A → List ℕ) (w : ℕ) → ((x : A) → length (f x) ≡ w) → (l : List A) (rest : List ℕ) → lines_of w (length l) (flat_map f l ++ rest) ≡ lines_of w (length l) (flat_map f l)
unfolding flat_map lines_of
lines_front f w wide [] rest = refl
lines_front f w wide (x ∷ l) rest =
    let a : f x ++ flat_map f l ++ rest ≡ f x ++ (flat_map f l ++ rest) = append_assoc (f x) (flat_map f l) rest in
    ap₂ (λ (y z : List ℕ). line y ++ lines_of w (length l) z) (ap (take w) a ∙ take_at (f x) (flat_map f l ++ rest) w (wide x)) (ap (drop w) a ∙ drop_at (f x) (flat_map f l ++ rest) w (wide x))
    ∙ ap (λ (y : List ℕ). line (f x) ++ y) (lines_front f w wide l rest)
    ∙ sym (ap₂ (λ (y z : List ℕ). line y ++ lines_of w (length l) z) (take_at (f x) (flat_map f l) w (wide x)) (drop_at (f x) (flat_map f l) w (wide x)))

module _ (numbers : List ℕ) (w k : ℕ) where
  -- the lines from line i on, and line i as the loop's part of the numbers
  abbrev pub ahead : ℕ → List ℕ
  ahead i = lines_of w (k - i) (drop (i * w) numbers)

  abbrev pub part : ℕ → List ℕ
  part i = line (take (i * w + w - i * w) (drop (i * w) numbers))

  ahead_all : ahead 0 ≡ lines_of w k numbers
  ahead_all =
      let e : k - 0 ≡ k = omega arith in
      let z : 0 * w ≡ 0 = omega arith in
      rw (e, z) refl

  ahead_next : (i : ℕ) → i < k → ahead i ≡ part i ++ ahead (i + 1)
  ahead_next i h = let e : i * w + w - i * w ≡ w = omega arith in lines_next w k i numbers h ∙ rw e refl

  -- so many bytes are counted
  pub record Counted (total i : ℕ) : Type 0 where
    pub within : i ≤ k
    pub rest : total + length (ahead i) ≡ length (lines_of w k numbers)

  pub counted_more : (total i v : ℕ) → i < k → v ≡ length (part i) → Counted total i → Counted (total + v) (i + 1)
  counted_more total i v h e c =
      record { within = omega arith; rest = omega (arith, e, c.rest, ap length (ahead_next i h), length-append (part i) (ahead (i + 1))) }

  pub counted_end : (total i : ℕ) → k ≤ i → Counted total i → total ≡ length (lines_of w k numbers)
  counted_end total i h c = omega (arith, c.rest, ap length (lines_end w k i numbers h))

  -- a line of at most five numbers has at most 106 bytes
  pub lines_small : w ≤ 5 → length (lines_of w k numbers) ≤ k * 106
  lines_small h =
      let l : 21 * w + 1 ≤ 106 = omega arith in
      let m : (21 * w + 1) * k ≤ 106 * k = mul-le-mul_right k l in
      let e : (21 * w + 1) * k ≡ k * (21 * w + 1) = omega arith in
      let f : 106 * k ≡ k * 106 = omega arith in
      omega (arith, lines_length w k numbers)

  pub counted_small : (total i v : ℕ) → i < k → v ≡ length (part i) → Counted total i → w ≤ 5 → total + v ≤ k * 106
  counted_small total i v h e c f = omega (arith, (counted_more total i v h e c).rest, lines_small f)

  -- so many lines are written
  pub record Lined (out₀ : List ℕ) (at : ℕ) (out : List ℕ) (place i : ℕ) : Type 0 where
    pub within : i ≤ k
    pub putting : Putting out₀ at (lines_of w k numbers) out place (ahead i)

  module _ (out₀ : List ℕ) (at : ℕ) where
    pub lined_more : (out next : List ℕ) (place place' i : ℕ) → i < k → (place' ≡ place + length (part i)) × (next ≡ sets out place (part i)) →
        Lined out₀ at out place i → Lined out₀ at next place' (i + 1)
    lined_more out next place place' i h e l =
        record { within = omega arith; putting = put_more l.putting (part i) (ahead (i + 1)) (ahead_next i h) next place' e.1 e.0 }

    -- there is room for the next one
    pub lined_room : (out : List ℕ) (place i : ℕ) → i < k → at + length (lines_of w k numbers) ≤ length out₀ → Lined out₀ at out place i →
        place + length (part i) ≤ length out
    lined_room out place i h r l =
        omega (arith, r, l.putting.long, l.putting.room, ap length (ahead_next i h), length-append (part i) (ahead (i + 1)))

    pub lined_end : (out : List ℕ) (place i : ℕ) → k ≤ i → Lined out₀ at out place i →
        (place ≡ at + length (lines_of w k numbers)) × (out ≡ sets out₀ at (lines_of w k numbers))
    lined_end out place i h l = put_end l.putting (lines_end w k i numbers h)
