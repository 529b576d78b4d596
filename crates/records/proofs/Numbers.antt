-- A number and its bytes: one law each way, over the count of bytes.
-- Assumes nothing.
use Prim.Native.Nat.{ℕ, zero, suc, ◌+◌, ◌*◌, ◌/◌, ◌%◌, ◌^◌, ◌≤◌, ◌<◌}
use mathlib.Core.Path.{◌≡◌, refl, sym, ap, ◌∙◌}
use mathlib.Core.List.{List, [], ◌∷◌, ◌++◌, map}
use native.Mathlib.Nat.{pow-succ', add-zero, pow-le-pow_right}
use native.Mathlib.Omega.{arith}
use mir.Syntax.{w64}
use lib.ListN.{length, get_or, take, drop, replicate, length-take, length-drop, length-append}
use lib.Seq.{drop-cons, get_or-drop, length-take-le, take_all}
use Rattle.std.specs.Int.{to_le_bytes, from_le_bytes}
use Rattle.lists.specs.Lists.{from, up_to}
use Rattle.records.specs.Records.{little_endian, value_of, field, Below, Bytes}

pub length_bytes : (n x : ℕ) → length (little_endian n x) ≡ n
unfolding little_endian
length_bytes zero x = refl
length_bytes (suc n) x = ap suc (length_bytes n (x / 256))

pub value_bytes : (n x : ℕ) → x < 256 ^ n → value_of (little_endian n x) ≡ x
unfolding little_endian value_of
value_bytes zero x h = omega arith
value_bytes (suc n) x h =
    let l : x / 256 < 256 ^ n = omega (arith, pow-succ' 256 n) in
    rw (value_bytes n (x / 256) l) (omega arith)

pub bytes_value : (bs : List ℕ) → Bytes bs → little_endian (length bs) (value_of bs) ≡ bs
unfolding little_endian value_of
bytes_value [] h = refl
bytes_value (b ∷ bs) h =
    let l : b < 256 = h 0 in
    let m : (b + 256 * value_of bs) % 256 ≡ b = omega arith in
    let d : (b + 256 * value_of bs) / 256 ≡ value_of bs = omega arith in
    rw (m, d, bytes_value bs (λ i. h (suc i)))

pub value_below : (bs : List ℕ) → Bytes bs → value_of bs < 256 ^ length bs
unfolding value_of
value_below [] h = omega arith
value_below (b ∷ bs) h = omega (arith, h 0, value_below bs (λ i. h (suc i)), pow-succ' 256 (length bs))

-- A part of a list of bytes is one.
pub below_drop : {bound : ℕ} (n : ℕ) (l : List ℕ) → Below bound l → Below bound (drop n l)
below_drop n l h i = rw (get_or-drop n l i 0) (h (n + i))

pub below_take : {bound : ℕ} (n : ℕ) (l : List ℕ) → 0 < bound → Below bound l → Below bound (take n l)
below_take zero l z h i = z
below_take (suc n) [] z h i = z
below_take (suc n) (x ∷ l) z h zero = h 0
below_take (suc n) (x ∷ l) z h (suc i) = below_take n l z (λ j. h (suc j)) i

module _ (bs : List ℕ) (at n : ℕ) (b : Bytes bs) where
  pub field_bytes : at + n ≤ length bs → little_endian n (field bs at n) ≡ take n (drop at bs)
  unfolding field
  field_bytes h =
      let part = take n (drop at bs) in
      let l : length part ≡ n = length-take-le n (drop at bs) (rw (length-drop at bs) (omega arith)) in
      rw (ap (λ k. little_endian k (value_of part)) (sym l)) (bytes_value part (below_take n (drop at bs) (omega arith) (below_drop at bs b)))

  pub field_below : field bs at n < 256 ^ n
  unfolding field
  field_below =
      let part = take n (drop at bs) in
      let l : length part ≤ n = rw (length-take n (drop at bs)) (omega arith) in
      omega (arith, value_below part (below_take n (drop at bs) (omega arith) (below_drop at bs b)), pow-le-pow_right {n = 256} (omega arith) l)

-- the elements of a part, one by one
pub part_list : (l : List ℕ) (at n : ℕ) → at + n ≤ length l → take n (drop at l) ≡ map (λ (k : ℕ). get_or l (at + k) 0) (up_to n)
unfolding from
part_list l at n h = ap (λ (k : ℕ). take n (drop k l)) (sym (add-zero at)) ∙ go 0 n (omega arith)
  where
    go : (i n : ℕ) → at + i + n ≤ length l → take n (drop (at + i) l) ≡ map (λ (k : ℕ). get_or l (at + k) 0) (from i n)
    go i zero h = refl
    go i (suc n) h =
        let e : suc (at + i) ≡ at + suc i = omega arith in
        rw (drop-cons l (at + i) 0 (omega arith), e) (ap (λ (r : List ℕ). get_or l (at + i) 0 ∷ r) (go (suc i) n (omega arith)))

pub field_list : (bs : List ℕ) (at n : ℕ) → at + n ≤ length bs → field bs at n ≡ value_of (map (λ (k : ℕ). get_or bs (at + k) 0) (up_to n))
unfolding field
field_list bs at n h = ap value_of (part_list bs at n h)

-- A number's bytes as the library says them: eight, the lowest first.
pub low_first : (x : ℕ) → to_le_bytes w64 x ≡ little_endian 8 x
unfolding little_endian
low_first x =
    let a : x / 256 / 256 ≡ x / 65536 = omega arith in
    let b : x / 65536 / 256 ≡ x / 16777216 = omega arith in
    let c : x / 16777216 / 256 ≡ x / 4294967296 = omega arith in
    let d : x / 4294967296 / 256 ≡ x / 1099511627776 = omega arith in
    let e : x / 1099511627776 / 256 ≡ x / 281474976710656 = omega arith in
    let f : x / 281474976710656 / 256 ≡ x / 72057594037927936 = omega arith in
    rw (a, b, c, d, e, f) refl

-- the low ones of them
pub take_bytes : (n m x : ℕ) → n ≤ m → take n (little_endian m x) ≡ little_endian n x
unfolding little_endian
take_bytes zero m x h = refl
take_bytes (suc n) zero x h = absurd (omega arith)
take_bytes (suc n) (suc m) x h = ap (λ (r : List ℕ). x % 256 ∷ r) (take_bytes n m (x / 256) (omega arith))

-- the number of eight bytes as the library says it
pub low_value : (bs : List ℕ) → length bs ≡ 8 → from_le_bytes w64 bs ≡ value_of bs
unfolding value_of from field
low_value bs e = omega (arith, field_list bs 0 8 (omega (arith, e)), ap value_of (take_all 8 bs (omega (arith, e))))

-- zeros behind some bytes add nothing
value_zeros : (xs zs : List ℕ) → ((i : ℕ) → get_or zs i 0 ≡ 0) → value_of (xs ++ zs) ≡ value_of xs
unfolding value_of
value_zeros [] [] z = refl
value_zeros [] (a ∷ zs) z = omega (arith, z 0, value_zeros [] zs (λ i. z (suc i)))
value_zeros (x ∷ xs) zs z = ap (λ (v : ℕ). x + 256 * v) (value_zeros xs zs z)

zero_at : (n i : ℕ) → get_or (replicate {A = ℕ} n 0) i 0 ≡ 0
zero_at zero i = refl
zero_at (suc n) zero = refl
zero_at (suc n) (suc i) = zero_at n i

-- The number of the first bytes of an array, with zeros behind them, is that of the field that was copied there.
pub number_copied : (bytes part : List ℕ) (at n : ℕ) → n ≤ 8 → at + n ≤ length bytes → part ≡ take n (drop at bytes)
    → from_le_bytes w64 (part ++ drop n (replicate {A = ℕ} 8 0)) ≡ field bytes at n
unfolding field
number_copied bytes part at n h k e =
    let rest = drop n (replicate {A = ℕ} 8 0) in
    let long : length part ≡ n = ap length e ∙ length-take-le n (drop at bytes) (rw (length-drop at bytes) (omega arith)) in
    let eight : length (part ++ rest) ≡ 8 = length-append part rest ∙ omega (arith, long, length-drop n (replicate {A = ℕ} 8 0)) in
    low_value (part ++ rest) eight
    ∙ value_zeros part rest (λ i. get_or-drop n (replicate {A = ℕ} 8 0) i 0 ∙ zero_at 8 (n + i))
    ∙ ap value_of e
