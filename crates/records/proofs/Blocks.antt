-- Lists made of parts of one length, one for each number below n: how long they are, their parts, and that the parts make the list.
-- Assumes nothing.
use Prim.Native.Nat.{ℕ, zero, suc, ◌+◌, ◌*◌, ◌≤◌, ◌<◌}
use mathlib.Core.Path.{◌≡◌, refl, sym, ap, ◌∙◌}
use mathlib.Core.Logic.{◌⊎◌, inl, inr}
use mathlib.Core.List.Memᴰ.{head as here}
use mathlib.Core.List.Memᴰ.{tail as there}
use mathlib.Core.List.{List, [], ◌∷◌, ◌++◌, map, flat_map, append_assoc, append-nil, Memᴰ as In}
use native.Mathlib.Nat.{add-zero, zero-add, suc-mul, zero-mul, eq-or-lt_of_le}
use native.Mathlib.Numerals.{add-one}
use native.Mathlib.Omega.{arith}
use lib.ListN.{length, get_or, take, drop, length-append, length-drop, take-append-drop, drop_of_length-le}
use lib.Seq.{take_at, take-take, drop-drop, drop-append-add}
use Rattle.lists.specs.Lists.{from, up_to}
use Rattle.lists.proofs.Ranges.{at_each}

-- a part of a part
pub part_part : (l : List ℕ) (at size k n : ℕ) → k + n ≤ size → take n (drop k (take size (drop at l))) ≡ take n (drop (at + k) l)
part_part l at size k n h = rw (← drop-drop k at l) (go size k (drop at l) h)
  where
    go : (size k : ℕ) (d : List ℕ) → k + n ≤ size → take n (drop k (take size d)) ≡ take n (drop k d)
    go size zero d h = lib.Seq.take-take n size d (omega arith)
    go zero (suc k) d h = absurd (omega arith)
    go (suc size) (suc k) [] h = refl
    go (suc size) (suc k) (x ∷ d) h = go size k d (omega arith)

-- the parts of some elements' images
pub flat_map_lem : {A B C : Type 0} (f : A → B) (g : B → List C) (l : List A) → flat_map g (map f l) ≡ flat_map (λ x. g (f x)) l
unfolding flat_map
flat_map_lem f g [] = refl
flat_map_lem f g (x ∷ l) = ap (λ r. g (f x) ++ r) (flat_map_lem f g l)

pub flat_ext : {A B : Type 0} (f g : A → List B) (l : List A) → ((x : A) → In x l → f x ≡ g x) → flat_map f l ≡ flat_map g l
unfolding flat_map
flat_ext f g [] h = refl
flat_ext f g (x ∷ l) h = rw (h x (here refl), flat_ext f g l (λ y m. h y (there m)))

module _ {A : Type 0} (g : ℕ → List A) where
  abbrev pub blocks : ℕ → List A
  blocks n = flat_map g (up_to n)

  from_more : (i n : ℕ) → flat_map g (from i (suc n)) ≡ flat_map g (from i n) ++ g (i + n)
  unfolding from flat_map
  from_more i zero = rw (add-zero i) (append-nil (g i))
  from_more i (suc n) =
      let e : suc i + n ≡ i + suc n = omega arith in
      ap (λ (r : List A). g i ++ r) (from_more (suc i) n ∙ ap (λ (k : ℕ). flat_map g (from (suc i) n) ++ g k) e)
      ∙ sym (append_assoc (g i) (flat_map g (from (suc i) n)) (g (i + suc n)))

  -- one part more
  pub blocks_more : (n : ℕ) → blocks (n + 1) ≡ blocks n ++ g n
  blocks_more n = rw (add-one n) (from_more 0 n ∙ ap (λ (k : ℕ). blocks n ++ g k) (zero-add n))

  -- how long they are, with one part more and with some
  pub blocks_longer : (n : ℕ) → length (blocks (n + 1)) ≡ length (blocks n) + length (g n)
  blocks_longer n = ap length (blocks_more n) ∙ length-append (blocks n) (g n)

  pub blocks_le : (i n : ℕ) → i ≤ n → length (blocks i) ≤ length (blocks n)
  blocks_le i zero h = let e : i ≡ 0 = omega arith in rw e (omega arith)
  blocks_le i (suc n) h = go (eq-or-lt_of_le h) (blocks_le i n)
    where
      go : (i ≡ suc n) ⊎ (i < suc n) → (i ≤ n → length (blocks i) ≤ length (blocks n)) → length (blocks i) ≤ length (blocks (suc n))
      go (inl e) ih = rw e (omega arith)
      go (inr l) ih = let k = ih (omega arith) in rw (← add-one n) (omega (arith, blocks_longer n))

  module _ (size : ℕ) (each : (i : ℕ) → length (g i) ≡ size) where
    pub length_blocks : (n : ℕ) → length (blocks n) ≡ n * size
    unfolding from flat_map
    length_blocks zero = sym (zero-mul size)
    length_blocks (suc n) = ap length (from_more 0 n) ∙ length-append (blocks n) (g (0 + n)) ∙ rw (length_blocks n, each (0 + n), suc-mul n size) (refl)

    from_part : (i n k : ℕ) → k < n → take size (drop (k * size) (flat_map g (from i n))) ≡ g (i + k)
    unfolding from flat_map
    from_part i zero k h = absurd (omega arith)
    from_part i (suc n) zero h = rw (zero-mul size, add-zero i) (take_at (g i) (flat_map g (from (suc i) n)) size (each i))
    from_part i (suc n) (suc k) h =
        let e : suc k * size ≡ length (g i) + k * size = omega (arith, suc-mul k size, each i) in
        let s : suc i + k ≡ i + suc k = omega arith in
        rw (e, drop-append-add (g i) (flat_map g (from (suc i) n)) (k * size)) (from_part (suc i) n k (omega arith) ∙ ap g s)

    pub blocks_part : (n k : ℕ) → k < n → take size (drop (k * size) (blocks n)) ≡ g k
    blocks_part n k h = from_part 0 n k h ∙ ap g (zero-add k)

  -- a list whose parts are these is made of them
  module _ (size : ℕ) where
    from_whole : (i n : ℕ) (l : List A) → length l ≡ n * size → ((k : ℕ) → k < n → take size (drop (k * size) l) ≡ g (i + k)) → flat_map g (from i n) ≡ l
    unfolding from flat_map
    from_whole i zero l e h = let z : length l ≤ 0 = omega (arith, zero-mul size) in sym (drop_of_length-le l z)
    from_whole i (suc n) l e h =
        let first : take size l ≡ g i = sym (ap (λ (k : ℕ). take size (drop k l)) (zero-mul size)) ∙ h 0 (omega arith) ∙ ap g (add-zero i) in
        let long : length (drop size l) ≡ n * size = length-drop size l ∙ omega (arith, suc-mul n size) in
        let rest : (k : ℕ) → k < n → take size (drop (k * size) (drop size l)) ≡ g (suc i + k) = λ k s.
        let m : size + k * size ≡ suc k * size = omega (arith, suc-mul k size) in
        let j : i + suc k ≡ suc i + k = omega arith in
        ap (take size) (drop-drop (k * size) size l) ∙ ap (λ (o : ℕ). take size (drop o l)) m ∙ h (suc k) (omega arith) ∙ ap g j in
        rw (from_whole (suc i) n (drop size l) long rest, ← first) (take-append-drop size l)

    pub blocks_whole : (n : ℕ) (l : List A) → length l ≡ n * size → ((k : ℕ) → k < n → take size (drop (k * size) l) ≡ g k) → blocks n ≡ l
    blocks_whole n l e h = from_whole 0 n l e (λ k s. h k s ∙ ap g (sym (zero-add k)))

-- the parts of a list's numbers, by their places
pub flat_places : {A : Type 0} (g : ℕ → List A) (l : List ℕ) → blocks (λ k. g (get_or l k 0)) (length l) ≡ flat_map g l
flat_places g l = sym (flat_map_lem (λ k. get_or l k 0) g (up_to (length l))) ∙ ap (flat_map g) (at_each l)
