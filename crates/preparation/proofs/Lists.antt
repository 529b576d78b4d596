-- Laws of lists for the proofs of this crate.
-- Assumes nothing.
use Prim.Native.Nat.{ℕ, zero, suc, ◌+◌, ◌-◌, ◌<◌}
use mathlib.Core.Path.{◌≡◌, refl, sym, ap, ◌∙◌}
use mathlib.Core.List.Memᴰ.{head as here}
use mathlib.Core.List.Memᴰ.{tail as there}
use mathlib.Core.List.{List, [], ◌∷◌, ◌++◌, map, append_assoc, Memᴰ as In}
use native.Mathlib.Omega.{arith}
use lib.ListN.{length, get_or, take, drop, length-append}
use lib.Seq.{get_or-append_seam, take-append_seam}
use Rattle.lists.specs.Pairs.{Pairs, nil, cons}
use Rattle.lists.proofs.Cover.{in_at, at_in}

-- Where R holds between each element and every later one: two members are one, or R holds between them in the one or the other sequence.
module _ {A : Type 0} (R : A → A → Type 0) where
  pub data Met (x y : A) : Type 0 where
    alike : x ≡ y → Met x y
    ahead : R x y → Met x y
    behind : R y x → Met x y

  pub met : {l : List A} {x y : A} → Pairs R l → In x l → In y l → Met x y
  met (cons u t) (here e) (here d) = alike (e ∙ sym d)
  met (cons u t) (here e) (there n) = ahead (rw e (u _ n))
  met (cons u t) (there m) (here d) = behind (rw d (u _ m))
  met (cons u t) (there m) (there n) = met t m n
  met {y = y} nil x8 _ = elim x8 [ ]

-- R between each element and every later one, by positions
module _ {R : ℕ → ℕ → Type 0} where
  pub pairs_at : {l : List ℕ} → Pairs R l → (p q : ℕ) → p < q → q < length l → R (get_or l p 0) (get_or l q 0)
  pairs_at nil p q h k = absurd (omega arith)
  pairs_at (cons u t) p zero h k = absurd (omega arith)
  pairs_at (cons {l = l} u t) zero (suc q) h k = u (get_or l q 0) (at_in l q (omega arith))
  pairs_at (cons u t) (suc p) (suc q) h k = pairs_at t p q (omega arith) (omega arith)

  pub at_pairs : (l : List ℕ) → ((p q : ℕ) → p < q → q < length l → R (get_or l p 0) (get_or l q 0)) → Pairs R l
  at_pairs [] h = nil
  at_pairs (x ∷ l) h =
      cons
      {x = x}
      {l = l}
      (λ y m. let (q, b, e) = in_at m in rw (← e) (h 0 (suc q) (omega arith) (omega arith)))
      (at_pairs l (λ p q i j. h (suc p) (suc q) (omega arith) (omega arith)))

module _ {A B : Type 0} (f : A → B) where
  -- where an image is split, what it is the image of is split too
  pub record Split (l : List A) (b : List B) (y : B) (c : List B) : Type 0 where
    pub front : List A
    pub at : A
    pub back : List A
    pub whole : l ≡ front ++ (at ∷ back)
    pub to_front : b ≡ map f front
    pub to_at : y ≡ f at
    pub to_back : c ≡ map f back

  pub map_split : (l : List A) (b : List B) (y : B) (c : List B) → map f l ≡ b ++ (y ∷ c) → Split l b y c
  map_split [] [] y c e = let z : ◌≡◌ {A = ℕ} 0 1 = cc in absurd (omega arith)
  map_split [] (z ∷ b) y c e = let z : ◌≡◌ {A = ℕ} 0 1 = cc in absurd (omega arith)
  map_split (x ∷ l) [] y c e = record { front = []; at = x; back = l; whole = refl; to_front = refl; to_at = cc; to_back = cc }
  map_split (x ∷ l) (z ∷ b) y c e = on (map_split l b y c (cc))
    where
      on : Split l b y c → Split (x ∷ l) (z ∷ b) y c
      on s = record { front = x ∷ s.front; at = s.at; back = s.back; whole = ap (λ r. x ∷ r) s.whole; to_front = cc; to_at = s.to_at; to_back = s.to_back }

-- A list cut at two positions, p and then q: what stands there, and what between.
pub record Cut (l : List ℕ) (p q : ℕ) : Type 0 where
  pub first_part : List ℕ
  pub two : ℕ
  pub end : List ℕ
  pub whole : l ≡ first_part ++ (two ∷ end)
  pub at_two : q ≡ length first_part
  pub front : List ℕ
  pub one : ℕ
  pub middle : List ℕ
  pub first_whole : first_part ≡ front ++ (one ∷ middle)
  pub at_one : p ≡ length front

drop_behind : {A : Type 0} (a : List A) (x : A) (b : List A) → drop (suc (length a)) (a ++ (x ∷ b)) ≡ b
drop_behind [] x b = refl
drop_behind (y ∷ a) x b = drop_behind a x b

module _ {l : List ℕ} {p q : ℕ} (c : Cut l p q) where
  cut_whole : l ≡ c.front ++ (c.one ∷ (c.middle ++ (c.two ∷ c.end)))
  cut_whole = c.whole ∙ ap (λ n. n ++ (c.two ∷ c.end)) c.first_whole ∙ append_assoc c.front (c.one ∷ c.middle) (c.two ∷ c.end)

  pub cut_places : q ≡ p + suc (length c.middle)
  cut_places = omega (arith, c.at_one, c.at_two, ap length c.first_whole, length-append c.front (c.one ∷ c.middle))

  pub cut_one : get_or l p 0 ≡ c.one
  cut_one = rw (cut_whole, c.at_one) (get_or-append_seam c.front c.one (c.middle ++ (c.two ∷ c.end)) 0)

  pub cut_middle : take (q - suc p) (drop (suc p) l) ≡ c.middle
  cut_middle =
      let n : q - suc p ≡ length c.middle = omega (arith, cut_places) in
      rw (n, c.at_one, cut_whole, drop_behind c.front c.one (c.middle ++ (c.two ∷ c.end))) (take-append_seam c.middle (c.two ∷ c.end))
