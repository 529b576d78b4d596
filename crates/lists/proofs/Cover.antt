-- Counting: a list without repetition among rs that is no shorter has each of rs; a list without repetition whose elements are all in l is no longer.
-- Assumes nothing.
use Prim.Native.Nat.{ℕ, zero, suc, ◌≤◌, ◌<◌}
use mathlib.Core.Path.{◌≡◌, refl, sym, ap, ◌∙◌}
use mathlib.Core.Logic.{◌≢◌}
use mathlib.Core.Bool.{Bool, true, false, cond}
use mathlib.Core.List.Memᴰ.{head as here}
use mathlib.Core.List.Memᴰ.{tail as there}
use mathlib.Core.List.{List, [], ◌∷◌, map, Memᴰ as In}
use native.Mathlib.Omega.{arith}
use native.Mathlib.Decide.{ℕ_discrete}
use borrow.Author.Tests.{eqb-true, eqb-false}
use lib.Dec.{eqb}
use lib.ListN.{length, length-map, get_or, take, drop}
use Rattle.lists.specs.Pairs.{Pairs, nil, cons}
use Rattle.lists.proofs.Maps.{in_map, map_in}
use Rattle.lists.proofs.Pairs.{pairs_image}

-- where an element stands, and what stands at a place
pub in_at : {x : ℕ} {l : List ℕ} → In x l → (p : ℕ) × (p < length l) × (get_or l p 0 ≡ x)
in_at (here e) = (0, omega arith, sym e)
in_at (there m) = let k = in_at m in (suc k.0, omega arith, k.2)

pub at_in : (l : List ℕ) (p : ℕ) → p < length l → In (get_or l p 0) l
at_in [] p h = absurd (omega arith)
at_in (x ∷ l) zero h = here refl
at_in (x ∷ l) (suc p) h = there (at_in l p (omega arith))

pub in_take : (n : ℕ) (l : List ℕ) {x : ℕ} → In x (take n l) → In x l
in_take (suc n) (y ∷ l) (here e) = here e
in_take (suc n) (y ∷ l) (there m) = there (in_take n l m)
in_take zero l x3 = elim x3 [ ]
in_take (suc n) [] x6 = elim x6 [ ]

pub in_drop : (n : ℕ) (l : List ℕ) {x : ℕ} → In x (drop n l) → In x l
in_drop zero l m = m
in_drop (suc n) (y ∷ l) m = there (in_drop n l m)
in_drop (suc n) [] m = elim m [ ]

-- a list without its first x
remove : ℕ → List ℕ → List ℕ
remove x [] = []
remove x (y ∷ l) = cond (eqb x y) l (y ∷ remove x l)

remove_length : (x : ℕ) (l : List ℕ) → In x l → suc (length (remove x l)) ≡ length l
unfolding remove
remove_length x (y ∷ l) m = go (eqb x y) refl m (remove_length x l)
  where
    go : (b : Bool) → eqb x y ≡ b → In x (y ∷ l) → (In x l → suc (length (remove x l)) ≡ length l) → suc (length (cond b l (y ∷ remove x l))) ≡ suc (length l)
    go true e k ih = refl
    go false e (here q) ih = absurd (eqb-false x y e q)
    go false e (there k) ih = ap suc (ih k)
remove_length x [] m = elim m [ ]

remove_in : (x : ℕ) (l : List ℕ) {r : ℕ} → In r l → r ≢ x → In r (remove x l)
unfolding remove
remove_in x (y ∷ l) {r} m n = go (eqb x y) refl m (λ k. remove_in x l k n)
  where
    go : (b : Bool) → eqb x y ≡ b → In r (y ∷ l) → (In r l → In r (remove x l)) → In r (cond b l (y ∷ remove x l))
    go true e (here q) ih = absurd (n (q ∙ sym (eqb-true x y e)))
    go true e (there k) ih = k
    go false e (here q) ih = here q
    go false e (there k) ih = there (ih k)
remove_in x [] {r = r} m n = elim m [ ]

pub cover : (l rs : List ℕ) → ((p : ℕ) → p < length l → In (get_or l p 0) rs) → ((p q : ℕ) → p < q → q < length l → get_or l p 0 ≢ get_or l q 0) → length rs ≤ length l → {r : ℕ} → In r rs → In r l
cover [] (y ∷ ys) among once short m = absurd (omega arith)
cover (x ∷ l) rs among once short {r} m = go (ℕ_discrete r x) (λ n. cover l (remove x rs) among' once' short' (remove_in x rs m n))
  where
    among' : (p : ℕ) → p < length l → In (get_or l p 0) (remove x rs)
    among' p h = remove_in x rs (among (suc p) (omega arith)) (λ e. once 0 (suc p) (omega arith) (omega arith) (sym e))

    once' : (p q : ℕ) → p < q → q < length l → get_or l p 0 ≢ get_or l q 0
    once' p q h k = once (suc p) (suc q) (omega arith) (omega arith)

    short' : length (remove x rs) ≤ length l
    short' = omega (arith, remove_length x rs (among 0 (omega arith)))

    go : Dec (r ≡ x) → (r ≢ x → In r l) → In r (x ∷ l)
    go (yes e) f = here e
    go (no n) f = there (f n)
cover [] [] among once short {r = r} m = elim m [ ]

pub no_longer : {rs : List ℕ} → Pairs ◌≢◌ rs → (l : List ℕ) → ((r : ℕ) → In r rs → In r l) → length rs ≤ length l
no_longer nil l h = omega arith
no_longer (cons {x = x} {l = rs} u t) l h =
    omega (arith, remove_length x l (h x (here refl)), no_longer t (remove x l) (λ r m. remove_in x l (h r (there m)) (λ e. u r m (sym e))))

-- the same of elements of any type that a key tells apart
pub no_longer_by : {A : Type 0} (key : A → ℕ) {zs : List A} → Pairs (λ x y. key x ≢ key y) zs → (l : List A) → ((z : A) → In z zs → In z l) →
    length zs ≤ length l
no_longer_by key {zs} p l h =
    omega (arith, length-map zs key, length-map l key, no_longer (pairs_image key p) (map key l) (λ r m. let k = in_map key zs m in rw k.2 (map_in key (h k.0 k.1))))
