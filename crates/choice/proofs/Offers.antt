-- The orders that the code tries are those that figure 4 lists, and each has the chunk's writes once.
-- Assumes nothing.
use Prim.Native.Nat.{ℕ, ◌+◌, ◌≤◌, ◌<◌}
use mathlib.Core.Path.{◌≡◌, refl, ap, sym, ◌∙◌}
use mathlib.Core.Bool.{Bool, true, false, not}
use mathlib.Core.Logic.{◌⊎◌, inl, inr, ◌≢◌}
use mathlib.Core.List.Memᴰ
use mathlib.Core.List.Memᴰ.{head as here}
use mathlib.Core.List.Memᴰ.{tail as there}
use mathlib.Core.List.{List, [], ◌∷◌, ◌++◌, map, append-nil, append_assoc, Memᴰ as In}
use native.Mathlib.Omega.{arith}
use native.Mathlib.Numerals.{add-one}
use lib.ListN.{length, take, set}
use lib.Seq.{take-suc-set, take-append-add, take-append_seam}
use Rattle.std.specs.Prelude.{Option, Some, None, is_some}
use Rattle.lists.specs.Pairs.{Pairs, nil, cons}
use Rattle.lists.proofs.Tests.{both}
use Rattle.lists.proofs.Pairs.{pairs_one, pairs_append, pairs_front, pairs_behind, pairs_across}
use Rattle.lists.proofs.Images.{map_append, get_d_in}
use Rattle.history.specs.declared.Op.{Op}
use Rattle.methods.specs.Zones.{Decision, none, order}
use Rattle.methods.specs.Fzf.{swap, listed, viable, back, first_viable}
use Rattle.positions.specs.Places.{Unlike}
use Rattle.positions.specs.Columns.{Cols, op, ops}
use Rattle.positions.proofs.Once.{pairs_once}
use Rattle.placing.specs.States.{State, Whose}
use Rattle.choice.specs.Gives.{Gives, no_order, an_order}
use Rattle.choice.specs.Viable.{Turns, viable_by}
use Rattle.choice.specs.Offered.{backward, swap_if, end_at, one_of, offer, offers, tried_by, chosen_by}
use Rattle.choice.proofs.Turning.{ops_back, ops_swap}

-- Lists turned round and swapped.

in_back : (l : List ℕ) {x : ℕ} → In x (backward l) → In x l
unfolding backward
in_back (y ∷ l) {x} m = go (Memᴰ.append_cases (backward l) m) (in_back l)
  where
    go : In x (backward l) ⊎ In x (y ∷ []) → (In x (backward l) → In x l) → In x (y ∷ l)
    go (inl k) ih = there (ih k)
    go (inr (here e)) ih = here e
    go (inr (there x9)) ih = elim x9 [ ]
in_back [] {x = x} m = elim m [ ]

in_swap : (b : Bool) (l : List ℕ) {x : ℕ} → In x (swap_if b l) → In x l
unfolding swap_if
in_swap false l m = m
in_swap true [] m = m
in_swap true (y ∷ []) m = m
in_swap true (y ∷ (z ∷ l)) (here e) = there (here e)
in_swap true (y ∷ (z ∷ l)) (there (here e)) = here e
in_swap true (y ∷ (z ∷ l)) (there (there m)) = there (there m)

back_apart : {l : List ℕ} → Pairs Unlike l → Pairs Unlike (backward l)
unfolding backward
back_apart nil = nil
back_apart (cons {x = x} {l = l} u t) = pairs_append (back_apart t) (pairs_one x) (λ y z m n. go y z m n)
  where
    go : (y z : ℕ) → In y (backward l) → In z (x ∷ []) → y ≢ z
    go y z m (here e) q = u y (in_back l m) (sym (q ∙ e))
    go y z m (there x7) q = elim x7 [ ]

swap_apart : (b : Bool) {l : List ℕ} → Pairs Unlike l → Pairs Unlike (swap_if b l)
unfolding swap_if
swap_apart false p = p
swap_apart true nil = nil
swap_apart true (cons {x = x} u nil) = pairs_one x
swap_apart true (cons {x = x} u (cons {x = y} {l = l} v t)) =
    cons (λ z m. first z m) (cons (λ z m. u z (there m)) t)
  where
    first : (z : ℕ) → In z (x ∷ l) → y ≢ z
    first z (here e) q = u y (here refl) (sym (q ∙ e))
    first z (there m) q = v z m q

back_append : (a b : List ℕ) → backward (a ++ b) ≡ backward b ++ backward a
unfolding backward
back_append [] b = sym (append-nil (backward b))
back_append (x ∷ a) b = rw (back_append a b) (append_assoc (backward b) (backward a) (x ∷ []))

-- The two ends.

one_back : (w : Option ℕ) → backward (one_of w) ≡ one_of w
unfolding one_of backward
one_back None = refl
one_back (Some w) = refl

in_end : (l : List ℕ) (first : Bool) → {x : ℕ} → In x (one_of (end_at l first)) → In x l
unfolding one_of end_at
in_end [] true m = elim m [ ]
in_end [] false m = elim m [ ]
in_end (v ∷ l) true (here e) = here e
in_end (v ∷ l) true (there m) = elim m [ ]
in_end (v ∷ []) false m = elim m [ ]
in_end (v ∷ (w ∷ l)) false (here e) = there (here e)
in_end (v ∷ (w ∷ l)) false (there m) = elim m [ ]

-- one more at the end of what is written, or nothing
pub put_none : (w : Option ℕ) (out : List ℕ) (m : ℕ) → w ≡ None → (m ≡ m + length (one_of w)) × (take m out ≡ take m out ++ one_of w)
unfolding one_of
put_none w out m e = rw e (omega arith, sym (append-nil (take m out)))

pub put_one : (w : Option ℕ) (x : ℕ) (out : List ℕ) (m : ℕ) → w ≡ Some x → m + length (one_of w) ≤ length out →
    (m < length out) × ((m + 1 ≡ m + length (one_of w)) × (take (m + 1) (set out m x) ≡ take m out ++ one_of w))
unfolding one_of
put_one w x out m e r =
    let n : m + length (one_of (Some x)) ≤ length out = rw e at r in
    let q : m < length out = omega arith in
    rw e (q, (omega arith, rw (add-one m) (take-suc-set out m x q)))

-- the first of them of what was written over with l from m on
pub write_over : (a l rest : List ℕ) (m n : ℕ) → length a ≡ m → n ≡ length l → take (m + n) (a ++ (l ++ rest)) ≡ a ++ l
write_over a l rest m n e h = rw (← e, h) (take-append-add a (l ++ rest) (length l) ∙ ap (λ (x : List ℕ). a ++ x) (take-append_seam l rest))

-- the two ends are two
ends_apart : {b : List ℕ} → Pairs Unlike b → {x y : ℕ} → In x (one_of (end_at b true)) → In y (one_of (end_at b false)) → x ≢ y
unfolding one_of end_at
ends_apart nil m n q = elim m [ ]
ends_apart (cons {x = v} u nil) m n q = elim n [ ]
ends_apart (cons {x = v} u (cons {x = w} {l = l} t k)) {x} {y} m n q = go m n
  where
    go : In x (v ∷ []) → In y (w ∷ []) → ⊥
    go (here e) (here f) = u w (here refl) (sym e ∙ q ∙ f)
    go (here e) (there x21) = elim x21 [ ]
    go (there x20) _ = elim x20 [ ]

ends_length : (b : List ℕ) → length (one_of (end_at b true)) + length (one_of (end_at b false)) ≤ length b
unfolding one_of end_at
ends_length [] = omega arith
ends_length (v ∷ []) = omega arith
ends_length (v ∷ (w ∷ l)) = omega arith

-- in front and behind, flipped or not
pub sides_length : (b : List ℕ) (flip : Bool) → length (one_of (end_at b flip)) + length (one_of (end_at b (not flip))) ≤ length b
sides_length b true = ends_length b
sides_length b false = omega (arith, ends_length b)

sides_apart : {b : List ℕ} → Pairs Unlike b → (flip : Bool) {x y : ℕ} → In x (one_of (end_at b (not flip))) → In y (one_of (end_at b flip)) → x ≢ y
sides_apart p true m n q = ends_apart p n m (sym q)
sides_apart p false m n q = ends_apart p m n q

-- An order, as it is laid out: last first.

pub laid_out : (t b : List ℕ) (flip swap : Bool) →
    (one_of (end_at b flip) ++ backward (swap_if swap t)) ++ one_of (end_at b (not flip)) ≡ backward (offer t b flip swap)
unfolding offer
laid_out t b flip swap =
    let F = one_of (end_at b (not flip)) in
    let B = one_of (end_at b flip) in
    sym
    (back_append F (swap_if swap t ++ B)
    ∙ ap (λ (l : List ℕ). l ++ backward F) (back_append (swap_if swap t) B)
    ∙ ap (λ (l : List ℕ). (l ++ backward (swap_if swap t)) ++ backward F) (one_back (end_at b flip))
    ∙ ap (λ (l : List ℕ). (B ++ backward (swap_if swap t)) ++ l) (one_back (end_at b (not flip))))

module _ (writer t b : List ℕ) (s : State) (k : (x : ℕ) → In x (t ++ b) → Whose writer s x) (a : Pairs Unlike (t ++ b)) (flip swap : Bool) where
  abbrev F : List ℕ
  F = one_of (end_at b (not flip))

  abbrev B : List ℕ
  B = one_of (end_at b flip)

  F-in : {x : ℕ} → In x F → In x b
  F-in m = in_end b (not flip) m

  B-in : {x : ℕ} → In x B → In x b
  B-in m = in_end b flip m

  offer_whose : (x : ℕ) → In x (offer t b flip swap) → Whose writer s x
  unfolding offer
  offer_whose x m = go (Memᴰ.append_cases F m)
    where
      inside : In x (swap_if swap t) ⊎ In x B → Whose writer s x
      inside (inl i) = k x (Memᴰ.append_left b (in_swap swap t i))
      inside (inr i) = k x (Memᴰ.append_right t (B-in i))

      go : In x F ⊎ In x (swap_if swap t ++ B) → Whose writer s x
      go (inl i) = k x (Memᴰ.append_right t (F-in i))
      go (inr i) = inside (Memᴰ.append_cases (swap_if swap t) i)

  one_apart : (w : Option ℕ) → Pairs Unlike (one_of w)
  unfolding one_of
  one_apart None = nil
  one_apart (Some w) = pairs_one w

  offer_apart : Pairs Unlike (offer t b flip swap)
  unfolding offer
  offer_apart =
      pairs_append (one_apart (end_at b (not flip)))
      (pairs_append (swap_apart swap (pairs_front t b a)) (one_apart (end_at b flip)) (λ x y m n. across x y (in_swap swap t m) (B-in n)))
      (λ x y m n. rest x y m (Memᴰ.append_cases (swap_if swap t) n))
    where
      across : (x y : ℕ) → In x t → In y b → x ≢ y
      across x y m n = pairs_across t a x y m n

      rest : (x y : ℕ) → In x F → In y (swap_if swap t) ⊎ In y B → x ≢ y
      rest x y m (inl n) q = across y x (in_swap swap t n) (F-in m) (sym q)
      rest x y m (inr n) q = sides_apart (pairs_behind t a) flip m n q

  -- what the test requires of the sequence
  pub offer_turns : Turns writer (backward (offer t b flip swap)) s
  offer_turns =
      record {
        whose = λ j l. offer_whose _ (in_back (offer t b flip swap) (get_d_in (backward (offer t b flip swap)) 0 j l));
        once = pairs_once (back_apart offer_apart);
      }

-- The code's orders are figure 4's.

pub listed_is : (H : List Op) (t b : List ℕ) → length b ≤ 2 → map (ops H) (offers t b false ++ offers t b true) ≡ listed (ops H t) (ops H b)
unfolding offers offer one_of end_at listed swap_if
listed_is H t [] h =
    let a : ops H (swap_if false t ++ []) ≡ ops H t = ap (ops H) (append-nil (swap_if false t)) in
    let b : ops H (swap_if true t ++ []) ≡ swap (ops H t) = ap (ops H) (append-nil (swap_if true t)) ∙ ops_swap H t in
    rw (a, b) refl
listed_is H t (w ∷ []) h =
    let a : ops H (swap_if false t ++ []) ≡ ops H t = ap (ops H) (append-nil (swap_if false t)) in
    let b : ops H (swap_if true t ++ []) ≡ swap (ops H t) = ap (ops H) (append-nil (swap_if true t)) ∙ ops_swap H t in
    let c : ops H (swap_if false t ++ (w ∷ [])) ≡ ops H t ++ (op H w ∷ []) = map_append (op H) (swap_if false t) (w ∷ []) in
    let d : ops H (swap_if true t ++ (w ∷ [])) ≡ swap (ops H t) ++ (op H w ∷ []) = map_append (op H) (swap_if true t) (w ∷ []) ∙ ap (λ (l : List Op). l ++ (op H w ∷ [])) (ops_swap H t) in
    rw (a, b, c, d) refl
listed_is H t (v ∷ (w ∷ [])) h =
    let a : (x : ℕ) → ops H (swap_if false t ++ (x ∷ [])) ≡ ops H t ++ (op H x ∷ []) = λ x. map_append (op H) (swap_if false t) (x ∷ []) in
    let b : (x : ℕ) → ops H (swap_if true t ++ (x ∷ [])) ≡ swap (ops H t) ++ (op H x ∷ []) = λ x. map_append (op H) (swap_if true t) (x ∷ []) ∙ ap (λ (l : List Op). l ++ (op H x ∷ [])) (ops_swap H t) in
    rw (a v, a w, b v, b w) refl
listed_is H t (v ∷ (w ∷ (x ∷ b))) h = absurd (omega arith)

-- Some orders, then others.

unfoldable or_else : Decision → Decision → Decision
or_else none e = e
or_else (order o) e = order o

first_append : (xs ys : List (List Op)) (K : List Op) → first_viable (xs ++ ys) K ≡ or_else (first_viable xs K) (first_viable ys K)
unfolding first_viable or_else
first_append [] ys K = refl
first_append (t ∷ xs) ys K = go (viable (back t) K) (first_append xs ys K)
  where
    go : (v : Decision) → first_viable (xs ++ ys) K ≡ or_else (first_viable xs K) (first_viable ys K) →
        ◌≡◌ {A = Decision} (elim v as (λ d. Decision) [ none ↦ first_viable (xs ++ ys) K | order o ↦ order o ])
        (or_else (elim v as (λ d. Decision) [ none ↦ first_viable xs K | order o ↦ order o ]) (first_viable ys K))
    go none ih = ih
    go (order o) ih = refl

-- with what the first ones give
first_then : (xs ys : List (List ℕ)) (H : List Op) (K : List Op) (d : Decision) → first_viable (map (ops H) xs) K ≡ d →
    first_viable (map (ops H) (xs ++ ys)) K ≡ or_else d (first_viable (map (ops H) ys) K)
first_then xs ys H K d e =
    ap (λ (l : List (List Op)). first_viable l K) (map_append (ops H) xs ys)
    ∙ first_append (map (ops H) xs) (map (ops H) ys) K
    ∙ ap (λ (x : Decision). or_else x (first_viable (map (ops H) ys) K)) e

module _ (C : Cols) (K L cells : List ℕ) where
  -- one order
  pub try_one : (T : List ℕ) {r : Option ℕ} → Gives C (viable_by (backward T) K) L cells r → Gives C (tried_by (T ∷ []) K) L cells r
  unfolding first_viable
  try_one T (no_order n) =
      no_order (λ H f. let q : viable (back (ops H T)) (ops H K) ≡ none = ap (λ (l : List Op). viable l (ops H K)) (sym (ops_back H T)) ∙ n H f in rw (q, first_viable))
  try_one T (an_order g) =
      an_order
      (record {
        high = g.high;
        placed = g.placed;
        lays = g.lays;
        whole = λ H f.
            let q : viable (back (ops H T)) (ops H K) ≡ order (ops H g.placed) = ap (λ (l : List Op). viable l (ops H K)) (sym (ops_back H T)) ∙ g.whole H f in
            rw (q, first_viable);
      })

  module _ (xs ys : List (List ℕ)) where
    try_hit : {r : Option ℕ} → Gives C (tried_by xs K) L cells r → is_some r ≡ true → Gives C (tried_by (xs ++ ys) K) L cells r
    unfolding or_else
    try_hit (no_order n) q = absurd (both q refl)
    try_hit (an_order g) q =
        an_order
        (record {
          high = g.high;
          placed = g.placed;
          lays = g.lays;
          whole = λ H f. first_then xs ys H (ops H K) _ (g.whole H f);
        })

    try_miss : {old : List ℕ} {a r : Option ℕ} → Gives C (tried_by xs K) L old a → is_some a ≡ false → Gives C (tried_by ys K) L cells r → Gives C (tried_by (xs ++ ys) K) L cells r
    unfolding or_else
    try_miss (an_order g) q t = absurd (both refl q)
    try_miss (no_order n) q (no_order m) =
        no_order (λ H f. first_then xs ys H (ops H K) none (n H f) ∙ m H f)
    try_miss (no_order n) q (an_order g) =
        an_order
        (record {
          high = g.high;
          placed = g.placed;
          lays = g.lays;
          whole = λ H f. first_then xs ys H (ops H K) none (n H f) ∙ g.whole H f;
        })

  -- unflipped, and flipped where there is something to flip
  module _ (t b : List ℕ) (swap : Bool) where
    two_offers : 0 < length b → (offer t b false swap ∷ []) ++ (offer t b true swap ∷ []) ≡ offers t b swap
    unfolding offers
    two_offers h = go b h
      where
        go : (b : List ℕ) → 0 < length b → (offer t b false swap ∷ []) ++ (offer t b true swap ∷ []) ≡ offers t b swap
        go [] h = absurd (omega arith)
        go (w ∷ l) h = refl

    pub try_first : {r : Option ℕ} → Gives C (tried_by (offer t b false swap ∷ []) K) L cells r → (is_some r ≡ true) ⊎ (length b ≡ 0) → Gives C (tried_by (offers t b swap) K) L cells r
    unfolding offers
    try_first {r} k e = go b k e
      where
        go : (b : List ℕ) → Gives C (tried_by (offer t b false swap ∷ []) K) L cells r → (is_some r ≡ true) ⊎ (length b ≡ 0) → Gives C (tried_by (offers t b swap) K) L cells r
        go [] k e = k
        go (w ∷ l) k (inl e) = try_hit (offer t (w ∷ l) false swap ∷ []) (offer t (w ∷ l) true swap ∷ []) k e
        go (w ∷ l) k (inr e) = absurd (omega arith)

    pub try_second : {old : List ℕ} {a r : Option ℕ} → Gives C (tried_by (offer t b false swap ∷ []) K) L old a → is_some a ≡ false → 0 < length b → Gives C (tried_by (offer t b true swap ∷ []) K) L cells r →
        Gives C (tried_by (offers t b swap) K) L cells r
    try_second k e h m = rw (← two_offers h) (try_miss (offer t b false swap ∷ []) (offer t b true swap ∷ []) k e m)

  -- all of figure 4's
  chosen_all : (t b : List ℕ) → length b ≤ 2 → {r : Option ℕ} → Gives C (tried_by (offers t b false ++ offers t b true) K) L cells r → Gives C (chosen_by t b K) L cells r
  chosen_all t b h (no_order n) =
      no_order (λ H f. ap (λ (l : List (List Op)). first_viable l (ops H K)) (sym (listed_is H t b h)) ∙ n H f)
  chosen_all t b h (an_order g) =
      an_order
      (record {
        high = g.high;
        placed = g.placed;
        lays = g.lays;
        whole = λ H f. ap (λ (l : List (List Op)). first_viable l (ops H K)) (sym (listed_is H t b h)) ∙ g.whole H f;
      })

  pub chosen_first : (t b : List ℕ) → length b ≤ 2 → {r : Option ℕ} → Gives C (tried_by (offers t b false) K) L cells r → is_some r ≡ true → Gives C (chosen_by t b K) L cells r
  chosen_first t b h k e = chosen_all t b h (try_hit (offers t b false) (offers t b true) k e)

  pub chosen_second : (t b : List ℕ) → length b ≤ 2 → {old : List ℕ} {a r : Option ℕ} → Gives C (tried_by (offers t b false) K) L old a → is_some a ≡ false →
      Gives C (tried_by (offers t b true) K) L cells r → Gives C (chosen_by t b K) L cells r
  chosen_second t b h k e m = chosen_all t b h (try_miss (offers t b false) (offers t b true) k e m)

  -- three backward clusters or more: none is listed
  pub chosen_none : (t b : List ℕ) → 2 < length b → Gives C (chosen_by t b K) L cells None
  unfolding listed first_viable
  chosen_none t b h = no_order (λ H f. ap (λ (l : List (List Op)). first_viable l (ops H K)) (none_listed H b h))
    where
      none_listed : (H : List Op) (b : List ℕ) → 2 < length b → listed (ops H t) (ops H b) ≡ []
      none_listed H [] k = absurd (omega arith)
      none_listed H (v ∷ []) k = absurd (omega arith)
      none_listed H (v ∷ (w ∷ [])) k = absurd (omega arith)
      none_listed H (v ∷ (w ∷ (x ∷ b))) k = refl

-- What the laying out of an order requires and leaves; k and f are the two ends.
module _ (t b : List ℕ) (flip swap : Bool) (k f : Option ℕ) (e : k ≡ end_at b flip) (d : f ≡ end_at b (not flip)) where
  pub ends_fit : (n : ℕ) → length t + length b ≤ n → length (one_of k) + length t + length (one_of f) ≤ n
  ends_fit n h = omega (arith, ap (λ (w : Option ℕ). length (one_of w)) e, ap (λ (w : Option ℕ). length (one_of w)) d, sides_length b flip)

  pub all_laid : (o₀ o₁ o₂ o₃ : List ℕ) (m i r : ℕ) → take m o₁ ≡ take 0 o₀ ++ one_of k → take i o₂ ≡ take m o₁ ++ backward (swap_if swap t) →
      take r o₃ ≡ take i o₂ ++ one_of f → take r o₃ ≡ backward (offer t b flip swap)
  all_laid o₀ o₁ o₂ o₃ m i r p q s =
      s
      ∙ ap (λ (l : List ℕ). l ++ one_of f) (q ∙ ap (λ (l : List ℕ). l ++ backward (swap_if swap t)) (p ∙ ap one_of e))
      ∙ ap (λ (w : Option ℕ). (one_of (end_at b flip) ++ backward (swap_if swap t)) ++ one_of w) d
      ∙ laid_out t b flip swap
