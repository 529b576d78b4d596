-- The orders that figure 4 lists for a chunk: each is a permutation of its writes, and each order that its positions can have is listed.
-- Assumes nothing.
use mathlib.Core.Path.{◌≡◌, refl, ◌∙◌}
use mathlib.Core.Logic.{◌⊎◌, inl, inr}
use mathlib.Core.List.Memᴰ.{head as here}
use mathlib.Core.List.Memᴰ.{tail as there}
use mathlib.Core.List.{List, [], ◌∷◌, ◌++◌, Memᴰ as In}
use Rattle.lists.specs.Pairs.{Pairs, nil, cons}
use Rattle.history.specs.declared.Op.{Op}
use Rattle.methods.specs.Fzf.{swap, listed, back}
use Rattle.chunks.specs.Chunk.{Swapped, Around}

pub data Perm : List Op → List Op → Type 0 where
  p_nil : Perm [] []
  p_cons : {x : Op} {l m : List Op} → Perm l m → Perm (x ∷ l) (x ∷ m)
  p_swap : {x y : Op} {l : List Op} → Perm (x ∷ y ∷ l) (y ∷ x ∷ l)
  p_trans : {l m n : List Op} → Perm l m → Perm m n → Perm l n

perm_refl : (l : List Op) → Perm l l
perm_refl [] = p_nil
perm_refl (x ∷ l) = p_cons (perm_refl l)

pub perm_sym : {l m : List Op} → Perm l m → Perm m l
perm_sym p_nil = p_nil
perm_sym (p_cons p) = p_cons (perm_sym p)
perm_sym p_swap = p_swap
perm_sym (p_trans p q) = p_trans (perm_sym q) (perm_sym p)

pub perm_in : {l m : List Op} {x : Op} → Perm l m → In x l → In x m
perm_in (p_cons p) (here e) = here e
perm_in (p_cons p) (there i) = there (perm_in p i)
perm_in p_swap (here e) = there (here e)
perm_in p_swap (there (here e)) = here e
perm_in p_swap (there (there i)) = there (there i)
perm_in (p_trans p q) i = perm_in q (perm_in p i)
perm_in p_nil i = elim i [ ]

-- a symmetric relation between all elements holds in any order
pub perm_pairs : {S : Op → Op → Type 0} → ((x y : Op) → S x y → S y x) → {l m : List Op} → Perm l m → Pairs S l → Pairs S m
perm_pairs flip p_nil nil = nil
perm_pairs flip (p_cons p) (cons u t) = cons (λ y i. u y (perm_in (perm_sym p) i)) (perm_pairs flip p t)
perm_pairs {S} flip (p_swap {x = x} {y = y} {l = l}) (cons u (cons v t)) = cons first (cons (λ z i. u z (there i)) t)
  where
    first : (z : Op) → In z (x ∷ l) → S y z
    first z (here e) = rw e (flip x y (u y (here refl)))
    first z (there i) = v z i
perm_pairs flip (p_trans p q) t = perm_pairs flip q (perm_pairs flip p t)

-- Parts permuted, and a write put in front.

perm_append : {l m : List Op} → Perm l m → (n : List Op) → Perm (l ++ n) (m ++ n)
perm_append p_nil n = perm_refl n
perm_append (p_cons p) n = p_cons (perm_append p n)
perm_append p_swap n = p_swap
perm_append (p_trans p q) n = p_trans (perm_append p n) (perm_append q n)

perm_behind : (l : List Op) {m n : List Op} → Perm m n → Perm (l ++ m) (l ++ n)
perm_behind [] p = p
perm_behind (x ∷ l) p = p_cons (perm_behind l p)

perm_front : (x : Op) (l m : List Op) → Perm (l ++ x ∷ m) (x ∷ l ++ m)
perm_front x [] m = perm_refl (x ∷ m)
perm_front x (y ∷ l) m = p_trans (p_cons (perm_front x l m)) p_swap

perm_end : (l : List Op) → Perm (l ++ []) l
perm_end [] = p_nil
perm_end (x ∷ l) = p_cons (perm_end l)

pub perm_back : (l : List Op) → Perm l (back l)
unfolding back
perm_back [] = p_nil
perm_back (x ∷ l) = p_trans (p_cons (p_trans (perm_back l) (perm_sym (perm_end (back l))))) (perm_sym (perm_front x (back l) []))

perm_swap : (t : List Op) → Perm t (swap t)
unfolding swap
perm_swap [] = p_nil
perm_swap (x ∷ []) = perm_refl (x ∷ [])
perm_swap (x ∷ y ∷ l) = p_swap

module _ {t u : List Op} (p : Perm t u) where
  in_front : (w : Op) → Perm (t ++ w ∷ []) (w ∷ u)
  in_front w = p_trans (perm_front w t []) (p_cons (p_trans (perm_end t) p))

  around : (v w : Op) → Perm (t ++ v ∷ w ∷ []) (v ∷ u ++ w ∷ [])
  around v w = p_trans (perm_front v t (w ∷ [])) (p_cons (perm_append p (w ∷ [])))

  turned : (v w : Op) → Perm (t ++ v ∷ w ∷ []) (w ∷ u ++ v ∷ [])
  turned v w = p_trans (perm_behind t p_swap) (around w v)

pub listed_perm : (t b : List Op) {l : List Op} → In l (listed t b) → Perm (t ++ b) l
unfolding listed
listed_perm t [] (here e) = rw e (perm_end t)
listed_perm t [] (there (here e)) = rw e (p_trans (perm_end t) (perm_swap t))
listed_perm t (w ∷ []) (here e) = rw e (in_front (perm_refl t) w)
listed_perm t (w ∷ []) (there (here e)) = rw e (perm_refl (t ++ w ∷ []))
listed_perm t (w ∷ []) (there (there (here e))) = rw e (in_front (perm_swap t) w)
listed_perm t (w ∷ []) (there (there (there (here e)))) = rw e (perm_append (perm_swap t) (w ∷ []))
listed_perm t (v ∷ w ∷ []) (here e) = rw e (around (perm_refl t) v w)
listed_perm t (v ∷ w ∷ []) (there (here e)) = rw e (turned (perm_refl t) v w)
listed_perm t (v ∷ w ∷ []) (there (there (here e))) = rw e (around (perm_swap t) v w)
listed_perm t (v ∷ w ∷ []) (there (there (there (here e)))) = rw e (turned (perm_swap t) v w)
listed_perm t (v ∷ w ∷ x ∷ b) i = elim i [ ]
listed_perm t [] {l = l} (there (there x9)) = elim x9 [ ]
listed_perm t (w ∷ []) {l = l} (there (there (there (there x20)))) = elim x20 [ ]
listed_perm t (v ∷ (w ∷ [])) {l = l} (there (there (there (there x23)))) = elim x23 [ ]

-- What the positions allow is listed.
pub allowed_listed : (t b u l : List Op) → (u ≡ t) ⊎ Swapped t u → Around u b l → In l (listed t b)
unfolding listed swap
allowed_listed t b u l h a = go b l (as_swap h) a
  where
    as_swap : (u ≡ t) ⊎ Swapped t u → (u ≡ t) ⊎ (u ≡ swap t)
    as_swap (inl e) = inl e
    as_swap (inr (x, y, s, e, q)) = inr (rw (e, q))

    go : (b l : List Op) → (u ≡ t) ⊎ (u ≡ swap t) → Around u b l → In l (listed t b)
    go [] l (inl e) a = here (a ∙ e)
    go [] l (inr e) a = there (here (a ∙ e))
    go (w ∷ []) l (inl e) (inl a) = here (rw e at a)
    go (w ∷ []) l (inl e) (inr a) = there (here (rw e at a))
    go (w ∷ []) l (inr e) (inl a) = there (there (here (rw e at a)))
    go (w ∷ []) l (inr e) (inr a) = there (there (there (here (rw e at a))))
    go (v ∷ w ∷ []) l (inl e) (inl a) = here (rw e at a)
    go (v ∷ w ∷ []) l (inl e) (inr a) = there (here (rw e at a))
    go (v ∷ w ∷ []) l (inr e) (inl a) = there (there (here (rw e at a)))
    go (v ∷ w ∷ []) l (inr e) (inr a) = there (there (there (here (rw e at a))))
    go (v ∷ w ∷ x ∷ b) l h a = absurd a
