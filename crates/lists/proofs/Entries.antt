-- A list in which each element of another has as many numbers as the next: where they stand, and the loop that writes them.
-- Assumes nothing.
use Prim.Native.Nat.{ℕ, zero, suc, ◌+◌, ◌*◌, ◌≤◌, ◌<◌}
use mathlib.Core.Path.{◌≡◌, refl, sym, ap, ◌∙◌}
use mathlib.Core.List.{List, [], ◌∷◌, ◌++◌, flat_map, append-nil, append_assoc}
use native.Mathlib.Nat.{mul-le-mul_right}
use native.Mathlib.Numerals.{add-one}
use native.Mathlib.Omega.{arith}
use lib.ListN.{length, get_or, take, drop, length-append, length-drop, get_or-append}
use lib.Seq.{sets, length-sets, take-suc, take-length, length-take-le, ext_get_or, get_or-take, get_or-drop, get_or-append-add}
use Rattle.lists.proofs.Stores.{sets_behind, sets_front}

flat_append : {A B : Type 0} (f : A → List B) (a b : List A) → flat_map f (a ++ b) ≡ flat_map f a ++ flat_map f b
unfolding flat_map
flat_append f [] b = refl
flat_append f (x ∷ a) b = ap (λ l. f x ++ l) (flat_append f a b) ∙ sym (append_assoc (f x) (flat_map f a) (flat_map f b))

-- `f`: the w numbers of an element
module _ {A : Type 0} (f : A → List ℕ) (w : ℕ) (wide : (x : A) → length (f x) ≡ w) where
  pub flat_long : (l : List A) → length (flat_map f l) ≡ length l * w
  unfolding flat_map
  flat_long [] = omega arith
  flat_long (x ∷ l) = length-append (f x) (flat_map f l) ∙ omega (arith, wide x, flat_long l)

  -- number j of those of element i
  pub flat_at : (d : A) (l : List A) (rest : List ℕ) (i j : ℕ) → i < length l → j < w → get_or (flat_map f l ++ rest) (i * w + j) 0 ≡ get_or (f (get_or l i d)) j 0
  unfolding flat_map
  flat_at d [] rest i j a b = absurd (omega arith)
  flat_at d (x ∷ l) rest zero j a b =
      let e : 0 * w + j ≡ j = omega arith in
      ap (λ (k : ℕ). get_or (f x ++ flat_map f l ++ rest) k 0) e
      ∙ ap (λ (m : List ℕ). get_or m j 0) (append_assoc (f x) (flat_map f l) rest)
      ∙ get_or-append (f x) (flat_map f l ++ rest) 0 j (omega (arith, wide x))
  flat_at d (x ∷ l) rest (suc i) j a b =
      let e : suc i * w + j ≡ length (f x) + (i * w + j) = omega (arith, wide x) in
      ap (λ (k : ℕ). get_or (f x ++ flat_map f l ++ rest) k 0) e
      ∙ ap (λ (m : List ℕ). get_or m (length (f x) + (i * w + j)) 0) (append_assoc (f x) (flat_map f l) rest)
      ∙ get_or-append-add (f x) (flat_map f l ++ rest) (i * w + j) 0
      ∙ flat_at d l rest i j (omega arith) b

  -- all of them
  pub flat_part : (d : A) (l : List A) (rest : List ℕ) (i : ℕ) → i < length l → take w (drop (i * w) (flat_map f l ++ rest)) ≡ f (get_or l i d)
  flat_part d l rest i h =
      ext_get_or 0 _ _ (same ∙ sym (wide (get_or l i d))) (
      λ j k.
      let b : j < w = omega (arith, k, same) in
      get_or-take w (drop (i * w) (flat_map f l ++ rest)) j 0 b ∙ get_or-drop (i * w) (flat_map f l ++ rest) j 0 ∙ flat_at d l rest i j h b
      )
    where
      same : length (take w (drop (i * w) (flat_map f l ++ rest))) ≡ w
      same =
          let e : suc i * w ≡ i * w + w = omega arith in
          let m : suc i * w ≤ length l * w = mul-le-mul_right w h in
          length-take-le w (drop (i * w) (flat_map f l ++ rest))
          (omega (arith, length-drop (i * w) (flat_map f l ++ rest), length-append (flat_map f l) rest, flat_long l))

-- the numbers of the first i elements are written
pub record Entered (f : ℕ → List ℕ) (elements list₀ : List ℕ) (i : ℕ) (list : List ℕ) : Type 0 where
  pub within : i ≤ length elements
  pub stored : list ≡ sets list₀ 0 (flat_map f (take i elements))

module _ (f : ℕ → List ℕ) (elements list₀ : List ℕ) where
  pub entered_long : (i : ℕ) (list : List ℕ) → Entered f elements list₀ i list → length list ≡ length list₀
  entered_long i list e = ap length e.stored ∙ length-sets list₀ 0 (flat_map f (take i elements))

  pub entered_none : Entered f elements list₀ 0 list₀
  unfolding flat_map
  entered_none = record { within = omega arith; stored = refl }

  module _ (w : ℕ) (wide : (x : ℕ) → length (f x) ≡ w) where
    pub entered_more : (i element : ℕ) (list next : List ℕ) → i < length elements → element ≡ get_or elements i 0 → next ≡ sets list (i * w) (f element) →
        Entered f elements list₀ i list → Entered f elements list₀ (i + 1) next
    unfolding flat_map
    entered_more i element list next h r n e =
        let done = flat_map f (take i elements) in
        let long : length done ≡ i * w = flat_long f w wide (take i elements) ∙ ap (λ (k : ℕ). k * w) (length-take-le i elements (omega arith)) in
        record {
          within = omega arith;
          stored =
              n
              ∙ ap (λ (l : List ℕ). sets l (i * w) (f element)) e.stored
              ∙ sets_behind done (f element) list₀ 0 (i * w) (omega (arith, long))
              ∙ ap (sets list₀ 0) (ap (λ (l : List ℕ). done ++ l) (sym (append-nil (f element)) ∙ ap (λ (x : ℕ). flat_map f (x ∷ [])) r) ∙ sym (flat_append f (take i elements) (get_or elements i 0 ∷ [])) ∙ ap (flat_map f) (sym one_more));
        }
      where
        one_more : take (i + 1) elements ≡ take i elements ++ (get_or elements i 0 ∷ [])
        one_more = rw (add-one i) (take-suc elements i 0 h)

    -- the list has places for the next one's numbers
    pub entered_room : (i : ℕ) (list : List ℕ) → Entered f elements list₀ i list → length elements * w ≤ length list₀ → i < length elements → i * w + w ≤ length list
    entered_room i list e room h =
        let k : suc i * w ≡ i * w + w = omega arith in
        let m : suc i * w ≤ length elements * w = mul-le-mul_right w h in
        omega (arith, entered_long i list e)

    pub entered_end : (i : ℕ) (list : List ℕ) → length elements ≤ i → length elements * w ≤ length list₀ → Entered f elements list₀ i list →
        list ≡ flat_map f elements ++ drop (length (flat_map f elements)) list₀
    entered_end i list h room e =
        let k : i ≡ length elements = omega (arith, e.within) in
        e.stored
        ∙ ap (λ (l : List ℕ). sets list₀ 0 (flat_map f l)) (ap (λ (j : ℕ). take j elements) k ∙ take-length elements)
        ∙ sets_front (flat_map f elements) list₀ (omega (arith, room, flat_long f w wide elements))
