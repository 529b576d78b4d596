-- Where the clusters of a chunk stand by position: a forward one behind any two forward ones of smaller low end (`behind`), a backward one
-- before all the forward ones or after them all (`side`), and no two backward ones on one side (`ends`).
-- Assumes nothing.
use Prim.Native.Nat.{ℕ, min, max, ◌≤◌, ◌<◌}
use mathlib.Core.Path.{◌≡◌, refl, ap}
use mathlib.Core.Logic.{◌≢◌, ◌⊎◌, inl, inr, ⊎_elim}
use mathlib.Core.List.Memᴰ
use mathlib.Core.List.Memᴰ.{append_left as on-left}
use mathlib.Core.List.Memᴰ.{append_right as on-right}
use mathlib.Core.List.Memᴰ.{head as here}
use mathlib.Core.List.{
  List,
  ◌∷◌,
  ◌++◌,
  Memᴰ as In,
}
use native.Mathlib.Decide.{dec_lt}
use native.Mathlib.Omega.{arith}
use Rattle.chunks.specs.Chunk.{Chunk, Placing}
use Rattle.chunks.proofs.Rising.{Before, After, Ends}
use Rattle.chunks.proofs.Connect.{connected}

module _ {N : Type 0} {f M pos : N → ℕ} {a : N} {A B : List N} (k : Chunk f M a A B) (p : Placing f M pos (a ∷ A ++ B)) where
  in_a : {x : N} → In x (a ∷ A) → In x (a ∷ A ++ B)
  in_a i = on-left B i

  in_b : {x : N} → In x B → In x (a ∷ A ++ B)
  in_b i = on-right (a ∷ A) i

  -- With another cluster between them, the later of two does not finish below a start of the earlier.
  far : {x y z : N} → In x (a ∷ A ++ B) → In y (a ∷ A ++ B) → In z (a ∷ A ++ B) → pos x < pos z → pos z < pos y → ¬ (f y < M x)
  far {x} {y} {z} i j l h h' q = ⊎_elim (λ r. omega arith) (λ r. r.1 z l h h') (p.rule y x j i (λ e. omega (arith, ap pos e)) q)

  -- Of the pair across a cut at the position of `v`, the later one is `v`: else `v` would be between the two.
  across : {u v y : N} → In u (a ∷ A) → In y (a ∷ A) → In v (a ∷ A ++ B) → pos u < pos v → pos v ≤ pos y →
      In v (a ∷ A) × ((x : N) × In x (a ∷ A) × (pos x < pos v) × (f v < M x))
  across {u} {v} {y} i j l h h' =
      let (x, z, xi, zi, q, q', r) = connected k pos (pos v) u y i j h h' in
      let n : ¬ (pos v < pos z) = λ s. far (in_a xi) (in_a zi) l q s r in
      let e : v ≡ z = p.apart v z l (in_a zi) (omega arith) in
      (Memᴰ.cast e zi, (x, xi, q, omega (arith, ap f e)))

  -- Behind the first by position, the forward clusters come by low end.
  later : {u w t : N} → In u (a ∷ A) → In w (a ∷ A) → In t (a ∷ A) → pos u < pos w → pos w < pos t → f w < f t
  later i j l h h' = let (x, m, q, r) = (across i j (in_a j) h (omega arith)).1 in omega (arith, far (in_a m) (in_a l) (in_a j) q h')

  -- A forward cluster stands behind any two forward ones of smaller low end: it is not between them by `later`, and it is not before both,
  -- as it has starts above the low ends of both.
  pub behind : {x y z : N} → In x (a ∷ A) → In y (a ∷ A) → In z (a ∷ A) → f x < f y → f z < f y → f x ≢ f z → pos x < pos y
  behind {x} {y} {z} i j l h h' n =
      let xy : pos x ≢ pos y = λ e. omega (arith, ap f (p.apart x y (in_a i) (in_a j) e)) in
      let zy : pos z ≢ pos y = λ e. omega (arith, ap f (p.apart z y (in_a l) (in_a j) e)) in
      let xz : pos x ≢ pos z = λ e. n (ap f (p.apart x z (in_a i) (in_a l) e)) in
      let d : f y < M y = k.forward y j in
      let refused : ¬ (pos y < pos x) =
      λ q.
      let s : ¬ (pos z < pos y) = λ r. omega (arith, later l j i r q) in
      let t : ¬ (pos x < pos z) = λ r. far (in_a j) (in_a l) (in_a i) q r (omega arith) in
      far (in_a j) (in_a i) (in_a l) (omega arith) (omega arith) (omega arith) in
      omega arith

  not_both : {b : N} → In b (a ∷ A) → In b B → ⊥
  not_both {b} i j = omega (arith, k.forward b i, k.backward b j)

  -- A backward cluster stands behind all the forward ones or none.
  all_or_none : {x y b : N} → In x (a ∷ A) → In y (a ∷ A) → In b B → pos x < pos b → pos y < pos b
  all_or_none {y} {b} i j l h = let n : ¬ (pos b ≤ pos y) = λ q. not_both (across i j (in_b l) h q).0 l in omega arith

  pub side : (b : N) → In b B → Before pos (a ∷ A) b ⊎ After pos (a ∷ A) b
  side b j =
      elim (dec_lt (pos a) (pos b)) [
        | yes h ↦ inr (λ x i. all_or_none (here refl) i j h)
        | no h ↦
            inl λ x i.
            let n : ¬ (pos x < pos b) = λ q. omega (arith, all_or_none i (here refl) j q) in
            let m : pos b ≢ pos x = λ e. not_both (Memᴰ.cast (p.apart b x (in_b j) (in_a i) e) i) j in
            omega arith
      ]

  -- Of two backward clusters, the earlier stands before the forward ones and the later after them. Else one would come between the other and
  -- a forward one: the first, whose low end is below that of the earlier, or the one whose high end is above that of the later.
  ranked : {b c : N} → In b B → In c B → pos b < pos c → Ends pos (a ∷ A) b c
  ranked {b} {c} i j h = (
    ⊎_elim (λ q. q) (λ q. let (g, m, l) = k.below c j in absurd (far (in_a m) (in_b j) (in_b i) (q g m) h l)) (side b i),
    ⊎_elim (λ q. absurd (far (in_b i) (in_a (here refl)) (in_b j) h (q a (here refl)) (k.above b i))) (λ q. q) (side c j),
  )

  pub ends : {b c : N} → In b B → In c B → b ≢ c → Ends pos (a ∷ A) b c ⊎ Ends pos (a ∷ A) c b
  ends {b} {c} i j n =
      let m : pos b ≢ pos c = λ e. n (p.apart b c (in_b i) (in_b j) e) in
      elim (dec_lt (pos b) (pos c)) [ yes h ↦ inl (ranked i j h) | no h ↦ inr (ranked j i (omega arith)) ]

  -- The first forward cluster stands between any two backward ones.
  pub astride : {b c : N} → In b B → In c B → b ≢ c → (min (pos b) (pos c) < pos a) × (pos a < max (pos b) (pos c))
  astride {b} {c} i j n = go (ends i j n)
    where
      go : Ends pos (a ∷ A) b c ⊎ Ends pos (a ∷ A) c b → (min (pos b) (pos c) < pos a) × (pos a < max (pos b) (pos c))
      go (inl (q, r)) = (omega (arith, q a (here refl)), omega (arith, r a (here refl)))
      go (inr (q, r)) = (omega (arith, q a (here refl)), omega (arith, r a (here refl)))
