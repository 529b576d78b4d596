-- A chunk of clusters, places for its clusters, and the orders that figure 4 lists for it.
-- Assumes nothing.
use Rattle.std.specs.Prelude.{ℕ, ◌<◌, ◌≡◌, ◌≢◌, ◌⊎◌}
use mathlib.Core.List.{List, [], ◌∷◌, ◌++◌, Memᴰ as In}
use Rattle.lists.specs.Pairs.{Pairs}

-- A cluster is any name; `f` is its smallest finish and `M` its largest start. A forward cluster has the zone from `f` to `M`, a backward
-- one the zone from `M` to `f`.
module _ {N : Type 0} where
  -- `g` rises along the list
  abbrev pub Rising : (N → ℕ) → List N → Type 0
  Rising g l = Pairs (λ x y. g x < g y) l

  -- The forward clusters `a ∷ A` rise in low end, each but the first has its low end inside the zone of an earlier one, and the zone of
  -- each backward cluster lies between the low end of `a` and the high end of a forward one.
  pub record Chunk (f M : N → ℕ) (a : N) (A B : List N) : Type 0 where
    pub rising : Rising f (a ∷ A)
    pub forward : (x : N) → In x (a ∷ A) → f x < M x
    pub linked : (x : N) → In x A → (y : N) × In y (a ∷ A) × (f y < f x) × (f x < M y)
    pub backward : (b : N) → In b B → M b < f b
    pub above : (b : N) → In b B → f a < M b
    pub below : (b : N) → In b B → (g : N) × In g (a ∷ A) × (f b < M g)
    pub distinct : Pairs ◌≢◌ B

  -- `pos` tells the clusters of `W` apart, and where `x` finishes below a start of `c`, it stands before `c` or is the very next one.
  pub record Placing (f M pos : N → ℕ) (W : List N) : Type 0 where
    pub apart : (x y : N) → In x W → In y W → pos x ≡ pos y → x ≡ y
    pub rule : (x c : N) → In x W → In c W → x ≢ c → f x < M c →
        (pos x < pos c) ⊎ ((pos c < pos x) × ((z : N) → In z W → pos c < pos z → pos z < pos x → ⊥))

  -- `U` is `A` with its first two elements interchanged
  abbrev pub Swapped : List N → List N → Type 0
  Swapped A U = (x : N) × (y : N) × (T : List N) × (A ≡ x ∷ y ∷ T) × (U ≡ y ∷ x ∷ T)

  -- `L` is `U` with the elements of `B` around it: at most two, one at each end
  abbrev pub Around : List N → List N → List N → Type 0
  Around U [] L = L ≡ U
  Around U (b ∷ []) L = (L ≡ b ∷ U) ⊎ (L ≡ U ++ b ∷ [])
  Around U (b ∷ c ∷ []) L = (L ≡ b ∷ U ++ c ∷ []) ⊎ (L ≡ c ∷ U ++ b ∷ [])
  Around U (b ∷ c ∷ d ∷ B) L = ⊥
