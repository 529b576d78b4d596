-- The loop over the places that chains the first ones in their buckets.
-- Assumes nothing.
use Prim.Native.Nat.{ℕ, ◌+◌, ◌-◌, ◌≤◌, ◌<◌}
use mathlib.Core.Path.{◌≡◌, refl, sym, ◌∙◌}
use mathlib.Core.Logic.{◌⊎◌, inl, inr, ◌≢◌}
use mathlib.Core.List.{List}
use native.Mathlib.Omega.{arith}
use lib.ListN.{length, get_or, set, length-set}
use lib.Seq.{get_or-set_same, get_or-set_other}
use Rattle.firsts.specs.Firsts.{First}
use Rattle.holders.specs.Buckets.{bucket_of, Held, Last, Started, Room}
use Rattle.holders.proofs.Walking.{below}

pub record Hashing (n : ℕ) (keys : List ℕ) (e : ℕ) (heads next out heads₀ next₀ out₀ : List ℕ) : Type 0 where
  pub within : e ≤ length keys
  pub buckets : length heads ≡ length heads₀
  pub links : length next ≡ length next₀
  pub places : length out ≡ length out₀
  pub firsts : (j : ℕ) → j < e → First keys j (get_or out j 0)
  pub chained : (j : ℕ) → j < e → First keys j j → Last n keys (bucket_of n keys j) j (get_or next j 0)
  pub linked : (h : ℕ) → h < n → Last n keys h e (get_or heads h 0)

-- the bound of a link, one place on
last_on : (n : ℕ) (keys : List ℕ) (h e k : ℕ) → (Held n keys h e → ⊥) → Last n keys h e k → Last n keys h (e + 1) k
last_on n keys h e k d g = record { within = omega (arith, g.within); at = g.at; none = λ j a b x. go j a b x (below j e) }
  where
    go : (j : ℕ) → k ≤ j → j < e + 1 → Held n keys h j → (j < e) ⊎ (e ≤ j) → ⊥
    go j a b x (inl c) = g.none j a c x
    go j a b x (inr c) = let i : j ≡ e = omega arith in d (rw (← i) x)

module _ (n : ℕ) (keys heads₀ next₀ out₀ : List ℕ) (r : Room n keys heads₀ next₀ out₀) where
  module _ (e : ℕ) (heads next out : List ℕ) (g : Hashing n keys e heads next out heads₀ next₀ out₀) where
    module _ (l : e < length keys) where
      pub hash_started : (h : ℕ) → h ≡ bucket_of n keys e → h < n → Started n keys next e (get_or heads h 0)
      hash_started h q b =
          record {
            inside = l;
            room = omega (arith, g.links, r.links);
            chained = g.chained;
            known = λ j c. let x = g.firsts j c in (get_or out j 0, omega (arith, x.least j (omega arith) refl), x);
            linked = rw (← q) (g.linked h b);
          }

      -- the first place of the key was met
      pub hash_found : (f : ℕ) → f < e → First keys e f → Hashing n keys (e + 1) heads next (set out e f) heads₀ next₀ out₀
      hash_found f c x =
          record {
            within = omega arith;
            buckets = g.buckets;
            links = g.links;
            places = length-set out e f ∙ g.places;
            firsts = λ j b. first j b (below j e);
            chained = λ j b y. chain j b y (below j e);
            linked = λ h b. last_on n keys h e _ (λ y. late y.first) (g.linked h b);
          }
        where
          late : First keys e e → ⊥
          late y = omega (arith, y.least f (omega arith) x.same)

          first : (j : ℕ) → j < e + 1 → (j < e) ⊎ (e ≤ j) → First keys j (get_or (set out e f) j 0)
          first j b (inl d) = rw (get_or-set_other out e j f 0 (λ q. omega arith)) (g.firsts j d)
          first j b (inr d) =
              let q : j ≡ e = omega arith in
              let w : e < length out = omega (arith, g.places, r.places) in
              rw (q, get_or-set_same out e f 0) x

          chain : (j : ℕ) → j < e + 1 → First keys j j → (j < e) ⊎ (e ≤ j) → Last n keys (bucket_of n keys j) j (get_or next j 0)
          chain j b y (inl d) = g.chained j d y
          chain j b y (inr d) = let q : j ≡ e = omega arith in absurd (late (rw q at y))

      -- e is the first place of its key
      pub hash_new : (h : ℕ) → h ≡ bucket_of n keys e → h < n → First keys e e →
          Hashing n keys (e + 1) (set heads h (e + 1)) (set next e (get_or heads h 0)) (set out e e) heads₀ next₀ out₀
      hash_new h q b x =
          record {
            within = omega arith;
            buckets = length-set heads h (e + 1) ∙ g.buckets;
            links = length-set next e (get_or heads h 0) ∙ g.links;
            places = length-set out e e ∙ g.places;
            firsts = λ j c. first j c (below j e);
            chained = λ j c y. chain j c y (below j e);
            linked = λ i c. link i c (apart i h);
          }
        where
          apart : (i h : ℕ) → (i ≡ h) ⊎ (i ≢ h)
          apart i h = go (below i h) (below h i)
            where
              go : (i < h) ⊎ (h ≤ i) → (h < i) ⊎ (i ≤ h) → (i ≡ h) ⊎ (i ≢ h)
              go (inl a) c = inr (λ p. omega arith)
              go (inr a) (inl c) = inr (λ p. omega arith)
              go (inr a) (inr c) = inl (omega arith)

          first : (j : ℕ) → j < e + 1 → (j < e) ⊎ (e ≤ j) → First keys j (get_or (set out e e) j 0)
          first j c (inl d) = rw (get_or-set_other out e j e 0 (λ p. omega arith)) (g.firsts j d)
          first j c (inr d) =
              let p : j ≡ e = omega arith in
              let w : e < length out = omega (arith, g.places, r.places) in
              rw (p, get_or-set_same out e e 0) x

          chain : (j : ℕ) → j < e + 1 → First keys j j → (j < e) ⊎ (e ≤ j) → Last n keys (bucket_of n keys j) j (get_or (set next e (get_or heads h 0)) j 0)
          chain j c y (inl d) = rw (get_or-set_other next e j (get_or heads h 0) 0 (λ p. omega arith)) (g.chained j d y)
          chain j c y (inr d) =
              let p : j ≡ e = omega arith in
              let w : e < length next = omega (arith, g.links, r.links) in
              rw (p, get_or-set_same next e (get_or heads h 0) 0, ← q) (g.linked h b)

          link : (i : ℕ) → i < n → (i ≡ h) ⊎ (i ≢ h) → Last n keys i (e + 1) (get_or (set heads h (e + 1)) i 0)
          link i c (inl p) =
              let w : h < length heads = omega (arith, g.buckets, r.chains) in
              let m : (e + 1) - 1 ≡ e = omega arith in
              rw (p, get_or-set_same heads h (e + 1) 0)
              (record { within = omega arith; at = λ y. rw m (record { first = x; here = sym q }); none = λ j a d y. absurd (omega arith) })
          link i c (inr p) =
              rw (get_or-set_other heads h i (e + 1) 0 p) (last_on n keys i e (get_or heads i 0) (λ y. p (sym y.here ∙ sym q)) (g.linked i c))
