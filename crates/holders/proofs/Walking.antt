-- The loop along a chain that looks for a key.
-- Assumes nothing.
use Prim.Native.Nat.{ℕ, ◌-◌, ◌%◌, ◌≤◌, ◌<◌}
use mathlib.Core.Path.{◌≡◌, refl, ap, sym, ◌∙◌}
use mathlib.Core.Logic.{◌⊎◌, inl, inr}
use mathlib.Core.List.{List}
use native.Mathlib.Omega.{arith}
use mathlib.Core.Bool.{Bool, true, false}
use lib.Dec.{ltb}
use borrow.Author.Tests.{ltb-true, ltb-false}
use lib.ListN.{get_or}
use Rattle.firsts.specs.Firsts.{First}
use Rattle.holders.specs.Buckets.{bucket_of, Held, Last, Started}

-- below e, no first place from k on has e's key; and k is a link of e's bucket
pub record Walking (n : ℕ) (keys : List ℕ) (e k : ℕ) : Type 0 where
  pub within : k ≤ e
  pub at : 0 < k → Held n keys (bucket_of n keys e) (k - 1)
  pub missed : (j : ℕ) → k ≤ j → j < e → First keys j j → get_or keys j 0 ≡ get_or keys e 0 → ⊥

-- a number is below another or not
pub below : (m n : ℕ) → (m < n) ⊎ (n ≤ m)
below m n = go (ltb m n) refl
  where
    go : (b : Bool) → ltb m n ≡ b → (m < n) ⊎ (n ≤ m)
    go true e = inl (ltb-true m n e)
    go false e = inr (ltb-false m n e)

-- the first place of a key is its own first place
pub own_first : (keys : List ℕ) (j f : ℕ) → First keys j f → First keys f f
own_first keys j f g = record { same = refl; least = λ i l e. g.least i l (e ∙ g.same) }

module _ (n : ℕ) (keys next : List ℕ) (e link : ℕ) (s : Started n keys next e link) where
  abbrev same_bucket : (j : ℕ) → get_or keys j 0 ≡ get_or keys e 0 → bucket_of n keys j ≡ bucket_of n keys e
  same_bucket j q = ap (λ (x : ℕ). x % n) q

  module _ (k : ℕ) (g : Walking n keys e k) where
    module _ (some : 0 < k) where
      before : Last n keys (bucket_of n keys (k - 1)) (k - 1) (get_or next (k - 1) 0)
      before = s.chained (k - 1) (omega (arith, g.within)) (g.at some).first

      pub walk_on : (get_or keys (k - 1) 0 ≡ get_or keys e 0 → ⊥) → Walking n keys e (get_or next (k - 1) 0)
      walk_on d =
          record {
            within = omega (arith, before.within, g.within);
            at = λ l. let x = before.at l in record { first = x.first; here = x.here ∙ (g.at some).here };
            missed = λ j a l f q. go j a l f q (below j (k - 1)) (below j k);
          }
        where
          go : (j : ℕ) → get_or next (k - 1) 0 ≤ j → j < e → First keys j j → get_or keys j 0 ≡ get_or keys e 0 → (j < k - 1) ⊎ (k - 1 ≤ j) → (j < k) ⊎ (k ≤ j) → ⊥
          go j a l f q (inl c) x = before.none j a c (record { first = f; here = same_bucket j q ∙ sym (g.at some).here })
          go j a l f q (inr c) (inl x) = let i : j ≡ k - 1 = omega arith in d (rw (← i) q)
          go j a l f q (inr c) (inr x) = g.missed j x l f q

    pub walk_end : k ≡ 0 → First keys e e
    walk_end z = record { same = refl; least = λ j l q. go j q (below j e) }
      where
        go : (j : ℕ) → get_or keys j 0 ≡ get_or keys e 0 → (j < e) ⊎ (e ≤ j) → e ≤ j
        go j q (inr c) = c
        go j q (inl c) =
            let (f, l, x) = s.known j c in
            absurd (g.missed f (omega arith) l (own_first keys j f x) (x.same ∙ q))
