-- The first places of the keys, in a chain for each bucket: from the last one back, each link one more than the place, 0 at the end.
-- Assumes nothing.
use Rattle.std.specs.Prelude.{ℕ, ◌-◌, ◌%◌, ◌≤◌, ◌<◌, ◌≡◌, List, length, get_or, Option, MatchOption}
use Rattle.firsts.specs.Firsts.{First}

-- the most keys
abbrev pub most_keys : ℕ
most_keys = 1024

-- the bucket of the key of place j, of n buckets
abbrev pub bucket_of : ℕ → List ℕ → ℕ → ℕ
bucket_of n keys j = get_or keys j 0 % n

-- j is the first place of its key, and falls into bucket h
pub record Held (n : ℕ) (keys : List ℕ) (h j : ℕ) : Type 0 where
  pub first : First keys j j
  pub here : bucket_of n keys j ≡ h

-- k is one more than the last first place in bucket h below m, 0 where there is none
pub record Last (n : ℕ) (keys : List ℕ) (h m k : ℕ) : Type 0 where
  pub within : k ≤ m
  pub at : 0 < k → Held n keys h (k - 1)
  pub none : (j : ℕ) → k ≤ j → j < m → Held n keys h j → ⊥

-- the first places below e are chained, each key below e has one, and the link is that of e's bucket
pub record Started (n : ℕ) (keys next : List ℕ) (e link : ℕ) : Type 0 where
  pub inside : e < length keys
  pub room : length keys ≤ length next
  pub chained : (j : ℕ) → j < e → First keys j j → Last n keys (bucket_of n keys j) j (get_or next j 0)
  pub known : (j : ℕ) → j < e → (f : ℕ) × (f < e) × First keys j f
  pub linked : Last n keys (bucket_of n keys e) e link

-- what a search finds: the first place of e's key, or none, and then e is the first
abbrev pub Found : List ℕ → ℕ → Option ℕ → Type 0
Found keys e r = MatchOption r (First keys e e) (λ f. (f < e) × First keys e f)

-- what the caller shows: places for all, and empty buckets
pub record Room (n : ℕ) (keys heads next out : List ℕ) : Type 0 where
  pub small : length keys ≤ most_keys
  pub chains : length heads ≡ n
  pub links : length keys ≤ length next
  pub places : length keys ≤ length out
  pub empty : (h : ℕ) → h < n → get_or heads h 0 ≡ 0
