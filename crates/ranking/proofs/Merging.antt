-- The loop that merges the starts, which rise, and the finishes by rising stamp: each turn gives the next place to a start or to a finish.
-- Assumes nothing.
use Prim.Native.Nat.{ℕ, ◌+◌, ◌*◌, ◌≤◌, ◌<◌}
use mathlib.Core.Path.{◌≡◌, refl, sym, ◌∙◌}
use mathlib.Core.Logic.{◌⊎◌, inl, inr}
use mathlib.Core.Bool.{true, false, cond}
use mathlib.Core.List.{List}
use native.Mathlib.Omega.{arith}
use native.Mathlib.Nat.{eq-or-lt_of_le}
use native.Mathlib.Decide.{dec_lt}
use lib.Dec.{ltb, leb}
use lib.ListN.{length, get_or, set, length-set}
use lib.Seq.{get_or-set_same, get_or-set_other}
use borrow.Author.Tests.{leb-true, leb-false, lt-ltb, le-ltb}
use Rattle.lists.proofs.Tests.{both}
use Rattle.ranking.specs.Ranked.{finish_at, Ready, comes_first, Front, Merged}

module _ (starts finishes list : List ℕ) where
  abbrev n : ℕ
  n = length list

  -- the stamp of a start, and of a finish
  abbrev S : ℕ → ℕ
  S a = get_or starts a 0

  abbrev F : ℕ → ℕ
  F b = finish_at finishes list b

  -- i starts and j finishes have their places
  pub record Merging (i j : ℕ) (start finish : List ℕ) : Type 0 where
    pub few_starts : i ≤ n
    pub few_finishes : j ≤ n
    pub size_start : length start ≡ n
    pub size_finish : length finish ≡ n
    pub rest : (a : ℕ) → i ≤ a → get_or start a 0 ≡ S a
    pub left : (b : ℕ) → j ≤ b → b < n → finish_at finish list b ≡ F b
    pub begin : (a : ℕ) → a < i → (k : ℕ) × (get_or start a 0 ≡ 2 * (a + k)) × Front (λ b. F b < S a) n k
    pub end : (b : ℕ) → b < j → (k : ℕ) × (get_or finish (get_or list b 0) 0 ≡ 2 * (k + b)) × Front (λ a. S a ≤ F b) n k
    pub ahead : (a b : ℕ) → a < i → j ≤ b → b < n → S a ≤ F b
    pub behind : (a b : ℕ) → i ≤ a → a < n → b < j → F b < S a

  module _ (r : Ready starts finishes list) where
    pub merge_none : Merging 0 0 starts finishes
    merge_none =
        record {
          few_starts = omega arith;
          few_finishes = omega arith;
          size_start = r.size_starts;
          size_finish = r.size_finishes;
          rest = λ a l. refl;
          left = λ b l m. refl;
          begin = λ a l. absurd (omega arith);
          end = λ b l. absurd (omega arith);
          ahead = λ a b l m k. absurd (omega arith);
          behind = λ a b l m k. absurd (omega arith);
        }

    module _ (i j : ℕ) (start finish : List ℕ) (g : Merging i j start finish) where
      -- all finishes have their places: so have all starts, each of which has a finish that is not below it
      pub merge_end : n ≤ j → Merged starts finishes list start finish
      merge_end l =
          record {
            size_start = g.size_start;
            size_finish = g.size_finish;
            begin = λ a k. g.begin a (all a k (dec_lt a i));
            end = λ b k. g.end b (omega arith);
          }
        where
          all : (a : ℕ) → a < n → Dec (a < i) → a < i
          all a k (yes c) = c
          all a k (no c) = let (b, m, e) = r.meets a k in absurd (omega (arith, g.behind a b (omega arith) k (omega arith)))

      module _ (b : j < n) where
        -- the next finish, where it stands
        abbrev next : ℕ
        next = finish_at finish list j

        next_is : next ≡ F j
        next_is = g.left j (omega arith) b

        -- the test
        pub first_start : comes_first start i next ≡ true → (i < n) × (S i ≤ F j)
        unfolding comes_first
        first_start e = go (dec_lt i (length start)) e
          where
            go : Dec (i < length start) → cond (ltb i (length start)) (leb (get_or start i 0) next) false ≡ true → (i < n) × (S i ≤ F j)
            go (yes l) q = (omega (arith, g.size_start), omega (arith, next_is, g.rest i (omega arith), leb-true (get_or start i 0) next (rw (lt-ltb i (length start) l) at q)))
            go (no l) q = absurd (both (rw (le-ltb i (length start) (omega arith)) at q) refl)

        first_finish_lem : comes_first start i next ≡ false → (a : ℕ) → i ≤ a → a < n → F j < S a
        unfolding comes_first
        first_finish_lem e a l m =
            let k : i < length start = omega (arith, g.size_start) in
            let q : leb (get_or start i 0) next ≡ false = rw (lt-ltb i (length start) k) at e in
            omega (arith, next_is, leb-false (get_or start i 0) next q, g.rest i (omega arith), r.rising i a l m)

        -- a start takes the place
        pub merge_start : comes_first start i next ≡ true → (v : ℕ) → v ≡ 2 * (i + j) → Merging (i + 1) j (set start i v) finish
        merge_start e v q =
            record {
              few_starts = omega (arith, t.0);
              few_finishes = g.few_finishes;
              size_start = length-set start i v ∙ g.size_start;
              size_finish = g.size_finish;
              rest = λ a l. get_or-set_other start i a v 0 (λ c. omega arith) ∙ g.rest a (omega arith);
              left = g.left;
              begin = λ a l. at a (eq-or-lt_of_le (omega arith));
              end = g.end;
              ahead = λ a c l m k. not_above a c m k (eq-or-lt_of_le (omega arith));
              behind = λ a c l m k. g.behind a c (omega arith) m k;
            }
          where
            t : (i < n) × (S i ≤ F j)
            t = first_start e

            front : Front (λ c. F c < S i) n j
            front =
                record {
                  few = g.few_finishes;
                  before = λ c l. g.behind i c (omega arith) t.0 l;
                  behind = λ c l m k. omega (arith, t.1, r.ordered j c l m);
                }

            at : (a : ℕ) → (a ≡ i) ⊎ (a < i) → (k : ℕ) × (get_or (set start i v) a 0 ≡ 2 * (a + k)) × Front (λ c. F c < S a) n k
            at a (inl c) = rw c (j, get_or-set_same start i v 0 (omega (arith, g.size_start, t.0)) ∙ q, front)
            at a (inr c) = let (k, d, f) = g.begin a c in (k, get_or-set_other start i a v 0 (λ x. omega arith) ∙ d, f)

            not_above : (a c : ℕ) → j ≤ c → c < n → (a ≡ i) ⊎ (a < i) → S a ≤ F c
            not_above a c m k (inl d) = rw d (omega (arith, t.1, r.ordered j c m k))
            not_above a c m k (inr d) = g.ahead a c d m k

        -- a finish takes the place
        pub merge_finish : comes_first start i next ≡ false → (v : ℕ) → v ≡ 2 * (i + j) → Merging i (j + 1) start (set finish (get_or list j 0) v)
        merge_finish e v q =
            record {
              few_starts = g.few_starts;
              few_finishes = omega arith;
              size_start = g.size_start;
              size_finish = length-set finish (get_or list j 0) v ∙ g.size_finish;
              rest = g.rest;
              left = λ c l m. get_or-set_other finish (get_or list j 0) (get_or list c 0) v 0 (λ x. r.once j c (omega arith) m (sym x)) ∙ g.left c (omega arith) m;
              begin = g.begin;
              end = λ c l. at c (eq-or-lt_of_le (omega arith));
              ahead = λ a c l m k. g.ahead a c l (omega arith) k;
              behind = λ a c l m k. below a c l m (eq-or-lt_of_le (omega arith));
            }
          where
            front : Front (λ a. S a ≤ F j) n i
            front =
                record {
                  few = g.few_starts;
                  before = λ a l. g.ahead a j l (omega arith) b;
                  behind = λ a l m k. omega (arith, first_finish_lem e a l m);
                }

            at : (c : ℕ) → (c ≡ j) ⊎ (c < j) → (k : ℕ) × (get_or (set finish (get_or list j 0) v) (get_or list c 0) 0 ≡ 2 * (k + c)) × Front (λ a. S a ≤ F c) n k
            at c (inl d) = rw d (i, get_or-set_same finish (get_or list j 0) v 0 (omega (arith, g.size_finish, r.inside j b)) ∙ q, front)
            at c (inr d) =
                let (k, x, f) = g.end c d in
                (k, get_or-set_other finish (get_or list j 0) (get_or list c 0) v 0 (r.once c j d b) ∙ x, f)

            below : (a c : ℕ) → i ≤ a → a < n → (c ≡ j) ⊎ (c < j) → F c < S a
            below a c l m (inl d) = rw d (first_finish_lem e a l m)
            below a c l m (inr d) = g.behind a c l m d
