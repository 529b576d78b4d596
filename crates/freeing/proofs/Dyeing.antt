-- The loop along a chain that marks a cluster.
-- Assumes nothing.
use Prim.Native.Nat.{ℕ, ◌-◌, ◌≤◌, ◌<◌}
use mathlib.Core.Path.{◌≡◌, refl, sym, ◌∙◌}
use mathlib.Core.Bool.{true, false}
use mathlib.Core.Logic.{◌⊎◌, inl, inr, ◌≢◌}
use mathlib.Core.List.{List}
use native.Mathlib.Omega.{arith}
use lib.ListN.{length, get_or, set, length-set}
use lib.Seq.{get_or-set_same, get_or-set_other}
use lib.Dec.{eqb}
use borrow.Author.Tests.{eqb-true, ne_eqb}
use Rattle.lists.proofs.Tests.{both}
use Rattle.positions.specs.Places.{latest}
use Rattle.positions.specs.Columns.{mine, read_of, Linked}
use Rattle.positions.proofs.Places.{below}
use Rattle.positions.proofs.Latest.{latest_le, latest_none, latest_at}

-- the reads of w from k on have the mark m, and k is 0 or one more than a read of w
pub record Dyeing (writer : List ℕ) (w m k : ℕ) (old marks : List ℕ) : Type 0 where
  pub within : k ≤ length writer
  pub long : length marks ≡ length old
  pub link : 0 < k → read_of writer w (k - 1) ≡ true
  pub done : (j : ℕ) → k ≤ j → j < length writer → read_of writer w j ≡ true → get_or marks j 0 ≡ m
  pub kept : (j : ℕ) → (j < k) ⊎ (read_of writer w j ≡ false) → get_or marks j 0 ≡ get_or old j 0

-- a read of w other than w
pub other_read : (writer : List ℕ) (w j : ℕ) → j ≢ w → mine writer w j ≡ true → read_of writer w j ≡ true
other_read writer w j d e =
    let q : eqb (get_or writer j 0) j ≡ false = ne_eqb (get_or writer j 0) j (λ r. d (sym r ∙ eqb-true _ _ e)) in
    rw (e, q)

module _ (writer last prev : List ℕ) (w : ℕ) (p : Linked writer last prev) (l : w < length writer) (e : get_or writer w 0 ≡ w) (m : ℕ) (old : List ℕ) where
  pub dye_none : Dyeing writer w m (get_or last w 0) old old
  dye_none =
      rw (p.lasts w l e)
      (record {
        within = latest_le (read_of writer w) (length writer);
        long = refl;
        link = latest_at (read_of writer w) (length writer);
        done = λ j a b q. absurd (both q (latest_none (read_of writer w) (length writer) j a b));
        kept = λ j c. refl;
      })

  module _ (n : length writer ≤ length old) (k : ℕ) (marks : List ℕ) (g : Dyeing writer w m k old marks) where
    module _ (some : 0 < k) where
      next : get_or prev (k - 1) 0 ≡ latest (read_of writer w) (k - 1)
      next = p.prevs w (k - 1) (omega (arith, g.within)) (g.link some)

      pub dye_falls : get_or prev (k - 1) 0 < k
      dye_falls = rw next (omega (arith, latest_le (read_of writer w) (k - 1)))

      pub dye_on : Dyeing writer w m (get_or prev (k - 1) 0) old (set marks (k - 1) m)
      dye_on =
          rw next
          (record {
            within = omega (arith, latest_le (read_of writer w) (k - 1), g.within);
            long = length-set marks (k - 1) m ∙ g.long;
            link = latest_at (read_of writer w) (k - 1);
            done = λ j a b q. dones j a b q (below j (k - 1)) (below j k);
            kept = keeps;
          })
        where
          dones : (j : ℕ) → latest (read_of writer w) (k - 1) ≤ j → j < length writer → read_of writer w j ≡ true → (j < k - 1) ⊎ (k - 1 ≤ j) → (j < k) ⊎ (k ≤ j) → get_or (set marks (k - 1) m) j 0 ≡ m
          dones j a b q (inl c) d = absurd (both q (latest_none (read_of writer w) (k - 1) j a c))
          dones j a b q (inr c) (inl d) =
              let i : j ≡ k - 1 = omega arith in
              let h : k - 1 < length marks = omega (arith, g.long, g.within) in
              rw (i, get_or-set_same marks (k - 1) m 0)
          dones j a b q (inr c) (inr d) = get_or-set_other marks (k - 1) j m 0 (λ i. omega arith) ∙ g.done j d b q

          keeps : (j : ℕ) → (j < latest (read_of writer w) (k - 1)) ⊎ (read_of writer w j ≡ false) → get_or (set marks (k - 1) m) j 0 ≡ get_or old j 0
          keeps j (inl c) =
              let h = latest_le (read_of writer w) (k - 1) in
              get_or-set_other marks (k - 1) j m 0 (λ i. omega (arith, h)) ∙ g.kept j (inl (omega (arith, h)))
          keeps j (inr c) = get_or-set_other marks (k - 1) j m 0 (λ i. both (rw i (g.link some)) c) ∙ g.kept j (inr c)
