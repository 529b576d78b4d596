-- A loop that counts i up to n and computes a function of the numbers below n. Its invariant: the answer a of the whole is what G
-- makes of the numbers from i on, where G may hold what was computed so far. One record and four laws serve every such loop.
-- Assumes nothing.
use Prim.Native.Nat.{ℕ, suc, ◌+◌, ◌-◌, ◌≤◌, ◌<◌}
use mathlib.Core.Path.{◌≡◌, ap, ◌∙◌}
use mathlib.Core.List.{List, [], ◌∷◌}
use native.Mathlib.Numerals.{add-one}
use native.Mathlib.Omega.{arith}
use Rattle.lists.specs.Lists.{from, up_to}

pub record Scan {A : Type 0} (a : A) (G : List ℕ → A) (n i : ℕ) : Type 0 where
  pub within : i ≤ n
  pub rest : a ≡ G (from i (n - i))

from_cons : (n i : ℕ) → i < n → from i (n - i) ≡ i ∷ from (i + 1) (n - (i + 1))
unfolding from
from_cons n i h = let e : n - i ≡ suc (n - (i + 1)) = omega arith in rw (e, add-one i)

module _ {A : Type 0} {a : A} where
  pub scan_none : (G : List ℕ → A) (n : ℕ) → a ≡ G (up_to n) → Scan a G n 0
  scan_none G n e = record { within = omega arith; rest = e ∙ ap (λ (k : ℕ). G (from 0 k)) (omega arith) }

  pub scan_hit : (G : List ℕ → A) (n i : ℕ) (b : A) → i < n → Scan a G n i → ((r : List ℕ) → G (i ∷ r) ≡ b) → a ≡ b
  scan_hit G n i b h s e = s.rest ∙ ap G (from_cons n i h) ∙ e _

  pub scan_more : (G F : List ℕ → A) (n i : ℕ) → i < n → Scan a G n i → ((r : List ℕ) → G (i ∷ r) ≡ F r) → Scan a F n (i + 1)
  scan_more G F n i h s e = record { within = omega arith; rest = s.rest ∙ ap G (from_cons n i h) ∙ e _ }

  pub scan_end : (G : List ℕ → A) (n i : ℕ) → n ≤ i → Scan a G n i → a ≡ G []
  unfolding from
  scan_end G n i h s = let e : n - i ≡ 0 = omega arith in s.rest ∙ ap (λ (k : ℕ). G (from i k)) e
