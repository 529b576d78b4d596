-- What one pass over n places leaves in two slices: at the front of the one the places at which a test holds, in the other a key of each place.
-- Assumes nothing.
use Rattle.std.specs.Prelude.{ℕ, ◌≤◌, ◌<◌, ◌≡◌, Bool, List, length, get_or, take, drop}
use Rattle.positions.specs.Places.{upto}

-- m places are written over list₀; `Key x k`: k is a key of the place x
pub record Gathered (P : ℕ → Bool) (Key : ℕ → ℕ → Type 0) (n : ℕ) (list₀ : List ℕ) (m : ℕ) (keys list : List ℕ) : Type 0 where
  pub few : m ≤ n
  pub long : length list ≡ length list₀
  pub keyed : (x : ℕ) → x < n → Key x (get_or keys x 0)
  pub front : take m list ≡ upto P n
  pub behind : drop m list ≡ drop m list₀
