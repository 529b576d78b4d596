-- The column of registers, the rows by register, and the registers that these give.
-- Assumes nothing.
use Prim.Native.Nat.{ℕ, ◌+◌, ◌≤◌, ◌<◌}
use mathlib.Core.Path.{◌≡◌, sym, ap, ◌∙◌}
use mathlib.Core.List.{List, map}
use native.Mathlib.Omega.{arith}
use lib.Dec.{leb}
use lib.ListN.{length, get_or, set, take, length-map}
use Rattle.lists.specs.Lists.{up_to}
use Rattle.lists.specs.Sorts.{sort}
use Rattle.lists.proofs.Images.{get_d_map, sort_map, sort_ext}
use Rattle.history.specs.Table.{row_count}
use Rattle.lists.proofs.Ranges.{from_length, from_at, in_below, at_each}
use Rattle.lists.proofs.Filled.{Filled, filled_more, filled_end}
use Rattle.sorting.specs.Keys.{rises}
use Rattle.grouping.specs.Registers.{register_at, register_column, distinct, registers}
use Rattle.grouping.specs.Grouped.{no_higher, by_register, Grouped}

module _ (t keys₀ : List ℕ) (long : length keys₀ ≡ row_count t) where
  abbrev n : ℕ
  n = row_count t

  keys_long : length keys₀ ≡ length (up_to n)
  keys_long = long ∙ sym (from_length 0 n)

  -- the first i rows are done
  abbrev pub Keyed : ℕ → List ℕ → Type 0
  Keyed i keys = Filled (register_at t) (up_to n) keys₀ i keys

  pub keyed_more : (i v : ℕ) (keys : List ℕ) → i < n → v ≡ register_at t i → Keyed i keys → Keyed (i + 1) (set keys i v)
  keyed_more i v keys h e f =
      let k : i < length (up_to n) = omega (arith, from_length 0 n) in
      let at : i ≡ get_or (up_to n) i 0 = sym (from_at 0 n i h ∙ omega arith) in
      filled_more _ _ _ keys_long i v keys k (e ∙ ap (register_at t) at) f

  pub keyed_end : (i : ℕ) (keys : List ℕ) → n ≤ i → Keyed i keys → keys ≡ register_column t
  keyed_end i keys h f = filled_end _ _ _ keys_long i keys (omega (arith, from_length 0 n)) f

-- a list is what stands at its places
all_places : (l : List ℕ) (n : ℕ) → length l ≡ n → map (λ (j : ℕ). get_or l j 0) (up_to n) ≡ l
all_places l n e = ap (λ (k : ℕ). map (λ (j : ℕ). get_or l j 0) (up_to k)) (sym e) ∙ at_each l

module _ (t keys : List ℕ) (e : keys ≡ register_column t) where
  column_long : length keys ≡ row_count t
  column_long = ap length e ∙ length-map (up_to (row_count t)) (register_at t) ∙ from_length 0 (row_count t)

  -- the key of a row is its register
  key_is : (i : ℕ) → i < row_count t → get_or keys i 0 ≡ register_at t i
  key_is i h =
      ap (λ (l : List ℕ). get_or l i 0) e
      ∙ get_d_map (register_at t) (up_to (row_count t)) i 0 0 (omega (arith, from_length 0 (row_count t)))
      ∙ ap (register_at t) (from_at 0 (row_count t) i h ∙ omega arith)

  -- the rows by these keys are the rows by register
  by_keys : sort (rises keys) (up_to (row_count t)) ≡ by_register t
  unfolding by_register
  by_keys =
      sort_ext (rises keys) (no_higher t) (up_to (row_count t)) (λ x y a b. rw (key_is x (in_below (row_count t) a), key_is y (in_below (row_count t) b)))

  -- so many rows, put by them
  pub group_is : (n : ℕ) (rows : List ℕ) → n ≡ row_count t → rows ≡ sort (rises keys) (up_to n) → Grouped t keys rows
  group_is n rows long q = record { keyed = e; grouped = q ∙ ap (λ (k : ℕ). sort (rises keys) (up_to k)) long ∙ by_keys }

-- THE REGISTERS, from the rows by register and the register of each: the registers of the rows, sorted, each once
pub registers_are : (t keys rows list : List ℕ) (m : ℕ) (after : List ℕ) → Grouped t keys rows → list ≡ map (λ j. get_or keys j 0) rows →
    (m ≡ length (distinct list)) × (take m after ≡ distinct list) → (m ≡ length (registers t)) × (take m after ≡ registers t)
unfolding registers
registers_are t keys rows list m after g e d = (d.0 ∙ ap (λ (l : List ℕ). length (distinct l)) sorted, d.1 ∙ ap distinct sorted)
  where
    key : ℕ → ℕ
    key j = get_or keys j 0

    sorted : list ≡ sort leb (register_column t)
    sorted =
        e
        ∙ ap (map key) (g.grouped ∙ sym (by_keys t keys g.keyed))
        ∙ sym (sort_map key leb (up_to (row_count t)))
        ∙ ap (sort leb) (all_places keys (row_count t) (column_long t keys g.keyed) ∙ g.keyed)
