-- The rows of a register stand together among the rows by register: where they begin, and how far they go.
-- Assumes nothing.
use Prim.Native.Nat.{ℕ, ◌+◌, ◌*◌, ◌≤◌, ◌<◌}
use mathlib.Core.Path.{◌≡◌, sym, ap, ap₂, ◌∙◌}
use mathlib.Core.Logic.{◌≢◌}
use mathlib.Core.Bool.{Bool, true, false}
use mathlib.Core.List.{List, [], ◌∷◌, ◌++◌, append-nil, Memᴰ as In}
use native.Mathlib.Decide.{dec_lt}
use native.Mathlib.Numerals.{add-one}
use native.Mathlib.Omega.{arith}
use lib.ListN.{length, get_or, take, drop, set, length-set, length-take, length-drop, take-append-drop}
use lib.Seq.{get_or-take, get_or-drop, drop-drop, take-suc, take-suc-set, length-take-le}
use borrow.Author.Tests.{eq-eqb, ne_eqb, eqb-true, leb-true, le-leb}
use Rattle.lists.specs.Lists.{keep, up_to}
use Rattle.lists.specs.Sorts.{sort}
use Rattle.lists.proofs.Members.{in_keep, keep_all}
use Rattle.lists.proofs.Images.{keep_append, keep_none, sort_sorted, sort_keep, in_at, get_d_in, pairs_at}
use Rattle.lists.proofs.Merges.{Order, key_order, sort_rises}
use Rattle.lists.proofs.Pairs.{pairs_map}
use Rattle.lists.proofs.Sorts.{in_sort, sort_length}
use Rattle.lists.proofs.Ranges.{from_rises, from_length, in_below}
use Rattle.lists.proofs.Pairs.{pairs_keep}
use Rattle.history.specs.Table.{row_count, bears, rows_of}
use Rattle.grouping.specs.Registers.{register_at}
use Rattle.grouping.specs.Grouped.{no_higher, by_register, register_of, Sought, Run}

-- what passes a test, where that is m elements one behind the other, a before them
module _ {A : Type 0} (d : A) (q : A → Bool) (l : List A) (a m : ℕ) where
  pub keep_run : a + m ≤ length l → ((k : ℕ) → k < a → q (get_or l k d) ≡ false) → ((k : ℕ) → k < m → q (get_or l (a + k) d) ≡ true) →
      ((k : ℕ) → a + m ≤ k → k < length l → q (get_or l k d) ≡ false) → keep q l ≡ take m (drop a l)
  keep_run inside before has behind =
      ap (keep q) (sym (take-append-drop a l))
      ∙ keep_append q (take a l) (drop a l)
      ∙ ap₂ (λ (x y : List A). x ++ y) (keep_none q (take a l) none) (ap (keep q) (sym (take-append-drop m (drop a l))) ∙ keep_append q (take m (drop a l)) (drop m (drop a l)))
      ∙ ap₂ (λ (x y : List A). x ++ y) (keep_all q (take m (drop a l)) all) (keep_none q (drop m (drop a l)) rest)
      ∙ append-nil (take m (drop a l))
    where
      none : (x : A) → In x (take a l) → q x ≡ false
      none x i =
          let p = in_at d i in
          let h : p.0 < a = omega (arith, p.1, length-take a l) in
          rw (← p.2, get_or-take a l p.0 d h) (before p.0 h)

      all : (x : A) → In x (take m (drop a l)) → q x ≡ true
      all x i =
          let p = in_at d i in
          let h : p.0 < m = omega (arith, p.1, length-take m (drop a l)) in
          rw (← p.2, get_or-take m (drop a l) p.0 d h, get_or-drop a l p.0 d) (has p.0 h)

      rest : (x : A) → In x (drop m (drop a l)) → q x ≡ false
      rest x i =
          let p = in_at d i in
          let h : a + m + p.0 < length l = omega (arith, p.1, length-drop m (drop a l), length-drop a l) in
          let at : x ≡ get_or l (a + m + p.0) d = sym p.2 ∙ ap (λ (k : List A). get_or k p.0 d) (drop-drop m a l) ∙ get_or-drop (a + m) l p.0 d in
          ap q at ∙ behind (a + m + p.0) (omega arith) h

module _ (t : List ℕ) where
  grouped_long : length (by_register t) ≡ row_count t
  unfolding by_register
  grouped_long = sort_length (no_higher t) (up_to (row_count t)) ∙ from_length 0 (row_count t)

  grouped_inside : (k : ℕ) → k < length (by_register t) → get_or (by_register t) k 0 < row_count t
  unfolding by_register
  grouped_inside k h = in_below (row_count t) (in_sort (no_higher t) (up_to (row_count t)) (get_d_in (sort (no_higher t) (up_to (row_count t))) 0 k h))

  -- their registers rise
  rises : (a b : ℕ) → a ≤ b → b < length (by_register t) → register_of t (by_register t) a ≤ register_of t (by_register t) b
  unfolding by_register
  rises a b h k =
      elim (dec_lt a b) [
        | yes l ↦ leb-true _ _ (pairs_at 0 (sort_rises (no_higher t) (key_order (register_at t)) (up_to (row_count t))) a b l k)
        | no n ↦ let e : a ≡ b = omega arith in rw e (omega arith)
      ]

  -- a register's rows keep their sequence
  kept : (register : ℕ) → keep (bears t register) (by_register t) ≡ rows_of t register
  unfolding by_register rows_of bears register_at
  kept register =
      sort_keep (no_higher t) (bears t register) o.trans (sort_rises (no_higher t) o) (up_to (row_count t))
      ∙ sort_sorted (no_higher t) (pairs_map (pairs_keep (bears t register) (from_rises 0 (row_count t))) (λ x y i j _. le-leb (register_at t x) (register_at t y) (same x y i j)))
    where
      o : Order (no_higher t)
      o = key_order (register_at t)

      same : (x y : ℕ) → In x (keep (bears t register) (up_to (row_count t))) → In y (keep (bears t register) (up_to (row_count t))) → register_at t x ≤ register_at t y
      same x y i j =
          let a = eqb-true (register_at t x) register (in_keep (bears t register) (up_to (row_count t)) i).1 in
          let b = eqb-true (register_at t y) register (in_keep (bears t register) (up_to (row_count t)) j).1 in
          omega (arith, a, b)

-- What is known of the rows in the two loops: the place is sought from low on and before high; m rows from the place on are taken.
module _ (t rows : List ℕ) (register : ℕ) where
  pub record Seeking (low high : ℕ) : Type 0 where
    pub ordered : low ≤ high
    pub within : high ≤ length rows
    pub below : (k : ℕ) → k < low → register_of t rows k < register
    pub behind : (k : ℕ) → high ≤ k → k < length rows → register ≤ register_of t rows k

  module _ (from : ℕ) (list₀ : List ℕ) where
    pub record Running (m : ℕ) (list : List ℕ) : Type 0 where
      pub within : from + m ≤ length rows
      pub long : length list ≡ length list₀
      pub front : take m list ≡ take m (drop from rows)
      pub has : (k : ℕ) → k < m → register_of t rows (from + k) ≡ register

    pub running_more : (m : ℕ) (list : List ℕ) → from + m < length rows → m < length list → register_of t rows (from + m) ≡ register → Running m list →
        Running (m + 1) (set list m (get_or rows (from + m) 0))
    running_more m list h room q r =
        record {
          within = omega arith;
          long = length-set list m (get_or rows (from + m) 0) ∙ r.long;
          front =
              rw (add-one m) (
              take-suc-set list m (get_or rows (from + m) 0) room
              ∙ ap₂ (λ (x : List ℕ) (y : ℕ). x ++ (y ∷ [])) r.front (sym (get_or-drop from rows m 0))
              ∙ sym (take-suc (drop from rows) m 0 (omega (arith, length-drop from rows)))
              );
          has = each;
        }
      where
        each : (k : ℕ) → k < m + 1 → register_of t rows (from + k) ≡ register
        each k i = elim (dec_lt k m) [ yes l ↦ r.has k l | no n ↦ let z : k ≡ m = omega arith in rw z q ]

module _ (t rows : List ℕ) (e : rows ≡ by_register t) where
  -- there are as many of them as the table has rows, each one of it
  pub rows_long : length rows ≡ row_count t
  rows_long = ap length e ∙ grouped_long t

  pub rows_inside : (k : ℕ) → k < length rows → get_or rows k 0 * 5 + 5 ≤ length t
  rows_inside k h = omega (arith, ap (λ (l : List ℕ). get_or l k 0) e, grouped_inside t k (omega (arith, ap length e)))

  rows_rise : (a b : ℕ) → a ≤ b → b < length rows → register_of t rows a ≤ register_of t rows b
  rows_rise a b h k = rw e (rises t a b h (omega (arith, ap length e)))

  module _ (register : ℕ) where
    module _ (low high middle : ℕ) (s : Seeking t rows register low high) (h : low ≤ middle) (g : middle < high) where
      pub seeking_behind : register_of t rows middle < register → Seeking t rows register (middle + 1) high
      seeking_behind l =
          record {
            ordered = omega arith;
            within = s.within;
            below = λ k i. omega (arith, l, rows_rise k middle (omega arith) (omega (arith, s.within)));
            behind = s.behind;
          }

      pub seeking_before : register ≤ register_of t rows middle → Seeking t rows register low middle
      seeking_before l =
          record {
            ordered = omega arith;
            within = omega (arith, s.within);
            below = s.below;
            behind = λ k i j. omega (arith, l, rows_rise middle k i j);
          }

    -- THE ROWS OF THE REGISTER, from the place where they begin to the first of another
    pub run_is : (from m : ℕ) (list : List ℕ) → Sought t rows register from → Run t rows register from m list → (m ≡ length (rows_of t register)) × (take m list ≡ rows_of t register)
    unfolding bears register_at
    run_is from m list s r = (sym (length-take-le m (drop from rows) (omega (arith, r.within, length-drop from rows))) ∙ ap length whole, r.front ∙ whole)
      where
        other : (k : ℕ) → register_of t rows k ≢ register → bears t register (get_or rows k 0) ≡ false
        other k n = ne_eqb _ _ n

        own : (k : ℕ) → register_of t rows k ≡ register → bears t register (get_or rows k 0) ≡ true
        own k q = eq-eqb _ _ q

        above : (k : ℕ) → from + m ≤ k → k < length rows → register_of t rows k ≢ register
        above k h l q =
            r.ends (omega arith) (omega (arith, q, s.behind (from + m) (omega arith) (omega arith), rows_rise (from + m) k h l))

        whole : take m (drop from rows) ≡ rows_of t register
        whole =
            sym (
            keep_run 0 (bears t register) rows from m r.within
            (λ k h. other k (λ q. omega (arith, q, s.below k h)))
            (λ k h. own (from + k) (r.has k h))
            (λ k h l. other k (above k h l))
            )
            ∙ ap (keep (bears t register)) e
            ∙ kept t register
