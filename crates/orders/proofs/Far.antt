-- A read and its write in a total order of a screened register: the write of a value stands at one position, and counts tell how far behind it the
-- read is.
-- Assumes nothing.
use Prim.Native.Nat.{ℕ, suc, ◌+◌, ◌-◌, ◌≤◌, ◌<◌}
use mathlib.Core.Path.{◌≡◌, refl, sym, ap, ◌∙◌}
use mathlib.Core.Logic.{◌≢◌}
use mathlib.Core.Bool.{true, false}
use mathlib.Core.List.{List, [], ◌∷◌, map, Memᴰ as In}
use native.Mathlib.Omega.{arith}
use native.Mathlib.Decide.{dec_lt}
use lib.Dec.{ltb}
use lib.ListN.{length, get_or, length-map}
use Rattle.lists.specs.Lists.{up_to}
use Rattle.lists.specs.Pairs.{Pairs, nil, cons}
use Rattle.lists.proofs.Tests.{both, told_same, told_true, false_told, told_as, told_not, told_ltb}
use Rattle.lists.proofs.Ranges.{below_in, in_below, from_length}
use Rattle.lists.proofs.Maps.{map_in}
use Rattle.lists.proofs.Images.{get_d_map}
use Rattle.lists.proofs.Cover.{in_at, at_in, no_longer}
use Rattle.history.specs.Table.{largest_count, row_count, history, op_at, is_write, is_read, Dictates}
use Rattle.history.proofs.Operations.{told_read}
use Rattle.history.proofs.Rows.{rows_in_lem}
use Rattle.writers.specs.Writers.{Within, writes, writer_of}
use Rattle.writers.proofs.Seeking.{Seek, found, none, seek?, writes_is, is_writes}
use Rattle.atomicity.specs.Order.{placed, writes_between}
use Rattle.atomicity.specs.Check.{too_far}
use Rattle.orders.specs.Faults.{Ordered, writes_before, Counted}
use Rattle.orders.proofs.Positions.{Near, told_near}
use Rattle.orders.proofs.Between.{before_between}

-- different at any two positions
once_pairs : (l : List ℕ) → ((p q : ℕ) → p < q → q < length l → get_or l p 0 ≢ get_or l q 0) → Pairs ◌≢◌ l
once_pairs [] h = nil
once_pairs (x ∷ l) h =
    cons {x = x} {l = l}
    (λ y m e. let w = in_at m in h 0 (suc w.0) (omega arith) (omega (arith, w.1)) (e ∙ sym w.2))
    (once_pairs l (λ p q a b. h (suc p) (suc q) (omega arith) (omega arith)))

module _ (t order : List ℕ) (o : Ordered t order) where
  -- an order is no longer than the table
  order_few : length order ≤ row_count t
  order_few =
      omega (
        arith,
        from_length 0 (row_count t),
        no_longer (once_pairs order o.total.once) (up_to (row_count t))
            (λ r m. let w = in_at m in below_in (row_count t) (rw (← w.2) (o.total.rows w.0 w.1).exists)),
      )

  pub order_short : length order ≤ largest_count
  order_short = omega (arith, order_few, o.screened.few)

  -- its rows lie within the table
  pub order_within : Within t order
  order_within x m = let w = in_at m in omega (arith, w.2, (o.total.rows w.0 w.1).exists)

  in_history : (p : ℕ) → p < length order → In (placed t order p) (history t o.register)
  unfolding history
  in_history p h = map_in (op_at t) (rows_in_lem t o.register (o.total.rows p h))

  row_placed : (p : ℕ) → (placed t order p).row ≡ get_or order p 0
  unfolding op_at
  row_placed p = refl

  apart : (p q : ℕ) → p < length order → q < length order → is_write (placed t order p) ≡ true → is_write (placed t order q) ≡ true → (placed t order p).value ≡ (placed t order q).value →
      get_or order p 0 < get_or order q 0 → ⊥
  apart p q h k a b e l = o.screened.values (placed t order p) (placed t order q) (in_history p h) (in_history q k) (omega (arith, row_placed p, row_placed q, l)) a b e

  -- the write of a value stands at one position
  only : (p q : ℕ) → p < length order → q < length order → is_write (placed t order p) ≡ true → is_write (placed t order q) ≡ true → (placed t order p).value ≡ (placed t order q).value → p ≡ q
  only p q h k a b e = go (dec_lt (get_or order p 0) (get_or order q 0)) (dec_lt (get_or order q 0) (get_or order p 0)) (dec_lt p q) (dec_lt q p)
    where
      go : Dec (get_or order p 0 < get_or order q 0) → Dec (get_or order q 0 < get_or order p 0) → Dec (p < q) → Dec (q < p) → p ≡ q
      go (yes l) y u v = absurd (apart p q h k a b e l)
      go (no m) (yes l) u v = absurd (apart q p k h b a (sym e) l)
      go (no m) (no n) (yes l) v = absurd (o.total.once p q l k (omega arith))
      go (no m) (no n) (no u) (yes l) = absurd (o.total.once q p l h (omega arith))
      go (no m) (no n) (no u) (no v) = omega arith

  module _ (k p : ℕ) (h : p < length order) where
    abbrev writer : ℕ
    writer = writer_of t order (get_or order p 0)

    pub far_write : is_read (placed t order p) ≡ false → too_far k t order p ≡ false
    unfolding too_far
    far_write e = rw e

    -- what stands at the writer's position
    written : writer < p → (is_write (placed t order writer) ≡ true) × ((placed t order writer).value ≡ (placed t order p).value)
    written l = go writer (seek? (λ x. writes (placed t order p).value (op_at t x)) order) l
      where
        go : (q : ℕ) → Seek (λ x. writes (placed t order p).value (op_at t x)) order q → q < p → (is_write (placed t order q) ≡ true) × ((placed t order q).value ≡ (placed t order p).value)
        go q (found a b c) l = writes_is (placed t order p).value (placed t order q) b
        go q (none a b) l = absurd (omega arith)

    -- a write of the read's value before it stands at the writer's position
    dictating : (q : ℕ) → q < p → Dictates (placed t order q) (placed t order p) → (writer < p) × (q ≡ writer)
    dictating q l d = go writer refl (seek? (λ x. writes (placed t order p).value (op_at t x)) order)
      where
        passes : writes (placed t order p).value (placed t order q) ≡ true
        passes = is_writes (placed t order p).value (placed t order q) d.writes d.same

        go : (w : ℕ) → w ≡ writer → Seek (λ x. writes (placed t order p).value (op_at t x)) order w → (w < p) × (q ≡ w)
        go w e (found a b c) =
            let x = writes_is (placed t order p).value (placed t order w) b in
            let same = only q w (omega arith) a d.writes x.0 (d.same ∙ sym x.1) in
            (omega arith, same)
        go w e (none a b) = absurd (both passes (b (get_or order q 0) (at_in order q (omega arith))))

    module _ (r : is_read (placed t order p) ≡ true) where
      -- no write of its value before it
      pub far_none : p ≤ writer → too_far k t order p ≡ true
      unfolding too_far
      far_none g = rw (r, false_told (told_near t order p k) (λ w. absurd (omega (arith, (dictating w.0 (in_below p w.1) w.2.0).0))))

      pub far_behind : writer < p → ltb k (writes_before t order p - writes_before t order writer) ≡ too_far k t order p
      unfolding too_far
      far_behind g =
          rw (r, told_same (told_near t order p k) (told_as to from (told_ltb (writes_between t order writer p) k)))
          (told_same (told_ltb k (writes_before t order p - writes_before t order writer)) (told_as (λ (n : writes_between t order writer p < k → ⊥). over n) under (told_not (told_ltb (writes_between t order writer p) k))))
        where
          counted : writes_before t order p ≡ writes_before t order writer + (1 + writes_between t order writer p)
          counted = rw (written g).0 at (before_between t order writer p g (omega arith))

          to : writes_between t order writer p < k → (q : ℕ) × In q (up_to p) × Near t order p k q
          to n = (writer, below_in p g, (record { writes = (written g).0; reads = told_true (told_read (placed t order p)) r; same = (written g).1 }, n))

          from : (q : ℕ) × In q (up_to p) × Near t order p k q → writes_between t order writer p < k
          from w = rw (← (dictating w.0 (in_below p w.1) w.2.0).1) w.2.1

          over : (writes_between t order writer p < k → ⊥) → k < writes_before t order p - writes_before t order writer
          over n = go (dec_lt (writes_between t order writer p) k)
            where
              go : Dec (writes_between t order writer p < k) → k < writes_before t order p - writes_before t order writer
              go (yes l) = absurd (n l)
              go (no l) = omega (arith, counted)

          under : k < writes_before t order p - writes_before t order writer → writes_between t order writer p < k → ⊥
          under l n = omega (arith, counted)

-- The same by what the search keeps: the position of each row's write, and the writes before each position.
module _ (t order : List ℕ) (o : Ordered t order) (writer counts : List ℕ) (w : writer ≡ map (writer_of t order) order) (c : Counted t order counts) where
  pub writer_long : length writer ≡ length order
  writer_long = ap length w ∙ length-map order (writer_of t order)

  module _ (p : ℕ) (h : p < length order) where
    writer_at : get_or writer p 0 ≡ writer_of t order (get_or order p 0)
    writer_at = ap (λ (l : List ℕ). get_or l p 0) w ∙ get_d_map (writer_of t order) order p 0 0 h

    pub counts_rise : (q : ℕ) → q < p → get_or counts q 0 ≤ get_or counts p 0
    counts_rise q l = omega (arith, c.all p h, c.all q (omega arith), before_between t order q p l (omega arith))

    pub counts_tell : (k : ℕ) → is_read (placed t order p) ≡ true → get_or writer p 0 < p → ltb k (get_or counts p 0 - get_or counts (get_or writer p 0) 0) ≡ too_far k t order p
    counts_tell k r l = rw (c.all p h, c.all (get_or writer p 0) (omega arith), writer_at) (far_behind t order o k p h r (omega (arith, writer_at, l)))

    pub no_write_lem : (k : ℕ) → is_read (placed t order p) ≡ true → p ≤ get_or writer p 0 → too_far k t order p ≡ true
    no_write_lem k r l = far_none t order o k p h r (omega (arith, writer_at, l))
