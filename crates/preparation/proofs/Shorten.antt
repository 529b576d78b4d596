-- Doubled stamps (document 01): the history that the methods work on is a prepared one, and its valid k-atomic orders are those of the history
-- as it was.
-- Assumes nothing.
use Prim.Native.Nat.{ℕ, ◌*◌, ◌≤◌, ◌<◌}
use mathlib.Core.Path.{◌≡◌, sym, ap, ◌∙◌}
use mathlib.Core.List.{List, map, Memᴰ as In}
use mathlib.Core.Logic.{inl, inr}
use native.Mathlib.Omega.{arith}
use Rattle.lists.proofs.Maps.{in_map}
use Rattle.lists.proofs.Pairs.{pairs_map, pairs_image}
use Rattle.history.specs.declared.Op.{Op}
use Rattle.history.specs.Table.{Precedes}
use Rattle.history.specs.Screen.{Screened}
use Rattle.methods.specs.Ranks.{starting, finishing, rank, by_rank, ranked}
use Rattle.methods.specs.Prepared.{by_start, new_finish, short, shorten, prepared}
use Rattle.methods.specs.Mark.{row_numbers}
use Rattle.witnesses.specs.Histories.{Reads, Prepared}
use Rattle.witnesses.specs.Orders.{Orders}
use Rattle.witnesses.proofs.Places.{place, Bef, bef_in, bef_in₂, bef_pair, bef_place, Compared, equal, first, second, compared}
use Rattle.witnesses.proofs.Positions.{orders_witness}
use Rattle.preparation.specs.Claims.{RowsRise, OrderOf, HasPrepared, KeepsOrders}
use Rattle.preparation.proofs.Timed.{Timed, from_sorted, into_sorted, orders_ranked, ranked_orders, timed}
use Rattle.preparation.proofs.Stamped.{anew_opening, anew_rows, reads_of, proper_on, orders_on, orders_back}
use Rattle.preparation.proofs.Finish.{New, whole, cut, new, new_read, new_le, new_first}

-- the new start of an operation
abbrev doubled : Op → ℕ
doubled o = 2 * o.start

-- what does not come after another starts no later than that finishes
stands : (a b : Op) → (Precedes b a → ⊥) → a.start ≤ b.finish
stands a b v = let n : b.finish < a.start → ⊥ = λ l. v (inl l) in omega arith

module _ (H : List Op) (g : Timed H) where
  -- The history with new stamps is a prepared one.
  span : (x : Op) → In x H → New H x → 2 * x.start ≤ new_finish H x
  span x m (whole e) = omega (arith, g.proper.span x m)
  span x m (cut r d l e) = omega (arith, g.timely x r d, g.cross r x d.mem m)

  -- a finish comes after a start
  above : (r : Op) → In r H → 0 < r.finish
  above r m = omega (arith, g.proper.span r m, g.cross r r m m)

  -- a doubled stamp is even, and a finish that is cut short is odd
  cross : (x y : Op) → In x H → In y H → new_finish H x ≡ 2 * y.start → New H x → ⊥
  cross x y m n q (whole e) = g.cross x y m n (omega arith)
  cross x y m n q (cut r d l e) = omega (arith, above r d.mem)

  ends : (x y : Op) → In x H → In y H → new_finish H x ≡ new_finish H y → New H x → New H y → x ≡ y
  ends x y m n q (whole e) (whole f) = g.ends x y m n (omega arith)
  ends x y m n q (whole e) (cut r d l f) = absurd (omega (arith, above r d.mem))
  ends x y m n q (cut r d l e) (whole f) = absurd (omega (arith, above r d.mem))
  ends x y m n q (cut r d l e) (cut s c k f) =
      let z : r ≡ s = g.ends r s d.mem c.mem (omega (arith, above r d.mem, above s c.mem)) in
      g.proper.one x y d.by c.by (d.same ∙ ap (λ o. o.value) z ∙ sym c.same)

  clock : (x y : Op) → In x H → In y H → Precedes (short H x) (short H y) → new_finish H x < 2 * y.start
  clock x y m n (inl l) = l
  clock x y m n (inr (p, q)) =
      omega (arith, new_le H x m, g.clock x y m n (inr (sym (anew_opening doubled (new_finish H) x) ∙ p, sym (anew_opening doubled (new_finish H) y) ∙ q)))

  first_ends : (v s : Op) → Reads (shorten H) v s → v.finish < s.finish
  first_ends v s k =
      let (w, r, d, p, q) = reads_of doubled (new_finish H) H k in
      omega (arith, ap (λ o. o.finish) p, ap (λ o. o.finish) q, new_first H g w r d, new_read H r d.read, above r d.mem)

  shorten_prepared : Prepared (shorten H)
  shorten_prepared =
      record {
        proper = proper_on doubled (new_finish H) H g.proper (λ x m. span x m (new H x m));
        rising = pairs_image (short H) (pairs_map g.rising (λ x y m n l. omega arith));
        clock = λ x y m n p. let (u, a, e) = in_map (short H) H m in let (v, b, d) = in_map (short H) H n in rw (e, d) (clock u v a b (rw (e, d) at p));
        cross = λ x y m n e.
            let (u, a, p) = in_map (short H) H m in
            let (v, b, q) = in_map (short H) H n in
            cross u v a b (cc (ap (λ o. o.finish) p, ap (λ o. o.start) q)) (new H u a);
        ends = λ x y m n e.
            let (u, a, p) = in_map (short H) H m in
            let (v, b, q) = in_map (short H) H n in
            cc (ends u v a b (cc (ap (λ o. o.finish) p, ap (λ o. o.finish) q)) (new H u a) (new H v b));
        first = first_ends;
      }

  -- An order of the old history, its operations with new stamps, is one of the new: a write that is cut short stands before the read that
  -- cuts it, so what stands before the write stands before that read too.
  module _ {k : ℕ} {o : List Op} (h : Orders k H o) where
    short_before : (a b : Op) → Bef a b o → 2 * a.start ≤ new_finish H b
    short_before a b m = go (new H b (h.from b (bef_in₂ m)))
      where
        behind : (r : Op) → Reads H b r → place o b < place o r
        behind r d = (orders_witness g.proper h).after b r d

        seen : (r : Op) → Reads H b r → Compared a r o → a.start ≤ r.finish
        seen r d (equal e) = omega (arith, ap (place o) e, bef_place h.pairs m, behind r d)
        seen r d (first c) = stands a r (bef_pair h.pairs c).valid
        seen r d (second c) = omega (arith, bef_place h.pairs c, bef_place h.pairs m, behind r d)

        go : New H b → 2 * a.start ≤ new_finish H b
        go (whole e) = omega (arith, stands a b (bef_pair h.pairs m).valid)
        go (cut r d l e) =
            omega (arith, seen r d (compared o (bef_in m) (h.into r d.mem)), g.cross r a d.mem (h.from a (bef_in m)))

    orders_short : Orders k (shorten H) (map (short H) o)
    orders_short = orders_on doubled (new_finish H) H h (λ a b m p. omega (arith, short_before a b m, clock b a (h.from b (bef_in₂ m)) (h.from a (bef_in m)) p))

  -- And the other way round.
  short_orders : {k : ℕ} {p : List Op} → Orders k (shorten H) p → (o : List Op) × (p ≡ map (short H) o) × Orders k H o
  short_orders = orders_back doubled (new_finish H) H g.proper (λ a b m n p. inl (omega (arith, new_le H b n, g.clock b a n m p)))

-- an order depends on the members only
order_of_lem : {H L : List Op} {k : ℕ} {o : List Op} → ((x : Op) → In x H → In x L) → ((x : Op) → In x L → In x H) → Orders k H o → Orders k L o
order_of_lem i j h = record { from = λ x m. i x (h.from x m); into = λ x m. h.into x (j x m); pairs = h.pairs; passed = h.passed; runs = h.runs }

pub prepared_history : {size : ℕ} {h : List Op} → HasPrepared size h
unfolding prepared
prepared_history {h = h} s a = shorten_prepared (by_start (ranked h)) (timed s a)

module _ {size : ℕ} {h : List Op} (s : Screened size h) (a : RowsRise h) where
  -- the operations by rising start, with ranks for stamps
  abbrev H : List Op
  H = by_start (ranked h)

  -- new stamps do not touch the rows
  rows_kept : (o : List Op) → row_numbers (map (short H) (map (by_rank h) o)) ≡ row_numbers o
  rows_kept o = anew_rows doubled (new_finish H) (map (by_rank h) o) ∙ anew_rows (λ x. rank h (starting x)) (λ x. rank h (finishing x)) o

  into_prepared : {k : ℕ} {rows : List ℕ} → OrderOf k h rows → OrderOf k (prepared h) rows
  unfolding prepared
  into_prepared (o, e, g) =
      (map (short H) (map (by_rank h) o), e ∙ sym (rows_kept o), orders_short H (timed s a) (order_of_lem into_sorted from_sorted (orders_ranked s a g)))

  from_prepared : {k : ℕ} {rows : List ℕ} → OrderOf k (prepared h) rows → OrderOf k h rows
  unfolding prepared
  from_prepared (p, e, g) =
      let (q, c, i) = short_orders H (timed s a) g in
      let (o, d, j) = ranked_orders s a (order_of_lem from_sorted into_sorted i) in
      (o, e ∙ ap (λ l. row_numbers l) (c ∙ ap (map (short H)) d) ∙ rows_kept o, j)

pub keeps_orders : {size : ℕ} {h : List Op} → KeepsOrders size h
keeps_orders s a k rows = (from_prepared s a, into_prepared s a)
