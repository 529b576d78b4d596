-- Orders of operations and orders by list positions are the same: the operations of a register stand for their rows, and the places in a
-- list for its positions.
-- Assumes nothing.
use Prim.Native.Nat.{ℕ, suc, ◌<◌}
use mathlib.Core.Path.{◌≡◌, refl, sym, ap, ap₂, ◌∙◌}
use mathlib.Core.Bool.{false}
use mathlib.Core.List.Memᴰ
use mathlib.Core.List.Memᴰ.{head as here}
use mathlib.Core.List.Memᴰ.{tail as there}
use mathlib.Core.List.{List, [], ◌∷◌, map, map-append, Memᴰ as In}
use native.Mathlib.Omega.{arith}
use lib.ListN.{length, get_or, take, drop, length-append}
use lib.Seq.{length-take-le, split_at, get_or-append_seam}
use Rattle.lists.proofs.Counts.{count_map}
use Rattle.lists.proofs.Maps.{in_map, map_in}
use Rattle.lists.proofs.Pairs.{pairs_image, image_pairs}
use Rattle.lists.proofs.Cover.{in_at, at_in}
use Rattle.history.specs.declared.Op.{Op}
use Rattle.history.specs.Table.{RowOf, op_at, rows_of, history, is_write}
use Rattle.history.specs.Screen.{Screened}
use Rattle.history.proofs.Rows.{in_rows, rows_in_lem, rows_rise}
use Rattle.atomicity.specs.Order.{placed, TotalOrder, writes_between, Within, Atomic}
use Rattle.methods.specs.Place.{write_count}
use Rattle.methods.specs.Mark.{row_numbers}
use Rattle.witnesses.specs.Orders.{Before, Orders}
use Rattle.witnesses.proofs.Runs.{Near, passed, runs_near, near_runs}
use Rattle.preparation.specs.Claims.{RowsRise, OrdersOfRows}
use Rattle.preparation.proofs.Lists.{pairs_at, at_pairs, Split, map_split, Cut, cut_places, cut_one, cut_middle}
use Rattle.preparation.proofs.Timed.{read_kind, kind_read}

row_at : (t : List ℕ) (i : ℕ) → (op_at t i).row ≡ i
unfolding op_at
row_at t i = refl

-- an operation has the number of its row
pub rows_back : (t l : List ℕ) → row_numbers (map (op_at t) l) ≡ l
rows_back t [] = refl
rows_back t (i ∷ l) = ap₂ (λ j r. j ∷ r) (row_at t i) (rows_back t l)

pub history_rows : (t : List ℕ) (register : ℕ) → RowsRise (history t register)
unfolding history op_at
history_rows t register = pairs_image (op_at t) (rows_rise t register)

module _ (t : List ℕ) (register : ℕ) where
  history_in : (i : ℕ) → RowOf t register i → In (op_at t i) (history t register)
  unfolding history
  history_in i r = map_in (op_at t) (rows_in_lem t register r)

  in_history : (x : Op) → In x (history t register) → RowOf t register x.row × (x ≡ op_at t x.row)
  unfolding history
  in_history x m =
      let (i, n, e) = in_map (op_at t) (rows_of t register) m in
      let q : x.row ≡ i = ap (λ o. o.row) e ∙ row_at t i in
      (rw q (in_rows t register n), e ∙ ap (op_at t) (sym q))

  in_row : (i : ℕ) → In (op_at t i) (history t register) → RowOf t register i
  in_row i m = rw (row_at t i) at (in_history (op_at t i) m).0

  -- a list of the register's operations is that of its rows' operations
  by_rows : (o : List Op) → ((x : Op) → In x o → In x (history t register)) → o ≡ map (op_at t) (row_numbers o)
  by_rows [] h = refl
  by_rows (x ∷ o) h = ap₂ (λ y l. y ∷ l) (in_history x (h x (here refl))).1 (by_rows o (λ y m. h y (there m)))

  -- the writes behind one position and before another are those between, where the list is cut there
  between : {l : List ℕ} {p q : ℕ} (c : Cut l p q) → writes_between t l p q ≡ write_count (map (op_at t) c.middle)
  unfolding writes_between
  between c = rw (cut_middle c) (sym (count_map (op_at t) is_write c.middle))

  module _ {k : ℕ} (l : List ℕ) where
    -- From places to positions.
    module _ (h : Orders k (history t register) (map (op_at t) l)) where
      before : (p q : ℕ) → p < q → q < length l → Before (placed t l p) (placed t l q)
      before = pairs_at (image_pairs (op_at t) l h.pairs)

      total : TotalOrder t register l
      total =
          record {
            rows = λ p b. in_row (get_or l p 0) (h.from (placed t l p) (map_in (op_at t) (at_in l p b)));
            once = λ p q i j e. (before p q i j).apart (ap (λ n. (op_at t n).row) e);
            whole = λ i r. whole i (in_map (op_at t) l (h.into (op_at t i) (history_in i r)));
          }
        where
          whole : (i : ℕ) → (j : ℕ) × In j l × (op_at t i ≡ op_at t j) → (p : ℕ) × (p < length l) × (get_or l p 0 ≡ i)
          whole i (j, m, e) = in_at (Memᴰ.cast (sym (row_at t i) ∙ ap (λ o. o.row) e ∙ row_at t j) m)

      -- the write that is near stands in the part before q, at the length of what is in front of it
      module _ (q : ℕ) (b : q < length l) (r : (placed t l q).kind ≡ 2) where
        near_within : (n : Near k (map (op_at t) (take q l)) (placed t l q).value) → Split (op_at t) (take q l) n.front n.by n.back → Within k t l q
        near_within n d =
            record {
              at = length d.front;
              earlier = omega (arith, cut_places c);
              dictated = record { writes = ap is_write e ∙ n.write; reads = r; same = ap (λ o. o.value) e ∙ n.same };
              near = omega (arith, between c, n.few, ap write_count d.to_back);
            }
          where
            c : Cut l (length d.front) q
            c =
                record {
                  first_part = take q l;
                  two = get_or l q 0;
                  end = drop (suc q) l;
                  whole = split_at l q 0 b;
                  at_two = sym (length-take-le q l (omega arith));
                  front = d.front;
                  one = d.at;
                  middle = d.back;
                  first_whole = d.whole;
                  at_one = refl;
                }

            e : placed t l (length d.front) ≡ n.by
            e = ap (op_at t) (cut_one c) ∙ sym d.to_at

        within : Within k t l q
        within =
            let parts = ap (map (op_at t)) (split_at l q 0 b) ∙ map-append (op_at t) (take q l) (get_or l q 0 ∷ drop (suc q) l) in
            let n = runs_near h.runs (map (op_at t) (take q l)) (placed t l q) (map (op_at t) (drop (suc q) l)) parts (kind_read (placed t l q) r) in
            near_within n (map_split (op_at t) (take q l) n.front n.by n.back n.split)

      placed_atomic : Atomic k t register l
      placed_atomic = record { valid = record { total = total; keeps = λ p q i j e. (before p q i j).valid e }; reads = within }

    -- From positions to places.
    module _ (s : Screened (length t) (history t register)) (h : Atomic k t register l) where
      in_register : (i : ℕ) → In i l → In (op_at t i) (history t register)
      in_register i m = let (p, b, e) = in_at m in history_in i (rw e at (h.valid.total.rows p b))

      before_at : (p q : ℕ) → p < q → q < length l → Before (placed t l p) (placed t l q)
      before_at p q i j =
          record {
            apart = λ e. h.valid.total.once p q i j (sym (row_at t (get_or l p 0)) ∙ e ∙ row_at t (get_or l q 0));
            valid = h.valid.keeps p q i j;
          }

      module _ {a : List Op} {r : Op} {c : List Op} (d : Split (op_at t) l a r c) where
        -- the read stands at the length of what is in front of it
        abbrev read_at : ℕ
        read_at = length d.front

        is_r : placed t l read_at ≡ r
        is_r = ap (op_at t) (ap (λ m. get_or m read_at 0) d.whole ∙ get_or-append_seam d.front d.at d.back 0) ∙ sym d.to_at

        within_near : Within k t l read_at → Near k a r.value
        within_near w =
            record {
              front = map (op_at t) f.front;
              by = op_at t f.one;
              back = map (op_at t) f.middle;
              split = d.to_front ∙ ap (map (op_at t)) f.first_whole ∙ map-append (op_at t) f.front (f.one ∷ f.middle);
              write = ap is_write is_w ∙ w.dictated.writes;
              same = ap (λ o. o.value) is_w ∙ w.dictated.same ∙ ap (λ o. o.value) is_r;
              few = omega (arith, between f, w.near);
            }
          where
            f : Cut l w.at read_at
            f =
                record {
                  first_part = d.front;
                  two = d.at;
                  end = d.back;
                  whole = d.whole;
                  at_two = refl;
                  front = take w.at d.front;
                  one = get_or d.front w.at 0;
                  middle = drop (suc w.at) d.front;
                  first_whole = split_at d.front w.at 0 w.earlier;
                  at_one = sym (length-take-le w.at d.front (omega (arith, w.earlier)));
                }

            is_w : op_at t f.one ≡ placed t l w.at
            is_w = ap (op_at t) (sym (cut_one f))

        near : is_write r ≡ false → Near k a r.value
        near e =
            let b : read_at < length l = omega (arith, ap length d.whole, length-append d.front (d.at ∷ d.back)) in
            let m : In r (history t register) = Memᴰ.cast (sym is_r) (in_register (get_or l read_at 0) (at_in l read_at b)) in
            within_near (h.reads read_at b (ap (λ o. o.kind) is_r ∙ read_kind s m e))

      placed_orders : Orders k (history t register) (map (op_at t) l)
      placed_orders =
          record {
            from = λ x m. let (i, n, e) = in_map (op_at t) l m in Memᴰ.cast e (in_register i n);
            into = λ x m.
                let (r, e) = in_history x m in
                let (p, b, f) = h.valid.total.whole x.row r in
                Memᴰ.cast (e ∙ ap (op_at t) (sym f)) (map_in (op_at t) (at_in l p b));
            pairs = pairs_image (op_at t) (at_pairs l before_at);
            passed = passed (map (op_at t) l) [];
            runs = near_runs (map (op_at t) l) (λ a r c e n. near (map_split (op_at t) l a r c e) n);
          }

pub orders_of_rows : (t : List ℕ) (register : ℕ) → OrdersOfRows t register
orders_of_rows t register k rows = (
  λ (o, e, h). rw e (placed_atomic t register (row_numbers o) (rw (by_rows t register o h.from) at h)),
  λ s h. (map (op_at t) rows, sym (rows_back t rows), placed_orders t register rows s h),
)
