-- The columns are those of the register's prepared history.
-- Assumes nothing.
use Prim.Native.Nat.{ℕ, ◌*◌, ◌<◌}
use mathlib.Core.Path.{◌≡◌, refl, sym, ap, ◌∙◌}
use mathlib.Core.List.{List, [], ◌∷◌, map}
use native.Mathlib.Omega.{arith}
use lib.ListN.{length, get_or, length-map}
use Rattle.lists.proofs.Images.{map_twice, get_d_map, get_d_in}
use Rattle.history.specs.declared.Op.{Op}
use Rattle.history.specs.Table.{op_at, history, is_opening, is_write}
use Rattle.methods.specs.Ranks.{by_rank, ranked}
use Rattle.methods.specs.Prepared.{by_start, new_finish, short, shorten, prepared}
use Rattle.methods.specs.Mark.{row_numbers}
use Rattle.preparation.proofs.Ranks.{own_ranked}
use Rattle.preparation.proofs.Sequence.{ranked_sorted}
use Rattle.preparation.proofs.Shorten.{prepared_history}
use Rattle.ranking.specs.Ranked.{Ranked, RanksOf}
use Rattle.preparation.proofs.Rows.{history_rows}
use Rattle.positions.specs.Columns.{cols, Linked, nothing, op, Of}
use Rattle.columns.specs.Rows.{Listed}
use Rattle.writers.specs.Writers.{writer_of}
use Rattle.columns.specs.Writers.{Tied}
use Rattle.columns.specs.Finishes.{Whole}
use Rattle.columns.specs.Made.{Made}
use Rattle.columns.proofs.Listed.{listed_ops, listed_stands, in_history, listed_tied}

module _ {t : List ℕ} {register : ℕ} {rows : List ℕ} (g : Listed t register rows) where
  -- the register's history, and its prepared one
  abbrev h : List Op
  h = history t register

  abbrev H : List Op
  H = prepared h

  -- the operation of a row with ranks for stamps, and those of the rows
  abbrev by_row : ℕ → Op
  by_row x = by_rank h (op_at t x)

  abbrev R : List Op
  R = map by_row rows

  ranked_rows : by_start (ranked h) ≡ R
  ranked_rows = ranked_sorted h (history_rows t register) g.screened.spans ∙ ap (map (by_rank h)) (listed_ops g) ∙ map_twice (by_rank h) (op_at t) rows

  -- the prepared history, by the rows
  history_is : H ≡ map (λ x. short R (by_row x)) rows
  unfolding prepared
  history_is = ap (λ (o : List Op). shorten o) ranked_rows ∙ map_twice (short R) by_row rows

  size : length H ≡ length rows
  size = ap length history_is ∙ length-map rows (λ x. short R (by_row x))

  -- the operation at a position is the row's, with new stamps
  op_is : (j : ℕ) → j < length rows → op H j ≡ short R (by_row (get_or rows j 0))
  op_is j l = ap (λ (o : List Op). get_or o j nothing) history_is ∙ get_d_map (λ x. short R (by_row x)) rows j nothing 0 l

  -- the value at a position is the row's
  pub value_at : (j : ℕ) → j < length rows → (op H j).value ≡ (op_at t (get_or rows j 0)).value
  value_at j l = ap (λ (o : Op). o.value) (op_is j l)

  -- its finish is that of the ranked row, doubled and shortened
  pub finish_at_lem : (j : ℕ) → j < length rows → (op H j).finish ≡ new_finish (by_start (ranked h)) (by_row (get_or rows j 0))
  finish_at_lem j l = ap (λ (o : Op). o.finish) (op_is j l) ∙ ap (λ (o : List Op). new_finish o (by_row (get_or rows j 0))) (sym ranked_rows)

  row_is : (j : ℕ) → j < length rows → op R j ≡ by_row (get_or rows j 0)
  row_is j l = get_d_map by_row rows j nothing 0 l

  kind_is : (j : ℕ) → j < length rows → is_write (op H j) ≡ is_write (op R j)
  unfolding is_write is_opening
  kind_is j l = ap (λ (o : Op). is_write o) (op_is j l) ∙ ap (λ (o : Op). is_write o) (sym (row_is j l))

  value_is : (j : ℕ) → j < length rows → (op H j).value ≡ (op R j).value
  value_is j l = ap (λ (o : Op). o.value) (op_is j l) ∙ ap (λ (o : Op). o.value) (sym (row_is j l))

  -- THE ROWS ARE THOSE OF THE PREPARED HISTORY, in its sequence
  pub prepared_rows : rows ≡ row_numbers H
  unfolding op_at
  prepared_rows = sym (ap (λ (o : List Op). row_numbers o) history_is ∙ map_twice (λ o. o.row) (λ x. short R (by_row x)) rows ∙ same rows)
    where
      same : (l : List ℕ) → map (λ x. x) l ≡ l
      same [] = refl
      same (x ∷ l) = ap (λ (z : List ℕ). x ∷ z) (same l)

  module _ (writer : List ℕ) (e : writer ≡ map (writer_of t rows) rows) where
    made_tied : Tied R writer
    unfolding is_write is_opening
    made_tied = rw e (listed_tied g by_row (λ x. refl) (λ x. refl))

    -- a finish comes after its own start
    above : (j : ℕ) → j < length R → 0 < (op R j).finish
    above j l =
        let k : j < length rows = omega (arith, length-map rows by_row) in
        let m = in_history g (get_d_in rows 0 j k) in
        omega (arith, ap (λ (o : Op). o.finish) (row_is j k), own_ranked h g.screened.spans m)

    module _ (start finish : List ℕ) (r : Ranked t rows h start finish) where
      made_whole : Whole R writer finish
      made_whole = record { tied = made_tied; above = above; doubled = r.finishes ∙ sym (map_twice (λ o. 2 * o.finish) by_row rows) }

      columns_of_lem : (shortened last prev : List ℕ) → ((o : List Op) → Whole o writer finish → shortened ≡ map (new_finish o) o) → Of (cols start shortened writer last prev) H
      columns_of_lem shortened last prev b =
          record {
            prepared = prepared_history g.screened (history_rows t register);
            starts = r.starts ∙ sym (ap (λ (o : List Op). map (λ x. x.start) o) history_is ∙ map_twice (λ o. o.start) (λ x. short R (by_row x)) rows);
            finishes =
                b R made_whole ∙ map_twice (new_finish R) by_row rows
                ∙ sym (ap (λ (o : List Op). map (λ x. x.finish) o) history_is ∙ map_twice (λ o. o.finish) (λ x. short R (by_row x)) rows);
            long = made_tied.long ∙ length-map rows by_row ∙ sym size;
            inside = λ j l. omega (arith, size, length-map rows by_row, made_tied.inside j (in_r j l));
            write = λ j l. kind_is (get_or writer j 0) (low j l) ∙ made_tied.write j (in_r j l);
            value = λ j l. value_is (get_or writer j 0) (low j l) ∙ made_tied.value j (in_r j l) ∙ sym (value_is j (omega (arith, size)));
          }
        where
          in_r : (j : ℕ) → j < length H → j < length R
          in_r j l = omega (arith, size, length-map rows by_row)

          low : (j : ℕ) → j < length H → get_or writer j 0 < length rows
          low j l = omega (arith, length-map rows by_row, made_tied.inside j (in_r j l))

-- what the doubled ranks are shortened from
pub shorten_asks : {t : List ℕ} {register : ℕ} {rows : List ℕ} → Listed t register rows → (start finish writer : List ℕ)
    → RanksOf t rows start finish → writer ≡ map (writer_of t rows) rows → (o : List Op) × Whole o writer finish
shorten_asks {t} {register} {rows} g start finish writer r e = (map (by_row g) rows, made_whole g writer e start finish (r (history t register) (listed_stands g)))

-- THE COLUMNS ARE MADE, from what each call leaves
pub made : (t rows start ends finish writer last prev : List ℕ) → RanksOf t rows start ends
    → ((o : List Op) → Whole o writer ends → finish ≡ map (new_finish o) o)
    → writer ≡ map (writer_of t rows) rows → Linked writer last prev → Made t rows (cols start finish writer last prev)
made t rows start ends finish writer last prev r b e k =
    record { columns = λ register g. columns_of_lem g writer e start ends (r (history t register) (listed_stands g)) finish last prev b; chains = k }

-- what the chains are made from: each write is a position
pub link_asks : {t : List ℕ} {register : ℕ} {rows : List ℕ} → Listed t register rows → (writer : List ℕ) → writer ≡ map (writer_of t rows) rows
    → (j : ℕ) → j < length writer → get_or writer j 0 < length writer
link_asks {t} {register} {rows} g writer e j l = omega (arith, tied.long, tied.inside j (omega (arith, tied.long)))
  where
    tied : Tied (map (by_row g) rows) writer
    tied = made_tied g writer e
