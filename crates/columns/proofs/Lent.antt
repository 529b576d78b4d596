-- A screened register's rows by rising time, and slices as long as they are.
-- Assumes nothing.
use Prim.Native.Nat.{ℕ, ◌≤◌}
use mathlib.Core.Path.{◌≡◌, ap, ◌∙◌}
use mathlib.Core.List.{List, map}
use native.Mathlib.Omega.{arith}
use lib.ListN.{length, take, replicate, length-map, length-replicate}
use lib.Seq.{length-take-le}
use Rattle.lists.proofs.Maps.{map_in}
use Rattle.lists.proofs.Sorts.{sort_length}
use Rattle.history.specs.Table.{op_at, rows_of, history}
use Rattle.history.specs.Screen.{Screened}
use Rattle.history.proofs.Rows.{in_rows}
use Rattle.ranking.specs.Ranked.{Fit}
use Rattle.preparation.specs.Times.{begins_first, by_time}
use Rattle.methods.specs.Mark.{row_numbers}
use Rattle.columns.specs.Rows.{Listed}
use Rattle.columns.specs.Made.{Room}

-- as many rows as the register has
pub rows_long : {t : List ℕ} {register : ℕ} {rows : List ℕ} → Listed t register rows → length rows ≡ length (history t register)
unfolding by_time
rows_long {t} {register} g = ap length g.listed ∙ length-map (by_time (history t register)) (λ x. x.row) ∙ sort_length begins_first (history t register)

-- the rows of a screened register are in the table, and have spans
pub gathered_fit : (t : List ℕ) (register : ℕ) → Screened (length t) (history t register) → (rows : List ℕ) → rows ≡ rows_of t register → Fit t rows
unfolding history
gathered_fit t register s rows e =
    record {
      inside = λ x m. omega (arith, (in_rows t register (rw e at m)).exists);
      spans = λ x m. s.spans (op_at t x) (map_in (op_at t) (rw e at m));
    }

-- the rows in table sequence, put by rising time
pub listed : (t : List ℕ) (register : ℕ) → Screened (length t) (history t register) → (gathered rows : List ℕ) → gathered ≡ rows_of t register →
    rows ≡ row_numbers (by_time (map (op_at t) gathered)) → Listed t register rows
unfolding history
listed t register s gathered rows e q = record { screened = s; listed = q ∙ ap (λ (l : List ℕ). row_numbers (by_time (map (op_at t) l))) e }

-- the front of an array of one number
pub front_of : (v m : ℕ) (rows : List ℕ) → length rows ≤ m → length (take {A = ℕ} (length rows) (replicate m v)) ≡ length rows
front_of v m rows h = length-take-le (length rows) (replicate m v) (rw (length-replicate {A = ℕ} m v) h)

-- five slices of arrays with m places, as long as the rows
pub room_of : (m : ℕ) (rows : List ℕ) → length rows ≤ m →
    let l = take {A = ℕ} (length rows) (replicate m 0) in
    Room rows l l l l l
room_of m rows h = let e = front_of 0 m rows h in record { room_start = e; room_finish = e; room_writer = e; room_last = e; room_prev = e }
