-- The data lines one by one: the answer of them all is the answer from here on, and what is left of the table's rows is those from here on.
-- Assumes nothing.
use Prim.Native.Nat.{ℕ, ◌+◌, ◌*◌, ◌≤◌, ◌<◌}
use mathlib.Core.Path.{◌≡◌, refl, sym, ap, ◌∙◌}
use mathlib.Core.Logic.{◌≢◌}
use mathlib.Core.List.{List, ◌∷◌, flat_map}
use native.Mathlib.Nat.{zero-add}
use native.Mathlib.Omega.{arith}
use lib.ListN.{length, drop, length-drop}
use lib.Seq.{sets}
use Rattle.std.specs.Prelude.{None}
use Rattle.history.specs.declared.Answer.{Answer}
use Rattle.history.specs.declared.Row.{Row}
use Rattle.history.specs.Table.{largest_count}
use Rattle.history.specs.Answer.{Test, first_met, passed}
use Rattle.history.proofs.Refusals.{NoFault, code_no_fault, no_fault_answer, met_append, met_kept}
use Rattle.records.specs.Records.{cells}
use Rattle.text.proofs.Putting.{Putting, put_none, put_more, put_all}
use Rattle.parsing.specs.Numbers.{front}
use Rattle.parsing.proofs.Lines.{front_length}
use Rattle.cells.specs.Parts.{Part, part, cells_of, lines_from}
use Rattle.cells.specs.Steps.{cells_from}
use Rattle.cells.specs.Grids.{bytes_of}
use Rattle.cells.proofs.Parting.{lines_none, lines_more}
use Rattle.headers.specs.declared.Columns.{Columns}
use Rattle.logs.specs.declared.Line.{Line}
use Rattle.log_tables.specs.Logs.{row_of, line_tests, rows_of}
use Rattle.log_tables.proofs.Testing.{length_rows, line_coded, line_few}
use Rattle.logs.proofs.Filling.{row_filled}
use Rattle.logs.specs.Steps.{no_row, walked, walked_tests, found_in, LinesTested}

module _ (bs : List ℕ) (cs : Columns) (w : ℕ) where
  -- the tests of a line that was walked are the line's
  line_tests_lem : (n at : ℕ) → walked_tests (length bs) n w at (walked bs cs no_row 0 at None) ≡ line_tests bs cs w (part n at (front (drop at bs)))
  unfolding line_tests walked_tests walked cells_from
  line_tests_lem n at = rw (zero-add (length (cells_of (part n at (front (drop at bs))))))

  module _ (start : ℕ) (old : List ℕ) where
    pub record Loading (n at : ℕ) (table : List ℕ) : Type 0 where
      pub few : n ≤ largest_count
      pub whole : found_in bs cs w start ≡ first_met (flat_map (line_tests bs cs w) (lines_from bs n at)) (passed (n + length (lines_from bs n at)))
      pub put : Putting old 0 (rows_of cs (lines_from bs 0 start)) table (n * 5) (rows_of cs (lines_from bs n at))

    pub load_none : Loading 0 start old
    load_none =
        record {
          few = omega arith;
          whole = ap (λ (k : ℕ). first_met (flat_map (line_tests bs cs w) (lines_from bs 0 start)) (passed k)) (sym (zero-add (length (lines_from bs 0 start))));
          put = put_none old 0 (rows_of cs (lines_from bs 0 start));
        }

    module _ (n at : ℕ) (table : List ℕ) (g : Loading n at table) where
      pub load_end : 5120 ≤ length old → length bs ≤ at → (r : Answer) → r ≡ passed n → LinesTested bs cs w start old table r
      unfolding flat_map first_met
      load_end o h r e =
          let none = lines_none bs n at h in
          let all = put_all g.put (ap (rows_of cs) none) in
          let last : n + 0 ≡ n = omega arith in
          record {
            room = omega (arith, g.put.long);
            answer =
                e
                ∙ sym
                (g.whole
                ∙ ap (λ (ls : List Part). first_met (flat_map (line_tests bs cs w) ls) (passed (n + length ls))) none
                ∙ ap (λ (k : ℕ). passed k) last);
            few = λ z. omega (arith, all.0, length_rows cs (lines_from bs 0 start), g.few);
            stored = λ z. all.1;
          }

      module _ (inside : at < length bs) (line : Line) (e : line ≡ walked bs cs no_row 0 at None)
          (answer : Answer) (judged : answer ≡ first_met (walked_tests (length bs) n w at line) (passed 0)) where
        here : Part
        here = part n at (front (drop at bs))

        abbrev rest : List Part
        rest = lines_from bs (n + 1) (line.end + 1)

        split : lines_from bs n at ≡ here ∷ rest
        unfolding here walked
        split = lines_more bs n at inside line.end (ap (λ (x : Line). x.end) e)

        pub load_above : at ≤ line.end
        unfolding walked
        load_above = omega (arith, ap (λ (x : Line). x.end) e)

        pub load_within : line.end ≤ length bs
        unfolding walked
        load_within = omega (arith, ap (λ (x : Line). x.end) e, front_length (drop at bs), length-drop at bs)

        told : answer ≡ first_met (line_tests bs cs w here) (passed 0)
        unfolding here
        told = judged ∙ ap (λ (x : Line). first_met (walked_tests (length bs) n w at x) (passed 0)) e ∙ ap (λ (xs : List Test). first_met xs (passed 0)) (line_tests_lem n at)

        on : found_in bs cs w start ≡ first_met (line_tests bs cs w here) (first_met (flat_map (line_tests bs cs w) rest) (passed (n + 1 + length rest)))
        unfolding flat_map
        on =
            let k : n + length (here ∷ rest) ≡ n + 1 + length rest = omega arith in
            g.whole
            ∙ ap (λ (ls : List Part). first_met (flat_map (line_tests bs cs w) ls) (passed (n + length ls))) split
            ∙ ap (λ (m : ℕ). first_met (flat_map (line_tests bs cs w) (here ∷ rest)) (passed m)) k
            ∙ met_append (line_tests bs cs w here) (flat_map (line_tests bs cs w) rest) (passed (n + 1 + length rest))

        coded : answer.code ≡ (first_met (line_tests bs cs w here) (passed 0)).code
        coded = ap (λ (a : Answer). a.code) told

        pub load_hit : 5120 ≤ length old → answer.code ≢ 0 → LinesTested bs cs w start old table answer
        load_hit o c =
            record {
              room = omega (arith, g.put.long);
              answer = told ∙ sym (on ∙ met_kept (line_tests bs cs w here) (passed 0) _ refl (λ z. c (coded ∙ z)));
              few = λ z. absurd (c z);
              stored = λ z. absurd (c z);
            }

        module _ (z : answer.code ≡ 0) where
          quiet : NoFault (line_tests bs cs w here)
          quiet = code_no_fault (line_tests bs cs w here) (line_coded bs cs w here) (passed 0) (sym coded ∙ z)

          pub load_few : n < largest_count
          unfolding here
          load_few = line_few bs cs w here quiet

          pub load_more : (out : List ℕ) → out ≡ sets table (n * 5) (cells line.row) → Loading (n + 1) (line.end + 1) out
          unfolding here walked cells_from flat_map
          load_more out s =
              record {
                few = omega (arith, load_few);
                whole = on ∙ no_fault_answer (line_tests bs cs w here) _ quiet;
                put =
                    put_more g.put (cells (row_of cs (bytes_of (cells_of here)))) (rows_of cs rest) (ap (rows_of cs) split) out ((n + 1) * 5)
                    (s
                    ∙ ap (λ (x : Line). sets table (n * 5) (cells x.row)) e
                    ∙ ap (λ (x : Row). sets table (n * 5) (cells x)) (row_filled cs at (front (drop at bs))))
                    (omega arith);
              }
