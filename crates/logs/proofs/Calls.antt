-- What the calls answer and leave in the lent table, from what their steps find.
-- Assumes nothing.
use Prim.Native.Nat.{ℕ, ◌+◌, ◌*◌, ◌≤◌}
use mathlib.Core.Path.{◌≡◌, refl, sym, ap, ◌∙◌}
use mathlib.Core.Logic.{◌≢◌}
use mathlib.Core.Bool.{Bool, true, false}
use mathlib.Core.List.{List, [], ◌∷◌, ◌++◌, flat_map}
use native.Mathlib.Omega.{arith}
use borrow.Author.Tests.{ltb-false}
use lib.Dec.{ltb}
use lib.ListN.{length, take, drop}
use lib.Seq.{take_at, length-sets}
use Rattle.lists.proofs.Stores.{sets_front}
use Rattle.history.specs.declared.Answer.{Answer}
use Rattle.history.specs.Answer.{Test, if_so, first_met, passed, refused_by}
use Rattle.history.specs.declared.Code.TheVariants.{ShortList}
use Rattle.history.proofs.Refusals.{code_no_fault, no_fault_answer, met_stop, met_on}
use Rattle.files.specs.Files.{room_test, after}
use Rattle.files.proofs.Calls.{after_refused, after_fresh, code_of}
use Rattle.parsing.specs.Numbers.{front}
use Rattle.cells.specs.Parts.{Part, lines_from}
use Rattle.headers.specs.declared.Columns.{Columns}
use Rattle.headers.specs.declared.Header.{Header}
use Rattle.headers.specs.Header.{width, sound_header, columns_of}
use Rattle.headers.specs.Steps.{header_of}
use Rattle.log_tables.specs.Logs.{line_tests, rows_of, data_lines, log_tests, log_table, load_tests, load_answer, load_table, Loads}
use Rattle.log_tables.specs.Shuffled.{LoadsAlike}
use Rattle.log_tables.specs.Stamps.{LoadsStamps, LoadsClocked}
use Rattle.log_tables.proofs.Shuffling.{shuffled_loads}
use Rattle.log_tables.proofs.Stamps.{stamps_load}
use Rattle.log_tables.proofs.Clocked.{clocked_loads}
use Rattle.logs.specs.Steps.{lines_answer, LinesTested}
use Rattle.log_tables.proofs.Testing.{length_rows, lines_coded}

-- the data lines, from what their tests found
room_passed : (needed room rows : ℕ) → (first_met (room_test needed room ∷ []) (passed rows)).code ≡ 0 → needed ≤ room
unfolding first_met
room_passed needed room rows z = go (ltb room needed) refl z
  where
    go : (b : Bool) → ltb room needed ≡ b → (first_met (record { code = ShortList; fault = if_so b } ∷ []) (passed rows)).code ≡ 0 → needed ≤ room
    go true e z = absurd (omega arith)
    go false e z = ltb-false room needed e

module _ (bs : List ℕ) (cs : Columns) (w start : ℕ) (old new : List ℕ) (found : Answer) (g : LinesTested bs cs w start old new found) where
  abbrev ls : List Part
  ls = lines_from bs 0 start

  abbrev tests : List Test
  tests = flat_map (line_tests bs cs w) ls

  pub found_refused : (table : List ℕ) → found.code ≢ 0 → (found ≡ lines_answer bs cs w start (length table)) × (table ≡ after found (rows_of cs (lines_from bs 0 start)) table)
  found_refused table c = (
    g.answer ∙ sym (met_stop tests (room_test (length ls * 5) (length table) ∷ []) (passed (length ls)) refl (λ z. c (code_of g.answer z))),
    sym (after_refused found (rows_of cs ls) table c),
  )

  module _ (z : found.code ≡ 0) where
    quiet : (first_met tests (passed (length ls))).code ≡ 0
    quiet = code_of (sym g.answer) z

    found_rows : found.rows ≡ length ls
    found_rows = ap (λ (a : Answer). a.rows) (g.answer ∙ no_fault_answer tests (passed (length ls)) (code_no_fault tests (lines_coded bs cs w ls) (passed (length ls)) quiet))

    pub found_short : found.rows * 5 ≤ 5120
    found_short = omega (arith, found_rows, g.few z)

    pub found_within : found.rows * 5 ≤ length new
    found_within = omega (arith, found_short, g.room)

    long : length (rows_of cs ls) ≡ found.rows * 5
    long = omega (arith, length_rows cs ls, found_rows)

    wide_enough : length (rows_of cs ls) ≤ length old
    wide_enough = omega (arith, long, found_short, g.room, ap length (g.stored z), length-sets old 0 (rows_of cs ls))

    pub found_front : take (found.rows * 5) new ≡ rows_of cs (lines_from bs 0 start)
    found_front =
        ap (take (found.rows * 5)) (g.stored z ∙ sets_front (rows_of cs ls) old wide_enough)
        ∙ take_at (rows_of cs ls) (drop (length (rows_of cs ls)) old) (found.rows * 5) long

    pub found_long : found.rows * 5 ≡ length (take (found.rows * 5) new)
    found_long = sym long ∙ ap length (sym found_front)

    -- the test of the room has the last word
    module _ (table : List ℕ) (answer : Answer) (judged : answer ≡ first_met (room_test (found.rows * 5) (length table) ∷ []) (passed found.rows)) where
      pub answer_judged : answer ≡ lines_answer bs cs w start (length table)
      answer_judged =
          judged
          ∙ ap (λ (k : ℕ). first_met (room_test (k * 5) (length table) ∷ []) (passed k)) found_rows
          ∙ sym (met_on tests (room_test (length ls * 5) (length table) ∷ []) (passed (length ls)) (lines_coded bs cs w ls) quiet)

      pub answer_refused : answer.code ≢ 0 → table ≡ after answer (rows_of cs (lines_from bs 0 start)) table
      answer_refused c = sym (after_refused answer (rows_of cs ls) table c)

      pub answer_room : answer.code ≡ 0 → found.rows * 5 ≤ length table
      answer_room y = omega (arith, found_long, room_passed (found.rows * 5) (length table) found.rows (code_of (sym judged) y))

      pub answer_copied : answer.code ≡ 0 → (out : List ℕ) → out ≡ take (found.rows * 5) new ++ drop (found.rows * 5) table
          → out ≡ after answer (rows_of cs (lines_from bs 0 start)) table
      answer_copied y out e =
          e ∙ ap (λ (k : ℕ). take (found.rows * 5) new ++ drop k table) found_long ∙ ap (λ (l : List ℕ). l ++ drop (length l) table) found_front ∙ sym (after_fresh answer (rows_of cs ls) table y)

-- the whole call
module _ (bs table : List ℕ) where
  sound_answer : sound_header bs ≡ true → lines_answer bs (columns_of bs) (width bs) (length (front bs) + 1) (length table) ≡ load_answer bs table
  unfolding load_answer load_tests log_tests data_lines first_met
  sound_answer t = rw t

  fault_answer : sound_header bs ≡ false → refused_by 18 0 ≡ load_answer bs table
  unfolding load_answer load_tests log_tests first_met
  fault_answer t = rw t

  module _ (header : Header) (h : header ≡ header_of bs) where
    is_sound_lem : sound_header bs ≡ header.sound
    unfolding header_of
    is_sound_lem = sym (ap (λ (x : Header). x.sound) h)

    pub load_sound : header.sound ≡ true → (r : Answer) (out : List ℕ)
        → r ≡ lines_answer bs header.columns header.width header.start (length table)
        → out ≡ after r (rows_of header.columns (lines_from bs 0 header.start)) table
        → (r ≡ load_answer bs table) × (out ≡ load_table bs table)
    unfolding header_of load_table log_table data_lines
    load_sound s r out a o =
        let e : r ≡ load_answer bs table =
        a ∙ ap (λ (x : Header). lines_answer bs x.columns x.width x.start (length table)) h ∙ sound_answer (is_sound_lem ∙ s) in (
          e,
          o
              ∙ ap (λ (x : Header). after r (rows_of x.columns (lines_from bs 0 x.start)) table) h
              ∙ ap (λ (x : Answer). after x (log_table bs) table) e,
        )

    pub load_fault : header.sound ≡ false → (r : Answer) → r ≡ refused_by 18 0 → (r ≡ load_answer bs table) × (table ≡ load_table bs table)
    unfolding load_table
    load_fault s r e =
        let f = fault_answer (is_sound_lem ∙ s) in
        (e ∙ f, sym (after_refused (load_answer bs table) (log_table bs) table (λ z. omega (arith, code_of f z))))

-- What the call promises beside its outcome, each by its theorem.
pub load_clauses : (bs table : List ℕ) (r : Answer) (out : List ℕ) → Loads bs table r out
    → Loads bs table r out × ((r.code ≡ 0 → LoadsAlike bs table) × ((r.code ≡ 0 → LoadsStamps bs out) × (r.code ≡ 0 → LoadsClocked bs table)))
load_clauses bs table r out e = (
  e,
  (λ z. shuffled_loads bs table (code_of (sym e.0) z), (λ z. stamps_load bs table r out e z, λ z. clocked_loads bs table (code_of (sym e.0) z))),
)
