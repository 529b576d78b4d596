-- Logs with known answers (document 02, W-201): one table, and one theorem; and a column-shuffled copy and one with clock time, computed.
-- Assumes nothing.
use Prim.Native.Nat.{ℕ, zero, suc, ◌<◌}
use mathlib.Core.Path.{◌≡◌, refl}
use mathlib.Core.Logic.{◌≢◌}
use mathlib.Core.Bool.{Bool, true, false}
use mathlib.Core.List.Memᴰ.{head as here}
use mathlib.Core.List.Memᴰ.{tail as there}
use mathlib.Core.List.{List, [], ◌∷◌, ◌++◌, map, flat_map, Memᴰ as In}
use native.Mathlib.Omega.{arith}
use borrow.Author.Tests.{eqb-true, eqb-false}
use lib.Dec.{eqb}
use Rattle.lists.specs.Pairs.{Pairs, nil, cons}
use Rattle.lists.specs.Lists.{put, keep, all, first}
use Rattle.history.specs.declared.Answer.{Answer}
use Rattle.history.specs.Answer.{first_met, passed, refused_by}
use Rattle.parsing.specs.Numbers.{is_digit, worth, held, says, number_of, number_in, front, is_number}
use Rattle.text.specs.Decimal.{digits, decimal}
use Rattle.clock.specs.Clock.{clock_of, leading_zero, days_in, field_in, with_field, said_at, clock_in, stamp_in}
use Rattle.cells.specs.Parts.{longer, parts, lines_from, kind_of, same}
use Rattle.headers.specs.Header.{register_name, kind_name, value_name, start_name, finish_name, more, column_from, header_cells, width, named_from, is_only, place, places_of, complete, sound_header}
use Rattle.cells.specs.Grids.{joined, text_of}
use Rattle.log_tables.specs.Stamps.{as_clock, clock_cells, clocked}
use Rattle.log_tables.specs.Shuffled.{Reorders, shuffled}
use Rattle.log_tables.specs.Logs.{said_in, amount, data_lines, line_tests, log_tests, log_table, load_tests, load_answer, load_table}

-- What a call gives: its answer, and the table after it.
pub record Gives : Type 0 where
  pub answer : Answer
  pub table : List ℕ

-- A log loaded into a table of six places, and what that gives.
pub record Case : Type 0 where
  pub given : Gives
  pub known : Gives

abbrev lent : List ℕ
lent = 91 ∷ 92 ∷ 93 ∷ 94 ∷ 95 ∷ 96 ∷ []

abbrev loads : List ℕ → Answer → List ℕ → Case
loads bs answer table = record { given = record { answer = load_answer bs lent; table = load_table bs lent }; known = record { answer = answer; table = table } }

-- the five names in our sequence, 33 bytes with the line feed; and a line of them, 11 bytes: 7,w,25,3,9
abbrev header : List ℕ
header = register_name ++ 44 ∷ kind_name ++ 44 ∷ value_name ++ 44 ∷ start_name ++ 44 ∷ finish_name ++ 10 ∷ []

abbrev line : List ℕ
line = 55 ∷ 44 ∷ 119 ∷ 44 ∷ 50 ∷ 53 ∷ 44 ∷ 51 ∷ 44 ∷ 57 ∷ 10 ∷ []

-- other columns, one without a name and two of one name: x,finish,kind,,x,start,value,register; and ?,9,r,,7,3,025,7
abbrev others : List ℕ
others = 120 ∷ 44 ∷ finish_name ++ 44 ∷ kind_name ++ 44 ∷ 44 ∷ 120 ∷ 44 ∷ start_name ++ 44 ∷ value_name ++ 44 ∷ register_name ++ 10 ∷ []

abbrev other_line : List ℕ
other_line = 63 ∷ 44 ∷ 57 ∷ 44 ∷ 114 ∷ 44 ∷ 44 ∷ 55 ∷ 44 ∷ 51 ∷ 44 ∷ 48 ∷ 50 ∷ 53 ∷ 44 ∷ 55 ∷ 10 ∷ []

-- the same with its columns reversed: register,value,start,x,,kind,finish,x; and 7,025,3,7,,r,9,?
abbrev reversed_copy : List ℕ
reversed_copy =
    register_name ++ 44 ∷ value_name ++ 44 ∷ start_name ++ 44 ∷ 120 ∷ 44 ∷ 44 ∷ kind_name ++ 44 ∷ finish_name ++ 44 ∷ 120 ∷ 10
    ∷ 55 ∷ 44 ∷ 48 ∷ 50 ∷ 53 ∷ 44 ∷ 51 ∷ 44 ∷ 55 ∷ 44 ∷ 44 ∷ 114 ∷ 44 ∷ 57 ∷ 44 ∷ 63 ∷ 10
    ∷ []

unfoldable pub cases : List Case
cases =
    -- no header line; one without a line feed; a name missing; a name repeated
    loads [] (refused_by 18 0) lent
    ∷ loads register_name (refused_by 18 0) lent
    ∷ loads (register_name ++ 44 ∷ kind_name ++ 44 ∷ value_name ++ 44 ∷ start_name ++ 10 ∷ []) (refused_by 18 0) lent
    ∷ loads (kind_name ++ 44 ∷ header) (refused_by 18 0) lent
    -- no data line; one; one with other columns, and with these reversed; two, for which the table is too short
    ∷ loads header (passed 0) lent
    ∷ loads (header ++ line) (passed 1) (7 ∷ 1 ∷ 25 ∷ 3 ∷ 9 ∷ 96 ∷ [])
    ∷ loads (others ++ other_line) (passed 1) (7 ∷ 2 ∷ 25 ∷ 3 ∷ 9 ∷ 96 ∷ [])
    ∷ loads reversed_copy (passed 1) (7 ∷ 2 ∷ 25 ∷ 3 ∷ 9 ∷ 96 ∷ [])
    ∷ loads (header ++ line ++ line) (refused_by 10 0) lent
    -- 7,o,25,3,9: an opening's stamps are loaded like any (02, W-207)
    ∷ loads (header ++ 55 ∷ 44 ∷ 111 ∷ 44 ∷ 50 ∷ 53 ∷ 44 ∷ 51 ∷ 44 ∷ 57 ∷ 10 ∷ []) (passed 1) (7 ∷ 3 ∷ 25 ∷ 3 ∷ 9 ∷ 96 ∷ [])
    -- a line without a line feed, one of one empty cell, one of six cells: at the line
    ∷ loads (header ++ line ++ 55 ∷ []) (refused_by 19 44) lent
    ∷ loads (header ++ line ++ 10 ∷ []) (refused_by 19 44) lent
    ∷ loads (header ++ 55 ∷ 44 ∷ line) (refused_by 19 33) lent
    -- 7,W,25,3,x: the leftmost; 7,w,,3,9: an empty cell; a carriage return at the end: at the cell
    ∷ loads (header ++ 55 ∷ 44 ∷ 87 ∷ 44 ∷ 50 ∷ 53 ∷ 44 ∷ 51 ∷ 44 ∷ 120 ∷ 10 ∷ []) (refused_by 19 35) lent
    ∷ loads (header ++ 55 ∷ 44 ∷ 119 ∷ 44 ∷ 44 ∷ 51 ∷ 44 ∷ 57 ∷ 10 ∷ []) (refused_by 19 37) lent
    ∷ loads (header ++ 55 ∷ 44 ∷ 119 ∷ 44 ∷ 50 ∷ 44 ∷ 51 ∷ 44 ∷ 57 ∷ 13 ∷ 10 ∷ []) (refused_by 19 41) lent
    ∷ []

pub known_logs : map (λ x. x.given) cases ≡ map (λ x. x.known) cases
unfolding cases load_answer load_table load_tests log_tests line_tests log_table data_lines amount said_in sound_header complete places_of place is_only named_from header_cells column_from more same kind_of lines_from parts longer is_number front stamp_in clock_in said_at with_field field_in days_in leading_zero number_in number_of says held worth is_digit first_met flat_map put keep all first
known_logs = refl

-- Columns reversed: n - 1 .. 0 is an order of n columns.
unfoldable pub reversed : ℕ → List ℕ
reversed zero = []
reversed (suc n) = n ∷ reversed n

in_reversed : (n k : ℕ) → In k (reversed n) → k < n
unfolding reversed
in_reversed (suc n) k (here e) = omega arith
in_reversed (suc n) k (there m) = omega (arith, in_reversed n k m)
in_reversed zero k x' = elim x' [ ]

reversed_in : (n k : ℕ) → k < n → In k (reversed n)
unfolding reversed
reversed_in (suc n) k h = go (eqb k n) refl (reversed_in n k)
  where
    go : (b : Bool) → eqb k n ≡ b → (k < n → In k (reversed n)) → In k (n ∷ reversed n)
    go true e next = here (eqb-true k n e)
    go false e next = there (next (let d = eqb-false k n e in omega arith))
reversed_in zero k h = elim h [ ]

reversed_once : (n : ℕ) → Pairs ◌≢◌ (reversed n)
unfolding reversed
reversed_once zero = nil
reversed_once (suc n) = cons (λ (y : ℕ) (m : In y (reversed n)) (e : n ≡ y). omega (arith, in_reversed n y m)) (reversed_once n)

pub reversed_reorders : (n : ℕ) → Reorders n (reversed n)
reversed_reorders n = record { once = reversed_once n; each = reversed_in n; only = in_reversed n }

-- The log with other columns, and its copy with all columns reversed, which is among the cases.
pub reversed_copy_lem : (width (others ++ other_line) ≡ 8) × (shuffled (reversed 8) (others ++ other_line) ≡ reversed_copy)
unfolding reversed shuffled text_of joined data_lines header_cells lines_from parts longer front keep put
reversed_copy_lem = (refl, refl)

-- The log of one line, and its copy with the stamps as clock time: 7,w,25,0:00:00:00.003,0:00:00:00.009.
abbrev clocked_copy : List ℕ
clocked_copy =
    header
    ++ 55 ∷ 44 ∷ 119 ∷ 44 ∷ 50 ∷ 53 ∷ 44 ∷ 48 ∷ 58 ∷ 48 ∷ 48 ∷ 58 ∷ 48 ∷ 48 ∷ 58 ∷ 48 ∷ 48 ∷ 46 ∷ 48 ∷ 48 ∷ 51
    ∷ 44 ∷ 48 ∷ 58 ∷ 48 ∷ 48 ∷ 58 ∷ 48 ∷ 48 ∷ 58 ∷ 48 ∷ 48 ∷ 46 ∷ 48 ∷ 48 ∷ 57 ∷ 10
    ∷ []

pub clocked_copy_lem : clocked (header ++ line) ≡ clocked_copy
unfolding clocked clock_cells as_clock clock_of decimal digits text_of joined data_lines header_cells lines_from parts longer front keep put places_of place named_from column_from more same stamp_in is_number number_of says held worth is_digit all
clocked_copy_lem = refl
