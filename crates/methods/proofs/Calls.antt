-- Calls of the marker and of the order check, written short, for tables of calls with their outcomes.
-- Assumes nothing.
use Prim.Native.Nat.{ℕ}
use mathlib.Core.List.{List, [], ◌∷◌, flat_map}
use Rattle.lists.specs.Lists.{from, put, keep, all, any, first}
use Rattle.lists.specs.Sorts.{insert, sort}
use Rattle.history.specs.Table.{op_at, bears, rows_of, history, is_opening, is_write, is_read, precedes, dictates}
use Rattle.history.specs.Answer.{first_met}
use Rattle.history.specs.Screen.{wrong_kind, stray_opening, wrong_span, opens_too, reopens, repeats, rewrites, dictated_by, unwritten, precedes_write, too_early, tests}
use Rattle.atomicity.specs.Order.{writes_between}
use Rattle.atomicity.specs.Check.{same_row, precedes_at, near_at, is_row, misfits, late, too_far, missing, order_tests, check}
use Rattle.methods.specs.Extremes.{least, greatest}
use Rattle.methods.specs.Ranks.{sooner, rank, ranked}
use Rattle.methods.specs.Prepared.{by_start, shortened, new_finish, prepared}
use Rattle.methods.specs.Zones.{first_finish, last_start, clear, is_one, in_order, zones}
use Rattle.methods.specs.Lbt.{pick, choose, step, behind, epoch, candidates, onemore, round, trials, decided, follow, walk}
use Rattle.methods.specs.Fzf.{grow, runs, forward_writes, backward_writes, swap, listed, of_first, put_behind, viable, back, first_viable, put_before, made, items, join, fzf}
use Rattle.methods.specs.Mark.{Outcome, method, marked, judged, mark_tests, mark_of, mark}

-- W v s f is a write of the value v from s to f, and R a read; the register is 7.
abbrev pub W : ℕ → ℕ → ℕ → List ℕ
W value start finish = 7 ∷ 1 ∷ value ∷ start ∷ finish ∷ []

abbrev pub R : ℕ → ℕ → ℕ → List ℕ
R value start finish = 7 ∷ 2 ∷ value ∷ start ∷ finish ∷ []

-- the values a, b, c of document 01, and one more
abbrev pub a : ℕ
a = 1

abbrev pub b : ℕ
b = 2

abbrev pub c : ℕ
c = 3

abbrev pub d : ℕ
d = 4

-- A call on a table, for register 7: of the marker, with a question, an allowance and the lent list; of the order check, with k and a list.
pub data Call : Type 0 where
  marks : (table : List ℕ) (question allowance : ℕ) (list : List ℕ) → Call
  checks : (table : List ℕ) (k : ℕ) (list : List ℕ) → Call

abbrev pub lent : List ℕ
lent = 90 ∷ 91 ∷ 92 ∷ 93 ∷ 94 ∷ 95 ∷ 96 ∷ []

-- An outcome: code, row, rows, trials, and the list afterwards.
abbrev pub gives : ℕ → ℕ → ℕ → ℕ → List ℕ → Outcome
gives code row rows trials list = record { answer = record { code = code; row = row; rows = rows; trials = trials }; list = list }

-- A call with the outcome that it must have.
pub record Case : Type 0 where
  pub call : Call
  pub outcome : Outcome

abbrev pub case : Call → Outcome → Case
case call outcome = record { call = call; outcome = outcome }

-- What the definitions make of a call. To unfold `run` is to unfold all of them, so that antt computes the outcome.
unfoldable pub run : Call → Outcome
unfolding from put keep all any first insert sort flat_map op_at bears rows_of history is_opening is_write is_read precedes dictates first_met wrong_kind stray_opening wrong_span opens_too reopens repeats rewrites dictated_by unwritten precedes_write too_early tests writes_between same_row precedes_at near_at is_row misfits late too_far missing order_tests check least greatest sooner rank ranked by_start shortened new_finish prepared first_finish last_start clear is_one in_order zones pick choose step behind epoch candidates onemore round trials decided follow walk grow runs forward_writes backward_writes swap listed of_first put_behind viable back first_viable put_before made items join fzf method marked judged mark_tests mark_of mark
run (marks table question allowance list) = mark table 7 question allowance list
run (checks table k list) = record { answer = check table 7 k list; list = list }
