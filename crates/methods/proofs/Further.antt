-- Further histories, on which near readings of documents 01 and 02 differ that may agree on C1 to C10: one table, and one theorem.
-- Assumes nothing.
use Prim.Native.Nat.{ℕ, ◌-◌, ◌^◌}
use mathlib.Core.Path.{◌≡◌, refl}
use mathlib.Core.List.{List, [], ◌∷◌, ◌++◌, map}
use lib.ListN.{replicate}
use Rattle.methods.proofs.Calls.{W, R, a, b, c, d, marks, checks, Case, case, gives, lent, run}
use Rattle.methods.proofs.Cases.{C2, C3, C4, C5, C7}

-- A row of another register, with a bad kind and a bad span: in front of a history it makes row numbers differ from positions.
abbrev stranger : List ℕ
stranger = 8 ∷ 3 ∷ 0 ∷ 9 ∷ 8 ∷ []

-- Shortening.

-- The write of a is shortened to end before that of b, and is tried after it.
abbrev shortens : List ℕ
shortens = stranger ++ W b 2 5 ++ R a 3 4 ++ W a 1 6

-- Shortened after doubling, the write of a ends after that of b; shortened before doubling, with it.
abbrev doubles_first : List ℕ
doubles_first = W b 1 4 ++ W a 2 6 ++ R a 3 5

-- Of two reads that finish below the write of a, the one with the smaller finish counts.
abbrev shortens_most : List ℕ
shortens_most = W a 1 9 ++ R a 2 8 ++ R a 3 5 ++ W b 4 6

-- The sequence of the reads.

-- Reads of one write go by start, whatever their rows; one of them starts before the write.
abbrev reads_by_start : List ℕ
reads_by_start = R a 4 6 ++ R a 1 5 ++ W a 2 3

-- LBT, and what zones do not tell.

-- The first epoch leaves a write and its read, which starts before it: the rest as it stands is no order.
abbrev two_epochs : List ℕ
two_epochs = R a 1 5 ++ W a 2 4 ++ W b 6 7

-- Its zones are those of C3, which is stale: zones alone do not decide 2-atomicity.
abbrev zones_of_c3 : List ℕ
zones_of_c3 = W a 1 2 ++ W b 0 4 ++ W c 5 6 ++ R a 7 8 ++ R b 3 9

-- FZF: the orders of figure 4 in their sequence.

-- No backward cluster: T_F and T_F' are viable.
abbrev forwards_first : List ℕ
forwards_first = W a 1 3 ++ R a 6 7 ++ W b 2 4 ++ R b 5 8

-- No backward cluster: only T_F' is viable.
abbrev forwards_swapped : List ℕ
forwards_swapped = R a 10 11 ++ W b 2 4 ++ R c 9 12 ++ R b 5 6 ++ W c 7 8 ++ W a 1 3

-- One backward cluster: w T_F and T_F w are viable.
abbrev backward_first : List ℕ
backward_first = W b 2 7 ++ R a 6 8 ++ R b 4 5 ++ W a 1 3

-- One backward cluster: only T_F' w is viable.
abbrev backward_last : List ℕ
backward_last = W a 6 7 ++ W b 1 3 ++ W c 2 4 ++ R b 9 10 ++ R c 5 8

-- Two backward clusters: w1 T_F w2 and w2 T_F w1 are viable.
abbrev lower_first : List ℕ
lower_first = W a 3 4 ++ R a 20 21 ++ W b 1 10 ++ R b 5 11 ++ W c 2 12 ++ R c 6 13

-- Two backward clusters: only w2 T_F w1 is viable.
abbrev lower_last : List ℕ
lower_last = W a 1 13 ++ W b 2 7 ++ W c 3 4 ++ W d 5 10 ++ R b 11 12 ++ R a 6 9 ++ R c 8 14

-- Three backward clusters: stale.
abbrev three_backward : List ℕ
three_backward = W a 1 2 ++ W b 3 4 ++ W c 5 6 ++ W d 7 8 ++ R a 9 10

-- FZF: chunks and their joining.

-- The run's union ends with the highest of its zones, that of a, not with its last, that of c.
abbrev union_ends : List ℕ
union_ends = W b 7 8 ++ R a 9 10 ++ R c 5 6 ++ W a 1 2 ++ W c 3 4

-- The zone of b lies inside the union of two forward zones and inside neither.
abbrev inside_union : List ℕ
inside_union = W a 1 2 ++ R a 8 9 ++ W c 6 7 ++ R c 15 16 ++ W b 5 10

-- The low end of the dangling cluster of b lies above that of the chunk of a, and below its high end: the chunk comes first.
abbrev joins : List ℕ
joins = stranger ++ W b 5 15 ++ W a 1 2 ++ R a 10 11

-- The zone of b reaches around that of a, both dangling: b has the lower low end, a the lower high end.
abbrev reaches_around : List ℕ
reaches_around = W a 5 6 ++ W b 1 20

-- Ties (document 02, W-203).

-- Operations that touch are concurrent, whatever their rows: the write of b may stand before that of a. With finishes before starts, or with ranks
-- of starts and of finishes apart, question 1 would call the register stale; with touching operations in precedence the check would give 14.
abbrev touching : List ℕ
touching = W a 1 2 ++ W b 2 3 ++ R a 3 4

-- Of two that start and finish together, the one of the lower row comes first; with the higher row first the two would be interchanged.
abbrev together : List ℕ
together = W b 1 5 ++ W a 1 5

-- Rows that start and finish at one stamp; a read that touches its write is not early.
abbrev instants : List ℕ
instants = R a 5 5 ++ W a 5 5 ++ W b 5 5 ++ R b 5 5

-- Reads of one write with equal starts go by row.
abbrev equal_starts : List ℕ
equal_starts = R a 3 5 ++ R a 3 4 ++ W a 1 2 ++ R a 3 4

-- A read that finishes with its write shortens it where its row is the lower one: then the write of b finishes last, and LBT tries it first.
abbrev shortens_lower : List ℕ
shortens_lower = R a 2 4 ++ W b 3 4 ++ W a 1 4

abbrev shortens_not : List ℕ
shortens_not = W b 3 4 ++ W a 1 4 ++ R a 2 4

-- Refusals: two rows with a fault of one test and, at a lower row, a fault of the following test.

-- Test 4 at rows 2 and 3, test 5 at row 1.
abbrev wrong_kinds : List ℕ
wrong_kinds = stranger ++ W a 5 4 ++ (7 ∷ 4 ∷ a ∷ 1 ∷ 2 ∷ []) ++ (7 ∷ 0 ∷ a ∷ 5 ∷ 6 ∷ [])

-- Test 5 at rows 3 and 4, test 7 at row 2.
abbrev wrong_spans : List ℕ
wrong_spans = stranger ++ W a 1 4 ++ W a 4 5 ++ R a 7 6 ++ R b 9 8

-- Test 7 at rows 3 and 4, test 8 at row 1.
abbrev twin_writes : List ℕ
twin_writes = stranger ++ R b 7 8 ++ W a 1 4 ++ W a 2 3 ++ W a 5 6

-- Test 8 at rows 3 and 4, test 9 at row 1.
abbrev orphan_reads : List ℕ
orphan_reads = stranger ++ R a 1 2 ++ W a 3 4 ++ R b 5 6 ++ R c 7 8

-- Test 9 at rows 2 and 3.
abbrev early_reads : List ℕ
early_reads = stranger ++ W a 5 9 ++ R a 2 4 ++ R a 1 3

-- Test 2, by 1,025 rows of another register; tests 1 and 2, by one number more.
abbrev too_many : List ℕ
too_many = replicate 5125 8

abbrev too_many_and_ragged : List ℕ
too_many_and_ragged = replicate 5126 8

-- The largest stamp, and test 5 by the one above it.
abbrev largest : List ℕ
largest = W a 1 (2 ^ 62 - 1)

abbrev too_large : List ℕ
too_large = W a 1 (2 ^ 62)

-- The order check.

-- C2 behind a row of another register.
abbrev shifted : List ℕ
shifted = stranger ++ C2

-- In the sequence of rows the read of a is too far behind for k = 1 at position 2, and the write of c out of time at position 3.
abbrev misplaced : List ℕ
misplaced = stranger ++ W a 3 4 ++ W b 5 6 ++ R a 7 8 ++ W c 1 2

unfoldable pub further : List Case
further =
    -- shortening
    case (marks shortens 1 9 lent) (gives 0 0 3 0 (1 ∷ 3 ∷ 2 ∷ 93 ∷ 94 ∷ 95 ∷ 96 ∷ []))
    ∷ case (marks shortens 2 9 lent) (gives 0 0 3 2 (3 ∷ 2 ∷ 1 ∷ 93 ∷ 94 ∷ 95 ∷ 96 ∷ []))
    ∷ case (marks doubles_first 2 9 lent) (gives 0 0 3 2 (0 ∷ 1 ∷ 2 ∷ 93 ∷ 94 ∷ 95 ∷ 96 ∷ []))
    ∷ case (marks shortens_most 2 9 lent) (gives 0 0 4 2 (0 ∷ 1 ∷ 2 ∷ 3 ∷ 94 ∷ 95 ∷ 96 ∷ []))
    -- the sequence of the reads
    ∷ case (marks reads_by_start 1 9 lent) (gives 0 0 3 0 (2 ∷ 1 ∷ 0 ∷ 93 ∷ 94 ∷ 95 ∷ 96 ∷ []))
    ∷ case (marks reads_by_start 2 9 lent) (gives 0 0 3 1 (2 ∷ 1 ∷ 0 ∷ 93 ∷ 94 ∷ 95 ∷ 96 ∷ []))
    ∷ case (marks reads_by_start 3 9 lent) (gives 0 0 3 0 (2 ∷ 1 ∷ 0 ∷ 93 ∷ 94 ∷ 95 ∷ 96 ∷ []))
    -- LBT; no allowance is too small for the other questions
    ∷ case (marks two_epochs 2 9 lent) (gives 0 0 3 2 (1 ∷ 0 ∷ 2 ∷ 93 ∷ 94 ∷ 95 ∷ 96 ∷ []))
    ∷ case (marks C3 2 1 lent) (gives 12 0 4 1 lent)
    ∷ case (marks C3 2 0 lent) (gives 11 0 0 0 lent)
    ∷ case (marks C5 1 0 lent) (gives 12 0 5 0 lent)
    ∷ case (marks C5 3 0 lent) (gives 0 0 5 0 (1 ∷ 2 ∷ 0 ∷ 3 ∷ 4 ∷ 95 ∷ 96 ∷ []))
    ∷ case (marks zones_of_c3 1 9 lent) (gives 12 0 5 0 lent)
    ∷ case (marks zones_of_c3 2 9 lent) (gives 0 0 5 1 (1 ∷ 0 ∷ 4 ∷ 2 ∷ 3 ∷ 95 ∷ 96 ∷ []))
    ∷ case (marks zones_of_c3 3 9 lent) (gives 0 0 5 0 (1 ∷ 0 ∷ 4 ∷ 2 ∷ 3 ∷ 95 ∷ 96 ∷ []))
    -- FZF
    ∷ case (marks forwards_first 3 9 lent) (gives 0 0 4 0 (0 ∷ 2 ∷ 3 ∷ 1 ∷ 94 ∷ 95 ∷ 96 ∷ []))
    ∷ case (marks forwards_swapped 3 9 lent) (gives 0 0 6 0 (1 ∷ 5 ∷ 3 ∷ 4 ∷ 2 ∷ 0 ∷ 96 ∷ []))
    ∷ case (marks backward_first 3 9 lent) (gives 0 0 4 0 (0 ∷ 3 ∷ 2 ∷ 1 ∷ 94 ∷ 95 ∷ 96 ∷ []))
    ∷ case (marks backward_last 3 9 lent) (gives 0 0 5 0 (2 ∷ 1 ∷ 4 ∷ 0 ∷ 3 ∷ 95 ∷ 96 ∷ []))
    ∷ case (marks lower_first 3 9 lent) (gives 0 0 6 0 (2 ∷ 0 ∷ 3 ∷ 4 ∷ 5 ∷ 1 ∷ 96 ∷ []))
    ∷ case (marks lower_last 3 9 lent) (gives 0 0 7 0 (0 ∷ 2 ∷ 5 ∷ 1 ∷ 6 ∷ 3 ∷ 4 ∷ []))
    ∷ case (marks three_backward 3 9 lent) (gives 12 0 5 0 lent)
    ∷ case (marks union_ends 3 9 lent) (gives 12 0 5 0 lent)
    ∷ case (marks inside_union 3 9 lent) (gives 0 0 5 0 (0 ∷ 2 ∷ 1 ∷ 4 ∷ 3 ∷ 95 ∷ 96 ∷ []))
    ∷ case (marks joins 1 9 lent) (gives 0 0 3 0 (2 ∷ 3 ∷ 1 ∷ 93 ∷ 94 ∷ 95 ∷ 96 ∷ []))
    ∷ case (marks joins 3 9 lent) (gives 0 0 3 0 (2 ∷ 3 ∷ 1 ∷ 93 ∷ 94 ∷ 95 ∷ 96 ∷ []))
    ∷ case (marks reaches_around 1 9 lent) (gives 0 0 2 0 (1 ∷ 0 ∷ 92 ∷ 93 ∷ 94 ∷ 95 ∷ 96 ∷ []))
    ∷ case (marks reaches_around 3 9 lent) (gives 0 0 2 0 (1 ∷ 0 ∷ 92 ∷ 93 ∷ 94 ∷ 95 ∷ 96 ∷ []))
    -- ties
    ∷ case (marks touching 1 9 lent) (gives 0 0 3 0 (1 ∷ 0 ∷ 2 ∷ 93 ∷ 94 ∷ 95 ∷ 96 ∷ []))
    ∷ case (marks touching 2 9 lent) (gives 0 0 3 2 (0 ∷ 2 ∷ 1 ∷ 93 ∷ 94 ∷ 95 ∷ 96 ∷ []))
    ∷ case (marks together 1 9 lent) (gives 0 0 2 0 (0 ∷ 1 ∷ 92 ∷ 93 ∷ 94 ∷ 95 ∷ 96 ∷ []))
    ∷ case (marks together 2 9 lent) (gives 0 0 2 2 (0 ∷ 1 ∷ 92 ∷ 93 ∷ 94 ∷ 95 ∷ 96 ∷ []))
    ∷ case (marks instants 3 9 lent) (gives 0 0 4 0 (1 ∷ 0 ∷ 2 ∷ 3 ∷ 94 ∷ 95 ∷ 96 ∷ []))
    ∷ case (marks equal_starts 3 9 lent) (gives 0 0 4 0 (2 ∷ 0 ∷ 1 ∷ 3 ∷ 94 ∷ 95 ∷ 96 ∷ []))
    ∷ case (marks shortens_lower 2 9 lent) (gives 0 0 3 2 (2 ∷ 0 ∷ 1 ∷ 93 ∷ 94 ∷ 95 ∷ 96 ∷ []))
    ∷ case (marks shortens_not 2 9 lent) (gives 0 0 3 2 (0 ∷ 1 ∷ 2 ∷ 93 ∷ 94 ∷ 95 ∷ 96 ∷ []))
    -- refusals in marking: 1 before 2, and so on
    ∷ case (marks (C2 ++ 7 ∷ []) 1 9 lent) (gives 1 0 0 0 lent)
    ∷ case (marks too_many_and_ragged 1 9 lent) (gives 1 0 0 0 lent)
    ∷ case (marks too_many 0 9 lent) (gives 2 0 0 0 lent)
    ∷ case (marks wrong_kinds 0 9 lent) (gives 3 0 0 0 lent)
    ∷ case (marks wrong_kinds 4 9 lent) (gives 3 0 0 0 lent)
    ∷ case (marks wrong_kinds 1 9 lent) (gives 4 2 0 0 lent)
    ∷ case (marks wrong_spans 2 9 lent) (gives 5 3 0 0 lent)
    ∷ case (marks twin_writes 1 9 lent) (gives 7 3 0 0 lent)
    ∷ case (marks orphan_reads 2 9 lent) (gives 8 3 0 0 lent)
    ∷ case (marks early_reads 3 9 (90 ∷ [])) (gives 9 2 0 0 (90 ∷ []))
    -- 10 for a stale register, for a fresh one, and before 11; a list that just fits
    ∷ case (marks C2 1 9 (90 ∷ 91 ∷ [])) (gives 10 0 0 0 (90 ∷ 91 ∷ []))
    ∷ case (marks C2 3 9 (90 ∷ 91 ∷ [])) (gives 10 0 0 0 (90 ∷ 91 ∷ []))
    ∷ case (marks C2 2 0 (90 ∷ 91 ∷ [])) (gives 10 0 0 0 (90 ∷ 91 ∷ []))
    ∷ case (marks C2 2 1 (90 ∷ 91 ∷ 92 ∷ [])) (gives 0 0 3 1 (0 ∷ 1 ∷ 2 ∷ []))
    ∷ case (marks largest 1 9 lent) (gives 0 0 1 0 (0 ∷ 91 ∷ 92 ∷ 93 ∷ 94 ∷ 95 ∷ 96 ∷ []))
    ∷ case (marks too_large 1 9 lent) (gives 5 0 0 0 lent)
    -- refusals in the order check: the same tests, with k for the question; 2 before 3, 3 before 4 and on, 9 before 13
    ∷ case (checks too_many_and_ragged 1 []) (gives 1 0 0 0 [])
    ∷ case (checks too_many 0 []) (gives 2 0 0 0 [])
    ∷ case (checks wrong_kinds 0 []) (gives 3 0 0 0 [])
    ∷ case (checks wrong_kinds 1 []) (gives 4 2 0 0 [])
    ∷ case (checks wrong_spans 1 []) (gives 5 3 0 0 [])
    ∷ case (checks twin_writes 1 []) (gives 7 3 0 0 [])
    ∷ case (checks orphan_reads 1 []) (gives 8 3 0 0 [])
    ∷ case (checks early_reads 1 []) (gives 9 2 0 0 [])
    -- 13: the row of another register, no row, a row repeated, rows missing; a register without rows
    ∷ case (checks shifted 2 (1 ∷ 0 ∷ 2 ∷ [])) (gives 13 1 0 0 (1 ∷ 0 ∷ 2 ∷ []))
    ∷ case (checks shifted 2 (1 ∷ 2 ∷ 4 ∷ [])) (gives 13 2 0 0 (1 ∷ 2 ∷ 4 ∷ []))
    ∷ case (checks shifted 2 (1 ∷ 2 ∷ 3 ∷ 3 ∷ [])) (gives 13 3 0 0 (1 ∷ 2 ∷ 3 ∷ 3 ∷ []))
    ∷ case (checks shifted 2 (1 ∷ 2 ∷ [])) (gives 13 2 0 0 (1 ∷ 2 ∷ []))
    ∷ case (checks stranger 1 (0 ∷ [])) (gives 13 0 0 0 (0 ∷ []))
    ∷ case (checks stranger 1 []) (gives 0 0 0 0 [])
    -- 13 for a misfit before 13 for missing rows; both before 14
    ∷ case (checks shifted 2 (1 ∷ (2 ^ 64 - 1) ∷ [])) (gives 13 1 0 0 (1 ∷ (2 ^ 64 - 1) ∷ []))
    ∷ case (checks shifted 2 (2 ∷ 1 ∷ 2 ∷ [])) (gives 13 2 0 0 (2 ∷ 1 ∷ 2 ∷ []))
    ∷ case (checks shifted 2 (2 ∷ 1 ∷ [])) (gives 13 2 0 0 (2 ∷ 1 ∷ []))
    -- 14 before 15; 15; the same list with a larger k
    ∷ case (checks misplaced 1 (1 ∷ 2 ∷ 3 ∷ 4 ∷ [])) (gives 14 3 0 0 (1 ∷ 2 ∷ 3 ∷ 4 ∷ []))
    ∷ case (checks misplaced 1 (4 ∷ 1 ∷ 2 ∷ 3 ∷ [])) (gives 15 3 0 0 (4 ∷ 1 ∷ 2 ∷ 3 ∷ []))
    ∷ case (checks misplaced 2 (4 ∷ 1 ∷ 2 ∷ 3 ∷ [])) (gives 0 0 4 0 (4 ∷ 1 ∷ 2 ∷ 3 ∷ []))
    ∷ case (checks C3 2 (0 ∷ 1 ∷ 2 ∷ 3 ∷ [])) (gives 15 3 0 0 (0 ∷ 1 ∷ 2 ∷ 3 ∷ []))
    ∷ case (checks C3 (2 ^ 64 - 1) (0 ∷ 1 ∷ 2 ∷ 3 ∷ [])) (gives 0 0 4 0 (0 ∷ 1 ∷ 2 ∷ 3 ∷ []))
    -- touching operations stand in either order
    ∷ case (checks touching 1 (1 ∷ 0 ∷ 2 ∷ [])) (gives 0 0 3 0 (1 ∷ 0 ∷ 2 ∷ []))
    ∷ case (checks touching 2 (0 ∷ 1 ∷ 2 ∷ [])) (gives 0 0 3 0 (0 ∷ 1 ∷ 2 ∷ []))
    -- 15 for a read before its write; two orders of concurrent writes
    ∷ case (checks C7 2 (1 ∷ 0 ∷ [])) (gives 15 0 0 0 (1 ∷ 0 ∷ []))
    ∷ case (checks C4 1 (2 ∷ 0 ∷ 1 ∷ [])) (gives 0 0 3 0 (2 ∷ 0 ∷ 1 ∷ []))
    ∷ case (checks C4 1 (0 ∷ 2 ∷ 1 ∷ [])) (gives 15 2 0 0 (0 ∷ 2 ∷ 1 ∷ []))
    ∷ case (checks C4 2 (0 ∷ 2 ∷ 1 ∷ [])) (gives 0 0 3 0 (0 ∷ 2 ∷ 1 ∷ []))
    ∷ []

-- Every call of the table has the outcome that the table says: antt computes it.
pub further_hold : map (λ e. run e.call) further ≡ map (λ e. e.outcome) further
unfolding run further
further_hold = refl
