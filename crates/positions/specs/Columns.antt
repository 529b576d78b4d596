-- A prepared history as the search code has it: columns of numbers, with a place for each operation, by rising start (document 01, "Doubled
-- stamps"). An operation is known by its position, and a read is tied to its write by the position of that write.
-- Assumes nothing.
use Rattle.std.specs.Prelude.{ℕ, ◌≤◌, ◌<◌, ◌≡◌, Bool, true, not, List, map, length, get_or, leb, eqb}
use Rattle.lists.specs.Sorts.{sort}
use Rattle.history.specs.declared.Op.{Op}
use Rattle.history.specs.Table.{is_write}
use Rattle.witnesses.specs.Histories.{Prepared}
use Rattle.positions.specs.Places.{upto, and, latest}

-- start and finish; the position of the write, of a write its own; of a write its last read and of a read the one before it, each as one more
-- than the position, and 0 for none
pub record Cols : Type 0 where
  pub start : List ℕ
  pub finish : List ℕ
  pub writer : List ℕ
  pub last : List ℕ
  pub prev : List ℕ

abbrev pub cols : List ℕ → List ℕ → List ℕ → List ℕ → List ℕ → Cols
cols a b c d e = record { start = a; finish = b; writer = c; last = d; prev = e }

abbrev pub size : Cols → ℕ
size C = length C.start

-- the position of j's write
abbrev pub wr : Cols → ℕ → ℕ
wr C j = get_or C.writer j 0

-- j is a write; j is a read; j is of the cluster of w; j is a read of w
abbrev pub is_own : List ℕ → ℕ → Bool
is_own writer j = eqb (get_or writer j 0) j

abbrev pub is_read : List ℕ → ℕ → Bool
is_read writer j = not (is_own writer j)

abbrev pub mine : List ℕ → ℕ → ℕ → Bool
mine writer w j = eqb (get_or writer j 0) w

abbrev pub read_of : List ℕ → ℕ → ℕ → Bool
read_of writer w = and (mine writer w) (is_read writer)

-- i finishes no sooner than j
abbrev pub ends_before : Cols → ℕ → ℕ → Bool
ends_before C i j = leb (get_or C.finish j 0) (get_or C.finish i 0)

-- the writes by falling finish
unfoldable pub by_finish : Cols → List ℕ
by_finish C = sort (ends_before C) (upto (is_own C.writer) (size C))

-- each cluster's reads are a chain, from the last one back
pub record Linked (writer last prev : List ℕ) : Type 0 where
  pub lasting : length last ≡ length writer
  pub previous : length prev ≡ length writer
  pub lasts : (w : ℕ) → w < length writer → get_or writer w 0 ≡ w → get_or last w 0 ≡ latest (read_of writer w) (length writer)
  pub prevs : (w j : ℕ) → j < length writer → read_of writer w j ≡ true → get_or prev j 0 ≡ latest (read_of writer w) j

-- what a scan by start relies on
pub record Shaped (start writer : List ℕ) : Type 0 where
  pub long : length writer ≡ length start
  pub rising : (i j : ℕ) → i ≤ j → j < length start → get_or start i 0 ≤ get_or start j 0
  pub writers : (j : ℕ) → j < length start → get_or writer j 0 < length start

-- WHAT THE SEARCH CODE REQUIRES of the columns: enough to stay within them, and to come to an end
pub record Sound (C : Cols) : Type 0 where
  pub shape : Shaped C.start C.writer
  pub links : Linked C.writer C.last C.prev
  pub ending : length C.finish ≡ size C
  pub writes : (j : ℕ) → j < size C → wr C (wr C j) ≡ wr C j

-- the operation at j, and those at a list of positions
abbrev pub nothing : Op
nothing = record { row = 0; kind = 0; value = 0; start = 0; finish = 0 }

abbrev pub op : List Op → ℕ → Op
op H j = get_or H j nothing

abbrev pub ops : List Op → List ℕ → List Op
ops H l = map (op H) l

-- C are the columns of the prepared history H
pub record Of (C : Cols) (H : List Op) : Type 0 where
  pub prepared : Prepared H
  pub starts : C.start ≡ map (λ o. o.start) H
  pub finishes : C.finish ≡ map (λ o. o.finish) H
  pub long : length C.writer ≡ length H
  pub inside : (j : ℕ) → j < length H → wr C j < length H
  pub write : (j : ℕ) → j < length H → is_write (op H (wr C j)) ≡ true
  pub value : (j : ℕ) → j < length H → (op H (wr C j)).value ≡ (op H j).value

-- WHAT THE SEARCH CODE ENSURES is said of every prepared history that has these columns
abbrev pub Says : Cols → (List Op → Type 0) → Type 0
Says C P = (H : List Op) → Of C H → P H
