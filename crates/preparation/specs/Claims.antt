-- What is claimed of the ranks of a register's stamps, of its prepared history and of its orders: each claim is a proposition with a name, and is
-- proved under proofs/.
-- Assumes nothing.
use Rattle.std.specs.Prelude.{ℕ, ◌<◌, ◌≡◌, ◌↔◌, true, length}
use mathlib.Core.List.{List, Memᴰ as In}
use Rattle.lists.specs.Pairs.{Pairs}
use Rattle.history.specs.declared.Op.{Op}
use Rattle.history.specs.Table.{history, Precedes}
use Rattle.history.specs.Screen.{Spanned, Screened}
use Rattle.atomicity.specs.Order.{Atomic}
use Rattle.methods.specs.Ranks.{Event, events, sooner, rank, by_rank}
use Rattle.methods.specs.Prepared.{prepared}
use Rattle.methods.specs.Place.{write_count}
use Rattle.methods.specs.Mark.{row_numbers}
use Rattle.witnesses.specs.Histories.{Prepared}
use Rattle.witnesses.specs.Orders.{Orders}

-- the operations stand by row, as a register's do (01, "The row")
abbrev pub RowsRise : List Op → Type 0
RowsRise h = Pairs (λ x y. x.row < y.row) h

-- the rows of a valid k-atomic order of h (000, section II.A)
abbrev pub OrderOf : ℕ → List Op → List ℕ → Type 0
OrderOf k h rows = (o : List Op) × (rows ≡ row_numbers o) × Orders k h o

-- Ranks go by the sequence of the stamps (02, W-203).
abbrev pub RanksRise : List Op → Type 0
RanksRise h = (d e : Event) → In d (events h) → In e (events h) → (rank h d < rank h e) ↔ (sooner d e ≡ true)

-- A finish has a lower rank than a start exactly when its operation precedes the other's: precedence is that of the recorded stamps, with the
-- opening before every other row (02, W-203 and W-207), where each operation has a span.
abbrev pub KeepsPrecedence : List Op → Type 0
KeepsPrecedence h = ((o : Op) → In o h → Spanned o) → (x y : Op) → In x h → In y h → ((by_rank h x).finish < (by_rank h y).start) ↔ Precedes x y

-- The prepared history of a screened register has all that the methods rely on (01, "Doubled stamps").
abbrev pub HasPrepared : ℕ → List Op → Type 0
HasPrepared size h = Screened size h → RowsRise h → Prepared (prepared h)

-- It has as many writes (01, "Doubled stamps").
abbrev pub KeepsWrites : List Op → Type 0
KeepsWrites h = write_count (prepared h) ≡ write_count h

-- Its k-atomic orders are the register's, for every k: rows in such an order of the one are in one of the other (01, "Doubled stamps").
abbrev pub KeepsOrders : ℕ → List Op → Type 0
KeepsOrders size h = Screened size h → RowsRise h → (k : ℕ) (rows : List ℕ) → OrderOf k (prepared h) rows ↔ OrderOf k h rows

-- The register's are the valid k-atomic total orders of its rows (01, "The row").
abbrev pub OrdersOfRows : List ℕ → ℕ → Type 0
OrdersOfRows t register = (k : ℕ) (rows : List ℕ) →
    (OrderOf k (history t register) rows → Atomic k t register rows)
    × (Screened (length t) (history t register) → Atomic k t register rows → OrderOf k (history t register) rows)
