-- What the scan asks of an operation that starts late: whether it clashes with what was met, and the write that is asked for after it
-- (000, figure 2, lines 14 to 17).
-- Assumes nothing.
use Rattle.std.specs.Prelude.{ℕ, ◌+◌, Bool, true, false, not, cond, eqb}

-- i is the operation, v its write, w the write that is placed, asked the write that is asked for plus one, 0 for none: i is a write, or a
-- read of a second other write
unfoldable pub clash : ℕ → ℕ → ℕ → ℕ → Bool
clash i v w asked = cond (eqb v i) true (cond (eqb v w) false (cond (eqb asked 0) false (not (eqb asked (v + 1)))))

-- what is asked for after a read of v
unfoldable pub ask : ℕ → ℕ → ℕ → ℕ
ask v w asked = cond (eqb v w) asked (v + 1)
