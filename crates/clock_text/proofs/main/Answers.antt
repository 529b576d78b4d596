use native.Mathlib.Omega.{arith}
use Rattle.clock_text.proofs.main.Goals as goal

pub overflow_add-written : goal.overflow_add-written
overflow_add-written c = omega (arith, c.write-written.ensures.back.short)
