-- The loop gathers the writes by position, with keys that fall as the finishes rise (`Gathering`).
use Rattle.positions.specs.Columns.{is_own}
use Rattle.columns.specs.Falls.{Turned}
use Rattle.columns.proofs.Gathering.{Gathering}
use Rattle.columns.proofs.choose.Given as goal

abbrev pub invariant-loop-at : goal.invariant-loop-at
invariant-loop-at l = Gathering (is_own l.writer) (Turned l.finish) l.initial.keys l.initial.falling l.at l.m l.keys l.falling
