use mathlib.Core.Path.{sym, ap}
use native.Mathlib.Omega.{arith}
use Rattle.placing.specs.States.{plus_one}
use Rattle.lbt.proofs.Walking.{falls_under, walk_none, walk_lower, walk_low, walk_ends, walk_lowest, walk_stale, walk_spent, walk_on}
use Rattle.lbt.proofs.search.Goals as goal

pub rounds-init : goal.rounds-init
rounds-init c = walk_none c.args.columns.now.sound c.requires.few c.requires.falling_value _ _ _ c.requires.placed_room c.requires.free c.requires.order_room

pub returns-in_default : goal.returns-in_default
returns-in_default c = walk_ends c.rounds.invariant _ c.newest.ensures (ap plus_one c.in_default.is) _ (sym c.rounds.invariant.added.cells)

pub first-from-requires-clause-inside : goal.first-from-requires-clause-inside
first-from-requires-clause-inside c = λ i h. omega (arith, falls_under _ c.requires.falling_value i h)

pub round-turn-requires-clause-holds : goal.round-turn-requires-clause-holds
round-turn-requires-clause-holds c = (walk_lower c.rounds.invariant _ c.highest.ensures).holds

pub overflow_add-low : goal.overflow_add-low
overflow_add-low c = omega (arith, walk_low c.rounds.invariant _ c.in-Some.ensures)

pub round-turn-requires-clause-last_in_bounds : goal.round-turn-requires-clause-last_in_bounds
round-turn-requires-clause-last_in_bounds c = omega (arith, walk_low c.rounds.invariant _ c.in-Some.ensures)

pub round-turn-requires-clause-lowest : goal.round-turn-requires-clause-lowest
round-turn-requires-clause-lowest c =
    let g = walk_lower c.rounds.invariant _ c.highest.ensures in
    walk_lowest g _ c.in-Some.ensures (λ e. omega arith)

pub returns-in-Lost : goal.returns-in-Lost
returns-in-Lost c =
    let g = walk_lower c.rounds.invariant _ c.highest.ensures in
    walk_stale g _ c.in-Some.ensures (λ e. omega arith) c.in-Lost.ensures _

pub returns-in-Spent : goal.returns-in-Spent
returns-in-Spent c =
    let g = walk_lower c.rounds.invariant _ c.highest.ensures in
    walk_spent g _ c.in-Some.ensures (λ e. omega arith) c.in-Spent.ensures _

pub rounds-preserved : goal.rounds-preserved
rounds-preserved c =
    let g = walk_lower c.rounds.invariant _ c.highest.ensures in
    (walk_on g _ c.in-Some.ensures (λ e. omega arith) c.in-Won.ensures _ c.first-from.ensures).1
