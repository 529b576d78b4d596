use Prim.Native.Nat.{◌+◌}
use mathlib.Core.Path.{refl, ap}
use mathlib.Core.List.{[], ◌∷◌}
use native.Mathlib.Omega.{arith}
use lib.ListN.{length, length-append, drop, get_or}
use Rattle.text.specs.Decimal.{decimal}
use Rattle.text.proofs.Joins.{rest, rest_next, rest_end}
use Rattle.text.proofs.Putting.{put_more, put_end}
use Rattle.text.proofs.put_rest.Goals as goal

pub put_behind-place-requires : goal.put_behind-place-requires
put_behind-place-requires c = omega (arith, c.requires, ap length (rest_next c.args.rest.now c.loop-n.n-index (omega arith)), length-append (44 ∷ decimal (get_or c.args.rest.now c.loop-n.n-index 0)) (rest (drop (c.loop-n.n-index + 1) c.args.rest.now)))

pub loop-n-preserved : goal.loop-n-preserved
loop-n-preserved c = put_more c.loop-n.invariant (44 ∷ decimal (get_or c.args.rest.now c.loop-n.n-index 0)) (rest (drop (c.loop-n.n-index + 1) c.args.rest.now)) (rest_next c.args.rest.now c.loop-n.n-index (omega arith)) _ _ c.put_behind-place.ensures.1 c.put_behind-place.ensures.0

pub returns : goal.returns
returns c = put_end (put_more c.loop-n.invariant (10 ∷ []) [] (rest_end c.args.rest.now c.loop-n.n-index (omega arith)) _ _ refl refl) refl
