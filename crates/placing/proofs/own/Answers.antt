use native.Mathlib.Omega.{arith}
use Rattle.placing.proofs.Linking.{link_none, link_skip, link_push, link_room, link_falls, own_room, own_end, own_any}
use Rattle.placing.proofs.own.Goals as goal

pub loop-k-init : goal.loop-k-init
loop-k-init c = link_none _ _ _ _ c.args.chains.now.linked _ c.requires.ready c.requires.whose

pub overflow_sub-at : goal.overflow_sub-at
overflow_sub-at c = link_room _ _ _ _ c.args.chains.now.linked _ c.requires.ready c.requires.whose _ _ (omega arith) c.loop-k.invariant (omega arith)

pub bounds-order-at : goal.bounds-order-at
bounds-order-at c = omega (arith, c.loop-k.invariant.moved.high, c.loop-k.invariant.moved.cells, link_room _ _ _ _ c.args.chains.now.linked _ c.requires.ready c.requires.whose _ _ (omega arith) c.loop-k.invariant (omega arith))

pub loop-k-smaller-then-placed-i-eq0 : goal.loop-k-smaller-then-placed-i-eq0
loop-k-smaller-then-placed-i-eq0 c = link_falls _ _ _ _ c.args.chains.now.linked _ c.requires.ready c.requires.whose _ _ (omega arith) c.loop-k.invariant

pub loop-k-preserved-then-placed-i-eq0 : goal.loop-k-preserved-then-placed-i-eq0
loop-k-preserved-then-placed-i-eq0 c = link_push _ _ _ _ c.args.chains.now.linked _ c.requires.ready c.requires.whose _ _ (omega arith) c.loop-k.invariant (omega arith)

pub loop-k-smaller : goal.loop-k-smaller
loop-k-smaller c = link_falls _ _ _ _ c.args.chains.now.linked _ c.requires.ready c.requires.whose _ _ (omega arith) c.loop-k.invariant

pub loop-k-preserved : goal.loop-k-preserved
loop-k-preserved c = link_skip _ _ _ _ c.args.chains.now.linked _ c.requires.ready c.requires.whose _ _ (omega arith) c.loop-k.invariant c.if-placed-i-eq0.false

pub overflow_sub-at-2 : goal.overflow_sub-at-2
overflow_sub-at-2 c = own_room _ _ _ _ c.args.chains.now.linked _ c.requires.ready c.requires.whose _ _ (omega arith) c.loop-k.invariant

pub bounds-order-at-2 : goal.bounds-order-at-2
bounds-order-at-2 c = omega (arith, c.loop-k.invariant.moved.high, c.loop-k.invariant.moved.cells, own_room _ _ _ _ c.args.chains.now.linked _ c.requires.ready c.requires.whose _ _ (omega arith) c.loop-k.invariant)

pub returns : goal.returns
returns c = own_any _ _ _ _ (own_end _ _ _ _ c.args.chains.now.linked _ c.requires.ready c.requires.whose _ _ (omega arith) c.loop-k.invariant)
