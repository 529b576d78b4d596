-- A key that was met has the place found; another is the first of its key.
use Prim.Native.Nat.{◌<◌}
use mathlib.Core.Path.{refl}
use native.Mathlib.Omega.{arith}
use Rattle.firsts.specs.Firsts.{First}
use Rattle.holders.proofs.Hashing.{hash_started, hash_found, hash_new}
use Rattle.holders.proofs.hash.Goals as goal
use Rattle.holders.proofs.hash.Goals.{in-Some, in-None}

pub find-requires : goal.find-requires
find-requires g c = (_, hash_started _ _ _ _ _ c.requires.room _ _ _ _ c.loop-e.invariant (omega arith) _ refl (omega arith))

pub loop-e-preserved : goal.loop-e-preserved
loop-e-preserved g c =
    elim c.match-seen.branch [
      | in-Some w ↦
          let f : (w.in-Some.place < c.loop-e.e) × First c.args.keys.now c.loop-e.e w.in-Some.place = rw w.in-Some.is at c.in_ok-seen.ensures in
          rw (w.heads-is, w.next-is, w.out-is)
          (hash_found _ _ _ _ _ c.requires.room _ _ _ _ c.loop-e.invariant (omega arith) _ f.0 f.1)
      | in-None w ↦
          let f : First c.args.keys.now c.loop-e.e c.loop-e.e = rw w.in-None.is at c.in_ok-seen.ensures in
          rw (w.heads-is, w.next-is, w.out-is)
          (hash_new _ _ _ _ _ c.requires.room _ _ _ _ c.loop-e.invariant (omega arith) _ refl (omega arith) f)
    ]
