use Prim.Native.Nat.{◌+◌, ◌-◌}
use mathlib.Core.Path.{ap, sym, ◌∙◌}
use native.Mathlib.Omega.{arith}
use lib.ListN.{length}
use lib.Seq.{length-take-le}
use borrow.Rule.Slice.PartMut.{same_len_mid}
use Rattle.choice.proofs.Offers.{ends_fit, write_over, all_laid}
use Rattle.choice.proofs.Turning.{turned_length}
use Rattle.choice.proofs.lay_out.Goals as goal

pub put-k-requires : goal.put-k-requires
put-k-requires c = omega (arith, ends_fit _ c.args.chunk.now.inner.now c.args.flip c.args.swap _ _ c.end_at-behind.ensures c.end_at-front.ensures _ c.requires)

pub slice_bounds-turn-end : goal.slice_bounds-turn-end
slice_bounds-turn-end c = omega (arith, c.put-k.auto.out, c.put-k.ensures.0, ends_fit _ c.args.chunk.now.inner.now c.args.flip c.args.swap _ _ c.end_at-behind.ensures c.end_at-front.ensures _ c.requires)

pub put-requires : goal.put-requires
put-requires c = omega (arith, same_len_mid c.put-k.result (c.put-k.result + length c.args.chunk.now.forwards.now - c.put-k.result) c.put-k.new.out c.turn.new.out c.turn.auto.out, c.put-k.auto.out, c.put-k.ensures.0, ends_fit _ c.args.chunk.now.inner.now c.args.flip c.args.swap _ _ c.end_at-behind.ensures c.end_at-front.ensures _ c.requires)

pub returns : goal.returns
returns c =
    let fits = ends_fit _ c.args.chunk.now.inner.now c.args.flip c.args.swap _ _ c.end_at-behind.ensures c.end_at-front.ensures _ c.requires in (
      omega (arith, c.put.ensures.0, c.put.auto.out, same_len_mid c.put-k.result (c.put-k.result + length c.args.chunk.now.forwards.now - c.put-k.result) c.put-k.new.out c.turn.new.out c.turn.auto.out, c.put-k.auto.out, c.put-k.ensures.0, fits),
      all_laid _ _ _ _ _ _ c.end_at-behind.ensures c.end_at-front.ensures c.args.out.now _ _ _ _ _ _ c.put-k.ensures.1
          (write_over _ _ _ _ _ (length-take-le _ _ (omega (arith, c.put-k.ensures.0, c.put-k.auto.out, fits))) (turned_length c.args.swap c.args.chunk.now.forwards.now ∙ ap length (sym c.turn.ensures)) ∙ rw c.turn.ensures)
          c.put.ensures.1,
    )
