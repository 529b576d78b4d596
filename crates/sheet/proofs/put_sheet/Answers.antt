-- Five parts, one behind another, each within the room that is left.
use native.Mathlib.Omega.{arith}
use Rattle.sheet.specs.Sheet.{sheet_of}
use Rattle.sheet.proofs.Parts.{page_put}
use Rattle.lines.proofs.Bounds.{answers_bound, order_of_bound}
use Rattle.sheet.proofs.put_sheet.Goals as goal

pub put_order-first-requires : goal.put_order-first-requires
put_order-first-requires c = record { at_in_bounds = omega (arith, c.requires, c.put_bytes-headed.ensures.0, c.put_bytes-headed.auto.out, c.put_answers-answered.ensures.0, c.put_answers-answered.auto.out, answers_bound c.ask-zones.result c.ask-lbt.result c.ask-fzf.result); page_len = c.ask-zones.ensures.long; rows_lt_places = c.ask-zones.ensures.fits }

pub put_order-second-requires : goal.put_order-second-requires
put_order-second-requires c = record { at_in_bounds = omega (arith, c.requires, c.put_bytes-headed.ensures.0, c.put_bytes-headed.auto.out, c.put_answers-answered.ensures.0, c.put_answers-answered.auto.out, answers_bound c.ask-zones.result c.ask-lbt.result c.ask-fzf.result, c.put_order-first.ensures.0, c.put_order-first.auto.out, order_of_bound c.ask-zones.result c.ask-zones.new.page (omega (arith, c.ask-zones.ensures.long))); page_len = c.ask-lbt.ensures.long; rows_lt_places = c.ask-lbt.ensures.fits }

pub put_order-requires : goal.put_order-requires
put_order-requires c = record { at_in_bounds = omega (arith, c.requires, c.put_bytes-headed.ensures.0, c.put_bytes-headed.auto.out, c.put_answers-answered.ensures.0, c.put_answers-answered.auto.out, answers_bound c.ask-zones.result c.ask-lbt.result c.ask-fzf.result, c.put_order-first.ensures.0, c.put_order-first.auto.out, order_of_bound c.ask-zones.result c.ask-zones.new.page (omega (arith, c.ask-zones.ensures.long)), c.put_order-second.ensures.0, c.put_order-second.auto.out, order_of_bound c.ask-lbt.result c.ask-lbt.new.page (omega (arith, c.ask-lbt.ensures.long))); page_len = c.ask-fzf.ensures.long; rows_lt_places = c.ask-fzf.ensures.fits }

pub returns : goal.returns
unfolding sheet_of
returns c = page_put c.args.out.now c.ask-zones.ensures c.ask-lbt.ensures c.ask-fzf.ensures c.put_bytes-headed.ensures c.put_answers-answered.ensures c.put_order-first.ensures c.put_order-second.ensures c.put_order.ensures
