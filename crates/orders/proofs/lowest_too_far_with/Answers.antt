-- A total order lies within the table and is short, as the writers ask.
use Rattle.orders.proofs.Far.{order_short, order_within}
use Rattle.orders.proofs.lowest_too_far_with.Goals as goal

pub writers-requires : goal.writers-requires
writers-requires c = record { within = order_within _ _ c.requires.ordered; rows_len_bound = order_short _ _ c.requires.ordered; out_len = c.requires.writer_len }
