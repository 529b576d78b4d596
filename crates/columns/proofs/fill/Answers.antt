-- The columns that the five calls leave are those of the prepared history (`made`).
use Rattle.columns.proofs.Listed.{listed_fit, listed_few, listed_stands}
use Rattle.columns.proofs.Made.{made, shorten_asks, link_asks}
use Rattle.columns.proofs.fill.Goals as goal

pub ranks-requires-clause-fit : goal.ranks-requires-clause-fit
ranks-requires-clause-fit c = listed_fit c.requires.by_index.1

pub ranks-requires-clause-rows_len_bound : goal.ranks-requires-clause-rows_len_bound
ranks-requires-clause-rows_len_bound c = listed_few c.requires.by_index.1

pub ranks-requires-clause-standing : goal.ranks-requires-clause-standing
ranks-requires-clause-standing c = (_, listed_stands c.requires.by_index.1)

pub writers-requires-clause-within : goal.writers-requires-clause-within
writers-requires-clause-within c = (listed_fit c.requires.by_index.1).inside

pub writers-requires-clause-rows_len_bound : goal.writers-requires-clause-rows_len_bound
writers-requires-clause-rows_len_bound c = listed_few c.requires.by_index.1

pub shorten-requires : goal.shorten-requires
shorten-requires c = shorten_asks c.requires.by_index.1 _ _ _ c.ranks.ensures c.writers.ensures

pub link-requires-clause-writers_inside : goal.link-requires-clause-writers_inside
link-requires-clause-writers_inside c = link_asks c.requires.by_index.1 _ c.writers.ensures

pub returns : goal.returns
returns c = made _ _ _ _ _ _ _ _ c.ranks.ensures c.shorten.ensures c.writers.ensures c.link.ensures
