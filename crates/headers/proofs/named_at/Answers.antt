-- Each of the five names is compared with the cell.
use Rattle.headers.proofs.named_at.Goals as goal

pub returns : goal.returns
returns c =
    rw (c.found_at.ensures, c.found_at-2.ensures, c.found_at-3.ensures, c.found_at-4.ensures, c.found_at-5.ensures)
