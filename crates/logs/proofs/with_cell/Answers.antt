use Rattle.logs.proofs.with_cell.Goals as goal

pub returns : goal.returns
returns c =
    rw
    (c.picked.ensures, c.picked-2.ensures, c.picked-3.ensures, c.picked-4.ensures, c.picked-5.ensures)
