-- The columns of the code as the record that the definitions speak of (document 01, "Doubled stamps").
-- Assumes nothing.
use Rattle.positions.specs.Columns.{Cols, cols}
use Rattle.positions.specs.declared.Columns.{Columns}

-- the five lists behind the columns
abbrev pub view : Columns → Cols
view c = cols c.start.now c.finish.now c.chains.writer.now c.chains.last.now c.chains.prev.now
