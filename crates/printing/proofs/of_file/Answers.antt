-- The file is refused, or its rows stand at the front of the table, of which a text is written.
use native.Mathlib.Omega.{arith}
use Rattle.files.proofs.Loading.{loaded_as, loaded_small, loaded_front, loaded_long, loaded_in}
use Rattle.printing.proofs.Filing.{loading_refused, loading_printed, table_loaded}
use Rattle.printing.proofs.of_file.Goals as goal

pub returns-then-loaded-ne0 : goal.returns-then-loaded-ne0
returns-then-loaded-ne0 g c text each = loading_refused _ _ _ _ (loaded_as _ _ _ c.read-loaded.ensures.outcome.0 (omega arith)) _ _ c.if-loaded-ne0.true c.refusal.ensures

pub overflow_mul-n : goal.overflow_mul-n
overflow_mul-n g c = omega (arith, loaded_small _ _ _ _ c.read-loaded.ensures.outcome (omega arith))

pub slice_bounds-table-end : goal.slice_bounds-table-end
slice_bounds-table-end g c = loaded_in _ _ _ _ c.read-loaded.ensures.outcome (omega arith)

pub slice_bounds-write-end : goal.slice_bounds-write-end
slice_bounds-write-end g c = loaded_long _ _ _ _ c.read-loaded.ensures.outcome (omega arith)

pub write-requires : goal.write-requires
write-requires g c = c.requires _ _ (table_loaded _ _ _ _ c.read-loaded.ensures.outcome (omega arith))

pub returns : goal.returns
returns g c text each =
    let front = loaded_front _ _ _ _ c.read-loaded.ensures.outcome (omega arith) in
    let known = loaded_as _ _ _ c.read-loaded.ensures.outcome.0 (omega arith) in
    let table = table_loaded _ _ _ _ c.read-loaded.ensures.outcome (omega arith) in
    loading_printed _ _ _ _ known _ _ (omega arith) (rw front at (each _ _ _ _ table c.write.ensures))
