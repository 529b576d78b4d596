-- The sheet is printed of the file's table.
use Rattle.std.proofs.Common.{rules}
use Rattle.sheet.specs.Sheet.{sheet_of}
use Rattle.sheet.proofs.Showing.{shown}
use Rattle.file_sheets.specs.Files.{bench_of}
use Rattle.file_sheets.proofs.bench.Goals as goal

pub returns-clause-text : goal.returns-clause-text
unfolding bench_of
returns-clause-text c = c.of_file.ensures (λ t. sheet_of t c.args.register c.args.allowance) (λ t o r p table each. search rules)

pub returns-clause-shown : goal.returns-clause-shown
returns-clause-shown c = shown _ _ _
