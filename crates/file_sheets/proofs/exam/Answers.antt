-- The sheet and the check are printed of the file's table.
use Rattle.std.proofs.Common.{rules}
use Rattle.sheet.specs.Sheet.{exam_of}
use Rattle.sheet.proofs.Showing.{shown, told}
use Rattle.file_sheets.specs.Files.{exam_file}
use Rattle.file_sheets.proofs.exam.Goals as goal

pub returns-clause-text : goal.returns-clause-text
unfolding exam_file
returns-clause-text c = c.of_file.ensures (λ t. exam_of t c.args.register c.args.k c.args.list.now) (λ t o r p table each. search rules)

pub returns-clause-shown : goal.returns-clause-shown
returns-clause-shown c = shown _ _ _

pub returns-clause-told : goal.returns-clause-told
returns-clause-told c = told _ _ _ _
