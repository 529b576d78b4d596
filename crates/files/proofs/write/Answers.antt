-- The answer is the defined one, and the second clause is the theorem `read_written`.
use mathlib.Core.Path.{◌≡◌, sym, ◌∙◌}
use native.Mathlib.Omega.{arith}
use Rattle.records.specs.Records.{file_of, Words}
use Rattle.files.specs.Files.{write_answer, write_bytes}
use Rattle.files.proofs.Calls.{after_refused, after_fresh, code_of}
use Rattle.files.proofs.Passing.{write_tabular}
use Rattle.files.proofs.Undo.{read_written}
use Rattle.files.proofs.write.Goals as goal

pub returns-then-answer-ne0 : goal.returns-then-answer-ne0
unfolding write_answer write_bytes
returns-then-answer-ne0 c =
    let known : Words c.args.table.now = λ i. omega (arith, c.type_inv.table i) in
    let e : c.examine-answer.result ≡ write_answer c.args.table.now c.args.bytes.now = c.examine-answer.ensures in
    record { outcome = (e, sym (after_refused (write_answer c.args.table.now c.args.bytes.now) (file_of c.args.table.now) c.args.bytes.now (λ z. c.if-answer-ne0.true (code_of e z)))); undone = λ z other h. read_written c.args.table.now c.args.bytes.now other known (code_of (sym e) z) h }

pub write_rows-requires : goal.write_rows-requires
unfolding write_answer
write_rows-requires c =
    let e : c.examine-answer.result ≡ write_answer c.args.table.now c.args.bytes.now = c.examine-answer.ensures in
    (write_tabular c.args.table.now c.args.bytes.now (code_of (sym e) c.if-answer-ne0.false)).1

pub returns : goal.returns
unfolding write_answer write_bytes
returns c =
    let known : Words c.args.table.now = λ i. omega (arith, c.type_inv.table i) in
    let e : c.examine-answer.result ≡ write_answer c.args.table.now c.args.bytes.now = c.examine-answer.ensures in
    record { outcome = (e, c.write_rows.ensures ∙ sym (after_fresh (write_answer c.args.table.now c.args.bytes.now) (file_of c.args.table.now) c.args.bytes.now (code_of (sym e) c.if-answer-ne0.false))); undone = λ z other h. read_written c.args.table.now c.args.bytes.now other known (code_of (sym e) z) h }
