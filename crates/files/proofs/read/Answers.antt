-- The answer is the defined one: a refused record, else what the test of the room says. The second clause is the theorem `written_read`.
use mathlib.Core.Path.{sym, ◌∙◌}
use mathlib.Core.List.{[]}
use native.Mathlib.Omega.{arith}
use Rattle.records.specs.Records.{table_of, Bytes}
use Rattle.files.specs.Files.{read_answer, read_table}
use Rattle.files.proofs.Calls.{after_refused, after_fresh, code_of, read_refused, read_passed, read_judged}
use Rattle.files.proofs.Passing.{read_whole}
use Rattle.files.proofs.Undo.{written_read}
use Rattle.files.proofs.read.Goals as goal

pub returns-then-found-ne0 : goal.returns-then-found-ne0
unfolding read_table
returns-then-found-ne0 c =
    let known : Bytes c.args.bytes.now = λ i. omega (arith, c.type_inv.bytes i) in
    let e = read_refused c.args.bytes.now c.args.table.now _ c.inspect-found.ensures c.if-found-ne0.true in
    record { outcome = (e, sym (after_refused (read_answer c.args.bytes.now c.args.table.now) (table_of c.args.bytes.now) c.args.table.now (λ z. c.if-found-ne0.true (code_of e z)))); undone = λ z out h. written_read c.args.bytes.now c.args.table.now out known (code_of (sym e) z) h }

pub overflow_mul-rows : goal.overflow_mul-rows
overflow_mul-rows c =
    let passing = read_passed _ [] _ c.inspect-found.ensures c.if-found-ne0.false in
    omega (arith, passing.0.few, passing.1)

pub returns-then-answer-ne0 : goal.returns-then-answer-ne0
unfolding read_table
returns-then-answer-ne0 c =
    let passing = read_passed c.args.bytes.now c.args.table.now _ c.inspect-found.ensures c.if-found-ne0.false in
    let e = read_judged c.args.bytes.now c.args.table.now _ c.inspect-found.ensures c.if-found-ne0.false _ _ passing.1 c.room_for-answer.ensures in
    let known : Bytes c.args.bytes.now = λ i. omega (arith, c.type_inv.bytes i) in
    record { outcome = (e, sym (after_refused (read_answer c.args.bytes.now c.args.table.now) (table_of c.args.bytes.now) c.args.table.now (λ z. c.if-answer-ne0.true (code_of e z)))); undone = λ z out h. written_read c.args.bytes.now c.args.table.now out known (code_of (sym e) z) h }

pub read_rows-requires : goal.read_rows-requires
read_rows-requires c =
    let passing = read_passed c.args.bytes.now c.args.table.now _ c.inspect-found.ensures c.if-found-ne0.false in
    let e = read_judged c.args.bytes.now c.args.table.now _ c.inspect-found.ensures c.if-found-ne0.false _ _ passing.1 c.room_for-answer.ensures in
    let w = read_whole c.args.bytes.now c.args.table.now (code_of (sym e) c.if-answer-ne0.false) in
    let whole = w in record { whole = whole.0; bytes_in_bounds = whole.1 }

pub returns : goal.returns
unfolding read_table
returns c =
    let passing = read_passed c.args.bytes.now c.args.table.now _ c.inspect-found.ensures c.if-found-ne0.false in
    let e = read_judged c.args.bytes.now c.args.table.now _ c.inspect-found.ensures c.if-found-ne0.false _ _ passing.1 c.room_for-answer.ensures in
    let known : Bytes c.args.bytes.now = λ i. omega (arith, c.type_inv.bytes i) in
    record { outcome = (e, c.read_rows.ensures ∙ sym (after_fresh (read_answer c.args.bytes.now c.args.table.now) (table_of c.args.bytes.now) c.args.table.now (code_of (sym e) c.if-answer-ne0.false))); undone = λ z out h. written_read c.args.bytes.now c.args.table.now out known (code_of (sym e) z) h }
