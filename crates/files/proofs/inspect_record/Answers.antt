-- The five tests in their sequence: at each return those before were not met, and this one was.
use Prim.Native.Nat.{◌+◌}
use mathlib.Core.Path.{◌≡◌, sym, ◌∙◌}
use mathlib.Core.Bool.{true, false, not, ◌||◌}
use native.Mathlib.Omega.{arith}
use borrow.Author.Tests.{eq-eqb, ne_eqb, lt-ltb, le-leb, lt-leb}
use lib.Dec.{eqb}
use Rattle.history.specs.Table.{largest_count, operation}
use Rattle.history.specs.Answer.{first_met}
use Rattle.records.specs.Records.{field, record_from, Bytes}
use Rattle.records.proofs.Numbers.{field_below}
use Rattle.files.specs.Files.{left, mismatched, record_tests}
use Rattle.files.proofs.Passing.{known_body, kind_test, past_length}
use Rattle.files.proofs.inspect_record.Goals as goal

pub returns-then-left-eq1 : goal.returns-then-left-eq1
unfolding first_met record_tests
returns-then-left-eq1 c = rw (eq-eqb (left c.args.bytes.now c.args.at) 1 c.if-left-eq1.true) c.at.ensures

pub returns-then-wrong_length : goal.returns-then-wrong_length
unfolding first_met record_tests
returns-then-wrong_length c =
    let strange : not (eqb (field c.args.bytes.now c.args.at 2) 34 || eqb (field c.args.bytes.now c.args.at 2) 18) ≡ true = rw (← c.two-size.ensures) (sym c.wrong_length.ensures ∙ c.if-wrong_length.true) in
    rw (ne_eqb (left c.args.bytes.now c.args.at) 1 c.if-left-eq1.false, strange) c.at-then-wrong_length.ensures

pub overflow_add-size : goal.overflow_add-size
overflow_add-size c =
    let known : Bytes c.args.bytes.now = λ i. omega (arith, c.type_inv.bytes i) in
    omega (arith, c.two-size.ensures, field_below c.args.bytes.now c.args.at 2 known)

pub returns-then-left-size : goal.returns-then-left-size
unfolding first_met record_tests
returns-then-left-size c =
    let known : not (eqb (field c.args.bytes.now c.args.at 2) 34 || eqb (field c.args.bytes.now c.args.at 2) 18) ≡ false = rw (← c.two-size.ensures) (sym c.wrong_length.ensures ∙ c.if-wrong_length.false) in
    rw (ne_eqb (left c.args.bytes.now c.args.at) 1 c.if-left-eq1.false, known, lt-ltb (left c.args.bytes.now c.args.at) (2 + field c.args.bytes.now c.args.at 2) (omega (arith, c.two-size.ensures, c.if-left-size.true))) c.at-then-left-size.ensures

pub two-requires : goal.two-requires
two-requires c = omega (arith, c.if-left-size.false, known_body c.two-size.result (sym c.wrong_length.ensures ∙ c.if-wrong_length.false))

pub returns-then-mismatched : goal.returns-then-mismatched
returns-then-mismatched c =
    let known : not (eqb (field c.args.bytes.now c.args.at 2) 34 || eqb (field c.args.bytes.now c.args.at 2) 18) ≡ false = rw (← c.two-size.ensures) (sym c.wrong_length.ensures ∙ c.if-wrong_length.false) in
    let kind : mismatched (field c.args.bytes.now c.args.at 2) (operation (record_from c.args.bytes.now c.args.at) c.args.row) ≡ true =
    kind_test _ _ _ _ _ _ c.two-size.ensures c.two.ensures (sym c.mismatched.ensures ∙ c.if-mismatched.true) in
    rw (past_length c.args.bytes.now c.args.row c.args.at 0 c.if-left-eq1.false known (omega (arith, c.two-size.ensures, c.if-left-size.false)), kind) c.at-then-mismatched.ensures

pub returns-then-row-ge-LARGEST_COUNT : goal.returns-then-row-ge-LARGEST_COUNT
returns-then-row-ge-LARGEST_COUNT c =
    let known : not (eqb (field c.args.bytes.now c.args.at 2) 34 || eqb (field c.args.bytes.now c.args.at 2) 18) ≡ false = rw (← c.two-size.ensures) (sym c.wrong_length.ensures ∙ c.if-wrong_length.false) in
    let kind : mismatched (field c.args.bytes.now c.args.at 2) (operation (record_from c.args.bytes.now c.args.at) c.args.row) ≡ false =
    kind_test _ _ _ _ _ _ c.two-size.ensures c.two.ensures (sym c.mismatched.ensures ∙ c.if-mismatched.false) in
    rw (past_length c.args.bytes.now c.args.row c.args.at 0 c.if-left-eq1.false known (omega (arith, c.two-size.ensures, c.if-left-size.false)), kind, le-leb largest_count c.args.row c.if-row-ge-LARGEST_COUNT.true) c.at-then-row-ge-LARGEST_COUNT.ensures

pub returns : goal.returns
returns c =
    let known : not (eqb (field c.args.bytes.now c.args.at 2) 34 || eqb (field c.args.bytes.now c.args.at 2) 18) ≡ false = rw (← c.two-size.ensures) (sym c.wrong_length.ensures ∙ c.if-wrong_length.false) in
    let kind : mismatched (field c.args.bytes.now c.args.at 2) (operation (record_from c.args.bytes.now c.args.at) c.args.row) ≡ false =
    kind_test _ _ _ _ _ _ c.two-size.ensures c.two.ensures (sym c.mismatched.ensures ∙ c.if-mismatched.false) in
    rw (past_length c.args.bytes.now c.args.row c.args.at 0 c.if-left-eq1.false known (omega (arith, c.two-size.ensures, c.if-left-size.false)), kind, lt-leb largest_count c.args.row c.if-row-ge-LARGEST_COUNT.false) c.passed.ensures
