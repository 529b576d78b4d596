use Prim.Native.Nat.{◌-◌, ◌/◌}
use mathlib.Core.Path.{◌≡◌, ap}
use mathlib.Core.List.{[], ◌∷◌, ◌++◌}
use native.Mathlib.Omega.{arith}
use lib.ListN.{length}
use Rattle.lists.proofs.Stores.{sets_append}
use Rattle.text.specs.Decimal.{digits, digit}
use Rattle.text.proofs.Digits.{digits_none, digits_last, digits_more, digits_more_length}
use Rattle.text.proofs.+put_digits.Goals as goal

pub returns-then-most-lt1 : goal.returns-then-most-lt1
returns-then-most-lt1 t c =
    let e : digits c.args.most c.args.n ≡ [] = digits_none c.args.most c.args.n (omega arith) in
    (omega (arith, ap length e), rw e)

pub bounds-out-at : goal.bounds-out-at
bounds-out-at t c = omega (arith, ap length (digits_last c.args.most c.args.n (omega arith) (omega arith)))

pub returns-then-n-lt10 : goal.returns-then-n-lt10
returns-then-n-lt10 t c =
    let e : digits c.args.most c.args.n ≡ digit c.args.n ∷ [] = digits_last c.args.most c.args.n (omega arith) (omega arith) in
    (omega (arith, ap length e), rw e)

pub put_digits-next-requires : goal.put_digits-next-requires
put_digits-next-requires t c = (omega arith, omega (arith, digits_more_length c.args.most c.args.n (omega arith) (omega arith)))

pub bounds-out-next : goal.bounds-out-next
bounds-out-next t c = omega (arith, digits_more_length c.args.most c.args.n (omega arith) (omega arith))

pub overflow_add-result-2 : goal.overflow_add-result-2
overflow_add-result-2 t c = omega (arith, digits_more_length c.args.most c.args.n (omega arith) (omega arith))

pub returns : goal.returns
returns t c =
    let e : digits c.args.most c.args.n ≡ digits (c.args.most - 1) (c.args.n / 10) ++ (digit c.args.n ∷ []) =
    digits_more c.args.most c.args.n (omega arith) (omega arith)
    in
    (omega (arith, digits_more_length c.args.most c.args.n (omega arith) (omega arith)), rw (e, c.put_digits-next.ensures.1, c.put_digits-next.ensures.0) (sets_append (digits (c.args.most - 1) (c.args.n / 10)) (digit c.args.n ∷ []) c.args.out.now c.args.at))
