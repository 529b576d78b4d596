-- The line of an order from its page, the parts of a sheet one behind the other, and the same text printed.
-- Assumes nothing.
use Prim.Native.Nat.{ℕ}
use mathlib.Core.Path.{◌≡◌, refl}
use mathlib.Core.List.{List, ◌∷◌, ◌++◌}
use native.Mathlib.Numerals.{add-one}
use Rattle.history.specs.declared.Answer.{Answer}
use Rattle.methods.specs.Mark.{Outcome}
use Rattle.printing.specs.Texts.{Printed}
use Rattle.lines.specs.Lines.{Put, answers_of, order_of}
use Rattle.lines.proofs.Parts.{put_then}
use Rattle.sheet.specs.Sheet.{heading, order_line, orders_of, page_of}
use Rattle.sheet.specs.Pages.{Page}

-- the line of an order, by the outcome and by its page
pub order_is : (question : ℕ) (o : Outcome) → order_of o.answer (question ∷ o.list) ≡ order_line question o
unfolding order_of order_line
order_is question o = rw (add-one o.answer.rows) refl

pub page_order : {question : ℕ} {o : Outcome} {a : Answer} {page : List ℕ} → Page question o a page → order_of a page ≡ order_line question o
page_order {question} {o} p = rw (p.answer, p.cells) (order_is question o)

-- the parts of three outcomes, one behind the other
pub page_put : (old : List ℕ) {x y z : Outcome} {a b d : Answer} {one two three : List ℕ} {m n o p q : List ℕ} {i j k l e : ℕ} →
    Page 1 x a one → Page 2 y b two → Page 3 z d three →
    Put heading old 0 i m → Put (answers_of a b d) m i j n → Put (order_of a one) n j k o → Put (order_of b two) o k l p → Put (order_of d three) p l e q →
    Put (page_of x y z) old 0 e q
unfolding page_of orders_of
page_put old {x} {y} {z} {n = n} {j = j} f g h top answers first second third =
    let lines = answers_of x.answer y.answer z.answer in
    let upper = put_then heading lines old 0 top (rw (f.answer, g.answer, h.answer) at answers) in
    let two = put_then (order_line 1 x) (order_line 2 y) n j (rw (page_order f) at first) (rw (page_order g) at second) in
    let lower = put_then (order_line 1 x ++ order_line 2 y) (order_line 3 z) n j two (rw (page_order h) at third) in
    put_then (heading ++ lines) (order_line 1 x ++ order_line 2 y ++ order_line 3 z) old 0 upper lower

-- the same text printed
pub same_printed : (text text' out : List ℕ) (a : Answer) (after : List ℕ) → text ≡ text' → Printed text out a after → Printed text' out a after
same_printed text text' out a after e p = rw e at p
