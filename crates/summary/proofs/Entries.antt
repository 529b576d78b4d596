-- The loop that writes the five numbers of each register: those of the registers passed stand at the front.
-- Assumes nothing.
use Prim.Native.Nat.{ℕ, suc, ◌+◌}
use mathlib.Core.Path.{◌≡◌, refl}
use mathlib.Core.List.{List, [], ◌∷◌}
use native.Mathlib.Omega.{arith}
use lib.ListN.{length, set}
use lib.Seq.{sets}
use Rattle.history.specs.declared.Answer.{Answer}
use Rattle.history.specs.Table.{history}
use Rattle.marks.specs.Marks.{answer_to}
use Rattle.summary.specs.Summary.{entry}

pub entry_long : (t : List ℕ) (register : ℕ) → length (entry t register) ≡ 5
unfolding entry
entry_long t register = refl

-- five numbers stored one by one
pub five_stored : (list : List ℕ) (at a b c d e : ℕ) → set (set (set (set (set list at a) (at + 1) b) (at + 2) c) (at + 3) d) (at + 4) e ≡ sets list at (a ∷ b ∷ c ∷ d ∷ e ∷ [])
five_stored list at a b c d e =
    let p1 : at + 1 ≡ suc at = omega arith in
    let p2 : at + 2 ≡ suc (suc at) = omega arith in
    let p3 : at + 3 ≡ suc (suc (suc at)) = omega arith in
    let p4 : at + 4 ≡ suc (suc (suc (suc at))) = omega arith in
    rw (p1, p2, p3, p4) refl

-- those of a register are its entry
pub entry_stored : (t list : List ℕ) (register at count : ℕ) (one two : Answer) → count ≡ length (history t register) →
    one ≡ answer_to t register 1 0 → two ≡ answer_to t register 3 0 → sets list at (register ∷ count ∷ one.code ∷ two.code ∷ two.row ∷ []) ≡ sets list at (entry t register)
unfolding entry
entry_stored t list register at count one two c o w = rw (c, o, w) refl
