-- A text at the front of a lent buffer, from what the calls that write its parts leave.
-- Assumes nothing.
use Prim.Native.Nat.{ℕ, ◌+◌, ◌≤◌, ◌<◌}
use mathlib.Core.Path.{◌≡◌, refl, sym, ap, ◌∙◌}
use mathlib.Core.List.{List, ◌++◌}
use native.Mathlib.Omega.{arith}
use lib.ListN.{length}
use lib.Seq.{sets}
use borrow.Author.Tests.{lt-ltb, le-ltb}
use Rattle.lists.proofs.Stores.{sets_behind, sets_front}
use Rattle.history.specs.declared.Answer.{Answer}
use Rattle.history.specs.Answer.{refused, passed}
use Rattle.history.specs.declared.Code.TheVariants.{ShortList}
use Rattle.printing.specs.Texts.{text_answer, text_after, Printed}

module _ (text out : List ℕ) (length₀ : ℕ) (long : length₀ ≡ length text) (a : Answer) where
  -- the buffer has no room
  pub printed_short : length out < length₀ → a ≡ refused ShortList 0 → Printed text out a out
  unfolding text_answer text_after
  printed_short h e =
      let w = lt-ltb (length out) (length text) (omega (arith, long)) in
      (e ∙ sym (rw w refl), sym (rw w refl))

  -- the text stands at its front
  pub printed : (after : List ℕ) → length₀ ≤ length out → a ≡ passed length₀ → after ≡ sets out 0 text → Printed text out a after
  unfolding text_answer text_after
  printed after h e s =
      let w = le-ltb (length out) (length text) (omega (arith, long)) in
      (e ∙ ap passed long ∙ sym (rw w refl), s ∙ sets_front text out (omega (arith, long)) ∙ sym (rw w refl))

-- a second part behind the first
pub parts : (xs ys out one two : List ℕ) (next : ℕ) → next ≡ 0 + length xs → one ≡ sets out 0 xs → two ≡ sets one next ys → two ≡ sets out 0 (xs ++ ys)
parts xs ys out one two next n o t = t ∙ ap (λ (l : List ℕ). sets l next ys) o ∙ sets_behind xs ys out 0 next (sym n)

-- a text printed is one that equals it printed
pub text_printed : (a b out : List ℕ) (r : Answer) (after : List ℕ) → a ≡ b → Printed a out r after → Printed b out r after
text_printed a b out r after e p = (p.0 ∙ ap (λ x. text_answer x out) e, p.1 ∙ ap (λ x. text_after x out) e)
