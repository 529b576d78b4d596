-- The page that a marking call leaves: the question's number, and the list behind it.
-- Assumes nothing.
use Prim.Native.Nat.{ℕ, ◌-◌}
use mathlib.Core.Path.{◌≡◌, refl, sym, ap, ◌∙◌}
use mathlib.Core.List.{List, ◌∷◌, ◌++◌, append-nil}
use native.Mathlib.Omega.{arith}
use lib.ListN.{length, set, replicate, drop_of_length-le}
use lib.Seq.{take_all}
use borrow.Rule.Slice.PartMut.{mid_of, put_mid}
use Rattle.history.specs.declared.Answer.{Answer}
use Rattle.history.specs.Table.{largest_count}
use Rattle.methods.specs.Mark.{Outcome, mark}
use Rattle.searches.specs.Replies.{outcome}
use Rattle.sheet.specs.Sheet.{outcome_to}
use Rattle.lines.specs.Lines.{places}
use Rattle.sheet.specs.Pages.{Page}
use Rattle.sheet.proofs.Bounds.{outcome_long, outcome_fits}

-- the page with the number in its first place, and the places behind it
abbrev pub numbered : List ℕ → ℕ → List ℕ
numbered page question = set page 0 question

abbrev pub behind : List ℕ → ℕ
behind page = length page - 1

module _ (x question : ℕ) (l : List ℕ) where
  abbrev page : List ℕ
  page = numbered (x ∷ l) question

  -- what is lent to the marking call
  lent : mid_of 1 (behind page) page ≡ l
  lent = take_all (behind page) l (omega arith)

  -- the list that comes back in its place
  back : (new : List ℕ) → put_mid 1 (behind page) page new ≡ question ∷ new
  back new =
      ap (λ (z : List ℕ). question ∷ (new ++ z)) (drop_of_length-le l {i = behind page} (omega arith)) ∙ ap (λ (z : List ℕ). question ∷ z) (append-nil new)

module _ (t : List ℕ) (register question allowance : ℕ) where
  abbrev o : Outcome
  o = outcome_to t register question allowance

  paged : (a : Answer) (new : List ℕ) → outcome a new ≡ o → Page question o a (question ∷ new)
  paged a new e =
      let i : a ≡ o.answer = ap (λ (z : Outcome). z.answer) e in
      let l : new ≡ o.list = ap (λ (z : Outcome). z.list) e in
      record {
        answer = i;
        cells = ap (λ (z : List ℕ). question ∷ z) l;
        long = omega (arith, ap length l, outcome_long t register question allowance);
        fits = λ z. omega (arith, ap (λ (b : Answer). b.rows) i, outcome_fits t register question allowance (sym (ap (λ (b : Answer). b.code) i) ∙ z));
      }

  -- THE PAGE MADE
  pub made : (page : List ℕ) → page ≡ replicate places 0 → (a : Answer) (new : List ℕ) →
      outcome a new ≡ mark t register question allowance (mid_of 1 (behind (numbered page question)) (numbered page question))
      → Page question o a (put_mid 1 (behind (numbered page question)) (numbered page question) new)
  unfolding outcome_to
  made page e a new m =
      rw (e, back 0 question (replicate largest_count 0) new)
      (paged a new (m ∙ rw (e, lent 0 question (replicate largest_count 0)) refl))
