-- The method of each question, and the parse of its number.
-- Assumes nothing.
use Prim.Native.Nat.{ℕ}
use mathlib.Core.Path.{◌≡◌, refl, sym, ap, ◌∙◌}
use mathlib.Core.Logic.{inl, inr, ◌⊎◌}
use mathlib.Core.Bool.{true, false}
use mathlib.Core.List.{List}
use native.Mathlib.Omega.{arith}
use Rattle.std.proofs.Common.{Result as Parsed, Ok, Err, is_err, MatchResult}
use Rattle.history.specs.declared.Op.{Op}
use Rattle.methods.specs.Zones.{zones}
use Rattle.methods.specs.Lbt.{lbt}
use Rattle.methods.specs.Fzf.{fzf}
use Rattle.methods.specs.Mark.{Result, no_question, untried, walked, method}
use Rattle.positions.specs.Columns.{Cols}
use Rattle.placing.specs.declared.Search.{Search}
use Rattle.placing.specs.Searched.{Searched, is_stale, is_fresh, is_spent}
use Rattle.marker.specs.declared.Question.{Question}
use Rattle.marker.specs.declared.NoQuestion.{NoQuestion}
use Rattle.marker.specs.declared.Question.TheVariants.{Zones, Lbt, Fzf}
use Rattle.marker.specs.Questions.{number}

-- what is found by one method is found by another that gives the same
pub searched_by : {C : Cols} {allowance : ℕ} {places : List ℕ} {r : Search} (m n : List Op → Result) → ((H : List Op) → m H ≡ n H) → Searched C allowance m places r → Searched C allowance n places r
searched_by m n e (is_stale l s) = is_stale l (λ H o. sym (e H) ∙ s H o)
searched_by m n e (is_fresh l a b s) = is_fresh l a b (λ H o. sym (e H) ∙ s H o)
searched_by m n e (is_spent s) = is_spent (λ H o. omega (arith, s H o, ap (λ x. x.trials) (e H)))

-- what each question asks for
pub method_one : (H : List Op) → untried (zones H) ≡ method 1 H
unfolding method
method_one H = refl

pub method_two : (H : List Op) → walked (lbt H) ≡ method 2 H
unfolding method
method_two H = refl

pub method_three : (H : List Op) → untried (fzf H) ≡ method 3 H
unfolding method
method_three H = refl

-- a question's number is one of the three, and is not refused
pub asked_of : (q : Question) → (number q ≡ 1) ⊎ (number q ≡ 2) ⊎ (number q ≡ 3)
asked_of Zones = inl refl
asked_of Lbt = inr (inl refl)
asked_of Fzf = inr (inr refl)

pub asked_is : (q : Question) → false ≡ no_question (number q)
asked_is Zones = refl
asked_is Lbt = refl
asked_is Fzf = refl

-- one of the three is not refused
pub asked_not : (question : ℕ) → (question ≡ 1) ⊎ (question ≡ 2) ⊎ (question ≡ 3) → false ≡ no_question question
asked_not question (inl q) = rw q refl
asked_not question (inr (inl q)) = rw q refl
asked_not question (inr (inr q)) = rw q refl

-- whether the parse of a number refuses
pub parse_refuses : (question : ℕ) (r : Parsed Question NoQuestion) → MatchResult r (λ q. number q ≡ question) (λ _. no_question question ≡ true) →
    is_err r ≡ no_question question
parse_refuses question (Ok q) e = asked_is q ∙ ap no_question e
parse_refuses question (Err _) e = sym e
