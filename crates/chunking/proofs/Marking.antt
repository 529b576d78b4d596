-- The loop that marks the listed places.
-- Assumes nothing.
use Prim.Native.Nat.{ℕ, ◌+◌, ◌≤◌, ◌<◌}
use mathlib.Core.Path.{◌≡◌, refl, ap, sym, ◌∙◌}
use mathlib.Core.Bool.{Bool, true, false, not, cond}
use mathlib.Core.Logic.{◌⊎◌, inl, inr}
use mathlib.Core.List.{List, [], ◌∷◌, ◌++◌}
use native.Mathlib.Omega.{arith}
use native.Mathlib.Numerals.{add-one}
use lib.ListN.{length, get_or, take, set, length-set}
use lib.Seq.{take_all, take-suc, get_or-set_same, get_or-set_other}
use lib.Dec.{eqb}
use borrow.Author.Tests.{eqb-true, eqb-false}
use Rattle.positions.proofs.Places.{no_cond, cond_assoc}
use Rattle.lists.specs.Lists.{all}
use Rattle.lists.proofs.Tests.{test}
use Rattle.positions.specs.Places.{and}
use Rattle.placing.specs.States.{is_free}
use Rattle.freeing.specs.Marks.{unlisted}
use Rattle.freeing.proofs.Listing.{all_append, all_one}
use Rattle.chunking.specs.Inner.{Marked}

yes : (b : Bool) → cond b true false ≡ b
yes true = refl
yes false = refl

-- the first i of the list are marked
pub record Marking (list : List ℕ) (i : ℕ) (marks marks₀ : List ℕ) : Type 0 where
  pub within : i ≤ length list
  pub long : length marks ≡ length marks₀
  pub marked : (j : ℕ) → j < length marks₀ → is_free marks j ≡ and (is_free marks₀) (unlisted (take i list)) j

module _ (list marks₀ : List ℕ) where
  pub mark_none : Marking list 0 marks₀ marks₀
  unfolding all
  mark_none = record { within = omega arith; long = refl; marked = λ j l. sym (yes (is_free marks₀ j)) }

  module _ (i : ℕ) (marks : List ℕ) (g : Marking list i marks marks₀) where
    pub mark_end : length list ≤ i → Marked list marks₀ marks
    mark_end h j l = g.marked j l ∙ ap (λ (k : List ℕ). and (is_free marks₀) (unlisted k) j) (take_all i list h)

    pub mark_on : i < length list → get_or list i 0 < length marks → Marking list (i + 1) (set marks (get_or list i 0) 1) marks₀
    mark_on h b =
        record {
          within = omega arith;
          long = length-set marks (get_or list i 0) 1 ∙ g.long;
          marked = λ j l. here_on j l ∙ sym (ap (λ (k : List ℕ). and (is_free marks₀) (unlisted k) j) next ∙ more j ∙ cond_assoc (is_free marks₀ j) (unlisted (take i list) j) (not (eqb j (get_or list i 0))));
        }
      where
        next : take (i + 1) list ≡ take i list ++ (get_or list i 0 ∷ [])
        next = rw (add-one i) (take-suc list i 0 h)

        more : (j : ℕ) → and (is_free marks₀) (unlisted (take i list ++ (get_or list i 0 ∷ []))) j ≡ cond (is_free marks₀ j) (cond (unlisted (take i list) j) (not (eqb j (get_or list i 0))) false) false
        more j =
            ap (λ (t : Bool). cond (is_free marks₀ j) t false)
            (all_append (λ w. not (eqb j w)) (take i list) (get_or list i 0 ∷ []) ∙ ap (λ (t : Bool). cond (unlisted (take i list) j) t false) (all_one (λ w. not (eqb j w)) (get_or list i 0)))

        here_on : (j : ℕ) → j < length marks₀ → is_free (set marks (get_or list i 0) 1) j ≡ cond (cond (is_free marks₀ j) (unlisted (take i list) j) false) (not (eqb j (get_or list i 0))) false
        here_on j l = go (test (eqb j (get_or list i 0)))
          where
            go : (eqb j (get_or list i 0) ≡ true) ⊎ (eqb j (get_or list i 0) ≡ false)
                → is_free (set marks (get_or list i 0) 1) j ≡ cond (cond (is_free marks₀ j) (unlisted (take i list) j) false) (not (eqb j (get_or list i 0))) false
            go (inl e) =
                let q : j ≡ get_or list i 0 = eqb-true j (get_or list i 0) e in
                rw (e, ap (λ (k : ℕ). is_free (set marks (get_or list i 0) 1) k) q, get_or-set_same marks (get_or list i 0) 1 0) (sym (no_cond (cond (is_free marks₀ j) (unlisted (take i list) j) false)))
            go (inr e) = rw (e, get_or-set_other marks (get_or list i 0) j 1 0 (eqb-false _ _ e)) (g.marked j l ∙ sym (yes (cond (is_free marks₀ j) (unlisted (take i list) j) false)))
