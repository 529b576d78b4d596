-- The largest start so far, and whether a row was listed that is no opening: a row precedes one listed earlier exactly where it finishes before
-- that start, or is the opening and such a row was listed.
-- Assumes nothing.
use Prim.Native.Nat.{ℕ, ◌+◌}
use mathlib.Core.Path.{◌≡◌, refl, sym, ap, ap₂, ◌∙◌}
use mathlib.Core.Bool.{Bool, true, false, not, ◌&&◌, ◌||◌}
use mathlib.Core.List.{List, [], ◌∷◌}
use native.Mathlib.Omega.{arith}
use borrow.Author.Tests.{ltb-true, ltb-false, lt-ltb, le-ltb}
use lib.Dec.{ltb}
use Rattle.lists.specs.Lists.{from, up_to, any}
use Rattle.history.specs.declared.Op.{Op}
use Rattle.history.specs.Table.{is_opening, precedes}
use Rattle.atomicity.specs.Order.{placed}
use Rattle.atomicity.specs.Check.{precedes_at, late}
use Rattle.std.specs.Prelude.{max}
use Rattle.orders.proofs.Growing.{any_more}

max_ltb : (f a b : ℕ) → ltb f (max a b) ≡ (ltb f a || ltb f b)
max_ltb f a b = go (ltb f a) refl (ltb f b) refl
  where
    go : (c : Bool) → ltb f a ≡ c → (d : Bool) → ltb f b ≡ d → ltb f (max a b) ≡ (c || d)
    go true h d e = lt-ltb f (max a b) (omega (arith, ltb-true f a h))
    go false h true e = lt-ltb f (max a b) (omega (arith, ltb-true f b e))
    go false h false e = le-ltb f (max a b) (omega (arith, ltb-false f a h, ltb-false f b e))

-- one of two tests, of which the second has a part of its own
any_either : (a c : ℕ → Bool) (b : Bool) (l : List ℕ) → any (λ q. a q || (b && c q)) l ≡ (any a l || (b && any c l))
unfolding any
any_either a c true [] = refl
any_either a c false [] = refl
any_either a c b (x ∷ l) = rw (any_either a c b l) (go (a x) b (c x) (any a l) (any c l))
  where
    go : (i b k r s : Bool) → ((i || (b && k)) || (r || (b && s))) ≡ ((i || r) || (b && (k || s)))
    go true b k r s = refl
    go false false k r s = refl
    go false true true true s = refl
    go false true true false s = refl
    go false true false r s = refl

module _ (t order : List ℕ) where
  abbrev starts_after : ℕ → ℕ → Bool
  starts_after f q = ltb f (placed t order q).start

  -- no opening stands there
  abbrev other : ℕ → Bool
  other q = not (is_opening (placed t order q))

  pub record Latest (p latest : ℕ) (others : Bool) : Type 0 where
    pub met : others ≡ any other (up_to p)
    pub over : (f : ℕ) → ltb f latest ≡ any (starts_after f) (up_to p)

  pub latest_none : Latest 0 0 false
  unfolding any from
  latest_none = record { met = refl; over = λ f. le-ltb f 0 (omega arith) }

  pub latest_more : (p latest new : ℕ) (others more : Bool) (o : Op) → o ≡ placed t order p → new ≡ max latest o.start → more ≡ (others || not (is_opening o)) →
      Latest p latest others → Latest (p + 1) new more
  latest_more p latest new others more o e n m l =
      record {
        met = m ∙ ap₂ (λ a b. a || b) l.met (ap (λ x. not (is_opening x)) e) ∙ sym (any_more other p);
        over = λ f. rw n (max_ltb f latest o.start ∙ ap₂ (λ a b. a || b) (l.over f) (ap (λ x. ltb f x.start) e) ∙ sym (any_more (starts_after f) p));
      }

  pub latest_late : (p latest : ℕ) (others r : Bool) (o : Op) → o ≡ placed t order p → r ≡ (ltb o.finish latest || (is_opening o && others)) → Latest p latest others →
      r ≡ late t order p
  unfolding late precedes_at precedes
  latest_late p latest others r o e f l =
      f
      ∙ ap (λ x. ltb x.finish latest || (is_opening x && others)) e
      ∙ ap₂ (λ a b. a || (is_opening (placed t order p) && b)) (l.over (placed t order p).finish) l.met
      ∙ sym (any_either (starts_after (placed t order p).finish) other (is_opening (placed t order p)) (up_to p))
