-- Ranks (document 02, W-203 and W-207): they rise with the sequence of the stamps, so that they tell all stamps apart, and precedence by ranks is
-- precedence by stamps, with the opening first.
-- Assumes nothing.
use Prim.Native.Nat.{ℕ, ◌≤◌, ◌<◌}
use mathlib.Core.Path.{◌≡◌, refl, sym, ◌∙◌}
use mathlib.Core.Logic.{◌⊎◌, inl, inr, ◌≢◌}
use mathlib.Core.Bool.{Bool, true, false, cond}
use mathlib.Core.List.Memᴰ
use mathlib.Core.List.{List, map, Memᴰ as In}
use native.Mathlib.Omega.{arith}
use native.Mathlib.Decide.{dec_lt}
use native.Mathlib.Nat.{eq-or-lt_of_le}
use Rattle.lists.proofs.Tests.{Told, holds, fails, test, both, told_true, true_told, told_false, false_told, told_or, told_and, told_ltb, told_eqb}
use Rattle.lists.proofs.Maps.{map_in}
use Rattle.lists.proofs.Counts.{keep_more}
use Rattle.history.specs.declared.Op.{Op}
use Rattle.history.specs.Table.{largest_stamp, is_opening, Precedes, precedes}
use Rattle.history.specs.Screen.{latest, Spanned}
use Rattle.history.proofs.Operations.{told_precedes}
use Rattle.methods.specs.Ranks.{Event, level_of, starting, finishing, events, lower, sooner, rank, by_rank}
use Rattle.preparation.specs.Claims.{RanksRise, KeepsPrecedence}

-- WHAT COMES BEFORE, as a statement: one sequence of all stamps.
abbrev pub Lower : ℕ → ℕ → Type 0 → Type 0
Lower a b P = (a < b) ⊎ ((a ≡ b) × P)

abbrev pub Sooner : Event → Event → Type 0
Sooner d e = Lower d.level e.level (Lower d.stamp e.stamp (Lower d.side e.side (d.row < e.row)))

pub told_lower : (a b : ℕ) {P : Type 0} {n : Bool} → Told P n → Told (Lower a b P) (lower a b n)
told_lower a b t = told_or (told_ltb a b) (told_and (told_eqb a b) t)

pub told_sooner : (d e : Event) → Told (Sooner d e) (sooner d e)
unfolding sooner
told_sooner d e =
    told_lower d.level e.level (told_lower d.stamp e.stamp (told_lower d.side e.side (told_ltb d.row e.row)))

pub lower_trans : (a b c : ℕ) {P Q R : Type 0} → (P → Q → R) → Lower a b P → Lower b c Q → Lower a c R
lower_trans a b c f (inl l) (inl m) = inl (omega arith)
lower_trans a b c f (inl l) (inr (e, q)) = inl (omega arith)
lower_trans a b c f (inr (e, p)) (inl m) = inl (omega arith)
lower_trans a b c f (inr (e, p)) (inr (d, q)) = inr (omega arith, f p q)

lower_not : (a : ℕ) {P : Type 0} → (P → ⊥) → Lower a a P → ⊥
lower_not a n (inl l) = omega arith
lower_not a n (inr (e, p)) = n p

-- what is not lower than another, the other is not above
pub lower_else : (a b : ℕ) {P Q : Type 0} → ((P → ⊥) → Q) → (Lower a b P → ⊥) → Lower b a Q
lower_else a b {P} {Q} f n = go (dec_lt b a)
  where
    go : Dec (b < a) → Lower b a Q
    go (yes l) = inl l
    go (no l) = let k : a < b → ⊥ = λ m. n (inl m) in let e : b ≡ a = omega arith in inr (e, f (λ p. n (inr (sym e, p))))

pub sooner_trans : (c d e : Event) → Sooner c d → Sooner d e → Sooner c e
sooner_trans c d e =
    lower_trans c.level d.level e.level
    (lower_trans c.stamp d.stamp e.stamp (lower_trans c.side d.side e.side (λ l m. omega arith)))

pub never_sooner : (e : Event) → Sooner e e → ⊥
never_sooner e = lower_not e.level (lower_not e.stamp (lower_not e.side (λ l. omega arith)))

module _ (h : List Op) where
  pub start_in : {x : Op} → In x h → In (starting x) (events h)
  start_in m = Memᴰ.append_left (map finishing h) (map_in starting m)

  pub finish_in : {x : Op} → In x h → In (finishing x) (events h)
  finish_in m = Memᴰ.append_right (map starting h) (map_in finishing m)

  -- THE RANKS RISE with the sequence
  pub rank_rises : {d e : Event} → In d (events h) → Sooner d e → rank h d < rank h e
  unfolding rank
  rank_rises {d} {e} m l =
      keep_more (λ c. sooner c d) (λ c. sooner c e) (events h)
      (λ c t. true_told (told_sooner c e) (sooner_trans c d e (told_true (told_sooner c d) t) l))
      m
      (false_told (told_sooner d d) (never_sooner d))
      (true_told (told_sooner d e) l)

  same_rank : (d e : Event) → e.level ≡ d.level → e.stamp ≡ d.stamp → e.side ≡ d.side → e.row ≡ d.row → rank h e ≡ rank h d
  unfolding rank sooner
  same_rank d e o p q r = rw (o, p, q, r)

  -- e comes before d, or is d
  no_higher_lem : {d e : Event} → In e (events h) →
      Lower e.level d.level (Lower e.stamp d.stamp (Lower e.side d.side (e.row ≤ d.row))) →
      rank h e ≤ rank h d
  no_higher_lem {d} {e} n (inl l) = omega (arith, rank_rises {d = e} {e = d} n (inl l))
  no_higher_lem {d} {e} n (inr (o, inl l)) = omega (arith, rank_rises {d = e} {e = d} n (inr (o, inl l)))
  no_higher_lem {d} {e} n (inr (o, inr (p, inl l))) = omega (arith, rank_rises {d = e} {e = d} n (inr (o, inr (p, inl l))))
  no_higher_lem {d} {e} n (inr (o, inr (p, inr (q, r)))) = which (eq-or-lt_of_le r)
    where
      which : (e.row ≡ d.row) ⊎ (e.row < d.row) → rank h e ≤ rank h d
      which (inl c) = omega (arith, same_rank d e o p q c)
      which (inr l) = omega (arith, rank_rises {d = e} {e = d} n (inr (o, inr (p, inr (q, l)))))

  pub ranks_rise : RanksRise h
  ranks_rise d e m n = (λ l. go l (sooner d e) refl, λ t. rank_rises m (told_true (told_sooner d e) t))
    where
      go : rank h d < rank h e → (b : Bool) → sooner d e ≡ b → sooner d e ≡ true
      go l true t = t
      go l false t =
          absurd
          (omega (
            arith,
            no_higher_lem {d = d} {e = e} n
                (lower_else d.level e.level (lower_else d.stamp e.stamp (lower_else d.side e.side (λ k. omega (arith, k))))
                (told_false (told_sooner d e) t)),
          ))

  -- stamps of two rows, both starts or both finishes, have different ranks
  pub ranks_differ : {d e : Event} → In d (events h) → In e (events h) → d.side ≡ e.side → d.row < e.row → rank h d ≢ rank h e
  ranks_differ {d} {e} m n s l q = go (dec_lt d.level e.level) (dec_lt e.level d.level) (dec_lt d.stamp e.stamp) (dec_lt e.stamp d.stamp)
    where
      go : Dec (d.level < e.level) → Dec (e.level < d.level) → Dec (d.stamp < e.stamp) → Dec (e.stamp < d.stamp) → ⊥
      go (yes k) a b c = omega (arith, rank_rises {d = d} {e = e} m (inl k))
      go (no k) (yes a) b c = omega (arith, rank_rises {d = e} {e = d} n (inl a))
      go (no k) (no a) (yes b) c = omega (arith, rank_rises {d = d} {e = e} m (inr (omega arith, inl b)))
      go (no k) (no a) (no b) (yes c) = omega (arith, rank_rises {d = e} {e = d} n (inr (omega arith, inl c)))
      go (no k) (no a) (no b) (no c) = omega (arith, rank_rises {d = d} {e = e} m (inr (omega arith, inr (omega arith, inr (s, l)))))

-- the opening's stamps lie below, and are 0
pub level_opening : (o : Op) → is_opening o ≡ true → level_of o ≡ 0
level_opening o e = rw e

pub level_other : (o : Op) → is_opening o ≡ false → level_of o ≡ 1
level_other o e = rw e

pub at_zero_lem : (o : Op) → is_opening o ≡ true → o.finish ≤ latest o → o.finish ≡ 0
at_zero_lem o e l = let k : latest o ≡ 0 = rw e in omega arith

-- no operation may finish above the largest stamp
pub latest_small : (o : Op) → latest o ≤ largest_stamp
latest_small o = go (is_opening o)
  where
    go : (b : Bool) → cond b 0 largest_stamp ≤ largest_stamp
    go true = omega arith
    go false = omega arith

-- where each row has a span, and the opening's is 0
module _ (h : List Op) (spans : (o : Op) → In o h → Spanned o) {x y : Op} (m : In x h) (n : In y h) where
  -- PRECEDENCE BY RANKS is precedence by stamps, the opening first
  pub precedes_ranked : Precedes x y → (by_rank h x).finish < (by_rank h y).start
  precedes_ranked p = rank_rises h {d = finishing x} {e = starting y} (finish_in h m) (go p (test (is_opening x)) (test (is_opening y)))
    where
      go : Precedes x y → (is_opening x ≡ true) ⊎ (is_opening x ≡ false) → (is_opening y ≡ true) ⊎ (is_opening y ≡ false) → Sooner (finishing x) (starting y)
      go (inr (a, b)) c d = inl (omega (arith, level_opening x a, level_other y b))
      go (inl l) c (inl b) = absurd (omega (arith, (spans y n).0, at_zero_lem y b (spans y n).1))
      go (inl l) (inl a) (inr b) = inl (omega (arith, level_opening x a, level_other y b))
      go (inl l) (inr a) (inr b) = inr (level_other x a ∙ sym (level_other y b), inl l)

  pub meets_ranked : (Precedes y x → ⊥) → (by_rank h x).start < (by_rank h y).finish
  meets_ranked v = rank_rises h {d = starting x} {e = finishing y} (start_in h m) (go (test (is_opening x)) (test (is_opening y)) (dec_lt x.start y.finish))
    where
      never : y.finish < x.start → ⊥
      never l = v (inl l)

      go : (is_opening x ≡ true) ⊎ (is_opening x ≡ false) → (is_opening y ≡ true) ⊎ (is_opening y ≡ false) → Dec (x.start < y.finish) → Sooner (starting x) (finishing y)
      go (inr a) (inl b) d = absurd (v (inr (b, a)))
      go (inl a) (inr b) d = inl (omega (arith, level_opening x a, level_other y b))
      go (inl a) (inl b) d =
          inr (level_opening x a ∙ sym (level_opening y b), inr (omega (arith, (spans x m).0, at_zero_lem x a (spans x m).1, at_zero_lem y b (spans y n).1), inl (omega arith)))
      go (inr a) (inr b) (yes d) = inr (level_other x a ∙ sym (level_other y b), inl d)
      go (inr a) (inr b) (no d) = inr (level_other x a ∙ sym (level_other y b), inr (omega (arith, never), inl (omega arith)))

-- a finish comes after its own start
pub own_ranked : (h : List Op) → ((o : Op) → In o h → Spanned o) → {x : Op} → In x h → (by_rank h x).start < (by_rank h x).finish
own_ranked h spans {x} m = meets_ranked h spans m m never
  where
    never : Precedes x x → ⊥
    never (inl l) = omega (arith, (spans x m).0)
    never (inr (a, b)) = both a b

pub keeps_precedence : (h : List Op) → KeepsPrecedence h
keeps_precedence h spans x y m n = (go (precedes x y) (told_precedes x y), precedes_ranked h spans m n)
  where
    go : (b : Bool) → Told (Precedes x y) b → (by_rank h x).finish < (by_rank h y).start → Precedes x y
    go true (holds p) l = p
    go false (fails v) l = absurd (omega (arith, meets_ranked h spans n m v))
