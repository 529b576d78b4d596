-- The loop that places the writes of a sequence: the answer of the whole is the answer from here on, in front of what is laid.
-- Assumes nothing.
use Prim.Native.Nat.{ℕ, ◌+◌, ◌-◌, ◌≤◌, ◌<◌}
use mathlib.Core.Path.{◌≡◌, refl, ap, sym, ◌∙◌}
use mathlib.Core.Bool.{Bool, true, false, cond}
use mathlib.Core.Logic.{◌⊎◌, inl, inr}
use mathlib.Core.List.{List, [], ◌∷◌, ◌++◌, append_assoc, append-nil}
use Rattle.std.specs.Prelude.{Some, None}
use native.Mathlib.Omega.{arith}
use native.Mathlib.Numerals.{add-one}
use lib.ListN.{length, get_or, drop, drop_of_length-le}
use lib.Seq.{drop-cons}
use lib.Dec.{eqb, ltb}
use borrow.Author.Tests.{eq-eqb, ne_eqb, eqb-true, eqb-false, lt-ltb, le-ltb}
use Rattle.lists.specs.Lists.{all}
use Rattle.lists.proofs.Tests.{both, test}
use Rattle.lists.proofs.Images.{map_append}
use Rattle.history.specs.declared.Op.{Op}
use Rattle.methods.specs.Place.{later, rest, segment}
use Rattle.methods.specs.Zones.{Decision, none, order}
use Rattle.methods.specs.Fzf.{may_follow, put_behind, viable}
use Rattle.positions.specs.Columns.{Cols, size, wr, Sound, op, ops, Says}
use Rattle.positions.proofs.Places.{below}
use Rattle.placing.specs.States.{State, Tried, left, laid, Holds, Whose, Shrinks}
use Rattle.placing.specs.Added.{Added}
use Rattle.placing.specs.Stepped.{Stepped, fails, goes}
use Rattle.placing.proofs.Adding.{added_none, added_twice, added_shrinks}
use Rattle.choice.specs.Gives.{Gives, no_order, an_order}
use Rattle.choice.specs.Viable.{follows, Turns, viable_by}
use Rattle.choice.proofs.Following.{head_of, Head, asks_first, all_follow, one_not, broken_not}

behind_nil : (d : Decision) → put_behind d [] ≡ d
unfolding put_behind
behind_nil none = refl
behind_nil (order o) = rw (append-nil o)

behind_twice : (d : Decision) (a b : List Op) → put_behind (put_behind d a) b ≡ put_behind d (a ++ b)
unfolding put_behind
behind_twice none a b = refl
behind_twice (order o) a b = rw (append_assoc o a b)

-- one write of the definition's sequence
viable_one : (w : Op) (l K : List Op) (b : Bool) → all (may_follow w l) (later w K) ≡ b →
    viable (w ∷ l) K ≡ elim b as (λ b. Decision) [ true ↦ put_behind (viable l (rest w K)) (segment w K) | false ↦ none ]
unfolding viable
viable_one w l K b e = rw (e, viable)

pub plus_eq : (y x : ℕ) → eqb (y + 1) (x + 1) ≡ eqb y x
plus_eq y x = go (test (eqb y x))
  where
    go : (eqb y x ≡ true) ⊎ (eqb y x ≡ false) → eqb (y + 1) (x + 1) ≡ eqb y x
    go (inl e) = eq-eqb (y + 1) (x + 1) (ap (λ (k : ℕ). k + 1) (eqb-true y x e)) ∙ sym e
    go (inr e) = ne_eqb (y + 1) (x + 1) (λ q. eqb-false y x e (omega arith)) ∙ sym e

-- the test at a place of the sequence is that of the list from there on
follows_is : (T : List ℕ) (i asked : ℕ) → follows T i asked ≡ asks_first (drop i T) asked
unfolding follows asks_first head_of
follows_is T i asked = go (eqb asked 0) refl (below i (length T))
  where
    go : (b : Bool) → eqb asked 0 ≡ b → (i < length T) ⊎ (length T ≤ i) → cond b true (cond (ltb i (length T)) (eqb asked (get_or T i 0 + 1)) false) ≡ cond b true (head_of (drop i T) (asked - 1))
    go true e d = refl
    go false e (inl h) =
        let q : (asked - 1) + 1 ≡ asked = omega (arith, eqb-false asked 0 e) in
        rw (lt-ltb i (length T) h, drop-cons T i 0 h) (ap (λ (x : ℕ). eqb x (get_or T i 0 + 1)) (sym q) ∙ plus_eq (asked - 1) (get_or T i 0))
    go false e (inr h) = rw (le-ltb i (length T) h, drop_of_length-le T h)

pub record Placing (C : Cols) (T : List ℕ) (s : State) (i : ℕ) (t : State) : Type 0 where
  pub added : Added s t
  pub within : i ≤ length T
  pub holds : Holds C t
  pub whose : (j : ℕ) → i ≤ j → j < length T → Whose C.writer t (get_or T j 0)
  pub whole : Says C (λ H. viable (ops H T) (ops H (left s)) ≡ put_behind (viable (ops H (drop i T)) (ops H (left t))) (ops H added.ops))

module _ (C : Cols) (p : Sound C) (T : List ℕ) (s : State) where
  pub place_none : Holds C s → Turns C.writer T s → Placing C T s 0 s
  unfolding added_none
  place_none h k = record { added = added_none s; within = omega arith; holds = h; whose = λ j a b. k.whose j b; whole = λ H f. sym (behind_nil _) }

  pub place_end : (i : ℕ) (t : State) → Placing C T s i t → length T ≤ i → Gives C (viable_by T (left s)) (laid s) t.order (Some t.at)
  unfolding viable put_behind
  place_end i t g l =
      an_order
      (record {
        high = omega (arith, g.holds.ready.high);
        placed = g.added.ops;
        lays = g.added.lays;
        whole = λ H f. g.whole H f ∙ ap (λ (k : List ℕ). put_behind (viable (ops H k) (ops H (left t))) (ops H g.added.ops)) (drop_of_length-le T l);
      })

  module _ (i : ℕ) (t : State) (l : i < length T) (g : Placing C T s i t) where
    abbrev w : ℕ
    w = get_or T i 0

    abbrev L : List ℕ
    L = drop (i + 1) T

    pub place_whose : Whose C.writer t w
    place_whose = g.whose i (omega arith) l

    head : Head C L
    unfolding head_of
    head v e = go (below (i + 1) (length T)) e
      where
        go : (i + 1 < length T) ⊎ (length T ≤ i + 1) → head_of L v ≡ true → (v < size C) × (wr C v ≡ v)
        go (inl h) q =
            let k = g.whose (i + 1) (omega arith) h in
            let d : v ≡ get_or T (i + 1) 0 = eqb-true v (get_or T (i + 1) 0) (rw (drop-cons T (i + 1) 0 h) at q) in
            rw d (omega (arith, k.inside, p.shape.long), k.write)
        go (inr h) q = absurd (both (rw (drop_of_length-le T h) at q) refl)

    one : (b : Bool) → Says C (λ H. all (may_follow (op H w) (ops H L)) (later (op H w) (ops H (left t))) ≡ b →
        viable (ops H T) (ops H (left s)) ≡ put_behind (elim b as (λ b. Decision) [ true ↦ put_behind (viable (ops H L) (rest (op H w) (ops H (left t)))) (segment (op H w) (ops H (left t))) | false ↦ none ]) (ops H g.added.ops))
    one b H f e =
        let d : drop i T ≡ w ∷ L = rw (add-one i) (drop-cons T i 0 l) in
        g.whole H f
        ∙ ap (λ (k : List ℕ). put_behind (viable (ops H k) (ops H (left t))) (ops H g.added.ops)) d
        ∙ ap (λ (x : Decision). put_behind x (ops H g.added.ops)) (viable_one (op H w) (ops H L) (ops H (left t)) b e)

    -- nothing is set free, also where a step fails
    pub place_shrinks : (r : Tried) → Stepped C w t r → Shrinks (size C) s.placed r.state.placed
    place_shrinks r (fails e a b) = added_shrinks (added_twice g.added a) (size C)
    place_shrinks r (goes e x) = added_shrinks (added_twice g.added x.added) (size C)

    pub place_fails : (r : Tried) → Stepped C w t r → r.failed ≡ true → (cells : List ℕ) → Gives C (viable_by T (left s)) (laid s) cells None
    unfolding put_behind
    place_fails r (fails e a b) q cells = no_order (λ H f. one false H f (broken_not C p t g.holds w place_whose L head H f b))
    place_fails r (goes e y) q cells = absurd (both q e)

    pub place_clash : (r : Tried) → Stepped C w t r → r.failed ≡ false → follows T (i + 1) r.asked ≡ false → (cells : List ℕ) → Gives C (viable_by T (left s)) (laid s) cells None
    unfolding put_behind
    place_clash r (fails e a b) q z cells = absurd (both e q)
    place_clash r (goes e x) q z cells =
        no_order (λ H f. one false H f (one_not C p t g.holds w place_whose L head H f r.asked x.told (sym (follows_is T (i + 1) r.asked) ∙ z)))

    pub place_on : Turns C.writer T s → (r : Tried) → Stepped C w t r → r.failed ≡ false → follows T (i + 1) r.asked ≡ true → Placing C T s (i + 1) r.state
    unfolding added_twice
    place_on k r (fails e a b) q z = absurd (both e q)
    place_on k r (goes e x) q z =
        record {
          added = added_twice g.added x.added;
          within = omega arith;
          holds = x.holds;
          whose = λ j a b. x.keeps (get_or T j 0) (k.once i j (omega arith) b) (g.whose j (omega arith) b);
          whole = λ H f.
              one true H f (all_follow C p t g.holds w place_whose L head H f r.asked x.told (sym (follows_is T (i + 1) r.asked) ∙ z))
              ∙ behind_twice (viable (ops H L) (rest (op H w) (ops H (left t)))) (segment (op H w) (ops H (left t))) (ops H g.added.ops)
              ∙ ap (λ (a : List Op). put_behind (viable (ops H L) (rest (op H w) (ops H (left t)))) (a ++ ops H g.added.ops)) (x.segments H f)
              ∙ ap (λ (a : List Op). put_behind (viable (ops H L) (rest (op H w) (ops H (left t)))) a) (sym (map_append (op H) x.added.ops g.added.ops))
              ∙ ap (λ (a : List Op). put_behind (viable (ops H L) a) (ops H (x.added.ops ++ g.added.ops))) (x.leaves H f);
        }
