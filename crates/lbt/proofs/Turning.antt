-- The loop of a round: the candidates by falling finish, each with an epoch, until one wins or the allowance is used up.
-- Assumes nothing.
use Prim.Native.Nat.{ℕ, zero, suc, ◌+◌, ◌-◌, ◌≤◌, ◌<◌}
use mathlib.Core.Path.{◌≡◌, refl, ap, sym, ◌∙◌}
use mathlib.Core.Bool.{Bool, true, false}
use mathlib.Core.List.Memᴰ.{head as here}
use mathlib.Core.List.Memᴰ.{tail as there}
use mathlib.Core.List.{List, [], ◌∷◌, Memᴰ as In}
use native.Mathlib.Omega.{arith}
use native.Mathlib.Numerals.{add-one}
use lib.ListN.{length, get_or, drop, drop_of_length-le}
use lib.Seq.{drop-cons}
use borrow.Author.Tests.{le-leb, lt-leb, leb-true, eq-eqb, ne_eqb}
use Rattle.lists.specs.Lists.{keep, put}
use Rattle.lists.proofs.Images.{keep_none, get_d_in, pairs_drop}
use Rattle.history.specs.declared.Op.{Op}
use Rattle.methods.specs.Place.{write_count}
use Rattle.methods.specs.Lbt.{Epoch, failed, placed, epoch, Round, lost, won, onemore, round}
use Rattle.positions.specs.Places.{and}
use Rattle.positions.specs.Columns.{Cols, size, wr, ends_before, by_finish, Sound, op, ops, Of, Says}
use Rattle.positions.proofs.Places.{no_cond}
use Rattle.placing.specs.States.{State, is_free, left, Holds, Whose}
use Rattle.placing.specs.Added.{Kept}
use Rattle.placing.proofs.Adding.{again, kept_none, kept_left, kept_holds, kept_whose, kept_twice, kept_added}
use Rattle.std.specs.Prelude.{None, Some}
use Rattle.placing.specs.declared.Front.{Front}
use Rattle.lbt.specs.declared.Turn.TheVariants.{Lost, Won, Spent}
use Rattle.lbt.specs.Epochs.{epoch_of, Ran, loses, wins}
use Rattle.lbt.specs.Rounds.{Lowest, Skipped, round_of, tried, Turned, is_lost, is_won, is_spent}
use Rattle.lbt.proofs.Falls.{fin, may, falls_in, falls_ordered, candidates_at}

-- a round with t trials before it
unfoldable pub after : ℕ → Round → Round
after t (lost u) = lost (t + u)
after t (won u l o) = won (t + u) l o

after_none : (r : Round) → after 0 r ≡ r
unfolding after
after_none (lost u) = ap lost (omega arith)
after_none (won u l o) = ap (λ (x : ℕ). won x l o) (omega arith)

after_more : (t : ℕ) (r : Round) → after t (onemore r) ≡ after (t + 1) r
unfolding after onemore
after_more t (lost u) = ap lost (omega arith)
after_more t (won u l o) = ap (λ (x : ℕ). won x l o) (omega arith)

tried_after : (t : ℕ) (r : Round) → tried (after t r) ≡ t + tried r
unfolding after tried
tried_after t (lost u) = refl
tried_after t (won u l o) = refl

no_round : (t : ℕ) (H : List Op) → after t (round H []) ≡ lost t
unfolding after round
no_round t H = ap lost (omega arith)

one_round : (H : List Op) (c : Op) (l : List Op) (e : Epoch) → epoch (write_count H) c H ≡ e
    → round H (c ∷ l) ≡ elim e [ failed ↦ onemore (round H l) | placed r o ↦ won 1 r o ]
unfolding round
one_round H c l e q = rw (q, round)

-- a candidate is a trial
some_tried : (H : List Op) (c : Op) (l : List Op) → 0 < tried (round H (c ∷ l))
unfolding tried onemore
some_tried H c l = rw (one_round H c l (epoch (write_count H) c H) refl) (go (epoch (write_count H) c H) (round H l))
  where
    go : (e : Epoch) (r : Round) → 0 < tried (elim e [ failed ↦ onemore r | placed r o ↦ won 1 r o ])
    go failed (lost t) = omega arith
    go failed (won t l o) = omega arith
    go (placed l o) r = omega arith

keep_drop : (q : ℕ → Bool) (F : List ℕ) (r : ℕ) → ((i : ℕ) → i < r → q (get_or F i 0) ≡ false) → r ≤ length F → keep q F ≡ keep q (drop r F)
unfolding keep put
keep_drop q F zero h l = refl
keep_drop q [] (suc r) h l = refl
keep_drop q (x ∷ F) (suc r) h l = rw (h 0 (omega arith)) (keep_drop q F r (λ i a. h (suc i) (omega arith)) (omega arith))

-- the write j is a candidate
abbrev pub Open : Cols → State → ℕ → ℕ → Bool
Open C s low = and (is_free s.placed) (may C low)

-- the round of the definition, from the write i of F on
abbrev pub round_at : Cols → List Op → State → ℕ → List ℕ → ℕ → Round
round_at C H s low F i = round (ops H (left s)) (ops H (keep (Open C s low) (drop i F)))

-- the invariant, at the write i with count trials: every mark is as it was in s, and so is what was laid
pub record Turning (C : Cols) (s : State) (low base allowance : ℕ) (F marks cells : List ℕ) (i count : ℕ) : Type 0 where
  pub sound : Sound C
  pub holds : Holds C s
  pub lowest : Lowest C s low
  pub falls : F ≡ by_finish C
  pub kept : Kept s marks cells
  pub within : i ≤ length F
  pub small : count ≤ allowance
  pub tries : ℕ
  pub total : count ≡ base + tries
  pub whole : Says C (λ H. round_of H s ≡ after tries (round_at C H s low F i))

pub turn_none : {C : Cols} {s : State} {low base allowance : ℕ} {F : List ℕ} {from : ℕ} → Sound C → Holds C s → Lowest C s low → F ≡ by_finish C → Skipped F s.placed from →
    base ≤ allowance → Turning C s low base allowance F s.placed s.order from base
turn_none {C} {s} {low} {F = F} {from = from} p h d q k b =
    record {
      sound = p;
      holds = h;
      lowest = d;
      falls = q;
      kept = kept_none s;
      within = k.high;
      small = b;
      tries = 0;
      total = omega arith;
      whole =
          λ H f. ap (round (ops H (left s)))
          (candidates_at C p s h low d.some d.last H f
          ∙ ap (λ (l : List ℕ). ops H (keep (Open C s low) l)) (sym q)
          ∙ ap (ops H) (keep_drop (Open C s low) F from (λ i a. rw (k.gone i a)) k.high))
          ∙ sym (after_none _);
    }

module _ {C : Cols} {s : State} {low base allowance : ℕ} {F marks cells : List ℕ} {i count : ℕ} (g : Turning C s low base allowance F marks cells i count) where
  abbrev X : ℕ → Bool
  X = Open C s low

  member : {j : ℕ} → In j F → In j (by_finish C)
  member m = rw g.falls at m

  lose : keep X (drop i F) ≡ [] → Turned C s base allowance marks cells (Lost count)
  lose e =
      is_lost g.tries g.kept g.total g.small
      (λ H f. g.whole H f ∙ ap (λ (l : List ℕ). after g.tries (round (ops H (left s)) (ops H l))) e ∙ no_round g.tries (ops H (left s)))

  pub turn_end : length F ≤ i → Turned C s base allowance marks cells (Lost count)
  unfolding keep
  turn_end l = lose (ap (keep X) (drop_of_length-le F l))

  module _ (l : i < length F) where
    abbrev w : ℕ
    w = get_or F i 0

    known : (w < size C) × (wr C w ≡ w)
    known = falls_in C (member (get_d_in F 0 i l))

    pub turn_in : w < size C
    turn_in = known.0

    pub turn_marked : w < length marks
    turn_marked = omega (arith, known.0, ap length g.kept.marks, g.holds.ready.marks)

    next : drop i F ≡ w ∷ drop (i + 1) F
    next = rw (add-one i) (drop-cons F i 0 l)

    same_mark : get_or marks w 0 ≡ get_or s.placed w 0
    same_mark = ap (λ (q : List ℕ). get_or q w 0) g.kept.marks

    pub turn_skip : (get_or marks w 0 ≡ 0 → ⊥) → Turning C s low base allowance F marks cells (i + 1) count
    unfolding keep put
    turn_skip n =
        record {
          sound = g.sound;
          holds = g.holds;
          lowest = g.lowest;
          falls = g.falls;
          kept = g.kept;
          within = omega arith;
          small = g.small;
          tries = g.tries;
          total = g.total;
          whole = λ H f. g.whole H f ∙ ap (λ (z : List ℕ). after g.tries (round (ops H (left s)) (ops H z))) out;
        }
      where
        out : keep X (drop i F) ≡ keep X (drop (i + 1) F)
        out = ap (keep X) next ∙ rw (ne_eqb (get_or s.placed w 0) 0 (λ e. n (same_mark ∙ e)))

    module _ (z : get_or marks w 0 ≡ 0) where
      open_here : is_free s.placed w ≡ true
      open_here = eq-eqb _ _ (sym same_mark ∙ z)

      here_whose : Whose C.writer s w
      here_whose = record { inside = omega (arith, known.0, g.sound.shape.long); write = known.1; free = open_here }

      -- what the epoch requires
      pub turn_whose : Holds C (again g.kept) × Whose C.writer (again g.kept) w
      turn_whose = (kept_holds g.kept C g.holds, kept_whose g.kept C.writer w here_whose)

      -- no candidate, and none behind it
      pub turn_stop : fin C w < get_or C.start (low - 1) 0 → Turned C s base allowance marks cells (Lost count)
      turn_stop a = lose (rw next (keep_none X _ (λ y m. none y m)))
        where
          early : (y : ℕ) → fin C y ≤ fin C w → X y ≡ false
          early y b = rw (lt-leb (get_or C.start (low - 1) 0) (fin C y) (omega arith)) (no_cond (is_free s.placed y))

          none : (y : ℕ) → In y (w ∷ drop (i + 1) F) → X y ≡ false
          none y (here e) = early y (rw e (omega arith))
          none y (there m) =
              early y (leb-true (fin C y) (fin C w) (pairs_drop {R = λ x y. ends_before C x y ≡ true} {l = F} 0 (rw g.falls (falls_ordered C)) i l y (rw (add-one i) at m)))

      module _ (a : get_or C.start (low - 1) 0 ≤ fin C w) where
        first : keep X (drop i F) ≡ w ∷ keep X (drop (i + 1) F)
        unfolding keep put
        first = rw next (rw (open_here, le-leb (get_or C.start (low - 1) 0) (fin C w) a))

        pub turn_spent : count ≡ allowance → Turned C s base allowance marks cells Spent
        turn_spent b = is_spent g.kept (λ H f. omega (arith, g.total, ap tried (g.whole H f), tried_after g.tries (round_at C H s low F i), more H))
          where
            more : (H : List Op) → 0 < tried (round_at C H s low F i)
            more H = rw first (some_tried (ops H (left s)) (op H w) (ops H (keep X (drop (i + 1) F))))

        tried_one : (H : List Op) → Of C H → (e : Epoch) → epoch_of H s w ≡ e
            → round_of H s ≡ after g.tries (elim e [ failed ↦ onemore (round_at C H s low F (i + 1)) | placed r o ↦ won 1 r o ])
        tried_one H f e b =
            g.whole H f
            ∙ ap (λ (k : List ℕ). after g.tries (round (ops H (left s)) (ops H k))) first
            ∙ ap (after g.tries) (one_round (ops H (left s)) (op H w) _ e b)

        -- the epoch of the state again is that of s
        same_epoch : (H : List Op) → epoch_of H s w ≡ epoch_of H (again g.kept) w
        same_epoch H = ap (λ (l : List ℕ). epoch (write_count (ops H l)) (op H w) (ops H l)) (sym (kept_left g.kept))

        module _ (b : count ≡ allowance → ⊥) (m c : List ℕ) (n : ℕ) (j : n ≡ count + 1) where
          pub turn_lose : Ran C w (again g.kept) m c None → Turning C s low base allowance F m c (i + 1) n
          turn_lose (loses k x) =
              record {
                sound = g.sound;
                holds = g.holds;
                lowest = g.lowest;
                falls = g.falls;
                kept = kept_twice g.kept k;
                within = omega arith;
                small = omega (arith, g.small);
                tries = g.tries + 1;
                total = omega (arith, g.total);
                whole = λ H f. tried_one H f failed (same_epoch H ∙ x H f) ∙ after_more g.tries _;
              }

          pub turn_win : {front : Front} → Ran C w (again g.kept) m c (Some front) → Turned C s base allowance m c (Won front n)
          unfolding after kept_added
          turn_win (wins x) =
              is_won (g.tries + 1) w {t = n} (omega (arith, g.total)) (omega (arith, g.small)) here_whose
              (record { added = kept_added g.kept x.added; holds = x.holds; less = x.less; whole = λ H f. same_epoch H ∙ x.whole H f })
              (λ H f. tried_one H f _ (same_epoch H ∙ x.whole H f))
