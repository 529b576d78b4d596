-- The loop of the walk: rounds until nothing is left, one is lost, or the allowance is used up (000, figure 2, lines 2 to 9).
-- Assumes nothing.
use Prim.Native.Nat.{ℕ, zero, suc, ◌+◌, ◌-◌, ◌≤◌, ◌<◌}
use mathlib.Core.Path.{◌≡◌, refl, ap, sym, ◌∙◌}
use mathlib.Core.Bool.{Bool, true, false, cond}
use mathlib.Core.Logic.{◌⊎◌, inl, inr}
use mathlib.Core.List.{List, [], ◌∷◌, ◌++◌, append_assoc, append-nil, Memᴰ as In}
use native.Mathlib.Omega.{arith}
use lib.ListN.{length, get_or, length-drop}
use lib.Seq.{take_all}
use borrow.Author.Tests.{eq-eqb, eqb-true}
use Rattle.lists.proofs.Tests.{both}
use Rattle.lists.proofs.Counts.{some_length}
use Rattle.lists.proofs.Images.{get_d_in, map_append}
use Rattle.history.specs.declared.Op.{Op}
use Rattle.methods.specs.Place.{write_count}
use Rattle.methods.specs.Zones.{none, order as order_of}
use Rattle.methods.specs.Lbt.{Epoch, placed, candidates, Round, lost, won, round, Walk, stale, fresh, trials, decided, follow, walk, lbt}
use Rattle.methods.specs.Mark.{walked}
use Rattle.witnesses.specs.Histories.{Write}
use Rattle.witnesses.proofs.Parts.{writes_in}
use Rattle.walks.proofs.Epochs.{Epoch?, is_placed, epoch?, wins_part}
use Rattle.positions.specs.Places.{upto, latest}
use Rattle.positions.specs.Columns.{Cols, size, wr, is_own, by_finish, Sound, op, ops, Of, Says}
use Rattle.positions.proofs.Places.{below, upto_empty, upto_stop}
use Rattle.positions.proofs.Latest.{latest_le, latest_none, latest_at}
use Rattle.placing.specs.States.{State, is_free, left, laid, state_of, Ready, Holds, Whose}
use Rattle.placing.specs.Added.{Added}
use Rattle.placing.specs.declared.Front.{Front}
use Rattle.placing.specs.declared.Search.TheVariants.{Stale, Fresh, Spent}
use Rattle.placing.specs.Searched.{between, Searched, is_stale, is_fresh, is_spent as over}
use Rattle.placing.proofs.Lates.{whose_write}
use Rattle.placing.proofs.Begun.{begun_laid, begun_holds, begun_left}
use Rattle.placing.proofs.Adding.{added_none, added_top, added_twice, added_shrinks}
use Rattle.lbt.specs.declared.Turn.TheVariants.{Lost, Won, Spent as TurnSpent}
use Rattle.lbt.specs.Epochs.{epoch_of, Wins}
use Rattle.lbt.specs.Rounds.{open_write, Lowest, Skipped, round_of, tried, Turned, is_lost, is_won, is_spent}
use Rattle.lbt.proofs.Falls.{falls_in}
use Rattle.lbt.proofs.Latest.{latest_stop}

-- Laws of the definition's walk.

follow_none : (w : Walk) → follow 0 [] w ≡ w
unfolding follow
follow_none (stale u) = ap stale (omega arith)
follow_none (fresh u l) = rw (append-nil l) (ap (λ (x : ℕ). fresh x l) (omega arith))

follow_twice : (a b : ℕ) (x y : List Op) (w : Walk) → follow a x (follow b y w) ≡ follow (a + b) (y ++ x) w
unfolding follow
follow_twice a b x y (stale u) = ap stale (omega arith)
follow_twice a b x y (fresh u l) = rw (append_assoc l y x) (ap (λ (z : ℕ). fresh z (l ++ (y ++ x))) (omega arith))

follow_trials : (a : ℕ) (x : List Op) (w : Walk) → trials (follow a x w) ≡ a + trials w
unfolding follow trials
follow_trials a x (stale u) = refl
follow_trials a x (fresh u l) = refl

follow_end : (a n : ℕ) (x : List Op) → follow a x (walk n []) ≡ fresh a x
unfolding follow walk
follow_end a zero x = ap (λ (z : ℕ). fresh z x) (omega arith)
follow_end a (suc n) x = ap (λ (z : ℕ). fresh z x) (omega arith)

walk_one : (n : ℕ) (H : List Op) → 0 < length H → (r : Round) → round H (candidates H) ≡ r
    → walk (suc n) H ≡ elim r [ lost t ↦ stale t | won t l o ↦ follow t o (walk n l) ]
unfolding walk
walk_one n [] h r e = absurd (omega arith)
walk_one n (x ∷ l) h r e = rw (e, walk)

round_trials : (n : ℕ) (r : Round) → tried r ≤ trials (elim r [ lost t ↦ stale t | won t l o ↦ follow t o (walk n l) ])
unfolding tried trials
round_trials n (lost t) = omega arith
round_trials n (won t l o) = omega (arith, follow_trials t o (walk n l))

-- what a method gives by the walk
walked_stale : (t : ℕ) → walked (stale t) ≡ record { decision = none; trials = t }
unfolding decided trials
walked_stale t = refl

walked_fresh : (t : ℕ) (o : List Op) → walked (fresh t o) ≡ record { decision = order_of o; trials = t }
unfolding decided trials
walked_fresh t o = refl

-- an epoch that wins leaves fewer writes
won_fewer : (w : Op) (L l o : List Op) → Write L w → (e : Epoch) → e ≡ placed l o → Epoch? w L e → write_count l < write_count L
won_fewer w L l o k e q v = go (rw q at v)
  where
    go : Epoch? w L (placed l o) → write_count l < write_count L
    go (is_placed m) = (wins_part k m).less

-- the walk over H is the one over what a state leaves, in front of what is laid
pub record Ahead (H : List Op) (s : State) (count : ℕ) : Type 0 where
  pub fuel : ℕ
  pub enough : write_count (ops H (left s)) ≤ fuel
  pub whole : lbt H ≡ follow count (ops H (laid s)) (walk fuel (ops H (left s)))

-- the invariant, before a round; s₀ is the state before anything is placed
pub record Walking (C : Cols) (F : List ℕ) (allowance : ℕ) (s₀ s : State) (low from count : ℕ) : Type 0 where
  pub sound : Sound C
  pub few : size C ≤ 1024
  pub falls : F ≡ by_finish C
  pub added : Added s₀ s
  pub holds : Holds C s
  pub bottom : low ≤ size C
  pub above : (j : ℕ) → low ≤ j → j < size C → open_write C.writer s.placed j ≡ false
  pub skipped : Skipped F s.placed from
  pub small : count ≤ allowance
  pub ahead : Says C (λ H. Ahead H s count)

pub falls_under : (C : Cols) {F : List ℕ} → F ≡ by_finish C → (i : ℕ) → i < length F → get_or F i 0 < size C
falls_under C {F} q i h = (falls_in C (member (get_d_in F 0 i h))).0
  where
    member : {j : ℕ} → In j F → In j (by_finish C)
    member m = rw q at m

pub walk_none : {C : Cols} → Sound C → size C ≤ 1024 → {F : List ℕ} → F ≡ by_finish C → (allowance : ℕ) (marks cells : List ℕ) → size C ≤ length marks
    → ((j : ℕ) → j < length marks → is_free marks j ≡ true) → size C ≤ length cells
    → Walking C F allowance (state_of marks cells (length cells) (size C)) (state_of marks cells (length cells) (size C)) (size C) 0 0
walk_none {C} p n q allowance marks cells m c z =
    record {
      sound = p;
      few = n;
      falls = q;
      added = added_none _;
      holds = begun_holds C p n marks cells m c z;
      bottom = omega arith;
      above = λ j a b. absurd (omega arith);
      skipped = record { high = omega arith; gone = λ i a. absurd (omega arith) };
      small = omega arith;
      ahead =
          λ H f. record {
            fuel = write_count H;
            enough = rw (begun_left C p n marks cells m c z H f) (omega arith);
            whole = rw (begun_left C p n marks cells m c z H f, begun_laid C p n marks cells m c z) (sym (follow_none _));
          };
    }

-- a state whose top is lowered to what is left is the same to the walk
pub walk_lower : {C : Cols} {F : List ℕ} {allowance : ℕ} {s₀ s : State} {low from count : ℕ} → Walking C F allowance s₀ s low from count → (top : ℕ) → top ≡ latest (is_free s.placed) s.top
    → Walking C F allowance s₀ (state_of s.placed s.order s.at top) low from count
walk_lower {C} {s₀ = s₀} {s = s} g top e =
    record {
      sound = g.sound;
      few = g.few;
      falls = g.falls;
      added = added_top s₀.top top g.added;
      holds =
          record {
            ready =
                record {
                  size = r.size;
                  within = omega (arith, r.within, under);
                  marks = r.marks;
                  high = r.high;
                  room = omega (arith, r.room, ap length same);
                  above = λ j a b. shut j (below j s.top) a b;
                };
            closed = g.holds.closed;
          };
      bottom = g.bottom;
      above = g.above;
      skipped = g.skipped;
      small = g.small;
      ahead =
          λ H f. record {
            fuel = (g.ahead H f).fuel;
            enough = rw (sym same) (g.ahead H f).enough;
            whole = rw (sym same) (g.ahead H f).whole;
          };
    }
  where
    r : Ready (size C) s
    r = g.holds.ready

    under : top ≤ s.top
    under = omega (arith, e, latest_le (is_free s.placed) s.top)

    none : (j : ℕ) → top ≤ j → j < s.top → is_free s.placed j ≡ false
    none j a b = latest_none (is_free s.placed) s.top j (omega (arith, e)) b

    same : upto (is_free s.placed) s.top ≡ upto (is_free s.placed) top
    same = upto_stop (is_free s.placed) top s.top under none

    shut : (j : ℕ) → (j < s.top) ⊎ (s.top ≤ j) → top ≤ j → j < size C → is_free s.placed j ≡ false
    shut j (inl a) b c = none j b a
    shut j (inr a) b c = r.above j a c

module _ {C : Cols} {F : List ℕ} {allowance : ℕ} {s₀ s : State} {low from count : ℕ} (g : Walking C F allowance s₀ s low from count) (next : ℕ) (e : next ≡ latest (open_write C.writer s.placed) low) where
  abbrev p : Sound C
  p = g.sound

  abbrev O : ℕ → Bool
  O = open_write C.writer s.placed

  all_latest : latest O (size C) ≡ next
  all_latest = latest_stop O low (size C) g.bottom g.above ∙ sym e

  pub walk_low : next ≤ size C
  walk_low = omega (arith, latest_le O (size C), all_latest)

  -- no write is left, so nothing is
  pub walk_ends : next ≡ 0 → (to : ℕ) → to ≡ length s.order → Searched C allowance (λ H. walked (lbt H)) s.order (Fresh s.at to count)
  walk_ends z to d = is_fresh {from = s.at} {to = to} g.small (omega (arith, g.holds.ready.high)) (omega arith) (λ H f. says H f)
    where
      nothing : (j : ℕ) → j < s.top → is_free s.placed j ≡ false
      nothing j l = go (is_free s.placed j) refl
        where
          i : j < size C
          i = omega (arith, g.holds.ready.within)

          go : (b : Bool) → is_free s.placed j ≡ b → b ≡ false
          go false q = refl
          go true q =
              absurd
              (both {b = O (wr C j)} (rw (g.holds.closed j i q) (eq-eqb _ _ (p.writes j i)))
              (latest_none O (size C) (wr C j) (omega (arith, all_latest)) (p.shape.writers j i)))

      empty : left s ≡ []
      empty = upto_empty (is_free s.placed) s.top nothing

      all_laid : between s.order s.at to ≡ laid s
      all_laid = take_all (to - s.at) (laid s) (omega (arith, length-drop s.at s.order))

      says : (H : List Op) → Of C H → walked (lbt H) ≡ record { decision = order_of (ops H (between s.order s.at to)); trials = count }
      says H f =
          ap walked ((g.ahead H f).whole ∙ ap (λ (l : List ℕ). follow count (ops H (laid s)) (walk (g.ahead H f).fuel (ops H l))) empty ∙ follow_end count (g.ahead H f).fuel (ops H (laid s)))
          ∙ walked_fresh count (ops H (laid s))
          ∙ ap (λ (l : List ℕ). record { decision = order_of (ops H l); trials = count }) (sym all_laid)

  module _ (z : next ≡ 0 → ⊥) where
    pub walk_lowest : Lowest C s next
    walk_lowest = record { some = omega arith; last = all_latest }

    last_whose : Whose C.writer s (next - 1)
    last_whose = go (is_free s.placed (next - 1)) refl (rw all_latest at (latest_at O (size C) (omega (arith, all_latest))))
      where
        go : (b : Bool) → is_free s.placed (next - 1) ≡ b → cond b (is_own C.writer (next - 1)) false ≡ true → Whose C.writer s (next - 1)
        go true q k = record { inside = omega (arith, walk_low, p.shape.long); write = eqb-true _ _ k; free = q }
        go false q k = absurd (both k refl)

    module _ (H : List Op) (f : Of C H) where
      abbrev k : ℕ
      k = (g.ahead H f).fuel

      last_write : Write (ops H (left s)) (op H (next - 1))
      last_write = whose_write C p s g.holds H f (next - 1) last_whose

      one : (r : Round) → round_of H s ≡ r → lbt H ≡ follow count (ops H (laid s)) (elim r [ lost t ↦ stale t | won t l o ↦ follow t o (walk (k - 1) l) ])
      one r y =
          let d : k ≡ suc (k - 1) = omega (arith, (g.ahead H f).enough, some_length (writes_in _ last_write)) in
          (g.ahead H f).whole
          ∙ ap (λ (m : ℕ). follow count (ops H (laid s)) (walk m (ops H (left s)))) d
          ∙ ap (follow count (ops H (laid s))) (walk_one (k - 1) (ops H (left s)) (some_length last_write.mem) r y)

      total : trials (lbt H) ≡ count + trials (elim (round_of H s) [ lost t ↦ stale t | won t l o ↦ follow t o (walk (k - 1) l) ])
      total = ap trials (one (round_of H s) refl) ∙ follow_trials count (ops H (laid s)) _

      gone : (t : ℕ) → round_of H s ≡ lost t → lbt H ≡ stale (count + t)
      unfolding follow
      gone t y = one (lost t) y

      -- a round that is won
      onward : (t w : ℕ) (r : State) → Whose C.writer s w → (x : Wins C w s r) → round_of H s ≡ won t (ops H (left r)) (ops H x.added.ops) → (m : ℕ) → m ≡ count + t
          → Ahead H r m
      onward t w r i x y m a =
          record {
            fuel = k - 1;
            enough = omega (arith, (g.ahead H f).enough, less);
            whole = one _ y ∙ follow_twice count t (ops H (laid s)) (ops H x.added.ops) _
                ∙ ap (λ (l : List Op). follow (count + t) l (walk (k - 1) (ops H (left r)))) (sym (map_append (op H) x.added.ops (laid s)) ∙ ap (ops H) x.added.lays)
                ∙ ap (λ (c : ℕ). follow c (ops H (laid r)) (walk (k - 1) (ops H (left r)))) (sym a);
          }
        where
          write : Write (ops H (left s)) (op H w)
          write = whose_write C p s g.holds H f w i

          less : write_count (ops H (left r)) < write_count (ops H (left s))
          less =
              won_fewer (op H w) (ops H (left s)) (ops H (left r)) (ops H x.added.ops) write (epoch_of H s w) (x.whole H f)
              (epoch? (write_count (ops H (left s))) (op H w) (ops H (left s)) write (omega arith))

    module _ {marks cells : List ℕ} where
      pub walk_stale : {t : ℕ} → Turned C s count allowance marks cells (Lost t) → (places : List ℕ) → Searched C allowance (λ H. walked (lbt H)) places (Stale t)
      walk_stale (is_lost n k a b y) places =
          is_stale b (λ H f. ap walked (gone H f n (y H f)) ∙ walked_stale (count + n) ∙ ap (λ (c : ℕ). record { decision = none; trials = c }) (sym a))

      pub walk_spent : Turned C s count allowance marks cells TurnSpent → (places : List ℕ) → Searched C allowance (λ H. walked (lbt H)) places Spent
      walk_spent (is_spent k b) places = over (λ H f. omega (arith, b H f, total H f, round_trials ((g.ahead H f).fuel - 1) (round_of H s)))

      pub walk_on : {front : Front} {t : ℕ} → Turned C s count allowance marks cells (Won front t) → (i : ℕ) → Skipped F s.placed i
          → (front.at < s.at) × Walking C F allowance s₀ (state_of marks cells front.at front.top) next i t
      walk_on {front} {t} (is_won n w a b i x y) u v = (
        x.less,
        record {
          sound = g.sound;
          few = g.few;
          falls = g.falls;
          added = added_twice g.added x.added;
          holds = x.holds;
          bottom = walk_low;
          above = λ j l m. closes j m (latest_none O (size C) j (omega (arith, all_latest)) m);
          skipped = record { high = v.high; gone = λ i a. shuts (get_or F i 0) (falls_under C g.falls i (omega (arith, v.high))) (v.gone i a) };
          small = b;
          ahead = λ H f. onward H f n w (state_of marks cells front.at front.top) i x (y H f) t a;
        },
      )
        where
          shuts : (j : ℕ) → j < size C → is_free s.placed j ≡ false → is_free marks j ≡ false
          shuts j m c = shut (is_free marks j) refl
            where
              shut : (b : Bool) → is_free marks j ≡ b → b ≡ false
              shut false y = refl
              shut true y = absurd (both (added_shrinks x.added (size C) j m y) c)

          closes : (j : ℕ) → j < size C → O j ≡ false → open_write C.writer marks j ≡ false
          closes j m c = shut (is_free marks j) refl
            where
              shut : (b : Bool) → is_free marks j ≡ b → cond b (is_own C.writer j) false ≡ false
              shut false y = refl
              shut true y = rw (added_shrinks x.added (size C) j m y) at c
