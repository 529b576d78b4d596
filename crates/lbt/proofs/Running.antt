-- The loop of an epoch, steps from one write to the write that it asks for; and the loop that clears what a failed one marked.
-- Assumes nothing.
use Prim.Native.Nat.{ℕ, suc, ◌+◌, ◌-◌, ◌≤◌, ◌<◌}
use mathlib.Core.Path.{◌≡◌, refl, ap, sym, ◌∙◌}
use mathlib.Core.Bool.{true, false}
use mathlib.Core.List.{List, [], ◌∷◌, ◌++◌, append_assoc, append-nil, Memᴰ as In}
use native.Mathlib.Omega.{arith}
use native.Mathlib.Numerals.{add-one}
use lib.ListN.{length, get_or, drop, set, length-set, drop_of_length-le}
use lib.Seq.{drop-cons}
use Rattle.std.specs.Prelude.{None, Some}
use Rattle.lists.proofs.Tests.{both}
use Rattle.lists.proofs.Counts.{some_length}
use Rattle.lists.proofs.Images.{map_append, get_d_in}
use Rattle.history.specs.declared.Op.{Op}
use Rattle.methods.specs.Place.{rest, segment, write_count}
use Rattle.methods.specs.Lbt.{Step, bad, done, next, step, Epoch, failed, placed, behind, epoch}
use Rattle.witnesses.proofs.Parts.{writes_in, fewer}
use Rattle.positions.specs.Columns.{Cols, Sound, op, ops, Of, Says}
use Rattle.placing.specs.States.{State, Tried, left, Holds, Whose}
use Rattle.placing.specs.Added.{marks_with, Added}
use Rattle.placing.specs.Searched.{between}
use Rattle.placing.specs.Stepped.{Went, Stepped, fails, goes}
use Rattle.placing.proofs.Lates.{whose_write}
use Rattle.placing.proofs.Adding.{marks_first, added_none, added_marks, added_twice, added_part, added_undone}
use Rattle.lbt.specs.Epochs.{epoch_of, Ran, loses, wins}
use Rattle.lbt.proofs.Answers.{step_bad, step_done, step_next}

-- the invariant of clearing: the rest of the marks cleared gives what all of the old ones cleared give
pub record Clearing (listed old : List ℕ) (i : ℕ) (marks : List ℕ) : Type 0 where
  pub long : length marks ≡ length old
  pub whole : marks_with 0 marks (drop i listed) ≡ marks_with 0 old listed

pub clear_on : (listed old : List ℕ) (i : ℕ) (marks : List ℕ) → i < length listed → Clearing listed old i marks → Clearing listed old (i + 1) (set marks (get_or listed i 0) 0)
clear_on listed old i marks l g =
    record {
      long = length-set marks (get_or listed i 0) 0 ∙ g.long;
      whole = sym (marks_first 0 marks (get_or listed i 0) (drop (i + 1) listed)) ∙ ap (marks_with 0 marks) (sym next) ∙ g.whole;
    }
  where
    next : drop i listed ≡ get_or listed i 0 ∷ drop (i + 1) listed
    next = rw (add-one i) (drop-cons listed i 0 l)

pub clear_end : (listed old : List ℕ) (i : ℕ) (marks : List ℕ) → length listed ≤ i → Clearing listed old i marks → marks ≡ marks_with 0 old listed
unfolding marks_with
clear_end listed old i marks l g = sym (ap (marks_with 0 marks) (drop_of_length-le listed l)) ∙ g.whole

behind_nil : (e : Epoch) → behind [] e ≡ e
unfolding behind
behind_nil failed = refl
behind_nil (placed l o) = rw (append-nil o)

behind_twice : (a b : List Op) (e : Epoch) → behind a (behind b e) ≡ behind (b ++ a) e
unfolding behind
behind_twice a b failed = refl
behind_twice a b (placed l o) = rw (append_assoc o b a)

-- an epoch by the answer of its first step
abbrev onwards : ℕ → Op → List Op → Step → Epoch
onwards n v L r = elim r [ bad ↦ failed | done ↦ placed (rest v L) (segment v L) | next x ↦ behind (segment v L) (epoch n x (rest v L)) ]

stepped : (m n : ℕ) → m ≡ suc n → (v : Op) (L : List Op) (r : Step) → step v L ≡ r → epoch m v L ≡ onwards n v L r
unfolding epoch
stepped m n e v L r q = rw (e, q, epoch)

-- the epoch of w in s is the one of v in t, in front of what was laid
pub record Onward (H : List Op) (w : ℕ) (s : State) (v : ℕ) (t : State) (order : List ℕ) : Type 0 where
  pub fuel : ℕ
  pub enough : write_count (ops H (left t)) ≤ fuel
  pub whole : epoch_of H s w ≡ behind (ops H order) (epoch fuel (op H v) (ops H (left t)))

-- the invariant: from w in s the epoch has come to v in t
pub record Running (C : Cols) (w : ℕ) (s : State) (v : ℕ) (t : State) : Type 0 where
  pub sound : Sound C
  pub added : Added s t
  pub holds : Holds C t
  pub whose : Whose C.writer t v
  pub onward : Says C (λ H. Onward H w s v t added.ops)

pub run_none : {C : Cols} {w : ℕ} {s : State} → Sound C → Holds C s → Whose C.writer s w → Running C w s w s
unfolding added_none
run_none {s = s} p h k =
    record {
      sound = p;
      added = added_none s;
      holds = h;
      whose = k;
      onward = λ H f. record { fuel = write_count (ops H (left s)); enough = omega arith; whole = sym (behind_nil _) };
    }

module _ {C : Cols} {w : ℕ} {s : State} {v : ℕ} {t : State} (g : Running C w s v t) where
  abbrev p : Sound C
  p = g.sound

  module _ (H : List Op) (f : Of C H) where
    abbrev o : Onward H w s v t g.added.ops
    o = g.onward H f

    some : 0 < o.fuel
    some = omega (arith, o.enough, some_length (writes_in _ (whose_write C p t g.holds H f v g.whose)))

    -- one step of the epoch
    one : (r : Step) → step (op H v) (ops H (left t)) ≡ r → epoch_of H s w ≡ behind (ops H g.added.ops) (onwards (o.fuel - 1) (op H v) (ops H (left t)) r)
    one r q =
        o.whole ∙ ap (behind (ops H g.added.ops)) (stepped o.fuel (o.fuel - 1) (omega (arith, some)) (op H v) (ops H (left t)) r q)

    -- what a step puts in front
    front : (r : Tried) (x : Went C v t r) → segment (op H v) (ops H (left t)) ++ ops H g.added.ops ≡ ops H (x.added.ops ++ g.added.ops)
    front r x = ap (λ (l : List Op). l ++ ops H g.added.ops) (x.segments H f) ∙ sym (map_append (op H) x.added.ops g.added.ops)

  -- what the epoch has placed after a step
  run_added : (r : Tried) → Stepped C v t r → Added s r.state
  run_added r (fails e a b) = added_twice g.added a
  run_added r (goes e x) = added_twice g.added x.added

  -- the part of the order that was placed, whose marks are cleared then
  abbrev part : Tried → List ℕ
  part r = between r.state.order r.state.at s.at

  pub run_marked : (r : Tried) → Stepped C v t r → (to : ℕ) → to ≡ s.at
      → (i : ℕ) → i < length (between r.state.order r.state.at to) → get_or (between r.state.order r.state.at to) i 0 < length r.state.placed
  run_marked r x to e = rw e (λ i l. omega (arith, member (get_or (part r) i 0) (get_d_in (part r) 0 i l), added_marks (run_added r x)))
    where
      member : (j : ℕ) → In j (part r) → j < length s.placed
      member j m = (run_added r x).inside j (rw (added_part (run_added r x)) at m)

  pub run_fails : (r : Tried) → Stepped C v t r → r.failed ≡ true → (to : ℕ) → to ≡ s.at
      → (marks : List ℕ) → marks ≡ marks_with 0 r.state.placed (between r.state.order r.state.at to) → Ran C w s marks r.state.order None
  unfolding behind
  run_fails r (fails e a b) y to d marks q =
      loses (rw (q, d) (added_undone (added_twice g.added a))) (λ H f. one H f bad (step_bad C p v t g.holds g.whose H f b))
  run_fails r (goes e x) y to d marks q = absurd (both y e)

  pub run_ends : (r : Tried) → Stepped C v t r → r.failed ≡ false → r.asked ≡ 0 → Ran C w s r.state.placed r.state.order (Some (record { at = r.state.at; top = r.state.top }))
  unfolding behind added_twice
  run_ends r (fails e a b) y z = absurd (both e y)
  run_ends r (goes e x) y z =
      wins
      (record {
        added = added_twice g.added x.added;
        holds = x.holds;
        less = omega (arith, x.less, g.added.place);
        whole = λ H f. one H f done (step_done C p v t g.holds g.whose H f r.asked z x.told)
            ∙ ap (λ (l : List Op). placed l (segment (op H v) (ops H (left t)) ++ ops H g.added.ops)) (x.leaves H f)
            ∙ ap (placed (ops H (left r.state))) (front H f r x);
      })

  pub run_on : (r : Tried) → Stepped C v t r → r.failed ≡ false → (x : ℕ) → r.asked ≡ x + 1 → (r.state.at < t.at) × Running C w s x r.state
  unfolding added_twice
  run_on r (fails e a b) y u z = absurd (both e y)
  run_on r (goes e x) y u z = (
    x.less,
    record {
      sound = p;
      added = added_twice g.added x.added;
      holds = x.holds;
      whose = x.next u z;
      onward =
          λ H f. record {
            fuel = (g.onward H f).fuel - 1;
            enough =
                omega (
                  arith,
                  (g.onward H f).enough,
                  some H f,
                  fewer (op H v) (ops H (left t)) (whose_write C p t g.holds H f v g.whose),
                  ap write_count (x.leaves H f),
                );
            whole = one H f (next (op H u)) (step_next C p v t g.holds g.whose H f r.asked u z x.told)
                ∙ behind_twice (ops H g.added.ops) (segment (op H v) (ops H (left t))) _
                ∙ ap (λ (l : List Op). behind l (epoch ((g.onward H f).fuel - 1) (op H u) (rest (op H v) (ops H (left t))))) (front H f r x)
                ∙ ap (λ (l : List Op). behind (ops H (x.added.ops ++ g.added.ops)) (epoch ((g.onward H f).fuel - 1) (op H u) l)) (x.leaves H f);
          };
    },
  )
