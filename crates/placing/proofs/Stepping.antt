-- A step of the code is the placing of a write: what the scan and the chain leave and lay is what the definitions leave and place.
-- Assumes nothing.
use Prim.Native.Nat.{ℕ, ◌+◌, ◌≤◌, ◌<◌}
use mathlib.Core.Path.{◌≡◌, refl, ap, sym, ◌∙◌}
use mathlib.Core.Bool.{Bool, true, false, not, cond}
use mathlib.Core.Logic.{◌⊎◌, inl, inr, ◌≢◌}
use mathlib.Core.List.{List, ◌∷◌, ◌++◌, append_assoc}
use native.Mathlib.Omega.{arith}
use lib.ListN.{length, get_or, length-append, length-drop}
use lib.Dec.{ltb, eqb}
use borrow.Author.Tests.{ltb-true, lt-ltb, eqb-false, eq-eqb, ne_eqb, not-true}
use Rattle.lists.specs.Lists.{keep}
use Rattle.lists.proofs.Tests.{both}
use Rattle.lists.proofs.Images.{map_append}
use Rattle.history.specs.declared.Op.{Op}
use Rattle.methods.specs.Prepared.{no_write, same_value}
use Rattle.methods.specs.Place.{other_value, starts_after, starts_by, later, rest, reads, segment}
use Rattle.positions.specs.Places.{upto, and}
use Rattle.positions.specs.Columns.{Cols, size, wr, is_read, mine, Sound, op, ops, Of}
use Rattle.positions.proofs.Places.{below, upto_ext, upto_stop, upto_parts, upto_some, no_cond, cond_assoc, cond_both}
use Rattle.positions.proofs.Ops.{keep_ops}
use Rattle.positions.proofs.OfHistory.{size_is, start_is, finish_is, own_is, same_is}
use Rattle.placing.specs.States.{State, Tried, is_free, left, laid, state_of, Ready, Holds, Whose}
use Rattle.placing.specs.Added.{Added}
use Rattle.placing.specs.Scanned.{late, Asking, Passed, Scanned, broke, passed}
use Rattle.placing.specs.Owned.{Mine, Owned}
use Rattle.placing.specs.Stepped.{ending, Stepped, fails, goes}
use Rattle.placing.proofs.Adding.{added_marks, added_twice, added_as}

-- a state is ready with any higher top, for nothing is left there
pub ready_whole : {n : ℕ} {s : State} → Ready n s → Ready n (state_of s.placed s.order s.at n)
ready_whole {n} {s} r =
    record {
      size = r.size;
      within = omega arith;
      marks = r.marks;
      high = r.high;
      room = omega (arith, r.room, ap length (upto_stop (is_free s.placed) s.top n r.within r.above));
      above = λ j a b. absurd (omega arith);
    }

module _ (C : Cols) (p : Sound C) (w : ℕ) (s : State) (h : Holds C s) (k : Whose C.writer s w) where
  abbrev bound : ℕ
  bound = ending C w

  abbrev P : ℕ → Bool
  P = is_free s.placed

  abbrev Q : ℕ → Bool
  Q = late C.start bound

  abbrev not_late : ℕ → Bool
  not_late j = not (Q j)

  abbrev not_mine : ℕ → Bool
  not_mine j = not (mine C.writer w j)

  -- the reads of w that are not late, and what is late
  abbrev owned : List ℕ
  owned = upto (and (and (and P not_late) (mine C.writer w)) (is_read C.writer)) s.top

  abbrev lates : List ℕ
  lates = upto (and P Q) s.top

  long : length C.writer ≡ size C
  long = p.shape.long

  free_under : (j : ℕ) → j < size C → P j ≡ true → j < s.top
  free_under j l e = go (below j s.top)
    where
      go : (j < s.top) ⊎ (s.top ≤ j) → j < s.top
      go (inl a) = a
      go (inr a) = absurd (both e (h.ready.above j a l))

  -- After the scan.
  module _ (t : State) (asked : ℕ) (g : Passed C.start C.writer w bound s t asked) where
    scan_above : (j : ℕ) → t.top ≤ j → j < size C → is_free t.placed j ≡ false
    scan_above j a l = go (below j s.top)
      where
        go : (j < s.top) ⊎ (s.top ≤ j) → is_free t.placed j ≡ false
        go (inl b) = g.free j l ∙ rw (lt-ltb bound (get_or C.start j 0) (g.over j a b)) (no_cond (P j))
        go (inr b) = g.free j l ∙ rw (h.ready.above j b l) refl

    scan_left : left t ≡ upto (and P not_late) s.top
    scan_left =
        sym (upto_stop (is_free t.placed) t.top s.top g.within (λ j a b. scan_above j a (omega (arith, h.ready.within))))
        ∙ upto_ext s.top (λ j a. g.free j (omega (arith, h.ready.within)))

    scan_ready : Ready (size C) t
    scan_ready =
        record {
          size = h.ready.size;
          within = omega (arith, g.within, h.ready.within);
          marks = omega (arith, added_marks g.added, h.ready.marks);
          high = omega (arith, g.added.cells, g.added.place, h.ready.high);
          room =
              omega (
                arith,
                upto_parts P Q s.top,
                ap length scan_left,
                simp (length-append, length-drop) at (ap length g.order),
                h.ready.room,
                h.ready.high,
                g.added.cells,
                g.added.place,
              );
          above = scan_above;
        }

    -- w is not late, for a write that is late fails
    not_late_lem : (j : ℕ) → j < size C → P j ≡ true → wr C j ≡ j → Q j ≡ false
    not_late_lem j l e q = go (Q j) refl
      where
        go : (b : Bool) → Q j ≡ b → b ≡ false
        go false a = refl
        go true a = absurd ((g.kinds j (record { from = omega arith; under = free_under j l e; after = ltb-true _ _ a; free = e })).0 q)

    scan_whose : Whose C.writer t w
    scan_whose =
        let i : w < size C = omega (arith, k.inside, long) in
        record {
          inside = k.inside;
          write = k.write;
          free = g.free w i ∙ rw (k.free, not_late_lem w i k.free k.write);
        }

    -- After w and its reads.
    module _ (r : State) (o : Owned C.writer w t r) where
      end_free : (j : ℕ) → j < size C → is_free r.placed j ≡ and (and P not_late) not_mine j
      end_free j l = o.free j (omega (arith, long)) ∙ rw (g.free j l)

      end_none : (j : ℕ) → t.top ≤ j → j < size C → is_free r.placed j ≡ false
      end_none j a l = o.free j (omega (arith, long)) ∙ rw (scan_above j a l)

      end_left : left r ≡ upto (and (and P not_late) not_mine) s.top
      end_left =
          rw o.top
          (sym (upto_stop (is_free r.placed) t.top s.top g.within (λ j a b. end_none j a (omega (arith, h.ready.within))))
          ∙ upto_ext s.top (λ j a. end_free j (omega (arith, h.ready.within))))

      mine_left : upto (Mine C.writer w t) (length C.writer) ≡ upto (and (and (and P not_late) (mine C.writer w)) (is_read C.writer)) s.top
      mine_left =
          upto_stop (Mine C.writer w t) s.top (length C.writer) (omega (arith, h.ready.within, long))
          (λ j a b. let l : j < size C = omega (arith, long) in rw (g.free j l, h.ready.above j a l))
          ∙ upto_ext s.top (λ j a. rw (g.free j (omega (arith, h.ready.within))) (cond_assoc (and P not_late j) _ _))

      end_laid : laid r ≡ w ∷ (owned ++ (lates ++ laid s))
      end_laid = o.order ∙ rw (mine_left, g.order)

      end_lays : (w ∷ (owned ++ lates)) ++ laid s ≡ laid r
      end_lays = ap (λ (l : List ℕ). w ∷ l) (append_assoc owned lates (laid s)) ∙ sym end_laid

      end_ready : Ready (size C) r
      end_ready =
          record {
            size = h.ready.size;
            within = omega (arith, scan_ready.within, o.top);
            marks = omega (arith, added_marks o.added, scan_ready.marks);
            high = omega (arith, o.added.cells, o.high, scan_ready.high);
            room =
                omega (
                  arith,
                  upto_parts (and P not_late) (mine C.writer w) s.top,
                  upto_parts (and (and P not_late) (mine C.writer w)) (is_read C.writer) s.top,
                  some,
                  ap length end_left,
                  ap length scan_left,
                  ap length mine_left,
                  simp (length-append, length-drop) at (ap length o.order),
                  scan_ready.room,
                  o.high,
                  o.added.cells,
                  scan_ready.high,
                );
            above = λ j a l. end_none j (omega (arith, o.top)) l;
          }
        where
          some : 0 < length (upto (and (and (and P not_late) (mine C.writer w)) (λ j. not (is_read C.writer j))) s.top)
          some =
              let i : w < size C = omega (arith, k.inside, long) in
              upto_some _ s.top w (free_under w i k.free) (rw (k.free, not_late_lem w i k.free k.write, k.write, eq-eqb w w refl))

      -- a write of another value than w's stays
      end_write : (v : ℕ) → v < size C → P v ≡ true → wr C v ≡ v → v ≢ w → is_free r.placed v ≡ true
      end_write v l e q d = end_free v l ∙ rw (e, not_late_lem v l e q, q, ne_eqb v w d)

      end_holds : Holds C r
      end_holds = record { ready = end_ready; closed = λ j l e. go j l (cond_both _ _ (sym (end_free j l) ∙ e)) }
        where
          go : (j : ℕ) → j < size C → (cond (P j) (not_late j) false ≡ true) × (not_mine j ≡ true) → is_free r.placed (wr C j) ≡ true
          go j l (a, b) =
              end_write (wr C j) (p.shape.writers j l) (h.closed j l (cond_both _ _ a).0) (p.writes j l) (eqb-false _ _ (not-true _ b))

      -- the tests of the definitions, by position
      module _ (H : List Op) (f : Of C H) where
        in_history : (j : ℕ) → j < size C → j < length H
        in_history j l = omega (arith, size_is f)

        w_in : w < length H
        w_in = in_history w (omega (arith, k.inside, long))

        late_is : (j : ℕ) → j < size C → starts_after (op H w) (op H j) ≡ Q j
        late_is j l = ap (λ (x : ℕ). ltb x (op H j).start) (finish_is f w w_in) ∙ ap (λ (x : ℕ). ltb bound x) (start_is f j (in_history j l))

        mine_is : (j : ℕ) → j < size C → same_value (op H w) (op H j) ≡ mine C.writer w j
        mine_is j l = same_is f w j w_in (in_history j l) ∙ ap (λ (x : ℕ). eqb (wr C j) x) k.write

        read_is : (j : ℕ) → j < size C → no_write (op H j) ≡ is_read C.writer j
        read_is j l = ap not (own_is f j (in_history j l))

        low : (j : ℕ) → j < s.top → j < size C
        low j l = omega (arith, h.ready.within)

        early_is : keep (starts_by (op H w)) (ops H (left s)) ≡ ops H (upto (and P not_late) s.top)
        early_is =
            keep_ops H P s.top (starts_by (op H w))
            ∙ ap (ops H) (upto_ext s.top (λ j l. ap (λ (b : Bool). cond (P j) (not b) false) (late_is j (low j l))))

        end_rest : rest (op H w) (ops H (left s)) ≡ ops H (left r)
        end_rest =
            ap (keep (other_value (op H w))) early_is
            ∙ keep_ops H (and P not_late) s.top (other_value (op H w))
            ∙ ap (ops H) (upto_ext s.top (λ j l. ap (λ (b : Bool). cond (and P not_late j) (not b) false) (mine_is j (low j l))) ∙ sym end_left)

        end_segment : segment (op H w) (ops H (left s)) ≡ ops H (w ∷ (owned ++ lates))
        end_segment =
            ap (λ (l : List Op). op H w ∷ l)
            (ap (λ (l : List Op). l ++ later (op H w) (ops H (left s))) its_reads
            ∙ ap (λ (l : List Op). ops H owned ++ l) its_later
            ∙ sym (map_append (op H) owned lates))
          where
            its_reads : reads (op H w) (ops H (left s)) ≡ ops H owned
            its_reads =
                ap (λ (l : List Op). keep no_write (keep (same_value (op H w)) l)) early_is
                ∙ ap (keep no_write)
                (keep_ops H (and P not_late) s.top (same_value (op H w))
                ∙ ap (ops H) (upto_ext s.top (λ j l. ap (λ (b : Bool). cond (and P not_late j) b false) (mine_is j (low j l)))))
                ∙ keep_ops H (and (and P not_late) (mine C.writer w)) s.top no_write
                ∙ ap (ops H) (upto_ext s.top (λ j l. ap (λ (b : Bool). cond (and (and P not_late) (mine C.writer w) j) b false) (read_is j (low j l))))

            its_later : later (op H w) (ops H (left s)) ≡ ops H lates
            its_later =
                keep_ops H P s.top (starts_after (op H w)) ∙ ap (ops H) (upto_ext s.top (λ j l. ap (λ (b : Bool). cond (P j) b false) (late_is j (low j l))))

module _ (C : Cols) (p : Sound C) (w : ℕ) (s : State) (h : Holds C s) (k : Whose C.writer s w) where
  abbrev End : Tried → Type 0
  End q = Scanned C.start C.writer w (ending C w) s q

  pub step_fails : (q : Tried) → End q → q.failed ≡ true → Stepped C w s q
  step_fails q (broke e a b) f = fails f a b
  step_fails q (passed e g) f = absurd (both f e)

  -- what the chain requires after the scan, whose top plays no part in it
  abbrev Whole : State → State
  Whole t = state_of t.placed t.order t.at (length C.writer)

  pub after_ready : (q : Tried) → End q → q.failed ≡ false → Ready (length C.writer) (Whole q.state)
  after_ready q (broke e a b) f = absurd (both e f)
  after_ready q (passed e g) f = ready_whole {s = q.state} (rw p.shape.long (scan_ready C p w s h k q.state q.asked g))

  pub after_whose : (q : Tried) → End q → q.failed ≡ false → Whose C.writer (Whole q.state) w
  after_whose q (broke e a b) f = absurd (both e f)
  after_whose q (passed e g) f = let x = scan_whose C p w s h k q.state q.asked g in record { inside = x.inside; write = x.write; free = x.free }

  pub step_goes : (q : Tried) → End q → q.failed ≡ false → (r : State) → Owned C.writer w q.state r
      → Stepped C w s (record { state = r; asked = q.asked; failed = false })
  step_goes q (broke e a b) f r o = absurd (both e f)
  step_goes q (passed e g) f r o =
      goes refl
      (record {
        added = added;
        holds = end_holds C p w s h k q.state q.asked g r o;
        less = omega (arith, o.high, lower);
        keeps =
            λ v d y. record {
              inside = y.inside;
              write = y.write;
              free = end_write C p w s h k q.state q.asked g r o v (omega (arith, y.inside, p.shape.long)) y.free y.write d;
            };
        leaves = end_rest C p w s h k q.state q.asked g r o;
        segments = λ H f. end_segment C p w s h k q.state q.asked g r o H f ∙ ap (ops H) (sym all);
        told = record { kinds = g.kinds; asks = g.asks };
        next = λ v y. go v y g.asks;
      })
    where
      added : Added s r
      added = added_twice g.added o.added

      -- what was added is w, its reads, and what is late
      all : added.ops ≡ w ∷ (owned C p w s h k ++ lates C p w s h k)
      all = added_as added _ (end_lays C p w s h k q.state q.asked g r o)

      lower : q.state.at ≤ s.at
      lower = omega (arith, g.added.place)

      go : (v : ℕ) → q.asked ≡ v + 1 → Asking C.start C.writer w (ending C w) s 0 q.asked → Whose C.writer r v
      go v y (inl z) = absurd (omega arith)
      go v y (inr (j, a)) =
          let l : j < size C = omega (arith, a.met.under, h.ready.within) in
          let i : v ≡ wr C j = omega (arith, a.name) in
          rw i
          (record {
            inside = omega (arith, p.shape.writers j l, p.shape.long);
            write = p.writes j l;
            free = end_write C p w s h k q.state q.asked g r o (wr C j) (p.shape.writers j l) (h.closed j l a.met.free) (p.writes j l) a.other;
          })
