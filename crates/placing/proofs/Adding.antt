-- The laws of marks that are set and cleared again, and of what is added to a state (02, W-202).
-- Assumes nothing.
use Prim.Native.Nat.{ℕ, ◌+◌, ◌-◌, ◌≤◌, ◌<◌}
use mathlib.Core.Path.{◌≡◌, refl, ap, sym, ◌∙◌}
use mathlib.Core.Bool.{true, false}
use mathlib.Core.Logic.{◌⊎◌, inl, inr}
use mathlib.Core.List.Memᴰ.{append_cases as split-in}
use mathlib.Core.List.Memᴰ.{head as here}
use mathlib.Core.List.Memᴰ.{tail as there}
use mathlib.Core.List.{List, [], ◌∷◌, ◌++◌, append_assoc, Memᴰ as In}
use native.Mathlib.Omega.{arith}
use lib.ListN.{length, get_or, take, drop, set, length-append, length-set}
use lib.Seq.{get_or-set_same, get_or-set_other, set-get_or, set-set, set_comm, set_out, take_at, drop_at, drop-drop}
use lib.Dec.{eqb}
use borrow.Author.Tests.{eqb-true, eqb-false, eq-eqb}
use Rattle.lists.proofs.Tests.{test}
use Rattle.positions.specs.Places.{upto}
use Rattle.positions.specs.Columns.{Cols, wr}
use Rattle.positions.proofs.Places.{below}
use Rattle.placing.specs.States.{State, is_free, left, laid, state_of, Holds, Whose, Shrinks}
use Rattle.placing.specs.Added.{marks_with, Added, Kept}
use Rattle.placing.proofs.Moved.{laid_push}

-- Marks.

marks_length : (v : ℕ) (p l : List ℕ) → length (marks_with v p l) ≡ length p
unfolding marks_with
marks_length v p [] = refl
marks_length v p (j ∷ l) = length-set (marks_with v p l) j v ∙ marks_length v p l

set_swap : (p : List ℕ) (i j v : ℕ) → set (set p i v) j v ≡ set (set p j v) i v
set_swap p i j v = go (test (eqb i j))
  where
    go : (eqb i j ≡ true) ⊎ (eqb i j ≡ false) → set (set p i v) j v ≡ set (set p j v) i v
    go (inl e) = rw (eqb-true i j e)
    go (inr e) = set_comm p i j v v (eqb-false i j e)

-- whether one is marked before the others or after them
pub marks_first : (v : ℕ) (p : List ℕ) (j : ℕ) (l : List ℕ) → marks_with v p (j ∷ l) ≡ marks_with v (set p j v) l
unfolding marks_with
marks_first v p j [] = refl
marks_first v p j (i ∷ l) = set_swap (marks_with v p l) i j v ∙ ap (λ (q : List ℕ). set q i v) (marks_first v p j l)

pub marks_append : (v : ℕ) (p a b : List ℕ) → marks_with v p (a ++ b) ≡ marks_with v (marks_with v p b) a
unfolding marks_with
marks_append v p [] b = refl
marks_append v p (j ∷ a) b = ap (λ (q : List ℕ). set q j v) (marks_append v p a b)

-- each of the listed has the mark, and the others theirs
marks_in : (v : ℕ) (p l : List ℕ) (j : ℕ) → In j l → j < length p → get_or (marks_with v p l) j 0 ≡ v
unfolding marks_with
marks_in v p (i ∷ l) j (here e) h = let n : i < length (marks_with v p l) = omega (arith, marks_length v p l, e) in rw e (get_or-set_same (marks_with v p l) i v 0 n)
marks_in v p (i ∷ l) j (there m) h = go (test (eqb j i)) (marks_in v p l j m h)
  where
    go : (eqb j i ≡ true) ⊎ (eqb j i ≡ false) → get_or (marks_with v p l) j 0 ≡ v → get_or (set (marks_with v p l) i v) j 0 ≡ v
    go (inl d) k =
        let e : j ≡ i = eqb-true j i d in
        let n : i < length (marks_with v p l) = omega (arith, marks_length v p l) in
        rw e (get_or-set_same (marks_with v p l) i v 0 n)
    go (inr d) k = get_or-set_other (marks_with v p l) i j v 0 (eqb-false j i d) ∙ k
marks_in v p [] j x'' h = elim x'' [ ]

marks_out : (v : ℕ) (p l : List ℕ) (j : ℕ) → (In j l → ⊥) → get_or (marks_with v p l) j 0 ≡ get_or p j 0
unfolding marks_with
marks_out v p [] j n = refl
marks_out v p (i ∷ l) j n = get_or-set_other (marks_with v p l) i j v 0 (λ e. n (here e)) ∙ marks_out v p l j (λ m. n (there m))

-- what is free among more marks was free
marks_free : (p l : List ℕ) (j : ℕ) → get_or (marks_with 1 p l) j 0 ≡ 0 → get_or p j 0 ≡ 0
unfolding marks_with
marks_free p [] j e = e
marks_free p (i ∷ l) j e = marks_free p l j (go (test (eqb j i)) (below i (length (marks_with 1 p l))))
  where
    go : (eqb j i ≡ true) ⊎ (eqb j i ≡ false) → (i < length (marks_with 1 p l)) ⊎ (length (marks_with 1 p l) ≤ i) → get_or (marks_with 1 p l) j 0 ≡ 0
    go (inr d) b = sym (get_or-set_other (marks_with 1 p l) i j 1 0 (eqb-false j i d)) ∙ e
    go (inl d) (inr b) = ap (λ (q : List ℕ). get_or q j 0) (sym (set_out (marks_with 1 p l) i 1 b)) ∙ e
    go (inl d) (inl b) =
        let q : get_or (set (marks_with 1 p l) i 1) i 0 ≡ 1 = get_or-set_same (marks_with 1 p l) i 1 0 b in
        absurd (omega (arith, q, ap (λ (x : ℕ). get_or (set (marks_with 1 p l) i 1) x 0) (sym (eqb-true j i d)) ∙ e))

-- MARKS THAT WERE FREE, set and cleared: all is as it was
marks_undone : (p l : List ℕ) → ((j : ℕ) → In j l → get_or p j 0 ≡ 0) → marks_with 0 (marks_with 1 p l) l ≡ p
unfolding marks_with
marks_undone p [] h = refl
marks_undone p (j ∷ l) h =
    marks_first 0 (set (marks_with 1 p l) j 1) j l
    ∙ ap (λ (q : List ℕ). marks_with 0 q l) (set-set (marks_with 1 p l) j 1 0)
    ∙ sym (marks_first 0 (marks_with 1 p l) j l)
    ∙ ap (λ (q : List ℕ). set q j 0) (marks_undone p l (λ i m. h i (there m)))
    ∙ ap (λ (x : ℕ). set p j x) (sym (h j (here refl)))
    ∙ set-get_or p j 0

-- What is added.

unfoldable pub added_none : (s : State) → Added s s
unfolding marks_with
added_none s =
    record { ops = []; inside = λ j m. elim m [ ]; free = λ j m. elim m [ ]; marked = refl; cells = refl; place = omega arith; lays = refl }

-- the top plays no part in it
pub added_top : {s t : State} (m n : ℕ) → Added s t → Added (state_of s.placed s.order s.at m) (state_of t.placed t.order t.at n)
added_top m n a =
    record { ops = a.ops; inside = a.inside; free = a.free; marked = a.marked; cells = a.cells; place = a.place; lays = a.lays }

-- what was added is marked, and no other mark changes
pub added_in : {s t : State} (a : Added s t) (j : ℕ) → In j a.ops → get_or t.placed j 0 ≡ 1
added_in {s} a j m = ap (λ (q : List ℕ). get_or q j 0) a.marked ∙ marks_in 1 s.placed a.ops j m (a.inside j m)

pub added_out : {s t : State} (a : Added s t) (j : ℕ) → (In j a.ops → ⊥) → get_or t.placed j 0 ≡ get_or s.placed j 0
added_out {s} a j n = ap (λ (q : List ℕ). get_or q j 0) a.marked ∙ marks_out 1 s.placed a.ops j n

pub added_marks : {s t : State} → Added s t → length t.placed ≡ length s.placed
added_marks {s} a = ap length a.marked ∙ marks_length 1 s.placed a.ops

-- nothing is set free
pub added_shrinks : {s t : State} → Added s t → (n : ℕ) → Shrinks n s.placed t.placed
added_shrinks {s} {t} a n j l e =
    eq-eqb _ _ (marks_free s.placed a.ops j (ap (λ (q : List ℕ). get_or q j 0) (sym a.marked) ∙ eqb-true _ _ e))

-- one operation more
pub added_push : {s t : State} (j : ℕ) → j < length s.placed → is_free s.placed j ≡ true → 0 < t.at → t.at ≤ length t.order → Added s t
    → Added s (state_of (set t.placed j 1) (set t.order (t.at - 1) j) (t.at - 1) t.top)
unfolding marks_with
added_push {s} {t} j i f h k a =
    record {
      ops = j ∷ a.ops;
      inside = insides;
      free = frees;
      marked = ap (λ (q : List ℕ). set q j 1) a.marked;
      cells = length-set t.order (t.at - 1) j ∙ a.cells;
      place = omega (arith, a.place);
      lays = ap (λ (l : List ℕ). j ∷ l) a.lays ∙ sym (laid_push t.order t.at j h k);
    }
  where
    insides : (x : ℕ) → In x (j ∷ a.ops) → x < length s.placed
    insides x (here e) = rw e i
    insides x (there m) = a.inside x m

    frees : (x : ℕ) → In x (j ∷ a.ops) → is_free s.placed x ≡ true
    frees x (here e) = rw e f
    frees x (there m) = a.free x m

-- first to t, and then to r
unfoldable pub added_twice : {s t r : State} → Added s t → Added t r → Added s r
added_twice {s} {t} {r} a b =
    record {
      ops = b.ops ++ a.ops;
      inside = λ j m. insides j (split-in b.ops m);
      free = λ j m. frees j (split-in b.ops m);
      marked = b.marked ∙ ap (λ (q : List ℕ). marks_with 1 q b.ops) a.marked ∙ sym (marks_append 1 s.placed b.ops a.ops);
      cells = b.cells ∙ a.cells;
      place = omega (arith, a.place, b.place, length-append b.ops a.ops);
      lays = append_assoc b.ops a.ops (laid s) ∙ ap (λ (l : List ℕ). b.ops ++ l) a.lays ∙ b.lays;
    }
  where
    insides : (j : ℕ) → In j b.ops ⊎ In j a.ops → j < length s.placed
    insides j (inl m) = omega (arith, b.inside j m, added_marks a)
    insides j (inr m) = a.inside j m

    frees : (j : ℕ) → In j b.ops ⊎ In j a.ops → is_free s.placed j ≡ true
    frees j (inl m) = added_shrinks a (j + 1) j (omega arith) (b.free j m)
    frees j (inr m) = a.free j m

-- The part of the order that was added.
module _ {s t : State} (a : Added s t) where
  pub added_part : take (s.at - t.at) (drop t.at t.order) ≡ a.ops
  added_part = ap (take (s.at - t.at)) (sym a.lays) ∙ take_at a.ops (laid s) (s.at - t.at) (omega (arith, a.place))

  -- the same, by the list itself
  pub added_as : (l : List ℕ) → l ++ laid s ≡ laid t → a.ops ≡ l
  added_as l e = sym added_part ∙ ap (take (s.at - t.at)) (sym e) ∙ take_at l (laid s) (s.at - t.at) (omega (arith, a.place, long))
    where
      long : length l ≡ length a.ops
      long = omega (arith, ap length (e ∙ sym a.lays), length-append l (laid s), length-append a.ops (laid s))

  -- WHAT A TRIAL THAT FAILS LEAVES: where the added marks are cleared, the state is as it was
  pub added_undone : Kept s (marks_with 0 t.placed (take (s.at - t.at) (drop t.at t.order))) t.order
  added_undone =
      record {
        marks = ap (marks_with 0 t.placed) added_part
            ∙ ap (λ (q : List ℕ). marks_with 0 q a.ops) a.marked
            ∙ marks_undone s.placed a.ops (λ j m. eqb-true _ _ (a.free j m));
        cells = a.cells;
        lays =
            ap (λ (k : ℕ). drop k t.order) (sym a.place)
            ∙ sym (drop-drop (length a.ops) t.at t.order)
            ∙ ap (drop (length a.ops)) (sym a.lays)
            ∙ drop_at a.ops (laid s) (length a.ops) refl;
      }

-- A state that is kept.

pub kept_none : (s : State) → Kept s s.placed s.order
kept_none s = record { marks = refl; cells = refl; lays = refl }

module _ {s : State} {placed order : List ℕ} (k : Kept s placed order) where
  -- the state again
  abbrev pub again : State
  again = state_of placed order s.at s.top

  pub kept_left : left again ≡ left s
  kept_left = ap (λ (q : List ℕ). upto (is_free q) s.top) k.marks

  pub kept_free : (j : ℕ) → is_free placed j ≡ is_free s.placed j
  kept_free j = ap (λ (q : List ℕ). is_free q j) k.marks

  pub kept_holds : (C : Cols) → Holds C s → Holds C again
  kept_holds C h =
      record {
        ready =
            record {
              size = h.ready.size;
              within = h.ready.within;
              marks = omega (arith, ap length k.marks, h.ready.marks);
              high = omega (arith, k.cells, h.ready.high);
              room = omega (arith, ap length kept_left, h.ready.room);
              above = λ j a b. kept_free j ∙ h.ready.above j a b;
            };
        closed = λ j l e. kept_free (wr C j) ∙ h.closed j l (sym (kept_free j) ∙ e);
      }

  pub kept_whose : (writer : List ℕ) (w : ℕ) → Whose writer s w → Whose writer again w
  kept_whose writer w h = record { inside = h.inside; write = h.write; free = kept_free w ∙ h.free }

  pub kept_twice : {p o : List ℕ} → Kept again p o → Kept s p o
  kept_twice g = record { marks = g.marks ∙ k.marks; cells = g.cells ∙ k.cells; lays = g.lays ∙ k.lays }

  unfoldable pub kept_added : {r : State} → Added again r → Added s r
  kept_added a =
      record {
        ops = a.ops;
        inside = λ j m. omega (arith, a.inside j m, ap length k.marks);
        free = λ j m. sym (kept_free j) ∙ a.free j m;
        marked = a.marked ∙ ap (λ (q : List ℕ). marks_with 1 q a.ops) k.marks;
        cells = a.cells ∙ k.cells;
        place = a.place;
        lays = ap (λ (l : List ℕ). a.ops ++ l) (sym k.lays) ∙ a.lays;
      }
