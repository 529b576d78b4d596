-- What is later than a write, by position, and the writes of what is left (000, figure 2, line 13).
-- Assumes nothing.
use Prim.Native.Nat.{ℕ, ◌≤◌, ◌<◌}
use mathlib.Core.Path.{◌≡◌, refl, ap, sym, ◌∙◌}
use mathlib.Core.Bool.{Bool, true, cond, false}
use mathlib.Core.Logic.{◌⊎◌, inl, inr}
use mathlib.Core.List.{List, Memᴰ as In}
use native.Mathlib.Omega.{arith}
use lib.ListN.{length, get_or}
use lib.Dec.{ltb}
use borrow.Author.Tests.{ltb-true, lt-ltb, eqb-true, eq-eqb}
use Rattle.lists.proofs.Tests.{both}
use Rattle.history.specs.declared.Op.{Op}
use Rattle.history.specs.Table.{is_write}
use Rattle.methods.specs.Place.{starts_after, later}
use Rattle.witnesses.specs.Histories.{Write}
use Rattle.positions.specs.Places.{and}
use Rattle.positions.specs.Columns.{Cols, size, wr, Sound, op, ops, Of}
use Rattle.positions.proofs.Places.{below}
use Rattle.positions.proofs.Ops.{keep_ops, in_ops, ops_in}
use Rattle.positions.proofs.OfHistory.{size_is, start_is, finish_is, own_is}
use Rattle.placing.specs.States.{State, is_free, left, Holds, Whose}
use Rattle.placing.specs.Scanned.{Met}
use Rattle.placing.specs.Stepped.{ending}

-- j is later than w and not placed
abbrev pub LaterThan : Cols → ℕ → State → ℕ → Type 0
LaterThan C w s j = Met C.start C.writer w (ending C w) s 0 j

module _ (C : Cols) (p : Sound C) (s : State) (h : Holds C s) where
  -- what is not placed is below the top
  pub under_top : (j : ℕ) → j < size C → is_free s.placed j ≡ true → j < s.top
  under_top j l e = go (below j s.top)
    where
      go : (j < s.top) ⊎ (s.top ≤ j) → j < s.top
      go (inl a) = a
      go (inr a) = absurd (both e (h.ready.above j a l))

  module _ (H : List Op) (f : Of C H) where
    -- what is left is in the history
    pub top_in : (j : ℕ) → j < s.top → j < length H
    top_in j l = omega (arith, size_is f, h.ready.within)

    -- a write that is not placed is a write of what is left
    pub whose_write : (w : ℕ) → Whose C.writer s w → Write (ops H (left s)) (op H w)
    whose_write w k =
        let l : w < size C = omega (arith, k.inside, p.shape.long) in
        record { mem = ops_in H _ _ (under_top w l k.free) k.free; write = own_is f w (omega (arith, size_is f)) ∙ eq-eqb _ _ k.write }

    -- the write of an operation that is left is left
    pub writer_in : (j : ℕ) → j < s.top → is_free s.placed j ≡ true → Write (ops H (left s)) (op H (wr C j))
    writer_in j l e =
        let i : j < size C = omega (arith, h.ready.within) in
        whose_write (wr C j) (record { inside = omega (arith, p.shape.writers j i, p.shape.long); write = p.writes j i; free = h.closed j i e })

    -- a write of what is left is at a position
    pub in_write : {v : Op} → Write (ops H (left s)) v → (j : ℕ) × (v ≡ op H j) × (j < s.top) × (wr C j ≡ j)
    in_write {v} m =
        let i = in_ops H _ _ m.mem in
        (i.0, i.1, i.2, eqb-true _ _ (sym (own_is f i.0 (top_in i.0 i.2)) ∙ sym (ap is_write i.1) ∙ m.write))

    module _ (w : ℕ) (k : Whose C.writer s w) where
      late_at : (j : ℕ) → j < s.top → starts_after (op H w) (op H j) ≡ ltb (ending C w) (get_or C.start j 0)
      late_at j l =
          ap (λ (x : ℕ). ltb x (op H j).start) (finish_is f w (omega (arith, size_is f, k.inside, p.shape.long)))
          ∙ ap (λ (x : ℕ). ltb (ending C w) x) (start_is f j (top_in j l))

      -- what was met is later, and what is later was met
      pub met_in : (j : ℕ) → LaterThan C w s j → In (op H j) (later (op H w) (ops H (left s)))
      met_in j m =
          rw (keep_ops H (is_free s.placed) s.top (starts_after (op H w)))
          (ops_in H _ _ m.under (rw m.free (late_at j m.under ∙ lt-ltb _ _ m.after)))

      pub in_met : {x : Op} → In x (later (op H w) (ops H (left s))) → (j : ℕ) × (x ≡ op H j) × LaterThan C w s j
      in_met {x} m = (i.0, i.1, go (is_free s.placed i.0) refl i.3)
        where
          i : (j : ℕ) × (x ≡ op H j) × (j < s.top) × (and (is_free s.placed) (λ j. starts_after (op H w) (op H j)) j ≡ true)
          i = in_ops H _ _ (rw (keep_ops H (is_free s.placed) s.top (starts_after (op H w))) at m)

          go : (b : Bool) → is_free s.placed i.0 ≡ b → cond b (starts_after (op H w) (op H i.0)) false ≡ true → LaterThan C w s i.0
          go true e q = record { from = omega arith; under = i.2; after = ltb-true _ _ (sym (late_at i.0 i.2) ∙ q); free = e }
          go false e q = absurd (both q refl)
