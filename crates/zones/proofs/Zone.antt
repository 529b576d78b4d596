-- The zone of a write by the columns is that of its cluster.
-- Assumes nothing.
use Prim.Native.Nat.{ℕ, zero, suc, ◌-◌, ◌≤◌, ◌<◌, max}
use mathlib.Core.Path.{◌≡◌, refl, ap, sym, ◌∙◌}
use mathlib.Core.Bool.{Bool, true, false, cond}
use mathlib.Core.List.{List, [], ◌∷◌, ◌++◌}
use native.Mathlib.Omega.{arith}
use lib.ListN.{length, get_or}
use lib.Seq.{take-length}
use borrow.Author.Tests.{le-ltb, eq-eqb}
use Rattle.lists.specs.Lists.{keep}
use Rattle.lists.proofs.Images.{map_append}
use Rattle.history.specs.declared.Op.{Op}
use Rattle.methods.specs.Extremes.{greatest}
use Rattle.methods.specs.Prepared.{no_write, same_value, reads_of}
use Rattle.methods.specs.Zones.{cluster, first_finish, last_start}
use Rattle.witnesses.specs.Histories.{Write}
use Rattle.clusters.proofs.Clusters.{first_finish_lem}
use Rattle.positions.specs.Places.{pick_list, upto, latest}
use Rattle.positions.specs.Columns.{Cols, size, wr, read_of, Sound, op, ops, Of}
use Rattle.positions.proofs.Places.{upto_ext}
use Rattle.positions.proofs.Latest.{latest_le}
use Rattle.positions.proofs.Ops.{keep_ops, ops_all}
use Rattle.positions.proofs.OfHistory.{size_is, start_is, finish_is, own_is, same_is, op_in}
use Rattle.zones.specs.Zones.{last_of, last_by, Lates, Zoned}

greatest_more : (m : ℕ) (l : List Op) (x : Op) → greatest (λ o. o.start) m (l ++ (x ∷ [])) ≡ max (greatest (λ o. o.start) m l) x.start
unfolding greatest
greatest_more m [] x = omega arith
greatest_more m (y ∷ l) x = rw (greatest_more m l x) (omega arith)

-- all the operations, by position
pub all_ops : (H : List Op) → ops H (upto (λ j. true) (length H)) ≡ H
all_ops H = ops_all H (λ j. true) (length H) (omega arith) (λ j k. refl) ∙ take-length H

module _ {C : Cols} {H : List Op} (o : Of C H) where
  -- the reads of w, by position
  pub reads_at : (w : ℕ) → w < size C → wr C w ≡ w → reads_of H (op H w) ≡ ops H (upto (read_of C.writer w) (size C))
  reads_at w l e =
      ap (λ (h : List Op). keep no_write (keep (same_value (op H w)) h)) (sym (all_ops H))
      ∙ ap (keep no_write) (keep_ops H (λ j. true) (length H) (same_value (op H w)))
      ∙ keep_ops H _ (length H) no_write
      ∙ ap (ops H) (upto_ext (length H) same ∙ ap (upto (read_of C.writer w)) (sym (size_is o)))
    where
      same : (j : ℕ) → j < length H → cond (same_value (op H w) (op H j)) (no_write (op H j)) false ≡ read_of C.writer w j
      same j k = rw (same_is o w j (omega (arith, size_is o)) k, own_is o j k, e)

  pub cluster_at_lem : (w : ℕ) → w < size C → wr C w ≡ w → cluster H (op H w) ≡ ops H (w ∷ upto (read_of C.writer w) (size C))
  cluster_at_lem w l e = ap (λ (r : List Op). op H w ∷ r) (reads_at w l e)

  pub write_at : (w : ℕ) → w < size C → wr C w ≡ w → Write H (op H w)
  write_at w l e = let k : w < length H = omega (arith, size_is o) in record { mem = op_in o w k; write = own_is o w k ∙ eq-eqb (wr C w) w e }

  module _ (p : Sound C) where
    abbrev st : ℕ → ℕ
    st j = get_or C.start j 0

    -- the last of some operations has their largest start
    last_of_lem : (w : ℕ) (Q : ℕ → Bool) (m : ℕ) → m ≤ size C → greatest (λ x. x.start) (st w) (ops H (upto Q m)) ≡ last_of C.start w (latest Q m)
    unfolding greatest upto latest
    last_of_lem w Q zero h = refl
    last_of_lem w Q (suc m) h = go (Q m) (last_of_lem w Q m (omega arith))
      where
        back : (k : ℕ) → k ≤ m → max (last_of C.start w k) (st m) ≡ max (st w) (st m)
        back zero l = refl
        back (suc k) l =
            let e : suc k - 1 ≡ k = omega arith in
            rw (le-ltb (suc k) 1 (omega arith), e) (omega (arith, p.shape.rising k m (omega arith) (omega arith)))

        go : (b : Bool) → greatest (λ x. x.start) (st w) (ops H (upto Q m)) ≡ last_of C.start w (latest Q m)
            → greatest (λ x. x.start) (st w) (ops H (pick_list b (upto Q m ++ (m ∷ [])) (upto Q m))) ≡ last_of C.start w (cond b (suc m) (latest Q m))
        go true ih =
            let e : suc m - 1 ≡ m = omega arith in
            rw (map_append (op H) (upto Q m) (m ∷ []), le-ltb (suc m) 1 (omega arith), e)
            (greatest_more (st w) (ops H (upto Q m)) (op H m) ∙ rw (ih, start_is o m (omega (arith, size_is o))) (back (latest Q m) (latest_le Q m)))
        go false ih = ih

    last_start_lem : (w : ℕ) → w < size C → wr C w ≡ w → last_start H (op H w) ≡ last_by C.start C.last w
    unfolding last_start
    last_start_lem w l e =
        rw (reads_at w l e, start_is o w (omega (arith, size_is o)), p.links.lasts w (rw p.shape.long l) e, p.shape.long) (last_of_lem w (read_of C.writer w) (size C) (omega arith))

-- the column `late` gives the zones
pub lates_zoned : (C : Cols) → Sound C → (late : List ℕ) → Lates C.start C.writer C.last (size C) late → Zoned C late
lates_zoned C p late g =
    record {
      long = g.long;
      zones = λ H o w l e.
          let a : first_finish H (op H w) ≡ get_or C.finish w 0 = first_finish_lem o.prepared (write_at o w l e) ∙ finish_is o w (omega (arith, size_is o)) in
          let b : last_start H (op H w) ≡ get_or late w 0 = last_start_lem o p w l e ∙ sym (g.lates w l e) in
          rw (a, b) refl;
    }
