-- The parts that the placing of a write makes of a history, by membership (000, figure 2), and that the rest is prepared again.
-- Assumes nothing.
use Prim.Native.Nat.{ℕ, ◌≤◌, ◌<◌}
use mathlib.Core.Path.{◌≡◌, refl, sym, ap, ◌∙◌}
use mathlib.Core.Logic.{◌⊎◌, inl, inr, ◌≢◌}
use mathlib.Core.Bool.{Bool, true, false, not}
use mathlib.Core.List.Memᴰ.{head as here}
use mathlib.Core.List.Memᴰ.{tail as there}
use mathlib.Core.List.{List, Memᴰ as In}
use native.Mathlib.Omega.{arith}
use borrow.Author.Tests.{ltb-true, ltb-false, eqb-true, eqb-false, eq-eqb, not-true}
use Rattle.lists.specs.Lists.{keep}
use Rattle.lists.specs.Pairs.{Pairs, cons}
use Rattle.lists.proofs.Tests.{test, both, true_not}
use Rattle.lists.proofs.Members.{in_keep, keep_in}
use Rattle.lists.proofs.Counts.{keep_le, keep_lt}
use Rattle.lists.proofs.Pairs.{pairs_keep, pairs_map, pairs_both}
use Rattle.history.specs.declared.Op.{Op}
use Rattle.history.specs.Table.{is_write}
use Rattle.methods.specs.Prepared.{no_write, same_value, reads_of}
use Rattle.methods.specs.Place.{other_value, starts_after, starts_by, later, early, others, rest, writes, write_count}
use Rattle.witnesses.specs.Histories.{Write, Reads, Apart, Proper, Prepared}
use Rattle.witnesses.specs.Orders.{Before}
use Rattle.witnesses.specs.Witness.{Witness}

-- a row is that of one operation
pub named : {H : List Op} → Pairs Apart H → (x y : Op) → In x H → In y H → x.row ≡ y.row → x ≡ y
named (cons u t) x y (here e) (here d) p = e ∙ sym d
named (cons u t) x y (here e) (there n) p = absurd (u y n (sym (ap (λ o. o.row) e) ∙ p))
named (cons u t) x y (there m) (here d) p = absurd (u x m (sym (ap (λ o. o.row) d) ∙ sym p))
named (cons u t) x y (there m) (there n) p = named t x y m n p
named Rattle.lists.specs.Pairs.nil x y x10 _ p = elim x10 [ ]

-- Membership in the parts of a history, in numbers.

pub in_later : (w : Op) (H : List Op) {o : Op} → In o (later w H) → In o H × (w.finish < o.start)
in_later w H m = let k = in_keep (starts_after w) H m in (k.0, ltb-true _ _ k.1)

pub in_early : (w : Op) (H : List Op) {o : Op} → In o (early w H) → In o H × (o.start ≤ w.finish)
in_early w H m = let k = in_keep (starts_by w) H m in (k.0, ltb-false _ _ (not-true _ k.1))

pub in_others : (w : Op) (H : List Op) {o : Op} → In o (others w H) → In o (later w H) × (o.value ≢ w.value)
in_others w H m = let k = in_keep (other_value w) (later w H) m in (k.0, eqb-false _ _ (not-true _ k.1))

pub in_rest : (w : Op) (H : List Op) {o : Op} → In o (rest w H) → In o H × (o.start ≤ w.finish) × (o.value ≢ w.value)
in_rest w H m = let k = in_keep (other_value w) (early w H) m in let e = in_early w H k.0 in (e.0, e.1, eqb-false _ _ (not-true _ k.1))

pub in_writes : (H : List Op) {o : Op} → In o (writes H) → Write H o
in_writes H m = let k = in_keep is_write H m in record { mem = k.0; write = k.1 }

pub writes_in : (H : List Op) {o : Op} → Write H o → In o (writes H)
writes_in H k = keep_in is_write H k.mem k.write

pub later_or_early : (w : Op) (H : List Op) {o : Op} → In o H → In o (later w H) ⊎ In o (early w H)
later_or_early w H {o} m = go (test (starts_after w o))
  where
    go : (starts_after w o ≡ true) ⊎ (starts_after w o ≡ false) → In o (later w H) ⊎ In o (early w H)
    go (inl e) = inl (keep_in (starts_after w) H m e)
    go (inr e) = inr (keep_in (starts_by w) H m (true_not e))

pub mine_or_not : (w : Op) (l : List Op) {o : Op} → In o l → (o.value ≡ w.value) ⊎ In o (keep (other_value w) l)
mine_or_not w l {o} m = go (test (same_value w o))
  where
    go : (same_value w o ≡ true) ⊎ (same_value w o ≡ false) → (o.value ≡ w.value) ⊎ In o (keep (other_value w) l)
    go (inl e) = inl (eqb-true _ _ e)
    go (inr e) = inr (keep_in (other_value w) l m (true_not e))

-- The reads of a write are those that it dictates.

module _ (H : List Op) {w r : Op} where
  pub in_reads_of : Write H w → In r (reads_of H w) → Reads H w r
  in_reads_of k m =
      let a = in_keep no_write (keep (same_value w) H) m in
      let b = in_keep (same_value w) H a.0 in
      record { by = k; mem = b.0; read = not-true _ a.1; same = sym (eqb-true _ _ b.1) }

  pub reads_of_in : Reads H w r → In r (reads_of H w)
  reads_of_in d = keep_in no_write _ (keep_in (same_value w) H d.mem (eq-eqb _ _ (sym d.same))) (true_not d.read)

-- nothing later is a write
abbrev pub Quiet : Op → List Op → Type 0
Quiet w H = (o : Op) → In o (later w H) → is_write o ≡ false

-- a write of another value stays, and with each step a write goes
pub stays : (w : Op) (H : List Op) → Quiet w H → (v : Op) → Write H v → v.value ≢ w.value → Write (rest w H) v
stays w H q v k n = record { mem = go (later_or_early w H k.mem); write = k.write }
  where
    known : (v.value ≡ w.value) ⊎ In v (rest w H) → In v (rest w H)
    known (inl e) = absurd (n e)
    known (inr m) = m

    go : In v (later w H) ⊎ In v (early w H) → In v (rest w H)
    go (inl m) = absurd (both k.write (q v m))
    go (inr m) = known (mine_or_not w (early w H) m)

pub fewer : (w : Op) (H : List Op) → Write H w → write_count (rest w H) < write_count H
fewer w H k = go (later_or_early w H k.mem)
  where
    go : In w (later w H) ⊎ In w (early w H) → write_count (rest w H) < write_count H
    go (inl m) = omega (arith, keep_le is_write (other_value w) (early w H), keep_lt is_write (starts_by w) H k.mem k.write (ap not (in_keep (starts_after w) H m).1))
    go (inr m) = omega (arith, keep_le is_write (starts_by w) H, keep_lt is_write (other_value w) (early w H) m k.write (ap not (eq-eqb w.value w.value refl)))

-- What holds of a history holds of a part of it that has with each read its write.

module _ {H L : List Op} (i : (x : Op) → In x L → In x H) where
  pub write_sub : {w : Op} → Write L w → Write H w
  write_sub k = record { mem = i _ k.mem; write = k.write }

  pub reads_sub : {w r : Op} → Reads L w r → Reads H w r
  reads_sub k = record { by = write_sub k.by; mem = i _ k.mem; read = k.read; same = k.same }

  -- a witness is one of any part
  pub witness_sub : {n : ℕ} {pos : Op → ℕ} → Witness pos n H → Witness pos n L
  witness_sub k =
      record {
        apart = λ x y a b. k.apart x y (i x a) (i y b);
        valid = λ x y a b. k.valid x y (i x a) (i y b);
        after = λ w r d. k.after w r (reads_sub d);
        near = λ w r d zs c b. k.near w r (reads_sub d) zs c (λ z m. let e = b z m in record { write = write_sub e.write; after = e.after; before = e.before });
      }

-- the test keeps with each read its write
abbrev pub Closed : (Op → Bool) → List Op → Type 0
Closed p H = (w r : Op) → Reads H w r → p r ≡ true → p w ≡ true

module _ (p : Op → Bool) {H : List Op} (c : Closed p H) where
  sub : (x : Op) → In x (keep p H) → In x H
  sub x m = (in_keep p H m).0

  pub proper_keep : Proper H → Proper (keep p H)
  proper_keep g =
      record {
        rows = pairs_keep p g.rows;
        span = λ x m. g.span x (sub x m);
        one = λ x y m n. g.one x y (write_sub sub m) (write_sub sub n);
        dict = λ r m e. let d = g.dict r (sub r m) e in (d.0, kept d.0 r m d.1);
      }
    where
      kept : (w r : Op) → In r (keep p H) → Reads H w r → Reads (keep p H) w r
      kept w r m d =
          record {
            by = record { mem = keep_in p H d.by.mem (c w r d (in_keep p H m).1); write = d.by.write };
            mem = m;
            read = d.read;
            same = d.same;
          }

  pub prepared_keep : Prepared H → Prepared (keep p H)
  prepared_keep g =
      record {
        proper = proper_keep g.proper;
        rising = pairs_keep p g.rising;
        clock = λ x y m n. g.clock x y (sub x m) (sub y n);
        cross = λ x y m n. g.cross x y (sub x m) (sub y n);
        ends = λ x y m n. g.ends x y (sub x m) (sub y n);
        first = λ w r d. g.first w r (reads_sub sub d);
      }

-- in its own sequence, by rising start, no operation precedes an earlier one
pub in_sequence : {H : List Op} → Prepared H → Pairs Before H
in_sequence g = pairs_map (pairs_both g.proper.rows g.rising) (λ x y m n r. record { apart = r.0; valid = λ p. omega (arith, r.1, g.proper.span y n, g.clock y x n m p) })

-- what the placing of w leaves is prepared again
pub prepared_rest : (w : Op) {H : List Op} → Quiet w H → Prepared H → Prepared (rest w H)
prepared_rest w {H} q g = prepared_keep (other_value w) others (prepared_keep (starts_by w) early g)
  where
    early : Closed (starts_by w) H
    early v r d e = go (test (starts_after w v))
      where
        go : (starts_after w v ≡ true) ⊎ (starts_after w v ≡ false) → starts_by w v ≡ true
        go (inl i) = absurd (both d.by.write (q v (keep_in (starts_after w) H d.by.mem i)))
        go (inr i) = true_not i

    others : {L : List Op} → Closed (other_value w) L
    others v r d e = rw d.same e
