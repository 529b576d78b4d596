-- The placing step, shared by LBT and FZF (000, figure 2, lines 13 to 20): sound (`step_sound`), and complete from the last write of a witness
-- (`step_quiet`, `step_next`).
-- Assumes nothing.
use Prim.Native.Nat.{ℕ, ◌≤◌, ◌<◌}
use mathlib.Core.Path.{◌≡◌, refl, sym, ap, ◌∙◌}
use mathlib.Core.Logic.{◌⊎◌, inl, inr, ◌≢◌}
use mathlib.Core.Bool.{true, false}
use mathlib.Core.List.Memᴰ
use mathlib.Core.List.Memᴰ.{head as here}
use mathlib.Core.List.Memᴰ.{tail as there}
use mathlib.Core.List.{List, ◌∷◌, ◌++◌, Memᴰ as In}
use native.Mathlib.Omega.{arith}
use native.Mathlib.Decide.{dec_lt}
use lib.ListN.{take}
use borrow.Author.Tests.{eqb-true, eq-eqb, not-true}
use Rattle.lists.specs.Lists.{keep}
use Rattle.lists.specs.Pairs.{Pairs, cons}
use Rattle.lists.proofs.Tests.{test, both, true_not}
use Rattle.lists.proofs.Members.{in_keep, keep_in}
use Rattle.lists.proofs.Pairs.{pairs_keep, pairs_append}
use Rattle.history.specs.declared.Op.{Op}
use Rattle.history.specs.Table.{is_write}
use Rattle.methods.specs.Prepared.{no_write, same_value}
use Rattle.methods.specs.Place.{starts_after, starts_by, later, early, rest, reads, segment}
use Rattle.witnesses.specs.Histories.{Write, Reads, Prepared}
use Rattle.witnesses.specs.Orders.{Before, run_write, Orders}
use Rattle.witnesses.specs.Witness.{Witness}
use Rattle.witnesses.proofs.Parts.{named, in_sequence, in_later, in_early, in_rest, later_or_early, mine_or_not, Quiet, stays}
use Rattle.witnesses.proofs.Runs.{run_append, run_reads}
use Rattle.witnesses.proofs.Near.{near_two}

-- What the step places and what it leaves.

module _ (w : Op) (H : List Op) (g : Prepared H) (k : Write H w) where
  in_reads : {x : Op} → In x (reads w H) → In x H × (x.start ≤ w.finish) × (x.value ≡ w.value) × (is_write x ≡ false)
  in_reads m =
      let a = in_keep no_write (keep (same_value w) (early w H)) m in
      let b = in_keep (same_value w) (early w H) a.0 in
      let c = in_early w H b.0 in
      (c.0, c.1, eqb-true _ _ b.1, not-true _ a.1)

  -- the reads of w end after w
  read_ends : {x : Op} → In x (reads w H) → w.finish < x.finish
  read_ends {x} m = let a = in_reads m in g.first w x (record { by = k; mem = a.0; read = a.3; same = sym a.2 })

  data Placed (x : Op) : Type 0 where
    is_w : x ≡ w → Placed x
    is_mine : In x (reads w H) → Placed x
    is_late : In x (later w H) → Placed x

  placed? : {x : Op} → In x (segment w H) → Placed x
  placed? (here e) = is_w e
  placed? {x} (there m) = go (Memᴰ.append_cases (reads w H) m)
    where
      go : In x (reads w H) ⊎ In x (later w H) → Placed x
      go (inl i) = is_mine i
      go (inr i) = is_late i

  from_segment : (x : Op) → Placed x → In x H
  from_segment x (is_w e) = Memᴰ.cast e k.mem
  from_segment x (is_mine m) = (in_reads m).0
  from_segment x (is_late m) = (in_later w H m).0

  -- each operation is placed or rests
  segment_or_rest : (x : Op) → In x H → In x (segment w H) ⊎ In x (rest w H)
  segment_or_rest x m = go (later_or_early w H m)
    where
      mine : x.value ≡ w.value → In x (early w H) → (is_write x ≡ true) ⊎ (is_write x ≡ false) → In x (segment w H)
      mine v i (inl e) = here (g.proper.one x w (record { mem = m; write = e }) k v)
      mine v i (inr e) = there (Memᴰ.append_left (later w H) (keep_in no_write _ (keep_in (same_value w) (early w H) i (eq-eqb _ _ v)) (true_not e)))

      own : In x (early w H) → (x.value ≡ w.value) ⊎ In x (rest w H) → In x (segment w H) ⊎ In x (rest w H)
      own i (inl v) = inl (mine v i (test (is_write x)))
      own i (inr r) = inr r

      go : In x (later w H) ⊎ In x (early w H) → In x (segment w H) ⊎ In x (rest w H)
      go (inl i) = inl (there (Memᴰ.append_right (reads w H) i))
      go (inr i) = own i (mine_or_not w (early w H) i)

  -- what rests may stand before what is placed
  rest_before : (x y : Op) → In x (rest w H) → Placed y → Before x y
  rest_before x y m p = record { apart = λ e. go p (named g.proper.rows x y r.0 (from_segment y p) e); valid = λ q. omega (arith, ends p, g.clock y x (from_segment y p) r.0 q) }
    where
      r : In x H × (x.start ≤ w.finish) × (x.value ≢ w.value)
      r = in_rest w H m

      ends : Placed y → x.start ≤ y.finish
      ends (is_w e) = omega (arith, r.1, ap (λ o. o.finish) e)
      ends (is_mine n) = omega (arith, r.1, read_ends n)
      ends (is_late n) = let i = in_later w H n in omega (arith, r.1, i.1, g.proper.span y i.0)

      go : Placed y → x ≡ y → ⊥
      go (is_w e) q = r.2 (ap (λ o. o.value) (q ∙ e))
      go (is_mine n) q = r.2 (ap (λ o. o.value) q ∙ (in_reads n).2)
      go (is_late n) q = omega (arith, r.1, (in_later w H n).1, ap (λ o. o.start) q)

  segment_pairs : Pairs Before (segment w H)
  segment_pairs = cons (λ y m. first y (Memᴰ.append_cases (reads w H) m)) (pairs_append own late across)
    where
      own : Pairs Before (reads w H)
      own = pairs_keep no_write (pairs_keep (same_value w) (pairs_keep (starts_by w) (in_sequence g)))

      late : Pairs Before (later w H)
      late = pairs_keep (starts_after w) (in_sequence g)

      across : (x y : Op) → In x (reads w H) → In y (later w H) → Before x y
      across x y m n =
          let a = in_reads m in
          let b = in_later w H n in
          record {
            apart = λ e. omega (arith, a.1, b.1, ap (λ o. o.start) (named g.proper.rows x y a.0 b.0 e));
            valid = λ p. omega (arith, a.1, b.1, g.proper.span y b.0, g.clock y x b.0 a.0 p);
          }

      first : (y : Op) → In y (reads w H) ⊎ In y (later w H) → Before w y
      first y (inl m) =
          let a = in_reads m in
          record {
            apart = λ e. both k.write (ap is_write (named g.proper.rows w y k.mem a.0 e) ∙ a.3);
            valid = λ p. omega (arith, g.proper.span w k.mem, read_ends m, g.clock y w a.0 k.mem p);
          }
      first y (inr m) =
          let b = in_later w H m in
          record {
            apart = λ e. omega (arith, b.1, g.proper.span w k.mem, ap (λ o. o.start) (named g.proper.rows w y k.mem b.0 e));
            valid = λ p. omega (arith, b.1, g.proper.span w k.mem, g.proper.span y b.0, g.clock y w b.0 k.mem p);
          }

  -- SOUND: what is placed, behind an order of what is left, makes an order of all, where what is later is reads of the two last values.
  pub step_sound : {o : List Op} (h : Orders 2 (rest w H) o) → Quiet w H → ((x : Op) → In x (later w H) → In x.value (take 2 (w.value ∷ h.passed))) →
      (r : Orders 2 H (o ++ segment w H)) × (r.passed ≡ w.value ∷ h.passed)
  step_sound {o} h q v = (
    record {
      from = λ x m. from x (Memᴰ.append_cases o m);
      into = λ x m. into x (segment_or_rest x m);
      pairs = pairs_append h.pairs segment_pairs (λ x y m n. rest_before x y (h.from x m) (placed? n));
      passed = w.value ∷ h.passed;
      runs = run_append h.runs (run_write k.write (run_reads _ (λ x m. read x (Memᴰ.append_cases (reads w H) m))));
    },
    refl,
  )
    where
      from : (x : Op) → In x o ⊎ In x (segment w H) → In x H
      from x (inl m) = (in_rest w H (h.from x m)).0
      from x (inr m) = from_segment x (placed? m)

      into : (x : Op) → In x (segment w H) ⊎ In x (rest w H) → In x (o ++ segment w H)
      into x (inl m) = Memᴰ.append_right o m
      into x (inr m) = Memᴰ.append_left (segment w H) (h.into x m)

      read : (x : Op) → In x (reads w H) ⊎ In x (later w H) → (is_write x ≡ false) × In x.value (take 2 (w.value ∷ h.passed))
      read x (inl m) = let a = in_reads m in (a.3, here a.2)
      read x (inr m) = (q x m, v x m)

-- COMPLETE: what a witness says of the step from its last write.

-- w is the last write
pub record Last (pos : Op → ℕ) (H : List Op) (w : Op) : Type 0 where
  pub wr : Write H w
  pub top : (z : Op) → Write H z → pos z ≤ pos w

module _ {pos : Op → ℕ} {H : List Op} {w : Op} (k : Witness pos 2 H) (a : Last pos H w) where
  -- what is later than the last write comes behind it, so it is no write
  behind : (o : Op) → In o (later w H) → pos w < pos o
  behind o m = let i = in_later w H m in k.valid w o a.wr.mem i.0 (inl i.1)

  pub step_quiet : Quiet w H
  step_quiet o m = go (test (is_write o))
    where
      go : (is_write o ≡ true) ⊎ (is_write o ≡ false) → is_write o ≡ false
      go (inl e) = absurd (omega (arith, behind o m, a.top o (record { mem = (in_later w H m).0; write = e })))
      go (inr e) = e

  -- The write v of a later read, if it is not w, is the last one of the rest: else it has w and another write between it and its read.
  pub step_next : (v o : Op) → Reads H v o → In o (later w H) → v.value ≢ w.value → Last pos (rest w H) v
  step_next v o d m n = record { wr = stays w H step_quiet v d.by n; top = λ z i. go z (in_rest w H i.mem) i.write (dec_lt (pos v) (pos z)) }
    where
      go : (z : Op) → In z H × (z.start ≤ w.finish) × (z.value ≢ w.value) → is_write z ≡ true → Dec (pos v < pos z) → pos z ≤ pos v
      go z i e (no h) = omega arith
      go z i e (yes h) =
          let kz : Write H z = record { mem = i.0; write = e } in
          let d' : pos z ≢ pos w = λ q. i.2 (ap (λ x. x.value) (k.apart z w i.0 a.wr.mem q)) in
          let b = behind o m in
          let t = a.top z kz in
          absurd (i.2 (ap (λ x. x.value) (near_two k v o d z w kz a.wr h (omega arith) (omega arith) b)))

-- there is one last write
pub last_one : {pos : Op → ℕ} {H : List Op} {u v : Op} → Witness pos 2 H → Last pos H u → Last pos H v → u ≡ v
last_one {u = u} {v = v} k a b = k.apart u v a.wr.mem b.wr.mem (omega (arith, a.top v b.wr, b.top u a.wr))
