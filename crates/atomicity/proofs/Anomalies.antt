-- A register with an anomaly has no valid k-atomic order, for any k (000, section II.C), and so has none that the
-- screening refuses with 8 or 9.
-- Assumes nothing.
use Prim.Native.Nat.{ℕ, ◌<◌}
use mathlib.Core.Path.{◌≡◌, refl, sym, ap, ◌∙◌}
use mathlib.Core.Logic.{◌⊎◌, inl, inr, ◌≢◌}
use mathlib.Core.Bool.{true}
use mathlib.Core.List.{List, [], ◌∷◌, Memᴰ as In}
use native.Mathlib.Omega.{arith}
use lib.ListN.{length}
use Rattle.std.specs.Prelude.{Option, Some, None}
use Rattle.lists.proofs.Tests.{told_false, false_told}
use Rattle.lists.proofs.Members.{nothing_none, none_nothing}
use Rattle.lists.proofs.Maps.{in_map, map_in}
use Rattle.history.specs.declared.Op.{Op}
use Rattle.history.specs.declared.Answer.{Answer}
use Rattle.history.specs.Table.{op_at, rows_of, history, is_write, Precedes, Dictates}
use Rattle.history.specs.Answer.{number, Test, test, lowest_row, refused_or, first_met, passed}
use Rattle.history.specs.declared.Code.TheVariants.{OrphanRead, EarlyRead}
use Rattle.history.specs.Screen.{rewrites, unwritten, too_early, tests, examined, screening}
use Rattle.history.proofs.Rows.{in_rows, rows_in_lem}
use Rattle.history.proofs.Screened.{told_rewrites, told_unwritten, told_early}
use Rattle.atomicity.specs.Order.{placed, TotalOrder, Within, Atomic}
use Rattle.atomicity.specs.Anomalies.{Anomaly, undictated, early, DistinctValues, NeverAtomic}

-- The first condition met has the code c: a test of another code is not met, and one that is not met does not count.
module _ (x : Test) (xs : List Test) (a : Answer) {c : ℕ} (e : (first_met (x ∷ xs) a).code ≡ c) where
  not_yet : number x.code ≢ c → (x.fault ≡ None) × ((first_met xs a).code ≡ c)
  unfolding first_met
  not_yet n = go x.fault e
    where
      go : (f : Option ℕ) → (refused_or x.code f (first_met xs a)).code ≡ c → (f ≡ None) × ((first_met xs a).code ≡ c)
      go (Some row) q = absurd (n q)
      go None q = (refl, q)

  unmet : x.fault ≡ None → (first_met xs a).code ≡ c
  unfolding first_met
  unmet f = rw f at e

module _ (t : List ℕ) (register : ℕ) where
  abbrev h : List Op
  h = history t register

  -- an operation of the register stands at some position of an order, and at each position stands one
  listed : {order : List ℕ} {x : Op} → TotalOrder t register order → In x h → (p : ℕ) × (p < length order) × (placed t order p ≡ x)
  unfolding history
  listed o m =
      let (i, n, e) = in_map (op_at t) (rows_of t register) m in
      let (p, l, q) = o.whole i (in_rows t register n) in
      (p, l, ap (op_at t) q ∙ sym e)

  at_place : {order : List ℕ} {p : ℕ} → TotalOrder t register order → p < length order → In (placed t order p) h
  unfolding history
  at_place {p = p} o l = map_in (op_at t) (rows_in_lem t register (o.rows p l))

  -- in an order each read follows a write that dictates it, and so does not precede it
  follows : {k : ℕ} {order : List ℕ} {r : Op} → Atomic k t register order → In r h → r.kind ≡ 2 → (w : Op) × In w h × Dictates w r × (Precedes r w → ⊥)
  follows {k} {order} {r} a m e =
      let (q, l, same) = listed a.valid.total m in
      go q l same (a.reads q l (ap (λ o. o.kind) same ∙ e))
    where
      go : (q : ℕ) → q < length order → placed t order q ≡ r → Within k t order q → (w : Op) × In w h × Dictates w r × (Precedes r w → ⊥)
      go q l same n = (
        placed t order n.at,
        at_place a.valid.total (omega (arith, n.earlier, l)),
        rw same at n.dictated,
        rw same at (a.valid.keeps n.at q n.earlier l),
      )

  -- A READ WITHOUT A DICTATING WRITE: values may be written twice.
  pub undictated_no_order : (r : Op) → In r h → r.kind ≡ 2 → ((w : Op) → In w h → ¬ Dictates w r) → NeverAtomic t register
  undictated_no_order r m e n k order a = let (w, i, d, p) = follows a m e in n w i d

  -- EITHER ANOMALY: its dictating write is the one write of its value.
  pub anomaly_no_order : DistinctValues h → Anomaly h → NeverAtomic t register
  anomaly_no_order u (undictated r m e n) k order a = undictated_no_order r m e n k order a
  anomaly_no_order u (early w r i m d p) k order a =
      let (v, j, f, q) = follows a m d.reads in
      q (rw (u w v i j d.writes f.writes (d.same ∙ sym f.same)) at p)

  -- CODES 8 AND 9 OF THE SCREENING: test 7 is passed before them, so no value is written twice.

  behind_seven : {c : ℕ} → 7 < c → c < 20 → (screening t register).code ≡ c →
      (lowest_row (rewrites h) h ≡ None)
      × ((first_met (test OrphanRead (lowest_row (unwritten h) h) ∷ test EarlyRead (lowest_row (too_early h) h) ∷ []) (passed (length h))).code ≡ c)
  unfolding screening examined tests
  behind_seven l m e =
      let two = (not_yet _ _ _ e (omega (arith, l, m))).1 in
      let three = (not_yet _ _ _ two (omega (arith, l, m))).1 in
      let four = (not_yet _ _ _ three (omega (arith, l, m))).1 in
      let five = (not_yet _ _ _ four (omega (arith, l, m))).1 in
      let again = (not_yet _ _ _ five (omega (arith, l, m))).1 in
      let seven = (not_yet _ _ _ again (omega (arith, l, m))).1 in
      not_yet _ _ _ seven (omega (arith, l, m))

  -- an operation is that of its row
  by_row_lem : {x : Op} → In x h → x ≡ op_at t x.row
  unfolding history op_at
  by_row_lem m = let (i, n, e) = in_map (op_at t) (rows_of t register) m in e ∙ ap (op_at t) (sym (ap (λ o. o.row) e))

  distinct : lowest_row (rewrites h) h ≡ None → DistinctValues h
  distinct e v w i j k l q =
      let a : v.row < w.row → ⊥ = λ r. no_twin v w i j k l q r in
      let b : w.row < v.row → ⊥ = λ r. no_twin w v j i l k (sym q) r in
      let r : v.row ≡ w.row = omega arith in
      by_row_lem i ∙ (ap (op_at t) r ∙ sym (by_row_lem j))
    where
      no_twin : (x y : Op) → In x h → In y h → is_write x ≡ true → is_write y ≡ true → x.value ≡ y.value → x.row < y.row → ⊥
      no_twin x y m n f g s r = told_false (told_rewrites h y) (nothing_none (λ o. o.row) (rewrites h) h e y n) (g, (x, m, ((r, f), s)))

  -- behind the last test comes the answer of a register that passes
  met_none : {c : ℕ} → (first_met [] (passed (length h))).code ≡ c → c ≡ 0
  unfolding first_met
  met_none e = sym e

  pub refused_no_order : ((screening t register).code ≡ number OrphanRead) ⊎ ((screening t register).code ≡ number EarlyRead) → NeverAtomic t register
  refused_no_order (inl e) k order a =
      let q = (behind_seven (omega arith) (omega arith) e).1 in
      let written = none_nothing (λ o. o.row) (unwritten h) h (λ o m. false_told (told_unwritten h o)
      (λ u. undictated_no_order o m u.0 (λ w i d. u.1 (w, i, d)) k order a)) in
      omega (arith, met_none (not_yet _ _ _ (unmet _ _ _ q written) (omega arith)).1)
  refused_no_order (inr e) k order a =
      let (n, q) = behind_seven (omega arith) (omega arith) e in
      let timely = none_nothing (λ o. o.row) (too_early h) h (λ o m. false_told (told_early h o)
      (λ (f, (w, i, (d, p))). anomaly_no_order (distinct n) (early w o i m d p) k order a)) in
      omega (arith, met_none (unmet _ _ _ (not_yet _ _ _ q (omega arith)).1 timely))
