-- A register passes the screening if and only if it is as the record `Screened` of specs/Screen.antt says.
-- Assumes nothing.
use Prim.Native.Nat.{ℕ, zero, suc, ◌<◌, ◌≤◌, ◌%◌, ◌/◌}
use mathlib.Core.Path.{◌≡◌, refl, ap}
use mathlib.Core.Logic.{◌↔◌, ◌≢◌, ◌⊎◌, inl, inr}
use mathlib.Core.Bool.{Bool, true, false, cond, not, ◌||◌}
use mathlib.Core.List.{List, Memᴰ as In}
use native.Mathlib.Omega.{arith}
use borrow.Author.Tests.{not-false, eqb-true, eq-eqb, ltb-false, le-ltb}
use lib.ListN.{length}
use Rattle.std.specs.Prelude.{None}
use Rattle.lists.proofs.Tests.{Told, told_true, true_told, told_false, false_told, told_as, told_not, told_and, told_or, told_ltb, told_eqb}
use Rattle.lists.proofs.Members.{told_any, nothing_none, none_nothing}
use Rattle.history.specs.declared.Op.{Op}
use Rattle.history.specs.Table.{largest_stamp, largest_count, is_opening, is_write, is_read, Precedes, Dictates, history}
use Rattle.history.specs.Answer.{passed, lowest_row}
use Rattle.history.specs.Screen.{wrong_kind, latest, stray_opening, wrong_span, Spanned, opens_too, reopens, repeats, rewrites, dictated_by, unwritten, precedes_write, too_early, tests, examined, screening, Screened}
use Rattle.history.proofs.Operations.{told_flag, told_write, told_read, told_precedes, told_dictates}
use Rattle.history.proofs.Refusals.{NoFault, Coded, code_no_fault, no_fault_answer, if_so_lem, if_not}

-- What each test's condition says of an operation.

zero_or : (n : ℕ) → (n ≡ 0) ⊎ (0 < n)
zero_or zero = inl refl
zero_or (suc n) = inr (omega arith)

told_kind : (o : Op) → Told (((is_write o ≡ true) ⊎ (o.kind ≡ 2)) → ⊥) (wrong_kind o)
unfolding wrong_kind
told_kind o = told_not (told_or (told_write o) (told_read o))

pub told_stray : (o : Op) → Told ((is_opening o ≡ true) × (((o.start ≡ 0) × (o.finish ≡ 0)) → ⊥)) (stray_opening o)
unfolding stray_opening
told_stray o = told_and (told_flag (is_opening o)) (told_not (told_and (told_eqb o.start 0) (told_eqb o.finish 0)))

told_span : (o : Op) → Told ((o.finish < o.start) ⊎ (latest o < o.finish)) (wrong_span o)
unfolding wrong_span
told_span o = told_as there back (told_or (told_or (told_ltb o.finish o.start) (told_ltb largest_stamp o.finish)) (told_stray o))
  where
    Stray : Type 0
    Stray = (is_opening o ≡ true) × (((o.start ≡ 0) × (o.finish ≡ 0)) → ⊥)

    over : (b : Bool) → cond b 0 largest_stamp ≤ largest_stamp
    over true = omega arith
    over false = omega arith

    stray : Stray → (o.finish ≡ 0) ⊎ (0 < o.finish) → (o.finish < o.start) ⊎ (latest o < o.finish)
    stray (e, n) (inl z) = let m : o.start ≢ 0 = λ s. n (s, z) in inl (omega arith)
    stray (e, n) (inr l) = inr (rw e l)

    there : ((o.finish < o.start) ⊎ (largest_stamp < o.finish)) ⊎ Stray → (o.finish < o.start) ⊎ (latest o < o.finish)
    there (inl (inl a)) = inl a
    there (inl (inr b)) = inr (omega (arith, over (is_opening o)))
    there (inr s) = stray s (zero_or o.finish)

    behind : (b : Bool) → is_opening o ≡ b → cond b 0 largest_stamp < o.finish → ((o.finish < o.start) ⊎ (largest_stamp < o.finish)) ⊎ Stray
    behind true e l = inr (e, λ z. omega (arith, z.1))
    behind false e l = inl (inr l)

    back : (o.finish < o.start) ⊎ (latest o < o.finish) → ((o.finish < o.start) ⊎ (largest_stamp < o.finish)) ⊎ Stray
    back (inl a) = inl (inl a)
    back (inr l) = behind (is_opening o) refl l

pub told_reopens : (h : List Op) (o : Op) → Told ((is_opening o ≡ true) × ((e : Op) × In e h × ((e.row < o.row) × (is_opening e ≡ true)))) (reopens h o)
unfolding reopens opens_too
told_reopens h o = told_and (told_flag (is_opening o)) (told_any (opens_too o) h (λ e. told_and (told_ltb e.row o.row) (told_flag (is_opening e))))

abbrev pub Repeats : Op → Op → Type 0
Repeats o e = ((e.row < o.row) × (is_write e ≡ true)) × (e.value ≡ o.value)

pub told_rewrites : (h : List Op) (o : Op) → Told ((is_write o ≡ true) × ((e : Op) × In e h × Repeats o e)) (rewrites h o)
unfolding rewrites repeats
told_rewrites h o =
    told_and (told_write o) (told_any (repeats o) h (λ e. told_and (told_and (told_ltb e.row o.row) (told_write e)) (told_eqb e.value o.value)))

pub told_unwritten : (h : List Op) (o : Op) → Told ((o.kind ≡ 2) × (((w : Op) × In w h × Dictates w o) → ⊥)) (unwritten h o)
unfolding unwritten dictated_by
told_unwritten h o = told_and (told_read o) (told_not (told_any (dictated_by o) h (λ w. told_dictates w o)))

pub told_early : (h : List Op) (o : Op) → Told ((o.kind ≡ 2) × ((w : Op) × In w h × (Dictates w o × Precedes o w))) (too_early h o)
unfolding too_early precedes_write
told_early h o = told_and (told_read o) (told_any (precedes_write o) h (λ w. told_and (told_dictates w o) (told_precedes o w)))

pub tests_coded : (size : ℕ) (h : List Op) (b : Bool) → Coded (tests size h b)
unfolding tests
tests_coded size h b = omega arith

module _ (size : ℕ) (h : List Op) where
  none_meets : (p : Op → Bool) → lowest_row p h ≡ None → (o : Op) → In o h → p o ≡ false
  none_meets p = nothing_none (λ o. o.row) p h

  meets_none : (p : Op → Bool) → ((o : Op) → In o h → p o ≡ false) → lowest_row p h ≡ None
  meets_none p = none_nothing (λ o. o.row) p h

  right_span : (o : Op) → wrong_span o ≡ false → Spanned o
  right_span o e =
      let n = told_false (told_span o) e in
      let a : o.finish < o.start → ⊥ = λ k. n (inl k) in
      let b : latest o < o.finish → ⊥ = λ k. n (inr k) in
      (omega arith, omega arith)

  span_right : (o : Op) → Spanned o → wrong_span o ≡ false
  span_right o s = false_told (told_span o) go
    where
      go : (o.finish < o.start) ⊎ (latest o < o.finish) → ⊥
      go (inl l) = omega (arith, s.0)
      go (inr l) = omega (arith, s.1)

  right_kind : (o : Op) → wrong_kind o ≡ false → (is_write o ≡ true) ⊎ (o.kind ≡ 2)
  unfolding wrong_kind
  right_kind o e = told_true (told_or (told_write o) (told_read o)) (not-false (is_write o || is_read o) e)

  has_write : (r : Op) → unwritten h r ≡ false → r.kind ≡ 2 → (w : Op) × In w h × Dictates w r
  unfolding unwritten dictated_by
  has_write r e k = told_true (told_any (dictated_by r) h (λ w. told_dictates w r)) (not-false _ (rw (true_told (told_read r) k) at e))

  -- Where no condition is met, there is a question and the register is as the record says.
  pub no_fault_asked : (b : Bool) → NoFault (tests size h b) → b ≡ false
  unfolding tests
  no_fault_asked b f = if_so_lem b f.1.1.0

  pub no_fault_screened : (b : Bool) → NoFault (tests size h b) → Screened size h
  unfolding tests
  no_fault_screened b f =
      let kind = none_meets wrong_kind f.1.1.1.0 in
      let span = none_meets wrong_span f.1.1.1.1.0 in
      let again = none_meets (reopens h) f.1.1.1.1.1.0 in
      let twin = none_meets (rewrites h) f.1.1.1.1.1.1.0 in
      let orphan = none_meets (unwritten h) f.1.1.1.1.1.1.1.0 in
      let early = none_meets (too_early h) f.1.1.1.1.1.1.1.1.0 in
      record {
        whole = eqb-true (size % 5) 0 (not-false _ (if_so_lem _ f.0));
        few = ltb-false largest_count (size / 5) (if_so_lem _ f.1.0);
        kinds = λ o m. right_kind o (kind o m);
        spans = λ o m. right_span o (span o m);
        openings = λ x y mx my l ox oy. told_false (told_reopens h y) (again y my) (oy, (x, mx, (l, ox)));
        values = λ x y mx my l kx ky q. told_false (told_rewrites h y) (twin y my) (ky, (x, mx, ((l, kx), q)));
        written = λ r m k. has_write r (orphan r m) k;
        timely = λ w r mw mr d p. told_false (told_early h r) (early r mr) (d.reads, (w, mw, (d, p)));
      }

  -- And the other way round.
  pub screened_no_fault : (b : Bool) → b ≡ false → Screened size h → NoFault (tests size h b)
  unfolding tests
  screened_no_fault b e s = (
    if_not _ (ap not (eq-eqb (size % 5) 0 s.whole)),
    (
      if_not _ (le-ltb largest_count (size / 5) s.few),
      (
        if_not b e,
        (
          meets_none wrong_kind (λ o m. false_told (told_kind o) (λ n. n (s.kinds o m))),
          (
            meets_none wrong_span (λ o m. span_right o (s.spans o m)),
            (
              meets_none (reopens h) (λ o m. false_told (told_reopens h o) (λ k. s.openings k.1.0 o k.1.1 m k.1.2.0 k.1.2.1 k.0)),
              (
                meets_none (rewrites h) (λ o m. false_told (told_rewrites h o) (λ k. s.values k.1.0 o k.1.1 m k.1.2.0.0 k.1.2.0.1 k.0 k.1.2.1)),
                (
                  meets_none (unwritten h) (λ o m. false_told (told_unwritten h o) (λ k. k.1 (s.written o m k.0))),
                  (
                    meets_none (too_early h) (λ o m. false_told (told_early h o) (λ k. s.timely k.1.0 o k.1.1 m k.1.2.0 k.1.2.1)),
                    tt,
                  ),
                ),
              ),
            ),
          ),
        ),
      ),
    ),
  )

  pub examined_exactly : (b : Bool) → ((examined size h b).code ≡ 0) ↔ ((b ≡ false) × Screened size h)
  unfolding examined
  examined_exactly b = (
    λ e. let f = code_no_fault (tests size h b) (tests_coded size h b) (passed (length h)) e in (no_fault_asked b f, no_fault_screened b f),
    λ s. ap (λ a. a.code) (no_fault_answer (tests size h b) (passed (length h)) (screened_no_fault b s.0 s.1)),
  )

-- THE SCREENING'S MEANING: it gives code 0 exactly to the registers that are `Screened`.
pub screening_exactly : (t : List ℕ) (register : ℕ) → ((screening t register).code ≡ 0) ↔ Screened (length t) (history t register)
unfolding screening
screening_exactly t register =
    let x = examined_exactly (length t) (history t register) false in
    (λ e. (x.0 e).1, λ s. x.1 (refl, s))
