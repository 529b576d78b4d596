-- Operations with other row numbers have the same orders.
-- Assumes nothing.
use Prim.Native.Nat.{ℕ}
use mathlib.Core.Path.{◌≡◌, refl, sym, ap, ◌∙◌}
use mathlib.Core.List.Memᴰ.{head as here}
use mathlib.Core.List.Memᴰ.{tail as there}
use mathlib.Core.List.{List, [], ◌∷◌, map, Memᴰ as In}
use native.Mathlib.Omega.{arith}
use borrow.Author.Tests.{ltb-false, le-ltb}
use Rattle.lists.specs.Pairs.{cons}
use Rattle.lists.proofs.Pairs.{pairs_map, pairs_image, image_pairs}
use Rattle.lists.proofs.Maps.{in_map, map_in}
use Rattle.history.specs.declared.Op.{Op}
use Rattle.history.specs.Table.{is_opening, is_write}
use Rattle.witnesses.specs.Orders.{Runs, run_nil, run_write, run_read, Orders}
use Rattle.preparation.specs.Claims.{RowsRise}
use Rattle.compact.specs.Renumbered.{renumbered, Keeps}

-- a row has one operation
one_row : {h : List Op} → RowsRise h → {a b : Op} → In a h → In b h → a.row ≡ b.row → a ≡ b
one_row (cons u p) (here d) (here e) q = d ∙ sym e
one_row (cons u p) {a} {b} (here d) (there m) q = absurd (omega (arith, u b m, ap (λ (o : Op). o.row) d))
one_row (cons u p) {a} {b} (there m) (here e) q = absurd (omega (arith, u a m, ap (λ (o : Op). o.row) e))
one_row (cons u p) (there m) (there n) q = one_row p m n q
one_row Rattle.lists.specs.Pairs.nil {a = a} {b = b} x7 _ q = elim x7 [ ]

module _ (f : ℕ → ℕ) where
  abbrev g : Op → Op
  g = renumbered f

  -- reads and writes stand as they stood
  runs_on : {k : ℕ} {s e : List ℕ} {o : List Op} → Runs k s o e → Runs k s (map g o) e
  unfolding is_write is_opening
  runs_on run_nil = run_nil
  runs_on (run_write w r) = run_write w (runs_on r)
  runs_on (run_read w m r) = run_read w m (runs_on r)

  runs_back : {k : ℕ} {s e : List ℕ} (o : List Op) → Runs k s (map g o) e → Runs k s o e
  unfolding is_write is_opening
  runs_back [] run_nil = run_nil
  runs_back (x ∷ o) (run_write w r) = run_write w (runs_back o r)
  runs_back (x ∷ o) (run_read w m r) = run_read w m (runs_back o r)

  -- a list of renumbered operations comes from a list of operations
  origin : (h o : List Op) → ((x : Op) → In x o → In x (map g h)) → (l : List Op) × (map g l ≡ o) × ((x : Op) → In x l → In x h)
  origin h [] i = ([], refl, λ x. elim [ ])
  origin h (y ∷ o) i =
      let x = in_map g h (i y (here refl)) in
      let r = origin h o (λ z m. i z (there m)) in
      (x.0 ∷ r.0, rw (← x.2, r.1) refl, each x.0 r.0 x.1 r.2)
    where
      each : (x : Op) (l : List Op) → In x h → ((z : Op) → In z l → In z h) → (z : Op) → In z (x ∷ l) → In z h
      each x l m r z (here e) = rw e m
      each x l m r z (there n) = r z n

  module _ (h : List Op) (keeps : Keeps f h) where
    one_number : {a b : Op} → In a h → In b h → f a.row ≡ f b.row → a.row ≡ b.row
    one_number {a} {b} i j e =
        let l = ltb-false a.row b.row (sym (keeps a b i j) ∙ le-ltb (f a.row) (f b.row) (omega arith)) in
        let m = ltb-false b.row a.row (sym (keeps b a j i) ∙ le-ltb (f b.row) (f a.row) (omega arith)) in
        omega (arith, l, m)

    -- AN ORDER STAYS ONE
    pub orders_on : (k : ℕ) (o : List Op) → Orders k h o → Orders k (map g h) (map g o)
    unfolding is_opening
    orders_on k o i =
        record {
          from = λ x m. let y = in_map g o m in rw y.2 (map_in g (i.from y.0 y.1));
          into = λ x m. let y = in_map g h m in rw y.2 (map_in g (i.into y.0 y.1));
          pairs = pairs_image g (pairs_map i.pairs (λ x y m n b. record { apart = λ e. b.apart (one_number (i.from x m) (i.from y n) e); valid = b.valid }));
          passed = i.passed;
          runs = runs_on i.runs;
        }

    -- AND COMES FROM ONE
    pub orders_back : RowsRise h → (k : ℕ) (o : List Op) → Orders k (map g h) o → (l : List Op) × Orders k h l
    unfolding is_opening
    orders_back rise k o i = let l = origin h o i.from in (l.0, back l.0 l.2 (rw l.1 i))
      where
        back : (l : List Op) → ((x : Op) → In x l → In x h) → Orders k (map g h) (map g l) → Orders k h l
        back l inside j =
            record {
              from = inside;
              into = λ x m.
                  let y = in_map g l (j.into (g x) (map_in g m)) in
                  rw (one_row rise m (inside y.0 y.1) (one_number m (inside y.0 y.1) (ap (λ (z : Op). z.row) y.2))) y.1;
              pairs = pairs_map (image_pairs g l j.pairs) (λ x y m n b. record { apart = λ e. b.apart (ap f e); valid = b.valid });
              passed = j.passed;
              runs = runs_back l j.runs;
            }
