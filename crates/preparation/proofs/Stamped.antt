-- Operations with other stamps: what holds of a history and of its orders whatever the stamps are, and what is asked of the stamps.
-- Assumes nothing.
use Prim.Native.Nat.{ℕ, ◌≤◌}
use mathlib.Core.Path.{◌≡◌, refl, sym, ap, ◌∙◌}
use mathlib.Core.Bool.{false}
use mathlib.Core.List.Memᴰ
use mathlib.Core.List.Memᴰ.{head as here}
use mathlib.Core.List.Memᴰ.{tail as there}
use mathlib.Core.List.{List, [], ◌∷◌, map, Memᴰ as In}
use Rattle.lists.specs.Pairs.{Pairs, nil, cons}
use Rattle.lists.proofs.Maps.{in_map, map_in}
use Rattle.lists.proofs.Pairs.{pairs_map, pairs_image, image_pairs}
use Rattle.history.specs.declared.Op.{Op}
use Rattle.history.specs.Table.{is_opening, is_write, Precedes}
use Rattle.methods.specs.Ranks.{stamped}
use Rattle.methods.specs.Mark.{row_numbers}
use Rattle.witnesses.specs.Histories.{Write, Reads, Proper}
use Rattle.witnesses.specs.Orders.{Before, Runs, run_nil, run_write, run_read, Orders}
use Rattle.witnesses.proofs.Places.{Bef, bef_here, bef_there, bef_pair}
use Rattle.witnesses.proofs.Parts.{named}

module _ (s e : Op → ℕ) where
  -- the operation with new stamps
  abbrev pub anew : Op → Op
  anew o = stamped (s o) (e o) o

  anew_write : (x : Op) → is_write (anew x) ≡ is_write x
  unfolding is_write is_opening
  anew_write x = refl

  pub anew_opening : (x : Op) → is_opening (anew x) ≡ is_opening x
  unfolding is_opening
  anew_opening x = refl

  -- what an operation with new stamps is, it was with the old ones
  pub was : (x : Op) {y : Op} → y ≡ anew x → is_write x ≡ is_write y
  was x p = sym (anew_write x) ∙ ap is_write (sym p)

  pub anew_rows : (o : List Op) → row_numbers (map anew o) ≡ row_numbers o
  anew_rows [] = refl
  anew_rows (x ∷ o) = ap (λ l. x.row ∷ l) (anew_rows o)

  runs_on : {k : ℕ} {a b : List ℕ} {l : List Op} → Runs k a l b → Runs k a (map anew l) b
  runs_on run_nil = run_nil
  runs_on (run_write {x = x} w t) = run_write (anew_write x ∙ w) (runs_on t)
  runs_on (run_read {x = x} n i t) = run_read (anew_write x ∙ n) i (runs_on t)

  runs_back : {k : ℕ} {a b : List ℕ} (l : List Op) → Runs k a (map anew l) b → Runs k a l b
  runs_back [] run_nil = run_nil
  runs_back (x ∷ l) (run_write w t) = run_write (sym (anew_write x) ∙ w) (runs_back l t)
  runs_back (x ∷ l) (run_read n i t) = run_read (sym (anew_write x) ∙ n) i (runs_back l t)

  module _ (H : List Op) where
    pub write_of : {y : Op} → Write (map anew H) y → (x : Op) × Write H x × (y ≡ anew x)
    write_of k = let (x, m, p) = in_map anew H k.mem in (x, record { mem = m; write = was x p ∙ k.write }, p)

    pub reads_of : {v r : Op} → Reads (map anew H) v r → (w x : Op) × Reads H w x × (v ≡ anew w) × (r ≡ anew x)
    reads_of k =
        let (w, u, p) = write_of k.by in
        let (x, m, q) = in_map anew H k.mem in
        let d : w.value ≡ x.value = cc (k.same, ap (λ o. o.value) p, ap (λ o. o.value) q) in
        (w, x, record { by = u; mem = m; read = was x q ∙ k.read; same = d }, p, q)

    -- A HISTORY STAYS ONE where the new stamps are a span
    pub proper_on : Proper H → ((x : Op) → In x H → s x ≤ e x) → Proper (map anew H)
    proper_on g span =
        record {
          rows = pairs_image anew g.rows;
          span = λ y m. let (x, n, p) = in_map anew H m in rw p (span x n);
          one = one;
          dict = dict;
        }
      where
        one : (x y : Op) → Write (map anew H) x → Write (map anew H) y → x.value ≡ y.value → x ≡ y
        one x y m n q =
            let (u, a, i) = write_of m in
            let (v, b, j) = write_of n in
            let z : u ≡ v = g.one u v a b (cc (ap (λ o. o.value) i, ap (λ o. o.value) j)) in
            cc

        dict : (y : Op) → In y (map anew H) → is_write y ≡ false → (w : Op) × Reads (map anew H) w y
        dict y m q =
            let (x, n, p) = in_map anew H m in
            let d = g.dict x n (was x p ∙ q) in
            let by : Write (map anew H) (anew d.0) = record { mem = map_in anew d.1.by.mem; write = anew_write d.0 ∙ d.1.by.write } in
            (anew d.0, record { by = by; mem = m; read = q; same = d.1.same ∙ ap (λ o. o.value) (sym p) })

    -- a list of operations with new stamps, with the old ones again
    pub old : (p : List Op) → ((y : Op) → In y p → In y (map anew H)) → (o : List Op) × (p ≡ map anew o) × ((x : Op) → In x o → In x H)
    old [] h = ([], refl, λ x m. elim m [ ])
    old (y ∷ p) h =
        let i = in_map anew H (h y (here refl)) in
        let k = old p (λ z m. h z (there m)) in
        (i.0 ∷ k.0, cc, into i.1 k.2)
      where
        into : {x : Op} {l : List Op} → In x H → ((z : Op) → In z l → In z H) → (z : Op) → In z (x ∷ l) → In z H
        into m u z (here d) = Memᴰ.cast d m
        into m u z (there n) = u z n

    -- AN ORDER STAYS ONE where what stands before another may do so by the new stamps
    pub orders_on : {k : ℕ} {o : List Op} → Orders k H o → ((a b : Op) → Bef a b o → Precedes (anew b) (anew a) → ⊥) → Orders k (map anew H) (map anew o)
    orders_on {o = o} h valid =
        record {
          from = λ y m. let i = in_map anew o m in rw i.2 (map_in anew (h.from i.0 i.1));
          into = λ y m. let i = in_map anew H m in rw i.2 (map_in anew (h.into i.0 i.1));
          pairs = pairs_image anew (pairs o (λ a b m. record { apart = (bef_pair h.pairs m).apart; valid = valid a b m }));
          passed = h.passed;
          runs = runs_on h.runs;
        }
      where
        pairs : (l : List Op) → ((a b : Op) → Bef a b l → Before (anew a) (anew b)) → Pairs (λ a b. Before (anew a) (anew b)) l
        pairs [] u = nil
        pairs (x ∷ l) u = cons (λ y m. u x y (bef_here refl m)) (pairs l (λ a b m. u a b (bef_there m)))

    -- AND COMES FROM ONE where it may do so by the old ones too
    pub orders_back : Proper H → ((a b : Op) → In a H → In b H → Precedes b a → Precedes (anew b) (anew a)) → {k : ℕ} {p : List Op} → Orders k (map anew H) p →
        (o : List Op) × (p ≡ map anew o) × Orders k H o
    orders_back g valid {k} {p} h = let (o, q, sub) = old p h.from in (o, q, back o sub (rw q at h))
      where
        back : (o : List Op) → ((x : Op) → In x o → In x H) → Orders k (map anew H) (map anew o) → Orders k H o
        back o sub i =
            record {
              from = sub;
              into = λ x m. into x m (in_map anew o (i.into (anew x) (map_in anew m)));
              pairs = pairs_map (image_pairs anew o i.pairs) (λ a b m n u. record { apart = u.apart; valid = λ q. u.valid (valid a b (sub a m) (sub b n) q) });
              passed = i.passed;
              runs = runs_back o i.runs;
            }
          where
            into : (x : Op) → In x H → (y : Op) × In y o × (anew x ≡ anew y) → In x o
            into x m (y, n, d) = Memᴰ.cast (named g.rows x y m (sub y n) (ap (λ u. u.row) d)) n
