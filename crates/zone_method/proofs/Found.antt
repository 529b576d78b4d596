-- What the zone method's code finds is the definition's answer.
-- Assumes nothing.
use Prim.Native.Nat.{ℕ, ◌-◌, ◌≤◌, ◌<◌}
use mathlib.Core.Path.{◌≡◌, refl, ap, sym, ◌∙◌}
use mathlib.Core.Bool.{Bool, true, false}
use mathlib.Core.List.Memᴰ.{head as here}
use mathlib.Core.List.Memᴰ.{tail as there}
use mathlib.Core.List.{List, [], ◌∷◌, ◌++◌, flat_map, append-nil, Memᴰ as In}
use native.Mathlib.Omega.{arith}
use lib.ListN.{length, get_or, length-drop, drop_of_length-le}
use lib.Seq.{take_all}
use Rattle.lists.proofs.Images.{map_append, get_d_in}
use Rattle.history.specs.declared.Op.{Op}
use Rattle.methods.specs.Zones.{order, cluster, is_one, in_order, zones}
use Rattle.methods.specs.Mark.{untried}
use Rattle.positions.specs.Places.{upto, Once}
use Rattle.positions.specs.Columns.{Cols, size, read_of, Sound, op, ops, Of, Says}
use Rattle.positions.proofs.Once.{pairs_once}
use Rattle.positions.proofs.Places.{upto_length}
use Rattle.placing.specs.States.{State, is_free, laid, state_of, Ready}
use Rattle.placing.specs.declared.Search.TheVariants.{Stale, Fresh}
use Rattle.placing.specs.Searched.{between, Searched, is_stale, is_fresh}
use Rattle.zones.specs.Zones.{Zoned, writes_at, by_low, cluster_at}
use Rattle.zone_method.specs.Lay.{Whole, Lays}
use Rattle.zones.proofs.Zone.{cluster_at_lem}
use Rattle.zones.proofs.ByLow.{by_low_write, by_low_in, by_low_apart, by_low_lem, write_of}

-- the clusters of a list of writes
pub clusters_at : {C : Cols} {H : List Op} (o : Of C H) (p : Sound C) (l : List ℕ) → ((w : ℕ) → In w l → In w (writes_at C.writer)) →
    flat_map (cluster H) (ops H l) ≡ ops H (flat_map (cluster_at C.writer) l)
unfolding flat_map
clusters_at o p [] h = refl
clusters_at {C} {H} o p (w ∷ l) h =
    let k = write_of o (h w (here refl)) in
    rw (clusters_at o p l (λ x m. h x (there m)))
    (ap (λ (c : List Op). c ++ ops H (flat_map (cluster_at C.writer) l)) (cluster_at_lem o w k.0 k.1)
    ∙ rw p.shape.long (sym (map_append (op H) (w ∷ upto (read_of C.writer w) (size C)) (flat_map (cluster_at C.writer) l))))

-- a state's order, as an answer holds it
pub whole_order : (s : State) → between s.order s.at (length s.order) ≡ laid s
whole_order s = take_all (length s.order - s.at) (laid s) (rw (length-drop) (omega arith))

module _ (C : Cols) (p : Sound C) (h : size C ≤ 1024) (late : List ℕ) (g : Zoned C late) (L : List ℕ) (q : L ≡ by_low C.finish late C.writer)
    (one : Bool) (d : Says C (λ H. one ≡ is_one H)) where
  pub search_stale : (list : List ℕ) → one ≡ false → (allowance : ℕ) →
      Searched C allowance (λ H. untried (zones H)) list (Stale 0)
  unfolding zones
  search_stale list e allowance =
      is_stale {t = 0} (omega arith) (λ H o. let k : is_one H ≡ false = sym (d H o) ∙ e in rw k refl)

  -- nothing is placed yet: no mark is set, and the order has all its places
  module _ (placed cells : List ℕ) (m : size C ≤ length placed) (f : (j : ℕ) → j < length placed → is_free placed j ≡ true) (z : size C ≤ length cells) where
    abbrev s : State
    s = state_of placed cells (length cells) (length C.writer)

    -- what `lay` requires
    pub lay_asks : Ready (length C.writer) s × (Whole C.writer L (length L) s × Once L)
    lay_asks = (
      record {
        size = omega (arith, p.shape.long);
        within = omega arith;
        marks = omega (arith, p.shape.long);
        high = omega arith;
        room = omega (arith, upto_length (is_free placed) (length C.writer), p.shape.long);
        above = λ j a b. absurd (omega arith);
      },
      (
        record {
          inside = λ i l. (listed i l).0;
          write = λ i l. (listed i l).1;
          free = λ i j l k e. f j (omega (arith, p.shape.long));
        },
        rw q (pairs_once (by_low_apart C.finish late C.writer)),
      ),
    )
      where
        listed : (i : ℕ) → i < length L → (get_or L i 0 < length C.writer) × (get_or C.writer (get_or L i 0) 0 ≡ get_or L i 0)
        listed i l = by_low_write C.finish late C.writer (member (get_d_in L 0 i l))
          where
            member : {w : ℕ} → In w L → In w (by_low C.finish late C.writer)
            member m = rw q at m

    pub search_fresh : (t : State) → one ≡ true → Lays C.writer L s t → length t.order ≡ length cells → (allowance : ℕ) →
        Searched C allowance (λ H. untried (zones H)) t.order (Fresh t.at (length cells) 0)
    unfolding zones in_order
    search_fresh t e k y allowance =
        is_fresh {from = t.at} {to = length cells} {t = 0} (omega arith) (omega (arith, k.ready.high, y)) (omega (arith, y))
        (λ H o.
        let b : is_one H ≡ true = sym (d H o) ∙ e in
        rw b
        (ap (λ (l : List Op). untried (order l))
        (ap (flat_map (cluster H)) (sym (by_low_lem o late g))
        ∙ ap (λ (l : List ℕ). flat_map (cluster H) (ops H l)) (sym q)
        ∙ clusters_at o p L (λ w m. by_low_in C.finish late C.writer (rw q at m))
        ∙ ap (ops H) (sym (ap (between t.order t.at) (sym y) ∙ whole_order t ∙ all_laid)))))
      where
        all_laid : laid t ≡ flat_map (cluster_at C.writer) L
        all_laid = k.order ∙ rw (drop_of_length-le cells {i = length cells} (omega arith)) (append-nil _)
