-- THE LIST DECIDES as the zone definition does (document 02, W-206).
-- Assumes nothing.
use Prim.Native.Nat.{ℕ, suc, ◌+◌, ◌*◌, ◌≤◌, ◌<◌}
use mathlib.Core.Path.{◌≡◌, refl, ap, sym, ◌∙◌}
use mathlib.Core.Logic.{◌⊎◌, inl, inr}
use mathlib.Core.Bool.{Bool, true, false, cond}
use mathlib.Core.List.Memᴰ.{head as here}
use mathlib.Core.List.Memᴰ.{tail as there}
use mathlib.Core.List.{List, [], ◌∷◌, map, Memᴰ as In}
use native.Mathlib.Omega.{arith}
use lib.Dec.{ltb}
use lib.ListN.{length, get_or, drop}
use borrow.Author.Tests.{le-ltb}
use Rattle.lists.specs.Lists.{from, up_to}
use Rattle.lists.specs.Sorts.{sort}
use Rattle.lists.specs.Pairs.{Pairs, nil, cons}
use Rattle.lists.proofs.Tests.{test}
use Rattle.lists.proofs.Pairs.{pairs_map}
use Rattle.lists.proofs.Entries.{flat_long, flat_at}
use Rattle.lists.proofs.Images.{map_twice}
use Rattle.lists.proofs.Sorts.{in_sort, by_key}
use Rattle.history.specs.declared.Op.{Op}
use Rattle.history.specs.Table.{is_opening}
use Rattle.history.specs.Screen.{Screened}
use Rattle.methods.specs.declared.Zone.{Zone}
use Rattle.methods.specs.Prepared.{prepared}
use Rattle.methods.specs.Place.{writes}
use Rattle.methods.specs.Zones.{low, forward, zone_of, low_first, is_one}
use Rattle.methods.specs.Mark.{written}
use Rattle.witnesses.specs.Histories.{Write}
use Rattle.witnesses.proofs.Parts.{in_writes}
use Rattle.preparation.specs.Claims.{RowsRise}
use Rattle.preparation.proofs.Rows.{history_rows}
use Rattle.preparation.proofs.Shorten.{prepared_history}
use Rattle.clusters.specs.Pass.{reached, passes}
use Rattle.clusters.proofs.Clusters.{Differ, differ_sym, writes_apart}
use Rattle.clusters.proofs.One.{pass_decides}
use Rattle.positions.specs.Columns.{Cols, nothing, op, Of, Says}
use Rattle.columns.specs.Rows.{Listed}
use Rattle.columns.specs.Made.{Made}
use Rattle.zones.specs.Zones.{zone_by, Zoned, by_low}
use Rattle.zones.proofs.ByLow.{zone_at, by_low_lem, by_low_in}
use Rattle.zone_list.specs.ZoneList.{stamps_of, directed, numbers_of, zone_list}
use Rattle.zone_list.specs.Stamps.{OfRows}
use Rattle.zone_list.proofs.Comparing.{compares}
use Rattle.zone_list.proofs.Opening.{lowest}
use Rattle.zone_list.proofs.Listing.{numbers_long}
use Rattle.zone_method.specs.Deciding.{finish_at, reached_at, passes_at, decides}

-- images that agree on a list
map_alike : {A B : Type 0} (f g : A → B) (l : List A) → ((x : A) → In x l → f x ≡ g x) → map f l ≡ map g l
map_alike f g [] h = refl
map_alike {A} {B} f g (x ∷ l) h =
    ap (λ (y : B). y ∷ map f l) (h x (here refl)) ∙ ap (λ (y : List B). g x ∷ y) (map_alike f g l (λ y m. h y (there m)))

-- the four numbers at a place of the list are those of a write, with the direction and the stamps of its zone
module _ (list : List ℕ) (i row : ℕ) (z : Zone) where
  abbrev Has : Bool → Type 0
  Has b = (k : ℕ) → k < 4 → get_or list (i * 4 + k) 0 ≡ get_or (row ∷ directed b z) k 0

  has_finish : (b : Bool) → Has b → finish_at list i ≡ z.finish
  unfolding finish_at
  has_finish true h = rw (h 1 (omega arith), h 2 (omega arith)) refl
  has_finish false h = rw (h 1 (omega arith), h 3 (omega arith)) refl

  has_reached : (b : Bool) → Has b → (bound : ℕ) → reached_at list bound i ≡ cond b z.start bound
  unfolding reached_at
  has_reached true h bound = rw (h 1 (omega arith), h 3 (omega arith)) refl
  has_reached false h bound = rw (h 1 (omega arith)) refl

module _ {size : ℕ} {h : List Op} (s : Screened size h) (a : RowsRise h) where
  abbrev H : List Op
  H = prepared h

  -- the writes by low end
  abbrev ws : List Op
  ws = sort (low_first H) (writes H)

  write_in : {w : Op} → In w ws → Write H w
  write_in m = in_writes H (in_sort (low_first H) (writes H) m)

  -- the opening comes first
  abbrev Later : Op → Op → Type 0
  Later w x = is_opening x ≡ false

  opening_first : Pairs Later ws
  opening_first =
      pairs_map (by_key (λ w. low (zone_of H w)) differ_sym (writes_apart (prepared_history s a)))
      (λ w x m n d. go w x (write_in m) (write_in n) d (test (is_opening x)))
    where
      go : (w x : Op) → Write H w → Write H x → (low (zone_of H w) ≤ low (zone_of H x)) × Differ w x → (is_opening x ≡ true) ⊎ (is_opening x ≡ false) → is_opening x ≡ false
      go w x k l d (inl e) = absurd (omega (arith, d.0, lowest s a k l e (λ q. d.1 (sym q))))
      go w x k l d (inr e) = e

  -- THE PASS OVER THE NUMBERS, which are recorded stamps, goes as the pass over the zones
  module _ (list : List ℕ) where
    abbrev Holds : ℕ → Op → Type 0
    Holds i w = (k : ℕ) → k < 4 → get_or list (i * 4 + k) 0 ≡ get_or (numbers_of h H w) k 0

    pass_shown : (b c i : ℕ) {l : List Op} → Pairs Later l → ((x : Op) → In x l → Write H x) → ((x : Op) → In x l → ltb (zone_of H x).finish b ≡ ltb (stamps_of h x).finish c) →
        ((j : ℕ) → j < length l → Holds (i + j) (get_or l j nothing)) → passes_at list c (from i (length l)) ≡ passes b (map (zone_of H) l)
    unfolding passes_at passes reached from
    pass_shown b c i nil own alike holds = refl
    pass_shown b c i (cons {x = w} {l = l} u t) own alike holds =
        let e : i + 0 ≡ i = omega arith in
        let n : Holds i w = rw e at (holds 0 (omega arith)) in
        rw (has_finish list i w.row (stamps_of h w) (forward (zone_of H w)) n, has_reached list i w.row (stamps_of h w) (forward (zone_of H w)) n c, ← alike w (here refl))
        (ap (λ (d : Bool). cond (ltb (zone_of H w).finish b) false d)
        (go (forward (zone_of H w)) (λ p q k. pass_shown p q (suc i) t (λ x m. own x (there m)) k (λ j m. let r : i + suc j ≡ suc i + j = omega arith in rw r at (holds (suc j) (omega arith))))))
      where
        go : (d : Bool) → ((p q : ℕ) → ((x : Op) → In x l → ltb (zone_of H x).finish p ≡ ltb (stamps_of h x).finish q) → passes_at list q (from (suc i) (length l)) ≡ passes p (map (zone_of H) l)) →
            passes_at list (cond d (stamps_of h w).start c) (from (suc i) (length l)) ≡ passes (cond d (zone_of H w).start b) (map (zone_of H) l)
        go true ih = ih (zone_of H w).start (stamps_of h w).start (λ x m. compares s a (own x (there m)) (own w (here refl)) (u x m))
        go false ih = ih b c (λ x m. alike x (there m))

  pub list_decides : (old list : List ℕ) (n : ℕ) → list ≡ written (zone_list h) old → length (zone_list h) ≡ n * 4 → decides list n ≡ is_one H
  unfolding decides zone_list
  list_decides old list n e c =
      ap (λ (k : ℕ). passes_at list 0 (up_to k)) count
      ∙ pass_shown list 0 0 0 opening_first (λ x m. write_in m)
      (λ x m. le-ltb (zone_of H x).finish 0 (omega arith) ∙ sym (le-ltb (stamps_of h x).finish 0 (omega arith)))
      (λ j l. let k : 0 + j ≡ j = omega arith in rw k (numbers j l))
      ∙ pass_decides (prepared_history s a)
    where
      count : n ≡ length ws
      count = omega (arith, c, flat_long (numbers_of h H) 4 (numbers_long h H) ws)

      numbers : (j : ℕ) → j < length ws → (k : ℕ) → k < 4 → get_or list (j * 4 + k) 0 ≡ get_or (numbers_of h H (get_or ws j nothing)) k 0
      numbers j l k b =
          ap (λ (x : List ℕ). get_or x (j * 4 + k) 0) e
          ∙ flat_at (numbers_of h H) 4 (numbers_long h H) nothing ws (drop (length (zone_list h)) old) j k l b

-- the zones in columns decide for every history that has the columns
columns_decide : {C : Cols} {H : List Op} (o : Of C H) (late : List ℕ) → Zoned C late → is_one H ≡ passes 0 (map (zone_by C.finish late) (by_low C.finish late C.writer))
columns_decide {C} {H} o late z =
    sym (pass_decides o.prepared)
    ∙ ap (λ (l : List Op). passes 0 (map (zone_of H) l)) (sym (by_low_lem o late z))
    ∙ ap (passes 0) (map_twice (zone_of H) (op H) L ∙ map_alike (λ w. zone_of H (op H w)) (zone_by C.finish late) L (λ w m. zone_at o late z (by_low_in C.finish late C.writer m)))
  where
    L : List ℕ
    L = by_low C.finish late C.writer

-- what a filled list decides is so of every history that has the columns
pub filled_decides : {t rows : List ℕ} {C : Cols} {late : List ℕ} {n : ℕ} {old list : List ℕ} → Made t rows C → (register : ℕ) × Listed t register rows →
    Zoned C late → OfRows t rows n old list → n * 4 ≤ length old → Says C (λ H. decides list n ≡ is_one H)
filled_decides {t} {late = late} {n = n} {old = old} {list = list} m (register, g) z f l H o =
    list_decides g.screened (history_rows t register) old list n ((f register g).full l) (f register g).count
    ∙ columns_decide (m.columns register g) late z
    ∙ sym (columns_decide o late z)
