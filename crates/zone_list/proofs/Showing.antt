-- THE ZONE LIST SHOWS each write of the register once, with the direction and the ends of its zone (document 02, W-206).
-- Assumes nothing.
use Prim.Native.Nat.{ℕ, zero, suc, ◌+◌, ◌*◌, ◌≤◌, ◌<◌}
use mathlib.Core.Path.{◌≡◌, refl, ap, sym, ◌∙◌}
use mathlib.Core.Logic.{◌⊎◌, inl, inr, ◌≢◌}
use mathlib.Core.Bool.{Bool, true, false}
use mathlib.Core.List.{List, ◌∷◌, Memᴰ as In}
use native.Mathlib.Omega.{arith}
use lib.ListN.{length, get_or, take, drop}
use Rattle.lists.specs.Sorts.{sort}
use Rattle.lists.proofs.Tests.{test}
use Rattle.lists.proofs.Entries.{flat_long, flat_at, flat_part}
use Rattle.lists.proofs.Images.{get_d_in, in_at, pairs_at}
use Rattle.lists.proofs.Pairs.{pairs_find}
use Rattle.lists.proofs.Sorts.{in_sort, sort_in, sort_length, by_key}
use Rattle.history.specs.declared.Op.{Op}
use Rattle.history.specs.Table.{is_opening, is_write}
use Rattle.history.specs.Screen.{Screened}
use Rattle.methods.specs.Prepared.{prepared}
use Rattle.methods.specs.Place.{writes, write_count}
use Rattle.methods.specs.Zones.{low, forward, zone_of, low_first}
use Rattle.methods.specs.Mark.{written}
use Rattle.witnesses.specs.Histories.{Write}
use Rattle.witnesses.proofs.Parts.{in_writes, writes_in}
use Rattle.preparation.specs.Claims.{RowsRise}
use Rattle.preparation.proofs.Counts.{keeps_writes}
use Rattle.preparation.proofs.Shorten.{prepared_history}
use Rattle.clusters.proofs.Clusters.{Differ, differ_sym, writes_apart}
use Rattle.positions.specs.Columns.{nothing}
use Rattle.zone_list.specs.ZoneList.{stamps_of, directed, numbers_of, zone_list}
use Rattle.zone_list.specs.Shown.{ahead, Shows, Shown}
use Rattle.zone_list.proofs.Comparing.{anew, in_prepared, prepared_in, opening_writes, compares}
use Rattle.zone_list.proofs.Opening.{lowest, opening_forward}
use Rattle.zone_list.proofs.Listing.{numbers_long}

-- four numbers a write of the register
pub list_count : (h : List Op) → length (zone_list h) ≡ write_count h * 4
unfolding zone_list
list_count h =
    let H = prepared h in
    flat_long (numbers_of h H) 4 (numbers_long h H) (sort (low_first H) (writes H))
    ∙ ap (λ (n : ℕ). n * 4) (sort_length (low_first H) (writes H) ∙ keeps_writes h)

module _ {size : ℕ} {h : List Op} (s : Screened size h) (a : RowsRise h) (old list : List ℕ) (e : list ≡ written (zone_list h) old) where
  abbrev H : List Op
  H = prepared h

  -- the writes by low end
  abbrev ws : List Op
  ws = sort (low_first H) (writes H)

  abbrev rest : List ℕ
  rest = drop (length (zone_list h)) old

  as_many : length ws ≡ write_count h
  as_many = sort_length (low_first H) (writes H) ∙ keeps_writes h

  write_in : {w : Op} → In w ws → Write H w
  write_in m = in_writes H (in_sort (low_first H) (writes H) m)

  -- the direction by ranks is that by the recorded stamps
  same_way : (o : Op) → In o h → Write H (anew s a o) → forward (zone_of H (anew s a o)) ≡ ahead h o
  unfolding stamps_of is_opening
  same_way o m k = go (test (is_opening o))
    where
      go : (is_opening o ≡ true) ⊎ (is_opening o ≡ false) → forward (zone_of H (anew s a o)) ≡ ahead h o
      go (inl e) = opening_forward s a o e k ∙ rw e refl
      go (inr e) = compares s a k k e ∙ rw e refl

  -- the numbers of a prepared write are those of the recorded one
  same_numbers : (o : Op) → In o h → Write H (anew s a o) → numbers_of h H (anew s a o) ≡ o.row ∷ directed (ahead h o) (stamps_of h o)
  unfolding stamps_of
  same_numbers o m k = ap (λ (b : Bool). o.row ∷ directed b (stamps_of h o)) (same_way o m k)

  part : (i : ℕ) → i < length ws → take 4 (drop (i * 4) list) ≡ numbers_of h H (get_or ws i nothing)
  unfolding zone_list
  part i l = ap (λ (x : List ℕ). take 4 (drop (i * 4) x)) e ∙ flat_part (numbers_of h H) 4 (numbers_long h H) nothing ws rest i l

  shows : (i : ℕ) → i < length ws → (o : Op) → In o h → get_or ws i nothing ≡ anew s a o → Shows h list i o
  shows i l o m q =
      part i l
      ∙ ap (numbers_of h H) q
      ∙ same_numbers o m (rw q at (write_in (get_d_in ws nothing i l)))

  row_at : (i : ℕ) → i < length ws → get_or list (i * 4) 0 ≡ (get_or ws i nothing).row
  unfolding zone_list
  row_at i l =
      let k : i * 4 ≡ i * 4 + 0 = omega arith in
      ap (λ (n : ℕ). get_or list n 0) k
      ∙ ap (λ (x : List ℕ). get_or x (i * 4 + 0) 0) e
      ∙ flat_at (numbers_of h H) 4 (numbers_long h H) nothing ws rest i 0 l (omega arith)

  rows_differ : (v w : Op) → In v H → In w H → Differ v w → v.row ≢ w.row
  rows_differ v w m n d q =
      let (x, i, k) = in_prepared s a m in
      let (y, j, l) = in_prepared s a n in
      let u : x.row ≡ y.row = sym (ap (λ (o : Op). o.row) k) ∙ q ∙ ap (λ (o : Op). o.row) l in
      go x y u (pairs_find a i j (λ c. d (ap (λ (o : Op). o.value) k ∙ ap (λ (o : Op). o.value) c ∙ sym (ap (λ (o : Op). o.value) l))))
    where
      go : (x y : Op) → x.row ≡ y.row → (x.row < y.row) ⊎ (y.row < x.row) → ⊥
      go x y u (inl l) = omega (arith, u)
      go x y u (inr l) = omega (arith, u)

  -- each write of the register has its place
  place : (o : Op) → In o h → is_write o ≡ true → (i : ℕ) × (i < length ws) × (get_or ws i nothing ≡ anew s a o)
  unfolding is_write is_opening
  place o m k = in_at nothing (sort_in (low_first H) (writes H) (writes_in H (record { mem = prepared_in s a m; write = k })))

  -- two places have zones by low end, of writes of two values
  apart : (i j : ℕ) → i < j → j < length ws → (low (zone_of H (get_or ws i nothing)) ≤ low (zone_of H (get_or ws j nothing))) × Differ (get_or ws i nothing) (get_or ws j nothing)
  apart i j l k = pairs_at nothing (by_key (λ w. low (zone_of H w)) differ_sym (writes_apart (prepared_history s a))) i j l k

  -- the place of the opening is the first
  opening_at : (i : ℕ) → i < length ws → is_opening (get_or ws i nothing) ≡ true → i ≡ 0
  opening_at zero l e = refl
  opening_at (suc i) l e =
      let d = apart 0 (suc i) (omega arith) l in
      let v = write_in (get_d_in ws nothing 0 (omega arith)) in
      absurd (omega (arith, d.0, lowest s a v (write_in (get_d_in ws nothing (suc i) l)) e (λ q. d.1 (sym q))))

  pub shown : Shown h list
  unfolding is_write is_opening
  shown =
      record {
        each = λ i l.
            let b : i < length ws = omega (arith, as_many) in
            let w = write_in (get_d_in ws nothing i b) in
            let (o, m, q) = in_prepared s a w.mem in
            (o, m, sym (ap (λ (x : Op). is_write x) q) ∙ w.write, shows i b o m q);
        all = λ o m k.
            let (i, l, q) = place o m k in
            (i, omega (arith, as_many), shows i l o m q);
        once = λ i j l k q.
            let b : j < length ws = omega (arith, as_many) in
            let c : i < length ws = omega arith in
            rows_differ (get_or ws i nothing) (get_or ws j nothing) (write_in (get_d_in ws nothing i c)).mem (write_in (get_d_in ws nothing j b)).mem (apart i j l b).1
            (sym (row_at i c) ∙ q ∙ row_at j b);
        first = λ o m k.
            let (i, l, q) = place o m (opening_writes o k) in
            let z : i ≡ 0 = opening_at i l (ap (λ (x : Op). is_opening x) q ∙ k) in
            let n : 0 < length ws = omega (arith, z, l) in
            row_at 0 n ∙ ap (λ (j : ℕ). (get_or ws j nothing).row) (sym z) ∙ ap (λ (x : Op). x.row) q;
      }
