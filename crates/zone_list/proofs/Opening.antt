-- The opening's zone (document 02, W-207): it lies below every other, and is forward when it has a read.
-- Assumes nothing.
use Prim.Native.Nat.{ℕ, ◌<◌}
use mathlib.Core.Path.{◌≡◌, refl, ap, sym, ◌∙◌}
use mathlib.Core.Bool.{true, false}
use mathlib.Core.Logic.{◌⊎◌, inl, inr, ◌≢◌}
use mathlib.Core.List.{List, Memᴰ as In}
use native.Mathlib.Omega.{arith}
use Rattle.lists.specs.Lists.{any}
use Rattle.lists.proofs.Tests.{test, told_same, told_as, told_ltb}
use Rattle.lists.proofs.Members.{told_any}
use Rattle.lists.proofs.Pairs.{pairs_find}
use Rattle.history.specs.declared.Op.{Op}
use Rattle.history.specs.Table.{is_opening, is_write, dictates, Dictates}
use Rattle.history.specs.Screen.{Screened}
use Rattle.history.proofs.Operations.{told_dictates}
use Rattle.methods.specs.Prepared.{prepared}
use Rattle.methods.specs.Zones.{low, forward, first_finish, last_start, zone_of}
use Rattle.witnesses.specs.Histories.{Write, Reads, Prepared}
use Rattle.preparation.specs.Claims.{RowsRise}
use Rattle.preparation.proofs.Timed.{read_kind}
use Rattle.preparation.proofs.Shorten.{prepared_history}
use Rattle.clusters.proofs.Clusters.{last_is, first_finish_lem, starts_by_lem}
use Rattle.zone_list.proofs.Comparing.{anew, in_prepared, prepared_in}

module _ {size : ℕ} {h : List Op} (s : Screened size h) (a : RowsRise h) where
  abbrev H : List Op
  H = prepared h

  -- there is one opening
  one_opening : {w x : Op} → In w h → In x h → is_opening w ≡ true → w.value ≢ x.value → is_opening x ≡ false
  one_opening {w} {x} m n e d = go (test (is_opening x))
    where
      which : is_opening x ≡ true → (w.row < x.row) ⊎ (x.row < w.row) → is_opening x ≡ false
      which f (inl l) = absurd (s.openings w x m n l e f)
      which f (inr l) = absurd (s.openings x w n m l f e)

      go : (is_opening x ≡ true) ⊎ (is_opening x ≡ false) → is_opening x ≡ false
      go (inr f) = f
      go (inl f) = which f (pairs_find a m n (λ c. d (ap (λ (o : Op). o.value) c)))

  -- ITS LOW END is below every other: it finishes before another write starts
  pub lowest : {v w : Op} → Write H v → Write H w → is_opening w ≡ true → w.value ≢ v.value → low (zone_of H w) < low (zone_of H v)
  unfolding is_opening
  lowest {v} {w} kv kw e d =
      let g : Prepared H = prepared_history s a in
      let (x, i, p) = in_prepared s a kv.mem in
      let (o, j, q) = in_prepared s a kw.mem in
      let n = one_opening j i (ap (λ (z : Op). is_opening z) (sym q) ∙ e) (λ c. d (ap (λ (z : Op). z.value) q ∙ c ∙ ap (λ (z : Op). z.value) (sym p))) in
      omega (
        arith,
        first_finish_lem g kw,
        first_finish_lem g kv,
        starts_by_lem g {w = v} {x = v} kv kv.mem refl,
        g.proper.span v kv.mem,
        g.clock w v kw.mem kv.mem (inr (e, ap (λ (z : Op). is_opening z) p ∙ n)),
      )

  -- IT IS FORWARD when it has a read
  module _ (o : Op) (e : is_opening o ≡ true) (k : Write H (anew s a o)) where
    abbrev w : Op
    w = anew s a o

    abbrev Read : Type 0
    Read = (r : Op) × In r h × Dictates o r

    read_forward : Read → first_finish H w < last_start H w
    unfolding is_opening
    read_forward (r, i, d) =
        let g : Prepared H = prepared_history s a in
        let f : is_opening r ≡ false = rw d.reads in
        omega (
          arith,
          first_finish_lem g k,
          starts_by_lem g {w = w} {x = anew s a r} k (prepared_in s a i) (sym d.same),
          g.clock w (anew s a r) k.mem (prepared_in s a i) (inr (e, f)),
        )

    forward_read : first_finish H w < last_start H w → Read
    unfolding is_write is_opening
    forward_read l = let (x, n, b, q) = last_is k in go x b q
      where
        go : (x : Op) → (x ≡ w) ⊎ Reads H w x → last_start H w ≡ x.start → Read
        go x (inl c) q =
            let g : Prepared H = prepared_history s a in
            absurd (omega (arith, first_finish_lem g k, g.proper.span w k.mem, ap (λ (z : Op). z.start) c))
        go x (inr d) q =
            let (r, i, c) = in_prepared s a d.mem in
            (r, i, record { writes = k.write; reads = read_kind s i (ap (λ (z : Op). is_write z) (sym c) ∙ d.read); same = d.same ∙ ap (λ (z : Op). z.value) c })

    pub opening_forward : forward (zone_of H w) ≡ any (dictates o) h
    opening_forward =
        told_same (told_as forward_read read_forward (told_ltb (first_finish H w) (last_start H w))) (told_any (dictates o) h (λ r. told_dictates o r))
