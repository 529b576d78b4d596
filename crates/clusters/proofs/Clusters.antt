-- The clusters of a prepared history: their smallest finish and largest start, the history of some clusters alone, and the order of one.
-- Assumes nothing.
use Prim.Native.Nat.{ℕ, suc, ◌≤◌, ◌<◌}
use mathlib.Core.Path.{◌≡◌, refl, sym, ap, ◌∙◌}
use mathlib.Core.Logic.{◌⊎◌, inl, inr, ◌≢◌}
use mathlib.Core.Bool.{true, false}
use mathlib.Core.List.Memᴰ
use mathlib.Core.List.Memᴰ.{eq_of_singleton as alone}
use mathlib.Core.List.Memᴰ.{head as here}
use mathlib.Core.List.Memᴰ.{tail as there}
use mathlib.Core.List.{List, [], ◌∷◌, Memᴰ as In}
use native.Mathlib.Omega.{arith}
use native.Mathlib.Decide.{dec_lt}
use Rattle.lists.specs.Pairs.{Pairs, cons}
use Rattle.lists.proofs.Tests.{Told, told_true, true_told, told_eqb, test, both}
use Rattle.lists.proofs.Members.{in_keep, keep_in, told_any}
use Rattle.lists.proofs.Pairs.{pairs_keep, pairs_map}
use Rattle.history.specs.declared.Op.{Op}
use Rattle.history.specs.Table.{is_write}
use Rattle.methods.specs.Extremes.{greatest}
use Rattle.methods.specs.Prepared.{no_write, same_value, reads_of}
use Rattle.methods.specs.Place.{writes}
use Rattle.methods.specs.Zones.{cluster, first_finish, last_start}
use Rattle.methods.specs.Fzf.{some_same, only}
use Rattle.witnesses.specs.Histories.{Write, Reads, Prepared}
use Rattle.witnesses.specs.Orders.{Before, run_write, Orders}
use Rattle.witnesses.specs.Witness.{Witness}
use Rattle.witnesses.proofs.Runs.{run_reads}
use Rattle.witnesses.proofs.Extremes.{least_first, greatest_first, greatest_in, greatest_is}
use Rattle.witnesses.proofs.Parts.{in_reads_of, reads_of_in, in_sequence, named, in_writes, Closed, prepared_keep}
use Rattle.clusters.specs.Zones.{FirstFinish}

-- two clusters
abbrev pub Differ : Op → Op → Type 0
Differ v w = v.value ≢ w.value

pub differ_sym : (v w : Op) → Differ v w → Differ w v
differ_sym v w n e = n (sym e)

-- the largest start is that of an operation of the cluster: the write or a read
pub last_is : {H : List Op} {w : Op} → Write H w → (o : Op) × In o H × ((o ≡ w) ⊎ Reads H w o) × (last_start H w ≡ o.start)
unfolding last_start
last_is {H} {w} k = go (greatest_is (λ o. o.start) w.start (reads_of H w))
  where
    go : {n : ℕ} → (n ≡ w.start) ⊎ ((r : Op) × In r (reads_of H w) × (n ≡ r.start)) → (o : Op) × In o H × ((o ≡ w) ⊎ Reads H w o) × (n ≡ o.start)
    go (inl e) = (w, k.mem, inl refl, e)
    go (inr (r, m, e)) = let d = in_reads_of H k m in (r, d.mem, inr d, e)

-- The history of some clusters alone.

some_same_lem : (ws : List Op) (x : Op) → Told ((w : Op) × In w ws × (x.value ≡ w.value)) (some_same ws x)
some_same_lem ws x = told_any (λ w. same_value w x) ws (λ w. told_eqb x.value w.value)

pub in_only : (ws H : List Op) {x : Op} → In x (only ws H) → In x H × ((w : Op) × In w ws × (x.value ≡ w.value))
in_only ws H {x} m = let k = in_keep (some_same ws) H m in (k.0, told_true (some_same_lem ws x) k.1)

pub only_in : (ws H : List Op) {x w : Op} → In x H → In w ws → x.value ≡ w.value → In x (only ws H)
only_in ws H {x} {w} m n e = keep_in (some_same ws) H m (true_told (some_same_lem ws x) (w, n, e))

module _ {H : List Op} (g : Prepared H) where
  -- it is prepared, as each read's write has its value
  pub prepared_only : (ws : List Op) → Prepared (only ws H)
  prepared_only ws = prepared_keep (some_same ws) closed g
    where
      closed : Closed (some_same ws) H
      closed w r d e = let (v, m, q) = told_true (some_same_lem ws r) e in true_told (some_same_lem ws w) (v, m, d.same ∙ q)

  -- the smallest finish is that of the write, as its reads finish later
  pub first_finish_lem : {w : Op} → Write H w → FirstFinish H w
  unfolding first_finish
  first_finish_lem {w} k = least_first (λ o. o.finish) w.finish (reads_of H w) (λ r m. omega (arith, g.first w r (in_reads_of H k m)))

  -- no finish is a start
  pub not_last : {v w : Op} → Write H v → Write H w → first_finish H v ≢ last_start H w
  not_last {v} kv kw e = let (o, m, b, q) = last_is kw in g.cross v o kv.mem m (omega (arith, first_finish_lem kv))

  -- an operation of the value of w is w or a read of w
  of_cluster : {w x : Op} → Write H w → In x H → x.value ≡ w.value → (x ≡ w) ⊎ Reads H w x
  of_cluster {w} {x} k m e = go (test (is_write x))
    where
      go : (is_write x ≡ true) ⊎ (is_write x ≡ false) → (x ≡ w) ⊎ Reads H w x
      go (inl q) = inl (g.proper.one x w (record { mem = m; write = q }) k e)
      go (inr q) = inr (record { by = k; mem = m; read = q; same = sym e })

  -- each operation is in a cluster
  pub home : (x : Op) → In x H → (w : Op) × Write H w × (x.value ≡ w.value)
  home x m = go (test (is_write x))
    where
      go : (is_write x ≡ true) ⊎ (is_write x ≡ false) → (w : Op) × Write H w × (x.value ≡ w.value)
      go (inl q) = (x, record { mem = m; write = q }, refl)
      go (inr q) = let d = g.proper.dict x m q in (d.0, d.1.by, sym d.1.same)

  -- no operation of the cluster starts after the largest start or finishes before the smallest finish
  pub starts_by_lem : {w x : Op} → Write H w → In x H → x.value ≡ w.value → x.start ≤ last_start H w
  unfolding last_start
  starts_by_lem {w} {x} k m e = go (of_cluster k m e)
    where
      go : (x ≡ w) ⊎ Reads H w x → x.start ≤ greatest (λ o. o.start) w.start (reads_of H w)
      go (inl q) = omega (arith, ap (λ o. o.start) q, greatest_first (λ o. o.start) w.start (reads_of H w))
      go (inr d) = greatest_in (λ o. o.start) _ _ (reads_of_in H d)

  pub ends_from : {w x : Op} → Write H w → In x H → x.value ≡ w.value → first_finish H w ≤ x.finish
  ends_from {w} {x} k m e = go (of_cluster k m e)
    where
      go : (x ≡ w) ⊎ Reads H w x → first_finish H w ≤ x.finish
      go (inl q) = omega (arith, first_finish_lem k, ap (λ o. o.finish) q)
      go (inr d) = omega (arith, first_finish_lem k, g.first w x d)

  -- The premise of the joining lemma, told by clusters: other clusters, and each largest start is no later than each smallest finish.
  pub follows : (vs ws : List Op) → ((v : Op) → In v vs → Write H v) → ((w : Op) → In w ws → Write H w) →
      ((v w : Op) → In v vs → In w ws → Differ v w × (last_start H v ≤ first_finish H w)) →
      (x y : Op) → In x (only vs H) → In y (only ws H) → Before x y
  follows vs ws kv kw h x y m n =
      let (i, (v, a, d)) = in_only vs H m in
      let (j, (w, b, e)) = in_only ws H n in
      let (c, l) = h v w a b in
      record {
        apart = λ q. c (sym d ∙ (ap (λ o. o.value) (named g.proper.rows x y i j q) ∙ e));
        valid = λ p. omega (arith, l, starts_by_lem (kv v a) i d, ends_from (kw w b) j e, g.clock y x j i p);
      }

  -- one cluster: the write first, then its reads by start
  pub cluster_orders : (k : ℕ) {w : Op} → Write H w → Orders (suc k) (only (w ∷ []) H) (cluster H w)
  cluster_orders k {w} kw =
      record {
        from = from;
        into = into;
        pairs = cons (λ y m. first y (in_reads_of H kw m)) (pairs_keep no_write (pairs_keep (same_value w) (in_sequence g)));
        passed = w.value ∷ [];
        runs = run_write kw.write (run_reads (reads_of H w) (λ x m. let d = in_reads_of H kw m in (d.read, here (sym d.same))));
      }
    where
      first : (y : Op) → Reads H w y → Before w y
      first y d =
          record {
            apart = λ e. both kw.write (ap is_write (named g.proper.rows w y kw.mem d.mem e) ∙ d.read);
            valid = λ p. omega (arith, g.proper.span w kw.mem, g.first w y d, g.clock y w d.mem kw.mem p);
          }

      from : (x : Op) → In x (cluster H w) → In x (only (w ∷ []) H)
      from x (here e) = only_in (w ∷ []) H (Memᴰ.cast e kw.mem) (here refl) (ap (λ o. o.value) e)
      from x (there m) = let d = in_reads_of H kw m in only_in (w ∷ []) H d.mem (here refl) (sym d.same)

      into : (x : Op) → In x (only (w ∷ []) H) → In x (cluster H w)
      into x m = let (i, (v, n, e)) = in_only (w ∷ []) H m in go (of_cluster kw i (e ∙ ap (λ o. o.value) (alone n)))
        where
          go : (x ≡ w) ⊎ Reads H w x → In x (cluster H w)
          go (inl e) = here e
          go (inr d) = there (reads_of_in H d)

  -- different writes write different values
  pub writes_apart : Pairs Differ (writes H)
  writes_apart =
      pairs_map (pairs_keep is_write g.proper.rows) (λ v w m n r e. r (ap (λ o. o.row) (g.proper.one v w (in_writes H m) (in_writes H n) e)))

  -- Where a write x finishes before the largest start of the cluster of c, it comes before c, or between c and a read of c.
  pub before_or_between : {pos : Op → ℕ} {k : ℕ} → Witness pos k H → {x c : Op} → Write H x → Write H c → x ≢ c → first_finish H x < last_start H c →
      (pos x < pos c) ⊎ ((r : Op) × Reads H c r × (pos c < pos x) × (pos x < pos r))
  before_or_between {pos} k {x} {c} kx kc n h =
      let (o, m, b, q) = last_is kc in
      go o b (k.valid x o kx.mem m (inl (omega (arith, first_finish_lem kx)))) (dec_lt (pos x) (pos c))
    where
      go : (o : Op) → (o ≡ c) ⊎ Reads H c o → pos x < pos o → Dec (pos x < pos c) →
          (pos x < pos c) ⊎ ((r : Op) × Reads H c r × (pos c < pos x) × (pos x < pos r))
      go o b a (yes d) = inl d
      go o (inl e) a (no d) = inl (omega (arith, ap pos e))
      go o (inr r) a (no d) = let i : pos x ≢ pos c = λ p. n (k.apart x c kx.mem kc.mem p) in inr (o, r, omega arith, a)
