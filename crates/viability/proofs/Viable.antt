-- Viability (document 01, "FZF"): an order of writes that passes the test makes a valid 2-atomic order, and the order of a witness's positions
-- passes it.
-- Assumes nothing.
use Prim.Native.Nat.{ℕ, ◌≤◌, ◌<◌}
use mathlib.Core.Path.{◌≡◌, refl, sym, ap, ◌∙◌}
use mathlib.Core.Logic.{◌⊎◌, inl, inr}
use mathlib.Core.Bool.{Bool, true, false, ◌||◌}
use mathlib.Core.List.Memᴰ.{head as here}
use mathlib.Core.List.Memᴰ.{tail as there}
use mathlib.Core.List.{List, [], ◌∷◌, ◌++◌, map, Memᴰ as In}
use native.Mathlib.Omega.{arith}
use lib.ListN.{take}
use borrow.Author.Tests.{eqb-true, eq-eqb, not-true}
use Rattle.lists.specs.Lists.{all}
use Rattle.lists.specs.Pairs.{Pairs, nil}
use Rattle.lists.proofs.Tests.{both, true_not, and_true, true_and, or_true, true_or}
use Rattle.lists.proofs.Every.{All?, each, all?, true_all}
use Rattle.lists.proofs.Pairs.{pairs_head, pairs_tail}
use Rattle.history.specs.declared.Op.{Op}
use Rattle.history.specs.Table.{is_write}
use Rattle.methods.specs.Prepared.{no_write, same_value}
use Rattle.methods.specs.Place.{later, rest, segment}
use Rattle.methods.specs.Zones.{Decision, none, order}
use Rattle.methods.specs.Fzf.{of_first, may_follow, put_behind, viable, back, first_viable}
use Rattle.witnesses.specs.Histories.{Write, Reads, Prepared}
use Rattle.witnesses.specs.Orders.{run_nil, Orders}
use Rattle.witnesses.specs.Witness.{Witness}
use Rattle.witnesses.proofs.Parts.{in_later, in_rest, Quiet, stays, prepared_rest, witness_sub}
use Rattle.witnesses.proofs.Steps.{step_sound, Last, step_quiet, step_next}
use Rattle.clusters.proofs.Clusters.{Differ, differ_sym, home}
use Rattle.viability.proofs.Listed.{Perm, perm_sym, perm_in, perm_pairs}

-- No order is not an order, and an order is one list.
pub not_none : {o : List Op} → none ≡ order o → ⊥
not_none e = let z : ◌≡◌ {A = ℕ} 0 1 = cc in omega arith

pub same_order : {o p : List Op} → order o ≡ order p → o ≡ p
same_order e = cc

-- l lists the writes of K, each once
pub record Covers (l K : List Op) : Type 0 where
  pub from : (w : Op) → In w l → Write K w
  pub into : (w : Op) → Write K w → In w l
  pub apart : Pairs Differ l

pub covers_perm : {l m K : List Op} → Perm l m → Covers l K → Covers m K
covers_perm p c =
    record {
      from = λ w i. c.from w (perm_in (perm_sym p) i);
      into = λ w k. perm_in p (c.into w k);
      apart = perm_pairs differ_sym p c.apart;
    }

-- so the others list the writes that the placing of the first leaves
covers_rest : {w : Op} {l K : List Op} → Quiet w K → Covers (w ∷ l) K → Covers l (rest w K)
covers_rest {w} {l} {K} q c =
    record {
      from = λ v m. stays w K q v (c.from v (there m)) (λ e. pairs_head c.apart v m (sym e));
      into = λ v k. into v k (c.into v (record { mem = (in_rest w K k.mem).0; write = k.write }));
      apart = pairs_tail c.apart;
    }
  where
    into : (v : Op) → Write (rest w K) v → In v (w ∷ l) → In v l
    into v k (here e) = absurd ((in_rest w K k.mem).2 (ap (λ o. o.value) e))
    into v k (there m) = m

-- the values of writes
abbrev values : List Op → List ℕ
values l = map (λ x. x.value) l

-- All that is later passes the test, so it is reads, of w or of the write before w.
abbrev Pass : Op → List Op → List Op → Type 0
Pass w l K = (o : Op) → In o (later w K) → may_follow w l o ≡ true

module _ (w : Op) (l K : List Op) (h : Pass w l K) where
  told : (o : Op) → In o (later w K) → (no_write o ≡ true) × ((same_value w o || of_first l o) ≡ true)
  told o m = and_true (no_write o) (same_value w o || of_first l o) (h o m)

  pass_quiet : Quiet w K
  pass_quiet o m = not-true _ (told o m).0

  pass_near : (o : Op) → In o (later w K) → In o.value (take 2 (w.value ∷ values l))
  unfolding of_first
  pass_near o m = go l (or_true (same_value w o) (of_first l o) (told o m).1)
    where
      go : (l : List Op) → (same_value w o ≡ true) ⊎ (of_first l o ≡ true) → In o.value (take 2 (w.value ∷ values l))
      go l (inl q) = here (eqb-true _ _ q)
      go [] (inr q) = absurd (both q refl)
      go (v ∷ l) (inr q) = there (here (eqb-true _ _ q))

-- SOUND: a viable order makes an order of the operations, one step behind the other. The values passed are those of its writes.

data Viable? (l K : List Op) : Decision → Type 0 where
  is_none : Viable? l K none
  is_order : {o : List Op} (h : Orders 2 K o) → h.passed ≡ values l → Viable? l K (order o)

viable? : (l K : List Op) → Prepared K → Covers l K → Viable? l K (viable l K)
unfolding viable put_behind
viable? [] K g c =
    is_order {o = []}
    (record { from = λ x m. elim m [ ]; into = λ x m. let (w, k, e) = home g x m in elim (c.into w k) [ ]; pairs = nil; passed = []; runs = run_nil })
    refl
viable? (w ∷ l) K g c =
    go (all (may_follow w l) (later w K)) (all? (may_follow w l) (later w K)) (λ q. viable? l (rest w K) (prepared_rest w q g) (covers_rest q c))
  where
    put : Pass w l K → (a : Decision) → Viable? l (rest w K) a → Viable? (w ∷ l) K (put_behind a (segment w K))
    put p none is_none = is_none
    put p (order o) (is_order h e) =
        let (r, q) = step_sound w K g (c.from w (here refl)) h (pass_quiet w l K p) (λ x m. rw e (pass_near w l K p x m)) in
        is_order r (q ∙ ap (λ s. w.value ∷ s) e)

    go : (b : Bool) → All? (may_follow w l) (later w K) b → (Quiet w K → Viable? l (rest w K) (viable l (rest w K))) →
        Viable? (w ∷ l) K (elim b [ true ↦ put_behind (viable l (rest w K)) (segment w K) | false ↦ none ])
    go false i ih = is_none
    go true (each h) ih = put h _ (ih (pass_quiet w l K h))

viable_orders : (l K : List Op) → Prepared K → Covers l K → (o : List Op) → viable l K ≡ order o → Orders 2 K o
viable_orders l K g c o e = go (viable l K) (viable? l K g c) e
  where
    go : (a : Decision) → Viable? l K a → a ≡ order o → Orders 2 K o
    go none i q = absurd (not_none q)
    go (order p) (is_order h i) q = rw (same_order q) at h

-- COMPLETE: with a witness, the writes by falling position pass.

module _ (pos : Op → ℕ) where
  abbrev pub Falls : List Op → Type 0
  Falls l = Pairs (λ x y. pos y < pos x) l

  module _ {w : Op} {l K : List Op} (g : Prepared K) (k : Witness pos 2 K) (c : Covers (w ∷ l) K) (f : Falls (w ∷ l)) where
    last : Last pos K w
    last = record { wr = c.from w (here refl); top = λ z m. go z (c.into z m) }
      where
        go : (z : Op) → In z (w ∷ l) → pos z ≤ pos w
        go z (here e) = omega (arith, ap pos e)
        go z (there m) = omega (arith, pairs_head f z m)

    -- a later operation is a read, of w or of the write before w, which is the last one of the rest
    may_follow_lem : Pass w l K
    unfolding of_first
    may_follow_lem o m = true_and (true_not read) (true_or (same_value w o) (of_first l o) (value (g.proper.dict o (in_later w K m).0 read)))
      where
        read : is_write o ≡ false
        read = step_quiet k last o m

        first : (v : Op) → v.value ≡ o.value → (l : List Op) → Falls l → ((u : Op) → In u l → pos u ≤ pos v) → In v l → of_first l o ≡ true
        first v e (u ∷ l) f t (here q) = eq-eqb _ _ (sym e ∙ ap (λ x. x.value) q)
        first v e (u ∷ l) f t (there i) = absurd (omega (arith, pairs_head f v i, t u (here refl)))
        first v e [] f t x3 = elim x3 [ ]

        other : (v : Op) → Reads K v o → In v l → of_first l o ≡ true
        other v d i =
            let t = step_next k last v o d m (λ e. pairs_head c.apart v i (sym e)) in
            first v d.same l (pairs_tail f) (λ u j. t.top u ((covers_rest (step_quiet k last) c).from u j)) i

        value : (v : Op) × Reads K v o → (same_value w o ≡ true) ⊎ (of_first l o ≡ true)
        value (v, d) = go (c.into v d.by)
          where
            go : In v (w ∷ l) → (same_value w o ≡ true) ⊎ (of_first l o ≡ true)
            go (here e) = inl (eq-eqb _ _ (sym d.same ∙ ap (λ x. x.value) e))
            go (there i) = inr (other v d i)

  pub viable_complete : (l K : List Op) → Prepared K → Witness pos 2 K → Covers l K → Falls l → (o : List Op) × (viable l K ≡ order o)
  unfolding viable put_behind
  viable_complete [] K g k c f = ([], refl)
  viable_complete (w ∷ l) K g k c f =
      go (all (may_follow w l) (later w K)) (true_all (may_follow w l) (later w K) pass)
      (viable_complete l (rest w K) (prepared_rest w quiet g) (witness_sub (λ x m. (in_rest w K m).0) k) (covers_rest quiet c) (pairs_tail f))
    where
      pass : Pass w l K
      pass = may_follow_lem g k c f

      quiet : Quiet w K
      quiet = pass_quiet w l K pass

      go : (b : Bool) → b ≡ true → (o : List Op) × (viable l (rest w K) ≡ order o) →
          (o : List Op) × (elim b [ true ↦ put_behind (viable l (rest w K)) (segment w K) | false ↦ none ] ≡ order o)
      go true e (o, q) = (o ++ segment w K, rw q)
      go false e i = absurd (both e refl)

-- The first viable one.

pub first_orders : (ts : List (List Op)) (K : List Op) → Prepared K → ((t : List Op) → In t ts → Covers (back t) K) → (o : List Op) →
    first_viable ts K ≡ order o → Orders 2 K o
unfolding first_viable
first_orders [] K g c o e = absurd (not_none e)
first_orders (t ∷ ts) K g c o e = go (viable (back t) K) refl (first_orders ts K g (λ u m. c u (there m)) o) e
  where
    go : (a : Decision) → viable (back t) K ≡ a → (first_viable ts K ≡ order o → Orders 2 K o) →
        elim a [ none ↦ first_viable ts K | order p ↦ order p ] ≡ order o → Orders 2 K o
    go none q ih d = ih d
    go (order p) q ih d = viable_orders (back t) K g (c t (here refl)) o (q ∙ d)

pub first_found : (ts : List (List Op)) (K t o : List Op) → In t ts → viable (back t) K ≡ order o → (p : List Op) × (first_viable ts K ≡ order p)
unfolding first_viable
first_found (u ∷ ts) K t o m e = go (viable (back u) K) refl m (first_found ts K t o)
  where
    go : (a : Decision) → viable (back u) K ≡ a → In t (u ∷ ts) →
        (In t ts → viable (back t) K ≡ order o → (p : List Op) × (first_viable ts K ≡ order p)) →
        (p : List Op) × (elim a [ none ↦ first_viable ts K | order p ↦ order p ] ≡ order p)
    go (order p) q i ih = (p, refl)
    go none q (there i) ih = ih i e
    go none q (here i) ih = absurd (not_none (sym q ∙ (ap (λ x. viable (back x) K) (sym i) ∙ e)))
first_found [] K t o m e = elim m [ ]
