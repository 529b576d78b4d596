-- What each answer of a step and of an epoch says (000, figure 2, lines 10 to 22): one statement a function, from which soundness and
-- completeness follow.
-- Assumes nothing.
use Prim.Native.Nat.{ℕ, zero, suc, ◌≤◌, ◌<◌}
use mathlib.Core.Path.{◌≡◌, refl, sym, ap, ◌∙◌}
use mathlib.Core.Logic.{◌⊎◌, inl, inr, ◌≢◌}
use mathlib.Core.Bool.{Bool, true, false, cond}
use mathlib.Core.List.Memᴰ.{head as here}
use mathlib.Core.List.Memᴰ.{tail as there}
use mathlib.Core.List.{List, [], ◌∷◌, ◌++◌, Memᴰ as In}
use native.Mathlib.Omega.{arith}
use borrow.Author.Tests.{eqb-true, eqb-false, eq-eqb, not-true, not-false}
use Rattle.lists.specs.Lists.{keep, all}
use Rattle.lists.proofs.Tests.{test}
use Rattle.lists.proofs.Members.{in_keep, keep_in}
use Rattle.lists.proofs.Every.{All?, each, some_not, all?}
use Rattle.lists.proofs.Counts.{some_length}
use Rattle.history.specs.declared.Op.{Op}
use Rattle.history.specs.Table.{is_write}
use Rattle.methods.specs.Prepared.{no_write, same_value}
use Rattle.methods.specs.Place.{later, others, rest, segment, writes, write_count}
use Rattle.methods.specs.Lbt.{Step, bad, done, next, pick, choose, step, Epoch, failed, placed, behind, epoch}
use Rattle.witnesses.specs.Histories.{Write, Prepared}
use Rattle.witnesses.proofs.Parts.{in_others, in_rest, in_writes, writes_in, mine_or_not, Quiet, stays, fewer, prepared_rest}

-- A step.

pub data Bad (w : Op) (H : List Op) : Type 0 where
  late_write : (o : Op) → In o (later w H) → is_write o ≡ true → Bad w H
  two_values : Quiet w H → (a b : Op) → In a (later w H) → In b (later w H) → a.value ≢ w.value → b.value ≢ w.value →
      b.value ≢ a.value → Bad w H
  no_writer : Quiet w H → (o : Op) → In o (later w H) → ((v : Op) → Write H v → v.value ≢ o.value) → Bad w H

pub record Done (w : Op) (H : List Op) : Type 0 where
  pub quiet : Quiet w H
  pub own : (o : Op) → In o (later w H) → o.value ≡ w.value

pub record Next (w : Op) (H : List Op) (v : Op) : Type 0 where
  pub quiet : Quiet w H
  pub own : (o : Op) → In o (later w H) → (o.value ≡ w.value) ⊎ (o.value ≡ v.value)
  pub asked : Write H v
  pub other : v.value ≢ w.value
  pub why : Op
  pub late : In why (later w H)
  pub asks : why.value ≡ v.value

pub data Step? (w : Op) (H : List Op) : Step → Type 0 where
  is_bad : Bad w H → Step? w H bad
  is_done : Done w H → Step? w H done
  is_next : {v : Op} → Next w H v → Step? w H (next v)

module _ (w : Op) (H : List Op) where
  pick? : Quiet w H → (o : Op) → In o (later w H) → o.value ≢ w.value →
      ((x : Op) → In x (later w H) → (x.value ≡ w.value) ⊎ (x.value ≡ o.value)) → (l : List Op) →
      ((v : Op) → In v l → Write H v × (v.value ≡ o.value)) → ((v : Op) → Write H v → v.value ≡ o.value → In v l) → Step? w H (pick l)
  unfolding pick
  pick? q o m n own [] sub cov = is_bad (no_writer q o m (λ v k e. elim (cov v k e) [ ]))
  pick? q o m n own (v ∷ l) sub cov =
      is_next
      (record {
        quiet = q;
        own = λ x k. go x (own x k);
        asked = fact.0;
        other = λ e. n (sym fact.1 ∙ e);
        why = o;
        late = m;
        asks = sym fact.1;
      })
    where
      fact : Write H v × (v.value ≡ o.value)
      fact = sub v (here refl)

      go : (x : Op) → (x.value ≡ w.value) ⊎ (x.value ≡ o.value) → (x.value ≡ w.value) ⊎ (x.value ≡ v.value)
      go x (inl e) = inl e
      go x (inr e) = inr (e ∙ sym fact.1)

  choose? : Quiet w H → (l : List Op) → ((o : Op) → In o l → In o (later w H) × (o.value ≢ w.value)) →
      ((o : Op) → In o (later w H) → (o.value ≡ w.value) ⊎ In o l) → Step? w H (choose H l)
  unfolding choose
  choose? q [] sub cov = is_done (record { quiet = q; own = λ o m. go o (cov o m) })
    where
      go : (o : Op) → (o.value ≡ w.value) ⊎ In o [] → o.value ≡ w.value
      go o (inl e) = e
      go o (inr m) = elim m [ ]
  choose? q (o ∷ l) sub cov = go (all (same_value o) l) (all? (same_value o) l)
    where
      late : In o (later w H)
      late = (sub o (here refl)).0

      differs : o.value ≢ w.value
      differs = (sub o (here refl)).1

      own : ((x : Op) → In x l → same_value o x ≡ true) → (x : Op) → (x.value ≡ w.value) ⊎ In x (o ∷ l) →
          (x.value ≡ w.value) ⊎ (x.value ≡ o.value)
      own h x (inl e) = inl e
      own h x (inr (here e)) = inr (ap (λ y. y.value) e)
      own h x (inr (there m)) = inr (eqb-true _ _ (h x m))

      from : (v : Op) → In v (writes (keep (same_value o) H)) → Write H v × (v.value ≡ o.value)
      from v m = let a = in_writes (keep (same_value o) H) m in let b = in_keep (same_value o) H a.mem in (record { mem = b.0; write = a.write }, eqb-true _ _ b.1)

      into : (v : Op) → Write H v → v.value ≡ o.value → In v (writes (keep (same_value o) H))
      into v k e = writes_in _ (record { mem = keep_in (same_value o) H k.mem (eq-eqb _ _ e); write = k.write })

      go : (b : Bool) → All? (same_value o) l b → Step? w H (cond b (pick (writes (keep (same_value o) H))) bad)
      go true (each h) = pick? q o late differs (λ x m. own h x (cov x m)) _ from into
      go false (some_not b m n) = is_bad (two_values q o b late (sub b (there m)).0 differs (sub b (there m)).1 (eqb-false _ _ n))

  pub step? : Step? w H (step w H)
  unfolding step
  step? = go (all no_write (later w H)) (all? no_write (later w H))
    where
      go : (b : Bool) → All? no_write (later w H) b → Step? w H (cond b (choose H (others w H)) bad)
      go true (each h) = choose? (λ o m. not-true _ (h o m)) (others w H) (λ o m. in_others w H m) (λ o m. mine_or_not w (later w H) m)
      go false (some_not o m n) = is_bad (late_write o m (not-false _ n))

-- An epoch.

pub data Fails : Op → List Op → Type 0 where
  fails_now : {w : Op} {H : List Op} → Bad w H → Fails w H
  fails_on : {w : Op} {H : List Op} {v : Op} → Next w H v → Fails v (rest w H) → Fails w H

-- from w in H an epoch leaves l and places o
pub data Wins : Op → List Op → List Op → List Op → Type 0 where
  wins_now : {w : Op} {H : List Op} → Done w H → Wins w H (rest w H) (segment w H)
  wins_on : {w : Op} {H : List Op} {v : Op} {l o : List Op} → Next w H v → Wins v (rest w H) l o → Wins w H l (o ++ segment w H)

pub data Epoch? (w : Op) (H : List Op) : Epoch → Type 0 where
  is_failed : Fails w H → Epoch? w H failed
  is_placed : {l o : List Op} → Wins w H l o → Epoch? w H (placed l o)

pub epoch? : (n : ℕ) (w : Op) (H : List Op) → Write H w → write_count H ≤ n → Epoch? w H (epoch n w H)
unfolding epoch behind
epoch? zero w H k h = let i = some_length (writes_in H k) in absurd (omega arith)
epoch? (suc n) w H k h = go (step w H) (step? w H) (λ v. epoch? n v (rest w H))
  where
    back : {v : Op} → Next w H v → (r : Epoch) → Epoch? v (rest w H) r → Epoch? w H (behind (segment w H) r)
    back x failed (is_failed t) = is_failed (fails_on x t)
    back x (placed l o) (is_placed t) = is_placed (wins_on x t)

    go : (r : Step) → Step? w H r → ((v : Op) → Write (rest w H) v → write_count (rest w H) ≤ n → Epoch? v (rest w H) (epoch n v (rest w H))) →
        Epoch? w H (elim r [ bad ↦ failed | done ↦ placed (rest w H) (segment w H) | next v ↦ behind (segment w H) (epoch n v (rest w H)) ])
    go bad (is_bad b) ih = is_failed (fails_now b)
    go done (is_done d) ih = is_placed (wins_now d)
    go (next v) (is_next x) ih = back x _ (ih v (stays w H x.quiet v x.asked x.other) (omega (arith, fewer w H k)))

-- what an epoch leaves is part of the history, is good with it, and has fewer writes
pub record Part (l H : List Op) : Type 0 where
  pub sub : (x : Op) → In x l → In x H
  pub good : Prepared H → Prepared l
  pub less : write_count l < write_count H

pub wins_part : {w : Op} {H l o : List Op} → Write H w → Wins w H l o → Part l H
wins_part {w} {H} k (wins_now d) = record { sub = λ x m. (in_rest w H m).0; good = prepared_rest w d.quiet; less = fewer w H k }
wins_part {w} {H} k (wins_on {v = v} x t) =
    let p = wins_part (stays w H x.quiet v x.asked x.other) t in
    record {
      sub = λ y m. (in_rest w H (p.sub y m)).0;
      good = λ g. p.good (prepared_rest w x.quiet g);
      less = omega (arith, fewer w H k, p.less);
    }

-- a history that is good and not empty has a write
pub has_write : (x : Op) (l : List Op) → Prepared (x ∷ l) → 0 < write_count (x ∷ l)
has_write x l g = go (test (is_write x))
  where
    go : (is_write x ≡ true) ⊎ (is_write x ≡ false) → 0 < write_count (x ∷ l)
    go (inl e) = some_length (writes_in (x ∷ l) (record { mem = here refl; write = e }))
    go (inr e) = some_length (writes_in (x ∷ l) (g.proper.dict x (here refl) e).1.by)
