-- Complete: with a witness, the epoch from its last write succeeds, so each round does, and the walk is fresh (000, section III).
-- Assumes nothing.
use Prim.Native.Nat.{ℕ, ◌+◌, ◌≤◌, ◌<◌}
use mathlib.Core.Path.{◌≡◌, refl, sym, ap, ◌∙◌}
use mathlib.Core.List.Memᴰ.{head as here}
use mathlib.Core.List.Memᴰ.{tail as there}
use mathlib.Core.List.{List, [], ◌∷◌, ◌++◌, Memᴰ as In}
use mathlib.Core.Logic.{inl}
use native.Mathlib.Omega.{arith}
use native.Mathlib.Decide.{dec_le}
use lib.ListN.{length}
use Rattle.lists.proofs.Tests.{both}
use Rattle.history.specs.declared.Op.{Op}
use Rattle.methods.specs.Place.{rest, writes, write_count}
use Rattle.methods.specs.Lbt.{candidates, Walk, fresh, follow}
use Rattle.witnesses.specs.Histories.{Write, Prepared}
use Rattle.witnesses.specs.Witness.{Witness}
use Rattle.witnesses.proofs.Parts.{in_later, in_rest, in_writes, writes_in, witness_sub, prepared_rest}
use Rattle.witnesses.proofs.Steps.{Last, step_quiet, step_next, last_one}
use Rattle.walks.proofs.Epochs.{Bad, late_write, two_values, no_writer, Next, Fails, fails_now, fails_on, has_write}
use Rattle.walks.proofs.Rounds.{candidate_in, won_part, Walks, ended, stuck, onward}

module _ (pos : Op → ℕ) where
  -- no step from the last write fails
  not_bad : {H : List Op} {w : Op} → Prepared H → Witness pos 2 H → Last pos H w → Bad w H → ⊥
  not_bad g k a (late_write o m e) = both e (step_quiet k a o m)
  not_bad {H} {w} g k a (no_writer q o m n) = let (v, d) = g.proper.dict o (in_later w H m).0 (q o m) in n v d.by d.same
  not_bad {H} {w} g k a (two_values q x y mx my nx ny n) =
      let (v, c) = g.proper.dict x (in_later w H mx).0 (q x mx) in
      let (u, d) = g.proper.dict y (in_later w H my).0 (q y my) in
      let e : u ≡ v = last_one (witness_sub (λ z m. (in_rest w H m).0) k) (step_next k a u y d my (λ e. ny (sym d.same ∙ e))) (step_next k a v x c mx (λ e. nx (sym c.same ∙ e))) in
      n (sym d.same ∙ (ap (λ z. z.value) e ∙ c.same))

  -- and the write that it asks for is the last one of the rest
  next_last : {H : List Op} {w v : Op} → Witness pos 2 H → Last pos H w → Next w H v → Last pos (rest w H) v
  next_last {H} {w} {v} k a x =
      step_next k a v x.why (record { by = x.asked; mem = (in_later w H x.late).0; read = x.quiet x.why x.late; same = sym x.asks }) x.late x.other

  -- so no epoch from the last write fails
  not_fails : {H : List Op} {w : Op} → Prepared H → Witness pos 2 H → Last pos H w → Fails w H → ⊥
  not_fails g k a (fails_now b) = not_bad g k a b
  not_fails {H} {w} g k a (fails_on x t) = not_fails (prepared_rest w x.quiet g) (witness_sub (λ y m. (in_rest w H m).0) k) (next_last k a x) t

  above : {x : Op} {l : List Op} (m : Op) → pos x ≤ pos m → ((z : Op) → In z l → pos z ≤ pos m) → (z : Op) → In z (x ∷ l) → pos z ≤ pos m
  above m h u z (here e) = omega (arith, ap pos e)
  above m h u z (there k) = u z k

  -- a list that is not empty has a largest element
  highest : (x : Op) (l : List Op) → (m : Op) × In m (x ∷ l) × ((z : Op) → In z (x ∷ l) → pos z ≤ pos m)
  highest x [] = (x, here refl, above x (omega arith) (λ z m. elim m [ ]))
  highest x (y ∷ l) = go (highest y l)
    where
      go : (m : Op) × In m (y ∷ l) × ((z : Op) → In z (y ∷ l) → pos z ≤ pos m) →
          (m : Op) × In m (x ∷ (y ∷ l)) × ((z : Op) → In z (x ∷ (y ∷ l)) → pos z ≤ pos m)
      go b = pick (dec_le (pos x) (pos b.0))
        where
          pick : Dec (pos x ≤ pos b.0) → (m : Op) × In m (x ∷ (y ∷ l)) × ((z : Op) → In z (x ∷ (y ∷ l)) → pos z ≤ pos m)
          pick (yes h) = (b.0, there b.1, above b.0 h b.2)
          pick (no h) = (x, here refl, above x (omega arith) (λ z m. omega (arith, b.2 z m)))

  last : (H : List Op) → 0 < write_count H → (w : Op) × Last pos H w
  last H h = go (writes H) h (λ z m. in_writes H m) (λ z m. writes_in H m)
    where
      go : (l : List Op) → 0 < length l → ((z : Op) → In z l → Write H z) → ((z : Op) → Write H z → In z l) → (w : Op) × Last pos H w
      go [] h sub cov = absurd (omega arith)
      go (x ∷ l) h sub cov = let b = highest x l in (b.0, record { wr = sub b.0 b.1; top = λ z m. b.2 z (cov z m) })

  -- the last write is a candidate
  last_candidate : {H : List Op} {w : Op} → Witness pos 2 H → Last pos H w → In w (candidates H)
  last_candidate {H} {w} k a = candidate_in H a.wr (λ z m. go z m (dec_le z.start w.finish))
    where
      go : (z : Op) → Write H z → Dec (z.start ≤ w.finish) → z.start ≤ w.finish
      go z m (yes h) = h
      go z m (no h) = absurd (omega (arith, k.valid w z a.wr.mem m.mem (inl (omega arith)), a.top z m))

  -- COMPLETE: the walk over a prepared history that has a witness is fresh.
  pub complete : {H : List Op} {w : Walk} → Prepared H → Witness pos 2 H → Walks H w → (t : ℕ) × (o : List Op) × (w ≡ fresh t o)
  unfolding follow
  complete g k ended = (0, [], refl)
  complete g k (stuck {x = x} {l = l} i u) =
      let b = last (x ∷ l) (has_write x l g) in absurd (not_fails g k b.1 (u b.0 (last_candidate k b.1)))
  complete g k (onward {o = o} {t = t} u s) =
      let p = won_part u in
      let (n, l, e) = complete (p.good g) (witness_sub p.sub k) s in
      (t + n, l ++ o, ap (follow t o) e)
