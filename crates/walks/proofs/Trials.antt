-- At most 2W - 1 trials. A write whose epoch fails has something that starts after its finish. The candidate that wins that round finishes no
-- later, and nothing that is left starts after the winner's finish, so from then on nothing starts after the failed write's. So each write
-- fails at most once.
-- Assumes nothing.
use Prim.Native.Nat.{ℕ, suc, ◌+◌, ◌-◌, ◌≤◌, ◌<◌}
use mathlib.Core.Path.{◌≡◌, refl, sym, ap}
use mathlib.Core.Logic.{◌⊎◌, inl, inr, ◌≢◌}
use mathlib.Core.List.Memᴰ
use mathlib.Core.List.Memᴰ.{head as here}
use mathlib.Core.List.Memᴰ.{tail as there}
use mathlib.Core.List.{List, ◌∷◌, ◌++◌, Memᴰ as In}
use native.Mathlib.Omega.{arith}
use lib.ListN.{length, length-append}
use Rattle.lists.specs.Lists.{keep, any}
use Rattle.lists.specs.Pairs.{Pairs, cons}
use Rattle.lists.proofs.Tests.{Told, told_true, true_told, told_ltb}
use Rattle.lists.proofs.Members.{in_keep, keep_in, told_any}
use Rattle.lists.proofs.Cover.{no_longer_by}
use Rattle.lists.proofs.Pairs.{pairs_keep, pairs_front, pairs_across, pairs_append}
use Rattle.history.specs.declared.Op.{Op}
use Rattle.history.specs.Table.{is_write}
use Rattle.methods.specs.Place.{starts_after, later, writes, write_count}
use Rattle.methods.specs.Lbt.{Walk, stale, fresh, trials, follow}
use Rattle.witnesses.specs.Histories.{Write, Apart, Prepared}
use Rattle.witnesses.proofs.Parts.{named, in_later, in_rest, in_writes, writes_in, stays}
use Rattle.walks.specs.Lbt.{FewTrials}
use Rattle.walks.proofs.Epochs.{late_write, two_values, no_writer, Fails, fails_now, fails_on, Wins, wins_now, wins_on, wins_part, has_write}
use Rattle.walks.proofs.Rounds.{candidates_fall, candidates_apart, candidates_length, in_candidate, RoundWon, winner, won_part, Walks, ended, stuck, onward}

-- something of H starts after the finish of x
abbrev Followed : List Op → Op → Type 0
Followed H x = (y : Op) × In y H × (x.finish < y.start)

-- the writes of which that holds
abbrev followed : List Op → List Op
followed H = keep (λ x. any (starts_after x) H) (writes H)

told_followed : (H : List Op) (x : Op) → Told (Followed H x) (any (starts_after x) H)
told_followed H x = told_any (starts_after x) H (λ y. told_ltb x.finish y.start)

in_followed : (H : List Op) {x : Op} → In x (followed H) → Write H x × Followed H x
in_followed H {x} m = let k = in_keep (λ x. any (starts_after x) H) (writes H) m in (in_writes H k.0, told_true (told_followed H x) k.1)

followed_in : (H : List Op) {x : Op} → Write H x → Followed H x → In x (followed H)
followed_in H {x} k f = keep_in (λ x. any (starts_after x) H) (writes H) (writes_in H k) (true_told (told_followed H x) f)

-- an epoch fails only where something is later
fails_followed : {x : Op} {H : List Op} → Fails x H → Followed H x
fails_followed {x} {H} f = late f
  where
    seen : {y : Op} → In y (later x H) → Followed H x
    seen {y} m = let i = in_later x H m in (y, i.0, i.1)

    late : Fails x H → Followed H x
    late (fails_now (late_write o m e)) = seen m
    late (fails_now (two_values q a b m n c d e)) = seen m
    late (fails_now (no_writer q o m n)) = seen m
    late (fails_on x t) = seen x.late

-- what an epoch leaves starts by the finish of the write that it began with, and that write is gone
left : {u : Op} {H l o : List Op} → Write H u → Wins u H l o → (x : Op) → In x l → (x.start ≤ u.finish) × (x.value ≢ u.value)
left {u} {H} k (wins_now d) x m = let i = in_rest u H m in (i.1, i.2)
left {u} {H} k (wins_on {v = v} y t) x m =
    let i = in_rest u H ((wins_part (stays u H y.quiet v y.asked y.other) t).sub x m) in (i.1, i.2)

module _ {H r o : List Op} {t : ℕ} (g : Prepared H) (k : RoundWon H t r o) where
  apart : Pairs Apart (k.tried ++ (k.who ∷ k.untried))
  apart = rw k.split at (candidates_apart H g)

  tried_write : (x : Op) → In x k.tried → Write H x
  tried_write x m = in_candidate H (rw k.split (Memᴰ.append_left (k.who ∷ k.untried) m))

  -- a write that failed in this round is not followed any more
  calm : (x y : Op) → In x k.tried → In y (followed r) → Apart x y
  calm x y m n e =
      let (w, (z, i, h)) = in_followed r n in
      let q : x ≡ y = named g.proper.rows x y (tried_write x m).mem ((won_part k).sub y w.mem) e in
      let f : k.who.finish ≤ x.finish = pairs_across k.tried (rw k.split at (candidates_fall H)) x k.who m (here refl) in
      omega (arith, h, f, (left (winner k) k.wins z i).0, ap (λ o. o.finish) q)

  -- and the winner is not there
  gone : (y : Op) → In y (followed r) → Apart k.who y
  gone y n e =
      let i : In y r = (in_followed r n).0.mem in
      (left (winner k) k.wins y i).1 (ap (λ o. o.value) (named g.proper.rows y k.who ((won_part k).sub y i) (winner k).mem (sym e)))

  rest_apart : Pairs Apart (followed r)
  rest_apart = pairs_keep _ (pairs_keep is_write ((won_part k).good g).proper.rows)

  -- the writes that failed and those that may fail are among those that could fail
  fewer_followed : length k.tried + length (followed r) ≤ length (followed H)
  fewer_followed =
      omega (
        arith,
        length-append k.tried (followed r),
        no_longer_by (λ o. o.row) (pairs_append (pairs_front k.tried (k.who ∷ k.untried) apart) rest_apart calm) (followed H) (λ z m. go z (Memᴰ.append_cases k.tried m)),
      )
    where
      go : (z : Op) → In z k.tried ⊎ In z (followed r) → In z (followed H)
      go z (inl m) = followed_in H (tried_write z m) (fails_followed (k.fails z m))
      go z (inr m) =
          let (w, (y, i, h)) = in_followed r m in
          let s = (won_part k).sub in
          followed_in H (record { mem = s z w.mem; write = w.write }) (y, s y i, h)

  -- and the winner of the round is another write
  fewer_writes : suc (length k.tried + length (followed r)) ≤ write_count H
  fewer_writes =
      omega (
        arith,
        length-append k.tried (k.who ∷ followed r),
        no_longer_by (λ o. o.row) (pairs_append (pairs_front k.tried (k.who ∷ k.untried) apart) (cons gone rest_apart) across) (writes H) (λ z m. go z (Memᴰ.append_cases k.tried m)),
      )
    where
      across : (x y : Op) → In x k.tried → In y (k.who ∷ followed r) → Apart x y
      across x y m (here e) = rw e (pairs_across k.tried apart x k.who m (here refl))
      across x y m (there n) = calm x y m n

      go : (z : Op) → In z k.tried ⊎ In z (k.who ∷ followed r) → In z (writes H)
      go z (inl m) = writes_in H (tried_write z m)
      go z (inr (here e)) = rw e (writes_in H (winner k))
      go z (inr (there m)) = let w = (in_followed r m).0 in writes_in H (record { mem = (won_part k).sub z w.mem; write = w.write })

follow_trials : (t : ℕ) (o : List Op) (w : Walk) → trials (follow t o w) ≡ t + trials w
unfolding trials follow
follow_trials t o (stale u) = refl
follow_trials t o (fresh u l) = refl

-- each write succeeds once at most, and fails once at most if it is followed at all
each_once : {H : List Op} {w : Walk} → Prepared H → Walks H w → trials w ≤ write_count H + length (followed H)
unfolding trials
each_once g ended = omega arith
each_once g (stuck {x = x} {l = l} i u) = omega (arith, i, candidates_length (x ∷ l))
each_once {H} g (onward {r = r} {o = o} {t = t} {w = w} k s) =
    let p = won_part k in
    omega (arith, follow_trials t o w, k.count, fewer_followed g k, p.less, each_once (p.good g) s)

-- AT MOST 2W - 1 TRIALS: the winner of the first round never fails, and where no round is won a write is left.
pub trials_bound : {H : List Op} {w : Walk} → Prepared H → Walks H w → FewTrials H w
unfolding trials
trials_bound g ended = omega arith
trials_bound g (stuck {x = x} {l = l} i u) = omega (arith, i, candidates_length (x ∷ l), has_write x l g)
trials_bound {H} g (onward {r = r} {o = o} {t = t} {w = w} k s) =
    let p = won_part k in
    omega (arith, follow_trials t o w, k.count, fewer_writes g k, p.less, each_once (p.good g) s)
