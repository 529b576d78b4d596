-- Sound: where the walk is fresh, its list is a valid 2-atomic order of the history (000, section III).
-- Assumes nothing.
use Prim.Native.Nat.{ℕ}
use mathlib.Core.Path.{◌≡◌}
use mathlib.Core.Logic.{◌⊎◌, inl, inr}
use mathlib.Core.List.Memᴰ.{head as here}
use mathlib.Core.List.Memᴰ.{tail as there}
use mathlib.Core.List.{List, [], ◌∷◌, ◌++◌, append_assoc, Memᴰ as In}
use Rattle.lists.specs.Pairs.{nil}
use Rattle.history.specs.declared.Op.{Op}
use Rattle.methods.specs.Place.{segment}
use Rattle.methods.specs.Lbt.{Walk, stale, fresh, follow}
use Rattle.witnesses.specs.Histories.{Write, Prepared}
use Rattle.witnesses.specs.Orders.{run_nil, Orders}
use Rattle.witnesses.proofs.Parts.{stays, prepared_rest}
use Rattle.witnesses.proofs.Steps.{step_sound}
use Rattle.walks.specs.Lbt.{Says}
use Rattle.walks.proofs.Epochs.{Wins, wins_now, wins_on}
use Rattle.walks.proofs.Rounds.{winner, won_part, Walks, ended, stuck, onward}

-- o is an order of H, and the last write of o has the value a
abbrev Closes : List Op → List Op → ℕ → Type 0
Closes H o a = (h : Orders 2 H o) × (e : List ℕ) × (h.passed ≡ a ∷ e)

-- what an epoch places, behind an order of what it leaves, makes an order of all: one step behind the other
wins_orders : {w : Op} {H l q p : List Op} → Prepared H → Write H w → Wins w H l q → Orders 2 l p → Closes H (p ++ q) w.value
wins_orders {w} {H} g k (wins_now d) h = let (r, e) = step_sound w H g k h d.quiet (λ x m. here (d.own x m)) in (r, h.passed, e)
wins_orders {w} {H} {p = p} g k (wins_on {v = v} {o = o} x t) h =
    let (i, e, c) = wins_orders (prepared_rest w x.quiet g) (stays w H x.quiet v x.asked x.other) t h in
    let (r, b) = step_sound w H g k i x.quiet (λ y m. rw c (second (x.own y m))) in
    let all : Closes H ((p ++ o) ++ segment w H) w.value = (r, i.passed, b) in
    rw (append_assoc p o (segment w H)) at all
  where
    second : {a : ℕ} → (a ≡ w.value) ⊎ (a ≡ v.value) → In a (w.value ∷ (v.value ∷ []))
    second (inl q) = here q
    second (inr q) = there (here q)

-- SOUND: what a walk says that is fresh.
pub sound : {H : List Op} {w : Walk} → Prepared H → Walks H w → Says H w
unfolding follow
sound g ended = record { from = λ x m. m; into = λ x m. m; pairs = nil; passed = []; runs = run_nil }
sound g (stuck i u) = tt
sound {H} g (onward {r = r} {o = o} {t = t} {w = w} u s) = go w (sound ((won_part u).good g) s)
  where
    go : (w : Walk) → Says r w → Says H (follow t o w)
    go (stale n) d = tt
    go (fresh n p) d = (wins_orders g (winner u) u.wins d).0
