-- What a round and the walk say, over prepared histories (000, figure 2, lines 2 to 9).
-- Assumes nothing.
use Prim.Native.Nat.{ℕ, zero, suc, ◌≤◌}
use mathlib.Core.Path.{◌≡◌, refl, sym, ap}
use mathlib.Core.Bool.{Bool, true, false}
use mathlib.Core.List.Memᴰ
use mathlib.Core.List.Memᴰ.{head as here}
use mathlib.Core.List.Memᴰ.{tail as there}
use mathlib.Core.List.{List, [], ◌∷◌, ◌++◌, Memᴰ as In}
use native.Mathlib.Omega.{arith}
use lib.ListN.{length}
use borrow.Author.Tests.{leb-true, leb-false, le-ltb}
use Rattle.lists.specs.Pairs.{Pairs}
use Rattle.lists.proofs.Tests.{both, true_not}
use Rattle.lists.proofs.Members.{in_keep, keep_in}
use Rattle.lists.proofs.Every.{All?, some_not, all?}
use Rattle.lists.proofs.Counts.{keep_length}
use Rattle.lists.proofs.Pairs.{pairs_keep}
use Rattle.lists.proofs.Sorts.{in_sort, sort_in, sort_length, sort_ordered, sort_apart}
use Rattle.history.specs.declared.Op.{Op}
use Rattle.history.specs.Table.{is_write}
use Rattle.methods.specs.Place.{starts_by, writes, write_count}
use Rattle.methods.specs.Lbt.{Epoch, failed, placed, epoch, ends_later, free, candidates, Round, lost, won, onemore, round, Walk, stale, fresh, follow, walk}
use Rattle.witnesses.specs.Histories.{Write, Apart, Prepared}
use Rattle.witnesses.proofs.Parts.{in_writes, writes_in}
use Rattle.walks.proofs.Epochs.{Fails, Wins, Epoch?, is_failed, is_placed, epoch?, Part, wins_part, has_write}

-- The candidates.

-- they fall
abbrev pub Falls : Op → Op → Type 0
Falls a b = b.finish ≤ a.finish

pub candidates_fall : (H : List Op) → Pairs Falls (candidates H)
unfolding candidates
candidates_fall H = sort_ordered ends_later Falls (λ x y e. leb-true _ _ e) (λ x y e. omega (arith, leb-false y.finish x.finish e)) (λ x y z h k. omega arith) _

pub in_candidate : (H : List Op) {c : Op} → In c (candidates H) → Write H c
unfolding candidates
in_candidate H m = in_writes H (in_keep (free H) (writes H) (in_sort ends_later _ m)).0

-- a write that precedes no write is a candidate
pub candidate_in : (H : List Op) {c : Op} → Write H c → ((z : Op) → Write H z → z.start ≤ c.finish) → In c (candidates H)
unfolding candidates
candidate_in H {c} k h = sort_in ends_later _ (keep_in (free H) (writes H) (writes_in H k) (go _ (all? (starts_by c) (writes H))))
  where
    go : (b : Bool) → All? (starts_by c) (writes H) b → b ≡ true
    go true i = refl
    go false (some_not z n i) = absurd (both (true_not (le-ltb _ _ (h z (in_writes H n)))) i)

pub candidates_length : (H : List Op) → length (candidates H) ≤ write_count H
unfolding candidates
candidates_length H = rw (sort_length ends_later) (keep_length (free H) (writes H))

-- they are different rows
pub candidates_apart : (H : List Op) → Prepared H → Pairs Apart (candidates H)
unfolding candidates
candidates_apart H g = sort_apart ends_later Apart (λ x y n e. n (sym e)) (pairs_keep (free H) (pairs_keep is_write g.proper.rows))

-- A round over the candidates l of H: each of them was a trial that failed; or one of them won, and those before it failed.

pub record Won (H l : List Op) (t : ℕ) (r o : List Op) : Type 0 where
  pub tried : List Op
  pub who : Op
  pub untried : List Op
  pub split : l ≡ tried ++ (who ∷ untried)
  pub count : t ≡ suc (length tried)
  pub fails : (c : Op) → In c tried → Fails c H
  pub wins : Wins who H r o

pub data Round? (H l : List Op) : Round → Type 0 where
  is_lost : {t : ℕ} → t ≡ length l → ((c : Op) → In c l → Fails c H) → Round? H l (lost t)
  is_won : {t : ℕ} {r o : List Op} → Won H l t r o → Round? H l (won t r o)

round? : (H l : List Op) → ((c : Op) → In c l → Write H c) → Round? H l (round H l)
unfolding round onemore
round? H [] h = is_lost {t = 0} refl (λ c m. elim m [ ])
round? H (c ∷ l) h = go (epoch (write_count H) c H) (epoch? (write_count H) c H (h c (here refl)) (omega arith)) (round H l) (round? H l (λ x m. h x (there m)))
  where
    first : {k : List Op} → Fails c H → ((x : Op) → In x k → Fails x H) → (x : Op) → In x (c ∷ k) → Fails x H
    first k u x (here e) = rw e k
    first k u x (there m) = u x m

    go : (e : Epoch) → Epoch? c H e → (r : Round) → Round? H l r → Round? H (c ∷ l) (elim e [ failed ↦ onemore r | placed r o ↦ won 1 r o ])
    go (placed r o) (is_placed k) _ _ =
        is_won {t = 1} (record { tried = []; who = c; untried = l; split = refl; count = refl; fails = λ x m. elim m [ ]; wins = k })
    go failed (is_failed k) (lost t) (is_lost i u) = is_lost {t = suc t} (ap suc i) (first k u)
    go failed (is_failed k) (won t r o) (is_won u) =
        is_won {t = suc t} (record {
          tried = c ∷ u.tried;
          who = u.who;
          untried = u.untried;
          split = ap (λ x. c ∷ x) u.split;
          count = ap suc u.count;
          fails = first k u.fails;
          wins = u.wins;
        })

-- The walk: it ends with nothing left, is stuck at a round that is lost, or goes on from a round that is won.

abbrev pub RoundWon : List Op → ℕ → List Op → List Op → Type 0
RoundWon H t r o = Won H (candidates H) t r o

-- the winner is a candidate, and what its epoch leaves is a part
pub winner : {H r o : List Op} {t : ℕ} (k : RoundWon H t r o) → Write H k.who
winner {H} k = in_candidate H (rw k.split (Memᴰ.append_right k.tried (here refl)))

pub won_part : {H r o : List Op} {t : ℕ} → RoundWon H t r o → Part r H
won_part k = wins_part (winner k) k.wins

pub data Walks : List Op → Walk → Type 0 where
  ended : Walks [] (fresh 0 [])
  stuck : {x : Op} {l : List Op} {t : ℕ} → t ≡ length (candidates (x ∷ l)) → ((c : Op) → In c (candidates (x ∷ l)) → Fails c (x ∷ l)) → Walks (x ∷ l) (stale t)
  onward : {H r o : List Op} {t : ℕ} {w : Walk} → RoundWon H t r o → Walks r w → Walks H (follow t o w)

pub walk? : (n : ℕ) (H : List Op) → Prepared H → write_count H ≤ n → Walks H (walk n H)
unfolding walk
walk? zero [] g h = ended
walk? zero (x ∷ l) g h = let k = has_write x l g in absurd (omega arith)
walk? (suc n) [] g h = ended
walk? (suc n) (x ∷ l) g h = go (round H (candidates H)) (round? H (candidates H) (λ c m. in_candidate H m)) (walk? n)
  where
    H : List Op
    H = x ∷ l

    go : (r : Round) → Round? H (candidates H) r → ((l : List Op) → Prepared l → write_count l ≤ n → Walks l (walk n l)) →
        Walks H (elim r [ lost t ↦ stale t | won t r o ↦ follow t o (walk n r) ])
    go (lost t) (is_lost i u) ih = stuck i u
    go (won t r o) (is_won u) ih = let p = won_part u in onward u (ih r (p.good g) (omega (arith, p.less)))
