-- Runs of stores, one behind the other: those of a record's fields are those of the record.
-- Assumes nothing.
use Prim.Native.Nat.{ℕ, suc, ◌+◌, ◌≤◌}
use mathlib.Core.Path.{◌≡◌, refl, sym, ap, ◌∙◌}
use mathlib.Core.Logic.{◌≢◌}
use mathlib.Core.Bool.{cond}
use mathlib.Core.List.{List, [], ◌∷◌, ◌++◌, append-nil, append_assoc}
use native.Mathlib.Omega.{arith}
use borrow.Author.Tests.{eq-eqb, ne_eqb}
use lib.Dec.{eqb}
use lib.ListN.{length, take, drop, set, length-append}
use lib.Seq.{sets, sets-eq, drop-drop}
use borrow.Rule.Slice.PartMut.{put_mid}
use Rattle.lists.proofs.Stores.{sets_append}
use Rattle.history.specs.declared.Row.{Row}
use Rattle.records.specs.Records.{little_endian, body_length, head_bytes, stamp_bytes, record_of}
use Rattle.records.proofs.Numbers.{length_bytes}

-- the stores of vs, then those of ws behind them
pub sets_on : (vs ws l : List ℕ) (i j : ℕ) → i + length vs ≡ j → sets (sets l i vs) j ws ≡ sets l i (vs ++ ws)
sets_on vs ws l i j e = rw (← e) (sets_append vs ws l i)

-- what is copied over a part is stored there
pub put_stores : (l vs : List ℕ) (at n : ℕ) → length vs ≡ n → at + n ≤ length l → put_mid at n l vs ≡ sets l at vs
put_stores l vs at n e h =
    let size : at + length vs ≡ at + n = omega arith in
    sym (sets-eq vs l at (omega (arith, e)) ∙ rw (size, ← drop-drop n at l) (append_assoc (take at l) vs (drop n (drop at l))))

-- `vs` stored at at + k, at + k + 1, ..: on a list that is written out it computes to the stores as the code writes them
abbrev pub stores : List ℕ → ℕ → ℕ → List ℕ → List ℕ
stores l at k [] = l
stores l at k (a ∷ vs) = stores (set l (at + k) a) at (suc k) vs

pub stores_sets : (vs l : List ℕ) (at k i : ℕ) → at + k ≡ i → stores l at k vs ≡ sets l i vs
stores_sets [] l at k i e = refl
stores_sets (a ∷ vs) l at k i e = rw e (stores_sets vs (set l i a) at (suc k) (suc i) (omega arith))

-- The stores of a record's fields, one behind the other, are the stores of the record.
pub head_stores : (l : List ℕ) (at kind register value : ℕ) →
    sets (sets (sets (sets l at (little_endian 2 (body_length kind))) (at + 2) (little_endian 2 kind)) (at + 4) (little_endian 8 register)) (at + 12) (little_endian 8 value) ≡ sets l at (head_bytes kind register value)
head_stores l at kind register value =
    let a = little_endian 2 (body_length kind) in
    let b = little_endian 2 kind in
    let c = little_endian 8 register in
    let two : length a ≡ 2 = length_bytes 2 (body_length kind) in
    let four : length (a ++ b) ≡ 4 = length-append a b ∙ omega (arith, length_bytes 2 kind) in
    let twelve : length (a ++ b ++ c) ≡ 12 = length-append (a ++ b) c ∙ omega (arith, length_bytes 8 register) in
    rw (
      sets_on a b l at (at + 2) (omega arith),
      sets_on (a ++ b) c l at (at + 4) (omega arith),
      sets_on (a ++ b ++ c) (little_endian 8 value) l at (at + 12) (omega arith),
    )

pub stamp_stores : (l : List ℕ) (at start finish : ℕ) → sets (sets l at (little_endian 8 start)) (at + 8) (little_endian 8 finish) ≡ sets l at (stamp_bytes start finish)
stamp_stores l at start finish = sets_on (little_endian 8 start) (little_endian 8 finish) l at (at + 8) (omega (arith, length_bytes 8 start))

module _ (l : List ℕ) (at : ℕ) (r : Row) where
  abbrev head : List ℕ
  head = head_bytes r.kind r.register r.value

  abbrev stamps : List ℕ
  stamps = stamp_bytes r.start r.finish

  head_long : length head ≡ 20
  unfolding little_endian
  head_long = refl

  pub opening_stores : r.kind ≡ 3 → sets l at head ≡ sets l at (record_of r)
  unfolding record_of
  opening_stores k =
      let none : cond (eqb r.kind 3) [] stamps ≡ [] = rw (eq-eqb r.kind 3 k) in
      ap (sets l at) (sym (ap (λ (x : List ℕ). head ++ x) none ∙ append-nil head))

  pub record_stores : r.kind ≢ 3 → sets (sets l at head) (at + 20) stamps ≡ sets l at (record_of r)
  unfolding record_of
  record_stores k =
      let both : cond (eqb r.kind 3) [] stamps ≡ stamps = rw (ne_eqb r.kind 3 k) in
      sets_on head stamps l at (at + 20) (omega (arith, head_long)) ∙ ap (sets l at) (ap (λ (x : List ℕ). head ++ x) (sym both))
