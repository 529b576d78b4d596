-- The state in which some clusters alone are to be placed: what is left there, that it holds, and whose writes are free.
-- Assumes nothing.
use Prim.Native.Nat.{ℕ, ◌≤◌, ◌<◌}
use mathlib.Core.Path.{◌≡◌, refl, ap, sym, ◌∙◌}
use mathlib.Core.Bool.{Bool, true, false, not, ◌||◌, cond}
use mathlib.Core.Logic.{◌⊎◌, inl, inr}
use mathlib.Core.List.Memᴰ.{head as here}
use mathlib.Core.List.Memᴰ.{tail as there}
use mathlib.Core.List.{List, [], ◌∷◌, Memᴰ as In}
use native.Mathlib.Omega.{arith}
use lib.ListN.{length, get_or, drop_of_length-le}
use lib.Dec.{eqb}
use Rattle.lists.specs.Lists.{keep, all, any}
use Rattle.lists.proofs.Tests.{both, test}
use Rattle.history.specs.declared.Op.{Op}
use Rattle.methods.specs.Prepared.{same_value}
use Rattle.methods.specs.Fzf.{some_same, only}
use Rattle.positions.specs.Places.{upto}
use Rattle.positions.specs.Columns.{Cols, size, wr, Sound, op, ops, Of}
use Rattle.positions.proofs.Places.{upto_ext, upto_stop, upto_length}
use Rattle.positions.proofs.Ops.{keep_ops}
use Rattle.positions.proofs.OfHistory.{same_is}
use Rattle.placing.specs.States.{State, is_free, left, laid, state_of, Holds, Whose}
use Rattle.zones.proofs.Zone.{all_ops}
use Rattle.freeing.specs.Marks.{unlisted, Writes, Painted}
use Rattle.freeing.specs.Freed.{Shut, Within, Topped, clusters_of, Freed}
use Rattle.freeing.proofs.Listing.{listed}

module _ (writer list : List ℕ) where
  -- what is shut is within any list
  pub shut_within : (placed : List ℕ) → Shut (length writer) placed → Within writer list placed
  shut_within placed h j l e = absurd (both e (h j l))

  -- set free
  pub within_freed : (old placed order : List ℕ) (top : ℕ) → Within writer list old → Painted writer list 0 old placed → length writer ≤ length placed → length writer ≤ length order →
      top ≤ length writer → Topped writer list top → Freed writer list (state_of placed order (length order) top)
  within_freed old placed order top h p s c low t =
      record { marks = s; cells = c; at = refl; low = low; topped = t; free = λ j l. go j l (test (unlisted list (get_or writer j 0))) (test (is_free old j)) }
    where
      go : (j : ℕ) → j < length writer → (unlisted list (get_or writer j 0) ≡ true) ⊎ (unlisted list (get_or writer j 0) ≡ false) → (is_free old j ≡ true) ⊎ (is_free old j ≡ false) →
          is_free placed j ≡ not (unlisted list (get_or writer j 0))
      go j l (inl e) (inl f) = absurd (both e (h j l f))
      go j l (inl e) (inr f) = let q : get_or placed j 0 ≡ get_or old j 0 = p j l ∙ rw e in ap (λ (x : ℕ). eqb x 0) q ∙ f ∙ sym (ap not e)
      go j l (inr e) f = let q : get_or placed j 0 ≡ 0 = p j l ∙ rw e in ap (λ (x : ℕ). eqb x 0) q ∙ sym (ap not e)

  module _ (s : State) (f : Freed writer list s) where
    -- a listed write is to be placed
    pub freed_whose : Writes writer list → (w : ℕ) → In w list → Whose writer s w
    freed_whose k w m =
        let x = k w m in
        record { inside = x.0; write = x.1; free = f.free w x.0 ∙ ap (λ (v : ℕ). not (unlisted list v)) x.1 ∙ ap not (listed list w m) }

    pub freed_left : left s ≡ clusters_of writer list
    freed_left =
        sym (upto_stop (is_free s.placed) s.top (length writer) f.low (λ j a l. f.free j l ∙ ap not (f.topped j l a)))
        ∙ upto_ext (length writer) f.free

    pub freed_laid : laid s ≡ []
    freed_laid = rw f.at (drop_of_length-le s.order {i = length s.order} (omega arith))

-- the state holds
pub freed_holds : (C : Cols) → Sound C → size C ≤ 1024 → {list : List ℕ} {s : State} → Freed C.writer list s → Holds C s
freed_holds C p n {list} {s} f =
    record {
      ready =
          record {
            size = n;
            within = omega (arith, f.low, p.shape.long);
            marks = omega (arith, f.marks, p.shape.long);
            high = omega (arith, f.at);
            room = omega (arith, f.at, f.cells, f.low, p.shape.long, upto_length (is_free s.placed) s.top);
            above = λ j k l. let i : j < length C.writer = omega (arith, p.shape.long) in f.free j i ∙ ap not (f.topped j i k);
          };
      closed = λ j l e. at (wr C j) (p.shape.writers j l) ∙ ap (λ (v : ℕ). not (unlisted list v)) (p.writes j l) ∙ sym (at j l) ∙ e;
    }
  where
    at : (j : ℕ) → j < size C → is_free s.placed j ≡ not (unlisted list (wr C j))
    at j l = f.free j (omega (arith, p.shape.long))

module _ {C : Cols} {H : List Op} (o : Of C H) where
  listed_is : (l : List ℕ) → Writes C.writer l → (j : ℕ) → j < length H → not (unlisted l (wr C j)) ≡ some_same (ops H l) (op H j)
  unfolding all any
  listed_is [] k j i = refl
  listed_is (w ∷ l) k j i = go (eqb (wr C j) w) same (unlisted l (wr C j)) (listed_is l (λ x m. k x (there m)) j i)
    where
      same : same_value (op H w) (op H j) ≡ eqb (wr C j) w
      same = same_is o w j (omega (arith, (k w (here refl)).0, o.long)) i ∙ ap (eqb (wr C j)) (k w (here refl)).1

      go : (b : Bool) → same_value (op H w) (op H j) ≡ b → (u : Bool) → not u ≡ some_same (ops H l) (op H j) → not (cond (not b) u false) ≡ (same_value (op H w) (op H j) || some_same (ops H l) (op H j))
      go true e u ih = rw e
      go false e u ih = rw e ih

  -- the clusters of the listed writes are the definition's
  pub clusters_only : (list : List ℕ) → Writes C.writer list → ops H (clusters_of C.writer list) ≡ only (ops H list) H
  clusters_only list h =
      ap (λ (n : ℕ). ops H (clusters n)) o.long
      ∙ ap (ops H) (upto_ext (length H) (λ j l. listed_is list h j l))
      ∙ sym (keep_ops H (λ j. true) (length H) (some_same (ops H list)))
      ∙ ap (keep (some_same (ops H list))) (all_ops H)
    where
      clusters : ℕ → List ℕ
      clusters n = upto (λ j. not (unlisted list (wr C j))) n
