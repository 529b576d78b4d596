-- What the columns of a prepared history say of its operations, and that they are sound.
-- Assumes nothing.
use Prim.Native.Nat.{ℕ, ◌≤◌, ◌<◌}
use mathlib.Core.Path.{◌≡◌, refl, ap, sym, ◌∙◌}
use mathlib.Core.Bool.{Bool, true, false}
use mathlib.Core.Logic.{◌⊎◌, inl, inr}
use mathlib.Core.List.{List, Memᴰ as In}
use native.Mathlib.Omega.{arith}
use lib.ListN.{length, get_or, length-map}
use lib.Dec.{eqb}
use borrow.Author.Tests.{eq-eqb, ne_eqb, eqb-true, eqb-false}
use Rattle.lists.proofs.Tests.{both, test}
use Rattle.lists.proofs.Images.{get_d_map, get_d_in, pairs_at}
use Rattle.history.specs.declared.Op.{Op}
use Rattle.history.specs.Table.{is_write}
use Rattle.methods.specs.Prepared.{same_value}
use Rattle.positions.specs.Columns.{Cols, size, wr, is_own, Linked, Sound, nothing, op, Of}
use Rattle.positions.proofs.Places.{below}

module _ {C : Cols} {H : List Op} (o : Of C H) where
  pub size_is : size C ≡ length H
  size_is = ap length o.starts ∙ length-map H (λ x. x.start)

  -- a column has its own number at each operation
  pub start_is : (j : ℕ) → j < length H → (op H j).start ≡ get_or C.start j 0
  start_is j h = sym (ap (λ (l : List ℕ). get_or l j 0) o.starts ∙ get_d_map (λ x. x.start) H j 0 nothing h)

  pub finish_is : (j : ℕ) → j < length H → (op H j).finish ≡ get_or C.finish j 0
  finish_is j h = sym (ap (λ (l : List ℕ). get_or l j 0) o.finishes ∙ get_d_map (λ x. x.finish) H j 0 nothing h)

  pub op_in : (j : ℕ) → j < length H → In (op H j) H
  op_in j h = get_d_in H nothing j h

  -- an operation stands at one position
  pub at_one : (i j : ℕ) → i < length H → j < length H → op H i ≡ op H j → i ≡ j
  at_one i j h k e = go (below i j) (below j i)
    where
      no : (a b : ℕ) → a < b → b < length H → op H a ≡ op H b → ⊥
      no a b l m q = let r = pairs_at nothing o.prepared.rising a b l m in omega (arith, ap (λ (x : Op). x.start) q)

      go : (i < j) ⊎ (j ≤ i) → (j < i) ⊎ (i ≤ j) → i ≡ j
      go (inl l) d = absurd (no i j l k e)
      go (inr l) (inl m) = absurd (no j i m h (sym e))
      go (inr l) (inr m) = omega arith

  -- two writes of one value are one
  one_write : (i j : ℕ) → i < length H → j < length H → is_write (op H i) ≡ true → is_write (op H j) ≡ true → (op H i).value ≡ (op H j).value → i ≡ j
  one_write i j h k a b e =
      at_one i j h k (o.prepared.proper.one _ _ (record { mem = op_in i h; write = a }) (record { mem = op_in j k; write = b }) e)

  -- an operation is a write where it is its own
  pub own_is : (j : ℕ) → j < length H → is_write (op H j) ≡ is_own C.writer j
  own_is j h = go (is_write (op H j)) refl (test (is_own C.writer j))
    where
      go : (b : Bool) → is_write (op H j) ≡ b → (is_own C.writer j ≡ true) ⊎ (is_own C.writer j ≡ false) → b ≡ is_own C.writer j
      go true e d = sym (eq-eqb (wr C j) j (one_write (wr C j) j (o.inside j h) h (o.write j h) e (o.value j h)))
      go false e (inl d) = absurd (both (o.write j h) (ap (λ (x : ℕ). is_write (op H x)) (eqb-true (wr C j) j d) ∙ e))
      go false e (inr d) = sym d

  -- two operations have one value where their writes are one
  pub value_same : (i j : ℕ) → i < length H → j < length H → wr C i ≡ wr C j → (op H i).value ≡ (op H j).value
  value_same i j h k e = sym (o.value i h) ∙ ap (λ (x : ℕ). (op H x).value) e ∙ o.value j k

  pub same_value_lem : (i j : ℕ) → i < length H → j < length H → (op H i).value ≡ (op H j).value → wr C i ≡ wr C j
  same_value_lem i j h k e =
      one_write (wr C i) (wr C j) (o.inside i h) (o.inside j k) (o.write i h) (o.write j k) (o.value i h ∙ e ∙ sym (o.value j k))

  pub same_is : (i j : ℕ) → i < length H → j < length H → same_value (op H i) (op H j) ≡ eqb (wr C j) (wr C i)
  same_is i j h k = go (test (eqb (wr C j) (wr C i)))
    where
      go : (eqb (wr C j) (wr C i) ≡ true) ⊎ (eqb (wr C j) (wr C i) ≡ false) → same_value (op H i) (op H j) ≡ eqb (wr C j) (wr C i)
      go (inl e) = eq-eqb (op H j).value (op H i).value (value_same j i k h (eqb-true (wr C j) (wr C i) e)) ∙ sym e
      go (inr e) = ne_eqb (op H j).value (op H i).value (λ q. eqb-false (wr C j) (wr C i) e (same_value_lem j i k h q)) ∙ sym e

  -- with the chains the columns are as the searches require
  pub of_sound : Linked C.writer C.last C.prev → Sound C
  of_sound k =
      record {
        shape =
            record {
              long = o.long ∙ sym size_is;
              rising = λ i j h l. rises i j h (omega (arith, size_is));
              writers = λ j h. omega (arith, size_is, o.inside j (omega (arith, size_is)));
            };
        links = k;
        ending = ap length o.finishes ∙ length-map H (λ x. x.finish) ∙ sym size_is;
        writes = λ j h. let l : j < length H = omega (arith, size_is) in eqb-true _ _ (sym (own_is (wr C j) (o.inside j l)) ∙ o.write j l);
      }
    where
      rises : (i j : ℕ) → i ≤ j → j < length H → get_or C.start i 0 ≤ get_or C.start j 0
      rises i j h l = go (below i j)
        where
          go : (i < j) ⊎ (j ≤ i) → get_or C.start i 0 ≤ get_or C.start j 0
          go (inl a) = omega (arith, start_is i (omega arith), start_is j l, pairs_at nothing o.prepared.rising i j a l)
          go (inr a) = let e : i ≡ j = omega arith in rw e (omega arith)
