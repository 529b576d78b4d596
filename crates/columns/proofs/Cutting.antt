-- The loop that shortens the doubled finishes, in one pass from the last operation up: each read lowers the finish of its write.
-- Assumes nothing.
use Prim.Native.Nat.{ℕ, suc, ◌*◌, ◌-◌, ◌≤◌, ◌<◌, min}
use mathlib.Core.Path.{◌≡◌, refl, sym, ap, ◌∙◌}
use mathlib.Core.Logic.{◌≢◌, ◌⊎◌, inl, inr}
use mathlib.Core.Bool.{Bool, true, false, cond}
use mathlib.Core.List.Memᴰ.{head as here}
use mathlib.Core.List.{List, [], ◌∷◌, map, Memᴰ as In}
use native.Mathlib.Omega.{arith}
use native.Mathlib.Decide.{ℕ_discrete, dec_lt}
use lib.Dec.{ltb}
use lib.ListN.{length, get_or, drop, set, length-set, length-map}
use lib.Seq.{drop-cons, drop-length, ext_get_or, get_or-set_same, get_or-set_other}
use borrow.Author.Tests.{eqb-true, eq-eqb, lt-ltb, le-ltb, ltb-true, ltb-false}
use Rattle.lists.specs.Lists.{put, keep}
use Rattle.lists.proofs.Tests.{test}
use Rattle.lists.proofs.Members.{in_keep}
use Rattle.lists.proofs.Images.{get_d_map}
use Rattle.history.specs.declared.Op.{Op}
use Rattle.history.specs.Table.{is_write}
use Rattle.methods.specs.Extremes.{least}
use Rattle.methods.specs.Prepared.{same_value, no_write, reads_of, finishes_below, cutting, shortened, new_finish}
use Rattle.witnesses.proofs.Extremes.{least_begin}
use Rattle.preparation.proofs.Finish.{new_read}
use Rattle.positions.specs.Columns.{nothing, op}
use Rattle.columns.specs.Writers.{Tied}
use Rattle.columns.specs.Finishes.{lowered, Whole}

-- the smallest does not depend on the number that it is begun with
least_swap : (key : Op → ℕ) (a b : ℕ) (l : List Op) → min b (least key a l) ≡ min a (least key b l)
unfolding least
least_swap key a b [] = omega arith
least_swap key a b (x ∷ l) = omega (arith, least_swap key a b l)

-- one read more, of those that finish below the write, or another
module _ (x y : Op) where
  cut_more : (C : List Op) → y.finish < x.finish → shortened x (y ∷ C) ≡ lowered (2 * y.finish) (shortened x C)
  unfolding shortened least lowered
  cut_more [] h = rw (lt-ltb (2 * y.finish) (2 * x.finish) (omega arith))
  cut_more (r ∷ C) h = go (dec_lt (2 * y.finish) (2 * m - 1))
    where
      m : ℕ
      m = least (λ o. o.finish) r.finish C

      both_least : min r.finish (least (λ o. o.finish) y.finish C) ≡ min y.finish m
      both_least = least_swap (λ o. o.finish) y.finish r.finish C

      go : Dec (2 * y.finish < 2 * m - 1) → 2 * min r.finish (least (λ o. o.finish) y.finish C) - 1 ≡ cond (ltb (2 * y.finish) (2 * m - 1)) (2 * y.finish - 1) (2 * m - 1)
      go (yes l) = rw (lt-ltb (2 * y.finish) (2 * m - 1) l) (omega (arith, both_least))
      go (no l) = rw (le-ltb (2 * y.finish) (2 * m - 1) (omega arith)) (omega (arith, both_least))

  cut_same : (C : List Op) → ((r : Op) → In r C → r.finish < x.finish) → x.finish ≤ y.finish → shortened x C ≡ lowered (2 * y.finish) (shortened x C)
  unfolding shortened lowered
  cut_same [] u h = rw (le-ltb (2 * y.finish) (2 * x.finish) (omega arith))
  cut_same (r ∷ C) u h =
      rw (le-ltb (2 * y.finish) (2 * least (λ o. o.finish) r.finish C - 1) (omega (arith, u r (here refl), least_begin (λ o. o.finish) r.finish C)))

  module _ (L : List Op) where
    -- what one operation more does to a finish
    new_mine : is_write x ≡ true → same_value x y ≡ true → is_write y ≡ false → new_finish (y ∷ L) x ≡ lowered (2 * y.finish) (new_finish L x)
    unfolding new_finish keep put
    new_mine e f g = rw (e, f, g) (go (finishes_below x y) refl)
      where
        go : (b : Bool) → finishes_below x y ≡ b → shortened x (put b y (cutting L x)) ≡ lowered (2 * y.finish) (shortened x (cutting L x))
        go true q = cut_more (cutting L x) (ltb-true y.finish x.finish q)
        go false q = cut_same (cutting L x) (λ r m. ltb-true r.finish x.finish (in_keep (finishes_below x) (reads_of L x) m).1) (ltb-false y.finish x.finish q)

    new_other : same_value x y ≡ false → new_finish (y ∷ L) x ≡ new_finish L x
    unfolding new_finish keep put
    new_other f = rw f

    new_write : is_write y ≡ true → new_finish (y ∷ L) x ≡ new_finish L x
    unfolding new_finish keep put
    new_write g = go (same_value x y)
      where
        go : (b : Bool) → cond (is_write x) (shortened x (keep (finishes_below x) (keep no_write (put b y (keep (same_value x) L))))) (2 * x.finish) ≡ new_finish L x
        go true = rw g
        go false = refl

module _ (H : List Op) where
  -- the reads from j on have lowered the finishes of their writes
  pub record Cutting (j : ℕ) (out : List ℕ) : Type 0 where
    pub within : j ≤ length H
    pub long : length out ≡ length H
    pub cut : (i : ℕ) → i < length H → get_or out i 0 ≡ new_finish (drop j H) (op H i)

  pub cut_none : (writer out : List ℕ) (j : ℕ) → j ≡ length writer → Whole H writer out → Cutting j out
  unfolding new_finish keep shortened
  cut_none writer out j e q =
      let d : j ≡ length H = e ∙ q.tied.long in
      record {
        within = omega arith;
        long = ap length q.doubled ∙ length-map H _;
        cut = λ i h. ap (λ (l : List ℕ). get_or l i 0) q.doubled ∙ get_d_map (λ o. 2 * o.finish) H i 0 nothing h ∙ rw (d, drop-length H) (go (is_write (op H i)) _);
      }
    where
      go : (b : Bool) (n : ℕ) → n ≡ cond b n n
      go true n = refl
      go false n = refl

  pub cut_end : (out : List ℕ) (j : ℕ) → Cutting j out → j ≡ 0 → out ≡ map (new_finish H) H
  cut_end out j g e =
      ext_get_or 0 out (map (new_finish H) H) (g.long ∙ sym (length-map H _))
      (λ i h. let k : i < length H = omega (arith, g.long) in g.cut i k ∙ rw e (sym (get_d_map (new_finish H) H i 0 nothing k)))

  module _ (writer : List ℕ) (p : Tied H writer) (j : ℕ) (h : 0 < j) (out : List ℕ) (g : Cutting j out) where
    -- the operation of this turn
    inside : j - 1 < length H
    inside = omega (arith, g.within)

    opened : drop (j - 1) H ≡ op H (j - 1) ∷ drop j H
    opened = let e : suc (j - 1) ≡ j = omega arith in drop-cons H (j - 1) nothing inside ∙ rw e

    -- it is a write: nothing changes
    pub cut_write : get_or writer (j - 1) 0 ≡ j - 1 → Cutting (j - 1) out
    cut_write e =
        record {
          within = omega (arith, g.within);
          long = g.long;
          cut = λ i k. g.cut i k ∙ rw opened (sym (new_write (op H i) (op H (j - 1)) _ (rw e at (p.write (j - 1) inside))));
        }

    module _ (e : get_or writer (j - 1) 0 ≢ j - 1) where
      -- the write of the operation
      abbrev pub w : ℕ
      w = get_or writer (j - 1) 0

      -- it is a read, and its own finish is not cut
      read : is_write (op H (j - 1)) ≡ false
      read = go (test (is_write (op H (j - 1))))
        where
          go : (is_write (op H (j - 1)) ≡ true) ⊎ (is_write (op H (j - 1)) ≡ false) → is_write (op H (j - 1)) ≡ false
          go (inl q) = absurd (e (p.one (j - 1) (j - 1) inside inside q refl))
          go (inr q) = q

      full : get_or out (j - 1) 0 ≡ 2 * (op H (j - 1)).finish
      full = g.cut (j - 1) inside ∙ new_read (drop j H) (op H (j - 1)) read

      pub cut_positive : ((i : ℕ) → i < length H → 0 < (op H i).finish) → 0 < get_or out (j - 1) 0
      cut_positive s = omega (arith, full, s (j - 1) inside)

      -- the finishes of others stay
      others : (i : ℕ) → i < length H → i ≢ w → new_finish (drop j H) (op H i) ≡ new_finish (op H (j - 1) ∷ drop j H) (op H i)
      others i k n = go (test (is_write (op H i))) (test (same_value (op H i) (op H (j - 1))))
        where
          L : List Op
          L = drop j H

          go : (is_write (op H i) ≡ true) ⊎ (is_write (op H i) ≡ false) → (same_value (op H i) (op H (j - 1)) ≡ true) ⊎ (same_value (op H i) (op H (j - 1)) ≡ false) → new_finish L (op H i) ≡ new_finish (op H (j - 1) ∷ L) (op H i)
          go (inr a) b = new_read L (op H i) a ∙ sym (new_read (op H (j - 1) ∷ L) (op H i) a)
          go (inl a) (inr b) = sym (new_other (op H i) (op H (j - 1)) L b)
          go (inl a) (inl b) = absurd (n (sym (p.one i (j - 1) k inside a (sym (eqb-true _ _ b)))))

      -- it lowers the finish of its write
      pub cut_read : (v : ℕ) → v ≡ lowered (get_or out (j - 1) 0) (get_or out w 0) → Cutting (j - 1) (set out w v)
      cut_read v q =
          record {
            within = omega (arith, g.within);
            long = length-set out w v ∙ g.long;
            cut = λ i k. rw opened (go i k (ℕ_discrete i w));
          }
        where
          L : List Op
          L = drop j H

          go : (i : ℕ) → i < length H → Dec (i ≡ w) → get_or (set out w v) i 0 ≡ new_finish (op H (j - 1) ∷ L) (op H i)
          go i k (no n) = get_or-set_other out w i v 0 n ∙ g.cut i k ∙ others i k n
          go i k (yes c) =
              rw c
              (get_or-set_same out w v 0 (omega (arith, p.inside (j - 1) inside, g.long))
              ∙ q
              ∙ rw (full, g.cut w (p.inside (j - 1) inside))
              (sym (new_mine (op H w) (op H (j - 1)) L (p.write (j - 1) inside) (eq-eqb _ _ (sym (p.value (j - 1) inside))) read)))
