-- The runs of forward zones by the columns are the definition's, and so are the dangling zones.
-- Assumes nothing.
use Prim.Native.Nat.{ℕ, zero, suc, ◌+◌, ◌-◌, ◌≤◌, ◌<◌, max}
use mathlib.Core.Path.{◌≡◌, refl, ap, sym, ◌∙◌}
use mathlib.Core.Bool.{Bool, true, false, not, cond}
use mathlib.Core.List.Memᴰ.{head as here}
use mathlib.Core.List.Memᴰ.{tail as there}
use mathlib.Core.List.{List, [], ◌∷◌, ◌++◌, append-nil, append_assoc, Memᴰ as In}
use native.Mathlib.Omega.{arith}
use native.Mathlib.Numerals.{add-one}
use lib.ListN.{length, get_or, take, drop, length-drop}
use lib.Seq.{drop-cons, drop-drop}
use lib.Dec.{ltb}
use Rattle.lists.specs.Lists.{all}
use Rattle.history.specs.declared.Op.{Op}
use Rattle.methods.specs.declared.Zone.{Zone}
use Rattle.methods.specs.Zones.{low, high, zone_of}
use Rattle.methods.specs.Fzf.{Run, new_run, extend, grow, runs, spans, dangles}
use Rattle.positions.specs.Columns.{Cols, op, ops, Of}
use Rattle.zones.specs.Zones.{zone_by, Zoned, writes_at}
use Rattle.zones.proofs.ByLow.{zone_at}
use Rattle.chunking.specs.Chunks.{lies, side, more, top_of, reaches, Spans, dangles_by}
use Rattle.chunking.specs.declared.Span.{Span}
use Rattle.chunking.proofs.Hanging.{outside}
use Rattle.chunking.proofs.Sides.{side_in, forwards_is, spans_is}

-- a member from i on
drop_in : (l : List ℕ) (i : ℕ) {y : ℕ} → In y (drop i l) → In y l
drop_in l zero m = m
drop_in [] (suc i) m = m
drop_in (x ∷ l) (suc i) m = there (drop_in l i m)

module _ {C : Cols} {H : List Op} (o : Of C H) (late : List ℕ) (g : Zoned C late) where
  abbrev z : ℕ → Zone
  z = zone_by C.finish late

  abbrev W : List ℕ
  W = writes_at C.writer

  abbrev F : List ℕ
  F = side C.finish late C.writer true

  -- a run with k more, and the runs behind it
  abbrev grown_by : ℕ → ℕ → Run → List ℕ → List Run
  grown_by k t r l = record { first = r.first; more = r.more ++ ops H (take k l); top = t } ∷ runs H (ops H (drop k l))

  abbrev grown : Run → List ℕ → List Run
  grown r l = grown_by (more z r.top l) (top_of z r.top l) r l

  low_at : {x : ℕ} → In x W → low (zone_of H (op H x)) ≡ low (z x)
  low_at m = ap (λ (y : Zone). low y) (zone_at o late g m)

  high_at : {x : ℕ} → In x W → high (zone_of H (op H x)) ≡ high (z x)
  high_at m = ap (λ (y : Zone). high y) (zone_at o late g m)

  grow_is : (r : Run) (l : List ℕ) → ((x : ℕ) → In x l → In x W) → grow H r (ops H l) ≡ grown r l
  unfolding grow runs more top_of
  grow_is r [] h = ap (λ (m : List Op). let q : Run = record { first = r.first; more = m; top = r.top } in q ∷ []) (sym (append-nil r.more))
  grow_is r (x ∷ l) h = go (ltb (low (zone_of H (op H x))) r.top) (ap (λ (n : ℕ). ltb n r.top) (sym (low_at (h x (here refl))))) (λ q. grow_is q l (λ y m. h y (there m)))
    where
      t : ℕ
      t = max r.top (high (z x))

      high_x : high (zone_of H (op H x)) ≡ high (z x)
      high_x = high_at (h x (here refl))

      taken : ltb (low (z x)) r.top ≡ true → grown r (x ∷ l) ≡ grown_by (suc (more z t l)) (top_of z t l) r (x ∷ l)
      taken e = rw e

      ended : ltb (low (z x)) r.top ≡ false → grown r (x ∷ l) ≡ grown_by 0 r.top r (x ∷ l)
      ended e = rw e

      go : (b : Bool) → ltb (low (z x)) r.top ≡ b → ((q : Run) → grow H q (ops H l) ≡ grown q l)
          → elim b as (λ b. List Run) [ true ↦ grow H (extend H r (op H x)) (ops H l) | false ↦ r ∷ grow H (new_run H (op H x)) (ops H l) ] ≡ grown r (x ∷ l)
      go true e ih =
          ih (extend H r (op H x))
          ∙ ap (λ (n : ℕ). grown (record { first = r.first; more = r.more ++ op H x ∷ []; top = max r.top n }) l) high_x
          ∙ ap (λ (m : List Op). let q : Run = record { first = r.first; more = m; top = top_of z t l } in q ∷ (runs H (ops H (drop (more z t l) l)))) (append_assoc r.more (op H x ∷ []) (ops H (take (more z t l) l)))
          ∙ sym (taken e)
      go false e ih =
          ap (λ (m : List Op). let q : Run = record { first = r.first; more = m; top = r.top } in q ∷ (grow H (new_run H (op H x)) (ops H l))) (sym (append-nil r.more))
          ∙ sym (ended e)

  -- the first run of a list of writes
  run_is : (a : ℕ) (l : List ℕ) → ((x : ℕ) → In x (a ∷ l) → In x W) → runs H (ops H (a ∷ l)) ≡ grown_by (more z (high (z a)) l) (top_of z (high (z a)) l) (new_run H (op H a)) l
  unfolding runs
  run_is a l h =
      grow_is (new_run H (op H a)) l (λ x m. h x (there m))
      ∙ ap (λ (n : ℕ). grown_by (more z n l) (top_of z n l) (new_run H (op H a)) l) (high_at (h a (here refl)))

  -- THE LAW of the run that begins at a: it is the first of those that are left, and the others come behind it
  pub run_cut : (a : ℕ) → a < length F → (r : Span) → Spans C.finish late F a r
      → runs H (ops H (drop a F)) ≡ record { first = op H (get_or F a 0); more = ops H (take (r.end - (a + 1)) (drop (a + 1) F)); top = r.top } ∷ runs H (ops H (drop r.end F))
  run_cut a l r s =
      ap (λ (k : List ℕ). runs H (ops H k)) drops
      ∙ run_is w L (λ x m. side_in C.finish late C.writer true (drop_in F a (rw (sym drops) at m)))
      ∙ ap (λ (n : ℕ). grown_by n (top_of z (high (z w)) L) (new_run H (op H w)) L) (sym count)
      ∙ ap (λ (t : ℕ). grown_by (r.end - (a + 1)) t (new_run H (op H w)) L) (sym s.top)
      ∙ ap (λ (k : List ℕ). let q : Run = record { first = op H w; more = ops H (take (r.end - (a + 1)) L); top = r.top } in q ∷ (runs H (ops H k))) behind
    where
      w : ℕ
      w = get_or F a 0

      L : List ℕ
      L = drop (a + 1) F

      drops : drop a F ≡ w ∷ L
      drops = rw (add-one a) (drop-cons F a 0 l)

      count : r.end - (a + 1) ≡ more z (high (z w)) L
      count = omega (arith, s.end)

      behind : drop (r.end - (a + 1)) L ≡ drop r.end F
      behind = let e : (a + 1) + (r.end - (a + 1)) ≡ r.end = omega (arith, s.end) in drop-drop (r.end - (a + 1)) (a + 1) F ∙ ap (λ (n : ℕ). drop n F) e

  -- inside none of the runs of a list of writes
  outside_is : (w : ℕ) → In w W → (n : ℕ) (l : List ℕ) → length l ≤ n → ((x : ℕ) → In x l → In x W)
      → all (λ r. not (spans H r (op H w))) (runs H (ops H l)) ≡ all (outside C.finish late w) (reaches z n l)
  unfolding all reaches runs
  outside_is w m zero [] k h = refl
  outside_is w m (suc n) [] k h = refl
  outside_is w m zero (x ∷ l) k h = absurd (omega arith)
  outside_is w m (suc n) (x ∷ l) k h =
      ap (all (λ r. not (spans H r (op H w)))) (run_is x l h)
      ∙ ap (λ (b : Bool). cond (not b) (all (λ r. not (spans H r (op H w))) (runs H (ops H (drop j l)))) false)
      (sym (spans_is o late g first (low (z x)) (sym (low_at (h x (here refl)))) w m))
      ∙ ap (λ (b : Bool). cond (not (lies C.finish late (low (z x)) (top_of z (high (z x)) l) w)) b false)
      (outside_is w m n (drop j l) (rw (length-drop) (omega arith)) (λ y i. h y (there (drop_in l j i))))
    where
      j : ℕ
      j = more z (high (z x)) l

      first : Run
      first = record { first = op H x; more = ops H (take j l); top = top_of z (high (z x)) l }

  -- THE LAW of the dangling zones
  pub dangles_is : (w : ℕ) → In w W → dangles H (op H w) ≡ dangles_by C.finish late F w
  unfolding dangles_by
  dangles_is w m =
      ap (λ (l : List Op). all (λ r. not (spans H r (op H w))) (runs H l)) (sym (forwards_is o late g))
      ∙ outside_is w m (length F) F (omega arith) (λ x i. side_in C.finish late C.writer true i)
