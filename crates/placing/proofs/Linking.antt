-- The loop along a chain: the reads of w, from the latest back to the first, are placed where they are not yet; then w.
-- Assumes nothing.
use Prim.Native.Nat.{ℕ, ◌+◌, ◌-◌, ◌≤◌, ◌<◌}
use mathlib.Core.Path.{◌≡◌, refl, ap, sym, ◌∙◌}
use mathlib.Core.Bool.{Bool, true, false, not, cond}
use mathlib.Core.Logic.{◌⊎◌, inl, inr, ◌≢◌}
use mathlib.Core.List.{List, ◌∷◌, ◌++◌}
use native.Mathlib.Omega.{arith}
use lib.ListN.{length, get_or, set, length-append, length-drop}
use lib.Seq.{get_or-set_same, get_or-set_other}
use lib.Dec.{eqb}
use borrow.Author.Tests.{eqb-true, eqb-false, eq-eqb, ne_eqb}
use Rattle.lists.proofs.Tests.{test}
use Rattle.positions.specs.Places.{upto, and, latest}
use Rattle.positions.specs.Columns.{mine, read_of, Linked}
use Rattle.positions.proofs.Places.{below, upto_parts, upto_stop, upto_some, no_cond}
use Rattle.positions.proofs.Latest.{latest_le, latest_none, latest_at}
use Rattle.placing.specs.States.{State, is_free, laid, state_of, Ready, Whose}
use Rattle.placing.specs.Added.{Added}
use Rattle.placing.specs.Owned.{Mine, Owned}
use Rattle.placing.proofs.Moved.{Moved, moved_none, moved_down, moved_push, laid_push}
use Rattle.placing.proofs.Adding.{added_none, added_top, added_push}

-- the invariant, at the link k: the reads of w from k on are moved, and k is 0 or one more than a read of w
pub record Linking (writer : List ℕ) (w k : ℕ) (s t : State) : Type 0 where
  pub added : Added s t
  pub moved : Moved (Mine writer w s) (length writer) k s t.placed t.order t.at
  pub top : t.top ≡ s.top
  pub link : 0 < k → read_of writer w (k - 1) ≡ true

module _ (writer last prev : List ℕ) (w : ℕ) (p : Linked writer last prev) (s : State) (r : Ready (length writer) s) (h : Whose writer s w) where
  -- w is left, besides its reads
  enough : length (upto (Mine writer w s) (length writer)) + 1 ≤ s.at
  enough =
      let P = is_free s.placed in
      let e : upto P (length writer) ≡ upto P s.top = upto_stop P s.top (length writer) r.within r.above in
      let q : cond (is_free s.placed w) (not (read_of writer w w)) false ≡ true = rw (h.free, h.write, eq-eqb w w refl) in
      let k = upto_some (and P (λ j. not (read_of writer w j))) (length writer) w h.inside q in
      omega (arith, r.room, upto_parts P (read_of writer w) (length writer), ap length e)

  not_mine_lem : (j : ℕ) → read_of writer w j ≡ false → Mine writer w s j ≡ false
  not_mine_lem j e = rw e (no_cond (is_free s.placed j))

  pub link_none : Linking writer w (get_or last w 0) s s
  link_none =
      rw (p.lasts w h.inside h.write)
      (record {
        added = added_none s;
        moved = moved_down (latest (read_of writer w) (length writer)) (latest_le _ _) (λ j a b. not_mine_lem j (latest_none _ _ j a b)) (moved_none r.high (omega (arith, enough)));
        top = refl;
        link = latest_at (read_of writer w) (length writer);
      })

  -- one link
  module _ (k : ℕ) (t : State) (some : 0 < k) (g : Linking writer w k s t) where
    inside : k - 1 < length writer
    inside = omega (arith, g.moved.within)

    next : get_or prev (k - 1) 0 ≡ latest (read_of writer w) (k - 1)
    next = p.prevs w (k - 1) inside (g.link some)

    same_mark : get_or t.placed (k - 1) 0 ≡ get_or s.placed (k - 1) 0
    same_mark = g.moved.kept (k - 1) (inl (omega arith))

    pub link_falls : get_or prev (k - 1) 0 < k
    link_falls = rw next (omega (arith, latest_le (read_of writer w) (k - 1)))

    pub link_skip : (get_or t.placed (k - 1) 0 ≡ 0 → ⊥) → Linking writer w (get_or prev (k - 1) 0) s t
    link_skip z =
        rw next
        (record {
          added = g.added;
          moved = moved_down (latest (read_of writer w) (k - 1)) (omega (arith, latest_le (read_of writer w) (k - 1))) (λ j a b. go j a (below j (k - 1)) b) g.moved;
          top = g.top;
          link = latest_at (read_of writer w) (k - 1);
        })
      where
        go : (j : ℕ) → latest (read_of writer w) (k - 1) ≤ j → (j < k - 1) ⊎ (k - 1 ≤ j) → j < k → Mine writer w s j ≡ false
        go j a (inl c) b = not_mine_lem j (latest_none _ _ j a c)
        go j a (inr c) b = let q : j ≡ k - 1 = omega arith in rw (q, ne_eqb (get_or s.placed (k - 1) 0) 0 (λ e. z (same_mark ∙ e)))

    module _ (z : get_or t.placed (k - 1) 0 ≡ 0) where
      taken : Mine writer w s (k - 1) ≡ true
      taken = rw (eq-eqb (get_or s.placed (k - 1) 0) 0 (sym same_mark ∙ z)) (g.link some)

      pushed : (0 < t.at) × Moved (Mine writer w s) (length writer) (k - 1) s (set t.placed (k - 1) 1) (set t.order (t.at - 1) (k - 1)) (t.at - 1)
      pushed = moved_push (k - 1) (omega arith) (omega (arith, r.marks, inside)) taken g.moved

      pub link_room : 0 < t.at
      link_room = pushed.0

      pub link_push : Linking writer w (get_or prev (k - 1) 0) s (record { placed = set t.placed (k - 1) 1; order = set t.order (t.at - 1) (k - 1); at = t.at - 1; top = t.top })
      link_push =
          rw next
          (record {
            added = added_push (k - 1) (omega (arith, r.marks, inside)) (eq-eqb _ _ (sym same_mark ∙ z)) link_room (omega (arith, g.moved.high, g.moved.cells)) g.added;
            moved = moved_down (latest (read_of writer w) (k - 1)) (latest_le (read_of writer w) (k - 1)) (λ j a b. not_mine_lem j (latest_none _ _ j a b)) pushed.1;
            top = g.top;
            link = latest_at (read_of writer w) (k - 1);
          })

  -- after the chain, w
  module _ (k : ℕ) (t : State) (none : k ≡ 0) (g : Linking writer w k s t) where
    ended : Moved (Mine writer w s) (length writer) 0 s t.placed t.order t.at
    ended = rw none at g.moved

    back : laid t ≡ upto (Mine writer w s) (length writer) ++ laid s
    unfolding upto
    back = ended.order

    spent : t.at + length (upto (Mine writer w s) (length writer)) ≡ s.at
    spent =
        omega (arith, simp (length-append, length-drop) at (ap length back), ended.cells, ended.high, r.high, enough)

    pub own_room : 0 < t.at
    own_room = omega (arith, spent, enough)

    pub own_end : Owned writer w s (record { placed = set t.placed w 1; order = set t.order (t.at - 1) w; at = t.at - 1; top = t.top })
    own_end =
        record {
          added = added_push w (omega (arith, r.marks, h.inside)) h.free own_room (omega (arith, ended.cells, ended.high)) g.added;
          high = omega (arith, spent, enough);
          top = g.top;
          order = laid_push t.order t.at w own_room (omega (arith, ended.cells, ended.high)) ∙ ap (λ (l : List ℕ). w ∷ l) back;
          free = λ j m. frees j m (test (eqb j w));
        }
      where
        -- j is not w
        other : (j : ℕ) → j ≢ w → (f m q : Bool) → is_free s.placed j ≡ f → eqb (get_or writer j 0) w ≡ m → eqb (get_or writer j 0) j ≡ q → j < length writer
            → is_free t.placed j ≡ cond f (not m) false
        other j d false m q a b c l = ap (λ (x : ℕ). eqb x 0) (ended.kept j (inr (rw a refl))) ∙ a
        other j d true false q a b c l = ap (λ (x : ℕ). eqb x 0) (ended.kept j (inr (rw (a, b) refl))) ∙ a
        other j d true true true a b c l = absurd (d (sym (eqb-true _ _ c) ∙ eqb-true _ _ b))
        other j d true true false a b c l = ended.gone j (omega arith) l (rw (a, b, c) refl)

        frees : (j : ℕ) → j < length writer → (eqb j w ≡ true) ⊎ (eqb j w ≡ false) → is_free (set t.placed w 1) j ≡ and (is_free s.placed) (λ i. not (mine writer w i)) j
        frees j l (inl e) =
            let q : j ≡ w = eqb-true j w e in
            let i : w < length t.placed = omega (arith, ended.marks, r.marks, h.inside) in
            rw (q, get_or-set_same t.placed w 1 0, h.write, eq-eqb w w refl) (sym (no_cond (is_free s.placed w)))
        frees j l (inr e) =
            let d : j ≢ w = eqb-false j w e in
            rw (get_or-set_other t.placed w j 1 0 d) (other j d _ _ _ refl refl refl l)

-- the top plays no part in it
pub own_any : (writer : List ℕ) (w : ℕ) (s r : State) → Owned writer w s r → (top : ℕ) → Owned writer w (state_of s.placed s.order s.at top) (state_of r.placed r.order r.at top)
own_any writer w s r o top = record { added = added_top top top o.added; high = o.high; top = refl; order = o.order; free = o.free }
