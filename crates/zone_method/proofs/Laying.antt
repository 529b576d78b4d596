-- The loop that lays clusters down whole, the last of the list first.
-- Assumes nothing.
use Prim.Native.Nat.{ℕ, suc, ◌+◌, ◌-◌, ◌≤◌, ◌<◌}
use mathlib.Core.Path.{◌≡◌, refl, ap, sym, ◌∙◌}
use mathlib.Core.Bool.{Bool, true, false, not}
use mathlib.Core.Logic.{◌⊎◌, inl, inr}
use mathlib.Core.List.{List, ◌∷◌, [], ◌++◌, flat_map, append_assoc}
use native.Mathlib.Omega.{arith}
use lib.ListN.{length, get_or, take, drop, length-append, length-drop, drop_of_length-le}
use lib.Seq.{drop-cons}
use Rattle.std.proofs.lemmas.List.{get_or-append-add, get_or-take, take-take, take_at}
use borrow.Author.Tests.{eqb-true, eq-eqb, ne_eqb}
use Rattle.lists.proofs.Tests.{both}
use Rattle.positions.specs.Places.{upto, and, Once}
use Rattle.positions.specs.Columns.{mine, is_read, read_of}
use Rattle.positions.proofs.Places.{below, upto_ext, upto_stop, upto_parts, upto_some, no_cond, cond_assoc}
use Rattle.placing.specs.States.{State, is_free, laid, Ready, Whose}
use Rattle.placing.proofs.Adding.{added_marks}
use Rattle.placing.specs.Owned.{Mine, Owned}
use Rattle.zones.specs.Zones.{cluster_at}
use Rattle.zone_method.specs.Lay.{Whole, Lays}

-- after the cluster of w a state is ready again
module _ (writer : List ℕ) (w : ℕ) (s : State) (h : Ready (length writer) s) (k : Whose writer s w) (r : State) (o : Owned writer w s r) where
  abbrev P : ℕ → Bool
  P = is_free s.placed

  under : w < s.top
  under = go (below w s.top)
    where
      go : (w < s.top) ⊎ (s.top ≤ w) → w < s.top
      go (inl l) = l
      go (inr l) = absurd (both k.free (h.above w l k.inside))

  placed_now : length (upto (Mine writer w s) (length writer)) + 1 ≤ length (upto (and P (mine writer w)) s.top)
  placed_now =
      omega (
        arith,
        upto_parts (and P (mine writer w)) (is_read writer) s.top,
        upto_some (and (and P (mine writer w)) (λ j. not (is_read writer j))) s.top w under (rw (k.free, k.write, eq-eqb w w refl)),
        ap length same,
      )
    where
      same : upto (Mine writer w s) (length writer) ≡ upto (and (and P (mine writer w)) (is_read writer)) s.top
      same =
          upto_stop (Mine writer w s) s.top (length writer) h.within (λ j a b. rw (h.above j a b))
          ∙ upto_ext s.top (λ j l. cond_assoc (P j) (mine writer w j) (is_read writer j))

  stays : upto (is_free r.placed) r.top ≡ upto (and P (λ j. not (mine writer w j))) s.top
  stays = rw o.top (upto_ext s.top (λ j l. o.free j (omega (arith, h.within))))

  pub own_ready : Ready (length writer) r
  own_ready =
      record {
        size = h.size;
        within = omega (arith, o.top, h.within);
        marks = omega (arith, added_marks o.added, h.marks);
        high = omega (arith, o.added.cells, o.high, h.high);
        room =
            omega (
              arith,
              placed_now,
              upto_parts P (mine writer w) s.top,
              ap length stays,
              simp (length-append, length-drop) at (ap length o.order),
              o.added.cells,
              h.high,
              h.room,
              o.high,
            );
        above = λ j a b. o.free j b ∙ rw (h.above j (omega (arith, o.top)) b);
      }

-- Of the list a front is left: what is taken from its end is the listed one there, and what stays is the front without it.
pub left_push : (list rest less : List ℕ) (w : ℕ) → length rest ≤ length list → rest ≡ take (length rest) list → rest ≡ less ++ (w ∷ [])
    → (length rest ≡ length less + 1) × ((w ≡ get_or list (length less) 0) × (less ≡ take (length less) list))
left_push list rest less w h e p = (long, (last, stays))
  where
    long : length rest ≡ length less + 1
    long = omega (arith, ap length p, length-append less (w ∷ []))

    last : w ≡ get_or list (length less) 0
    last =
        let k : length less + 0 ≡ length less = omega arith in
        sym (rw k at (get_or-append-add less (w ∷ []) 0 0)) ∙ ap (λ (l : List ℕ). get_or l (length less) 0) (sym p ∙ e) ∙ get_or-take (length rest) list (length less) 0 (omega (arith, long))

    stays : less ≡ take (length less) list
    stays = sym (take_at less (w ∷ []) (length less) refl) ∙ ap (take (length less)) (sym p ∙ e) ∙ take-take (length less) (length rest) list (omega (arith, long))

-- The loop, where those from i on are laid.
pub record Laying (writer list : List ℕ) (s : State) (i : ℕ) (t : State) : Type 0 where
  pub within : i ≤ length list
  pub ready : Ready (length writer) t
  pub marks : length t.placed ≡ length s.placed
  pub cells : length t.order ≡ length s.order
  pub whole : Whole writer list i t
  pub order : laid t ≡ flat_map (cluster_at writer) (drop i list) ++ laid s

module _ (writer list : List ℕ) (s : State) where
  pub lay_none : Ready (length writer) s → Whole writer list (length list) s → Laying writer list s (length list) s
  unfolding flat_map
  lay_none h k =
      let l : length list ≤ length list = omega arith in
      record { within = l; ready = h; marks = refl; cells = refl; whole = k; order = rw (drop_of_length-le list l) refl }

  pub lay_end : (i : ℕ) (t : State) → Laying writer list s i t → i ≡ 0 → Lays writer list s t
  lay_end i t g z = record { ready = g.ready; order = rw z at g.order }

  module _ (i : ℕ) (t : State) (g : Laying writer list s i t) (h : 0 < i) where
    abbrev w : ℕ
    w = get_or list (i - 1) 0

    pub lay_whose : Whose writer t w
    lay_whose =
        let e = g.whole.write (i - 1) (omega arith) in
        let l = g.whole.inside (i - 1) (omega arith) in
        record { inside = l; write = e; free = g.whole.free (i - 1) w (omega arith) l e }

    pub lay_on : Once list → (r : State) → Owned writer w t r → Laying writer list s (i - 1) r
    unfolding flat_map
    lay_on d r o =
        record {
          within = omega (arith, g.within);
          ready = own_ready writer w t g.ready lay_whose r o;
          marks = added_marks o.added ∙ g.marks;
          cells = o.added.cells ∙ g.cells;
          whole = record { inside = λ k l. g.whole.inside k (omega arith); write = λ k l. g.whole.write k (omega arith); free = free };
          order =
              let e : drop (i - 1) list ≡ w ∷ drop i list = drops in
              o.order ∙ rw (e, all_mine, g.order) (ap (λ (l : List ℕ). w ∷ l) (sym (append_assoc (upto (read_of writer w) (length writer)) _ (laid s))));
        }
      where
        drops : drop (i - 1) list ≡ w ∷ drop i list
        drops = let e : suc (i - 1) ≡ i = omega arith in drop-cons list (i - 1) 0 (omega (arith, g.within)) ∙ rw e

        free : (k j : ℕ) → k < i - 1 → j < length writer → get_or writer j 0 ≡ get_or list k 0 → is_free r.placed j ≡ true
        free k j l m e =
            o.free j m ∙ rw (g.whole.free k j (omega arith) m e, ne_eqb (get_or writer j 0) w (λ q. d k (i - 1) l (omega (arith, g.within)) (sym q ∙ e)))

        all_mine : upto (Mine writer w t) (length writer) ≡ upto (read_of writer w) (length writer)
        all_mine = upto_ext (length writer) (λ j l. go j l (mine writer w j) refl)
          where
            go : (j : ℕ) → j < length writer → (b : Bool) → mine writer w j ≡ b → Mine writer w t j ≡ read_of writer w j
            go j l true e = rw (g.whole.free (i - 1) j (omega arith) l (eqb-true (get_or writer j 0) w e))
            go j l false e = rw e (no_cond (is_free t.placed j))

  -- the last of the front that is left
  module _ (rest less : List ℕ) (w : ℕ) (e : rest ≡ take (length rest) list) (p : rest ≡ less ++ (w ∷ [])) (t : State) (g : Laying writer list s (length rest) t) where
    k : (length rest ≡ length less + 1) × ((w ≡ get_or list (length less) 0) × (less ≡ take (length less) list))
    k = left_push list rest less w g.within e p

    less_is : length rest - 1 ≡ length less
    less_is = omega (arith, k.0)

    pub next_laid : Once list → (r : State) → Owned writer w t r → (less ≡ take (length less) list) × Laying writer list s (length less) r
    next_laid d r o = (k.1.1, rw less_is at (lay_on (length rest) t g (omega (arith, k.0)) d r (rw (k.1.0, ← less_is) at o)))
