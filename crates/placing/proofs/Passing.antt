-- The loop of the scan: from the top down, what starts after `bound` is placed, unless it is a write or a read of a second other write.
-- Assumes nothing.
use Prim.Native.Nat.{ℕ, ◌+◌, ◌-◌, ◌≤◌, ◌<◌}
use mathlib.Core.Path.{◌≡◌, refl, ap, sym, ◌∙◌}
use mathlib.Core.Bool.{Bool, true, false, not, cond}
use mathlib.Core.Logic.{◌⊎◌, inl, inr, ◌≢◌}
use mathlib.Core.List.{List, []}
use native.Mathlib.Omega.{arith}
use lib.ListN.{length, get_or, set}
use lib.Dec.{eqb}
use borrow.Author.Tests.{ltb-true, lt-ltb, le-ltb, eqb-true, eqb-false, eq-eqb, ne_eqb, not-true, not-false}
use Rattle.lists.proofs.Tests.{both}
use Rattle.positions.specs.Places.{upto, and}
use Rattle.positions.specs.Columns.{Shaped}
use Rattle.positions.proofs.Places.{below, upto_empty, upto_parts, no_cond}
use Rattle.placing.specs.Rules.{clash, ask}
use Rattle.placing.specs.States.{State, is_free, Ready}
use Rattle.placing.specs.Added.{Added}
use Rattle.placing.specs.Scanned.{late, Late, Met, Asks, Kinds, Asking, Broken, a_write, two, Passed, Scanned, passed}
use Rattle.placing.proofs.Moved.{Moved, moved_none, moved_down, moved_push}
use Rattle.placing.proofs.Adding.{added_none, added_top, added_push}

-- what a clash is, and what the write that is asked for says
pub data Clashes (i v w asked : ℕ) : Type 0 where
  own : v ≡ i → Clashes i v w asked
  second : v ≢ w → asked ≢ 0 → asked ≢ v + 1 → Clashes i v w asked

pub record Calm (i v w asked : ℕ) : Type 0 where
  pub read : v ≢ i
  pub asks : ((v ≡ w) × (ask v w asked ≡ asked)) ⊎ ((v ≢ w) × (ask v w asked ≡ v + 1) × ((asked ≡ 0) ⊎ (asked ≡ v + 1)))

module _ (i v w asked : ℕ) where
  pub clashes : clash i v w asked ≡ true → Clashes i v w asked
  unfolding clash
  clashes h = first (eqb v i) refl h
    where
      third : (b : Bool) → eqb asked 0 ≡ b → v ≢ w → cond b false (not (eqb asked (v + 1))) ≡ true → Clashes i v w asked
      third true e n k = absurd (both k refl)
      third false e n k = second n (eqb-false asked 0 e) (eqb-false asked (v + 1) (not-true _ k))

      then : (b : Bool) → eqb v w ≡ b → cond b false (cond (eqb asked 0) false (not (eqb asked (v + 1)))) ≡ true → Clashes i v w asked
      then true e k = absurd (both k refl)
      then false e k = third (eqb asked 0) refl (eqb-false v w e) k

      first : (b : Bool) → eqb v i ≡ b → cond b true (cond (eqb v w) false (cond (eqb asked 0) false (not (eqb asked (v + 1))))) ≡ true → Clashes i v w asked
      first true e k = own (eqb-true v i e)
      first false e k = then (eqb v w) refl k

  pub calm : clash i v w asked ≡ false → Calm i v w asked
  unfolding clash ask
  calm h = first (eqb v i) refl h
    where
      third : (b : Bool) → eqb asked 0 ≡ b → cond b false (not (eqb asked (v + 1))) ≡ false → (asked ≡ 0) ⊎ (asked ≡ v + 1)
      third true e k = inl (eqb-true asked 0 e)
      third false e k = inr (eqb-true asked (v + 1) (not-false _ k))

      then : (b : Bool) → eqb v w ≡ b → v ≢ i → cond b false (cond (eqb asked 0) false (not (eqb asked (v + 1)))) ≡ false → Calm i v w asked
      then true e n k = record { read = n; asks = inl (eqb-true v w e, rw e) }
      then false e n k = record { read = n; asks = inr (eqb-false v w e, rw e, third (eqb asked 0) refl k) }

      first : (b : Bool) → eqb v i ≡ b → cond b true (cond (eqb v w) false (cond (eqb asked 0) false (not (eqb asked (v + 1))))) ≡ false → Calm i v w asked
      first true e k = absurd (both refl k)
      first false e k = then (eqb v w) refl (eqb-false v i e) k

-- the invariant: what was late is moved, and what it asks for is known
module _ (start writer : List ℕ) (w bound : ℕ) where
  pub record Passing (s t : State) (asked : ℕ) : Type 0 where
    pub added : Added s t
    pub moved : Moved (Late start writer w bound s) s.top t.top s t.placed t.order t.at
    pub after : (j : ℕ) → t.top ≤ j → j < s.top → bound < get_or start j 0
    pub kinds : Kinds start writer w bound s t.top asked
    pub asks : Asking start writer w bound s t.top asked

  met_on : {s : State} {k j : ℕ} (i : ℕ) → i ≤ k → Met start writer w bound s k j → Met start writer w bound s i j
  met_on i h m = record { from = omega arith; under = m.under; after = m.after; free = m.free }

  met_from : {s : State} {k j : ℕ} → k ≤ j → Met start writer w bound s 0 j → Met start writer w bound s k j
  met_from h m = record { from = h; under = m.under; after = m.after; free = m.free }

  pub scan_none : (n : ℕ) (s : State) → Ready n s → Passing s s 0
  scan_none n s r =
      record {
        added = added_none s;
        moved = moved_none r.high (omega (arith, r.room, upto_parts (is_free s.placed) (late start bound) s.top));
        after = λ j h k. absurd (omega arith);
        kinds = λ j m. absurd (omega (arith, m.from, m.under));
        asks = inl refl;
      }

  -- one position down from k = t.top, to i, which is late
  module _ (s t : State) (asked i : ℕ) (e : t.top ≡ i + 1) (g : Passing s t asked) (l : bound < get_or start i 0) where
    here_or_up : (j : ℕ) → i ≤ j → (j ≡ i) ⊎ (t.top ≤ j)
    here_or_up j h = go (below i j)
      where
        go : (i < j) ⊎ (j ≤ i) → (j ≡ i) ⊎ (t.top ≤ j)
        go (inl k) = inr (omega arith)
        go (inr k) = inl (omega arith)

    top_in : i < s.top
    top_in = omega (arith, g.moved.within)

    after_more : (j : ℕ) → i ≤ j → j < s.top → bound < get_or start j 0
    after_more j h k = go (here_or_up j h)
      where
        go : (j ≡ i) ⊎ (t.top ≤ j) → bound < get_or start j 0
        go (inl q) = rw q l
        go (inr q) = g.after j q k

    same_mark : get_or t.placed i 0 ≡ get_or s.placed i 0
    same_mark = g.moved.kept i (inl (omega arith))

    -- a placed operation is passed over
    pub scan_skip : (get_or t.placed i 0 ≡ 0 → ⊥) → Passing s (record { placed = t.placed; order = t.order; at = t.at; top = i }) asked
    scan_skip n =
        record {
          added = added_top s.top i g.added;
          moved = moved_down i (omega arith) (λ j h k. let q : j ≡ i = omega arith in rw (q, marked)) g.moved;
          after = after_more;
          kinds = λ j m. go j m (here_or_up j m.from);
          asks = asking g.asks;
        }
      where
        marked : is_free s.placed i ≡ false
        marked = ne_eqb _ _ (λ q. n (same_mark ∙ q))

        go : (j : ℕ) → Met start writer w bound s i j → (j ≡ i) ⊎ (t.top ≤ j) → (get_or writer j 0 ≢ j) × ((get_or writer j 0 ≡ w) ⊎ (asked ≡ get_or writer j 0 + 1))
        go j m (inl q) = absurd (both (rw q at m.free) marked)
        go j m (inr q) = g.kinds j (record { from = q; under = m.under; after = m.after; free = m.free })

        asking : (asked ≡ 0) ⊎ ((j : ℕ) × Asks start writer w bound s t.top asked j) → (asked ≡ 0) ⊎ ((j : ℕ) × Asks start writer w bound s i asked j)
        asking (inl q) = inl q
        asking (inr (j, q)) = inr (j, record { met = met_on i (omega arith) q.met; other = q.other; name = q.name })

    module _ (z : get_or t.placed i 0 ≡ 0) where
      open_here : is_free s.placed i ≡ true
      open_here = eq-eqb _ _ (sym same_mark ∙ z)

      met_here : Met start writer w bound s i i
      met_here = record { from = omega arith; under = top_in; after = l; free = open_here }

      -- a clash ends the scan
      pub scan_clash : clash i (get_or writer i 0) w asked ≡ true → Broken start writer w bound s
      scan_clash h = go (clashes i (get_or writer i 0) w asked h) g.asks
        where
          here : Met start writer w bound s 0 i
          here = met_on 0 (omega arith) met_here

          go : Clashes i (get_or writer i 0) w asked → (asked ≡ 0) ⊎ ((j : ℕ) × Asks start writer w bound s t.top asked j) → Broken start writer w bound s
          go (own q) a = a_write i here q
          go (second a b c) (inl q) = absurd (b q)
          go (second a b c) (inr (j, q)) = two i j here (met_on 0 (omega arith) q.met) a q.other (λ r. c (q.name ∙ ap (λ (x : ℕ). x + 1) (sym r)))

      taken : and (is_free s.placed) (late start bound) i ≡ true
      taken = rw (open_here, lt-ltb bound (get_or start i 0) l)

      pub scan_room : i < length s.placed → 0 < t.at
      scan_room small = (moved_push i e small taken g.moved).0

      -- any other read is placed
      pub scan_push : i < length s.placed → clash i (get_or writer i 0) w asked ≡ false
          → Passing s (record { placed = set t.placed i 1; order = set t.order (t.at - 1) i; at = t.at - 1; top = i }) (ask (get_or writer i 0) w asked)
      scan_push small h =
          record {
            added = added_top s.top i (added_push i small open_here (scan_room small) (omega (arith, g.moved.high, g.moved.cells)) g.added);
            moved = (moved_push i e small taken g.moved).1;
            after = after_more;
            kinds = λ j m. go j m (here_or_up j m.from) k.asks;
            asks = asking k.asks g.asks;
          }
        where
          v : ℕ
          v = get_or writer i 0

          k : Calm i v w asked
          k = calm i v w asked h

          mine : ((v ≡ w) × (ask v w asked ≡ asked)) ⊎ ((v ≢ w) × (ask v w asked ≡ v + 1) × ((asked ≡ 0) ⊎ (asked ≡ v + 1)))
              → (v ≡ w) ⊎ (ask v w asked ≡ v + 1)
          mine (inl (a, b)) = inl a
          mine (inr (a, b, c)) = inr b

          old : (x : ℕ) → (x ≡ w) ⊎ (asked ≡ x + 1)
              → ((v ≡ w) × (ask v w asked ≡ asked)) ⊎ ((v ≢ w) × (ask v w asked ≡ v + 1) × ((asked ≡ 0) ⊎ (asked ≡ v + 1)))
              → (x ≡ w) ⊎ (ask v w asked ≡ x + 1)
          old x (inl q) a = inl q
          old x (inr q) (inl (a, b)) = inr (b ∙ q)
          old x (inr q) (inr (a, b, inl c)) = absurd (omega arith)
          old x (inr q) (inr (a, b, inr c)) = inr (b ∙ sym c ∙ q)

          go : (j : ℕ) → Met start writer w bound s i j → (j ≡ i) ⊎ (t.top ≤ j)
              → ((v ≡ w) × (ask v w asked ≡ asked)) ⊎ ((v ≢ w) × (ask v w asked ≡ v + 1) × ((asked ≡ 0) ⊎ (asked ≡ v + 1)))
              → (get_or writer j 0 ≢ j) × ((get_or writer j 0 ≡ w) ⊎ (ask v w asked ≡ get_or writer j 0 + 1))
          go j m (inl q) a = rw q (k.read, mine a)
          go j m (inr q) a = let r = g.kinds j (record { from = q; under = m.under; after = m.after; free = m.free }) in (r.0, old _ r.1 a)

          asking : ((v ≡ w) × (ask v w asked ≡ asked)) ⊎ ((v ≢ w) × (ask v w asked ≡ v + 1) × ((asked ≡ 0) ⊎ (asked ≡ v + 1)))
              → (asked ≡ 0) ⊎ ((j : ℕ) × Asks start writer w bound s t.top asked j) → (ask v w asked ≡ 0) ⊎ ((j : ℕ) × Asks start writer w bound s i (ask v w asked) j)
          asking (inl (a, b)) (inl q) = inl (b ∙ q)
          asking (inl (a, b)) (inr (j, q)) = inr (j, record { met = met_on i (omega arith) q.met; other = q.other; name = b ∙ q.name })
          asking (inr (a, b, c)) q = inr (i, record { met = met_here; other = a; name = b })

  -- the scan ends where nothing below is late
  scan_end : (s t : State) (asked : ℕ) → Ready (length start) s → Passing s t asked → ((j : ℕ) → j < t.top → get_or start j 0 ≤ bound)
      → Passed start writer w bound s t asked
  scan_end s t asked r g u =
      record {
        added = g.added;
        within = g.moved.within;
        over = g.after;
        order = rw bottom at g.moved.order;
        free = λ j l. frees j l (is_free s.placed j) refl (late start bound j) refl;
        kinds = λ j m. g.kinds j (met_from (over j m.after) m);
        asks = go g.asks;
      }
    where
      bottom : upto (Late start writer w bound s) t.top ≡ []
      bottom = upto_empty (Late start writer w bound s) t.top (λ j a. rw (le-ltb bound (get_or start j 0) (u j a)) (no_cond (is_free s.placed j)))

      over : (j : ℕ) → bound < get_or start j 0 → t.top ≤ j
      over j a = at (below j t.top)
        where
          at : (j < t.top) ⊎ (t.top ≤ j) → t.top ≤ j
          at (inl b) = absurd (omega (arith, u j b))
          at (inr b) = b

      under : (j : ℕ) → j < length start → is_free s.placed j ≡ true → j < s.top
      under j l e = at (below j s.top)
        where
          at : (j < s.top) ⊎ (s.top ≤ j) → j < s.top
          at (inl a) = a
          at (inr a) = absurd (both e (r.above j a l))

      frees : (j : ℕ) → j < length start → (a : Bool) → is_free s.placed j ≡ a → (b : Bool) → late start bound j ≡ b
          → is_free t.placed j ≡ cond a (not b) false
      frees j l false e b q = ap (λ (x : ℕ). eqb x 0) (g.moved.kept j (inr (rw e refl))) ∙ e
      frees j l true e true q = g.moved.gone j (over j (ltb-true _ _ q)) (under j l e) (rw (e, q) refl)
      frees j l true e false q = ap (λ (x : ℕ). eqb x 0) (g.moved.kept j (inr (rw (e, q) refl))) ∙ e

      go : Asking start writer w bound s t.top asked → Asking start writer w bound s 0 asked
      go (inl e) = inl e
      go (inr (j, a)) = inr (j, record { met = met_on 0 (omega arith) a.met; other = a.other; name = a.name })

  -- at a position that is not late, or at the bottom
  pub scan_stop : (s t : State) (asked i : ℕ) → Shaped start writer → Ready (length start) s → t.top ≡ i + 1 → Passing s t asked → get_or start i 0 ≤ bound
      → Scanned start writer w bound s (record { state = t; asked = asked; failed = false })
  scan_stop s t asked i p r e g h =
      passed refl (scan_end s t asked r g (λ j k. omega (arith, p.rising j i (omega arith) (omega (arith, g.moved.within, r.within)))))

  pub scan_bottom : (s t : State) (asked : ℕ) → Ready (length start) s → t.top ≡ 0 → Passing s t asked
      → Scanned start writer w bound s (record { state = t; asked = asked; failed = false })
  scan_bottom s t asked r e g = passed refl (scan_end s t asked r g (λ j k. absurd (omega arith)))
