-- The loop that joins the items: those that are done, with their orders one behind the other, and those that remain.
-- Assumes nothing.
use Prim.Native.Nat.{ℕ, ◌+◌, ◌-◌, ◌≤◌, ◌<◌}
use mathlib.Core.Path.{◌≡◌, refl, ap, sym, ◌∙◌}
use mathlib.Core.Bool.{Bool, true, false, cond}
use mathlib.Core.Logic.{◌⊎◌, inl, inr}
use mathlib.Core.List.Memᴰ
use mathlib.Core.List.Memᴰ.{head as here}
use mathlib.Core.List.{List, [], ◌∷◌, ◌++◌, flat_map, append-nil, append_assoc, Memᴰ as In}
use Rattle.std.specs.Prelude.{Some, None}
use native.Mathlib.Omega.{arith}
use lib.ListN.{length, take, drop, length-append, length-map, length-drop, drop_of_length-le}
use lib.Seq.{take_all, length-take-le}
use lib.Dec.{leb}
use borrow.Author.Tests.{leb-true, leb-false, le-leb}
use Rattle.lists.specs.Lists.{keep}
use Rattle.lists.proofs.Tests.{both}
use Rattle.lists.proofs.Cover.{in_drop}
use Rattle.lists.proofs.Members.{keep_ext}
use Rattle.lists.proofs.Images.{map_append, keep_map}
use Rattle.history.specs.declared.Op.{Op}
use Rattle.methods.specs.Zones.{order}
use Rattle.methods.specs.Fzf.{Item, runs, dangles, made, items, put_before, join, fzf}
use Rattle.methods.specs.Mark.{untried}
use Rattle.positions.specs.Columns.{Cols, size, op, ops, Of, Says}
use Rattle.positions.proofs.OfHistory.{size_is}
use Rattle.placing.specs.declared.Search.TheVariants.{Stale, Fresh}
use Rattle.placing.specs.Searched.{Searched, is_stale, is_fresh}
use Rattle.zones.specs.Zones.{Zoned}
use Rattle.freeing.specs.Freed.{Shut}
use Rattle.viability.proofs.Two.{order_of, made_order, join_done, done_short}
use Rattle.chunking.specs.Chunks.{dangles_by, Skips}
use Rattle.chunking.proofs.Sides.{side_in, forwards_is, backwards_is}
use Rattle.chunking.proofs.Runs.{dangles_is}
use Rattle.joining.specs.declared.Next.{Next}
use Rattle.joining.specs.Merge.{merge}
use Rattle.joining.specs.Next.{over_at, Waiting}
use Rattle.joining.specs.Items.{Known, forths, backs, Lent, Poised, remaining, Goes, Nexts, ends, goes}
use Rattle.joining.proofs.Merged.{items_merge}

-- the items that are done, and what their orders are
pub record Done (H : List Op) (F B placed : List ℕ) (a j : ℕ) : Type 0 where
  pub done : List Item
  pub all : items H ≡ done ++ remaining F B a j H
  pub made_all : (i : Item) → In i done → made H i ≡ order (order_of H i)
  pub orders : flat_map (order_of H) done ≡ ops H placed

-- m positions are written, and the items from a and j on remain
pub record Joining (C : Cols) (F B out : List ℕ) (m a j : ℕ) : Type 0 where
  pub forth : a ≤ length F
  pub back : j ≤ length B
  pub long : size C ≤ length out
  pub few : m ≤ size C
  pub whole : Says C (λ H. Done H F B (take m out) a j)

-- what the test for the end says
pub over_true : (f b a j : ℕ) → over_at f b a j ≡ true → (f ≤ a) × (b ≤ j)
unfolding over_at
over_true f b a j e = go (leb f a) refl e
  where
    go : (c : Bool) → leb f a ≡ c → cond c (leb b j) false ≡ true → (f ≤ a) × (b ≤ j)
    go true q r = (leb-true f a q, leb-true b j r)
    go false q r = absurd (both r refl)

pub over_false : (f b a j : ℕ) → over_at f b a j ≡ false → f ≤ a → j < b
unfolding over_at
over_false f b a j e h = leb-false b j (rw (le-leb f a h) at e)

-- an item that has an order goes on
pub goes_on : {C : Cols} {F B : List ℕ} {a j : ℕ} {part : List ℕ} {r : Next} → Nexts C F B a j part (Some r) → Goes C F B a j part r
goes_on (goes x) = x

flat_one : (f : Item → List Op) (a : List Item) (i : Item) → flat_map f (a ++ (i ∷ [])) ≡ flat_map f a ++ f i
unfolding flat_map
flat_one f [] i = append-nil (f i)
flat_one f (x ∷ a) i = rw (flat_one f a i) (sym (append_assoc (f x) (flat_map f a) (f i)))

-- a part's end, as it is lent
pub part_whole : (part : List ℕ) (at : ℕ) → take (length part - at) (drop at part) ≡ drop at part
part_whole part at = take_all (length part - at) (drop at part) (rw (length-drop) (omega arith))

-- at the outset everything is shut, and no backward zone was looked at
pub poised_none : (C : Cols) (late F B placed : List ℕ) → Shut (length C.writer) placed → Poised C late F B 0 0 placed
poised_none C late F B placed h = record { shut = h; behind = λ l. record { within = omega arith; lows = λ k b. absurd (omega arith) } }

-- after an item the places are as many
pub lent_again : {n : ℕ} {list turn placed part : List ℕ} → Lent n list turn placed part → (list' turn' placed' part' : List ℕ) → length list' ≡ length list → length turn' ≡ length turn →
    length placed' ≡ length placed → length part' ≡ length part → Lent n list' turn' placed' part'
lent_again l list' turn' placed' part' a b c d = record { inner = omega (arith, a, l.inner); turns = omega (arith, b, l.turns); marks = omega (arith, c, l.marks); cells = omega (arith, d, l.cells) }

module _ (C : Cols) (late : List ℕ) (g : Zoned C late) where
  abbrev F : List ℕ
  F = forths C late

  abbrev B : List ℕ
  B = backs C late

  pub join_none : (out : List ℕ) → size C ≤ length out → Joining C F B out 0 0 0
  unfolding flat_map
  join_none out e =
      record {
        forth = omega arith;
        back = omega arith;
        long = e;
        few = omega arith;
        whole = λ H o.
            record {
              done = [];
              all = items_merge o.prepared ∙ rw (forwards_is o late g, backwards_is o late g) refl;
              made_all = λ i m. elim m [ ];
              orders = refl;
            };
      }

  module _ (out : List ℕ) (m a j : ℕ) (k : Joining C F B out m a j) where
    pub join_skip : (i : ℕ) → Skips C.finish late F B j i → Joining C F B out m a i
    join_skip i x =
        record {
          forth = k.forth;
          back = x.to;
          long = k.long;
          few = k.few;
          whole = λ H o.
              let d = k.whole H o in
              record {
                done = d.done;
                all = d.all ∙ ap (λ (bs : List Op). d.done ++ merge H (runs H (ops H (drop a F))) bs) (same H o);
                made_all = d.made_all;
                orders = d.orders;
              };
        }
      where
        at : (H : List Op) (o : Of C H) (n : ℕ) → keep (dangles H) (ops H (drop n B)) ≡ ops H (keep (dangles_by C.finish late F) (drop n B))
        at H o n =
            keep_map (op H) (dangles H) (drop n B)
            ∙ ap (ops H) (keep_ext (λ w. dangles H (op H w)) (dangles_by C.finish late F) (drop n B) (λ w q. dangles_is o late g w (side_in C.finish late C.writer false (in_drop n B q))))

        same : (H : List Op) (o : Of C H) → keep (dangles H) (ops H (drop j B)) ≡ keep (dangles H) (ops H (drop i B))
        same H o = at H o j ∙ ap (ops H) x.same ∙ sym (at H o i)

    -- what the next item requires
    pub join_waits : (i : ℕ) → Skips C.finish late F B j i → over_at (length F) (length B) a i ≡ false → Waiting C.finish late F B a i
    join_waits i x e = record { forth = k.forth; back = x.to; some = over_false (length F) (length B) a i e; hangs = x.hit }

    -- nothing remains
    pub join_end : length F ≤ a → length B ≤ j → (allowance : ℕ) →
        Searched C allowance (λ H. untried (fzf H)) out (Fresh 0 m 0)
    unfolding fzf join put_before merge runs keep
    join_end h l allowance =
        is_fresh {from = 0} {to = m} {t = 0} (omega arith) (omega arith) (omega (arith, k.few, k.long))
        (λ H o.
        let d = k.whole H o in
        let e : remaining F B a j H ≡ [] = empty H in
        let z : m ≡ m - 0 = omega arith in
        ap untried
        (ap (join H) d.all
        ∙ join_done H d.done (remaining F B a j H) d.made_all
        ∙ ap (λ (l : List Item). put_before (flat_map (order_of H) d.done) (join H l)) e
        ∙ ap order (append-nil (flat_map (order_of H) d.done) ∙ d.orders)
        ∙ ap (λ (n : ℕ). order (ops H (take n out))) z))
      where
        empty : (H : List Op) → remaining F B a j H ≡ []
        empty H = rw (drop_of_length-le F h, drop_of_length-le B l) refl

    -- an item has no order
    pub join_fails : (part : List ℕ) → Nexts C F B a j part None → (o : List ℕ) → (allowance : ℕ) →
        Searched C allowance (λ H. untried (fzf H)) o (Stale 0)
    unfolding fzf join put_before
    join_fails part (ends x) w allowance =
        is_stale {t = 0} (omega arith)
        (λ H o.
        let d = k.whole H o in
        let (i, l, f, n) = x H o in
        ap untried
        (ap (join H) (d.all ∙ ap (λ (l : List Item). d.done ++ l) f)
        ∙ join_done H d.done (i ∷ l) d.made_all
        ∙ rw (n, join) refl))

    module _ (part : List ℕ) (r : Next) (x : Goes C F B a j part r) where
      -- one item more
      more : Says C (λ H. (done : List Item) × (items H ≡ done ++ remaining F B r.cursor.forward r.cursor.backward H) ×
          ((i : Item) → In i done → made H i ≡ order (order_of H i)) × (flat_map (order_of H) done ≡ ops H (take m out ++ drop r.at part)))
      more H o =
          let d = k.whole H o in
          let i = x.item H in
          let w = x.holds.whole H o in (
            d.done ++ (i ∷ []),
            d.all ∙ ap (λ (l : List Item). d.done ++ l) (x.next H o) ∙ sym (append_assoc d.done (i ∷ []) _),
            (λ y n. each y (Memᴰ.append_cases d.done n)),
            flat_one (order_of H) d.done i ∙ rw (d.orders, made_order H i _ w) (sym (map_append (op H) (take m out) (drop r.at part))),
          )
        where
          each : (y : Item) → In y (k.whole H o).done ⊎ In y (x.item H ∷ []) → made H y ≡ order (order_of H y)
          each y (inl n) = (k.whole H o).made_all y n
          each y (inr (here e)) = rw e (x.holds.whole H o ∙ ap order (sym (made_order H (x.item H) _ (x.holds.whole H o))))
          each y (inr (Memᴰ.tail x6)) = elim x6 [ ]

      -- what is written is no more than the history has
      pub join_room : Known C → m + length (drop r.at part) ≤ size C
      join_room (H, o) =
          let (done, e, f, q) = more H o in
          let s = done_short o.prepared done _ e f in
          omega (arith, s, ap length q, length-map (take m out ++ drop r.at part) (op H), length-append (take m out) (drop r.at part), length-take-le m out (omega (arith, k.long, k.few)), size_is o)

      pub join_on : Known C → (out' : List ℕ) (m' : ℕ) → length out' ≡ length out → m' ≡ m + length (drop r.at part) → take m' out' ≡ take m out ++ drop r.at part →
          Joining C F B out' m' r.cursor.forward r.cursor.backward
      join_on w out' m' l e t =
          record {
            forth = x.forth;
            back = x.back;
            long = omega (arith, l, k.long);
            few = omega (arith, join_room w);
            whole = λ H o. let (done, a, f, q) = more H o in record { done = done; all = a; made_all = f; orders = q ∙ ap (ops H) (sym t) };
          }
