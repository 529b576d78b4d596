-- The parts of a text one by one: where a part ends, and what follows it.
-- Assumes nothing.
use Prim.Native.Nat.{ℕ, suc, ◌+◌, ◌≤◌, ◌<◌}
use mathlib.Core.Path.{◌≡◌, refl, sym, ap, ◌∙◌}
use mathlib.Core.Bool.{Bool, true, false, cond, ◌||◌}
use mathlib.Core.List.{List, [], ◌∷◌, ◌++◌}
use native.Mathlib.Numerals.{add-one}
use native.Mathlib.Omega.{arith}
use borrow.Author.Tests.{eq-eqb, eqb-true, lt-ltb, le-ltb, ltb-true, ltb-false}
use lib.Dec.{eqb, ltb}
use lib.ListN.{length, get_or, drop, drop_of_length-le, length-drop, length-append}
use lib.Seq.{drop-drop, drop-cons}
use Rattle.lists.specs.Lists.{put, keep}
use Rattle.parsing.specs.Numbers.{front, after}
use Rattle.cells.specs.Parts.{comma, feed, Part, part, longer, parts, lines_from}
use Rattle.cells.specs.Steps.{cells_from, cell_in, cell_at, end_of, comma_at}
use Rattle.cells.specs.Grids.{Free}

pub free_append : (c : ℕ) (p q : List ℕ) → Free c p → Free c q → Free c (p ++ q)
free_append c [] q h g = g
free_append c (b ∷ p) q h g = (h.0, free_append c p q h.1 g)

-- a text without c is one part
pub parts_one : (c n at : ℕ) (p : List ℕ) → Free c p → parts c n at p ≡ part n at p ∷ []
unfolding parts longer
parts_one c n at [] h = refl
parts_one c n at (b ∷ p) h = rw (h.0, parts_one c n (suc at) p h.1)

-- the part before the first c, and what follows it
pub parts_more : (c n at : ℕ) (p r : List ℕ) (next : ℕ) → Free c p → suc (at + length p) ≡ next → parts c n at (p ++ (c ∷ r)) ≡ part n at p ∷ parts c (suc n) next r
unfolding parts longer
parts_more c n at [] r next h e =
    let z : suc at ≡ next = omega arith in
    rw (eq-eqb c c refl) (ap (λ (k : ℕ). part n at [] ∷ parts c (suc n) k r) z)
parts_more c n at (b ∷ p) r next h e = rw (h.0, parts_more c n (suc at) p r next h.1 (omega arith))

-- the bytes before a line feed have none, and before a comma or a line feed neither
pub front_free : (t : List ℕ) → Free feed (front t)
unfolding front
front_free [] = tt
front_free (b ∷ t) = go (eqb b 10) refl (front_free t)
  where
    go : (d : Bool) → eqb b 10 ≡ d → Free feed (front t) → Free feed (cond d [] (b ∷ front t))
    go true e h = tt
    go false e h = (e, h)

pub cell_free : (t : List ℕ) → Free comma (cell_in t)
unfolding cell_in
cell_free [] = tt
cell_free (b ∷ t) = go (eqb b comma) (eqb b feed) refl (cell_free t)
  where
    go : (d f : Bool) → eqb b comma ≡ d → Free comma (cell_in t) → Free comma (cond (d || f) [] (b ∷ cell_in t))
    go true f e h = tt
    go false true e h = tt
    go false false e h = (e, h)

-- a text is the bytes before its first line feed, or these, the line feed, and what follows it
pub front_split : (t : List ℕ) → length (front t) < length t → t ≡ front t ++ (feed ∷ after t)
unfolding front after
front_split [] h = absurd (omega arith)
front_split (b ∷ t) h = go (eqb b 10) refl h (front_split t)
  where
    go : (d : Bool) → eqb b 10 ≡ d → length (cond d [] (b ∷ front t)) < suc (length t)
        → (length (front t) < length t → t ≡ front t ++ (feed ∷ drop (length (front t) + 1) t))
        → b ∷ t ≡ cond d [] (b ∷ front t) ++ (feed ∷ drop (length (cond d [] (b ∷ front t)) + 1) (b ∷ t))
    go true e h next = ap (λ (x : ℕ). x ∷ t) (eqb-true b 10 e)
    go false e h next = let z : suc (length (front t)) + 1 ≡ suc (length (front t) + 1) = omega arith in rw z (ap (λ (l : List ℕ). b ∷ l) (next (omega arith)))

pub front_whole : (t : List ℕ) → length t ≤ length (front t) → front t ≡ t
unfolding front
front_whole [] h = refl
front_whole (b ∷ t) h = go (eqb b 10) h (front_whole t)
  where
    go : (d : Bool) → suc (length t) ≤ length (cond d [] (b ∷ front t)) → (length t ≤ length (front t) → front t ≡ t) → cond d [] (b ∷ front t) ≡ b ∷ t
    go true h next = absurd (omega arith)
    go false h next = ap (λ (l : List ℕ). b ∷ l) (next (omega arith))

-- a comma stands at the front of a text
unfoldable pub comma_first : List ℕ → Bool
comma_first [] = false
comma_first (b ∷ t) = eqb b comma

pub comma_drop : (bs : List ℕ) (i : ℕ) → comma_first (drop i bs) ≡ comma_at bs i
unfolding comma_first comma_at
comma_drop bs i = go (ltb i (length bs)) refl
  where
    go : (d : Bool) → ltb i (length bs) ≡ d → comma_first (drop i bs) ≡ cond d (eqb (get_or bs i 0) comma) false
    go true e = rw (drop-cons bs i 0 (ltb-true i (length bs) e))
    go false e = rw (drop_of_length-le bs (ltb-false i (length bs) e))

-- the line from here on is this cell; or this cell, a comma, and the line from behind it on
pub cell_last : (t : List ℕ) → comma_first (drop (length (cell_in t)) t) ≡ false → front t ≡ cell_in t
unfolding front cell_in comma_first
cell_last [] h = refl
cell_last (b ∷ t) h = go (eqb b comma) (eqb b feed) refl h (cell_last t)
  where
    go : (d f : Bool) → eqb b comma ≡ d → comma_first (drop (length (cond (d || f) [] (b ∷ cell_in t))) (b ∷ t)) ≡ false
        → (comma_first (drop (length (cell_in t)) t) ≡ false → front t ≡ cell_in t) → cond f [] (b ∷ front t) ≡ cond (d || f) [] (b ∷ cell_in t)
    go true f e h next = let z : ◌≡◌ {A = ℕ} 0 1 = cc in absurd (omega arith)
    go false true e h next = refl
    go false false e h next = ap (λ (l : List ℕ). b ∷ l) (next h)

pub cell_more : (t : List ℕ) → comma_first (drop (length (cell_in t)) t) ≡ true → front t ≡ cell_in t ++ (comma ∷ front (drop (suc (length (cell_in t))) t))
unfolding front cell_in comma_first
cell_more [] h = let z : ◌≡◌ {A = ℕ} 0 1 = cc in absurd (omega arith)
cell_more (b ∷ t) h = go (eqb b comma) (eqb b feed) refl refl h (cell_more t)
  where
    go : (d f : Bool) → eqb b comma ≡ d → eqb b feed ≡ f → comma_first (drop (length (cond (d || f) [] (b ∷ cell_in t))) (b ∷ t)) ≡ true
        → (comma_first (drop (length (cell_in t)) t) ≡ true → front t ≡ cell_in t ++ (comma ∷ front (drop (suc (length (cell_in t))) t)))
        → cond f [] (b ∷ front t) ≡ cond (d || f) [] (b ∷ cell_in t) ++ (comma ∷ front (drop (suc (length (cond (d || f) [] (b ∷ cell_in t)))) (b ∷ t)))
    go true true e g h next = absurd (omega (arith, eqb-true b 44 e, eqb-true b 10 g))
    go true false e g h next = ap (λ (x : ℕ). x ∷ front t) (eqb-true b 44 e)
    go false true e g h next = let z : ◌≡◌ {A = ℕ} 0 1 = cc in absurd (omega arith)
    go false false e g h next = ap (λ (l : List ℕ). b ∷ l) (next h)

-- the cell that begins at an offset of the text, and ends at another
module _ (bs : List ℕ) (at end : ℕ) (ends : end ≡ end_of bs at) where
  behind : (m : ℕ) → at + length (cell_at bs at) ≡ m → drop (length (cell_at bs at)) (drop at bs) ≡ drop m bs
  behind m e = drop-drop (length (cell_at bs at)) at bs ∙ ap (λ (k : ℕ). drop k bs) e

  is_comma : comma_first (drop (length (cell_at bs at)) (drop at bs)) ≡ comma_at bs end
  is_comma = ap comma_first (behind end (sym ends)) ∙ comma_drop bs end

  next : drop (suc (length (cell_at bs at))) (drop at bs) ≡ drop (end + 1) bs
  next = drop-drop (suc (length (cell_at bs at))) at bs ∙ (let e : at + suc (length (cell_at bs at)) ≡ end + 1 = omega (arith, ends) in ap (λ (k : ℕ). drop k bs) e)

  -- it is the line's last
  module _ (no : comma_at bs end ≡ false) where
    rest_last : front (drop at bs) ≡ cell_at bs at
    rest_last = cell_last (drop at bs) (is_comma ∙ no)

    pub cells_last : (k : ℕ) → cells_from bs k at ≡ part k at (cell_at bs at) ∷ []
    unfolding cells_from
    cells_last k = rw rest_last (parts_one comma k at (cell_at bs at) (cell_free (drop at bs)))

    pub line_last : at + length (front (drop at bs)) ≡ end
    line_last = omega (arith, ap length rest_last, ends)

  -- it has a cell behind it
  module _ (yes : comma_at bs end ≡ true) where
    rest_more : front (drop at bs) ≡ cell_at bs at ++ (comma ∷ front (drop (end + 1) bs))
    rest_more = cell_more (drop at bs) (is_comma ∙ yes) ∙ ap (λ (t : List ℕ). cell_at bs at ++ (comma ∷ front t)) next

    pub cells_more : (k : ℕ) → cells_from bs k at ≡ part k at (cell_at bs at) ∷ cells_from bs (k + 1) (end + 1)
    unfolding cells_from
    cells_more k =
        rw (rest_more, add-one k) (parts_more comma k at (cell_at bs at) (front (drop (end + 1) bs)) (end + 1) (cell_free (drop at bs)) (omega (arith, ends)))

    pub line_more : at + length (front (drop at bs)) ≡ end + 1 + length (front (drop (end + 1) bs))
    line_more = omega (arith, ap length rest_more, length-append (cell_at bs at) (comma ∷ front (drop (end + 1) bs)), ends)

    pub comma_within : end < length bs
    unfolding comma_at
    comma_within = go (ltb end (length bs)) refl yes
      where
        go : (d : Bool) → ltb end (length bs) ≡ d → cond d (eqb (get_or bs end 0) comma) false ≡ true → end < length bs
        go true e h = ltb-true end (length bs) e
        go false e h = let z : ◌≡◌ {A = ℕ} 0 1 = cc in absurd (omega arith)

-- the lines of a text from an offset on
pub lines_none : (bs : List ℕ) (n at : ℕ) → length bs ≤ at → lines_from bs n at ≡ []
unfolding lines_from parts keep put
lines_none bs n at h = rw (drop_of_length-le bs h, le-ltb at (length bs) h)

module _ (bs : List ℕ) (n at : ℕ) where
  module _ (inside : at < length bs) (end : ℕ) (ends : end ≡ at + length (front (drop at bs))) where
    abbrev line : Part
    line = part n at (front (drop at bs))

    from_here : (ps : List Part) → parts feed n at (drop at bs) ≡ line ∷ ps → lines_from bs n at ≡ line ∷ keep (λ l. ltb l.at (length bs)) ps
    unfolding lines_from keep put
    from_here ps e = rw (e, lt-ltb at (length bs) inside)

    feed_behind : length (front (drop at bs)) < length (drop at bs) → lines_from bs n at ≡ line ∷ lines_from bs (n + 1) (end + 1)
    unfolding lines_from after
    feed_behind h =
        let e : at + (length (front (drop at bs)) + 1) ≡ end + 1 = omega (arith, ends) in
        let rest : after (drop at bs) ≡ drop (end + 1) bs = drop-drop (length (front (drop at bs)) + 1) at bs ∙ ap (λ (k : ℕ). drop k bs) e in
        let split : drop at bs ≡ front (drop at bs) ++ (feed ∷ drop (end + 1) bs) = front_split (drop at bs) h ∙ ap (λ (t : List ℕ). front (drop at bs) ++ (feed ∷ t)) rest in
        from_here (parts feed (n + 1) (end + 1) (drop (end + 1) bs))
        (ap (parts feed n at) split
        ∙ rw (add-one n) (parts_more feed n at (front (drop at bs)) (drop (end + 1) bs) (end + 1) (front_free (drop at bs)) (omega (arith, ends))))

    feed_none : length (drop at bs) ≤ length (front (drop at bs)) → lines_from bs n at ≡ line ∷ lines_from bs (n + 1) (end + 1)
    unfolding keep
    feed_none h =
        let w = front_whole (drop at bs) h in
        from_here [] (ap (parts feed n at) (sym w) ∙ parts_one feed n at (front (drop at bs)) (front_free (drop at bs)))
        ∙ ap (λ (ps : List Part). line ∷ ps) (sym (lines_none bs (n + 1) (end + 1) (omega (arith, ends, length-drop at bs))))

    pub lines_more : lines_from bs n at ≡ part n at (front (drop at bs)) ∷ lines_from bs (n + 1) (end + 1)
    lines_more = go (ltb (length (front (drop at bs))) (length (drop at bs))) refl
      where
        go : (d : Bool) → ltb (length (front (drop at bs))) (length (drop at bs)) ≡ d → lines_from bs n at ≡ line ∷ lines_from bs (n + 1) (end + 1)
        go true e = feed_behind (ltb-true _ _ e)
        go false e = feed_none (ltb-false _ _ e)
