-- The parts of a grid's text are the grid's cells, and those of a line's cells joined are the cells.
-- Assumes nothing.
use Prim.Native.Nat.{ℕ, zero, suc, ◌+◌, ◌<◌}
use mathlib.Core.Path.{◌≡◌, refl, sym, ap, ◌∙◌}
use mathlib.Core.Bool.{Bool, true, false, cond}
use mathlib.Core.List.Memᴰ.{head as here}
use mathlib.Core.List.Memᴰ.{tail as there}
use mathlib.Core.List.{List, [], ◌∷◌, ◌++◌, map, append_assoc, Memᴰ as In}
use native.Mathlib.Omega.{arith}
use lib.Dec.{eqb}
use lib.ListN.{length, get_or, drop, length-append, length-drop}
use lib.Seq.{drop-drop, drop-append-add, get_or_at}
use Rattle.lists.specs.Lists.{from, up_to}
use Rattle.parsing.specs.Numbers.{front}
use Rattle.cells.specs.Parts.{comma, feed, Part, part, longer, parts, lines_from}
use Rattle.cells.specs.Grids.{joined, text_of, bytes_of, rearranged, laid, Free, AllFree}
use Rattle.cells.proofs.Parting.{free_append, parts_one, parts_more, lines_none, lines_more}

pub length_laid : (k at : ℕ) (cs : List (List ℕ)) → length (laid k at cs) ≡ length cs
unfolding laid
length_laid k at [] = refl
length_laid k at (c ∷ cs) = ap suc (length_laid (suc k) (suc (at + length c)) cs)

pub bytes_laid : (k at : ℕ) (cs : List (List ℕ)) → bytes_of (laid k at cs) ≡ cs
unfolding laid
bytes_laid k at [] = refl
bytes_laid k at (c ∷ cs) = ap (λ (l : List (List ℕ)). c ∷ l) (bytes_laid (suc k) (suc (at + length c)) cs)

-- the cells of joined cells
pub joined_cells : (k at : ℕ) (c : List ℕ) (cs : List (List ℕ)) → AllFree comma (c ∷ cs) → parts comma k at (joined (c ∷ cs)) ≡ laid k at (c ∷ cs)
unfolding joined laid
joined_cells k at c [] h = parts_one comma k at c (h c (here refl))
joined_cells k at c (d ∷ cs) h =
    parts_more comma k at c (joined (d ∷ cs)) (suc (at + length c)) (h c (here refl)) refl
    ∙ ap (λ (ps : List Part). part k at c ∷ ps) (joined_cells (suc k) (suc (at + length c)) d cs (λ x i. h x (there i)))

pub joined_laid : (k at : ℕ) (cs : List (List ℕ)) → 0 < length cs → AllFree comma cs → parts comma k at (joined cs) ≡ laid k at cs
joined_laid k at [] h f = absurd (omega arith)
joined_laid k at (c ∷ cs) h f = joined_cells k at c cs f

pub joined_free : (cs : List (List ℕ)) → AllFree feed cs → Free feed (joined cs)
unfolding joined
joined_free [] h = tt
joined_free (c ∷ []) h = h c (here refl)
joined_free (c ∷ d ∷ cs) h = free_append feed c (comma ∷ joined (d ∷ cs)) (h c (here refl)) (refl, joined_free (d ∷ cs) (λ x i. h x (there i)))

-- the parts of any text, laid out
laid_longer : (k at b : ℕ) (ps : List Part) → ps ≡ laid k (suc at) (bytes_of ps) → longer k at b ps ≡ laid k at (bytes_of (longer k at b ps))
unfolding laid longer
laid_longer k at b [] e = refl
laid_longer k at b (p ∷ ps) e =
    let z : suc (at + suc (length p.bytes)) ≡ suc (suc at + length p.bytes) = omega arith in
    let t : ps ≡ laid (suc k) (suc (suc at + length p.bytes)) (bytes_of ps) = cc in
    rw z (ap (λ (l : List Part). part k at (b ∷ p.bytes) ∷ l) t)

pub parts_laid : (c k at : ℕ) (t : List ℕ) → parts c k at t ≡ laid k at (bytes_of (parts c k at t))
unfolding parts laid
parts_laid c k at [] = refl
parts_laid c k at (b ∷ t) = go (eqb b c) (parts_laid c (suc k) (suc at) t) (parts_laid c k (suc at) t)
  where
    go : (d : Bool) → parts c (suc k) (suc at) t ≡ laid (suc k) (suc at) (bytes_of (parts c (suc k) (suc at) t))
        → parts c k (suc at) t ≡ laid k (suc at) (bytes_of (parts c k (suc at) t))
        → cond d (part k at [] ∷ parts c (suc k) (suc at) t) (longer k at b (parts c k (suc at) t))
        ≡ laid k at (bytes_of (cond d (part k at [] ∷ parts c (suc k) (suc at) t) (longer k at b (parts c k (suc at) t))))
    go true e f = let z : at + 0 ≡ at = omega arith in rw z (ap (λ (l : List Part). part k at [] ∷ l) e)
    go false e f = laid_longer k at b (parts c k (suc at) t) f

-- they are free of what parts them, and of what the text is free of
nil_free : (c : ℕ) (l : List (List ℕ)) → AllFree c l → AllFree c ([] ∷ l)
nil_free c l h x (here q) = rw q tt
nil_free c l h x (there i) = h x i

one_free : (c : ℕ) → AllFree c ([] ∷ [])
one_free c x (here q) = rw q tt
one_free c x (there x5) = elim x5 [ ]

parts_free_longer : (c k at b : ℕ) (ps : List Part) → eqb b c ≡ false → AllFree c (bytes_of ps) → AllFree c (bytes_of (longer k at b ps))
unfolding longer
parts_free_longer c k at b [] e h x (here q) = rw q (e, tt)
parts_free_longer c k at b (p ∷ ps) e h x (here q) = rw q (e, h p.bytes (here refl))
parts_free_longer c k at b (p ∷ ps) e h x (there i) = h x (there i)
parts_free_longer c k at b [] e h x (there i) = elim i [ ]

pub parts_free : (c k at : ℕ) (t : List ℕ) → AllFree c (bytes_of (parts c k at t))
unfolding parts
parts_free c k at [] = one_free c
parts_free c k at (b ∷ t) = go (eqb b c) refl (parts_free c (suc k) (suc at) t) (parts_free c k (suc at) t)
  where
    go : (d : Bool) → eqb b c ≡ d → AllFree c (bytes_of (parts c (suc k) (suc at) t)) → AllFree c (bytes_of (parts c k (suc at) t))
        → AllFree c (bytes_of (cond d (part k at [] ∷ parts c (suc k) (suc at) t) (longer k at b (parts c k (suc at) t))))
    go true e f g = nil_free c _ f
    go false e f g = parts_free_longer c k at b (parts c k (suc at) t) e g

pub parts_keep : (a c k at : ℕ) (t : List ℕ) → Free a t → AllFree a (bytes_of (parts c k at t))
unfolding parts
parts_keep a c k at [] h = one_free a
parts_keep a c k at (b ∷ t) h = go (eqb b c) (parts_keep a c (suc k) (suc at) t h.1) (parts_keep a c k (suc at) t h.1)
  where
    go : (d : Bool) → AllFree a (bytes_of (parts c (suc k) (suc at) t)) → AllFree a (bytes_of (parts c k (suc at) t))
        → AllFree a (bytes_of (cond d (part k at [] ∷ parts c (suc k) (suc at) t) (longer k at b (parts c k (suc at) t))))
    go true f g = nil_free a _ f
    go false f g = parts_free_longer a k at b (parts c k (suc at) t) h.0 g

-- a line before its line feed
pub front_line : (l r : List ℕ) → Free feed l → front (l ++ (feed ∷ r)) ≡ l
unfolding front
front_line [] r h = refl
front_line (b ∷ l) r h = rw h.0 (ap (λ (t : List ℕ). b ∷ t) (front_line l r h.1))

-- the lines of a grid, laid out
unfoldable pub line_parts : ℕ → ℕ → List (List (List ℕ)) → List Part
line_parts n at [] = []
line_parts n at (r ∷ rs) = part n at (joined r) ∷ line_parts (n + 1) (at + length (joined r) + 1) rs

abbrev pub GridFree : ℕ → List (List (List ℕ)) → Type 0
GridFree c rs = (r : List (List ℕ)) → In r rs → AllFree c r

pub grid_lines : (bs : List ℕ) (n at : ℕ) (rs : List (List (List ℕ))) → drop at bs ≡ text_of rs → GridFree feed rs → lines_from bs n at ≡ line_parts n at rs
unfolding text_of line_parts
grid_lines bs n at [] e h = lines_none bs n at (omega (arith, ap length e, length-drop at bs))
grid_lines bs n at (r ∷ rs) e h =
    let f : front (drop at bs) ≡ joined r = ap front e ∙ front_line (joined r) (text_of rs) (joined_free r (h r (here refl))) in
    let end = at + length (joined r) in
    let inside : at < length bs = omega (arith, ap length e, length-append (joined r) (feed ∷ text_of rs), length-drop at bs) in
    let rest : drop (end + 1) bs ≡ text_of rs =
    (let z : at + length (joined r) + 1 ≡ at + (length (joined r) + 1) = omega arith in
    rw z (sym (drop-drop (length (joined r) + 1) at bs) ∙ ap (drop (length (joined r) + 1)) e ∙ drop-append-add (joined r) (feed ∷ text_of rs) 1)) in
    lines_more bs n at inside end (ap (λ (t : List ℕ). at + length t) (sym f))
    ∙ rw f (ap (λ (ps : List Part). part n at (joined r) ∷ ps) (grid_lines bs (n + 1) (end + 1) rs rest (λ x i. h x (there i))))

pub length_lines : (n at : ℕ) (rs : List (List (List ℕ))) → length (line_parts n at rs) ≡ length rs
unfolding line_parts
length_lines n at [] = refl
length_lines n at (r ∷ rs) = ap suc (length_lines (n + 1) (at + length (joined r) + 1) rs)

-- a cell at a place is one of the cells, and the cells at all the places are the cells
pub cell_in_lem : (cs : List (List ℕ)) (j : ℕ) → j < length cs → In (get_or cs j []) cs
cell_in_lem [] j h = absurd (omega arith)
cell_in_lem (c ∷ cs) zero h = here refl
cell_in_lem (c ∷ cs) (suc j) h = there (cell_in_lem cs j (omega arith))

pub rearranged_free : (a : ℕ) (o : List ℕ) (cs : List (List ℕ)) → ((j : ℕ) → In j o → j < length cs) → AllFree a cs → AllFree a (rearranged o cs)
rearranged_free a (j ∷ o) cs h f x (here q) = rw q (f (get_or cs j []) (cell_in_lem cs j (h j (here refl))))
rearranged_free a (j ∷ o) cs h f x (there i) = rearranged_free a o cs (λ y m. h y (there m)) f x i
rearranged_free a [] cs h f x x5 = elim x5 [ ]

each_from : (k : ℕ) (before cs : List (List ℕ)) → length before ≡ k → map (λ j. get_or (before ++ cs) j []) (from k (length cs)) ≡ cs
unfolding from
each_from k before [] e = refl
each_from k before (c ∷ cs) e =
    let snoc : before ++ (c ∷ cs) ≡ (before ++ (c ∷ [])) ++ cs = sym (append_assoc before (c ∷ []) cs) in
    rw (get_or_at before c cs [] k e)
    (ap (λ (t : List (List ℕ)). c ∷ t)
    (ap (λ (l : List (List ℕ)). map (λ j. get_or l j []) (from (suc k) (length cs))) snoc
    ∙ each_from (suc k) (before ++ (c ∷ [])) cs (omega (arith, length-append before (c ∷ []), e))))

pub each_cell : (cs : List (List ℕ)) → rearranged (up_to (length cs)) cs ≡ cs
each_cell cs = each_from 0 [] cs refl
