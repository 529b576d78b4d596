-- Columns in another order: where the needed ones stand then, and that a line so rearranged says the same.
-- Assumes nothing.
use Prim.Native.Nat.{ℕ, zero, suc, ◌+◌, ◌-◌, ◌≤◌, ◌<◌}
use mathlib.Core.Path.{◌≡◌, refl, sym, ap, ◌∙◌}
use mathlib.Core.Logic.{◌≢◌}
use mathlib.Core.Bool.{Bool, true, false, cond, not}
use mathlib.Core.List.Memᴰ.{head as here}
use mathlib.Core.List.Memᴰ.{tail as there}
use mathlib.Core.List.{List, [], ◌∷◌, map, Memᴰ as In}
use native.Mathlib.Omega.{arith}
use borrow.Author.Tests.{eq-eqb, ne_eqb, eqb-true, eqb-false}
use lib.Dec.{eqb}
use lib.ListN.{length, get_or}
use Rattle.std.specs.Prelude.{Some, None}
use Rattle.lists.specs.Lists.{from, first}
use Rattle.lists.specs.Pairs.{Pairs}
use Rattle.lists.proofs.Pairs.{pairs_head, pairs_tail}
use Rattle.parsing.specs.Numbers.{is_number}
use Rattle.cells.specs.Parts.{same}
use Rattle.cells.specs.Grids.{rearranged, laid}
use Rattle.headers.specs.declared.Column.{Column}
use Rattle.headers.specs.declared.Column.TheVariants.{Missing, Only, Repeated}
use Rattle.headers.specs.declared.Columns.{Columns}
use Rattle.headers.specs.Header.{more, column_from}
use Rattle.log_tables.specs.Logs.{said_in, unreadable, amount, number_at}

-- where p stands in an order whose first place is numbered k
unfoldable pub place_in : ℕ → ℕ → List ℕ → ℕ
place_in k p [] = k
place_in k p (j ∷ o) = cond (eqb j p) k (place_in (suc k) p o)

place_above : (k p : ℕ) (o : List ℕ) → k ≤ place_in k p o
unfolding place_in
place_above k p [] = omega arith
place_above k p (j ∷ o) = go (eqb j p) (place_above (suc k) p o)
  where
    go : (b : Bool) → suc k ≤ place_in (suc k) p o → k ≤ cond b k (place_in (suc k) p o)
    go true h = omega arith
    go false h = omega arith

-- the places numbered from k on that hold p are those numbered c
abbrev pub Placed : ℕ → ℕ → ℕ → List ℕ → Type 0
Placed c p k [] = Unit {0}
Placed c p k (j ∷ o) = (eqb k c ≡ eqb j p) × Placed c p (suc k) o

placed_away : (c p k : ℕ) (o : List ℕ) → c < k → ((j : ℕ) → In j o → j ≢ p) → Placed c p k o
placed_away c p k [] h n = tt
placed_away c p k (j ∷ o) h n =
    (ne_eqb k c (λ e. omega arith) ∙ sym (ne_eqb j p (n j (here refl))), placed_away c p (suc k) o (omega arith) (λ i m. n i (there m)))

in_rest : (p j : ℕ) (o : List ℕ) → eqb j p ≡ false → In p (j ∷ o) → In p o
in_rest p j o e (here q) = absurd (eqb-false j p e (sym q))
in_rest p j o e (there m) = m

pub placed : (p k : ℕ) (o : List ℕ) → Pairs ◌≢◌ o → In p o → Placed (place_in k p o) p k o
unfolding place_in
placed p k [] d m = tt
placed p k (j ∷ o) d m = go (eqb j p) refl (placed p (suc k) o (pairs_tail d))
  where
    go : (b : Bool) → eqb j p ≡ b → (In p o → Placed (place_in (suc k) p o) p (suc k) o)
        → (eqb k (cond b k (place_in (suc k) p o)) ≡ eqb j p) × Placed (cond b k (place_in (suc k) p o)) p (suc k) o
    go true e next =
        (eq-eqb k k refl ∙ sym e, placed_away k p (suc k) o (omega arith) (λ i n q. pairs_head d i n (eqb-true j p e ∙ sym q)))
    go false e next = (ne_eqb k (place_in (suc k) p o) (λ q. omega (arith, place_above (suc k) p o)) ∙ sym e, next (in_rest p j o e m))

pub placed_same : (c k n : ℕ) → Placed c c k (from k n)
unfolding from
placed_same c k zero = tt
placed_same c k (suc n) = (refl, placed_same c (suc k) n)

-- the five needed columns: cs in the rearranged lines, ps before
pub record Places (cs ps : Columns) (k : ℕ) (o : List ℕ) : Type 0 where
  pub register : Placed cs.register ps.register k o
  pub kind : Placed cs.kind ps.kind k o
  pub value : Placed cs.value ps.value k o
  pub start : Placed cs.start ps.start k o
  pub finish : Placed cs.finish ps.finish k o

module _ {cs ps : Columns} {k j : ℕ} {o : List ℕ} (g : Places cs ps k (j ∷ o)) where
  places_tail : Places cs ps (suc k) o
  places_tail = record { register = g.register.1; kind = g.kind.1; value = g.value.1; start = g.start.1; finish = g.finish.1 }

  said_placed : (t : List ℕ) → said_in cs k t ≡ said_in ps j t
  unfolding said_in
  said_placed t = rw (g.kind.0, g.register.0, g.value.0, g.start.0, g.finish.0)

-- a line's cells c at the places of the order before it was rearranged
module _ (cs ps : Columns) (c : ℕ → List ℕ) where
  pub said_quiet : (k at : ℕ) (o : List ℕ) → Places cs ps k o → ((j : ℕ) → In j o → is_number (said_in ps j (c j)) ≡ true)
      → first (λ p. p.at) (unreadable cs) (laid k at (map c o)) ≡ None
  unfolding first laid
  said_quiet k at [] g h = refl
  said_quiet k at (j ∷ o) g h = rw (said_placed g (c j), h j (here refl)) (said_quiet (suc k) (suc (at + length (c j))) o (places_tail g) (λ i m. h i (there m)))

  pub quiet_said : (k at : ℕ) (o : List ℕ) → Places cs ps k o → first (λ p. p.at) (unreadable cs) (laid k at (map c o)) ≡ None
      → (j : ℕ) → In j o → is_number (said_in ps j (c j)) ≡ true
  unfolding first laid
  quiet_said k at (i ∷ o) g e j m =
      go (is_number (said_in cs k (c i))) refl e m (λ f n. quiet_said (suc k) (suc (at + length (c i))) o (places_tail g) f j n)
    where
      go : (b : Bool) → is_number (said_in cs k (c i)) ≡ b → cond (not b) (Some at) (first (λ p. p.at) (unreadable cs) (laid (suc k) (suc (at + length (c i))) (map c o))) ≡ None
          → In j (i ∷ o) → (first (λ p. p.at) (unreadable cs) (laid (suc k) (suc (at + length (c i))) (map c o)) ≡ None → In j o → is_number (said_in ps j (c j)) ≡ true)
          → is_number (said_in ps j (c j)) ≡ true
      go true q e (here p) next = rw p (ap is_number (sym (said_placed g (c i))) ∙ q)
      go true q e (there n) next = next e n
      go false q e m next = let z : ◌≡◌ {A = ℕ} 0 1 = cc in absurd (omega arith)
  quiet_said k at [] g e j m = elim m [ ]

-- the needed columns are among those of an order
pub record Holds (ps : Columns) (o : List ℕ) : Type 0 where
  pub register : In ps.register o
  pub kind : In ps.kind o
  pub value : In ps.value o
  pub start : In ps.start o
  pub finish : In ps.finish o

-- what stands at a place of an order: the cell, and what it says
placed_cell : (c : ℕ → List ℕ) (p k : ℕ) (o : List ℕ) → In p o → get_or (map c o) (place_in k p o - k) [] ≡ c p
unfolding place_in
placed_cell c p k (j ∷ o) m = go (eqb j p) refl (placed_cell c p (suc k) o)
  where
    go : (b : Bool) → eqb j p ≡ b → (In p o → get_or (map c o) (place_in (suc k) p o - suc k) [] ≡ c p)
        → get_or (c j ∷ map c o) (cond b k (place_in (suc k) p o) - k) [] ≡ c p
    go true e next = let z : k - k ≡ 0 = omega arith in rw z (ap c (eqb-true j p e))
    go false e next =
        let z : place_in (suc k) p o - k ≡ suc (place_in (suc k) p o - suc k) = omega (arith, place_above (suc k) p o) in
        rw z (next (in_rest p j o e m))
placed_cell c p k [] m = elim m [ ]

placed_said : {cs ps : Columns} (p k : ℕ) (o : List ℕ) → Places cs ps k o → In p o → (t : List ℕ) → said_in cs (place_in k p o) t ≡ said_in ps p t
unfolding place_in
placed_said {cs} {ps} p k (j ∷ o) g m t = go (eqb j p) refl (λ n. placed_said p (suc k) o (places_tail g) n t)
  where
    go : (b : Bool) → eqb j p ≡ b → (In p o → said_in cs (place_in (suc k) p o) t ≡ said_in ps p t) → said_in cs (cond b k (place_in (suc k) p o)) t ≡ said_in ps p t
    go true e next = said_placed g t ∙ ap (λ (i : ℕ). said_in ps i t) (eqb-true j p e)
    go false e next = next (in_rest p j o e m)
placed_said {cs = cs} {ps = ps} p k [] g m t = elim m [ ]

pub number_placed : {cs ps : Columns} (o : List ℕ) → Places cs ps 0 o → (r : List (List ℕ)) (p : ℕ) → In p o
    → number_at cs (rearranged o r) (place_in 0 p o) ≡ number_at ps r p
number_placed {cs} {ps} o g r p m =
    let z : place_in 0 p o - 0 ≡ place_in 0 p o = omega arith in
    let c : get_or (rearranged o r) (place_in 0 p o) [] ≡ get_or r p [] = rw z at (placed_cell (λ k. get_or r k []) p 0 o m) in
    ap (λ (t : List ℕ). amount (said_in cs (place_in 0 p o) t)) c ∙ ap amount (placed_said p 0 o g m (get_or r p []))

-- a name in the header
module _ (m : List ℕ) where
  away : (n : ℕ → List ℕ) (found : Column) (k at : ℕ) (o : List ℕ) → ((j : ℕ) → In j o → same (n j) m ≡ false) → column_from m found (laid k at (map n o)) ≡ found
  unfolding column_from laid
  away n found k at [] h = refl
  away n found k at (j ∷ o) h =
      ap (λ (b : Bool). column_from m (cond b (more found k) found) (laid (suc k) (suc (at + length (n j))) (map n o))) (h j (here refl))
      ∙ away n found (suc k) (suc (at + length (n j))) o (λ i x. h i (there x))

  pub named_placed : (n : ℕ → List ℕ) (p k at : ℕ) (o : List ℕ) → Pairs ◌≢◌ o → In p o → ((j : ℕ) → In j o → same (n j) m ≡ eqb j p)
      → column_from m Missing (laid k at (map n o)) ≡ Only (place_in k p o)
  unfolding column_from laid place_in more
  named_placed n p k at (j ∷ o) d i h =
      ap (λ (b : Bool). column_from m (cond b (Only k) Missing) (laid (suc k) (suc (at + length (n j))) (map n o))) (h j (here refl))
      ∙ go (eqb j p) refl (λ x. named_placed n p (suc k) (suc (at + length (n j))) o (pairs_tail d) x (λ y z. h y (there z)))
    where
      go : (b : Bool) → eqb j p ≡ b → (In p o → column_from m Missing (laid (suc k) (suc (at + length (n j))) (map n o)) ≡ Only (place_in (suc k) p o))
          → column_from m (cond b (Only k) Missing) (laid (suc k) (suc (at + length (n j))) (map n o)) ≡ Only (cond b k (place_in (suc k) p o))
      go true e next = away n (Only k) (suc k) (suc (at + length (n j))) o (λ y x. h y (there x) ∙ ne_eqb y p (λ q. pairs_head d y x (eqb-true j p e ∙ sym q)))
      go false e next = next (in_rest p j o e i)
  named_placed n p k at [] d i h = elim i [ ]

  repeated : (k at : ℕ) (hs : List (List ℕ)) → column_from m Repeated (laid k at hs) ≡ Repeated
  unfolding column_from laid more
  repeated k at [] = refl
  repeated k at (h ∷ hs) = go (same h m) (repeated (suc k) (suc (at + length h)) hs)
    where
      go : (b : Bool) → column_from m Repeated (laid (suc k) (suc (at + length h)) hs) ≡ Repeated → column_from m (cond b Repeated Repeated) (laid (suc k) (suc (at + length h)) hs) ≡ Repeated
      go true e = e
      go false e = e

  only_once : (q p k at : ℕ) (hs : List (List ℕ)) → column_from m (Only q) (laid k at hs) ≡ Only p
      → (p ≡ q) × ((j : ℕ) → j < length hs → same (get_or hs j []) m ≡ false)
  unfolding column_from laid more
  only_once q p k at [] e = (cc, λ j l. absurd (omega arith))
  only_once q p k at (h ∷ hs) e = go (same h m) refl e (only_once q p (suc k) (suc (at + length h)) hs)
    where
      go : (b : Bool) → same h m ≡ b → column_from m (cond b Repeated (Only q)) (laid (suc k) (suc (at + length h)) hs) ≡ Only p
          → (column_from m (Only q) (laid (suc k) (suc (at + length h)) hs) ≡ Only p → (p ≡ q) × ((j : ℕ) → j < length hs → same (get_or hs j []) m ≡ false))
          → (p ≡ q) × ((j : ℕ) → j < suc (length hs) → same (get_or (h ∷ hs) j []) m ≡ false)
      go true s e next = let r = repeated (suc k) (suc (at + length h)) hs in let z : ◌≡◌ {A = ℕ} 0 1 = cc in absurd (omega arith)
      go false s e next = let r = next e in (r.0, λ j l. each r.1 j l)
        where
          each : ((j : ℕ) → j < length hs → same (get_or hs j []) m ≡ false) → (j : ℕ) → j < suc (length hs) → same (get_or (h ∷ hs) j []) m ≡ false
          each f zero l = s
          each f (suc j) l = f j (omega arith)

  pub placed_named : (p k at : ℕ) (hs : List (List ℕ)) → column_from m Missing (laid k at hs) ≡ Only p
      → (k ≤ p) × (p < k + length hs) × ((j : ℕ) → j < length hs → same (get_or hs j []) m ≡ eqb (k + j) p)
  unfolding column_from laid more
  placed_named p k at [] e = let z : ◌≡◌ {A = ℕ} 0 1 = cc in absurd (omega arith)
  placed_named p k at (h ∷ hs) e = go (same h m) refl e (placed_named p (suc k) (suc (at + length h)) hs)
    where
      go : (b : Bool) → same h m ≡ b → column_from m (cond b (Only k) Missing) (laid (suc k) (suc (at + length h)) hs) ≡ Only p
          → (column_from m Missing (laid (suc k) (suc (at + length h)) hs) ≡ Only p
          → (suc k ≤ p) × (p < suc k + length hs) × ((j : ℕ) → j < length hs → same (get_or hs j []) m ≡ eqb (suc k + j) p))
          → (k ≤ p) × (p < k + suc (length hs)) × ((j : ℕ) → j < suc (length hs) → same (get_or (h ∷ hs) j []) m ≡ eqb (k + j) p)
      go true s e next = let r = only_once k p (suc k) (suc (at + length h)) hs e in (omega arith, omega arith, λ j l. each r.0 r.1 j l)
        where
          each : p ≡ k → ((j : ℕ) → j < length hs → same (get_or hs j []) m ≡ false) → (j : ℕ) → j < suc (length hs) → same (get_or (h ∷ hs) j []) m ≡ eqb (k + j) p
          each q f zero l = s ∙ sym (eq-eqb (k + 0) p (omega arith))
          each q f (suc j) l = f j (omega arith) ∙ sym (ne_eqb (k + suc j) p (λ y. omega arith))
      go false s e next = let r = next e in (omega (arith, r.0), omega (arith, r.1), λ j l. each r.0 r.2 j l)
        where
          each : suc k ≤ p → ((j : ℕ) → j < length hs → same (get_or hs j []) m ≡ eqb (suc k + j) p) → (j : ℕ) → j < suc (length hs) → same (get_or (h ∷ hs) j []) m ≡ eqb (k + j) p
          each q f zero l = s ∙ sym (ne_eqb (k + 0) p (λ y. omega arith))
          each q f (suc j) l = f j (omega arith) ∙ ap (λ (i : ℕ). eqb i p) (omega arith)
