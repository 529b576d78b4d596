-- The places of operations in an order, and which of two stands first.
-- Assumes nothing.
use Prim.Native.Nat.{ℕ, suc, ◌<◌}
use mathlib.Core.Path.{◌≡◌, sym, ap, ◌∙◌}
use mathlib.Core.Logic.{◌≢◌}
use mathlib.Core.Bool.{cond}
use mathlib.Core.List.Memᴰ
use mathlib.Core.List.Memᴰ.{head as here}
use mathlib.Core.List.Memᴰ.{tail as there}
use mathlib.Core.List.{List, [], ◌∷◌, ◌++◌, Memᴰ as In}
use native.Mathlib.Omega.{arith}
use lib.Dec.{eqb}
use borrow.Author.Tests.{eq-eqb, ne_eqb}
use Rattle.lists.specs.Pairs.{Pairs, cons}
use Rattle.history.specs.declared.Op.{Op}
use Rattle.witnesses.specs.Orders.{Before}

-- the place of x in the list
unfoldable pub place : List Op → Op → ℕ
place [] x = 0
place (z ∷ l) x = cond (eqb z.row x.row) 0 (suc (place l x))

place_head : (z : Op) (l : List Op) (x : Op) → x ≡ z → place (z ∷ l) x ≡ 0
unfolding place
place_head z l x e = rw (eq-eqb z.row x.row (ap (λ o. o.row) (sym e)))

place_tail : (z : Op) (l : List Op) (x : Op) → z.row ≢ x.row → place (z ∷ l) x ≡ suc (place l x)
unfolding place
place_tail z l x n = rw (ne_eqb z.row x.row n)

-- x stands before y in the list
pub data Bef (x y : Op) : List Op → Type 0 where
  bef_here : {z : Op} {l : List Op} → x ≡ z → In y l → Bef x y (z ∷ l)
  bef_there : {z : Op} {l : List Op} → Bef x y l → Bef x y (z ∷ l)

pub bef_in : {x y : Op} {l : List Op} → Bef x y l → In x l
bef_in (bef_here e m) = here e
bef_in (bef_there b) = there (bef_in b)

pub bef_in₂ : {x y : Op} {l : List Op} → Bef x y l → In y l
bef_in₂ (bef_here e m) = there m
bef_in₂ (bef_there b) = there (bef_in₂ b)

pub bef_pair : {x y : Op} {l : List Op} → Pairs Before l → Bef x y l → Before x y
bef_pair (cons u t) (bef_here e m) = rw e (u _ m)
bef_pair (cons u t) (bef_there b) = bef_pair t b
bef_pair {y = y} Rattle.lists.specs.Pairs.nil x4 = elim x4 [ ]

pub bef_place : {x y : Op} {l : List Op} → Pairs Before l → Bef x y l → place l x < place l y
bef_place {x} {y} (cons {x = z} {l = l} u t) (bef_here e m) = omega (arith, place_head z l x e, place_tail z l y (u y m).apart)
bef_place {x} {y} (cons {x = z} {l = l} u t) (bef_there b) =
    omega (arith, place_tail z l x (u x (bef_in b)).apart, place_tail z l y (u y (bef_in₂ b)).apart, bef_place t b)
bef_place {x = x} {y = y} Rattle.lists.specs.Pairs.nil x4 = elim x4 [ ]

-- two members are one, or one stands before the other
pub data Compared (x y : Op) (l : List Op) : Type 0 where
  equal : x ≡ y → Compared x y l
  first : Bef x y l → Compared x y l
  second : Bef y x l → Compared x y l

pub compared : {x y : Op} (l : List Op) → In x l → In y l → Compared x y l
compared (z ∷ l) (here e) (here d) = equal (e ∙ sym d)
compared (z ∷ l) (here e) (there n) = first (bef_here e n)
compared (z ∷ l) (there m) (here d) = second (bef_here d m)
compared {x} {y} (z ∷ l) (there m) (there n) = go (compared l m n)
  where
    go : Compared x y l → Compared x y (z ∷ l)
    go (equal e) = equal e
    go (first b) = first (bef_there b)
    go (second b) = second (bef_there b)
compared {x = x} {y = y} [] x3 _ = elim x3 [ ]

-- what is in an earlier part stands before what is in a later one
pub bef_append : {x y : Op} {a b : List Op} → In x a → In y b → Bef x y (a ++ b)
bef_append (here {xs = l} e) m = bef_here e (Memᴰ.append_right l m)
bef_append (there n) m = bef_there (bef_append n m)

pub bef_behind : (a : List Op) {x y : Op} {b : List Op} → Bef x y b → Bef x y (a ++ b)
bef_behind [] d = d
bef_behind (z ∷ a) d = bef_there (bef_behind a d)

pub bef_front : {x y : Op} {a : List Op} (b : List Op) → Bef x y a → Bef x y (a ++ b)
bef_front b (bef_here e m) = bef_here e (Memᴰ.append_left b m)
bef_front b (bef_there d) = bef_there (bef_front b d)
