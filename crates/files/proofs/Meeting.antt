-- The code of a run of tests, and the tests of many parts.
-- Assumes nothing.
use Prim.Native.Nat.{ℕ}
use mathlib.Core.Path.{refl}
use mathlib.Core.Logic.{◌≢◌}
use mathlib.Core.List.Memᴰ.{head as here}
use mathlib.Core.List.Memᴰ.{tail as there}
use mathlib.Core.List.{List, [], ◌∷◌, flat_map, Memᴰ as In}
use Rattle.std.specs.Prelude.{Option, Some, None}
use Rattle.history.specs.declared.Answer.{Answer}
use Rattle.history.specs.Answer.{number, Test, refused_or, first_met}
use Rattle.history.proofs.Refusals.{NoFault, Coded, no_fault_append, no_fault_left, no_fault_right}

-- an answer's code is that of a test, or of the answer where nothing is refused
pub met_code : (P : ℕ → Type 0) (xs : List Test) (a : Answer) → ((x : Test) → In x xs → P (number x.code)) → P a.code → P (first_met xs a).code
unfolding first_met
met_code P [] a h p = p
met_code P (x ∷ xs) a h p = go x.fault (met_code P xs a (λ y m. h y (there m)) p)
  where
    go : (f : Option ℕ) → P (first_met xs a).code → P (refused_or x.code f (first_met xs a)).code
    go (Some row) q = h x (here refl)
    go None q = q

pub coded_in : (xs : List Test) → ((x : Test) → In x xs → number x.code ≢ 0) → Coded xs
coded_in [] h = tt
coded_in (x ∷ xs) h = (h x (here refl), coded_in xs (λ y m. h y (there m)))

-- the tests of many parts
pub no_fault_flat : {A : Type 0} (g : A → List Test) (l : List A) → ((x : A) → In x l → NoFault (g x)) → NoFault (flat_map g l)
unfolding flat_map
no_fault_flat g [] h = tt
no_fault_flat g (x ∷ l) h = no_fault_append (g x) (flat_map g l) (h x (here refl)) (no_fault_flat g l (λ y m. h y (there m)))

pub flat_no_fault : {A : Type 0} (g : A → List Test) (l : List A) → NoFault (flat_map g l) → {x : A} → In x l → NoFault (g x)
unfolding flat_map
flat_no_fault g (y ∷ l) h (here e) = rw e (no_fault_left (g y) (flat_map g l) h)
flat_no_fault g (y ∷ l) h (there m) = flat_no_fault g l (no_fault_right (g y) (flat_map g l) h) m
flat_no_fault {A = A} g [] h x4 = elim x4 [ ]
