-- A list of tests refuses nothing if and only if no condition is met; and what a run of tests gives, one behind the other.
-- Assumes nothing.
use Prim.Native.Nat.{ℕ}
use mathlib.Core.Path.{◌≡◌, refl, ap, ◌∙◌}
use mathlib.Core.Logic.{◌≢◌}
use mathlib.Core.Bool.{Bool, true, false}
use mathlib.Core.List.{List, [], ◌∷◌, ◌++◌}
use native.Mathlib.Omega.{arith}
use Rattle.std.specs.Prelude.{⊤, Option, Some, None, Result, Ok, Err}
use Rattle.history.specs.declared.Answer.{Answer}
use Rattle.history.specs.Answer.{number, refused, Test, if_so, refused_or, first_met, passed, Ran}

-- no test's condition is met
abbrev pub NoFault : List Test → Type 0
NoFault [] = Unit {0}
NoFault (x ∷ xs) = (x.fault ≡ None) × NoFault xs

-- no test's code is 0
abbrev pub Coded : List Test → Type 0
Coded [] = Unit {0}
Coded (x ∷ xs) = (number x.code ≢ 0) × Coded xs

pub coded_append : (xs ys : List Test) → Coded xs → Coded ys → Coded (xs ++ ys)
coded_append [] ys h g = g
coded_append (x ∷ xs) ys h g = (h.0, coded_append xs ys h.1 g)

pub no_fault_append : (xs ys : List Test) → NoFault xs → NoFault ys → NoFault (xs ++ ys)
no_fault_append [] ys h g = g
no_fault_append (x ∷ xs) ys h g = (h.0, no_fault_append xs ys h.1 g)

pub no_fault_left : (xs ys : List Test) → NoFault (xs ++ ys) → NoFault xs
no_fault_left [] ys h = tt
no_fault_left (x ∷ xs) ys h = (h.0, no_fault_left xs ys h.1)

pub no_fault_right : (xs ys : List Test) → NoFault (xs ++ ys) → NoFault ys
no_fault_right [] ys h = h
no_fault_right (x ∷ xs) ys h = no_fault_right xs ys h.1

-- An answer of code 0 is no refusal, and then no condition is met; and the other way round.
pub code_no_fault : (xs : List Test) → Coded xs → (a : Answer) → (first_met xs a).code ≡ 0 → NoFault xs
unfolding first_met
code_no_fault [] h a e = tt
code_no_fault (x ∷ xs) h a e = go x.fault refl e (code_no_fault xs h.1 a)
  where
    go : (f : Option ℕ) → x.fault ≡ f → (refused_or x.code f (first_met xs a)).code ≡ 0 → ((first_met xs a).code ≡ 0 → NoFault xs) → (x.fault ≡ None) × NoFault xs
    go (Some row) same z rest = absurd (h.0 z)
    go None same z rest = (same, rest z)

pub no_fault_answer : (xs : List Test) (a : Answer) → NoFault xs → first_met xs a ≡ a
unfolding first_met
no_fault_answer [] a h = refl
no_fault_answer (x ∷ xs) a h = rw h.0 (no_fault_answer xs a h.1)

-- the tests of a list in two parts: those of the second count where the first refuses nothing
pub met_append : (xs ys : List Test) (a : Answer) → first_met (xs ++ ys) a ≡ first_met xs (first_met ys a)
unfolding first_met
met_append [] ys a = refl
met_append (x ∷ xs) ys a = ap (refused_or x.code x.fault) (met_append xs ys a)

-- tests in parts: a refusal stays whatever follows, and where nothing is refused the next part decides
pub met_kept : (xs : List Test) (a b : Answer) → a.code ≡ 0 → (first_met xs a).code ≢ 0 → first_met xs b ≡ first_met xs a
unfolding first_met
met_kept [] a b z n = absurd (n z)
met_kept (x ∷ xs) a b z n = go x.fault n (met_kept xs a b z)
  where
    go : (f : Option ℕ) → (refused_or x.code f (first_met xs a)).code ≢ 0 → ((first_met xs a).code ≢ 0 → first_met xs b ≡ first_met xs a) → refused_or x.code f (first_met xs b) ≡ refused_or x.code f (first_met xs a)
    go (Some row) n ih = refl
    go None n ih = ih n

module _ (xs ys : List Test) (a : Answer) where
  pub met_stop : a.code ≡ 0 → (first_met xs a).code ≢ 0 → first_met (xs ++ ys) a ≡ first_met xs a
  met_stop z n = met_append xs ys a ∙ met_kept xs a (first_met ys a) z n

  pub met_on : Coded xs → (first_met xs a).code ≡ 0 → first_met (xs ++ ys) a ≡ first_met ys a
  met_on c z = met_append xs ys a ∙ no_fault_answer xs (first_met ys a) (code_no_fault xs c a z)

-- a condition on the whole call
pub if_so_lem : (b : Bool) → if_so b ≡ None → b ≡ false
if_so_lem true e = let z : ◌≡◌ {A = ℕ} 0 1 = cc in absurd (omega arith)
if_so_lem false e = refl

pub if_not : (b : Bool) → b ≡ false → if_so b ≡ None
if_not b e = rw e

-- A run of tests, one behind the other: a test that is not met, and then the others; or one that is met.
module _ (x : Test) where
  pub ran_on : Ran (x ∷ []) (Ok tt) → (xs : List Test) (r : Result ⊤ Answer) → Ran xs r → Ran (x ∷ xs) r
  unfolding first_met
  ran_on h xs r g = record { met = λ a. h.met (first_met xs a) ∙ g.met a }

  pub ran_met : (e : Answer) → Ran (x ∷ []) (Err e) → (xs : List Test) → Ran (x ∷ xs) (Err e)
  unfolding first_met
  ran_met e h xs = record { met = λ a. h.met (first_met xs a) }

  -- one that is not met has no fault
  pub ran_none : number x.code ≢ 0 → Ran (x ∷ []) (Ok tt) → x.fault ≡ None
  unfolding first_met
  ran_none n h = go x.fault refl (h.met (passed 0))
    where
      go : (f : Option ℕ) → x.fault ≡ f → refused_or x.code f (passed 0) ≡ passed 0 → x.fault ≡ None
      go (Some row) same e = absurd (n (ap (λ (a : Answer). a.code) e))
      go None same e = same

  -- by its fault
  pub ran_fault : (row : ℕ) → x.fault ≡ Some row → Ran (x ∷ []) (Err (refused x.code row))
  unfolding first_met
  ran_fault row e = record { met = λ a. rw e refl }

  pub ran_no_fault : x.fault ≡ None → Ran (x ∷ []) (Ok tt)
  unfolding first_met
  ran_no_fault e = record { met = λ a. rw e refl }
