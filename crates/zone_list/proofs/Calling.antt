-- The call as the code makes it: the screening, then the zone list of the register's rows.
-- Assumes nothing.
use Prim.Native.Nat.{ℕ, ◌*◌, ◌≤◌, ◌<◌}
use mathlib.Core.Path.{◌≡◌, refl, ap, ap₂, sym, ◌∙◌}
use mathlib.Core.Logic.{◌≢◌}
use mathlib.Core.Bool.{false}
use mathlib.Core.List.{List}
use native.Mathlib.Omega.{arith}
use lib.ListN.{length}
use borrow.Author.Tests.{lt-ltb, le-ltb, eq-eqb, ne_eqb}
use Rattle.history.specs.declared.Op.{Op}
use Rattle.history.specs.declared.Answer.{Answer}
use Rattle.history.specs.Table.{history, Alike}
use Rattle.history.specs.Answer.{refused, passed}
use Rattle.history.specs.declared.Code.TheVariants.{ShortList}
use Rattle.history.specs.Screen.{Screened, tests, examined, screening}
use Rattle.history.proofs.Rows.{same_history}
use Rattle.history.proofs.Refusals.{no_fault_answer}
use Rattle.history.proofs.Screened.{screened_no_fault, examined_exactly}
use Rattle.preparation.proofs.Rows.{history_rows}
use Rattle.zone_list.specs.ZoneList.{zone_list, outcome, listed, zone_call}
use Rattle.zone_list.specs.Shown.{Shown}
use Rattle.zone_list.specs.Stamps.{Laid}
use Rattle.zone_list.proofs.Showing.{shown}

-- the screening is tests 1 to 9 without the third
pub is_screening : (t : List ℕ) (register : ℕ) (a : Answer) → a ≡ examined (length t) (history t register) false → a ≡ screening t register
unfolding screening
is_screening t register a e = e

-- where tests 1 to 9 refuse nothing, the register is screened
pub met_screened : (t : List ℕ) (register : ℕ) (a : Answer) → a ≡ examined (length t) (history t register) false → a.code ≡ 0 → Screened (length t) (history t register)
met_screened t register a e z = ((examined_exactly (length t) (history t register) false).0 (sym (ap (λ (x : Answer). x.code) e) ∙ z)).1

module _ (t : List ℕ) (register : ℕ) (list : List ℕ) where
  alike_call : (u : List ℕ) → Alike t u register → zone_call t register list ≡ zone_call u register list
  unfolding zone_call screening
  alike_call u a = rw (a.size, same_history a) refl

  call_refused : (a : Answer) → a ≡ screening t register → a.code ≢ 0 → outcome a list ≡ zone_call t register list
  unfolding zone_call
  call_refused a e n =
      let met = screening t register in
      ap (λ (x : Answer). outcome x list) e ∙ sym (rw (ne_eqb met.code 0 (λ z. n (ap (λ (x : Answer). x.code) e ∙ z))) refl)

  -- the screening passes, and n writes are listed
  module _ (a : Answer) (e : a ≡ screening t register) (z : a.code ≡ 0) (s : Screened (length t) (history t register)) (n : ℕ) (after : List ℕ)
      (q : Laid (history t register) n list after) where
    abbrev h : List Op
    h = history t register

    abbrev Z : List ℕ
    Z = zone_list h

    code : (screening t register).code ≡ 0
    code = sym (ap (λ (x : Answer). x.code) e) ∙ z

    passed_is : screening t register ≡ passed (length h)
    unfolding screening examined
    passed_is = no_fault_answer (tests (length t) h false) (passed (length h)) (screened_no_fault (length t) h false refl s)

    call_short : length list < n * 4 → (r : Answer) → r ≡ refused ShortList 0 → outcome r after ≡ zone_call t register list
    unfolding zone_call listed
    call_short l r k =
        ap₂ (λ (x : Answer) (y : List ℕ). outcome x y) k (q.short l)
        ∙ sym (rw (eq-eqb (screening t register).code 0 code, lt-ltb (length list) (length Z) (omega (arith, q.count))) refl)

    call_done : n * 4 ≤ length list → outcome a after ≡ zone_call t register list
    unfolding zone_call listed
    call_done l =
        ap₂ (λ (x : Answer) (y : List ℕ). outcome x y) (e ∙ passed_is) (q.full l)
        ∙ sym (rw (eq-eqb (screening t register).code 0 code, le-ltb (length list) (length Z) (omega (arith, q.count))) refl)

  -- THE CONTRACT of the call
  abbrev Promised : Answer → List ℕ → Type 0
  Promised r after =
      (outcome r after ≡ zone_call t register list)
      × ((r.code ≡ 0 → Shown (history t register) after) × ((u : List ℕ) → Alike t u register → outcome r after ≡ zone_call u register list))

  pub promised_refused : (a : Answer) → a ≡ examined (length t) (history t register) false → a.code ≢ 0 → Promised a list
  promised_refused a e n = let k = call_refused a (is_screening t register a e) n in (k, (λ z. absurd (n z), λ u x. k ∙ alike_call u x))

  module _ (a : Answer) (e : a ≡ examined (length t) (history t register) false) (z : a.code ≡ 0) (n : ℕ) (after : List ℕ) (q : Laid (history t register) n list after) where
    s : Screened (length t) (history t register)
    s = met_screened t register a e z

    pub promised_short : length list < n * 4 → (r : Answer) → r ≡ refused ShortList 0 → Promised r after
    promised_short l r k =
        let c = call_short a (is_screening t register a e) z s n after q l r k in
        (c, (λ x. absurd (omega (arith, x, ap (λ (y : Answer). y.code) k)), λ u x. c ∙ alike_call u x))

    pub promised_done : n * 4 ≤ length list → Promised a after
    promised_done l =
        let c = call_done a (is_screening t register a e) z s n after q l in
        (c, (λ x. shown s (history_rows t register) list after (q.full l), λ u x. c ∙ alike_call u x))
