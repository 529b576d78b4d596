-- The loops that count and gather the register's rows, with a law for each way through a turn.
-- Assumes nothing.
use Prim.Native.Nat.{ℕ, ◌+◌, ◌≤◌, ◌<◌}
use mathlib.Core.Path.{◌≡◌, refl, ap, ap₂, sym, ◌∙◌}
use mathlib.Core.Bool.{true, false}
use mathlib.Core.List.{List, [], ◌∷◌, ◌++◌, map, append-nil}
use native.Mathlib.Numerals.{add-one}
use native.Mathlib.Omega.{arith}
use lib.ListN.{length, take, set, length-append, length-set, length-take}
use lib.Seq.{take-suc-set, length-take-le}
use Rattle.lists.specs.Lists.{keep, put, up_to, from}
use Rattle.lists.proofs.Ranges.{up_to_more}
use Rattle.lists.proofs.Images.{keep_append}
use Rattle.history.specs.Table.{largest_count, row_count, op_at, bears, rows_of, history}
use Rattle.history.specs.declared.Answer.{Answer}
use Rattle.history.specs.Answer.{first_met, passed}
use Rattle.history.proofs.Rows.{in_rows, rows_rise, rows_few, history_count}
use Rattle.screening.specs.Ready.{Gathered}
use Rattle.conditions.specs.Tests.{row_tests, Listed}

-- one row more
kept_on : (t : List ℕ) (register i : ℕ) → keep (bears t register) (up_to (i + 1)) ≡ keep (bears t register) (up_to i) ++ put (bears t register i) i []
unfolding keep
kept_on t register i = rw (up_to_more i) (keep_append (bears t register) (up_to i) (i ∷ []))

-- how many of the first i rows bear the register
abbrev pub counted : List ℕ → ℕ → ℕ → ℕ
counted t register i = length (keep (bears t register) (up_to i))

pub count_in : (t : List ℕ) (register i : ℕ) → bears t register i ≡ true → counted t register (i + 1) ≡ counted t register i + 1
unfolding put
count_in t register i e = ap length (kept_on t register i ∙ rw e) ∙ length-append (keep (bears t register) (up_to i)) (i ∷ [])

pub count_out : (t : List ℕ) (register i : ℕ) → bears t register i ≡ false → counted t register (i + 1) ≡ counted t register i
unfolding put
count_out t register i e = ap length (kept_on t register i ∙ rw e (append-nil (keep (bears t register) (up_to i))))

pub count_end : (t : List ℕ) (register : ℕ) → counted t register (row_count t) ≡ length (history t register)
unfolding rows_of
count_end t register = sym (history_count t register)

module _ (t : List ℕ) (register : ℕ) (list₀ : List ℕ) where
  -- the first i rows are looked at, and m of them gathered
  pub record Gathering (i m : ℕ) (list : List ℕ) : Type 0 where
    pub few : m ≤ i
    pub within : i ≤ row_count t
    pub long : length list ≡ length list₀
    pub front : take m list ≡ keep (bears t register) (up_to i)

  pub gather_none : Gathering 0 0 list₀
  unfolding keep from
  gather_none = record { few = omega arith; within = omega arith; long = refl; front = refl }

  module _ (i m : ℕ) (list : List ℕ) (l : i < row_count t) (g : Gathering i m list) where
    pub gather_out : bears t register i ≡ false → Gathering (i + 1) m list
    unfolding put
    gather_out e =
        record { few = omega (arith, g.few); within = omega arith; long = g.long; front = g.front ∙ sym (kept_on t register i ∙ rw e (append-nil (keep (bears t register) (up_to i)))) }

    pub gather_in : bears t register i ≡ true → m < length list → Gathering (i + 1) (m + 1) (set list m i)
    unfolding put
    gather_in e k =
        record {
          few = omega (arith, g.few);
          within = omega arith;
          long = length-set list m i ∙ g.long;
          front = rw (add-one m) (take-suc-set list m i k) ∙ ap (λ (z : List ℕ). z ++ (i ∷ [])) g.front ∙ sym (kept_on t register i ∙ rw e);
        }

  pub gather_end : (i m : ℕ) (list : List ℕ) → row_count t ≤ i → row_count t ≤ length list₀ → Gathering i m list → (m ≡ length (rows_of t register)) × (take m list ≡ rows_of t register)
  unfolding rows_of
  gather_end i m list k r g = (sym (length-take-le m list (omega (arith, g.long, g.few, g.within))) ∙ ap length whole, whole)
    where
      whole : take m list ≡ keep (bears t register) (up_to (row_count t))
      whole = let e : i ≡ row_count t = omega (arith, g.within) in g.front ∙ rw e

-- What is gathered are the register's rows: they can be examined, and their operations are its history.
module _ (t : List ℕ) (register m : ℕ) (rows : List ℕ) (few : row_count t ≤ largest_count) (g : (m ≡ length (rows_of t register)) × (take m rows ≡ rows_of t register)) where
  gathered_few : m ≤ largest_count
  gathered_few = omega (arith, g.0, history_count t register, rows_few t register)

  gathered_long : length (take m rows) ≡ m
  gathered_long = ap length g.1 ∙ sym g.0

  pub gathered_listed : Listed t (take m rows)
  gathered_listed =
      record {
        within = λ x k. omega (arith, (in_rows t register (rw g.1 at k)).exists);
        rising = rw g.1 (rows_rise t register);
        few = omega (arith, gathered_long, gathered_few);
      }

  gathered_history : map (op_at t) (take m rows) ≡ history t register
  unfolding history
  gathered_history = ap (map (op_at t)) g.1

  pub gathered_inside : m ≤ length rows
  gathered_inside = omega (arith, gathered_long, length-take m rows)

  pub gathered_answer : (r : Answer) → r ≡ first_met (row_tests (map (op_at t) (take m rows))) (passed (length (take m rows)))
      → r ≡ first_met (row_tests (history t register)) (passed (length (history t register)))
  gathered_answer r e = e ∙ ap₂ (λ h n. first_met (row_tests h) (passed n)) gathered_history (gathered_long ∙ g.0 ∙ sym (history_count t register))

  pub gathered_front : Gathered t register rows
  gathered_front =
      let e : length (history t register) ≡ m = history_count t register ∙ sym g.0 in
      record { room = omega (arith, e, gathered_inside); front = rw e g.1 }
