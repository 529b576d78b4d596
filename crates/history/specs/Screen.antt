-- The screening (document 01, tests 1, 2 and 4 to 9, with 20 of 02, W-207): as tests that compute, in their sequence, and what a register that passes it is.
-- Assumes nothing.
use Rattle.std.specs.Prelude.{ℕ, ◌/◌, ◌%◌, ◌<◌, ◌≤◌, ◌≡◌, ◌≢◌, ◌⊎◌, Bool, true, false, cond, not, ◌&&◌, ◌||◌, ltb, eqb, length}
use mathlib.Core.List.{List, [], ◌∷◌, Memᴰ as In}
use Rattle.lists.specs.Lists.{any}
use Rattle.history.specs.declared.Op.{Op}
use Rattle.history.specs.declared.Answer.{Answer}
use Rattle.history.specs.Table.{largest_count, largest_stamp, history, is_opening, is_write, is_read, precedes, Precedes, dictates, Dictates}
use Rattle.history.specs.Answer.{Test, test, if_so, lowest_row, first_met, passed}
use Rattle.history.specs.declared.Code.TheVariants.{Ragged, Overfull, NoSuchQuestion, BadKind, BadSpan, SecondOpening, TwinWrite, OrphanRead, EarlyRead}

-- The conditions on an operation o of a register's history h (01's table, codes 4, 5 and 7 to 9; by 02 there is no 6, and 20
-- stands after 5: W-203, W-207).

-- 4: kind not 1, 2 or 3 (02, W-207)
unfoldable pub wrong_kind : Op → Bool
wrong_kind o = not (is_write o || is_read o)

-- an opening with another stamp than 0 (02, W-207)
unfoldable pub stray_opening : Op → Bool
stray_opening o = is_opening o && not (eqb o.start 0 && eqb o.finish 0)

-- 5: start above finish, or finish over the largest stamp (02, W-203), or an opening with another stamp than 0; a row may start and finish at
-- one stamp
unfoldable pub wrong_span : Op → Bool
wrong_span o = ltb o.finish o.start || ltb largest_stamp o.finish || stray_opening o

-- what is left: it does not finish before it starts, nor above the largest stamp, which is 0 for an opening
abbrev pub latest : Op → ℕ
latest o = cond (is_opening o) 0 largest_stamp

abbrev pub Spanned : Op → Type 0
Spanned o = (o.start ≤ o.finish) × (o.finish ≤ latest o)

-- e stands in an earlier row than o
abbrev pub earlier : Op → Op → Bool
earlier e o = ltb e.row o.row

-- 20: an opening, and an earlier row is one too (02, W-207)
unfoldable pub opens_too : Op → Op → Bool
opens_too o e = earlier e o && is_opening e

unfoldable pub reopens : List Op → Op → Bool
reopens h o = is_opening o && any (opens_too o) h

-- 7: a write's value was written by an earlier row
unfoldable pub repeats : Op → Op → Bool
repeats o e = earlier e o && is_write e && eqb e.value o.value

unfoldable pub rewrites : List Op → Op → Bool
rewrites h o = is_write o && any (repeats o) h

-- 8: a read without a dictating write, the first of the paper's two anomalies (000, section II.C)
unfoldable pub dictated_by : Op → Op → Bool
dictated_by o w = dictates w o

unfoldable pub unwritten : List Op → Op → Bool
unwritten h o = is_read o && not (any (dictated_by o) h)

-- 9: a read that precedes its dictating write, by recorded stamps: the second of the paper's two anomalies (000, section II.C)
unfoldable pub precedes_write : Op → Op → Bool
precedes_write o w = dictates w o && precedes o w

unfoldable pub too_early : List Op → Op → Bool
too_early h o = is_read o && any (precedes_write o) h

-- Tests 1 to 9, a line each, in their sequence (01, "The answer and its numbers"), of the table's length and the register's history: nothing
-- else is examined. `unasked` is the condition of test 3, on the marking call's question or on the order check's k.
unfoldable pub tests : ℕ → List Op → Bool → List Test
tests size h unasked =
    test Ragged (if_so (not (eqb (size % 5) 0)))
    ∷ test Overfull (if_so (ltb largest_count (size / 5)))
    ∷ test NoSuchQuestion (if_so unasked)
    ∷ test BadKind (lowest_row wrong_kind h)
    ∷ test BadSpan (lowest_row wrong_span h)
    ∷ test SecondOpening (lowest_row (reopens h) h)
    ∷ test TwinWrite (lowest_row (rewrites h) h)
    ∷ test OrphanRead (lowest_row (unwritten h) h)
    ∷ test EarlyRead (lowest_row (too_early h) h)
    ∷ []

-- Tests 1 to 9 with the answer of a register that passes them (01, "The answer and its numbers").
unfoldable pub examined : ℕ → List Op → Bool → Answer
examined size h unasked = first_met (tests size h unasked) (passed (length h))

-- The screening: tests 1, 2 and 4 to 9 of a table's register. It has no question to refuse.
unfoldable pub screening : List ℕ → ℕ → Answer
screening t register = examined (length t) (history t register) false

-- What passing means, a field for each test in their sequence: all that the crates above rely on.
pub record Screened (size : ℕ) (h : List Op) : Type 0 where
  pub whole : size % 5 ≡ 0
  pub few : size / 5 ≤ largest_count
  pub kinds : (o : Op) → In o h → (is_write o ≡ true) ⊎ (o.kind ≡ 2)
  pub spans : (o : Op) → In o h → Spanned o
  pub openings : (a b : Op) → In a h → In b h → a.row < b.row → is_opening a ≡ true → is_opening b ≡ true → ⊥
  pub values : (a b : Op) → In a h → In b h → a.row < b.row → is_write a ≡ true → is_write b ≡ true → a.value ≢ b.value
  pub written : (r : Op) → In r h → r.kind ≡ 2 → (w : Op) × In w h × Dictates w r
  pub timely : (w r : Op) → In w h → In r h → Dictates w r → ¬ Precedes r w
