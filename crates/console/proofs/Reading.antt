-- What the reading of an order file says: of its lines, and that as many numbers are read as the list has places, at most.
-- Assumes nothing.
use Prim.Native.Nat.{ℕ, ◌≤◌}
use mathlib.Core.Path.{◌≡◌, refl, sym, ◌∙◌}
use mathlib.Core.Bool.{Bool, true, false, cond}
use mathlib.Core.List.{List}
use native.Mathlib.Omega.{arith}
use lib.ListN.{length}
use lib.Seq.{length-take-le}
use Rattle.io.specs.Counts.{IsPrefixLen}
use Rattle.std.specs.Prelude.{Option, Some, None, Result}
use Rattle.std.specs.Option.{ok_or}
use Rattle.std.specs.Result.{IfOk}
use Rattle.parsing.specs.Numbers.{Lines, sound, leading, numbers, no_list, lines_in, counted, stored}
use Rattle.parsing.proofs.Lines.{leading_length}
use Rattle.console.specs.declared.ListFault.{ListFault}
use Rattle.console.specs.declared.ListFault.TheVariants.{Unsound}
use Rattle.console.specs.Listings.{listing, Taken, of_bytes}

read_within : (k n : ℕ) (t : List ℕ) → counted (lines_in k t) ≡ Some n → n ≤ k
unfolding counted lines_in
read_within k n t e = go (sound k t) e
  where
    go : (b : Bool) → counted (cond b (numbers (leading k t)) no_list) ≡ Some n → n ≤ k
    go true e = let s : length (leading k t) ≡ n = cc in omega (arith, s, leading_length k t)
    go false e = let z : ◌≡◌ {A = ℕ} 0 1 = cc in absurd (omega arith)

-- a call that answers n numbers, and keeps the list's length
read_counts : (list after t : List ℕ) (n : ℕ) (r : Option ℕ) → r ≡ counted (lines_in (length list) t) → r ≡ Some n → length after ≡ length list → IsPrefixLen n after
read_counts list after t n r e f k =
    let w = read_within (length list) n t (sym e ∙ f) in
    (omega (arith, k, w), sym (length-take-le n after (omega (arith, k, w))))

-- the same of what is said of the list
pub listed_within : (list after t : List ℕ) (r : Option ℕ) → r ≡ counted (lines_in (length list) t) → length after ≡ length list → (q : Result ℕ ListFault) → q ≡ ok_or r Unsound
    → IfOk q (λ n. IsPrefixLen n after)
listed_within list after t r e k q f = rw f (go r e)
  where
    go : (r : Option ℕ) → r ≡ counted (lines_in (length list) t) → IfOk (ok_or r Unsound) (λ n. IsPrefixLen n after)
    go (Some n) e = read_counts list after t n (Some n) e refl k
    go None e = tt

-- lines that are numbers are listed with their count, and others as no list
pub listing_of : (l : Lines) → ok_or (counted l) Unsound ≡ listing l
unfolding counted listing
listing_of (numbers l) = refl
listing_of no_list = refl

-- what a reading of some bytes says and leaves
pub taken_of : (list bytes after : List ℕ) (r : Result ℕ ListFault) → r ≡ listing (lines_in (length list) bytes) → after ≡ stored (lines_in (length list) bytes) list → Taken list r after
taken_of list bytes after r e f = rw (e, f) (of_bytes bytes)
