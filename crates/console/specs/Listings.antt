-- The row numbers of an order file (document 01, "What is built": a check of a given order), of whatever bytes the system hands in.
-- Assumes nothing.
use Rattle.std.specs.Prelude.{ℕ, List, length, Result, Ok, Err}
use Rattle.parsing.specs.Numbers.{Lines, numbers, no_list, lines_in, stored}
use Rattle.console.specs.declared.ListFault.{ListFault}
use Rattle.console.specs.declared.ListFault.TheVariants.{Unreadable, Unsound}

-- what is said of a file's lines: how many numbers they are, or that one of them is none
unfoldable pub listing : Lines → Result ℕ ListFault
listing (numbers l) = Ok (length l)
listing no_list = Err Unsound

-- of a file that cannot be read
abbrev pub unreadable : Result ℕ ListFault
unreadable = Err Unreadable

-- What a reading says and leaves of the lent list: the file cannot be read, and the list is as it was; or some bytes were read, and both are as
-- their lines say, as many as the list has places.
pub data Taken (list : List ℕ) : Result ℕ ListFault → List ℕ → Type 0 where
  not_read : Taken list unreadable list
  of_bytes : (bytes : List ℕ) → Taken list (listing (lines_in (length list) bytes)) (stored (lines_in (length list) bytes) list)
