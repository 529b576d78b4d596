-- What is joined next (document 01, "FZF"): the forward and the backward writes stand by low end, and from a place in each on, what is left are
-- the chunks of the first and the dangling ones of the second, merged by low end.
-- Assumes nothing.
use Rattle.std.specs.Prelude.{ℕ, ◌+◌, ◌≤◌, ◌<◌, ◌≡◌, true, false, length, get_or, drop, Option, Some, None}
use mathlib.Core.List.{List, ◌∷◌, Memᴰ as In}
use Rattle.lists.specs.Lists.{keep}
use Rattle.lists.specs.Pairs.{Pairs}
use Rattle.history.specs.declared.Op.{Op}
use Rattle.methods.specs.Zones.{none, order, low}
use Rattle.methods.specs.Fzf.{Run, Item, chunk, runs, dangles, made}
use Rattle.positions.specs.Places.{Unlike}
use Rattle.positions.specs.Columns.{Cols, op, ops, Of, Says}
use Rattle.zones.specs.Zones.{zone_by}
use Rattle.freeing.specs.Freed.{Shut}
use Rattle.chunking.specs.Chunks.{side}
use Rattle.chunking.specs.Inner.{Behind}
use Rattle.joining.specs.Merge.{merge}
use Rattle.joining.specs.declared.Next.{Next}

-- some prepared history has these columns
abbrev pub Known : Cols → Type 0
Known C = (H : List Op) × Of C H

-- the forward and the backward writes by low end
abbrev pub forths : Cols → List ℕ → List ℕ
forths C late = side C.finish late C.writer true

abbrev pub backs : Cols → List ℕ → List ℕ
backs C late = side C.finish late C.writer false

-- a run of forward writes, each once
pub record Cut (C : Cols) (late run : List ℕ) : Type 0 where
  pub some : 0 < length run
  pub among : (x : ℕ) → In x run → In x (forths C late)
  pub apart : Pairs Unlike run
  pub few : length run ≤ length (forths C late)

-- the definition's run
abbrev pub run_of : List Op → List ℕ → ℕ → Run
run_of H run top = record { first = op H (get_or run 0 0); more = ops H (drop 1 run); top = top }

-- the places that are lent for an item of n operations
pub record Lent (n : ℕ) (list turn placed part : List ℕ) : Type 0 where
  pub inner : n ≤ length list
  pub turns : n ≤ length turn
  pub marks : n ≤ length placed
  pub cells : n ≤ length part

-- between two items: nothing is to be placed, and the backward zones before i are too low for the runs from a on
pub record Poised (C : Cols) (late F B : List ℕ) (a i : ℕ) (placed : List ℕ) : Type 0 where
  pub shut : Shut (length C.writer) placed
  pub behind : a < length F → Behind C.finish late B i (low (zone_by C.finish late (get_or F a 0)))

-- what stands in a part from `at` on is the order of an item
pub record Holds-order (C : Cols) (item : List Op → Item) (part : List ℕ) (at : ℕ) : Type 0 where
  pub high : at ≤ length part
  pub whole : Says C (λ H. made H (item H) ≡ order (ops H (drop at part)))

-- THE CONTRACT of a chunk: it has no viable order, or this one
pub data Chunked (C : Cols) (run : List ℕ) (top : ℕ) (part : List ℕ) : Option ℕ → Type 0 where
  no_order : Says C (λ H. made H (chunk (run_of H run top)) ≡ none) → Chunked C run top part None
  an_order : {at : ℕ} → Holds-order C (λ H. chunk (run_of H run top)) part at → Chunked C run top part (Some at)

-- what is left to join, from a and j on
abbrev pub remaining : List ℕ → List ℕ → ℕ → ℕ → List Op → List Item
remaining F B a j H = merge H (runs H (ops H (drop a F))) (keep (dangles H) (ops H (drop j B)))

-- an item comes next, and then what is left from the new places on
pub record Goes (C : Cols) (F B : List ℕ) (a j : ℕ) (part : List ℕ) (r : Next) : Type 0 where
  pub item : List Op → Item
  pub forth : r.cursor.forward ≤ length F
  pub back : r.cursor.backward ≤ length B
  pub on : a + j < r.cursor.forward + r.cursor.backward
  pub holds : Holds-order C item part r.at
  pub next : Says C (λ H. remaining F B a j H ≡ item H ∷ remaining F B r.cursor.forward r.cursor.backward H)

-- THE CONTRACT of the next item: it has no order, or it goes on
pub data Nexts (C : Cols) (F B : List ℕ) (a j : ℕ) (part : List ℕ) : Option Next → Type 0 where
  ends : Says C (λ H. (i : Item) × (l : List Item) × (remaining F B a j H ≡ i ∷ l) × (made H i ≡ none)) → Nexts C F B a j part None
  goes : {r : Next} → Goes C F B a j part r → Nexts C F B a j part (Some r)
