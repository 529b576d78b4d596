-- FZF (document 01, "FZF"; 000, figure 4), over a prepared history H. The stages are the figure's; the joining is 01's, by low end.
-- Assumes nothing.
use Rattle.std.specs.Prelude.{ℕ, max, Bool, true, false, not, ◌&&◌, ◌||◌, List, [], ◌∷◌, ◌++◌, map, ltb, leb}
use Rattle.lists.specs.Lists.{keep, all, any}
use Rattle.lists.specs.Sorts.{sort}
use Rattle.history.specs.declared.Op.{Op}
use Rattle.methods.specs.Prepared.{no_write, same_value}
use Rattle.methods.specs.Place.{later, rest, segment, writes}
use Rattle.methods.specs.Zones.{Decision, none, order, low, high, forward, backward, cluster, zone_of, low_first}

-- Stage 1: the chunks (01, "FZF"; 000, section IV.A). A cluster is named by its write.

-- A run of overlapping forward zones: its first cluster and the others, by low end, and the high end of its union.
pub record Run : Type 0 where
  pub first : Op
  pub more : List Op
  pub top : ℕ

abbrev pub forwards : Run → List Op
forwards r = r.first ∷ r.more

-- What a history is cut into: chunks, each by its run, and dangling clusters.
pub data Item : Type 0 where
  chunk : Run → Item
  dangling : Op → Item

module _ (H : List Op) where
  -- a run of one cluster, and a run with one cluster more
  abbrev pub new_run : Op → Run
  new_run x = record { first = x; more = []; top = high (zone_of H x) }

  abbrev pub extend : Run → Op → Run
  extend r x = record { first = r.first; more = r.more ++ x ∷ []; top = max r.top (high (zone_of H x)) }

  -- the maximal runs of forward clusters by low end: one whose low end is below the top overlaps the run
  unfoldable pub grow : Run → List Op → List Run
  grow r [] = r ∷ []
  grow r (x ∷ l) = elim (ltb (low (zone_of H x)) r.top) [ true ↦ grow (extend r x) l | false ↦ r ∷ grow (new_run x) l ]

  unfoldable pub runs : List Op → List Run
  runs [] = []
  runs (x ∷ l) = grow (new_run x) l

  -- the forward clusters by low end, the backward ones, and the runs
  unfoldable pub forward_writes : List Op
  forward_writes = sort (low_first H) (keep (λ w. forward (zone_of H w)) (writes H))

  unfoldable pub backward_writes : List Op
  backward_writes = sort (low_first H) (keep (λ w. backward (zone_of H w)) (writes H))

  abbrev pub all_runs : List Run
  all_runs = runs forward_writes

  -- the zone of b lies inside the run's union
  abbrev pub spans : Run → Op → Bool
  spans r b = ltb (low (zone_of H r.first)) (low (zone_of H b)) && ltb (high (zone_of H b)) r.top

  -- the backward clusters of the run's chunk, by low end
  abbrev pub inner : Run → List Op
  inner r = keep (spans r) backward_writes

  -- the backward clusters of no chunk
  abbrev pub dangles : Op → Bool
  dangles b = all (λ r. not (spans r b)) all_runs

  abbrev pub dangling_writes : List Op
  dangling_writes = keep dangles backward_writes

  -- all that the history is cut into
  abbrev pub all_items : List Item
  all_items = map chunk all_runs ++ map dangling dangling_writes

-- Stage 2: the orders that figure 4 lists for a chunk, in its sequence, and the first viable one (01, "FZF").

-- T_F' is T_F with its first two writes interchanged (figure 4)
unfoldable pub swap : List Op → List Op
swap [] = []
swap (x ∷ []) = x ∷ []
swap (x ∷ y ∷ l) = y ∷ x ∷ l

-- the listed orders (figure 4): t is T_F, the writes of the forward clusters, and the second list has those of the backward ones, both by low end
unfoldable pub listed : List Op → List Op → List (List Op)
listed t [] = t ∷ swap t ∷ []
listed t (w ∷ []) = (w ∷ t) ∷ (t ++ w ∷ []) ∷ (w ∷ swap t) ∷ (swap t ++ w ∷ []) ∷ []
listed t (v ∷ w ∷ []) = (v ∷ t ++ w ∷ []) ∷ (w ∷ t ++ v ∷ []) ∷ (v ∷ swap t ++ w ∷ []) ∷ (w ∷ swap t ++ v ∷ []) ∷ []
listed t (v ∷ w ∷ x ∷ l) = []

-- o has the value of the first of the writes
unfoldable pub of_first : List Op → Op → Bool
of_first [] o = false
of_first (v ∷ l) o = same_value v o

-- what may go behind w: a read of w, or of the write before it in the order; l are the writes before w, nearest first (01, "FZF")
abbrev pub may_follow : Op → List Op → Op → Bool
may_follow w l o = no_write o && (same_value w o || of_first l o)

-- an order with a list behind it
unfoldable pub put_behind : Decision → List Op → Decision
put_behind none t = none
put_behind (order o) t = order (o ++ t)

-- Viability works back through the writes, so the order stands last first; K are the unplaced operations of the chunk (01, "FZF").
unfoldable pub viable : List Op → List Op → Decision
viable [] K = order []
viable (w ∷ l) K = elim (all (may_follow w l) (later w K)) [ true ↦ put_behind (viable l (rest w K)) (segment w K) | false ↦ none ]

-- a list, last first
unfoldable pub back : List Op → List Op
back [] = []
back (x ∷ l) = back l ++ x ∷ []

-- the first viable one of a list of orders (01, "FZF")
unfoldable pub first_viable : List (List Op) → List Op → Decision
first_viable [] K = none
first_viable (t ∷ ts) K = elim (viable (back t) K) [ none ↦ first_viable ts K | order o ↦ order o ]

-- the operations of some clusters (000, section IV.A: the projection of a history onto a chunk)
abbrev pub some_same : List Op → Op → Bool
some_same ws o = any (λ w. same_value w o) ws

abbrev pub only : List Op → List Op → List Op
only ws H = keep (some_same ws) H

-- an order with a list before it
unfoldable pub put_before : List Op → Decision → Decision
put_before o none = none
put_before o (order p) = order (o ++ p)

module _ (H : List Op) where
  -- an item's writes, its operations, and its order; in a dangling cluster the write comes first, then its reads (01, "FZF")
  abbrev pub writes_of : Item → List Op
  writes_of (chunk r) = forwards r ++ inner H r
  writes_of (dangling w) = w ∷ []

  abbrev pub part : Item → List Op
  part i = only (writes_of i) H

  unfoldable pub made : Item → Decision
  made (chunk r) = first_viable (listed (forwards r) (inner H r)) (part (chunk r))
  made (dangling w) = order (cluster H w)

  -- Stage 3: chunks and dangling clusters are joined by low end; a chunk without a viable order makes the register stale (01, "FZF").
  abbrev pub low_of : Item → ℕ
  low_of (chunk r) = low (zone_of H r.first)
  low_of (dangling w) = low (zone_of H w)

  abbrev pub item_first : Item → Item → Bool
  item_first i j = leb (low_of i) (low_of j)

  unfoldable pub items : List Item
  items = sort item_first (all_items H)

  unfoldable pub join : List Item → Decision
  join [] = order []
  join (i ∷ l) = elim (made i) [ none ↦ none | order o ↦ put_before o (join l) ]

  -- FZF (01, question 3)
  unfoldable pub fzf : Decision
  fzf = join items
