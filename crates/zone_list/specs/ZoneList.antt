-- The zone list (document 02, W-206): four numbers a write, in rising order of low ends by rank.
-- Assumes nothing.
use Rattle.std.specs.Prelude.{ℕ, Bool, cond, ◌≡◌, ltb, eqb, length}
use mathlib.Core.List.{List, [], ◌∷◌, flat_map}
use Rattle.lists.specs.Lists.{keep}
use Rattle.lists.specs.Sorts.{sort}
use Rattle.history.specs.declared.Op.{Op}
use Rattle.history.specs.declared.Answer.{Answer}
use Rattle.history.specs.Table.{largest_stamp, history, Alike}
use Rattle.history.specs.Answer.{number, refused, passed}
use Rattle.history.specs.declared.Code.TheVariants.{Fresh, ShortList}
use Rattle.history.specs.Screen.{screening}
use Rattle.methods.specs.declared.Zone.{Zone}
use Rattle.methods.specs.Extremes.{least, greatest}
use Rattle.methods.specs.Prepared.{same_value, prepared}
use Rattle.methods.specs.Place.{writes}
use Rattle.methods.specs.Zones.{forward, zone_of, low_first}
use Rattle.methods.specs.Mark.{Outcome, written}

-- the smallest finish of w's cluster and its largest start as they were recorded: the original stamps (02, W-206); the opening's are 0, and the
-- largest start of its reads or 0 (02, W-207)
unfoldable pub stamps_of : List Op → Op → Zone
stamps_of h w =
    let c = keep (same_value w) h in
    record { finish = least (λ o. o.finish) largest_stamp c; start = greatest (λ o. o.start) 0 c }

-- 1 for forward, and the low stamp is the finish; or 2 for backward, and it is the start (02, W-206)
abbrev pub directed : Bool → Zone → List ℕ
directed ahead s = cond ahead (1 ∷ s.finish ∷ s.start ∷ []) (2 ∷ s.start ∷ s.finish ∷ [])

-- the four numbers of the write w: its row, the direction of its zone by ranks, low stamp, high stamp (02, W-206)
abbrev pub numbers_of : List Op → List Op → Op → List ℕ
numbers_of h H w = w.row ∷ directed (forward (zone_of H w)) (stamps_of h w)

-- those of the writes in rising order of low ends by rank (02, W-206)
unfoldable pub zone_list : List Op → List ℕ
zone_list h = let H = prepared h in flat_map (numbers_of h H) (sort (low_first H) (writes H))

-- an answer and the list that it comes with
abbrev pub outcome : Answer → List ℕ → Outcome
outcome a l = record { answer = a; list = l }

-- of a register that passes the screening: 10 where the list has too few places, else the numbers are written (02, W-206; 01's table, 10)
unfoldable pub listed : List Op → List ℕ → Outcome
listed h list =
    let done = outcome (passed (length h)) (written (zone_list h) list) in
    cond (ltb (length list) (length (zone_list h))) (outcome (refused ShortList 0) list) done

-- the call: the screening, then 10; a refusal leaves the list as it was (02, W-206)
unfoldable pub zone_call : List ℕ → ℕ → List ℕ → Outcome
zone_call t register list =
    let met = screening t register in
    cond (eqb met.code (number Fresh)) (listed (history t register) list) (outcome met list)

-- the outcome is that of every table of this length with the same rows of the register at the same places
abbrev pub OfAlike : List ℕ → ℕ → List ℕ → Outcome → Type 0
OfAlike t register list result = (u : List ℕ) → Alike t u register → result ≡ zone_call u register list
