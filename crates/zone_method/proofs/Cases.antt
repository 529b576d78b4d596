-- Zone lists of some histories (document 02, W-206), by computation: C2; a write that finishes after its read, with ends that touch, and a read at
-- one stamp; a write alone, and a list too short for it; a refused register; and none. Then with an opening (W-207): alone; read, behind a write from
-- stamp 0; and read at 0 alone.
-- Assumes nothing.
use mathlib.Core.Path.{◌≡◌, refl}
use mathlib.Core.List.{[], ◌∷◌, ◌++◌, flat_map}
use Rattle.lists.specs.Lists.{from, put, keep, all, any, first}
use Rattle.lists.specs.Sorts.{insert, sort}
use Rattle.history.specs.Table.{op_at, bears, rows_of, history, is_opening, is_write, is_read, precedes, dictates}
use Rattle.history.specs.Answer.{first_met}
use Rattle.history.specs.Screen.{wrong_kind, stray_opening, wrong_span, opens_too, reopens, repeats, rewrites, dictated_by, unwritten, precedes_write, too_early, tests, examined, screening}
use Rattle.methods.specs.Extremes.{least, greatest}
use Rattle.methods.specs.Ranks.{sooner, rank, ranked}
use Rattle.methods.specs.Prepared.{by_start, shortened, new_finish, prepared}
use Rattle.methods.specs.Zones.{first_finish, last_start}
use Rattle.methods.proofs.Calls.{W, R, a, b, gives}
use Rattle.methods.proofs.Openings.{O}
use Rattle.zone_list.specs.ZoneList.{stamps_of, zone_list, listed, zone_call}

pub zone_cases : (zone_call (W a 1 2 ++ W b 3 4 ++ R a 5 6) 7 (90 ∷ 91 ∷ 92 ∷ 93 ∷ 94 ∷ 95 ∷ 96 ∷ 97 ∷ 98 ∷ []) ≡ gives 0 0 3 0 (0 ∷ 1 ∷ 2 ∷ 5 ∷ 1 ∷ 2 ∷ 3 ∷ 4 ∷ 98 ∷ []))
    × (zone_call (W a 1 9 ++ R a 2 5 ++ W b 5 6 ++ R b 9 9) 7 (90 ∷ 91 ∷ 92 ∷ 93 ∷ 94 ∷ 95 ∷ 96 ∷ 97 ∷ []) ≡ gives 0 0 4 0 (0 ∷ 2 ∷ 2 ∷ 5 ∷ 2 ∷ 1 ∷ 6 ∷ 9 ∷ []))
    × (zone_call (W a 5 5) 7 (90 ∷ 91 ∷ 92 ∷ 93 ∷ []) ≡ gives 0 0 1 0 (0 ∷ 2 ∷ 5 ∷ 5 ∷ []))
    × (zone_call (W a 1 9) 7 (90 ∷ 91 ∷ 92 ∷ []) ≡ gives 10 0 0 0 (90 ∷ 91 ∷ 92 ∷ []))
    × (zone_call (R a 1 9) 7 (90 ∷ []) ≡ gives 8 0 0 0 (90 ∷ []))
    × (zone_call [] 7 (90 ∷ []) ≡ gives 0 0 0 0 (90 ∷ []))
    × (zone_call (O a) 7 (90 ∷ 91 ∷ 92 ∷ 93 ∷ []) ≡ gives 0 0 1 0 (0 ∷ 2 ∷ 0 ∷ 0 ∷ []))
    × (zone_call (W b 0 1 ++ R a 2 3 ++ O a) 7 (90 ∷ 91 ∷ 92 ∷ 93 ∷ 94 ∷ 95 ∷ 96 ∷ 97 ∷ []) ≡ gives 0 0 3 0 (2 ∷ 1 ∷ 0 ∷ 2 ∷ 0 ∷ 2 ∷ 0 ∷ 1 ∷ []))
    × (zone_call (R a 0 4 ++ O a) 7 (90 ∷ 91 ∷ 92 ∷ 93 ∷ []) ≡ gives 0 0 2 0 (1 ∷ 1 ∷ 0 ∷ 0 ∷ []))
unfolding from put keep all any first insert sort flat_map op_at bears rows_of history is_opening is_write is_read precedes dictates first_met wrong_kind stray_opening wrong_span opens_too reopens repeats rewrites dictated_by unwritten precedes_write too_early tests examined screening least greatest sooner rank ranked by_start shortened new_finish prepared first_finish last_start stamps_of zone_list listed zone_call
zone_cases = (refl, refl, refl, refl, refl, refl, refl, refl, refl)
