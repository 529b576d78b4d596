-- A chunk that is set free for each order that is tried, and shut at the end.
-- Assumes nothing.
use Prim.Native.Nat.{ℕ, ◌<◌}
use mathlib.Core.Path.{◌≡◌}
use mathlib.Core.Bool.{Bool}
use mathlib.Core.List.Memᴰ
use mathlib.Core.List.{List, [], ◌∷◌, ◌++◌}
use Rattle.std.specs.Prelude.{Option}
use native.Mathlib.Omega.{arith}
use lib.ListN.{length, get_or}
use Rattle.lists.proofs.Images.{get_d_in}
use Rattle.positions.specs.Columns.{Cols, Sound}
use Rattle.placing.specs.States.{State, left, laid, state_of, Holds}
use Rattle.freeing.specs.Marks.{Painted, Above}
use Rattle.freeing.specs.Freed.{Shut, clusters_of, Freed}
use Rattle.freeing.proofs.Topping.{above_topped, above_low}
use Rattle.freeing.proofs.Freed.{shut_within, within_freed, freed_whose, freed_left, freed_laid, freed_holds}
use Rattle.choice.specs.Gives.{Gives}
use Rattle.choice.specs.Viable.{Turns, viable_by}
use Rattle.choice.specs.Offered.{backward, offer, Shown, Offered, tried_by}
use Rattle.choice.proofs.Offers.{offer_turns, try_one}

module _ (C : Cols) (p : Sound C) (t b turn placed cells : List ℕ) where
  -- the writes of the chunk are places of the columns
  module _ (g : Shown C t b turn placed cells) where
    pub run_inside : (i : ℕ) → i < length t → get_or t i 0 < length C.last
    run_inside i l = omega (arith, (g.writes _ (Memᴰ.append_left b (get_d_in t 0 i l))).0, p.links.lasting)

    pub inner_inside : (i : ℕ) → i < length b → get_or b i 0 < length C.last
    inner_inside i l = omega (arith, (g.writes _ (Memᴰ.append_right t (get_d_in b 0 i l))).0, p.links.lasting)

    -- a chunk that is shut is offered under a bound above it
    pub chunk_offered : Shut (length C.writer) placed → (top : ℕ) → Above C.last (t ++ b) 0 top → Offered C t b turn placed cells top
    chunk_offered h top a =
        record {
          chunk = g;
          within = shut_within C.writer (t ++ b) placed h;
          low = above_low C.writer C.last C.prev p.links (t ++ b) g.writes top a;
          topped = above_topped C.writer C.last C.prev p.links (t ++ b) g.writes top a;
        }

  module _ (top : ℕ) (g : Offered C t b turn placed cells top) where
    -- set free
    module _ (free : List ℕ) (q : Painted C.writer (t ++ b) 0 placed free) (e : length free ≡ length placed) where
      abbrev s : State
      s = state_of free cells (length cells) top

      freed : Freed C.writer (t ++ b) s
      freed = within_freed C.writer (t ++ b) placed free cells top g.within q (omega (arith, e, g.chunk.marks, p.shape.long)) (omega (arith, g.chunk.sized, p.shape.long)) g.low g.topped

      pub offered_holds : Holds C s
      offered_holds = freed_holds C p g.chunk.small freed

      pub offered_turns : (flip swap : Bool) → Turns C.writer (backward (offer t b flip swap)) s
      offered_turns flip swap = offer_turns C.writer t b s (freed_whose C.writer (t ++ b) s freed g.chunk.writes) g.chunk.apart flip swap

      pub offered_tried : (flip swap : Bool) (cells' : List ℕ) {r : Option ℕ} → Gives C (viable_by (backward (offer t b flip swap)) (left s)) (laid s) cells' r →
          Gives C (tried_by (offer t b flip swap ∷ []) (clusters_of C.writer (t ++ b))) [] cells' r
      offered_tried flip swap cells' x =
          try_one C (clusters_of C.writer (t ++ b)) [] cells' (offer t b flip swap)
          (rw (freed_left C.writer (t ++ b) s freed, freed_laid C.writer (t ++ b) s freed) at x)
