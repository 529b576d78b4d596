-- The order that the code finds for a chunk is the definition's.
-- Assumes nothing.
use Prim.Native.Nat.{ℕ, ◌+◌, ◌≤◌, ◌<◌}
use mathlib.Core.Path.{◌≡◌, ap, sym, ◌∙◌}
use mathlib.Core.Bool.{Bool, true, false}
use mathlib.Core.Logic.{◌⊎◌, inl, inr}
use mathlib.Core.List.Memᴰ
use mathlib.Core.List.{List, [], ◌∷◌, ◌++◌, append-nil, Memᴰ as In}
use Rattle.std.specs.Prelude.{Option}
use native.Mathlib.Omega.{arith}
use lib.ListN.{length, get_or, drop}
use lib.Seq.{drop-cons}
use Rattle.lists.specs.Lists.{keep}
use Rattle.lists.proofs.Members.{in_keep}
use Rattle.lists.proofs.Counts.{keep_length}
use Rattle.lists.proofs.Pairs.{pairs_keep, pairs_append}
use Rattle.lists.proofs.Images.{map_append, get_d_in}
use Rattle.history.specs.declared.Op.{Op}
use Rattle.methods.specs.declared.Zone.{Zone}
use Rattle.methods.specs.Zones.{order, low, zone_of}
use Rattle.methods.specs.Fzf.{chunk, inner, listed, first_viable, only, made}
use Rattle.positions.specs.Columns.{Cols, size, wr, Sound, op, ops, Of}
use Rattle.zones.specs.Zones.{zone_by, Zoned, Inside}
use Rattle.zones.proofs.ByLow.{by_low_length, zone_at}
use Rattle.choice.specs.Gives.{Gives, no_order as none_chosen, an_order as one_chosen}
use Rattle.choice.specs.Offered.{Shown, chosen_by}
use Rattle.chunking.specs.Chunks.{lies, side}
use Rattle.chunking.specs.Inner.{Sides}
use Rattle.freeing.specs.Marks.{Writes}
use Rattle.freeing.specs.Freed.{clusters_of}
use Rattle.freeing.proofs.Freed.{clusters_only}
use Rattle.chunking.proofs.Sides.{side_write, side_in, side_inside, side_apart, side_rises, sides_unlike, sides_length, inner_is}
use Rattle.joining.specs.Items.{forths, backs, Cut, run_of, Lent, Chunked, no_order, an_order}

-- The lists of writes are of positions, and each has room in an array.
module _ (C : Cols) (p : Sound C) (late : List ℕ) (g : Zoned C late) where
  pub sides_inside : (b : Bool) → Inside C.finish (side C.finish late C.writer b)
  sides_inside b = side_inside C.finish late C.writer b (p.ending ∙ sym p.shape.long)

  pub sides_few : length (forths C late) + length (backs C late) ≤ size C
  sides_few = omega (arith, sides_length C.finish late C.writer, by_low_length C.finish late C.writer, p.shape.long)

  -- as the pass over the runs asks for them
  pub both_sides : (F B : List ℕ) → F ≡ forths C late → B ≡ backs C late → Sides C.finish late F B
  both_sides F B x y =
      record {
        forth = rw x (sides_inside true);
        back = rw y (sides_inside false);
        rises = rw y (side_rises C.finish late C.writer false);
      }

  pub run_inside : (run : List ℕ) → Cut C late run → get_or run 0 0 < length C.finish
  run_inside run k = omega (arith, (side_write C p late true (k.among _ (get_d_in run 0 0 k.some))).0, p.ending)

module _ (C : Cols) (p : Sound C) (n : size C ≤ 1024) (late : List ℕ) (g : Zoned C late) (run : List ℕ) (k : Cut C late run)
    (bottom top : ℕ) (e : bottom ≡ low (zone_by C.finish late (get_or run 0 0))) where
  -- the backward writes of the chunk
  abbrev I : List ℕ
  I = keep (lies C.finish late bottom top) (backs C late)

  inner_in : {x : ℕ} → In x I → In x (backs C late)
  inner_in m = (in_keep (lies C.finish late bottom top) (backs C late) m).0

  run_write : (x : ℕ) → In x run → (x < size C) × (wr C x ≡ x)
  run_write x m = side_write C p late true (k.among x m)

  inner_write : (x : ℕ) → In x I → (x < size C) × (wr C x ≡ x)
  inner_write x m = side_write C p late false (inner_in m)

  -- all of the chunk's writes
  chunk_writes : Writes C.writer (run ++ I)
  chunk_writes x m = let k = go (Memᴰ.append_cases run m) in (omega (arith, k.0, p.shape.long), k.1)
    where
      go : In x run ⊎ In x I → (x < size C) × (wr C x ≡ x)
      go (inl i) = run_write x i
      go (inr i) = inner_write x i

  -- what the choice requires
  pub chunk_choice : (list turn placed part : List ℕ) → Lent (size C) list turn placed part → Shown C run I turn placed part
  chunk_choice list turn placed part l =
      record {
        small = n;
        writes = chunk_writes;
        apart =
            pairs_append k.apart (pairs_keep (lies C.finish late bottom top) (side_apart C.finish late C.writer false))
            (λ x y m i. sides_unlike C.finish late C.writer x y (k.among x m) (inner_in i));
        turns =
            omega (
              arith,
              k.few,
              keep_length (lies C.finish late bottom top) (backs C late),
              sides_few C p late g,
              l.turns,
            );
        marks = l.marks;
        sized = l.cells;
      }

  module _ (H : List Op) (o : Of C H) where
    whole_run : op H (get_or run 0 0) ∷ ops H (drop 1 run) ≡ ops H run
    whole_run = ap (ops H) (sym (drop-cons run 0 0 k.some))

    first_zone : bottom ≡ low (zone_of H (op H (get_or run 0 0)))
    first_zone = e ∙ ap (λ (z : Zone). low z) (sym (zone_at o late g (side_in C.finish late C.writer true (k.among _ (get_d_in run 0 0 k.some)))))

    made_is : made H (chunk (run_of H run top)) ≡ first_viable (listed (ops H run) (ops H I)) (ops H (clusters_of C.writer (run ++ I)))
    unfolding made
    made_is =
        let a = whole_run in
        let b : inner H (run_of H run top) ≡ ops H I = sym (inner_is o late g (run_of H run top) bottom first_zone) in
        let c : only (ops H run ++ ops H I) H ≡ ops H (clusters_of C.writer (run ++ I)) = ap (λ (l : List Op). only l H) (sym (map_append (op H) run I)) ∙ sym (clusters_only o (run ++ I) chunk_writes) in
        ap (λ (i : List Op). first_viable (listed (op H (get_or run 0 0) ∷ ops H (drop 1 run)) i) (only ((op H (get_or run 0 0) ∷ ops H (drop 1 run)) ++ i) H)) b
        ∙ ap (λ (t : List Op). first_viable (listed t (ops H I)) (only (t ++ ops H I) H)) a
        ∙ ap (λ (x : List Op). first_viable (listed (ops H run) (ops H I)) x) c

  pub chunk_made : (part : List ℕ) {r : Option ℕ} → Gives C (chosen_by run I (clusters_of C.writer (run ++ I))) [] part r → Chunked C run top part r
  chunk_made part (none_chosen d) = no_order (λ H o. made_is H o ∙ d H o)
  chunk_made part (one_chosen x) =
      an_order
      (record {
        high = x.high;
        whole = λ H o. made_is H o ∙ x.whole H o ∙ ap (λ (l : List ℕ). order (ops H l)) (sym (append-nil x.placed) ∙ x.lays);
      })
