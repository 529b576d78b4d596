-- The loops along a file's records: the one that inspects them, and the one that reads their rows.
-- Assumes nothing.
use Prim.Native.Nat.{ℕ, ◌+◌, ◌*◌, ◌≤◌, ◌<◌}
use mathlib.Core.Path.{◌≡◌, refl, sym, ap, ◌∙◌}
use mathlib.Core.Logic.{◌≢◌}
use mathlib.Core.List.{List, ◌++◌, flat_map}
use native.Mathlib.Omega.{arith}
use lib.ListN.{length, drop}
use lib.Seq.{sets}
use Rattle.lists.proofs.Scans.{Scan, scan_none, scan_hit, scan_more, scan_end}
use Rattle.history.specs.declared.Answer.{Answer}
use Rattle.history.specs.Table.{largest_count}
use Rattle.history.specs.Answer.{first_met, passed}
use Rattle.history.proofs.Refusals.{code_no_fault, no_fault_answer, met_kept, met_stop, met_on}
use Rattle.records.specs.Records.{next, begun, offset, Walked, record_from, record_at, cells, table_of, Stands}
use Rattle.records.proofs.Blocks.{length_blocks}
use Rattle.records.proofs.Offsets.{walked_none, walked_in, walked_here, walked_more, walked_end}
use Rattle.files.specs.Files.{Whole, record_tests, tests_at, file_tests, file_answer}
use Rattle.files.proofs.Filling.{Filling, fill_none, fill_long, fill_more, fill_end}
use Rattle.files.proofs.Passing.{Passes, passes, passed_tests, record_coded}

-- The first i records passed, and the one at `at` is next: the answer of the whole is the answer from here on.
pub record Inspecting (bs : List ℕ) (i at : ℕ) : Type 0 where
  pub few : i ≤ largest_count
  pub walked : Walked bs i at
  pub scan : Scan (file_answer bs) (λ xs. first_met (flat_map (tests_at bs) xs) (passed (begun bs))) (begun bs) i

module _ (bs : List ℕ) where
  pub inspect_none : Inspecting bs 0 0
  unfolding file_tests
  inspect_none = record { few = omega arith; walked = walked_none bs; scan = scan_none _ _ refl }

  module _ (i at : ℕ) (g : Inspecting bs i at) where
    module _ (h : at < length bs) (a : Answer) (e : a ≡ first_met (record_tests bs i at) (passed 0)) where
      here : a ≡ first_met (tests_at bs i) (passed 0)
      here = e ∙ ap (λ (o : ℕ). first_met (record_tests bs i o) (passed 0)) (sym (walked_here bs i at g.walked h (omega (arith, g.few))))

      inside : i < begun bs
      inside = walked_in bs i at g.walked h (omega (arith, g.few))

      -- a refusal is the answer
      pub inspect_hit : a.code ≢ 0 → a ≡ file_answer bs
      unfolding flat_map
      inspect_hit n =
          let refused : (first_met (tests_at bs i) (passed 0)).code ≢ 0 = λ z. n (ap (λ x. x.code) here ∙ z) in
          let kept : first_met (tests_at bs i) (passed (begun bs)) ≡ first_met (tests_at bs i) (passed 0) = met_kept (tests_at bs i) (passed 0) (passed (begun bs)) refl refused in
          sym (scan_hit _ _ i a inside g.scan (λ r. met_stop (tests_at bs i) (flat_map (tests_at bs) r) (passed (begun bs)) refl (λ z. refused (sym (ap (λ x. x.code) kept) ∙ z)) ∙ kept ∙ sym here))

      module _ (z : a.code ≡ 0) where
        pub inspect_passes : Passes bs i at
        inspect_passes = passes bs i at (code_no_fault (record_tests bs i at) (record_coded bs i at) (passed 0) (sym (ap (λ x. x.code) e) ∙ z))

        pub inspect_more : Inspecting bs (i + 1) (next bs at)
        unfolding flat_map
        inspect_more =
            let at_i = walked_here bs i at g.walked h (omega (arith, g.few)) in
            let p : Passes bs i (offset bs i) = rw at_i inspect_passes in
            record {
              few = omega (arith, inspect_passes.few);
              walked = walked_more bs i at g.walked h (omega (arith, g.few));
              scan =
                  scan_more _ _ _ i inside g.scan
                  (λ r. met_on (tests_at bs i) (flat_map (tests_at bs) r) (passed (begun bs)) (record_coded bs i (offset bs i)) (ap (λ x. x.code) (no_fault_answer (tests_at bs i) (passed (begun bs)) (passed_tests bs i (offset bs i) p))));
            }

    pub inspect_end : length bs ≤ at → passed i ≡ file_answer bs
    unfolding flat_map first_met
    inspect_end h = let e = walked_end bs i at g.walked h in ap passed e ∙ sym (scan_end _ _ i (omega (arith, e)) g.scan)

-- The rows of the first i records of a file that passed are stored.
pub record Reading (bs old : List ℕ) (i at : ℕ) (l : List ℕ) : Type 0 where
  pub walked : Walked bs i at
  pub filling : Filling (λ k. cells (record_at bs k)) old (begun bs) i l

module _ (bs old : List ℕ) where
  pub reading_none : Reading bs old 0 0 old
  reading_none = record { walked = walked_none bs; filling = fill_none _ old (begun bs) }

  module _ (w : Whole bs) (i at : ℕ) (l : List ℕ) (g : Reading bs old i at l) where
    pub reading_long : length l ≡ length old
    reading_long = fill_long _ old (begun bs) i l g.filling

    module _ (h : at < length bs) where
      few : i < 1025
      few = omega (arith, g.walked.within, w.few)

      pub reading_in : i < begun bs
      reading_in = walked_in bs i at g.walked h few

      pub reading_stands : Stands bs at
      reading_stands = rw (walked_here bs i at g.walked h few) at (w.stands i reading_in)

      pub reading_more : (m : List ℕ) → m ≡ sets l (i * 5) (cells (record_from bs at)) → Reading bs old (i + 1) (next bs at) m
      reading_more m e =
          record {
            walked = walked_more bs i at g.walked h few;
            filling =
                fill_more _ old (begun bs) i l g.filling 5 (λ k. refl) reading_in m
                (e ∙ ap (λ (o : ℕ). sets l (i * 5) (cells (record_from bs o))) (sym (walked_here bs i at g.walked h few)));
          }

    pub reading_end : length bs ≤ at → begun bs * 5 ≤ length old → l ≡ table_of bs ++ drop (length (table_of bs)) old
    unfolding table_of
    reading_end h room =
        let f : ℕ → List ℕ = λ k. cells (record_at bs k) in
        fill_end f old (begun bs) i l g.filling (omega (arith, walked_end bs i at g.walked h)) (omega (arith, length_blocks f 5 (λ k. refl) (begun bs)))
