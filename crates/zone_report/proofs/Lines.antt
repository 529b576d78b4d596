-- The text from the zone list, and what its lines show.
-- Assumes nothing.
use Prim.Native.Nat.{ℕ, ◌*◌, ◌≤◌}
use mathlib.Core.Path.{◌≡◌, refl, ap, ap₂, sym, ◌∙◌}
use mathlib.Core.Logic.{◌≢◌}
use mathlib.Core.List.{List, [], ◌++◌, append-nil}
use native.Mathlib.Omega.{arith}
use lib.ListN.{length, drop, drop_of_length-le}
use borrow.Author.Tests.{eq-eqb, ne_eqb}
use Rattle.lists.specs.Sorts.{sort}
use Rattle.lists.proofs.Sorts.{sort_length}
use Rattle.history.specs.declared.Op.{Op}
use Rattle.history.specs.Table.{history}
use Rattle.history.specs.Screen.{screening}
use Rattle.history.proofs.Screened.{screening_exactly}
use Rattle.methods.specs.Prepared.{prepared}
use Rattle.methods.specs.Place.{writes, write_count}
use Rattle.methods.specs.Zones.{low_first}
use Rattle.preparation.proofs.Counts.{keeps_writes}
use Rattle.preparation.proofs.Rows.{history_rows}
use Rattle.text.specs.Decimal.{lines_of}
use Rattle.printing.specs.Texts.{refused_line}
use Rattle.printing.proofs.Lines.{lines_front}
use Rattle.zone_list.specs.ZoneList.{numbers_of, zone_list}
use Rattle.zone_list.specs.Stamps.{Laid}
use Rattle.zone_list.proofs.Listing.{numbers_long}
use Rattle.zone_list.proofs.Showing.{list_count, shown}
use Rattle.zone_report.specs.Text.{header, zones_text, Meant}

pub meant : (t : List ℕ) (register : ℕ) → Meant t register
meant t register e =
    let h = history t register in
    let none : drop {A = ℕ} (length (zone_list h)) [] ≡ [] = drop_of_length-le {A = ℕ} [] {i = length (zone_list h)} (omega arith) in
    shown ((screening_exactly t register).0 e) (history_rows t register) [] (zone_list h) (sym (rw none (append-nil (zone_list h))))

module _ (t : List ℕ) (register : ℕ) where
  abbrev h : List Op
  h = history t register

  -- THE TEXT, from the zone list
  pub text_is : (screening t register).code ≡ 0 → (n : ℕ) (old list : List ℕ) → Laid h n old list → n * 4 ≤ length old → header ++ lines_of 4 n list ≡ zones_text register t
  unfolding zones_text zone_list
  text_is e n old list q l =
      ap (λ (x : List ℕ). header ++ x) (
      ap₂ (lines_of 4) (count ∙ sym as_many) (q.full l)
      ∙ lines_front (numbers_of h H) 4 (numbers_long h H) ws (drop (length (zone_list h)) old)
      ∙ ap (λ (k : ℕ). lines_of 4 k (zone_list h)) as_many
      )
      ∙ sym (rw (eq-eqb (screening t register).code 0 e) refl)
    where
      H : List Op
      H = prepared h

      ws : List Op
      ws = sort (low_first H) (writes H)

      as_many : length ws ≡ write_count h
      as_many = sort_length (low_first H) (writes H) ∙ keeps_writes h

      count : n ≡ write_count h
      count = omega (arith, q.count, list_count h)

  -- a register that the screening refuses has its line
  pub text_refused : (screening t register).code ≢ 0 → refused_line (screening t register) ≡ zones_text register t
  unfolding zones_text
  text_refused n = sym (rw (ne_eqb (screening t register).code 0 n) refl)
