-- The zone list of a register as text, a line a write (document 02, W-206).
-- Assumes nothing.
use Rattle.std.specs.Prelude.{ℕ, ◌≡◌, cond, List, [], ◌∷◌, ◌++◌, eqb}
use Rattle.history.specs.Table.{history}
use Rattle.history.specs.Answer.{number}
use Rattle.history.specs.declared.Code.TheVariants.{Fresh}
use Rattle.history.specs.Screen.{screening}
use Rattle.methods.specs.Place.{write_count}
use Rattle.text.specs.Decimal.{lines_of}
use Rattle.printing.specs.Texts.{refused_line}
use Rattle.zone_list.specs.ZoneList.{zone_list}
use Rattle.zone_list.specs.Shown.{Shown}

-- the header line is exactly row,direction,low,high
abbrev pub header : List ℕ
header =
    114 ∷ 111 ∷ 119 ∷ 44
    ∷ 100 ∷ 105 ∷ 114 ∷ 101 ∷ 99 ∷ 116 ∷ 105 ∷ 111 ∷ 110 ∷ 44
    ∷ 108 ∷ 111 ∷ 119 ∷ 44
    ∷ 104 ∷ 105 ∷ 103 ∷ 104 ∷ 10
    ∷ []

-- the header, and a line for each write, in the sequence of the zone list; or the line of the refusal where the screening refuses the register
unfoldable pub zones_text : ℕ → List ℕ → List ℕ
zones_text register t =
    let h = history t register in
    let met = screening t register in
    cond (eqb met.code (number Fresh)) (header ++ lines_of 4 (write_count h) (zone_list h)) (refused_line met)

-- what the lines show
abbrev pub Meant : List ℕ → ℕ → Type 0
Meant t register = (screening t register).code ≡ 0 → Shown (history t register) (zone_list (history t register))
