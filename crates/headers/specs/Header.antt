-- The header of a log: where each needed column stands (document 02, W-201).
-- Assumes nothing.
use Rattle.std.specs.Prelude.{ℕ, Bool, true, false, cond, List, [], ◌∷◌, ltb, length}
use Rattle.lists.specs.Lists.{all}
use Rattle.parsing.specs.Numbers.{front}
use Rattle.cells.specs.Parts.{Part, part, cells_of, same}
use Rattle.headers.specs.declared.Column.{Column}
use Rattle.headers.specs.declared.Column.TheVariants.{Missing, Only, Repeated}
use Rattle.headers.specs.declared.Named.{Named}
use Rattle.headers.specs.declared.Columns.{Columns}

-- The five needed names, as bytes (02, W-201, "register, kind, value, start and finish").
abbrev pub register_name : List ℕ
register_name = 114 ∷ 101 ∷ 103 ∷ 105 ∷ 115 ∷ 116 ∷ 101 ∷ 114 ∷ []

abbrev pub kind_name : List ℕ
kind_name = 107 ∷ 105 ∷ 110 ∷ 100 ∷ []

abbrev pub value_name : List ℕ
value_name = 118 ∷ 97 ∷ 108 ∷ 117 ∷ 101 ∷ []

abbrev pub start_name : List ℕ
start_name = 115 ∷ 116 ∷ 97 ∷ 114 ∷ 116 ∷ []

abbrev pub finish_name : List ℕ
finish_name = 102 ∷ 105 ∷ 110 ∷ 105 ∷ 115 ∷ 104 ∷ []

-- A column of the searched name, k, behind what was found before it (02, W-201, "missing or repeated").
unfoldable pub more : Column → ℕ → Column
more Missing k = Only k
more (Only j) k = Repeated
more Repeated k = Repeated

-- What of a name is found in some cells, behind what was found before them.
unfoldable pub column_from : List ℕ → Column → List Part → Column
column_from name found [] = found
column_from name found (p ∷ ps) = column_from name (cond (same p.bytes name) (more found p.number) found) ps

-- The cells of the header line, and how many they are (02, W-201, "The first line names columns").
unfoldable pub header_cells : List ℕ → List Part
header_cells bs = cells_of (part 0 0 (front bs))

abbrev pub width : List ℕ → ℕ
width bs = length (header_cells bs)

-- what of a name is found in the header line
abbrev pub column_of : List ℕ → List ℕ → Column
column_of name bs = column_from name Missing (header_cells bs)

-- the five of them: what of each is found in some cells, behind what was found before; and in the header line
unfoldable pub named_from : Named → List Part → Named
named_from n ps =
    record {
      register = column_from register_name n.register ps;
      kind = column_from kind_name n.kind ps;
      value = column_from value_name n.value ps;
      start = column_from start_name n.start ps;
      finish = column_from finish_name n.finish ps;
    }

abbrev pub unnamed : Named
unnamed = record { register = Missing; kind = Missing; value = Missing; start = Missing; finish = Missing }

abbrev pub named_in : List ℕ → Named
named_in bs = named_from unnamed (header_cells bs)

-- a name stands once; and where it stands, 0 where it does not stand once
unfoldable pub is_only : Column → Bool
is_only Missing = false
is_only (Only k) = true
is_only Repeated = false

unfoldable pub place : Column → ℕ
place Missing = 0
place (Only k) = k
place Repeated = 0

-- where each of the five stands
unfoldable pub places_of : Named → Columns
places_of n =
    record {
      register = place n.register;
      kind = place n.kind;
      value = place n.value;
      start = place n.start;
      finish = place n.finish;
    }

-- each needed name stands once
unfoldable pub complete : Named → Bool
complete n = all is_only (n.register ∷ n.kind ∷ n.value ∷ n.start ∷ n.finish ∷ [])

-- The header line ends in a line feed, and each needed name stands in it once (02, W-201, "a header without one an 18 at 0", "a needed name is missing
-- or repeated").
unfoldable pub sound_header : List ℕ → Bool
sound_header bs = cond (ltb (length (front bs)) (length bs)) (complete (named_in bs)) false

-- where the needed columns of a log stand
abbrev pub columns_of : List ℕ → Columns
columns_of bs = places_of (named_in bs)
