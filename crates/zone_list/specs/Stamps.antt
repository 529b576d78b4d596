-- The recorded stamps of each cluster in columns, and the zone list by them.
-- Assumes nothing.
use Rattle.std.specs.Prelude.{ℕ, ◌*◌, ◌%◌, ◌≤◌, ◌<◌, ◌≡◌, List, ◌∷◌, length, get_or}
use Rattle.history.specs.declared.Op.{Op}
use Rattle.history.specs.Table.{history}
use Rattle.methods.specs.declared.Zone.{Zone}
use Rattle.methods.specs.Extremes.{least, greatest}
use Rattle.methods.specs.Zones.{forward}
use Rattle.methods.specs.Mark.{written}
use Rattle.positions.specs.Places.{upto}
use Rattle.positions.specs.Columns.{read_of}
use Rattle.writers.specs.Writers.{row_op}
use Rattle.columns.specs.Rows.{Listed}
use Rattle.zones.specs.Zones.{zone_by}
use Rattle.zone_list.specs.ZoneList.{directed, zone_list}

-- the smallest finish and the largest start of some positions, begun with those of w
abbrev pub stamps_over : List ℕ → List ℕ → ℕ → List ℕ → Zone
stamps_over t rows w l =
    let first = least (λ j. (row_op t rows j).finish) (row_op t rows w).finish l in
    let last = greatest (λ j. (row_op t rows j).start) (row_op t rows w).start l in
    record { finish = first; start = last }

-- those of w's cluster: of the write and of its reads
abbrev pub stamps_at : List ℕ → List ℕ → List ℕ → ℕ → Zone
stamps_at t rows writer w = stamps_over t rows w (upto (read_of writer w) (length writer))

-- recorded starts rise by position, and no read finishes below a write whose finish in the columns is even
pub record Timely (t rows finish writer : List ℕ) : Type 0 where
  pub sized : length finish ≡ length rows
  pub rising : (a b : ℕ) → a ≤ b → b < length rows → (row_op t rows a).start ≤ (row_op t rows b).start
  pub whole : (w j : ℕ) → j < length rows → get_or writer j 0 ≡ w → get_or writer w 0 ≡ w → get_or finish w 0 % 2 ≡ 0 → (row_op t rows w).finish ≤ (row_op t rows j).finish

-- positions of writes
abbrev pub Writes : List ℕ → List ℕ → Type 0
Writes writer places = (i : ℕ) → i < length places → (get_or places i 0 < length writer) × (get_or writer (get_or places i 0) 0 ≡ get_or places i 0)

-- the four numbers of the write at w, by the columns: its row, the direction by its zone, and its stamps
abbrev pub numbers_at : List ℕ → List ℕ → List ℕ → List ℕ → List ℕ → ℕ → List ℕ
numbers_at t rows finish writer late w = get_or rows w 0 ∷ directed (forward (zone_by finish late w)) (stamps_at t rows writer w)

-- THE CONTRACT of the listing: n writes, and where the list has four places for each, the zone list of h at its front
pub record Laid (h : List Op) (n : ℕ) (old list : List ℕ) : Type 0 where
  pub few : n ≤ length h
  pub count : length (zone_list h) ≡ n * 4
  pub short : length old < n * 4 → list ≡ old
  pub full : n * 4 ≤ length old → list ≡ written (zone_list h) old

-- the same of whatever register has these rows by rising time
abbrev pub OfRows : List ℕ → List ℕ → ℕ → List ℕ → List ℕ → Type 0
OfRows t rows n old list = (register : ℕ) → Listed t register rows → Laid (history t register) n old list
