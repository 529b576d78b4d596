-- The doubled ranks of the stamps of some rows, and what is made on the way (document 02, W-203; W-207).
-- Assumes nothing.
use Rattle.std.specs.Prelude.{ℕ, ◌+◌, ◌*◌, ◌≤◌, ◌<◌, ◌≡◌, ◌≢◌, Bool, false, cond, ltb, leb, length, get_or}
use mathlib.Core.List.{List, map, Memᴰ as In}
use Rattle.history.specs.declared.Op.{Op}
use Rattle.history.specs.Table.{op_at}
use Rattle.history.specs.Screen.{Spanned}
use Rattle.methods.specs.Ranks.{starting, finishing, lower, rank}
use Rattle.preparation.specs.Times.{time_of, by_time}
use Rattle.preparation.specs.Claims.{RowsRise}

-- rows of the table whose stamps passed the screening (01, code 5; 02, W-203 and W-207)
pub record Fit (t rows : List ℕ) : Type 0 where
  pub inside : (x : ℕ) → In x rows → x * 5 + 5 ≤ length t
  pub spans : (x : ℕ) → In x rows → Spanned (op_at t x)

-- h are operations whose rows rise, and by rising time they are those of the rows (01, "Doubled stamps"; 02, W-207)
pub record Stands (t rows : List ℕ) (h : List Op) : Type 0 where
  pub rise : RowsRise h
  pub sorted : by_time h ≡ map (op_at t) rows

-- there are such operations
abbrev pub Standing : List ℕ → List ℕ → Type 0
Standing t rows = (h : List Op) × Stands t rows h

-- the times of the starts and of the finishes of the rows (02, W-207)
pub record Stamps (t rows starts finishes : List ℕ) : Type 0 where
  pub begin : starts ≡ map (λ x. time_of (starting (op_at t x))) rows
  pub end : finishes ≡ map (λ x. time_of (finishing (op_at t x))) rows

-- no two positions have one row
abbrev pub RowsDiffer : List ℕ → Type 0
RowsDiffer rows = (a b : ℕ) → a < b → b < length rows → get_or rows a 0 ≢ get_or rows b 0

-- a goes before b: its finish is below, or they are equal and its row is no higher (02, W-203)
abbrev pub finishes_first : List ℕ → List ℕ → ℕ → ℕ → Bool
finishes_first rows finishes a b = lower (get_or finishes a 0) (get_or finishes b 0) (leb (get_or rows a 0) (get_or rows b 0))

-- the finish at a place of a list of positions
abbrev pub finish_at : List ℕ → List ℕ → ℕ → ℕ
finish_at finishes list k = get_or finishes (get_or list k 0) 0

-- starts that rise, and a list of all positions by rising finish; each start has a finish that is not below it
pub record Ready (starts finishes list : List ℕ) : Type 0 where
  pub size_starts : length starts ≡ length list
  pub size_finishes : length finishes ≡ length list
  pub inside : (k : ℕ) → k < length list → get_or list k 0 < length list
  pub once : (j k : ℕ) → j < k → k < length list → get_or list j 0 ≢ get_or list k 0
  pub rising : (a b : ℕ) → a ≤ b → b < length list → get_or starts a 0 ≤ get_or starts b 0
  pub ordered : (a b : ℕ) → a ≤ b → b < length list → finish_at finishes list a ≤ finish_at finishes list b
  pub meets : (a : ℕ) → a < length list → (b : ℕ) × (b < length list) × (get_or starts a 0 ≤ finish_at finishes list b)

-- there is a start at i, and it is not above the finish
unfoldable pub comes_first : List ℕ → ℕ → ℕ → Bool
comes_first starts i finish = cond (ltb i (length starts)) (leb (get_or starts i 0) finish) false

-- of n numbers the first j, and no others, have P
pub record Front (P : ℕ → Type 0) (n j : ℕ) : Type 0 where
  pub few : j ≤ n
  pub before : (k : ℕ) → k < j → P k
  pub behind : (k : ℕ) → j ≤ k → k < n → P k → ⊥

-- twice the place of each stamp: a start stands behind the starts before it and the finishes below it, a finish behind the finishes before it
-- and the starts that are not above it
pub record Merged (starts finishes list start finish : List ℕ) : Type 0 where
  pub size_start : length start ≡ length list
  pub size_finish : length finish ≡ length list
  pub begin : (a : ℕ) → a < length list → (j : ℕ) × (get_or start a 0 ≡ 2 * (a + j)) × Front (λ k. finish_at finishes list k < get_or starts a 0) (length list) j
  pub end :
      (b : ℕ) →
      b < length list →
      (i : ℕ) × (get_or finish (get_or list b 0) 0 ≡ 2 * (i + b)) × Front (λ k. get_or starts k 0 ≤ finish_at finishes list b) (length list) i

-- the doubled ranks of the starts and of the finishes (01, "Doubled stamps"; 02, W-203)
pub record Ranked (t rows : List ℕ) (h : List Op) (start finish : List ℕ) : Type 0 where
  pub starts : start ≡ map (λ x. 2 * rank h (starting (op_at t x))) rows
  pub finishes : finish ≡ map (λ x. 2 * rank h (finishing (op_at t x))) rows

-- the columns are those, of whatever operations stand there
abbrev pub RanksOf : List ℕ → List ℕ → List ℕ → List ℕ → Type 0
RanksOf t rows start finish = (h : List Op) → Stands t rows h → Ranked t rows h start finish
