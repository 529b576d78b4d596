-- What the methods are given: the facts of a prepared history, and all that their proofs rely on (000, section II.C; document 01, "Doubled stamps").
-- Assumes nothing.
use Rattle.std.specs.Prelude.{◌≤◌, ◌<◌, ◌≡◌, ◌≢◌, true, false}
use mathlib.Core.List.{List, Memᴰ as In}
use Rattle.lists.specs.Pairs.{Pairs}
use Rattle.history.specs.declared.Op.{Op}
use Rattle.history.specs.Table.{is_write, Precedes}

-- w is a write of H (000, section II.A)
pub record Write (H : List Op) (w : Op) : Type 0 where
  pub mem : In w H
  pub write : is_write w ≡ true

-- r is a read of H, and w its dictating write (01, "The row")
pub record Reads (H : List Op) (w r : Op) : Type 0 where
  pub by : Write H w
  pub mem : In r H
  pub read : is_write r ≡ false
  pub same : w.value ≡ r.value

-- two rows
abbrev pub Apart : Op → Op → Type 0
Apart a b = a.row ≢ b.row

-- A history (000, section II.A): operations of different rows that have a span, one write a value, and with each read its write.
pub record Proper (H : List Op) : Type 0 where
  pub rows : Pairs Apart H
  pub span : (x : Op) → In x H → x.start ≤ x.finish
  pub one : (x y : Op) → Write H x → Write H y → x.value ≡ y.value → x ≡ y
  pub dict : (r : Op) → In r H → is_write r ≡ false → (w : Op) × Reads H w r

-- A prepared one: it is listed by rising start, precedence is by stamps alone, no two stamps are the same, and a write finishes before its reads do (01, "Doubled stamps").
pub record Prepared (H : List Op) : Type 0 where
  pub proper : Proper H
  pub rising : Pairs (λ a b. a.start < b.start) H
  pub clock : (x y : Op) → In x H → In y H → Precedes x y → x.finish < y.start
  pub cross : (x y : Op) → In x H → In y H → x.finish ≢ y.start
  pub ends : (x y : Op) → In x H → In y H → x.finish ≡ y.finish → x ≡ y
  pub first : (w r : Op) → Reads H w r → w.finish < r.finish
