-- Anomalies of a register (000, section II.C): what by itself keeps it from being k-atomic, whatever k is.
-- Assumes nothing.
use Rattle.std.specs.Prelude.{ℕ, ◌≡◌, true}
use mathlib.Core.List.{List, Memᴰ as In}
use Rattle.history.specs.declared.Op.{Op}
use Rattle.history.specs.Table.{is_write, Precedes, Dictates}
use Rattle.atomicity.specs.Order.{Atomic}

pub data Anomaly (h : List Op) : Type 0 where
  -- a read without a dictating write (000, section II.C; document 01, code 8)
  undictated : (r : Op) → In r h → r.kind ≡ 2 → ((w : Op) → In w h → ¬ Dictates w r) → Anomaly h
  -- a read that precedes its dictating write (000, section II.C; document 01, code 9)
  early : (w r : Op) → In w h → In r h → Dictates w r → Precedes r w → Anomaly h

-- each write assigns a distinct value (000, section II.C; 01, code 7): no value is written twice
abbrev pub DistinctValues : List Op → Type 0
DistinctValues h = (v w : Op) → In v h → In w h → is_write v ≡ true → is_write w ≡ true → v.value ≡ w.value → v ≡ w

-- no list is a valid k-atomic order of the register, for any k (000, section II.A)
abbrev pub NeverAtomic : List ℕ → ℕ → Type 0
NeverAtomic t register = (k : ℕ) (order : List ℕ) → ¬ Atomic k t register order
