-- A text put part by part, taken out of its buffer again.
-- Assumes nothing.
use Prim.Native.Nat.{ℕ, ◌≤◌}
use mathlib.Core.Path.{◌≡◌, sym, ap, ◌∙◌}
use mathlib.Core.List.{List, ◌++◌}
use native.Mathlib.Omega.{arith}
use lib.ListN.{length, take, drop, length-append}
use lib.Seq.{sets, take_at}
use Rattle.lists.proofs.Stores.{sets_behind, sets_front}
use Rattle.lines.specs.Lines.{Put}

-- a second part behind the first
pub put_then : (xs ys old : List ℕ) (at : ℕ) {mid new : List ℕ} {next end : ℕ} → Put xs old at next mid → Put ys mid next end new
    → Put (xs ++ ys) old at end new
put_then xs ys old at {mid} {new} {next} {end} p q =
    (omega (arith, p.0, q.0, length-append xs ys), q.1 ∙ ap (λ (l : List ℕ). sets l next ys) p.1 ∙ sets_behind xs ys old at next (sym p.0))

-- a text at the front of its buffer is what is taken from there
pub put_taken : (text old : List ℕ) {new : List ℕ} {n : ℕ} → Put text old 0 n new → length text ≤ length old → take n new ≡ text
put_taken text old {new} {n} p h =
    ap (take n) (p.1 ∙ sets_front text old h) ∙ take_at text (drop (length text) old) n (omega (arith, p.0))
