-- A loop that writes a list into a buffer part by part: what the rest makes of the buffer now, the whole makes of the buffer that was.
-- Assumes nothing.
use Prim.Native.Nat.{ℕ, ◌+◌, ◌-◌, ◌≤◌}
use mathlib.Core.Path.{◌≡◌, refl, ap, sym, ◌∙◌}
use mathlib.Core.List.{List, [], ◌++◌, append_assoc}
use native.Mathlib.Omega.{arith}
use lib.ListN.{length, length-append, take, drop}
use lib.Seq.{sets, sets-eq, length-sets, drop-drop}
use borrow.Rule.Slice.PartMut.{put_mid}
use Rattle.lists.proofs.Stores.{sets_append}

-- `rest` is left to be written at a place
pub record Putting (old : List ℕ) (at : ℕ) (whole : List ℕ) (out : List ℕ) (place : ℕ) (rest : List ℕ) : Type 0 where
  pub long : length out ≡ length old
  pub room : place + length rest ≡ at + length whole
  pub same : sets out place rest ≡ sets old at whole

pub put_none : (old : List ℕ) (at : ℕ) (whole : List ℕ) → Putting old at whole old at whole
put_none old at whole = record { long = refl; room = refl; same = refl }

module _ {old : List ℕ} {at : ℕ} {whole : List ℕ} {out : List ℕ} {place : ℕ} {rest : List ℕ} (g : Putting old at whole out place rest) where
  pub put_more : (vs ws : List ℕ) → rest ≡ vs ++ ws → (out' : List ℕ) (place' : ℕ) → out' ≡ sets out place vs → place' ≡ place + length vs
      → Putting old at whole out' place' ws
  put_more vs ws e out' place' p q =
      record {
        long = ap length p ∙ length-sets out place vs ∙ g.long;
        room = omega (arith, q, g.room, ap length e, length-append vs ws);
        same = rw (p, q) (sets_append vs ws out place ∙ rw (← e) g.same);
      }

  pub put_end : rest ≡ [] → (place ≡ at + length whole) × (out ≡ sets old at whole)
  put_end e = (omega (arith, g.room, ap length e), (rw e at g.same))

-- The same from the front on.
pub put_all : {old whole out : List ℕ} {place : ℕ} {rest : List ℕ} → Putting old 0 whole out place rest → rest ≡ []
    → (place ≡ length whole) × (out ≡ sets old 0 whole)
put_all g e = (omega (arith, g.room, ap length e), (put_end g e).1)

-- A list copied over a part of a buffer.
pub put_over : (at : ℕ) (vs out : List ℕ) → at + length vs ≤ length out → put_mid at (at + length vs - at) out vs ≡ sets out at vs
put_over at vs out h =
    let e : at + length vs - at ≡ length vs = omega arith in
    rw (e, drop-drop (length vs) at out, sets-eq vs out at h) (sym (append_assoc (take at out) vs (drop (at + length vs) out)))
