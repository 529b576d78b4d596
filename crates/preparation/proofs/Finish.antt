-- The new finish of an operation (document 01, "Doubled stamps"): the old one doubled, or one below the doubled finish of a read of it. It
-- is no later than the old one, and below those of all its reads.
-- Assumes nothing.
use Prim.Native.Nat.{ℕ, ◌*◌, ◌-◌, ◌≤◌, ◌<◌}
use mathlib.Core.Path.{◌≡◌, refl, ap, ◌∙◌}
use mathlib.Core.Logic.{◌⊎◌, inl, inr}
use mathlib.Core.Bool.{Bool, true, false}
use mathlib.Core.List.Memᴰ.{head as here}
use mathlib.Core.List.Memᴰ.{tail as there}
use mathlib.Core.List.{List, [], ◌∷◌, Memᴰ as In}
use native.Mathlib.Omega.{arith}
use native.Mathlib.Decide.{dec_lt}
use borrow.Author.Tests.{lt-ltb, ltb-true}
use Rattle.lists.proofs.Tests.{both}
use Rattle.lists.proofs.Members.{in_keep, keep_in}
use Rattle.history.specs.declared.Op.{Op}
use Rattle.history.specs.Table.{is_write}
use Rattle.methods.specs.Extremes.{least}
use Rattle.methods.specs.Prepared.{reads_of, finishes_below, cutting, shortened, new_finish}
use Rattle.witnesses.specs.Histories.{Write, Reads}
use Rattle.witnesses.proofs.Extremes.{least_begin, least_low, least_is}
use Rattle.witnesses.proofs.Parts.{in_reads_of, reads_of_in}
use Rattle.preparation.proofs.Timed.{Timed}

-- the finish that the reads l leave their write w: below each of theirs, and by one below the doubled one of a read
shortened_low : (w : Op) (l : List Op) {r : Op} → In r l → shortened w l ≤ 2 * r.finish - 1
unfolding shortened
shortened_low w (r ∷ l) (here e) = omega (arith, least_begin (λ o. o.finish) r.finish l, ap (λ o. o.finish) e)
shortened_low w (r ∷ l) (there m) = omega (arith, least_low (λ o. o.finish) r.finish l m)
shortened_low w [] {r = r} x' = elim x' [ ]

shortened_is : (w : Op) (l : List Op) → (shortened w l ≡ 2 * w.finish) ⊎ ((r : Op) × In r l × (shortened w l ≡ 2 * r.finish - 1))
unfolding shortened
shortened_is w [] = inl refl
shortened_is w (r ∷ l) = inr (go (least_is (λ o. o.finish) r.finish l))
  where
    low : ℕ
    low = least (λ o. o.finish) r.finish l

    go : (low ≡ r.finish) ⊎ ((x : Op) × In x l × (low ≡ x.finish)) → (x : Op) × In x (r ∷ l) × (2 * low - 1 ≡ 2 * x.finish - 1)
    go (inl e) = (r, here refl, ap (λ n. 2 * n - 1) e)
    go (inr (x, m, e)) = (x, there m, ap (λ n. 2 * n - 1) e)

-- the new finish, by whether the operation is cut short
pub data New (H : List Op) (x : Op) : Type 0 where
  whole : new_finish H x ≡ 2 * x.finish → New H x
  cut : (r : Op) → Reads H x r → r.finish < x.finish → new_finish H x ≡ 2 * r.finish - 1 → New H x

module _ (H : List Op) where
  -- the reads that cut a write short
  in_cutting : {w r : Op} → Write H w → In r (cutting H w) → Reads H w r × (r.finish < w.finish)
  in_cutting {w} {r} k m =
      let a = in_keep (finishes_below w) (reads_of H w) m in
      (in_reads_of H k a.0, ltb-true _ _ a.1)

  cutting_in : {w r : Op} → Reads H w r → r.finish < w.finish → In r (cutting H w)
  cutting_in {w} d l = keep_in (finishes_below w) (reads_of H w) (reads_of_in H d) (lt-ltb _ _ l)

  pub new : (x : Op) → In x H → New H x
  unfolding new_finish
  new x m = go (is_write x) refl
    where
      found : is_write x ≡ true → new_finish H x ≡ shortened x (cutting H x) →
          (shortened x (cutting H x) ≡ 2 * x.finish) ⊎ ((r : Op) × In r (cutting H x) × (shortened x (cutting H x) ≡ 2 * r.finish - 1)) → New H x
      found e q (inl p) = whole (cc)
      found e q (inr (r, n, p)) = let c = in_cutting (record { mem = m; write = e }) n in cut r c.0 c.1 (cc)

      go : (b : Bool) → is_write x ≡ b → New H x
      go true e = found e (rw e) (shortened_is x (cutting H x))
      go false e = whole (rw e)

  pub new_read : (x : Op) → is_write x ≡ false → new_finish H x ≡ 2 * x.finish
  unfolding new_finish
  new_read x e = rw e

  new_low : {w r : Op} → Reads H w r → r.finish < w.finish → new_finish H w ≤ 2 * r.finish - 1
  unfolding new_finish
  new_low {w} d l = rw d.by.write (shortened_low w (cutting H w) (cutting_in d l))

  pub new_le : (x : Op) → In x H → new_finish H x ≤ 2 * x.finish
  new_le x m = go (new x m)
    where
      go : New H x → new_finish H x ≤ 2 * x.finish
      go (whole e) = omega arith
      go (cut r d l e) = omega arith

  -- a read that does not finish below its write finishes above it, as stamps differ
  pub new_first : Timed H → (w r : Op) → Reads H w r → new_finish H w ≤ 2 * r.finish - 1
  new_first g w r d = go (dec_lt r.finish w.finish)
    where
      differ : w.finish ≡ r.finish → ⊥
      differ e = both d.by.write (ap is_write (g.ends w r d.by.mem d.mem e) ∙ d.read)

      go : Dec (r.finish < w.finish) → new_finish H w ≤ 2 * r.finish - 1
      go (yes l) = new_low d l
      go (no n) = omega (arith, n, differ, new_le w d.by.mem)
