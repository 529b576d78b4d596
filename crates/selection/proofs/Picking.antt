-- The pass over the records: the head of a record as one number, and what one record more does to the places that are kept.
-- Assumes nothing.
use Prim.Native.Nat.{ℕ, ◌+◌, ◌*◌, ◌^◌, ◌≤◌, ◌<◌}
use mathlib.Core.Path.{◌≡◌, refl, sym, ap, ◌∙◌}
use mathlib.Core.Logic.{◌⊎◌, inl, inr, ◌≢◌}
use mathlib.Core.Bool.{Bool, true, false, cond, not, ◌&&◌, ◌||◌}
use mathlib.Core.List.{List, [], ◌∷◌, ◌++◌, map, append-nil}
use native.Mathlib.Nat.{eq-or-lt_of_le}
use native.Mathlib.Numerals.{add-one}
use native.Mathlib.Omega.{arith}
use borrow.Author.Tests.{not-false, eqb-true, eqb-false, eq-eqb, leb-true, leb-false, lt-leb}
use lib.Dec.{leb, eqb}
use lib.ListN.{length, length-map, take, set, length-set}
use lib.Seq.{take-suc-set, length-take-le}
use Rattle.lists.specs.Lists.{from, put, keep, up_to}
use Rattle.lists.proofs.Tests.{Told, holds, fails, both, or_false, told_true, true_told, false_told, told_and, told_or, told_eqb, told_leb}
use Rattle.lists.proofs.Images.{keep_append, map_append}
use Rattle.lists.proofs.Ranges.{up_to_more}
use Rattle.history.specs.declared.Op.{Op}
use Rattle.history.specs.Table.{largest_count, operation, is_opening, is_write, is_read}
use Rattle.history.specs.Screen.{wrong_kind}
use Rattle.records.specs.Records.{field, body_length, next, begun, offset, record_from, Stands}
use Rattle.records.proofs.Offsets.{walked_none, walked_in, walked_here, walked_more, walked_end}
use Rattle.records.proofs.Records.{least_length}
use Rattle.files.specs.Files.{Whole, left, mismatched}
use Rattle.selection.specs.Selected.{is_sound, head_at, plain, extent_at, step_at, extent_by, is_of, records_of, Picked, Picking}

-- The lengths and kinds that go together.
abbrev Goes : ℕ → ℕ → Type 0
Goes size kind = ((size ≡ 34) × ((kind ≡ 1) ⊎ (kind ≡ 2))) ⊎ ((size ≡ 18) × (kind ≡ 3))

module _ (size : ℕ) (o : Op) where
  fits_goes : mismatched size o ≡ false → Goes size o.kind
  unfolding mismatched wrong_kind is_write is_opening is_read
  fits_goes e =
      let f = or_false (wrong_kind o) (not (eqb size (body_length o.kind))) e in
      let same : size ≡ body_length o.kind = eqb-true size (body_length o.kind) (not-false _ f.1) in
      go same (told_true (told_or (told_or (told_eqb o.kind 1) (told_eqb o.kind 3)) (told_eqb o.kind 2)) (not-false (is_write o || is_read o) f.0))
    where
      go : size ≡ body_length o.kind → ((o.kind ≡ 1) ⊎ (o.kind ≡ 3)) ⊎ (o.kind ≡ 2) → Goes size o.kind
      go s (inl (inl k)) = inl (s ∙ rw k refl, inl k)
      go s (inl (inr k)) = inr (s ∙ rw k refl, k)
      go s (inr k) = inl (s ∙ rw k refl, inr k)

  goes_fits : Goes size o.kind → mismatched size o ≡ false
  unfolding mismatched wrong_kind is_write is_opening is_read
  goes_fits (inl (s, inl k)) = rw (k, s) refl
  goes_fits (inl (s, inr k)) = rw (k, s) refl
  goes_fits (inr (s, k)) = rw (k, s) refl

  told_goes : Told (Goes size o.kind) (not (mismatched size o))
  told_goes = go (mismatched size o) refl
    where
      go : (b : Bool) → mismatched size o ≡ b → Told (Goes size o.kind) (not b)
      go true e = fails (λ g. both e (goes_fits g))
      go false e = holds (fits_goes e)

  -- the head as one number
  module _ (head : ℕ) (h : head ≡ o.kind + 65536 * size) (small : o.kind < 256 ^ 2) where
    pub head_extent : extent_by head ≡ cond (not (mismatched size o)) (2 + size) 0
    unfolding extent_by plain
    head_extent = go (eqb head 2228225) (eqb head 2228226) (eqb head 1179651) refl refl refl
      where
        known : (n : ℕ) → size ≡ n → Goes size o.kind → 2 + n ≡ cond (not (mismatched size o)) (2 + size) 0
        known n s g = rw (goes_fits g) (ap (λ (k : ℕ). 2 + k) (sym s))

        none : head ≢ 2228225 → head ≢ 2228226 → head ≢ 1179651 → Goes size o.kind → ⊥
        none a b c (inl (s, inl k)) = a (omega (arith, h))
        none a b c (inl (s, inr k)) = b (omega (arith, h))
        none a b c (inr (s, k)) = c (omega (arith, h))

        go : (a b c : Bool) → eqb head 2228225 ≡ a → eqb head 2228226 ≡ b → eqb head 1179651 ≡ c → cond (a || b) 36 (cond c 20 0) ≡ cond (not (mismatched size o)) (2 + size) 0
        go true b c p q r =
            let e = eqb-true head 2228225 p in
            let k : o.kind ≡ 1 = omega (arith, h, small) in
            let s : size ≡ 34 = omega (arith, h, small) in
            known 34 s (inl (s, inl k))
        go false true c p q r =
            let e = eqb-true head 2228226 q in
            let k : o.kind ≡ 2 = omega (arith, h, small) in
            let s : size ≡ 34 = omega (arith, h, small) in
            known 34 s (inl (s, inr k))
        go false false true p q r =
            let e = eqb-true head 1179651 r in
            let k : o.kind ≡ 3 = omega (arith, h, small) in
            let s : size ≡ 18 = omega (arith, h, small) in
            known 18 s (inr (s, k))
        go false false false p q r =
            let f : not (mismatched size o) ≡ false = false_told told_goes (none (eqb-false head 2228225 p) (eqb-false head 2228226 q) (eqb-false head 1179651 r)) in
            rw f

module _ (bs : List ℕ) (at : ℕ) where
  abbrev size : ℕ
  size = field bs at 2

  abbrev op : Op
  op = operation (record_from bs at) 0

  abbrev fit : Bool
  fit = not (mismatched size op)

  -- what a sound record is
  told_sound : Told (Goes size op.kind × (2 + size ≤ left bs at)) (is_sound bs at)
  unfolding is_sound
  told_sound = told_and (told_goes size op) (told_leb (2 + size) (left bs at))

  least : Goes size op.kind → 18 ≤ size
  least (inl (s, k)) = omega arith
  least (inr (s, k)) = omega arith

  -- its extent, as the code finds it
  pub extent_short : left bs at < 20 → 0 ≡ extent_at bs at
  unfolding extent_at
  extent_short h = rw (false_told told_sound (λ s. omega (arith, least s.0, s.1)))

  module _ (r : ℕ) (e : r ≡ cond fit (2 + size) 0) where
    by_fit : (b : Bool) → r ≡ cond b (2 + size) 0 → left bs at < r → 2 + size ≤ left bs at → ⊥
    by_fit true q h k = omega arith
    by_fit false q h k = omega arith

    pub extent_cut : left bs at < r → 0 ≡ extent_at bs at
    unfolding extent_at
    extent_cut h = rw (false_told told_sound (λ s. by_fit fit e h s.1))

    pub extent_whole : r ≤ left bs at → r ≡ extent_at bs at
    unfolding extent_at is_sound
    extent_whole h = go fit e
      where
        go : (b : Bool) → r ≡ cond b (2 + size) 0 → r ≡ cond (b && leb (2 + size) (left bs at)) (2 + size) 0
        go true q = let l : leb (2 + size) (left bs at) ≡ true = true_told (told_leb (2 + size) (left bs at)) (omega arith) in rw l q
        go false q = q

  -- a sound record stands and is of a right kind, and the other way round
  module _ (s : is_sound bs at ≡ true) where
    pub sound_extent : extent_at bs at ≡ 2 + size
    unfolding extent_at
    sound_extent = rw s

    sound_fit : mismatched size op ≡ false
    sound_fit = goes_fits size op (told_true told_sound s).0

    pub sound_stands : Stands bs at
    unfolding mismatched record_from
    sound_stands =
        let kind = field bs (at + 2) 2 in
        let same : size ≡ body_length kind = eqb-true size (body_length kind) (not-false _ (or_false (wrong_kind op) (not (eqb size (body_length kind))) sound_fit).1) in
        record { size = same; whole = omega (arith, same, (told_true told_sound s).1, least (told_true told_sound s).0) }

    pub sound_kind : (n : ℕ) → wrong_kind (operation (record_from bs at) n) ≡ false
    unfolding mismatched wrong_kind is_write is_opening is_read
    sound_kind n = (or_false (wrong_kind op) (not (eqb size (body_length op.kind))) sound_fit).0

  pub stands_sound : (n : ℕ) → Stands bs at → wrong_kind (operation (record_from bs at) n) ≡ false → is_sound bs at ≡ true
  unfolding mismatched wrong_kind is_write is_opening is_read record_from
  stands_sound n s k =
      let kind = field bs (at + 2) 2 in
      let f : mismatched size op ≡ false = rw k (ap not (eq-eqb size (body_length kind) s.size)) in
      true_told told_sound (fits_goes size op f, omega (arith, s.whole, s.size))

  -- some record is sound or its extent is 0
  pub extent_sound : extent_at bs at ≢ 0 → is_sound bs at ≡ true
  unfolding extent_at
  extent_sound n = go (is_sound bs at) n
    where
      go : (b : Bool) → cond b (2 + size) 0 ≢ 0 → b ≡ true
      go true n = refl
      go false n = absurd (n refl)

-- a record of 36 bytes with such a head is sound
pub plain_extent : (bs : List ℕ) (at : ℕ) → field bs (at + 2) 2 < 256 ^ 2 → plain (head_at bs at) ≡ true → at + 36 ≤ length bs → 36 ≡ extent_at bs at
unfolding record_from extent_by
plain_extent bs at small p h =
    let by : extent_by (head_at bs at) ≡ 36 = rw p in
    extent_whole bs at 36 (sym by ∙ head_extent (field bs at 2) (operation (record_from bs at) 0) (head_at bs at) refl small) (omega arith)

module _ (bs : List ℕ) (register : ℕ) where
  abbrev places : ℕ → List ℕ
  places i = map (offset bs) (keep (is_of bs register) (up_to i))

  pub pick_none : (picks : List ℕ) → length picks ≡ largest_count → Picking bs register 0 0 0 picks
  unfolding keep from
  pick_none picks l =
      record { few = omega arith; most = omega arith; near = omega arith; inside = omega arith; long = l; walked = walked_none bs; sound = λ j l. absurd (omega arith); front = refl }

  module _ (i at m : ℕ) (picks : List ℕ) (g : Picking bs register i at m picks) where
    module _ (h : at < length bs) where
      among : i < begun bs
      among = walked_in bs i at g.walked h (omega (arith, g.most))

      here : offset bs i ≡ at
      here = walked_here bs i at g.walked h (omega (arith, g.most))

      -- a file with an unsound record is refused, and so is one with a 1,025th
      unsound : extent_at bs at ≡ 0 → Whole bs → ⊥
      unsound e w =
          let s : is_sound bs (offset bs i) ≡ true = stands_sound bs (offset bs i) i (w.stands i among) (w.kinds i among) in
          let t : is_sound bs at ≡ true = rw here at s in
          omega (arith, e, sound_extent bs at t)

      overfull : 1024 ≤ i → Whole bs → ⊥
      overfull k w = omega (arith, w.few, among)

      pub no_step : step_at bs i at ≡ 0 → Whole bs → ⊥
      unfolding step_at
      no_step = go (leb 1024 i) refl
        where
          go : (b : Bool) → leb 1024 i ≡ b → cond b 0 (extent_at bs at) ≡ 0 → Whole bs → ⊥
          go true l z = overfull (leb-true 1024 i l)
          go false l z = unsound z

      module _ (size : ℕ) (step : size ≡ step_at bs i at) (n : size ≢ 0) where
        stepped : (i < 1024) × (size ≡ extent_at bs at)
        unfolding step_at
        stepped = go (leb 1024 i) refl step
          where
            go : (b : Bool) → leb 1024 i ≡ b → size ≡ cond b 0 (extent_at bs at) → (i < 1024) × (size ≡ extent_at bs at)
            go true l q = absurd (n q)
            go false l q = (leb-false 1024 i l, q)

        pub pick_few : i < 1024
        pick_few = stepped.0

        e : size ≡ extent_at bs at
        e = stepped.1

        is_sound_lem : is_sound bs at ≡ true
        is_sound_lem = extent_sound bs at (λ z. n (e ∙ z))

        pub picks_in : at + 20 ≤ length bs
        picks_in = omega (arith, (sound_stands bs at is_sound_lem).whole, least_length (field bs (at + 2) 2))

        ahead : at + size ≡ next bs at
        ahead = ap (λ (x : ℕ). at + x) (e ∙ sound_extent bs at is_sound_lem)

        pub pick_size : size ≤ 36
        pick_size = go (told_true (told_sound bs at) is_sound_lem).0
          where
            go : Goes (field bs at 2) (operation (record_from bs at) 0).kind → size ≤ 36
            go (inl (s, q)) = omega (arith, e, sound_extent bs at is_sound_lem)
            go (inr (s, q)) = omega (arith, e, sound_extent bs at is_sound_lem)

        pick_within : next bs at ≤ length bs
        pick_within = let s = sound_stands bs at is_sound_lem in omega (arith, s.whole, s.size)

        keep_more : places (i + 1) ≡ places i ++ map (offset bs) (put (is_of bs register i) i [])
        unfolding keep
        keep_more = rw (up_to_more i, keep_append (is_of bs register) (up_to i) (i ∷ [])) (map_append (offset bs) (keep (is_of bs register) (up_to i)) (put (is_of bs register i) i []))

        sound_more : (j : ℕ) → j < i + 1 → is_sound bs (offset bs j) ≡ true
        sound_more j l = each (eq-or-lt_of_le (omega arith))
          where
            each : (j ≡ i) ⊎ (j < i) → is_sound bs (offset bs j) ≡ true
            each (inl q) = rw (q, here) is_sound_lem
            each (inr l) = g.sound j l

        of_here : (b : Bool) → eqb (record_from bs at).register register ≡ b → is_of bs register i ≡ b
        unfolding is_of
        of_here b q = ap (λ (o : ℕ). eqb (record_from bs o).register register) here ∙ q

        pub pick_out : eqb (record_from bs at).register register ≡ false → Picking bs register (i + 1) (at + size) m picks
        unfolding put
        pick_out q =
            record {
              few = omega (arith, g.few);
              most = omega (arith, pick_few);
              near = omega (arith, g.near, pick_size);
              inside = rw ahead pick_within;
              long = g.long;
              walked = rw ahead (walked_more bs i at g.walked h (omega (arith, pick_few)));
              sound = sound_more;
              front = g.front ∙ sym (keep_more ∙ rw (of_here false q) (append-nil (places i)));
            }

        pub pick_in : eqb (record_from bs at).register register ≡ true → Picking bs register (i + 1) (at + size) (m + 1) (set picks m at)
        unfolding put
        pick_in q =
            record {
              few = omega (arith, g.few);
              most = omega (arith, pick_few);
              near = omega (arith, g.near, pick_size);
              inside = rw ahead pick_within;
              long = length-set picks m at ∙ g.long;
              walked = rw ahead (walked_more bs i at g.walked h (omega (arith, pick_few)));
              sound = sound_more;
              front =
                  rw (add-one m) (take-suc-set picks m at (omega (arith, g.few, g.long, pick_few)))
                  ∙ ap (λ (z : List ℕ). z ++ (at ∷ [])) g.front
                  ∙ sym (keep_more ∙ rw (of_here true q, here));
            }

    pub pick_end : length bs ≤ at → Picked bs register picks m
    unfolding records_of
    pick_end h =
        record {
          whole =
              record {
                few = omega (arith, all, g.most);
                stands = λ j l. sound_stands bs (offset bs j) (g.sound j (omega (arith, all)));
                kinds = λ j l. sound_kind bs (offset bs j) (g.sound j (omega (arith, all))) j;
              };
          count = sym (length-take-le m picks (omega (arith, g.long, g.few, g.most))) ∙ ap length whole ∙ length-map (keep (is_of bs register) (up_to (begun bs))) (offset bs);
          front = whole;
        }
      where
        all : i ≡ begun bs
        all = walked_end bs i at g.walked h

        whole : take m picks ≡ map (offset bs) (keep (is_of bs register) (up_to (begun bs)))
        whole = g.front ∙ ap places all

-- and the pass goes past it
pub plain_step : (bs : List ℕ) (i at : ℕ) → i < 1024 → field bs (at + 2) 2 < 256 ^ 2 → plain (head_at bs at) ≡ true → at + 36 ≤ length bs → 36 ≡ step_at bs i at
unfolding step_at
plain_step bs i at few small p h = rw (lt-leb 1024 i few) (plain_extent bs at small p h)
