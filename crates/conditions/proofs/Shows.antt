-- What the code looks at in a row is the row's condition.
-- Assumes nothing.
use Prim.Native.Nat.{ℕ, ◌≤◌, ◌<◌}
use mathlib.Core.Path.{◌≡◌, refl, sym, ap, ◌∙◌}
use mathlib.Core.Bool.{Bool, true, false, ◌&&◌}
use mathlib.Core.Logic.{◌⊎◌, inl, inr}
use mathlib.Core.List.{List, map, Memᴰ as In}
use native.Mathlib.Decide.{dec_lt}
use native.Mathlib.Nat.{eq-or-lt_of_le}
use native.Mathlib.Omega.{arith}
use borrow.Author.Tests.{lt-ltb, le-ltb, lt-leb}
use lib.Dec.{ltb}
use lib.ListN.{length, get_or}
use Rattle.std.specs.Prelude.{None}
use Rattle.lists.specs.Lists.{first, up_to}
use Rattle.lists.specs.Pairs.{Pairs}
use Rattle.lists.proofs.Tests.{both, told_same, told_as, told_and, told_ltb, told_leb, told_false, false_told}
use Rattle.lists.proofs.Maps.{in_map, map_in}
use Rattle.lists.proofs.Members.{nothing_none, first_ext, first_map}
use Rattle.lists.proofs.Ranges.{in_below, at_each}
use Rattle.lists.proofs.Images.{get_d_map, get_d_in, in_at, pairs_at}
use Rattle.history.specs.declared.Op.{Op}
use Rattle.history.specs.Table.{Dictates, Precedes, is_opening, is_read, is_write, op_at, precedes}
use Rattle.history.specs.Answer.{lowest_row}
use Rattle.history.specs.Screen.{wrong_kind, wrong_span, rewrites}
use Rattle.history.proofs.Operations.{told_flag, told_write, told_read, told_precedes}
use Rattle.history.proofs.Screened.{told_reopens, Repeats, told_rewrites, told_unwritten, told_early}
use Rattle.writers.specs.Writers.{seek, writes_at, writer_of, row_op}
use Rattle.writers.proofs.Seeking.{Seek, found, none, seek?, writes_is, is_writes}
use Rattle.conditions.specs.declared.RowTest.TheVariants.{Reopening, Twin, Orphan, Early}
use Rattle.conditions.specs.Tests.{condition, first_opening, shows, lowest_at, Quiet}

module _ (t rows : List ℕ) where
  abbrev n : ℕ
  n = length rows

  abbrev op : ℕ → Op
  op i = row_op t rows i

  abbrev h : List Op
  h = map (op_at t) rows

  op_in : (i : ℕ) → i < n → In (op i) h
  op_in i l = map_in (op_at t) (get_d_in rows 0 i l)

  -- an operation stands at a position
  op_at_lem : {o : Op} → In o h → (j : ℕ) × (j < n) × (o ≡ op j)
  op_at_lem m = let x = in_map (op_at t) rows m in let k = in_at 0 x.1 in (k.0, k.1, x.2 ∙ ap (op_at t) (sym k.2))

  -- the lowest position at which what is looked at holds is that of the lowest row whose operation meets the condition
  pub lowest_is : (p : ℕ → Bool) (q : Op → Bool) → ((i : ℕ) → i < n → p i ≡ q (op i)) → lowest_at p rows ≡ lowest_row q h
  unfolding op_at
  lowest_is p q e =
      first_ext p (λ i. q (op i)) (λ i. get_or rows i 0) (up_to n) (λ i m. e i (in_below n m))
      ∙ sym (first_map (λ i. get_or rows i 0) (λ x. x) (λ x. q (op_at t x)) (up_to n))
      ∙ ap (λ (l : List ℕ). first (λ x. x) (λ x. q (op_at t x)) l) (at_each rows)
      ∙ sym (first_map (op_at t) (λ o. o.row) q rows)

  module _ (rise : Pairs (λ x y. x < y) rows) where
    row_before : (j i : ℕ) → j < i → i < n → (op j).row < (op i).row
    unfolding op_at
    row_before j i l k = pairs_at 0 rise j i l k

    before_row : (j i : ℕ) → j < n → (op j).row < (op i).row → j < i
    before_row j i k l =
        elim (dec_lt j i) [
          | yes b ↦ b
          | no b ↦ absurd (not_behind (eq-or-lt_of_le (omega arith)))
        ]
      where
        not_behind : (i ≡ j) ⊎ (i < j) → ⊥
        not_behind (inl e) = omega (arith, ap (λ (x : ℕ). (op x).row) e)
        not_behind (inr b) = omega (arith, row_before i j b k)

    -- Test 20, by the position of the first opening.
    pub again_is : (column : List ℕ) (i : ℕ) → i < n → shows Reopening t rows column i ≡ condition Reopening h (op i)
    unfolding shows condition first_opening
    again_is column i l =
        told_same (told_as into back (told_and (told_flag (is_opening (op i))) (told_ltb k i))) (told_reopens h (op i))
      where
        P : ℕ → Bool
        P x = is_opening (op_at t x)

        k : ℕ
        k = seek P rows

        opens : k < n → Seek P rows k → is_opening (op k) ≡ true
        opens b (found q p out) = p
        opens b (none q out) = absurd (omega arith)

        no_later : (j : ℕ) → j < n → is_opening (op j) ≡ true → Seek P rows k → k ≤ j
        no_later j b e (found q p out) =
            elim (dec_lt j k) [
              | yes c ↦ absurd (both e (out j c))
              | no c ↦ omega arith
            ]
        no_later j b e (none q out) = absurd (both e (out (get_or rows j 0) (get_d_in rows 0 j b)))

        into : (is_opening (op i) ≡ true) × (k < i) → (is_opening (op i) ≡ true) × ((e : Op) × In e h × ((e.row < (op i).row) × (is_opening e ≡ true)))
        into (a, b) = (a, (op k, op_in k (omega arith), (row_before k i b l, opens (omega arith) (seek? P rows))))

        back : (is_opening (op i) ≡ true) × ((e : Op) × In e h × ((e.row < (op i).row) × (is_opening e ≡ true))) → (is_opening (op i) ≡ true) × (k < i)
        back (a, (e, m, r)) =
            let j = op_at_lem m in
            let q : ((op j.0).row < (op i).row) × (is_opening (op j.0) ≡ true) = rw j.2 at r in
            (a, omega (arith, before_row j.0 i j.1 q.0, no_later j.0 j.1 q.1 (seek? P rows)))

    -- Tests 7 to 9, by the position of each row's write.
    module _ (writer : List ℕ) (w : writer ≡ map (writer_of t rows) rows) where
      abbrev P : ℕ → ℕ → Bool
      P i = writes_at t (op i).value

      writer_at : (i : ℕ) → i < n → Seek (P i) rows (get_or writer i 0)
      writer_at i l = rw (w, get_d_map (writer_of t rows) rows i 0 0 l) (seek? (P i) rows)

      -- a write of the value, at or behind the first
      at_first : (i j k : ℕ) → j < n → is_write (op j) ≡ true → (op j).value ≡ (op i).value → Seek (P i) rows k → (k ≤ j) × (is_write (op k) ≡ true) × ((op k).value ≡ (op i).value)
      at_first i j k l a b (found q p out) =
          let u = writes_is (op i).value (op k) p in
          (not_before, u.0, u.1)
        where
          not_before : k ≤ j
          not_before =
              elim (dec_lt j k) [
                | yes c ↦ absurd (both (is_writes (op i).value (op j) a b) (out j c))
                | no c ↦ omega arith
              ]
      at_first i j k l a b (none q out) = absurd (both (is_writes (op i).value (op j) a b) (out (get_or rows j 0) (get_d_in rows 0 j l)))

      -- below the number of rows there is one
      inside_first : (i k : ℕ) → k < n → Seek (P i) rows k → (is_write (op k) ≡ true) × ((op k).value ≡ (op i).value)
      inside_first i k l (found q p out) = writes_is (op i).value (op k) p
      inside_first i k l (none q out) = absurd (omega arith)

      pub twin_is : (i : ℕ) → i < n → shows Twin t rows writer i ≡ condition Twin h (op i)
      unfolding shows condition
      twin_is i l = told_same (told_as into back (told_and (told_write (op i)) (told_ltb (get_or writer i 0) i))) (told_rewrites h (op i))
        where
          k : ℕ
          k = get_or writer i 0

          into : (is_write (op i) ≡ true) × (k < i) → (is_write (op i) ≡ true) × ((e : Op) × In e h × Repeats (op i) e)
          into (a, b) =
              let u = inside_first i k (omega arith) (writer_at i l) in
              (a, (op k, op_in k (omega arith), ((row_before k i b l, u.0), u.1)))

          back : (is_write (op i) ≡ true) × ((e : Op) × In e h × Repeats (op i) e) → (is_write (op i) ≡ true) × (k < i)
          back (a, (e, m, r)) =
              let j = op_at_lem m in
              let q : Repeats (op i) (op j.0) = rw j.2 at r in
              (a, omega (arith, before_row j.0 i j.1 q.0.0, (at_first i j.0 k j.1 q.0.1 q.1 (writer_at i l)).0))

      pub orphan_is : (i : ℕ) → i < n → shows Orphan t rows writer i ≡ condition Orphan h (op i)
      unfolding shows condition
      orphan_is i l = told_same (told_as into back (told_and (told_read (op i)) (told_leb n (get_or writer i 0)))) (told_unwritten h (op i))
        where
          k : ℕ
          k = get_or writer i 0

          into : ((op i).kind ≡ 2) × (n ≤ k) → ((op i).kind ≡ 2) × (((e : Op) × In e h × Dictates e (op i)) → ⊥)
          into (a, b) = (a, λ (e, m, d). let j = op_at_lem m in let q : Dictates (op j.0) (op i) = rw j.2 at d in omega (arith, j.1, (at_first i j.0 k j.1 q.writes q.same (writer_at i l)).0))

          back : ((op i).kind ≡ 2) × (((e : Op) × In e h × Dictates e (op i)) → ⊥) → ((op i).kind ≡ 2) × (n ≤ k)
          back (a, d) =
              elim (dec_lt k n) [
                | yes b ↦ let u = inside_first i k b (writer_at i l) in absurd (d (op k, op_in k b, record { writes = u.0; reads = a; same = u.1 }))
                | no b ↦ (a, omega arith)
              ]

      -- where no write repeats a value
      module _ (once : lowest_row (rewrites h) h ≡ None) where
        only : (j k : ℕ) → j < n → k < j → is_write (op j) ≡ true → is_write (op k) ≡ true → (op k).value ≡ (op j).value → ⊥
        only j k l b a c e =
            told_false (told_rewrites h (op j)) (nothing_none (λ o. o.row) (rewrites h) h once (op j) (op_in j l)) (a, (op k, op_in k (omega arith), ((row_before k j b l, c), e)))

        pub early_is : (i : ℕ) → i < n → shows Early t rows writer i ≡ condition Early h (op i)
        unfolding shows condition
        early_is i l =
            told_same
            (told_as into back (told_and (told_read (op i)) (told_and (told_ltb (get_or writer i 0) n) (told_precedes (op i) (op (get_or writer i 0))))))
            (told_early h (op i))
          where
            k : ℕ
            k = get_or writer i 0

            into : ((op i).kind ≡ 2) × ((k < n) × Precedes (op i) (op k)) → ((op i).kind ≡ 2) × ((e : Op) × In e h × (Dictates e (op i) × Precedes (op i) e))
            into (a, (b, p)) =
                let u = inside_first i k b (writer_at i l) in
                (a, (op k, op_in k b, (record { writes = u.0; reads = a; same = u.1 }, p)))

            at : (j : ℕ) → j < n → Dictates (op j) (op i) → Precedes (op i) (op j) → (k ≤ j) × (is_write (op k) ≡ true) × ((op k).value ≡ (op i).value) → (k < n) × Precedes (op i) (op k)
            at j b d p u =
                elim (dec_lt k j) [
                  | yes c ↦ absurd (only j k b c d.writes u.1 (u.2 ∙ sym d.same))
                  | no c ↦ let q : k ≡ j = omega arith in (omega arith, rw q p)
                ]

            back : ((op i).kind ≡ 2) × ((e : Op) × In e h × (Dictates e (op i) × Precedes (op i) e)) → ((op i).kind ≡ 2) × ((k < n) × Precedes (op i) (op k))
            back (a, (e, m, (d, p))) =
                let j = op_at_lem m in
                let x : Dictates (op j.0) (op i) = rw j.2 at d in
                (a, at j.0 j.1 x (rw j.2 at p) (at_first i j.0 k j.1 x.writes x.same (writer_at i l)))

-- a read is no write
read_write : (o : Op) → o.kind ≡ 2 → is_write o ≡ false
unfolding is_write is_opening
read_write o e = rw e

-- A row that shows no condition: of a write, and of another row.
and_false : (b : Bool) → (b && false) ≡ false
and_false true = refl
and_false false = refl

module _ (t rows writer : List ℕ) (i : ℕ) (kind : wrong_kind (row_op t rows i) ≡ false) (span : wrong_span (row_op t rows i) ≡ false)
    (again : (is_opening (row_op t rows i) && ltb (first_opening t rows) i) ≡ false) where
  pub quiet_write : is_write (row_op t rows i) ≡ true → i ≤ get_or writer i 0 → Quiet t rows writer i
  unfolding shows
  quiet_write e l =
      record {
        kind = λ c. kind;
        span = λ c. span;
        again = λ c. again;
        twin = rw (e, le-ltb (get_or writer i 0) i l);
        orphan = rw not_read;
        early = rw not_read;
      }
    where
      not_read : is_read (row_op t rows i) ≡ false
      not_read = false_told (told_read (row_op t rows i)) (λ r. both e (read_write (row_op t rows i) r))

  pub quiet_other : is_write (row_op t rows i) ≡ false → get_or writer i 0 < length rows → precedes (row_op t rows i) (row_op t rows (get_or writer i 0)) ≡ false → Quiet t rows writer i
  unfolding shows
  quiet_other e l p =
      record {
        kind = λ c. kind;
        span = λ c. span;
        again = λ c. again;
        twin = rw e;
        orphan = rw (lt-leb (length rows) (get_or writer i 0) l) (and_false (is_read (row_op t rows i)));
        early = rw (p, lt-ltb (get_or writer i 0) (length rows) l) (and_false (is_read (row_op t rows i)));
      }
