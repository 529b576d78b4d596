-- What follows from the cases: LBT and FZF agree, 1-atomic is 2-atomic, fewer operations stay fresh, a larger allowance alters only spent, and
-- 2W - 1 trials are always enough.
-- Assumes nothing.
use Prim.Native.Nat.{ℕ, ◌*◌, ◌-◌, ◌≤◌}
use mathlib.Core.Path.{◌≡◌, refl, sym, ◌∙◌}
use mathlib.Core.Logic.{◌⊎◌, inl, inr, ◌≢◌}
use mathlib.Core.Bool.{Bool, true}
use mathlib.Core.List.{List, Memᴰ as In}
use native.Mathlib.Omega.{arith}
use native.Mathlib.Decide.{dec_le}
use lib.ListN.{length}
use Rattle.lists.specs.Lists.{keep}
use Rattle.lists.proofs.Members.{in_keep, keep_in}
use Rattle.lists.proofs.Pairs.{pairs_keep}
use Rattle.history.specs.declared.Op.{Op}
use Rattle.history.specs.Table.{is_write, Dictates}
use Rattle.history.specs.Answer.{number}
use Rattle.history.specs.declared.Code.TheVariants.{Fresh, Spent, Stale}
use Rattle.history.specs.Screen.{Screened}
use Rattle.methods.specs.Place.{other_value, write_count}
use Rattle.methods.specs.Mark.{Outcome, k_of, mark_of}
use Rattle.witnesses.specs.Histories.{Reads}
use Rattle.witnesses.specs.Orders.{Orders}
use Rattle.witnesses.proofs.Parts.{witness_sub, Closed, proper_keep}
use Rattle.witnesses.proofs.Positions.{orders_witness, witness_orders}
use Rattle.witnesses.proofs.Runs.{orders_wider}
use Rattle.meaning.specs.Marked.{Passes, Enough, trials_of, Marked, is_refused, is_spent, is_stale, is_fresh}
use Rattle.preparation.specs.Claims.{RowsRise}
use Rattle.preparation.proofs.Timed.{kind_read, screened_proper}
use Rattle.meaning.proofs.Methods.{always_enough, enough}
use Rattle.meaning.proofs.Outcomes.{marked?, same_outcome, refused_same}

-- the code of a marking call over a register's operations
abbrev pub code : ℕ → List Op → ℕ → ℕ → List ℕ → ℕ
code size h question allowance list = (mark_of size h question allowance list).answer.code

-- What a fresh mark stands on: tests 1 to 10 are passed, the trials are allowed, and there is an order.
pub record FreshMark (size : ℕ) (h : List Op) (question allowance : ℕ) (list : List ℕ) : Type 0 where
  pub passes : Passes size h question list
  pub within : trials_of h question ≤ allowance
  pub order : List Op
  pub orders : Orders (k_of question) h order

module _ (size : ℕ) (h : List Op) (a : RowsRise h) where
  module _ (question allowance : ℕ) (list : List ℕ) where
    pub fresh_is : code size h question allowance list ≡ number Fresh → FreshMark size h question allowance list
    fresh_is e = go _ (marked? size h question list a allowance) e
      where
        go : (out : Outcome) → Marked size h question allowance list out → out.answer.code ≡ 0 → FreshMark size h question allowance list
        go out (is_refused n z l) c = absurd (z c)
        go out (is_spent p l) c = absurd (omega (arith, c))
        go out (is_stale p l n) c = absurd (omega (arith, c))
        go out (is_fresh {o = o} p l i) c = record { passes = p; within = l; order = o; orders = i }

    pub is_fresh_mark : FreshMark size h question allowance list → code size h question allowance list ≡ number Fresh
    is_fresh_mark f = go _ (marked? size h question list a allowance)
      where
        go : (out : Outcome) → Marked size h question allowance list out → out.answer.code ≡ 0
        go out (is_refused n z l) = absurd (n f.passes)
        go out (is_spent p l) = absurd (omega (arith, l, f.within))
        go out (is_stale p l n) = absurd (n f.order f.orders)
        go out (is_fresh p l i) = refl

    -- with the trials allowed, a call that passes tests 1 to 10 is marked fresh or stale
    settled : Passes size h question list → Enough h question allowance →
        (code size h question allowance list ≡ number Fresh) ⊎ (code size h question allowance list ≡ number Stale)
    settled p e = go _ (marked? size h question list a allowance)
      where
        go : (out : Outcome) → Marked size h question allowance list out → (out.answer.code ≡ 0) ⊎ (out.answer.code ≡ 12)
        go out (is_refused n z i) = absurd (n p)
        go out (is_spent r i) = absurd (omega (arith, i, enough p.screened a question e))
        go out (is_stale r i n) = inr refl
        go out (is_fresh r i k) = inl refl

    -- 2W - 1 TRIALS ARE ALWAYS ENOUGH.
    pub never_spent : 2 * write_count h - 1 ≤ allowance → code size h question allowance list ≢ number Spent
    never_spent l = go _ (marked? size h question list a allowance)
      where
        go : (out : Outcome) → Marked size h question allowance list out → out.answer.code ≢ 11
        go out (is_refused n z i) c = i.0 c
        go out (is_spent p i) c = omega (arith, l, i, always_enough p.screened a question)
        go out (is_stale p i n) c = omega (arith, c)
        go out (is_fresh p i k) c = omega (arith, c)

  module _ (list : List ℕ) where
    -- a fresh mark to a question r whose k is no smaller
    again : (q r n m : ℕ) → (r ≡ 1) ⊎ (r ≡ 2) ⊎ (r ≡ 3) → k_of q ≤ k_of r → Enough h r m → code size h q n list ≡ number Fresh →
        code size h r m list ≡ number Fresh
    again q r n m asked w e c =
        let f = fresh_is q n list c in
        is_fresh_mark r m list
        (record {
          passes = record { screened = f.passes.screened; asked = asked; room = f.passes.room };
          within = enough f.passes.screened a r e;
          order = f.order;
          orders = orders_wider w f.orders;
        })

    -- LBT AND FZF AGREE, given the allowance, on every call that passes tests 1 to 10.
    pub agree : (n m : ℕ) → Passes size h 2 list → Enough h 2 n → code size h 2 n list ≡ code size h 3 m list
    agree n m p e =
        go
        (settled 2 n list p e)
        (settled 3 m list (record { screened = p.screened; asked = inr (inr refl); room = p.room }) unlimited)
      where
        unlimited : Enough h 3 m
        unlimited c = absurd (omega (arith, c))

        go : (code size h 2 n list ≡ 0) ⊎ (code size h 2 n list ≡ 12) → (code size h 3 m list ≡ 0) ⊎ (code size h 3 m list ≡ 12) →
            code size h 2 n list ≡ code size h 3 m list
        go (inl c) (inl d) = c ∙ sym d
        go (inl c) (inr d) = absurd (omega (arith, d, again 2 3 n m (inr (inr refl)) (omega arith) unlimited c))
        go (inr c) (inl d) = absurd (omega (arith, c, again 3 2 m n (inr (inl refl)) (omega arith) e d))
        go (inr c) (inr d) = c ∙ sym d

    -- FRESH UNDER QUESTION 1 IS FRESH UNDER 2 AND 3.
    pub one_lbt : (n m : ℕ) → Enough h 2 m → code size h 1 n list ≡ number Fresh → code size h 2 m list ≡ number Fresh
    one_lbt n m e c = again 1 2 n m (inr (inl refl)) (omega arith) e c

    pub one_fzf : (n m : ℕ) → code size h 1 n list ≡ number Fresh → code size h 3 m list ≡ number Fresh
    one_fzf n m c = again 1 3 n m (inr (inr refl)) (omega arith) (λ e. absurd (omega (arith, e))) c

-- A LARGER ALLOWANCE ALTERS NO OUTCOME BUT SPENT.
pub larger : (size : ℕ) (h : List Op) (question n m : ℕ) (list : List ℕ) → n ≤ m → code size h question n list ≢ number Spent →
    mark_of size h question n list ≡ mark_of size h question m list
larger size h question n m list l c = go (dec_le (trials_of h question) n)
  where
    go : Dec (trials_of h question ≤ n) → mark_of size h question n list ≡ mark_of size h question m list
    go (yes i) = same_outcome size h question list i (omega (arith, i, l))
    go (no i) = refused_same size h question list m (omega (arith, i)) c

-- FEWER OPERATIONS STAY FRESH: a test p keeps with each read its write.
screened_keep : {size : ℕ} {h : List Op} (p : Op → Bool) → Closed p h → Screened size h → Screened size (keep p h)
screened_keep {h = h} p c s =
    record {
      whole = s.whole;
      few = s.few;
      kinds = λ o m. s.kinds o (sub o m);
      spans = λ o m. s.spans o (sub o m);
      openings = λ x y m n. s.openings x y (sub x m) (sub y n);
      values = λ x y m n. s.values x y (sub x m) (sub y n);
      written = λ r m k. let (w, i, d) = s.written r (sub r m) k in (w, keep_in p h i (c w r (dictated w r i (sub r m) d) (in_keep p h m).1), d);
      timely = λ w r m n. s.timely w r (sub w m) (sub r n);
    }
  where
    sub : (x : Op) → In x (keep p h) → In x h
    sub x m = (in_keep p h m).0

    dictated : (w r : Op) → In w h → In r h → Dictates w r → Reads h w r
    dictated w r i j d =
        record { by = record { mem = i; write = d.writes }; mem = j; read = kind_read r d.reads; same = d.same }

module _ (size : ℕ) (h : List Op) (a : RowsRise h) (p : Op → Bool) (c : Closed p h) where
  pub fewer_fresh : (question n m : ℕ) (list after : List ℕ) → length (keep p h) ≤ length after → Enough (keep p h) question m →
      code size h question n list ≡ number Fresh → code size (keep p h) question m after ≡ number Fresh
  fewer_fresh question n m list after l e d =
      let f = fresh_is size h a question n list d in
      let s = screened_keep p c f.passes.screened in
      let g = screened_proper f.passes.screened a in
      is_fresh_mark size (keep p h) (pairs_keep p a) question m after
      (record {
        passes = record { screened = s; asked = f.passes.asked; room = l };
        within = enough s (pairs_keep p a) question e;
        order = _;
        orders = witness_orders (proper_keep p c g) (witness_sub (λ x i. (in_keep p h i).0) (orders_witness g f.orders));
      })

-- such tests: one that drops some reads, and one that drops a write with all its reads
pub without_reads : {h : List Op} (p : Op → Bool) → ((w : Op) → is_write w ≡ true → p w ≡ true) → Closed p h
without_reads p f w r d e = f w d.by.write

pub without_write : {h : List Op} (v : Op) → Closed (other_value v) h
without_write v w r d e = rw d.same e
