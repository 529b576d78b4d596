-- Runs: how they join, and that a list runs from no values if and only if each read has, before it, a write of its value with fewer than k
-- writes between: the paper's words (000, section II.B).
-- Assumes nothing.
use Prim.Native.Nat.{ℕ, zero, suc, ◌+◌, ◌≤◌, ◌<◌}
use mathlib.Core.Path.{◌≡◌, refl, sym, ap}
use mathlib.Core.Logic.{◌⊎◌, inl, inr}
use mathlib.Core.Bool.{Bool, true, false, cond}
use mathlib.Core.List.Memᴰ.{head as here}
use mathlib.Core.List.Memᴰ.{tail as there}
use mathlib.Core.List.{List, [], ◌∷◌, ◌++◌, Memᴰ as In}
use native.Mathlib.Omega.{arith}
use lib.ListN.{take}
use Rattle.lists.specs.Lists.{put, keep}
use Rattle.lists.proofs.Tests.{test, both}
use Rattle.history.specs.declared.Op.{Op}
use Rattle.history.specs.Table.{is_write}
use Rattle.methods.specs.Place.{write_count}
use Rattle.witnesses.specs.Orders.{Runs, run_nil, run_write, run_read, Orders}

pub run_append : {k : ℕ} {s m e : List ℕ} {a b : List Op} → Runs k s a m → Runs k m b e → Runs k s (a ++ b) e
run_append run_nil r = r
run_append (run_write w t) r = run_write w (run_append t r)
run_append (run_read d i t) r = run_read d i (run_append t r)

pub run_reads : {k : ℕ} {s : List ℕ} (l : List Op) → ((x : Op) → In x l → (is_write x ≡ false) × In x.value (take k s)) → Runs k s l s
run_reads [] h = run_nil
run_reads (x ∷ l) h = let a = h x (here refl) in run_read a.0 a.1 (run_reads l (λ y m. h y (there m)))

take_mono : (i k : ℕ) (s : List ℕ) {v : ℕ} → i ≤ k → In v (take i s) → In v (take k s)
take_mono (suc i) zero s h m = absurd (omega arith)
take_mono (suc i) (suc k) (x ∷ s) h (here e) = here e
take_mono (suc i) (suc k) (x ∷ s) h (there m) = there (take_mono i k s (omega arith) m)
take_mono zero k s {v = v} h m = elim m [ ]
take_mono (suc i) (suc k) [] {v = v} h m = elim m [ ]

-- what keeps each read within j keeps it within more
runs_wider : {j k : ℕ} {s e : List ℕ} {l : List Op} → j ≤ k → Runs j s l e → Runs k s l e
runs_wider h run_nil = run_nil
runs_wider h (run_write w t) = run_write w (runs_wider h t)
runs_wider {j} {k} {s} h (run_read d i t) = run_read d (take_mono j k s h i) (runs_wider h t)

pub orders_wider : {j k : ℕ} {H o : List Op} → j ≤ k → Orders j H o → Orders k H o
orders_wider l h = record { from = h.from; into = h.into; pairs = h.pairs; passed = h.passed; runs = runs_wider l h.runs }

-- a holds a write of the value v, with fewer than k writes behind it
pub record Near (k : ℕ) (a : List Op) (v : ℕ) : Type 0 where
  pub front : List Op
  pub by : Op
  pub back : List Op
  pub split : a ≡ front ++ (by ∷ back)
  pub write : is_write by ≡ true
  pub same : by.value ≡ v
  pub few : write_count back < k

-- each read of o comes within k
abbrev pub AllNear : ℕ → List Op → Type 0
AllNear k o = (a : List Op) (r : Op) (c : List Op) → o ≡ a ++ (r ∷ c) → is_write r ≡ false → Near k a r.value

-- the values of the writes passed, last first
unfoldable pub passed : List Op → List ℕ → List ℕ
passed [] s = s
passed (x ∷ l) s = passed l (cond (is_write x) (x.value ∷ s) s)

count_write : (x : Op) (l : List Op) → is_write x ≡ true → write_count (x ∷ l) ≡ suc (write_count l)
unfolding keep put
count_write x l e = rw e

count_read : (x : Op) (l : List Op) → is_write x ≡ false → write_count (x ∷ l) ≡ write_count l
unfolding keep put
count_read x l e = rw e

-- From the list to the words.

run_seen : {k : ℕ} (r : Op) (c a : List Op) {s e : List ℕ} → Runs k s (a ++ (r ∷ c)) e → is_write r ≡ false → In r.value (take k (passed a s))
unfolding passed
run_seen r c [] (run_write w t) d = absurd (both w d)
run_seen r c [] (run_read n i t) d = i
run_seen r c (x ∷ a) (run_write w t) d = rw w (run_seen r c a t d)
run_seen r c (x ∷ a) (run_read n i t) d = rw n (run_seen r c a t d)

abbrev Deep : ℕ → List Op → List ℕ → ℕ → Type 0
Deep k a s v = Near k a v ⊎ ((j : ℕ) × In v (take j s) × (j + write_count a ≤ k))

seen_within : (k : ℕ) (a : List Op) (s : List ℕ) (v : ℕ) → In v (take k (passed a s)) → Deep k a s v
unfolding passed keep
seen_within k [] s v m = inr (k, m, omega arith)
seen_within k (x ∷ a) s v m = go (test (is_write x)) (λ t. seen_within k a t v)
  where
    on : {t : List ℕ} → ((j : ℕ) → In v (take j t) → j + write_count a ≤ k → Deep k (x ∷ a) s v) → Deep k a t v → Deep k (x ∷ a) s v
    on u (inl i) =
        inl (record { front = x ∷ i.front; by = i.by; back = i.back; split = ap (λ l. x ∷ l) i.split; write = i.write; same = i.same; few = i.few })
    on u (inr i) = u i.0 i.1 i.2

    new : is_write x ≡ true → (j : ℕ) → In v (take j (x.value ∷ s)) → j + write_count a ≤ k → Deep k (x ∷ a) s v
    new e (suc j) (here q) h = inl (record { front = []; by = x; back = a; split = refl; write = e; same = sym q; few = omega arith })
    new e (suc j) (there n) h = inr (j, n, omega (arith, count_write x a e))
    new e zero x4 h = elim x4 [ ]

    go : (is_write x ≡ true) ⊎ (is_write x ≡ false) → ((t : List ℕ) → In v (take k (passed a t)) → Deep k a t v) → Deep k (x ∷ a) s v
    go (inl e) ih = on (new e) (ih (x.value ∷ s) (rw e at m))
    go (inr e) ih = on (λ j n h. inr (j, n, omega (arith, count_read x a e))) (ih s (rw e at m))

pub runs_near : {k : ℕ} {o : List Op} {e : List ℕ} → Runs k [] o e → AllNear k o
runs_near {k} h a r c q d = go (seen_within k a [] r.value (run_seen r c a (rw q at h) d))
  where
    none : (j : ℕ) → In r.value (take j []) → ⊥
    none zero m = elim m [ ]
    none (suc j) m = elim m [ ]

    go : Deep k a [] r.value → Near k a r.value
    go (inl i) = i
    go (inr i) = absurd (none i.0 i.1)

-- From the words to the list.

passed_append : (a b : List Op) (s : List ℕ) → passed (a ++ b) s ≡ passed b (passed a s)
unfolding passed
passed_append [] b s = refl
passed_append (x ∷ a) b s = passed_append a b _

-- a value sinks by one with each write
sinks : (d : List Op) (i : ℕ) (s : List ℕ) {v : ℕ} → In v (take i s) → In v (take (i + write_count d) (passed d s))
unfolding passed keep
sinks [] i s m = take_mono i (i + 0) s (omega arith) m
sinks (x ∷ d) i s {v} m = go (is_write x) refl (λ j t. sinks d j t)
  where
    go : (b : Bool) → is_write x ≡ b → ((j : ℕ) (t : List ℕ) → In v (take j t) → In v (take (j + write_count d) (passed d t))) →
        In v (take (i + write_count (x ∷ d)) (passed d (cond b (x.value ∷ s) s)))
    go true e ih = take_mono (suc i + write_count d) (i + write_count (x ∷ d)) _ (omega (arith, count_write x d e)) (ih (suc i) (x.value ∷ s) (there m))
    go false e ih = take_mono (i + write_count d) (i + write_count (x ∷ d)) _ (omega (arith, count_read x d e)) (ih i s m)

within_seen : {k : ℕ} {a : List Op} {v : ℕ} (s : List ℕ) → Near k a v → In v (take k (passed a s))
unfolding passed
within_seen {k} s w =
    rw (w.split, passed_append w.front (w.by ∷ w.back) s, w.write)
    (take_mono (1 + write_count w.back) k _ (omega (arith, w.few)) (sinks w.back 1 _ (here (sym w.same))))

-- each read has its value among the last k passed
abbrev Seen : ℕ → List ℕ → List Op → Type 0
Seen k s l = (a : List Op) (r : Op) (c : List Op) → l ≡ a ++ (r ∷ c) → is_write r ≡ false → In r.value (take k (passed a s))

seen_runs : (k : ℕ) (s : List ℕ) (l : List Op) → Seen k s l → Runs k s l (passed l s)
unfolding passed
seen_runs k s [] h = run_nil
seen_runs k s (x ∷ l) h = go (is_write x) refl (λ t. seen_runs k t l)
  where
    go : (b : Bool) → is_write x ≡ b → ((t : List ℕ) → Seen k t l → Runs k t l (passed l t)) → Runs k s (x ∷ l) (passed l (cond b (x.value ∷ s) s))
    go true e ih = run_write e (ih (x.value ∷ s) (λ a r c q d. rw e at (h (x ∷ a) r c (ap (λ u. x ∷ u) q) d)))
    go false e ih = run_read e (h [] x l refl e) (ih s (λ a r c q d. rw e at (h (x ∷ a) r c (ap (λ u. x ∷ u) q) d)))

pub near_runs : {k : ℕ} (o : List Op) → AllNear k o → Runs k [] o (passed o [])
near_runs {k} o h = seen_runs k [] o (λ a r c q d. within_seen [] (h a r c q d))
