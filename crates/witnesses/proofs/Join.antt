-- The joining lemma: orders of parts, put one behind the other, are an order of the whole where what is in an earlier part may stand before
-- what is in a later one. The zone method and FZF both rest on it.
-- Assumes nothing.
use Prim.Native.Nat.{ℕ, suc}
use mathlib.Core.List.Memᴰ.{head as here}
use mathlib.Core.List.Memᴰ.{tail as there}
use mathlib.Core.List.{List, [], ◌∷◌, ◌++◌, flat_map, Memᴰ as In}
use mathlib.Core.Path.{refl}
use lib.ListN.{take}
use Rattle.lists.specs.Pairs.{Pairs, nil, cons}
use Rattle.lists.proofs.Maps.{in_flat, flat_in}
use Rattle.lists.proofs.Pairs.{pairs_append}
use Rattle.history.specs.declared.Op.{Op}
use Rattle.witnesses.specs.Orders.{Before, Runs, run_nil, run_write, run_read, Orders}
use Rattle.witnesses.proofs.Runs.{run_append}

-- What runs from no values runs from any.

take_more : (k : ℕ) (s t : List ℕ) {a : ℕ} → In a (take k s) → In a (take k (s ++ t))
take_more (suc k) (x ∷ s) t (here e) = here e
take_more (suc k) (x ∷ s) t (there m) = there (take_more k s t m)
take_more Prim.Native.Nat.zero s t {a = a} x' = elim x' [ ]
take_more (suc k) [] t {a = a} x3 = elim x3 [ ]

run_more : {k : ℕ} {s e : List ℕ} {l : List Op} (t : List ℕ) → Runs k s l e → Runs k (s ++ t) l (e ++ t)
run_more t run_nil = run_nil
run_more t (run_write w r) = run_write w (run_more t r)
run_more {k} {s} t (run_read n i r) = run_read n (take_more k s t i) (run_more t r)

module _ {A : Type 0} (ops ord : A → List Op) where
  -- what is in the part a may stand before what is in the part b
  abbrev pub Follows : A → A → Type 0
  Follows a b = (x y : Op) → In x (ops a) → In y (ops b) → Before x y

  module _ {k : ℕ} where
    -- the joined orders keep precedence, and have no row twice
    pub join_pairs : {l : List A} → Pairs Follows l → ((a : A) → In a l → Orders k (ops a) (ord a)) → Pairs Before (flat_map ord l)
    unfolding flat_map
    join_pairs nil h = nil
    join_pairs (cons {x = a} {l = l} u t) h =
        pairs_append (h a (here refl)).pairs (join_pairs t (λ b m. h b (there m)))
        (λ x y m n. let c = in_flat ord l n in u c.0 c.1 x y ((h a (here refl)).from x m) ((h c.0 (there c.1)).from y c.2))

    join_runs : (l : List A) → ((a : A) → In a l → Orders k (ops a) (ord a)) → (s : List ℕ) → (e : List ℕ) × Runs k s (flat_map ord l) e
    unfolding flat_map
    join_runs [] h s = (s, run_nil)
    join_runs (a ∷ l) h s =
        let r = h a (here refl) in
        let t = join_runs l (λ b m. h b (there m)) (r.passed ++ s) in
        (t.0, run_append (run_more s r.runs) t.1)

    -- THE JOINING LEMMA
    pub joins : (H : List Op) (l : List A) → ((a : A) → In a l → Orders k (ops a) (ord a)) → Pairs Follows l →
        ((a : A) → In a l → (x : Op) → In x (ops a) → In x H) → ((x : Op) → In x H → (a : A) × In a l × In x (ops a)) →
        Orders k H (flat_map ord l)
    joins H l h p sub cov =
        let r = join_runs l h [] in
        record {
          from = λ x m. let c = in_flat ord l m in sub c.0 c.1 x ((h c.0 c.1).from x c.2);
          into = λ x m. let c = cov x m in flat_in ord c.1 ((h c.0 c.1).into x c.2);
          pairs = join_pairs p h;
          passed = r.0;
          runs = r.1;
        }
