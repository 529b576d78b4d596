-- The backward zones inside a run stand together in the list by low end, and one pass over the runs finds those of all.
-- Assumes nothing.
use Prim.Native.Nat.{ℕ, suc, ◌+◌, ◌-◌, ◌≤◌, ◌<◌, max}
use mathlib.Core.Path.{◌≡◌, refl, ap, sym, ◌∙◌}
use mathlib.Core.Bool.{Bool, true, false, cond}
use mathlib.Core.Logic.{◌⊎◌, inl, inr}
use mathlib.Core.List.Memᴰ.{head as here}
use mathlib.Core.List.Memᴰ.{tail as there}
use mathlib.Core.List.{List, [], ◌∷◌, ◌++◌, append-nil, Memᴰ as In}
use native.Mathlib.Omega.{arith}
use lib.ListN.{length, get_or, take, drop, drop_of_length-le, take-append-drop, length-drop}
use lib.Seq.{drop-cons, drop-drop, get_or-take, get_or-drop, length-take-le}
use lib.Dec.{ltb}
use borrow.Author.Tests.{ltb-false, le-ltb}
use Rattle.lists.specs.Lists.{keep}
use Rattle.lists.proofs.Tests.{both, test}
use Rattle.lists.proofs.Members.{in_keep, keep_in}
use Rattle.lists.proofs.Cover.{in_at}
use Rattle.lists.proofs.Images.{keep_append, keep_none, get_d_in, pairs_drop}
use Rattle.methods.specs.declared.Zone.{Zone}
use Rattle.methods.specs.Zones.{low, high}
use Rattle.positions.specs.Places.{and}
use Rattle.positions.proofs.Places.{below, no_cond}
use Rattle.placing.specs.States.{is_free}
use Rattle.zones.specs.Zones.{zone_by}
use Rattle.freeing.specs.Marks.{unlisted}
use Rattle.freeing.proofs.Listing.{listed, in_listed}
use Rattle.chunking.specs.Chunks.{lies, more, top_of, Spans, dangles_by}
use Rattle.chunking.specs.Inner.{Rises, Behind, Reaches, Encloses, Marked, Hangs}
use Rattle.chunking.specs.declared.Span.{Span}
use Rattle.chunking.specs.declared.Enclosed.{Enclosed}
use Rattle.chunking.proofs.Hanging.{Hanging, hang_none, hang_end, hang_hit, hang_on}

-- Where a run ends, and how high it is.

module _ (z : ℕ → Zone) where
  more_stop : (t : ℕ) (l : List ℕ) → more z t l < length l → top_of z t l ≤ low (z (get_or l (more z t l) 0))
  unfolding more top_of
  more_stop t [] h = absurd (omega arith)
  more_stop t (x ∷ l) h = go (ltb (low (z x)) t) refl h (more_stop (max t (high (z x))) l)
    where
      go : (b : Bool) → ltb (low (z x)) t ≡ b → cond b (suc (more z (max t (high (z x))) l)) 0 < suc (length l)
          → (more z (max t (high (z x))) l < length l → top_of z (max t (high (z x))) l ≤ low (z (get_or l (more z (max t (high (z x))) l) 0)))
          → cond b (top_of z (max t (high (z x))) l) t ≤ low (z (get_or (x ∷ l) (cond b (suc (more z (max t (high (z x))) l)) 0) 0))
      go true e k ih = ih (omega arith)
      go false e k ih = ltb-false (low (z x)) t e

  top_over : (t : ℕ) (l : List ℕ) → t ≤ top_of z t l
  unfolding top_of
  top_over t [] = omega arith
  top_over t (x ∷ l) = go (ltb (low (z x)) t) (top_over (max t (high (z x))) l)
    where
      go : (b : Bool) → max t (high (z x)) ≤ top_of z (max t (high (z x))) l → t ≤ cond b (top_of z (max t (high (z x))) l) t
      go true h = omega arith
      go false h = omega arith

module _ (finish late list : List ℕ) (a : ℕ) (r : Span) (s : Spans finish late list a r) where
  abbrev first : Zone
  first = zone_by finish late (get_or list a 0)

  pub span_stop : r.end < length list → r.top ≤ low (zone_by finish late (get_or list r.end 0))
  span_stop h =
      let L = drop (a + 1) list in
      let m = more (zone_by finish late) (high first) L in
      let e : (a + 1) + m ≡ r.end = sym s.end in
      rw s.top
      (rw (ap (λ (i : ℕ). low (zone_by finish late (get_or list i 0))) (sym e), ap (λ (x : ℕ). low (zone_by finish late x)) (sym (get_or-drop (a + 1) list m 0)))
      (more_stop (zone_by finish late) (high first) L (rw (length-drop) (omega (arith, e)))))

  pub span_over : low first ≤ r.top
  span_over = omega (arith, s.top, top_over (zone_by finish late) (high first) (drop (a + 1) list))

-- What lies inside stands between the two places.

module _ (finish late list : List ℕ) (i bottom top : ℕ) where
  abbrev P : ℕ → Bool
  P = lies finish late bottom top

  too_low : (x : ℕ) → low (zone_by finish late x) ≤ bottom → P x ≡ false
  unfolding lies
  too_low x h = rw (le-ltb bottom (low (zone_by finish late x)) h)

  too_high : (x : ℕ) → top ≤ low (zone_by finish late x) → P x ≡ false
  unfolding lies
  too_high x h = rw (le-ltb (high (zone_by finish late x)) top (omega arith)) (no_cond (ltb bottom (low (zone_by finish late x))))

  module _ (p : Rises finish late list) (g : Behind finish late list i bottom) (e : ℕ) (k : Reaches finish late list i top e) where
    before : (x : ℕ) → In x (take i list) → P x ≡ false
    before x m =
        let (q, l, f) = in_at m in
        let n : q < i = omega (arith, l, length-take-le i list g.within) in
        too_low x (rw (sym f ∙ get_or-take i list q 0 n) (g.lows q n))

    behind : (x : ℕ) → In x (drop e list) → P x ≡ false
    behind x m = go (below e (length list))
      where
        at : e < length list → In x (get_or list e 0 ∷ drop (suc e) list) → P x ≡ false
        at h (here q) = rw q (too_high (get_or list e 0) (k.stop h))
        at h (there n) = too_high x (omega (arith, k.stop h, pairs_drop 0 p e h x n))

        go : (e < length list) ⊎ (length list ≤ e) → P x ≡ false
        go (inl h) = at h (rw (drop-cons list e 0 h) at m)
        go (inr h) = elim (rw (drop_of_length-le list h) at m) [ ]

    segment : keep P list ≡ keep P (take (e - i) (drop i list))
    segment =
        let n : i + (e - i) ≡ e = omega (arith, k.from) in
        ap (keep P) (sym (take-append-drop i list))
        ∙ keep_append P (take i list) (drop i list)
        ∙ ap (λ (l : List ℕ). l ++ keep P (drop i list)) (keep_none P (take i list) before)
        ∙ ap (keep P) (sym (take-append-drop (e - i) (drop i list)))
        ∙ keep_append P (take (e - i) (drop i list)) (drop (e - i) (drop i list))
        ∙ ap (λ (l : List ℕ). keep P (take (e - i) (drop i list)) ++ keep P l) (drop-drop (e - i) i list ∙ ap (λ (j : ℕ). drop j list) n)
        ∙ ap (λ (l : List ℕ). keep P (take (e - i) (drop i list)) ++ l) (keep_none P (drop e list) behind)
        ∙ append-nil (keep P (take (e - i) (drop i list)))

    pub enclosed : (out : List ℕ) (m : ℕ) → m ≤ length (take (e - i) (drop i list)) → take m out ≡ keep P (take (e - i) (drop i list)) → Encloses finish late list bottom top out (record { count = m; next = e })
    enclosed out m h w =
        record {
          few = omega (arith, h, length-take-le (e - i) (drop i list) (rw (length-drop) (omega (arith, k.to))), k.to);
          written = w ∙ sym segment;
          behind = λ limit a b. record { within = k.to; lows = λ j l. go limit a b j l (below j i) };
        }
      where
        go : (limit : ℕ) → bottom ≤ limit → top ≤ limit → (j : ℕ) → j < e → (j < i) ⊎ (i ≤ j) → low (zone_by finish late (get_or list j 0)) ≤ limit
        go limit a b j l (inl c) = omega (arith, g.lows j c)
        go limit a b j l (inr c) = omega (arith, k.lower j c l)

-- places of a list, by member
pub small_in : (B : List ℕ) (n : ℕ) → ((i : ℕ) → i < length B → get_or B i 0 < n) → (w : ℕ) → In w B → w < n
small_in B n h w m = let (p, l, e) = in_at m in rw (← e) (h p l)

-- those that are found are among the list
pub found_small : (Q : ℕ → Bool) (B found : List ℕ) (n : ℕ) → ((i : ℕ) → i < length B → get_or B i 0 < n) → found ≡ keep Q B → (i : ℕ) → i < length found → get_or found i 0 < n
found_small Q B found n h e i l = small_in B n h _ (in_keep Q B (kept (get_or found i 0) (get_d_in found 0 i l))).0
  where
    kept : (x : ℕ) → In x found → In x (keep Q B)
    kept x m = rw (← e) m

-- The loop over the runs.

pub record Enclosing (finish late F B : List ℕ) (a i : ℕ) (marks marks₀ : List ℕ) : Type 0 where
  pub within : a ≤ length F
  pub back : i ≤ length B
  pub long : length marks ≡ length marks₀
  pub behind : a < length F → Behind finish late B i (low (zone_by finish late (get_or F a 0)))
  pub free : (w : ℕ) → In w B → is_free marks w ≡ true → Hanging finish late F w a
  pub done : (w : ℕ) → In w B → is_free marks w ≡ false → dangles_by finish late F w ≡ false

module _ (finish late F B marks₀ : List ℕ) (small : (w : ℕ) → In w B → w < length marks₀) where
  pub inner_none : ((j : ℕ) → j < length marks₀ → is_free marks₀ j ≡ true) → Enclosing finish late F B 0 0 marks₀ marks₀
  inner_none h =
      record {
        within = omega arith;
        back = omega arith;
        long = refl;
        behind = λ l. record { within = omega arith; lows = λ k b. absurd (omega arith) };
        free = λ w m e. hang_none finish late F w;
        done = λ w m e. absurd (both (h w (small w m)) e);
      }

  module _ (a i : ℕ) (marks : List ℕ) (g : Enclosing finish late F B a i marks marks₀) where
    pub inner_end : length F ≤ a → Hangs finish late F B marks
    inner_end h w m = go (test (is_free marks w))
      where
        go : (is_free marks w ≡ true) ⊎ (is_free marks w ≡ false) → is_free marks w ≡ dangles_by finish late F w
        go (inl e) = e ∙ sym (hang_end finish late F w a (g.free w m e) h)
        go (inr e) = e ∙ sym (g.done w m e)

    module _ (l : a < length F) (r : Span) (s : Spans finish late F a r) (c : a < r.end) (d : r.end ≤ length F)
        (bottom : ℕ) (q : bottom ≡ low (zone_by finish late (get_or F a 0))) (out : List ℕ) (f : Enclosed) (k : Encloses finish late B bottom r.top out f)
        (marks' : List ℕ) (n : length marks' ≡ length marks) (x : Marked (take f.count out) marks marks') where
      abbrev I : List ℕ
      I = keep (lies finish late bottom r.top) B

      marked : (w : ℕ) → In w B → is_free marks' w ≡ and (is_free marks) (unlisted I) w
      marked w m = x w (omega (arith, small w m, g.long)) ∙ ap (λ (j : List ℕ). and (is_free marks) (unlisted j) w) k.written

      -- a zone that lies inside is marked, and another is as it was
      hit : (w : ℕ) → In w B → lies finish late bottom r.top w ≡ true → is_free marks' w ≡ false
      hit w m e = marked w m ∙ ap (λ (b : Bool). cond (is_free marks w) b false) (listed I w (keep_in (lies finish late bottom r.top) B m e)) ∙ no_cond (is_free marks w)

      miss : (w : ℕ) → In w B → lies finish late bottom r.top w ≡ false → is_free marks' w ≡ is_free marks w
      miss w m e = marked w m ∙ ap (λ (b : Bool). cond (is_free marks w) b false) (go (test (unlisted I w))) ∙ yes (is_free marks w)
        where
          go : (unlisted I w ≡ true) ⊎ (unlisted I w ≡ false) → unlisted I w ≡ true
          go (inl y) = y
          go (inr y) = absurd (both (in_keep (lies finish late bottom r.top) B (in_listed I w y)).1 e)

          yes : (b : Bool) → cond b true false ≡ b
          yes true = refl
          yes false = refl

      pub inner_on : Enclosing finish late F B r.end f.next marks' marks₀
      inner_on =
          record {
            within = d;
            back = (k.behind (max bottom r.top) (omega arith) (omega arith)).within;
            long = n ∙ g.long;
            behind = λ h. let e = span_stop finish late F a r s h in k.behind _ (omega (arith, e, q, span_over finish late F a r s)) e;
            free = λ w m e. frees w m e (test (lies finish late bottom r.top w));
            done = λ w m e. dones w m e (test (lies finish late bottom r.top w)) (test (is_free marks w));
          }
        where
          frees : (w : ℕ) → In w B → is_free marks' w ≡ true → (lies finish late bottom r.top w ≡ true) ⊎ (lies finish late bottom r.top w ≡ false) → Hanging finish late F w r.end
          frees w m e (inl y) = absurd (both e (hit w m y))
          frees w m e (inr y) = hang_on finish late F w a (g.free w m (sym (miss w m y) ∙ e)) l r s c d bottom q y

          dones : (w : ℕ) → In w B → is_free marks' w ≡ false → (lies finish late bottom r.top w ≡ true) ⊎ (lies finish late bottom r.top w ≡ false) →
              (is_free marks w ≡ true) ⊎ (is_free marks w ≡ false) → dangles_by finish late F w ≡ false
          dones w m e (inl y) (inl o) = hang_hit finish late F w a (g.free w m o) l r s bottom q y
          dones w m e y (inr o) = g.done w m o
          dones w m e (inr y) (inl o) = absurd (both o (sym (miss w m y) ∙ e))
