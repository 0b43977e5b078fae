-- Images judged one after the other up to the first that is not allowed, and what the collapse gains by them. Assumes nothing.
use mathlib.Core.Path.{◌≡◌, refl, sym, ap, ap₂, ◌∙◌}
use mathlib.Core.Bool.{Bool, true, false, cond, ◌||◌}
use mathlib.Core.List.{List, [], ◌∷◌}
use Prim.Native.Nat.{ℕ, zero, suc, ◌+◌, ◌-◌, ◌*◌, ◌≤◌, ◌<◌}
use native.Mathlib.Nat.{add-zero, not-suc-le-zero}
use native.Mathlib.Omega.{arith}
use lib.Dec.{ltb}
use lib.Ieee.{Float, lt}
use lib.ListN.{drop}
use lib.Seq.{get_or-drop, drop-drop}
use borrow.Author.Tests.{lt-ltb, le-ltb, eq-eqb, ne_eqb}
use Rattle.std.specs.Prelude.{None, Some}
use Rattle.geometry.specs.declared.point.Point.{Point}
use Rattle.geometry.specs.Float.{◌+₆₄◌, ◌*₆₄◌, smaller}
use Rattle.geometry.specs.Literals.{tenth, e_12, thousandth_more}
use Rattle.mesh.specs.declared.element.Pair.{Pair}
use Rattle.mesh.specs.declared.element.Tet.{Tet}
use Rattle.mesh.specs.Words.{word_at}
use Rattle.mesh.specs.Tests.{every, nodup}
use Rattle.mesh.specs.Element.{pair, tets, vertices_of}
use Rattle.mesh.specs.Measure.{Measure, measure, bad_count, lowest_of, measured_of}
use Rattle.repair.specs.declared.quality.Tally.{Tally}
use Rattle.repair.specs.Improve.{image, image_of, collapsed, gains}
use Rattle.repair.specs.inside.Layout.{pairs_of}
use Rattle.repair.specs.inside.Quality.{started, counted, tallied, allowed, judged, all_judged}
use Rattle.repair.proofs.Laws.Measured.{measured-none, measured-some}
use Rattle.repair.proofs.Laws.Gain.Tallies.{element_at, tets-from, tets-none, counted-few, tallied-lowest, tallied-bad}

-- ---- the image of a vertex

-- with the pairs from the i-th on the image is that by all
pub record Seeking (w : List ℕ) (p k v i : ℕ) : Type 0 where
  pub is : image (pairs_of (k - i) (drop (p + 2 * i) w)) v ≡ image (pairs_of k (drop p w)) v

-- the same pairs where their words are the same
pub pairs-same : (k : ℕ) (s t : List ℕ) → ((j : ℕ) → j < 2 * k → word_at t j ≡ word_at s j) → pairs_of k t ≡ pairs_of k s
unfolding pairs_of
pairs-same zero s t h = refl
pairs-same (suc k) s t h =
    ap₂ (λ (e : Pair) (l : List Pair). e ∷ l) (ap₂ pair (h 0 (omega arith)) (h 1 (omega arith)))
    (pairs-same k (drop 2 s) (drop 2 t) (λ j g. get_or-drop 2 t j 0 ∙ h (2 + j) (omega arith) ∙ sym (get_or-drop 2 s j 0)))

pub pairs_next : (k p : ℕ) (w : List ℕ) → 0 < k → pairs_of k (drop p w) ≡ pair (word_at w p) (word_at w (p + 1)) ∷ pairs_of (k - 1) (drop (p + 2) w)
unfolding pairs_of
pairs_next zero p w h = absurd (not-suc-le-zero h)
pairs_next (suc k) p w h =
    let e : suc k - 1 ≡ k = omega arith in
    rw (e, get_or-drop p w 0 0, add-zero p, get_or-drop p w 1 0, drop-drop 2 p w) refl

-- all of the k pairs at p, and those from the i-th on
pub pairs-all : (k p : ℕ) (w : List ℕ) → pairs_of (k - 0) (drop (p + 2 * 0) w) ≡ pairs_of k (drop p w)
pairs-all k p w =
    let e : k - 0 ≡ k = omega arith in
    let f : p + 2 * 0 ≡ p = omega arith in
    ap₂ (λ (n q : ℕ). pairs_of n (drop q w)) e f

pub pairs-from : (k p i : ℕ) (w : List ℕ) → i < k
    → pairs_of (k - i) (drop (p + 2 * i) w) ≡ pair (word_at w (p + 2 * i)) (word_at w (p + 2 * i + 1)) ∷ pairs_of (k - (i + 1)) (drop (p + 2 * (i + 1)) w)
pairs-from k p i w h =
    let e : k - i - 1 ≡ k - (i + 1) = omega arith in
    let f : p + 2 * i + 2 ≡ p + 2 * (i + 1) = omega arith in
    pairs_next (k - i) (p + 2 * i) w (omega arith) ∙ ap₂ (λ (n q : ℕ). pair (word_at w (p + 2 * i)) (word_at w (p + 2 * i + 1)) ∷ pairs_of n (drop q w)) e f

pub pairs-over : (k p i : ℕ) (w : List ℕ) → k ≤ i → pairs_of (k - i) (drop (p + 2 * i) w) ≡ []
unfolding pairs_of
pairs-over k p i w h = let e : k - i ≡ 0 = omega arith in ap (λ (n : ℕ). pairs_of n (drop (p + 2 * i) w)) e

pub seek-start : (w : List ℕ) (p k v : ℕ) → Seeking w p k v 0
seek-start w p k v = record { is = ap (λ (es : List Pair). image es v) (pairs-all k p w) }

module _ {w : List ℕ} {p k v i : ℕ} (g : Seeking w p k v i) where
  pub seek_found : i < k → word_at w (p + 2 * i) ≡ v → word_at w (p + 2 * i + 1) ≡ image (pairs_of k (drop p w)) v
  unfolding image
  seek_found h e = sym (ap (λ (es : List Pair). image es v) (pairs-from k p i w h) ∙ rw (eq-eqb (word_at w (p + 2 * i)) v e) refl) ∙ g.is

  pub seek-turn : i < k → (word_at w (p + 2 * i) ≡ v → ⊥) → Seeking w p k v (i + 1)
  unfolding image
  seek-turn h e = record { is = sym (ap (λ (es : List Pair). image es v) (pairs-from k p i w h) ∙ rw (ne_eqb (word_at w (p + 2 * i)) v e) refl) ∙ g.is }

  pub seek-end : k ≤ i → v ≡ image (pairs_of k (drop p w)) v
  unfolding image
  seek-end h = sym (ap (λ (es : List Pair). image es v) (pairs-over k p i w h)) ∙ g.is

-- ---- the tests of one image

module _ (ps : List Point) (limit : Float) (r : Tally) (u : Tet) where
  pub judged-over : nodup (vertices_of u) ≡ false → Some r ≡ judged (measure ps) limit r u
  unfolding judged
  judged-over e = sym (rw e refl)

  module _ (e : nodup (vertices_of u) ≡ true) where
    pub judged-flat : measured_of ps u ≡ None → None ≡ judged (measure ps) limit r u
    unfolding judged
    judged-flat h = sym (rw (e, measured-none ps u h) refl)

    module _ (s : Float) (h : measured_of ps u ≡ Some s) where
      pub judged-worse : lt (s +₆₄ e_12) limit ≡ true → None ≡ judged (measure ps) limit r u
      unfolding judged
      judged-worse g = let m = measured-some ps u s h in sym (rw (e, m.0, m.1, g) refl)

      pub judged-well : lt (s +₆₄ e_12) limit ≡ false → Some (counted r s) ≡ judged (measure ps) limit r u
      unfolding judged
      judged-well g = let m = measured-some ps u s h in sym (rw (e, m.0, m.1, g) refl)

-- ---- the loop over the images

module _ (μ : Measure) (limit : Float) where
  -- one more image, allowed or not
  first : (r : Tally) (u : Tet) (rest : List Tet) (b c : Bool) → allowed μ limit u ≡ c → (r' : Tally)
      → cond b (cond c (Some (counted r (μ.score u))) None) (Some r) ≡ Some r'
      → all_judged μ limit r' rest ≡ all_judged μ limit r (cond b (u ∷ rest) rest)
  unfolding all_judged tallied
  first r u rest true true e r' h =
      let q : r' ≡ counted r (μ.score u) = cc in
      ap (λ (y : Tally). all_judged μ limit y rest) q ∙ sym (rw e refl)
  first r u rest true false e r' h = absurd cc
  first r u rest false c e r' h =
      let q : r' ≡ r = cc in
      ap (λ (y : Tally). all_judged μ limit y rest) q

  failed : (r : Tally) (u : Tet) (rest : List Tet) (b c : Bool) → allowed μ limit u ≡ c
      → cond b (cond c (Some (counted r (μ.score u))) None) (Some r) ≡ None
      → None ≡ all_judged μ limit r (cond b (u ∷ rest) rest)
  unfolding all_judged
  failed r u rest true true e h = absurd cc
  failed r u rest true false e h = sym (rw e refl)
  failed r u rest false c e h = absurd cc

  few : (r : Tally) (u : Tet) (b c : Bool) (r' : Tally) → cond b (cond c (Some (counted r (μ.score u))) None) (Some r) ≡ Some r' → r'.bad ≤ r.bad + 1
  few r u true true r' h = let q : r' ≡ counted r (μ.score u) = cc in omega (arith, counted-few r (μ.score u), ap (λ (y : Tally). y.bad) q)
  few r u true false r' h = absurd cc
  few r u false c r' h = let q : r' ≡ r = cc in omega (arith, ap (λ (y : Tally). y.bad) q)

  module _ (es : List Pair) (w : List ℕ) (p n : ℕ) where
    -- the images of the elements, all and from the i-th on
    abbrev whole : List Tet
    whole = collapsed es (tets n (drop p w))

    abbrev after : ℕ → List Tet
    after i = collapsed es (tets (n - i) (drop (p + 4 * i) w))

    -- those before the i-th are allowed: with those from it on r counts all
    pub record Judging (r : Tally) (i : ℕ) : Type 0 where
      pub few : r.bad ≤ i
      pub is : all_judged μ limit r (after i) ≡ all_judged μ limit started whole

    module _ {r : Tally} {i : ℕ} (g : Judging r i) where
      module _ (h : i < n) (t u : Tet) (et : t ≡ element_at w (p + 4 * i)) (eu : u ≡ image_of (image es) t) where
        turned : after i ≡ cond (nodup (vertices_of u)) (u ∷ after (i + 1)) (after (i + 1))
        turned =
            ap (collapsed es) (tets-from n p i w h)
            ∙ ap (λ (y : Tet). cond (nodup (vertices_of y)) (y ∷ after (i + 1)) (after (i + 1))) (sym (eu ∙ ap (image_of (image es)) et))

        pub judge-turn : (r' : Tally) → Some r' ≡ judged μ limit r u → Judging r' (i + 1)
        unfolding judged
        judge-turn r' e = record {
          few = omega (arith, g.few, few r u (nodup (vertices_of u)) (allowed μ limit u) r' (sym e));
          is = first r u (after (i + 1)) (nodup (vertices_of u)) (allowed μ limit u) refl r' (sym e) ∙ ap (all_judged μ limit r) (sym turned) ∙ g.is;
        }

        pub judge-fail : None ≡ judged μ limit r u → None ≡ all_judged μ limit started whole
        unfolding judged
        judge-fail e = failed r u (after (i + 1)) (nodup (vertices_of u)) (allowed μ limit u) refl (sym e) ∙ ap (all_judged μ limit r) (sym turned) ∙ g.is

      pub judge-end : n ≤ i → Some r ≡ all_judged μ limit started whole
      unfolding all_judged tallied
      judge-end h = sym (ap (λ (ts : List Tet). all_judged μ limit r (collapsed es ts)) (tets-none (n - i) (p + 4 * i) w (omega arith))) ∙ g.is

-- ---- what is gained

module _ (μ : Measure) (old kept : List Tet) (a : Tally) (limit : Float) (ea : a ≡ tallied μ started old) (el : limit ≡ smaller a.lowest tenth) where
  low : a.lowest ≡ lowest_of μ old
  low = ap (λ (y : Tally). y.lowest) ea ∙ tallied-lowest μ old

  many : a.bad ≡ bad_count μ old
  many = ap (λ (y : Tally). y.bad) ea ∙ tallied-bad μ old

  all : every (allowed μ limit) kept ≡ every (allowed μ (smaller (lowest_of μ old) tenth)) kept
  all = ap (λ (y : Float). every (allowed μ y) kept) (el ∙ ap (λ (y : Float). smaller y tenth) low)

  -- one is not allowed
  pub gains-no : None ≡ all_judged μ limit started kept → false ≡ gains μ old kept
  unfolding all_judged
  gains-no = go (every (allowed μ limit) kept) refl
    where
      go : (b : Bool) → every (allowed μ limit) kept ≡ b → None ≡ cond b (Some (tallied μ started kept)) None → false ≡ gains μ old kept
      go true e h = absurd cc
      go false e h = sym (rw (sym all ∙ e) refl)

  -- fewer are bad, or the lowest score decides
  gains-so : (b : Tally) → Some b ≡ all_judged μ limit started kept → (ltb b.bad a.bad || lt (a.lowest *₆₄ thousandth_more) b.lowest) ≡ gains μ old kept
  unfolding all_judged
  gains-so b = go (every (allowed μ limit) kept) refl
    where
      go : (c : Bool) → every (allowed μ limit) kept ≡ c → Some b ≡ cond c (Some (tallied μ started kept)) None
          → (ltb b.bad a.bad || lt (a.lowest *₆₄ thousandth_more) b.lowest) ≡ gains μ old kept
      go false e h = absurd cc
      go true e h =
          let q : b ≡ tallied μ started kept = cc in
          let l : b.lowest ≡ lowest_of μ kept = ap (λ (y : Tally). y.lowest) q ∙ tallied-lowest μ kept in
          let k : b.bad ≡ bad_count μ kept = ap (λ (y : Tally). y.bad) q ∙ tallied-bad μ kept in
          rw (low, l, many, k) (sym (rw (sym all ∙ e) refl))

  pub gains-fewer : (b : Tally) → Some b ≡ all_judged μ limit started kept → b.bad < a.bad → ltb b.bad a.bad ≡ gains μ old kept
  gains-fewer b h l = let e = lt-ltb b.bad a.bad l in e ∙ ap (λ (c : Bool). c || lt (a.lowest *₆₄ thousandth_more) b.lowest) (sym e) ∙ gains-so b h

  pub gains-higher : (b : Tally) → Some b ≡ all_judged μ limit started kept → a.bad ≤ b.bad → lt (a.lowest *₆₄ thousandth_more) b.lowest ≡ gains μ old kept
  gains-higher b h l = ap (λ (c : Bool). c || lt (a.lowest *₆₄ thousandth_more) b.lowest) (sym (le-ltb b.bad a.bad l)) ∙ gains-so b h
