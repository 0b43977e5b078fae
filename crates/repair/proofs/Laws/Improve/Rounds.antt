-- Over all rounds of `improve`, where no two vertices have the same ranks: the elements come from those at the start by collapses, so
-- they are proper and have the same alternating count; each has its determinant above 0; each score is above the floor at the start, less
-- 2e-12 for each vertex replaced. The measure is any whose scores are exact. Assumes nothing.
use mathlib.Core.Path.{◌≡◌, refl, sym, ap, subst, fun_ext, ◌∙◌}
use mathlib.Core.Logic.{◌≢◌, ◌⊎◌, inl, inr}
use mathlib.Core.Bool.{true, false, ◌&&◌, ◌||◌}
use mathlib.Core.List.{List, [], ◌∷◌, ◌++◌, map, Memᴰ}
use Prim.Native.Nat.{ℕ, ◌≤◌}
use borrow.Author.Tests.{ne_eqb}
use lib.ListN.{length}
use Rattle.geometry.specs.declared.bounds.Options.{Options}
use Rattle.geometry.specs.Literals.{tenth}
use Rattle.geometry.specs.Units.{units_of}
use Rattle.geometry.specs.Bounds.{spacing}
use Rattle.mesh.specs.declared.element.Pair.{Pair}
use Rattle.mesh.specs.declared.element.Tet.{Tet}
use Rattle.mesh.specs.Complex.{mem}
use Rattle.mesh.specs.inside.Complex.{Proper}
use Rattle.mesh.specs.Tests.{nodup, any}
use Rattle.mesh.specs.inside.Moves.{Run, then}
use Rattle.mesh.specs.Element.{pair, tet, vertices_of}
use Rattle.mesh.specs.Feature.{link_ok}
use Rattle.mesh.specs.Measure.{Measure}
use Rattle.mesh.proofs.Laws.Complex.Sets.{split, nope, clash, or_left, and-fst, and-snd, mem-cases, out-head, out-tail}
use Rattle.mesh.proofs.Laws.Complex.Steps.{run-keeps}
use Rattle.mesh.proofs.Laws.Link.Members.{kept-elim, kept-intro}
use Rattle.repair.specs.Mesh.{Mesh, has}
use Rattle.repair.specs.Improve.{State, stratum_of, stratum_rule, image, image_of, about, collapsed, go, rounds}
use Rattle.repair.specs.Wholeness.{Exact}
use Rattle.repair.proofs.Laws.Improve.Single.{Distinct, size, Goes, goes}
use Rattle.repair.proofs.Laws.Improve.Collapse.{image-onto, collapse-step}
use Rattle.repair.proofs.Laws.Improve.Edges.{joins, listed-join}
use Rattle.repair.proofs.Laws.Improve.Passes.{Tried, Joined, joined, joined_back, rounds-keep}
use Rattle.repair.proofs.Laws.Improve.Scores.{Floor, floor-more, gains-above, gains-floor}
use Rattle.mesh.proofs.Laws.Complex.Collapse.{onto-cases}

-- ---- the elements after one collapse

same-tet : (a b c d : ℕ) (t : Tet) → a ≡ t.a → b ≡ t.b → c ≡ t.c → d ≡ t.d → tet a b c d ≡ t
same-tet a b c d t p q r s = rw (p, q, r, s) refl

image-other : (a b v : ℕ) → a ≢ v → image (pair a b ∷ []) v ≡ v
unfolding image
image-other a b v n = rw (ne_eqb a v n) refl

-- an element without a stays as it is
image-without : (a b : ℕ) (t : Tet) → has a t ≡ false → image_of (image (pair a b ∷ [])) t ≡ t
image-without a b t o =
    let o₁ = out-tail a t.a (t.b ∷ t.c ∷ t.d ∷ []) o in
    let o₂ = out-tail a t.b (t.c ∷ t.d ∷ []) o₁ in
    same-tet (image (pair a b ∷ []) t.a) (image (pair a b ∷ []) t.b) (image (pair a b ∷ []) t.c) (image (pair a b ∷ []) t.d) t
    (image-other a b t.a (out-head a t.a (t.b ∷ t.c ∷ t.d ∷ []) o))
    (image-other a b t.b (out-head a t.b (t.c ∷ t.d ∷ []) o₁))
    (image-other a b t.c (out-head a t.c (t.d ∷ []) o₂))
    (image-other a b t.d (out-head a t.d [] (out-tail a t.c (t.d ∷ []) o₂)))

-- an element after the collapse is one of those about the pair, which are tested, or was there before
pub collapsed-cases : (a b : ℕ) (ts : List Tet) {t : Tet} → Memᴰ t (collapsed (pair a b ∷ []) ts)
    → Memᴰ t (collapsed (pair a b ∷ []) (about (pair a b ∷ []) ts)) ⊎ Memᴰ t ts
collapsed-cases a b ts {t} m =
    let es : List Pair = pair a b ∷ [] in
    let k = kept-elim (λ u. nodup (vertices_of u)) (map (image_of (image es)) ts) m in
    let r = mathlib.Core.List.Memᴰ.of_map (image_of (image es)) ts k.0 in
    let u = r.0 in
    elim (split (any (λ e. has e.a u || has e.b u) es)) [
      | inl h ↦
          let i : Memᴰ u (about es ts) = kept-intro (λ x. any (λ e. has e.a x || has e.b x) es) ts r.1 h in
          inl (kept-intro (λ x. nodup (vertices_of x)) (map (image_of (image es)) (about es ts)) (subst (λ x. Memᴰ x (map (image_of (image es)) (about es ts))) r.2 (mathlib.Core.List.Memᴰ.map (image_of (image es)) i)) k.1)
      | inr h ↦
          let o : has a u ≡ false = nope (λ z. clash (or_left false (or_left (has b u) z)) h) in
          inr (subst (λ x. Memᴰ x ts) (sym (image-without a b u o) ∙ r.2) r.1)
    ]

-- a vertex that is not b, and is a or in no element before, is in none after
collapsed-gone : (a b : ℕ) (ts : List Tet) (v : ℕ) (t : Tet) → Memᴰ t (collapsed (pair a b ∷ []) ts) → ((v ≢ b) × ((u : Tet) → Memᴰ u ts → v ≢ a → has v u ≡ false)) → has v t ≡ false
collapsed-gone a b ts v t m h =
    let k = kept-elim (λ u. nodup (vertices_of u)) (map (image_of (image (pair a b ∷ []))) ts) m in
    let r = mathlib.Core.List.Memᴰ.of_map (image_of (image (pair a b ∷ []))) ts k.0 in
    let u = r.0 in
    subst (λ x. has v x ≡ false) (ap (λ ρ. image_of ρ u) (sym (fun_ext (image-onto a b))) ∙ r.2)
    (nope (λ z. elim (onto-cases a b v (vertices_of u) z) [ inl q ↦ clash q.0 (h.1 u r.1 q.1) | inr q ↦ h.0 q.0 ]))

-- ---- what a collapse keeps

pub record ElementsKept (n : ℕ) (es : List (List ℕ)) (μ : Measure) (U : ℕ) (s : State) : Type 0 where
  pub run : Run n es n (map vertices_of s.elements)
  pub above : (t : Tet) → Memᴰ t s.elements → μ.above t ≡ true
  pub floor : (t : Tet) → Memᴰ t s.elements → Floor U (length s.replaced) (μ.score t)
  -- what was replaced is used no more
  pub gone : (v : ℕ) → mem v s.replaced ≡ true → (t : Tet) → Memᴰ t s.elements → has v t ≡ false

module _ (o : Options) (m : Mesh) (μ : Measure) (es : List (List ℕ)) (U : ℕ) (P : Proper (size m) es) (d : Distinct o m.parameters) (exact : (t : Tet) → Exact (μ.score t)) (low : U ≤ units_of tenth) where
  kept-proper : (s : State) → ElementsKept (size m) es μ U s → Proper (size m) (map vertices_of s.elements)
  kept-proper s k = (run-keeps (size m) es P k.run).0

  collapse-kept : (s : State) (a b : ℕ) → a ≢ b → mem b s.replaced ≡ false → Goes o m d μ s a b → ElementsKept (size m) es μ U s
      → ElementsKept (size m) es μ U (record { elements = collapsed (pair a b ∷ []) s.elements; replaced = a ∷ s.replaced })
  collapse-kept s a b ab nb g k =
      let one : List Pair = pair a b ∷ [] in
      let ts = s.elements in
      let old = about one ts in
      let ok = and-snd (stratum_rule o m a b) (any (λ t. has a t && has b t) ts && link_ok (stratum_of o m) a b ts) g.ok in
      let old-floor : (t : Tet) → Memᴰ t old → Floor U (length s.replaced) (μ.score t) = λ t i. k.floor t (kept-elim (λ x. any (λ e. has e.a x || has e.b x) one) ts i).0 in
      record {
        run = then k.run (collapse-step (stratum_of o m) (size m) a b ts (kept-proper s k) ab (and-fst (any (λ t. has a t && has b t) ts) (link_ok (stratum_of o m) a b ts) ok) (and-snd (any (λ t. has a t && has b t) ts) (link_ok (stratum_of o m) a b ts) ok));
        above = λ t i. elim (collapsed-cases a b ts i) [ inl j ↦ gains-above μ exact old (collapsed one old) g.gain t j | inr j ↦ k.above t j ];
        floor = λ t i. elim (collapsed-cases a b ts i) [
          | inl j ↦ gains-floor μ exact old (collapsed one old) g.gain U (length s.replaced) low old-floor t j
          | inr j ↦ floor-more U (length s.replaced) (μ.score t) (k.floor t j)
        ];
        gone = λ v i t j. collapsed-gone a b s.elements v t j (elim (mem-cases v a s.replaced i) [
          | inl e ↦ (λ q. ab (sym e ∙ q), λ u h n. absurd (n e))
          | inr r ↦ (λ q. absurd (clash (rw q at r) nb), λ u h n. k.gone v r u h)
        ]);
      }

  go-kept : (s : State) (a b : ℕ) → Joined (size m) a b → Tried o m μ s a b → ElementsKept (size m) es μ U s → ElementsKept (size m) es μ U (go o m μ s a b)
  go-kept s a b j t k =
      let g = goes o m d μ s a b j.first j.second t.first-there t.second-there t.may in
      subst (λ (ps : List Pair). ElementsKept (size m) es μ U (record { elements = collapsed ps s.elements; replaced = map (λ e. e.a) ps ++ s.replaced })) (sym g.pairs)
      (collapse-kept s a b j.differ t.second-there g k)

  -- so do all rounds
  pub rounds-kept : (k : ℕ) (s : State) → ElementsKept (size m) es μ U s → ElementsKept (size m) es μ U (rounds o m μ k s)
  rounds-kept k s h =
      rounds-keep o m μ (joins (size m)) (Joined (size m)) (λ e j. (joined (size m) e j, joined_back (size m) e.a e.b (joined (size m) e j))) (ElementsKept (size m) es μ U) go-kept
      (λ r q. listed-join (size m) μ (spacing o) r.elements (kept-proper r q)) k s h
