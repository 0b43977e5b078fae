-- Pairs one after the other come to the same as all at once: for pairs as `improve` finds them the last ones go first. Assumes nothing.
use mathlib.Core.Path.{◌≡◌, refl, sym, ap, subst, fun_ext, ◌∙◌}
use mathlib.Core.Logic.{◌⊎◌, inl, inr}
use mathlib.Core.Bool.{Bool, true, false, not, cond}
use mathlib.Core.List.{List, [], ◌∷◌, map}
use Prim.Native.Nat.{ℕ, zero, suc, ◌+◌, ◌*◌, ◌≤◌, ◌<◌}
use native.Mathlib.Nat.{not-suc-le-zero, le_of_suc-le-suc}
use native.Mathlib.Omega.{arith}
use borrow.Author.Tests.{eqb-true, eqb-false, eq-eqb, ne_eqb, not-true}
use lib.Dec.{eqb}
use lib.ListN.{length, drop, length-map}
use lib.Seq.{get_or-drop}
use Rattle.mesh.specs.declared.element.Pair.{Pair}
use Rattle.mesh.specs.declared.element.Tet.{Tet}
use Rattle.mesh.specs.Words.{word_at}
use Rattle.mesh.specs.Complex.{mem, keep, Nodup}
use Rattle.mesh.specs.Tests.{nodup}
use Rattle.mesh.specs.Sets.{among}
use Rattle.mesh.specs.Element.{pair, same_pair, vertices_of}
use Rattle.mesh.proofs.Laws.Complex.Sets.{split, clash, nope, or_left, or_right, and-fst, and-snd, mem-here, mem-there, mem-cases, mem-nil, out-tail}
use Rattle.mesh.proofs.Laws.Star.Chains.{few-below}
use Rattle.mesh.proofs.Laws.Complex.Renumber.{map-mem}
use Rattle.repair.specs.Improve.{image, image_of, collapsed}
use Rattle.repair.specs.inside.Layout.{Apart, Pairs, pairs_of}

abbrev firsts_of : List Pair → List ℕ
firsts_of es = map (λ e. e.a) es

abbrev seconds_of : List Pair → List ℕ
seconds_of es = map (λ e. e.b) es

-- ---- images

-- a vertex that is no first stays
image-out : (es : List Pair) (v : ℕ) → mem v (firsts_of es) ≡ false → image es v ≡ v
unfolding image
image-out [] v h = refl
image-out (e ∷ es) v h =
    rw (ne_eqb e.a v (λ q. clash (subst (λ (u : ℕ). mem u (firsts_of (e ∷ es)) ≡ true) q (mem-here e.a (firsts_of es))) h))
    (image-out es v (out-tail v e.a (firsts_of es) h))

-- a vertex stays or becomes a second
image-cases : (es : List Pair) (v : ℕ) → (image es v ≡ v) ⊎ (mem (image es v) (seconds_of es) ≡ true)
unfolding image
image-cases [] v = inl refl
image-cases (e ∷ es) v =
    elim (split (eqb e.a v)) [
      | inl h ↦ let s : image (e ∷ es) v ≡ e.b = rw h refl in inr (or_left (mem (image (e ∷ es) v) (seconds_of es)) (eq-eqb (image (e ∷ es) v) e.b s))
      | inr h ↦
          let s : image (e ∷ es) v ≡ image es v = rw h refl in
          elim (image-cases es v) [
            | inl q ↦ inl (s ∙ q)
            | inr q ↦ inr (mem-there (image (e ∷ es) v) e.b (seconds_of es) (subst (λ (u : ℕ). mem u (seconds_of es) ≡ true) (sym s) q))
          ]
    ]

pub pair-here : (e : Pair) (es : List Pair) → among same_pair e (e ∷ es) ≡ true
pair-here e es = rw (eq-eqb e.a e.a refl, eq-eqb e.b e.b refl) refl

-- where each goes into itself all stay
image-self : (es : List Pair) → ((e : Pair) → among same_pair e es ≡ true → e.a ≡ e.b) → (v : ℕ) → image es v ≡ v
unfolding image
image-self [] h v = refl
image-self (e ∷ es) h v =
    elim (split (eqb e.a v)) [
      | inl q ↦ rw q (sym (h e (pair-here e es)) ∙ eqb-true e.a v q)
      | inr q ↦ rw q (image-self es (λ f m. h f (or_right (same_pair f e) m)) v)
    ]

-- the other pairs, then the first
image-more : (e : Pair) (es : List Pair) → Nodup (firsts_of (e ∷ es)) → Apart (e ∷ es) → (v : ℕ) → image (e ∷ es) v ≡ image (e ∷ []) (image es v)
unfolding image
image-more e es d p v =
    elim (split (eqb e.a v)) [
      | inl q ↦ let f : image es v ≡ v = image-out es v (subst (λ (u : ℕ). mem u (firsts_of es) ≡ false) (eqb-true e.a v q) d.0) in rw (f, q) refl
      | inr q ↦ rw (q, ne_eqb e.a (image es v) (λ r. stays q r)) refl
    ]
  where
    stays : eqb e.a v ≡ false → e.a ≡ image es v → ⊥
    stays q r =
        elim p [
          | inl h ↦ eqb-false e.a v q (r ∙ image-self es (λ f m. h f (or_right (same_pair f e) m)) v)
          | inr h ↦ elim (image-cases es v) [
            | inl f ↦ eqb-false e.a v q (r ∙ f)
            | inr m ↦
                clash (subst (λ (u : ℕ). mem u (seconds_of es) ≡ true) (sym r) m)
                (out-tail e.a e.b (seconds_of es) (h e.a (mem-here e.a (firsts_of es))))
          ]
        ]

-- ---- elements

-- vertices with different images are different
nodup-back : (g : ℕ → ℕ) (l : List ℕ) → nodup (map g l) ≡ true → nodup l ≡ true
nodup-back g [] h = refl
nodup-back g (v ∷ l) h =
    let o = not-true (mem (g v) (map g l)) (and-fst (not (mem (g v) (map g l))) (nodup (map g l)) h) in
    rw (nope (λ m. clash (map-mem g v l m) o)) (nodup-back g l (and-snd (not (mem (g v) (map g l))) (nodup (map g l)) h))

-- an element that went before would go in the end
keep-twice : (f g : ℕ → ℕ) (ts : List Tet) → keep (λ t. nodup (vertices_of t)) (map (image_of (λ v. g (f v))) ts)
    ≡ keep (λ t. nodup (vertices_of t)) (map (image_of g) (keep (λ t. nodup (vertices_of t)) (map (image_of f) ts)))
keep-twice f g [] = refl
keep-twice f g (t ∷ ts) =
    let ih = keep-twice f g ts in
    let u = image_of f t in
    elim (split (nodup (vertices_of u))) [
      | inl h ↦ subst (λ (b : Bool). Same (nodup (vertices_of (image_of g u))) b) (sym h) (ap (λ (l : List Tet). cond (nodup (vertices_of (image_of g u))) (image_of g u ∷ l) l) ih)
      | inr h ↦
          let o = nope (λ m. clash (nodup-back g (vertices_of u) m) h) in
          subst (λ (b : Bool). Same (nodup (vertices_of (image_of g u))) b) (sym h) (subst (λ (b : Bool). cond b (image_of g u ∷ left) left ≡ right) (sym o) ih)
    ]
  where
    left : List Tet
    left = keep (λ t. nodup (vertices_of t)) (map (image_of (λ v. g (f v))) ts)

    right : List Tet
    right = keep (λ t. nodup (vertices_of t)) (map (image_of g) (keep (λ t. nodup (vertices_of t)) (map (image_of f) ts)))

    Same : Bool → Bool → Type 0
    Same p q =
        cond p (image_of g (image_of f t) ∷ left) left
        ≡ keep (λ t. nodup (vertices_of t)) (map (image_of g) (cond q (image_of f t ∷ keep (λ t. nodup (vertices_of t)) (map (image_of f) ts)) (keep (λ t. nodup (vertices_of t)) (map (image_of f) ts))))

-- a pair before others: they go first, and then it goes
pub collapsed-more : (e : Pair) (es : List Pair) → Nodup (firsts_of (e ∷ es)) → Apart (e ∷ es) → (ts : List Tet)
    → collapsed (e ∷ es) ts ≡ collapsed (e ∷ []) (collapsed es ts)
collapsed-more e es d p ts =
    ap (λ ρ. keep (λ t. nodup (vertices_of t)) (map (image_of ρ) ts)) (fun_ext (image-more e es d p)) ∙ keep-twice (image es) (image (e ∷ [])) ts

-- ---- the rest of the pairs

pairs-tail : (nv : ℕ) (e : Pair) (es : List Pair) → Pairs nv (e ∷ es) → Pairs nv es
pairs-tail nv e es p = record {
  below = λ f m. p.below f (or_right (same_pair f e) m);
  firsts = p.firsts.1;
  seconds = p.seconds.1;
  apart = elim p.apart [
    | inl h ↦ inl (λ f m. h f (or_right (same_pair f e) m))
    | inr h ↦ inr (λ v m. out-tail v e.b (seconds_of es) (h v (mem-there v e.a (firsts_of es) m)))
  ];
}

pub pairs-drop : (nv i : ℕ) (es : List Pair) → Pairs nv es → Pairs nv (drop i es)
pairs-drop nv zero es p = p
pairs-drop nv (suc i) [] p = p
pairs-drop nv (suc i) (e ∷ es) p = pairs-drop nv i es (pairs-tail nv e es p)

first-low : (nv : ℕ) (es : List Pair) → Pairs nv es → (v : ℕ) → mem v (firsts_of es) ≡ true → v < nv
first-low nv [] p v m = absurd (mem-nil v m)
first-low nv (e ∷ es) p v m =
    elim (mem-cases v e.a (firsts_of es) m) [ inl q ↦ rw q (p.below e (pair-here e es)).0 | inr q ↦ first-low nv es (pairs-tail nv e es p) v q ]

pub length_pairs : (k : ℕ) (l : List ℕ) → length (pairs_of k l) ≡ k
unfolding pairs_of
length_pairs zero l = refl
length_pairs (suc k) l = ap suc (length_pairs k (drop 2 l))

-- there are no more pairs than vertices
pub pairs-few : (nv k : ℕ) (l : List ℕ) → Pairs nv (pairs_of k l) → k ≤ nv
pairs-few nv k l p =
    let r = few-below nv (firsts_of (pairs_of k l)) p.firsts (first-low nv (pairs_of k l) p) in
    omega (arith, length-map (pairs_of k l) (λ e. e.a), length_pairs k l)

-- the pairs from i on: the pair i, and those behind it
pub pairs-at : (k : ℕ) (l : List ℕ) (i : ℕ) → i < k → drop i (pairs_of k l) ≡ pair (word_at l (2 * i)) (word_at l (2 * i + 1)) ∷ drop (suc i) (pairs_of k l)
unfolding pairs_of
pairs-at zero l i h = absurd (not-suc-le-zero h)
pairs-at (suc k) l zero h = refl
pairs-at (suc k) l (suc i) h =
    pairs-at k (drop 2 l) i (le_of_suc-le-suc h)
    ∙ rw (at (2 * i) (2 * suc i) (omega arith), at (2 * i + 1) (2 * suc i + 1) (omega arith)) refl
  where
    at : (u v : ℕ) → 2 + u ≡ v → word_at (drop 2 l) u ≡ word_at l v
    at u v q = get_or-drop 2 l u 0 ∙ ap (word_at l) q
