-- The edges of `surface_edges`, of triples with different corners: an edge u v with u < v stands there as often as triples have both
-- (`edge_count`), and each edge there has two corners of a triple, the smaller first (`edge-elim`). Assumes nothing.
use mathlib.Core.Path.{◌≡◌, refl, sym, ap, ◌∙◌}
use mathlib.Core.Logic.{◌≢◌, inl, inr}
use mathlib.Core.Bool.{Bool, true, false, cond, ◌&&◌, ◌||◌, true≢false}
use mathlib.Core.List.Memᴰ
use mathlib.Core.List.{List, [], ◌∷◌, Memᴰ}
use Prim.Native.Nat.{ℕ, suc, ◌<◌, min, max}
use native.Mathlib.Omega.{arith}
use borrow.Author.Tests.{eqb-true, ne_eqb, ltb-true, ltb-false}
use lib.Dec.{eqb, ltb}
use lib.ListN.{length}
use Rattle.mesh.specs.declared.element.Pair.{Pair}
use Rattle.mesh.specs.declared.element.Triple.{Triple}
use Rattle.mesh.specs.Complex.{mem, keep, Nodup}
use Rattle.mesh.specs.Sets.{times}
use Rattle.mesh.specs.Element.{corners_of, pair, same_pair}
use Rattle.mesh.specs.Manifold.{surface_edges}
use Rattle.mesh.proofs.Laws.Complex.Sets.{split, nope, and-fst, and-snd}
use Rattle.mesh.proofs.Laws.Link.Keys.{flip≢}
use Rattle.theorems.specs.Manifold.{Different, triples_on}
use Rattle.theorems.proofs.Manifold.Corners.{Apart, three-apart, mem-first, mem-second, mem-third, different-later}

-- ---- one edge

-- the smaller and the larger of two different numbers
data Ordered (x y : ℕ) : Type 0 where
  rises : x < y → min x y ≡ x → max x y ≡ y → Ordered x y
  falls : y < x → min x y ≡ y → max x y ≡ x → Ordered x y

ordered : (x y : ℕ) → x ≢ y → Ordered x y
ordered x y n =
    elim (split (ltb x y)) [
      | inl h ↦ let k = ltb-true x y h in rises k (omega arith) (omega arith)
      | inr h ↦ let k = ltb-false x y h in falls (omega arith) (omega arith) (omega arith)
    ]

-- e has two corners of f, the smaller first
pub record Edge (f : Triple) (e : Pair) : Type 0 where
  pub rise : e.a < e.b
  pub first : mem e.a (corners_of f) ≡ true
  pub second : mem e.b (corners_of f) ≡ true

edge_of : (f : Triple) (x y : ℕ) → x ≢ y → mem x (corners_of f) ≡ true → mem y (corners_of f) ≡ true → Edge f (pair (min x y) (max x y))
edge_of f x y n p q = go (ordered x y n)
  where
    go : Ordered x y → Edge f (pair (min x y) (max x y))
    go (rises h s l) = rw (s, l) (record { rise = h; first = p; second = q })
    go (falls h s l) = rw (s, l) (record { rise = h; first = q; second = p })

-- u v, with u < v, is the edge x y
edge_same : (u v x y : ℕ) → u < v → x ≢ y → (eqb u (min x y) && eqb v (max x y)) ≡ ((eqb u x && eqb v y) || (eqb u y && eqb v x))
edge_same u v x y h n = go (ordered x y n)
  where
    never : (p q : ℕ) → q < p → (eqb u p && eqb v q) ≡ false
    never p q k =
        nope (λ t. cross (eqb-true u p (and-fst (eqb u p) (eqb v q) t)) (eqb-true v q (and-snd (eqb u p) (eqb v q) t)))
      where
        cross : u ≡ p → v ≡ q → ⊥
        cross s t = omega arith

    or-none : (p : Bool) → p ≡ (p || false)
    or-none true = refl
    or-none false = refl

    go : Ordered x y → (eqb u (min x y) && eqb v (max x y)) ≡ ((eqb u x && eqb v y) || (eqb u y && eqb v x))
    go (rises k s l) = rw (s, l, never y x k) (or-none (eqb u x && eqb v y))
    go (falls k s l) = rw (s, l, never x y k) refl

-- ---- the edges of a triple

-- at most one of three tests passes
data OneAtMost : Bool → Bool → Bool → Type 0 where
  first : OneAtMost true false false
  second : OneAtMost false true false
  third : OneAtMost false false true
  none : OneAtMost false false false

-- a number is at most one of three different corners
at_most_one : (x : ℕ) (f : Triple) → Nodup (corners_of f) → OneAtMost (eqb x f.a) (eqb x f.b) (eqb x f.c)
at_most_one x f d =
    let n = three-apart f.a f.b f.c d in
    elim (split (eqb x f.a)) [
      | inl p ↦ let e = eqb-true x f.a p in rw (p, ne_eqb x f.b (λ q. n.xy (sym e ∙ q)), ne_eqb x f.c (λ q. n.xz (sym e ∙ q))) first
      | inr p ↦ elim (split (eqb x f.b)) [
        | inl q ↦ let e = eqb-true x f.b q in rw (p, q, ne_eqb x f.c (λ r. n.yz (sym e ∙ r))) second
        | inr q ↦ elim (split (eqb x f.c)) [ inl r ↦ rw (p, q, r) third | inr r ↦ rw (p, q, r) none ]
      ]
    ]

-- the edge between two of the three corners is one edge
one-edge : {A B : Type 0} (e₁ e₂ e₃ : A) (es : List A) (f : B) (fs : List B) {p q r s t w : Bool} → OneAtMost p q r → OneAtMost s t w
    → (p && s) ≡ false → (q && t) ≡ false → (r && w) ≡ false → length es ≡ length fs
    → length (cond ((p && t) || (q && s)) (e₁ ∷ cond ((q && w) || (r && t)) (e₂ ∷ cond ((r && s) || (p && w)) (e₃ ∷ es) es) (cond ((r && s) || (p && w)) (e₃ ∷ es) es))
    (cond ((q && w) || (r && t)) (e₂ ∷ cond ((r && s) || (p && w)) (e₃ ∷ es) es) (cond ((r && s) || (p && w)) (e₃ ∷ es) es)))
    ≡ length (cond ((p || (q || (r || false))) && (s || (t || (w || false)))) (f ∷ fs) fs)
one-edge e₁ e₂ e₃ es f fs first first h k l ih = absurd (true≢false h)
one-edge e₁ e₂ e₃ es f fs first second h k l ih = ap suc ih
one-edge e₁ e₂ e₃ es f fs first third h k l ih = ap suc ih
one-edge e₁ e₂ e₃ es f fs first none h k l ih = ih
one-edge e₁ e₂ e₃ es f fs second first h k l ih = ap suc ih
one-edge e₁ e₂ e₃ es f fs second second h k l ih = absurd (true≢false k)
one-edge e₁ e₂ e₃ es f fs second third h k l ih = ap suc ih
one-edge e₁ e₂ e₃ es f fs second none h k l ih = ih
one-edge e₁ e₂ e₃ es f fs third first h k l ih = ap suc ih
one-edge e₁ e₂ e₃ es f fs third second h k l ih = ap suc ih
one-edge e₁ e₂ e₃ es f fs third third h k l ih = absurd (true≢false l)
one-edge e₁ e₂ e₃ es f fs third none h k l ih = ih
one-edge e₁ e₂ e₃ es f fs none first h k l ih = ih
one-edge e₁ e₂ e₃ es f fs none second h k l ih = ih
one-edge e₁ e₂ e₃ es f fs none third h k l ih = ih
one-edge e₁ e₂ e₃ es f fs none none h k l ih = ih

-- ---- all edges

-- an edge stands there as often as triples have both its ends
pub edge_count : (u v : ℕ) (fs : List Triple) → Different fs → u < v → times same_pair (pair u v) (surface_edges fs) ≡ triples_on u v fs
unfolding surface_edges
edge_count u v [] d h = refl
edge_count u v (f ∷ fs) d h =
    let k = d f (Memᴰ.head refl) in
    let n = three-apart f.a f.b f.c k in
    rw (edge_same u v f.a f.b h n.xy, edge_same u v f.b f.c h n.yz, edge_same u v f.c f.a h (flip≢ n.xz))
    (one-edge _ _ _ (keep (same_pair (pair u v)) (surface_edges fs)) f (keep (λ g. mem u (corners_of g) && mem v (corners_of g)) fs) (at_most_one u f k) (at_most_one v f k)
    (apart f.a) (apart f.b) (apart f.c) (edge_count u v fs (different-later d) h))
  where
    apart : (x : ℕ) → (eqb u x && eqb v x) ≡ false
    apart x = nope (λ t. no (eqb-true u x (and-fst (eqb u x) (eqb v x) t)) (eqb-true v x (and-snd (eqb u x) (eqb v x) t)))
      where
        no : u ≡ x → v ≡ x → ⊥
        no p q = omega arith

-- each edge there is an edge of a triple
pub edge-elim : (fs : List Triple) → Different fs → (e : Pair) → Memᴰ e (surface_edges fs) → (f : Triple) × Memᴰ f fs × Edge f e
unfolding surface_edges
edge-elim [] d e m = absurd (Memᴰ.not-nil m)
edge-elim (f ∷ fs) d e m =
    elim (Memᴰ.cases_cons m) [
      | inl q ↦ this q (edge_of f f.a f.b n.xy a b)
      | inr i ↦ elim (Memᴰ.cases_cons i) [
        | inl q ↦ this q (edge_of f f.b f.c n.yz b c)
        | inr j ↦ elim (Memᴰ.cases_cons j) [
          | inl q ↦ this q (edge_of f f.c f.a (flip≢ n.xz) c a)
          | inr k ↦ let r = edge-elim fs (different-later d) e k in (r.0, Memᴰ.tail r.1, r.2)
        ]
      ]
    ]
  where
    n : Apart f.a f.b f.c
    n = three-apart f.a f.b f.c (d f (Memᴰ.head refl))

    a : mem f.a (corners_of f) ≡ true
    a = mem-first f.a f.b f.c

    b : mem f.b (corners_of f) ≡ true
    b = mem-second f.a f.b f.c

    c : mem f.c (corners_of f) ≡ true
    c = mem-third f.a f.b f.c

    this : {g : Pair} → e ≡ g → Edge f g → (h : Triple) × Memᴰ h (f ∷ fs) × Edge h e
    this q h = (f, Memᴰ.head refl, rw q h)
