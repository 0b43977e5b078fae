-- The pairs of `surface_link` are the link's edges, of triples with three different corners: each is a link edge, each link edge is one
-- (`link-elim`, `link-intro`), and x is an end of as many as triples have v and x (`link-count`). Assumes nothing.
use mathlib.Core.Path.{◌≡◌, refl, sym, ap, ◌∙◌}
use mathlib.Core.Logic.{◌≢◌, ◌⊎◌, inl, inr}
use mathlib.Core.Bool.{Bool, true, false, ◌||◌}
use mathlib.Core.List.Memᴰ
use mathlib.Core.List.{List, [], ◌∷◌, Memᴰ}
use Prim.Native.Nat.{ℕ, suc}
use borrow.Author.Tests.{eqb-true, ne_eqb}
use lib.Dec.{eqb}
use Rattle.mesh.specs.declared.element.Pair.{Pair}
use Rattle.mesh.specs.declared.element.Triple.{Triple}
use Rattle.mesh.specs.Complex.{mem, Nodup, Sub}
use Rattle.mesh.specs.Element.{corners_of, pair}
use Rattle.mesh.specs.Manifold.{surface_link}
use Rattle.mesh.proofs.Laws.Numbers.{eqb_swap}
use Rattle.mesh.proofs.Laws.Complex.Sets.{split, clash, mem-cases, mem-nil}
use Rattle.mesh.proofs.Laws.Link.Keys.{three-nodup, flip≢}
use Rattle.theorems.specs.Manifold.{Different, triples_on, LinkEdge}
use Rattle.theorems.proofs.Manifold.Corners.{Apart, three-apart, mem-first, mem-second, mem-third, three-sub, different-later}
use Rattle.theorems.proofs.Manifold.Ends.{end_of, degree}

-- ---- one triple

-- x and y are the other two corners of f than v, and the link of v begins with them
record Opposite (v : ℕ) (f : Triple) (x y : ℕ) : Type 0 where
  different : Nodup (v ∷ x ∷ y ∷ [])
  alike : (z : ℕ) → mem z (corners_of f) ≡ mem z (v ∷ x ∷ y ∷ [])
  begins : (fs : List Triple) → surface_link v (f ∷ fs) ≡ pair x y ∷ surface_link v fs

-- v is no corner of f, or a corner with two others
data Seen (v : ℕ) (f : Triple) : Type 0 where
  outside : mem v (corners_of f) ≡ false → ((fs : List Triple) → surface_link v (f ∷ fs) ≡ surface_link v fs) → Seen v f
  corner : {x y : ℕ} → Opposite v f x y → Seen v f

-- three corners in turn
turned : (z a b c : ℕ) → mem z (a ∷ b ∷ c ∷ []) ≡ mem z (b ∷ c ∷ a ∷ [])
turned z a b c = go (eqb z a) (eqb z b) (eqb z c)
  where
    go : (p q r : Bool) → (p || (q || (r || false))) ≡ (q || (r || (p || false)))
    go true true r = refl
    go true false true = refl
    go true false false = refl
    go false true r = refl
    go false false true = refl
    go false false false = refl

nodup-turned : (a b c : ℕ) → Nodup (a ∷ b ∷ c ∷ []) → Nodup (b ∷ c ∷ a ∷ [])
nodup-turned a b c d = let r = three-apart a b c d in three-nodup b c a r.yz (flip≢ r.xy) (flip≢ r.xz)

seen : (v : ℕ) (f : Triple) → Nodup (corners_of f) → Seen v f
unfolding surface_link
seen v f d =
    let n = three-apart f.a f.b f.c d in
    elim (split (eqb f.a v)) [
      | inl p ↦
          let e : f.a ≡ v = eqb-true f.a v p in
          let q : eqb f.b v ≡ false = ne_eqb f.b v (λ t. n.xy (e ∙ sym t)) in
          let r : eqb f.c v ≡ false = ne_eqb f.c v (λ t. n.xz (e ∙ sym t)) in
          corner {x = f.b} {y = f.c} (record { different = rw (← e) d; alike = λ z. rw (← e) refl; begins = λ fs. rw (p, q, r) refl })
      | inr p ↦ elim (split (eqb f.b v)) [
        | inl q ↦
            let e : f.b ≡ v = eqb-true f.b v q in
            let r : eqb f.c v ≡ false = ne_eqb f.c v (λ t. n.yz (e ∙ sym t)) in
            corner {x = f.c} {y = f.a} (record {
              different = rw (← e) (nodup-turned f.a f.b f.c d);
              alike = λ z. rw (← e) (turned z f.a f.b f.c);
              begins = λ fs. rw (p, q, r) refl;
            })
        | inr q ↦ elim (split (eqb f.c v)) [
          | inl r ↦
              let e : f.c ≡ v = eqb-true f.c v r in
              corner {x = f.a} {y = f.b} (record {
                different = rw (← e) (nodup-turned f.b f.c f.a (nodup-turned f.a f.b f.c d));
                alike = λ z. rw (← e) (turned z f.a f.b f.c ∙ turned z f.b f.c f.a);
                begins = λ fs. rw (p, q, r) refl;
              })
          | inr r ↦ outside (rw (eqb_swap v f.a, p, eqb_swap v f.b, q, eqb_swap v f.c, r) refl) (λ fs. rw (p, q, r) refl)
        ]
      ]
    ]

-- ---- the pairs are link edges

edge-later : {v : ℕ} {f : Triple} {fs : List Triple} {x y : ℕ} → LinkEdge v fs x y → LinkEdge v (f ∷ fs) x y
edge-later e = record { face = e.face; listed = Memᴰ.tail e.listed; different = e.different; corners = e.corners }

pub link-elim : (v : ℕ) (fs : List Triple) → Different fs → (e : Pair) → Memᴰ e (surface_link v fs) → LinkEdge v fs e.a e.b
unfolding surface_link
link-elim v [] d e m = absurd (Memᴰ.not-nil m)
link-elim v (f ∷ fs) d e m = go (seen v f (d f (Memᴰ.head refl))) (link-elim v fs (different-later d) e)
  where
    go : Seen v f → (Memᴰ e (surface_link v fs) → LinkEdge v fs e.a e.b) → LinkEdge v (f ∷ fs) e.a e.b
    go (outside o b) ih = edge-later (ih (rw (b fs) at m))
    go (corner {x} {y} k) ih =
        elim (Memᴰ.cases_cons (rw (k.begins fs) at m)) [
          | inl q ↦ rw q (record { face = f; listed = Memᴰ.head refl; different = k.different; corners = λ z n. k.alike z ∙ n })
          | inr q ↦ edge-later (ih q)
        ]

-- ---- the link edges are pairs

-- a corner of a triple other than v is one of the two opposite
other-corner : {v : ℕ} {f : Triple} {x y : ℕ} (z : ℕ) → Opposite v f x y → mem z (corners_of f) ≡ true → v ≢ z → (z ≡ x) ⊎ (z ≡ y)
other-corner {v} {f} {x} {y} z k m n =
    elim (mem-cases z v (x ∷ y ∷ []) (sym (k.alike z) ∙ m)) [
      | inl q ↦ absurd (n (sym q))
      | inr q ↦ elim (mem-cases z x (y ∷ []) q) [
        | inl t ↦ inl t
        | inr t ↦ elim (mem-cases z y [] t) [ inl s ↦ inr s | inr s ↦ absurd (mem-nil z s) ]
      ]
    ]

-- the third corner of a triple
pub third-corner : (v x : ℕ) (f : Triple) → Nodup (corners_of f) → mem v (corners_of f) ≡ true → mem x (corners_of f) ≡ true → v ≢ x
    → (y : ℕ) × Nodup (v ∷ x ∷ y ∷ []) × Sub (v ∷ x ∷ y ∷ []) (corners_of f)
third-corner v x f d p q n = go (seen v f d)
  where
    go : Seen v f → (y : ℕ) × Nodup (v ∷ x ∷ y ∷ []) × Sub (v ∷ x ∷ y ∷ []) (corners_of f)
    go (outside o b) = absurd (clash p o)
    go (corner {x = s} {y = t} k) =
        let r = three-apart v s t k.different in
        elim (other-corner x k q n) [
          | inl e ↦ rw e (t, k.different, λ z m. k.alike z ∙ m)
          | inr e ↦ rw e (
            s,
            three-nodup v t s r.xz r.xy (flip≢ r.yz),
            three-sub v t s (corners_of f) (k.alike v ∙ mem-first v s t) (k.alike t ∙ mem-third v s t) (k.alike s ∙ mem-second v s t),
          )
        ]

pub link-intro : (v : ℕ) (fs : List Triple) → Different fs → (x y : ℕ) (e : LinkEdge v fs x y)
    → Memᴰ (pair x y) (surface_link v fs) ⊎ Memᴰ (pair y x) (surface_link v fs)
link-intro v fs d x y e = find fs d e.listed
  where
    n : Apart v x y
    n = three-apart v x y e.different

    find : (hs : List Triple) → Different hs → Memᴰ e.face hs → Memᴰ (pair x y) (surface_link v hs) ⊎ Memᴰ (pair y x) (surface_link v hs)
    find [] c m = absurd (Memᴰ.not-nil m)
    find (f ∷ hs) c m = go (seen v f (c f (Memᴰ.head refl))) (Memᴰ.cases_cons m) (find hs (different-later c))
      where
        go : Seen v f → (e.face ≡ f) ⊎ Memᴰ e.face hs
            → (Memᴰ e.face hs → Memᴰ (pair x y) (surface_link v hs) ⊎ Memᴰ (pair y x) (surface_link v hs))
            → Memᴰ (pair x y) (surface_link v (f ∷ hs)) ⊎ Memᴰ (pair y x) (surface_link v (f ∷ hs))
        go (outside o b) (inl q) ih = absurd (clash (e.corners v (mem-first v x y)) (rw q o))
        go (outside o b) (inr q) ih = rw (b hs) (ih q)
        go (corner k) (inr q) ih = rw (k.begins hs) (elim (ih q) [ inl t ↦ inl (Memᴰ.tail t) | inr t ↦ inr (Memᴰ.tail t) ])
        go (corner {x = p} {y = q} k) (inl t) ih =
            let mx : mem x (corners_of f) ≡ true = rw t at (e.corners x (mem-second v x y)) in
            let my : mem y (corners_of f) ≡ true = rw t at (e.corners y (mem-third v x y)) in
            rw (k.begins hs)
            (elim (other-corner x k mx n.xy) [
              | inl h ↦ elim (other-corner y k my n.xz) [ inl l ↦ absurd (n.yz (h ∙ sym l)) | inr l ↦ inl (rw (h, l) (Memᴰ.head refl)) ]
              | inr h ↦ elim (other-corner y k my n.xz) [ inl l ↦ inr (rw (h, l) (Memᴰ.head refl)) | inr l ↦ absurd (n.yz (h ∙ sym l)) ]
            ])

-- ---- how many

pub link-count : (v x : ℕ) (fs : List Triple) → Different fs → v ≢ x → degree x (surface_link v fs) ≡ triples_on v x fs
unfolding surface_link
link-count v x [] d n = refl
link-count v x (f ∷ fs) d n = go (seen v f (d f (Memᴰ.head refl))) (link-count v x fs (different-later d) n)
  where
    go : Seen v f → degree x (surface_link v fs) ≡ triples_on v x fs → degree x (surface_link v (f ∷ fs)) ≡ triples_on v x (f ∷ fs)
    go (outside o b) ih = rw (b fs, o) ih
    go (corner {x = p} {y = q} k) ih =
        rw (k.begins fs, k.alike v, mem-first v p q, k.alike x, ne_eqb x v (flip≢ n))
        (elim (split (end_of x (pair p q))) [ inl h ↦ rw h (ap suc ih) | inr h ↦ rw h ih ])
