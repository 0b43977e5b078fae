-- One slot, and lists of slots, once a went into b: the live ones are the elements collapsed by the pair. Assumes nothing.
use mathlib.Core.Path.{◌≡◌, refl, sym, ap, subst, ◌∙◌}
use mathlib.Core.Logic.{◌≢◌, ◌⊎◌, inl, inr}
use mathlib.Core.Bool.{Bool, true, false, not, cond, ◌&&◌, ◌||◌, true≢false}
use mathlib.Core.List.{List, [], ◌∷◌, map}
use Prim.Native.Nat.{ℕ, ◌≤◌, ◌<◌}
use native.Mathlib.Omega.{arith}
use borrow.Author.Tests.{eqb-true, ne_eqb}
use lib.Dec.{eqb}
use Rattle.mesh.specs.declared.element.Tet.{Tet}
use Rattle.mesh.specs.Complex.{keep}
use Rattle.mesh.specs.Tests.{every, nodup, under}
use Rattle.mesh.specs.Feature.{onto}
use Rattle.mesh.specs.Element.{pair, vertices_of}
use Rattle.mesh.specs.Intake.{well_numbered}
use Rattle.mesh.specs.inside.List.{gone}
use Rattle.mesh.specs.inside.Star.{gone_word, gone_tet}
use Rattle.mesh.proofs.Laws.Bools.{and_intro}
use Rattle.mesh.proofs.Laws.Complex.Sets.{split, nope, or_cases, and-fst, and-snd, mem-here, out-head, out-tail}
use Rattle.mesh.proofs.Laws.Link.Labels.{onto-other}
use Rattle.repair.specs.Mesh.{has}
use Rattle.repair.specs.Improve.{image_of, collapsed}
use Rattle.repair.specs.inside.Layout.{slot_ok}
use Rattle.repair.specs.inside.improve.Collapse.{slot_after}
use Rattle.repair.proofs.Laws.Improve.Collapse.{nodup-onto, merged, collapsed-merged}
use Rattle.mesh.proofs.Laws.Complex.Collapse.{onto-cases}
use Rattle.mesh.proofs.Laws.Complex.Tests.{nodup-sound, under-sound, under-true}

-- ---- a slot without a

-- an element without a is its own image
pub image-none : (a b : ℕ) (t : Tet) → has a t ≡ false → image_of (onto a b) t ≡ t
image-none a b t h =
    let h₁ = out-tail a t.a (t.b ∷ t.c ∷ t.d ∷ []) h in
    let h₂ = out-tail a t.b (t.c ∷ t.d ∷ []) h₁ in
    let h₃ = out-tail a t.c (t.d ∷ []) h₂ in
    rw (
      own t.a (out-head a t.a (t.b ∷ t.c ∷ t.d ∷ []) h),
      own t.b (out-head a t.b (t.c ∷ t.d ∷ []) h₁),
      own t.c (out-head a t.c (t.d ∷ []) h₂),
      own t.d (out-head a t.d [] h₃),
    ) refl
  where
    own : (v : ℕ) → a ≢ v → onto a b v ≡ v
    own v n = onto-other a b v (λ e. n (sym e))

-- and stays
pub after_none : (a b : ℕ) (t : Tet) → has a t ≡ false → slot_after a b t ≡ t
unfolding slot_after
after_none a b t h = ap (λ q. cond (q && has b t) gone_tet (image_of (onto a b) t)) h ∙ image-none a b t h

-- a gone slot has no vertex
pub gone-has : (v : ℕ) → v ≢ gone_word → has v gone_tet ≡ false
gone-has v n = rw (ne_eqb v gone_word n) refl

module _ (a b : ℕ) (ab : a ≢ b) (ga : a ≢ gone_word) where
  -- no slot has a afterwards
  pub after-out : (t : Tet) → has a (slot_after a b t) ≡ false
  unfolding slot_after
  after-out t = go (has a t && has b t)
    where
      go : (q : Bool) → has a (cond q gone_tet (image_of (onto a b) t)) ≡ false
      go true = gone-has a ga
      go false = nope (λ m. elim (onto-cases a b a (vertices_of t) m) [ inl q ↦ q.1 refl | inr q ↦ ab q.0 ])

  -- so that a second time changes nothing
  pub after-twice : (t : Tet) → slot_after a b (slot_after a b t) ≡ slot_after a b t
  after-twice t = after_none a b (slot_after a b t) (after-out t)

-- ---- what a slot holds

all-gone : (t : Tet) → every (eqb gone_word) (vertices_of t) ≡ true → t ≡ gone_tet
all-gone t h =
    let h₁ = and-snd (eqb gone_word t.a) (every (eqb gone_word) (t.b ∷ t.c ∷ t.d ∷ [])) h in
    let h₂ = and-snd (eqb gone_word t.b) (every (eqb gone_word) (t.c ∷ t.d ∷ [])) h₁ in
    let h₃ = and-snd (eqb gone_word t.c) (every (eqb gone_word) (t.d ∷ [])) h₂ in
    rw (
      sym (eqb-true gone_word t.a (and-fst (eqb gone_word t.a) (every (eqb gone_word) (t.b ∷ t.c ∷ t.d ∷ [])) h)),
      sym (eqb-true gone_word t.b (and-fst (eqb gone_word t.b) (every (eqb gone_word) (t.c ∷ t.d ∷ [])) h₁)),
      sym (eqb-true gone_word t.c (and-fst (eqb gone_word t.c) (every (eqb gone_word) (t.d ∷ [])) h₂)),
      sym (eqb-true gone_word t.d (and-fst (eqb gone_word t.d) (every (eqb gone_word) []) h₃)),
    ) refl

-- nothing, or an element with four different vertices
pub ok-cases : (nv : ℕ) (t : Tet) → slot_ok nv t ≡ true → (t ≡ gone_tet) ⊎ (well_numbered nv t ≡ true)
unfolding slot_ok
ok-cases nv t h =
    elim (or_cases (every (eqb gone_word) (vertices_of t)) (well_numbered nv t) h) [ inl g ↦ inl (all-gone t g) | inr g ↦ inr g ]

pub ok-gone : (nv : ℕ) → slot_ok nv gone_tet ≡ true
unfolding slot_ok
ok-gone nv = refl

pub ok-well : (nv : ℕ) (t : Tet) → well_numbered nv t ≡ true → slot_ok nv t ≡ true
unfolding slot_ok
ok-well nv t h = elim (split (every (eqb gone_word) (vertices_of t))) [ inl g ↦ rw g refl | inr g ↦ rw g h ]

module _ (nv : ℕ) (few : nv ≤ 4096) where
  -- an element is not gone
  pub well-there : (t : Tet) → well_numbered nv t ≡ true → gone t ≡ false
  well-there t h =
      let l = under-sound nv (vertices_of t) (and-fst (under nv (vertices_of t)) (nodup (vertices_of t)) h) t.a (mem-here t.a (t.b ∷ t.c ∷ t.d ∷ [])) in
      ne_eqb t.a 4294967295 (λ e. omega arith)

  module _ (a b : ℕ) (ab : a ≢ b) (ha : a < nv) (hb : b < nv) where
    ga : a ≢ gone_word
    ga e = omega arith

    -- an element goes where it has both, and else b takes a's place
    pub data Fate (t : Tet) : Type 0 where
      none : t ≡ gone_tet → slot_after a b t ≡ gone_tet → Fate t
      goes : gone t ≡ false → slot_after a b t ≡ gone_tet → nodup (vertices_of (image_of (onto a b) t)) ≡ false → Fate t
      stays : gone t ≡ false → slot_after a b t ≡ image_of (onto a b) t → nodup (vertices_of (image_of (onto a b) t)) ≡ true
          → well_numbered nv (image_of (onto a b) t) ≡ true → Fate t

    pub fate : (t : Tet) → slot_ok nv t ≡ true → Fate t
    unfolding slot_after
    fate t h =
        elim (ok-cases nv t h) [
          | inl g ↦ none g (ap (slot_after a b) g ∙ after_none a b gone_tet (gone-has a ga))
          | inr g ↦
              let d = nodup-onto a b ab (vertices_of t) (nodup-sound (vertices_of t) (and-snd (under nv (vertices_of t)) (nodup (vertices_of t)) g)) in
              elim (split (has a t && has b t)) [
                | inl q ↦ goes (well-there t g) (ap (λ p. cond p gone_tet (image_of (onto a b) t)) q) (d ∙ ap not q)
                | inr q ↦
                    let e = d ∙ ap not q in
                    stays (well-there t g) (ap (λ p. cond p gone_tet (image_of (onto a b) t)) q) e
                    (and_intro (under nv (vertices_of (image_of (onto a b) t))) (nodup (vertices_of (image_of (onto a b) t))) (low t g) e)
              ]
        ]
      where
        low : (t : Tet) → well_numbered nv t ≡ true → under nv (vertices_of (image_of (onto a b) t)) ≡ true
        low t g =
            under-true nv (vertices_of (image_of (onto a b) t)) (λ v m.
            elim (onto-cases a b v (vertices_of t) m) [
              | inl q ↦ under-sound nv (vertices_of t) (and-fst (under nv (vertices_of t)) (nodup (vertices_of t)) g) v q.0
              | inr q ↦ subst (λ u. u < nv) (sym q.0) hb
            ])

    -- a slot stays proper
    pub after-ok : (t : Tet) → slot_ok nv t ≡ true → slot_ok nv (slot_after a b t) ≡ true
    after-ok t h =
        elim (fate t h) [
          | none g e ↦ ap (slot_ok nv) e ∙ ok-gone nv
          | goes g e d ↦ ap (slot_ok nv) e ∙ ok-gone nv
          | stays g e d w ↦ ap (slot_ok nv) e ∙ ok-well nv (image_of (onto a b) t) w
        ]

    pub all-ok : (ts : List Tet) → every (slot_ok nv) ts ≡ true → every (slot_ok nv) (map (slot_after a b) ts) ≡ true
    all-ok [] h = refl
    all-ok (t ∷ ts) h =
        rw (after-ok t (and-fst (slot_ok nv t) (every (slot_ok nv) ts) h)) (all-ok ts (and-snd (slot_ok nv t) (every (slot_ok nv) ts) h))

    live-merged : (ts : List Tet) → every (slot_ok nv) ts ≡ true
        → keep (λ t. not (gone t)) (map (slot_after a b) ts) ≡ merged a b (keep (λ t. not (gone t)) ts)
    live-merged [] h = refl
    live-merged (t ∷ ts) h =
        let ih = live-merged ts (and-snd (slot_ok nv t) (every (slot_ok nv) ts) h) in
        elim (fate t (and-fst (slot_ok nv t) (every (slot_ok nv) ts) h)) [
          | none g e ↦ rw (e, g) ih
          | goes g e d ↦ rw (e, g, d) ih
          | stays g e d w ↦ rw (e, g, d, well-there (image_of (onto a b) t) w) (ap (λ l. image_of (onto a b) t ∷ l) ih)
        ]

    -- the live slots are the elements collapsed by the pair
    pub live-after : (ts : List Tet) → every (slot_ok nv) ts ≡ true
        → keep (λ t. not (gone t)) (map (slot_after a b) ts) ≡ collapsed (pair a b ∷ []) (keep (λ t. not (gone t)) ts)
    live-after ts h = live-merged ts h ∙ sym (collapsed-merged a b (keep (λ t. not (gone t)) ts))

-- ---- every vertex stays

-- elements that are their own images stay
pub live_same : (nv : ℕ) (ρ : ℕ → ℕ) → ((v : ℕ) → ρ v ≡ v) → (ts : List Tet) → every (slot_ok nv) ts ≡ true
    → keep (λ t. nodup (vertices_of t)) (map (image_of ρ) (keep (λ t. not (gone t)) ts)) ≡ keep (λ t. not (gone t)) ts
live_same nv ρ own [] h = refl
live_same nv ρ own (t ∷ ts) h =
    let ih = live_same nv ρ own ts (and-snd (slot_ok nv t) (every (slot_ok nv) ts) h) in
    elim (split (gone t)) [
      | inl g ↦ rw g ih
      | inr g ↦ elim (ok-cases nv t (and-fst (slot_ok nv t) (every (slot_ok nv) ts) h)) [
        | inl q ↦ absurd (true≢false (sym (ap gone q) ∙ g))
        | inr q ↦
            let d = ap (λ (u : Tet). nodup (vertices_of u)) image ∙ and-snd (under nv (vertices_of t)) (nodup (vertices_of t)) q in
            rw (g, d, image) (ap (λ l. t ∷ l) ih)
      ]
    ]
  where
    image : image_of ρ t ≡ t
    image = rw (own t.a, own t.b, own t.c, own t.d) refl

-- ---- the tests of src/improve/collapse.rt

-- the last of a list's tests
pub last_one : (q : Bool) → q ≡ (q || false)
last_one true = refl
last_one false = refl

-- a slot with both is gone
pub after_both : (a b : ℕ) (t : Tet) → has a t ≡ true → has b t ≡ true → gone_tet ≡ slot_after a b t
unfolding slot_after
after_both a b t h g = sym (ap (λ q. cond (q && has b t) gone_tet (image_of (onto a b) t)) h ∙ ap (λ q. cond q gone_tet (image_of (onto a b) t)) g)

-- in a slot without b a becomes b
pub after_one : (a b : ℕ) (t : Tet) → has a t ≡ true → has b t ≡ false → image_of (onto a b) t ≡ slot_after a b t
unfolding slot_after
after_one a b t h g =
    sym (ap (λ q. cond (q && has b t) gone_tet (image_of (onto a b) t)) h ∙ ap (λ q. cond q gone_tet (image_of (onto a b) t)) g)
