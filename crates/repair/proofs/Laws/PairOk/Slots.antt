-- The tests of a pair need the elements about it only: those of the slots with one of its vertices. Assumes nothing.
use mathlib.Core.Path.{◌≡◌, refl, sym, ap, ap₂, ◌∙◌}
use mathlib.Core.Logic.{inl, inr}
use mathlib.Core.Bool.{Bool, true, false, not, ◌&&◌, ◌||◌}
use mathlib.Core.List.{List, [], ◌∷◌}
use Prim.Native.Nat.{ℕ, ◌≤◌, ◌<◌}
use native.Mathlib.Omega.{arith}
use lib.Dec.{eqb, ltb}
use lib.ListN.{length}
use borrow.Author.Tests.{eqb-true, ltb-true}
use Rattle.geometry.specs.declared.bounds.Options.{Options}
use Rattle.mesh.specs.declared.element.Tet.{Tet}
use Rattle.mesh.specs.Complex.{sub, keep}
use Rattle.mesh.specs.Tests.{every, under, nodup, any}
use Rattle.mesh.specs.Element.{pair, vertices_of}
use Rattle.mesh.specs.Feature.{bits_of, link_ok}
use Rattle.mesh.specs.Intake.{well_numbered}
use Rattle.mesh.specs.inside.List.{gone}
use Rattle.mesh.specs.inside.Star.{gone_word}
use Rattle.mesh.proofs.Laws.Complex.Sets.{split, clash, nope, or_cases, or_left, and-fst, and-snd}
use Rattle.mesh.proofs.Laws.Link.Simplices.{every-mem}
use Rattle.mesh.proofs.Laws.Link.Members.{every-elim}
use Rattle.mesh.proofs.Laws.Link.Order.{link_ok-keep}
use Rattle.repair.specs.Mesh.{Mesh, has}
use Rattle.repair.specs.Improve.{stratum_of, stratum_rule, pair_ok}
use Rattle.repair.specs.inside.Layout.{slot_ok}
use Rattle.repair.specs.inside.improve.PairTest.{elements_link}

-- ---- slots with a vertex

module _ (nv : ℕ) (few : nv ≤ 4096) where
  -- four different vertices stand in it
  slot-numbered : (v : ℕ) → v < nv → (t : Tet) → slot_ok nv t ≡ true → has v t ≡ true → well_numbered nv t ≡ true
  unfolding slot_ok
  slot-numbered v h t ok m =
      elim (or_cases (every (eqb gone_word) (vertices_of t)) (well_numbered nv t) ok) [
        | inl g ↦ let e : gone_word ≡ v = eqb-true gone_word v (every-mem (eqb gone_word) (vertices_of t) g v m) in absurd (omega arith)
        | inr g ↦ g
      ]

  -- so an element does
  numbered-live : (t : Tet) → well_numbered nv t ≡ true → not (gone t) ≡ true
  numbered-live t g =
      let a : t.a < nv = ltb-true t.a nv (and-fst (ltb t.a nv) (under nv (t.b ∷ t.c ∷ t.d ∷ [])) (and-fst (under nv (vertices_of t)) (nodup (vertices_of t)) g)) in
      ap not (nope (λ q. let e : t.a ≡ 4294967295 = eqb-true t.a 4294967295 q in omega arith))

  -- the same of a slot with one of two vertices
  about-numbered : (a b : ℕ) → a < nv → b < nv → (t : Tet) → slot_ok nv t ≡ true → (has a t || has b t) ≡ true → well_numbered nv t ≡ true
  about-numbered a b ha hb t ok m =
      elim (or_cases (has a t) (has b t) m) [ inl l ↦ slot-numbered a ha t ok l | inr l ↦ slot-numbered b hb t ok l ]

-- ---- tests of lists

-- elements that cannot pass may be dropped
any-keep : (ok p q : Tet → Bool) → ((t : Tet) → ok t ≡ true → p t ≡ true → q t ≡ true) → (ts : List Tet) → every ok ts ≡ true → any p (keep q ts) ≡ any p ts
any-keep ok p q h [] all = refl
any-keep ok p q h (t ∷ ts) all =
    let ih = any-keep ok p q h ts (and-snd (ok t) (every ok ts) all) in
    elim (split (q t)) [
      | inl k ↦ rw k (ap (λ (b : Bool). p t || b) ih)
      | inr k ↦
          let f : p t ≡ false = nope (λ g. clash (h t (and-fst (ok t) (every ok ts) all) g) k) in
          rw (k, f) ih
    ]

-- what all that are kept pass
every-keep : (ok p q : Tet → Bool) → ((t : Tet) → ok t ≡ true → q t ≡ true → p t ≡ true) → (ts : List Tet) → every ok ts ≡ true → every p (keep q ts) ≡ true
every-keep ok p q h [] all = refl
every-keep ok p q h (t ∷ ts) all =
    let ih = every-keep ok p q h ts (and-snd (ok t) (every ok ts) all) in
    elim (split (q t)) [
      | inl k ↦ rw (k, h t (and-fst (ok t) (every ok ts) all) k) ih
      | inr k ↦ rw k ih
    ]

-- ---- a pair

module _ (nv a b : ℕ) (few : nv ≤ 4096) (ha : a < nv) (hb : b < nv) (ts : List Tet) (all : every (slot_ok nv) ts ≡ true) where
  abbrev near : Tet → Bool
  near t = has a t || has b t

  abbrev both : Tet → Bool
  both t = has a t && has b t

  -- the elements about it have four different vertices
  pub about-different : every (λ t. nodup (vertices_of t)) (keep near ts) ≡ true
  about-different =
      every-keep (slot_ok nv) (λ t. nodup (vertices_of t)) near
      (λ t ok m. and-snd (under nv (vertices_of t)) (nodup (vertices_of t)) (about-numbered nv few a b ha hb t ok m)) ts all

  -- they decide
  pub about-links : (stratum : ℕ → ℕ) → elements_link stratum a b (keep near ts) ≡ elements_link stratum a b (keep (λ t. not (gone t)) ts)
  unfolding elements_link
  about-links stratum =
      let u : any both (keep near ts) ≡ any both ts = any-keep (slot_ok nv) both near (λ t ok m. or_left (has b t) (and-fst (has a t) (has b t) m)) ts all in
      let v : any both (keep (λ t. not (gone t)) ts) ≡ any both ts =
      any-keep (slot_ok nv) both (λ t. not (gone t)) (λ t ok m. numbered-live nv few t (slot-numbered nv few a ha t ok (and-fst (has a t) (has b t) m))) ts all in
      let f : link_ok stratum a b (keep near ts) ≡ link_ok stratum a b ts = link_ok-keep a b near ts (λ t k m. m) stratum in
      let g : link_ok stratum a b (keep (λ t. not (gone t)) ts) ≡ link_ok stratum a b ts =
      link_ok-keep a b (λ t. not (gone t)) ts (λ t k m. numbered-live nv few t (about-numbered nv few a b ha hb t (every-elim (slot_ok nv) ts all k) m)) stratum in
      ap₂ (λ (p q : Bool). p && (sub (bits_of (stratum a)) (bits_of (stratum b)) && q)) (u ∙ sym v) (f ∙ sym g)

-- ---- the pair's tests

module _ (o : Options) (m : Mesh) (a b : ℕ) (ts : List Tet) where
  -- where the stratum rule holds, those on elements are left
  pub pair-links : stratum_rule o m a b ≡ true → elements_link (stratum_of o m) a b ts ≡ pair_ok o m ts (pair a b)
  unfolding elements_link
  pair-links h =
      let A = sub (bits_of (stratum_of o m a)) (bits_of (stratum_of o m b)) in
      let B = ltb (length (bits_of (stratum_of o m a))) 3 in
      rw (h, and-fst A B h)
