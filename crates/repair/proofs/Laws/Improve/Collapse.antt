-- One pair goes: as lists of vertices, `collapsed` by the pair (a, b) is the move `collapse` of Moves.antt. So a pair that shares an
-- element and passes `link_ok` makes a step that keeps the alternating count. Assumes nothing.
use mathlib.Core.Path.{◌≡◌, refl, sym, ap, fun_ext, ◌∙◌}
use mathlib.Core.Logic.{◌≢◌, inl, inr}
use mathlib.Core.Bool.{Bool, true, false, not, cond, ◌&&◌, true≢false, and-true}
use mathlib.Core.List.Memᴰ
use mathlib.Core.List.{List, [], ◌∷◌, map}
use Prim.Native.Nat.{ℕ}
use borrow.Author.Tests.{eqb-true, eqb-false, eq-eqb, ne_eqb}
use lib.Dec.{eqb}
use Rattle.mesh.specs.declared.element.Tet.{Tet}
use Rattle.mesh.specs.Complex.{mem, sub, within, keep, Nodup}
use Rattle.mesh.specs.inside.Complex.{Proper}
use Rattle.mesh.specs.Tests.{nodup, any}
use Rattle.mesh.specs.inside.Moves.{collapse, Step, collapses}
use Rattle.mesh.specs.Feature.{onto, link_ok}
use Rattle.mesh.specs.Element.{pair, vertices_of}
use Rattle.mesh.proofs.Laws.Complex.Sets.{split, nope, clash, same, or_cases, or_left, or_right, out-head, out-tail}
use Rattle.mesh.proofs.Laws.Complex.Tests.{nodup-true}
use Rattle.mesh.proofs.Laws.Link.Keys.{Fours, proper-fours}
use Rattle.mesh.proofs.Laws.Link.Labels.{onto-member, onto-other, onto-a}
use Rattle.mesh.proofs.Laws.Link.Together.{link_ok-collapsible}
use Rattle.mesh.proofs.Laws.Complex.Collapse.{onto-cases}
use Rattle.repair.specs.Mesh.{has}
use Rattle.repair.specs.Improve.{image, image_of, collapsed}

-- ---- b in the place of a

pub image-onto : (a b v : ℕ) → image (pair a b ∷ []) v ≡ onto a b v
unfolding image
image-onto a b v =
    elim (split (eqb a v)) [
      | inl h ↦ rw (h, eq-eqb v a (sym (eqb-true a v h))) refl
      | inr h ↦ rw (h, ne_eqb v a (λ e. eqb-false a v h (sym e))) refl
    ]

onto-none : (a b : ℕ) (e : List ℕ) → mem a e ≡ false → map (onto a b) e ≡ e
onto-none a b [] h = refl
onto-none a b (x ∷ e) h = rw (onto-other a b x (λ q. out-head a x e h (sym q))) (ap (λ l. x ∷ l) (onto-none a b e (out-tail a x e h)))

onto-out : (a b z : ℕ) (e : List ℕ) → z ≢ b → mem z e ≡ false → mem z (map (onto a b) e) ≡ false
onto-out a b z e n o = nope (λ h. elim (onto-cases a b z e h) [ inl q ↦ clash q.0 o | inr q ↦ n q.0 ])

onto-into : (a b : ℕ) (e : List ℕ) → mem b e ≡ false → mem b (map (onto a b) e) ≡ mem a e
onto-into a b e o =
    same
    (λ h. elim (onto-cases a b b e h) [ inl q ↦ absurd (clash q.0 o) | inr q ↦ q.1 ])
    (λ h. rw (onto-a a b) at (onto-member a b a e h))

twice : (t : Bool) → (not t && not (t && false)) ≡ not (t && true)
twice true = refl
twice false = refl

-- different vertices stay different unless both a and b are among them
pub nodup-onto : (a b : ℕ) → a ≢ b → (e : List ℕ) → Nodup e → nodup (map (onto a b) e) ≡ not (mem a e && mem b e)
nodup-onto a b ab [] d = refl
nodup-onto a b ab (x ∷ e) d =
    let ih : nodup (map (onto a b) e) ≡ not (mem a e && mem b e) = nodup-onto a b ab e d.1 in
    elim (split (eqb x a)) [
      | inl h ↦
          let q : x ≡ a = eqb-true x a h in
          let o : mem a e ≡ false = rw q at d.0 in
          rw (h, onto-none a b e o, nodup-true e d.1, eq-eqb a x (sym q), ne_eqb b x (λ r. ab (sym (r ∙ q)))) (and-true (not (mem b e)))
      | inr h ↦
          let na = eqb-false x a h in
          elim (split (eqb x b)) [
            | inl k ↦
                let q : x ≡ b = eqb-true x b k in
                let o : mem b e ≡ false = rw q at d.0 in
                let i : mem x (map (onto a b) e) ≡ mem a e = ap (λ z. mem z (map (onto a b) e)) q ∙ onto-into a b e o in
                rw (h, i, ih, o, ne_eqb a x (λ r. na (sym r)), eq-eqb b x (sym q)) (twice (mem a e))
            | inr k ↦
                let nb = eqb-false x b k in
                rw (h, onto-out a b x e nb d.0, ih, ne_eqb a x (λ r. na (sym r)), ne_eqb b x (λ r. nb (sym r))) refl
          ]
    ]

-- ---- the elements

-- the images of the elements that keep four vertices
abbrev pub merged : ℕ → ℕ → List Tet → List Tet
merged a b ts = keep (λ t. nodup (vertices_of t)) (map (image_of (onto a b)) ts)

pub collapsed-merged : (a b : ℕ) (ts : List Tet) → collapsed (pair a b ∷ []) ts ≡ merged a b ts
collapsed-merged a b ts = ap (λ ρ. keep (λ t. nodup (vertices_of t)) (map (image_of ρ) ts)) (fun_ext (image-onto a b))

merged-vertices : (a b : ℕ) → a ≢ b → (ts : List Tet) → Fours ts → map vertices_of (merged a b ts) ≡ collapse a b (map vertices_of ts)
merged-vertices a b ab [] F = refl
merged-vertices a b ab (t ∷ ts) F =
    go (nodup (map (onto a b) (vertices_of t))) (not (mem a (vertices_of t) && mem b (vertices_of t))) (nodup-onto a b ab (vertices_of t) (F t (Memᴰ.head refl))) (merged-vertices a b ab ts (λ u k. F u (Memᴰ.tail k)))
  where
    go : (p q : Bool) → p ≡ q → map vertices_of (merged a b ts) ≡ collapse a b (map vertices_of ts)
        → map vertices_of (cond p (image_of (onto a b) t ∷ merged a b ts) (merged a b ts)) ≡ map (map (onto a b)) (cond q (vertices_of t ∷ keep (λ e. not (mem a e && mem b e)) (map vertices_of ts)) (keep (λ e. not (mem a e && mem b e)) (map vertices_of ts)))
    go true true e ih = ap (λ l. map (onto a b) (vertices_of t) ∷ l) ih
    go false false e ih = ih
    go true false e ih = absurd (true≢false e)
    go false true e ih = absurd (true≢false (sym e))

-- as lists of vertices it is the move
pub collapsed-vertices : (a b : ℕ) → a ≢ b → (ts : List Tet) → Fours ts → map vertices_of (collapsed (pair a b ∷ []) ts) ≡ collapse a b (map vertices_of ts)
collapsed-vertices a b ab ts F = ap (map vertices_of) (collapsed-merged a b ts) ∙ merged-vertices a b ab ts F

-- a pair that shares an element is an edge
pub shared-edge : (a b : ℕ) (ts : List Tet) → any (λ t. has a t && has b t) ts ≡ true → within (a ∷ b ∷ []) (map vertices_of ts) ≡ true
shared-edge a b [] h = absurd (true≢false (sym h))
shared-edge a b (t ∷ ts) h =
    elim (or_cases (has a t && has b t) (any (λ u. has a u && has b u) ts) h) [
      | inl q ↦ or_left (within (a ∷ b ∷ []) (map vertices_of ts)) (ap (λ p. has a t && p) (and-true (has b t)) ∙ q)
      | inr q ↦ or_right (sub (a ∷ b ∷ []) (vertices_of t)) (shared-edge a b ts q)
    ]

-- a pair that shares an element and passes `link_ok` makes a step
pub collapse-step : (stratum : ℕ → ℕ) (n a b : ℕ) (ts : List Tet) → Proper n (map vertices_of ts) → a ≢ b → any (λ t. has a t && has b t) ts ≡ true → link_ok stratum a b ts ≡ true
    → Step n (map vertices_of ts) n (map vertices_of (collapsed (pair a b ∷ []) ts))
collapse-step stratum n a b ts P ab w l =
    let F = proper-fours n ts P in
    collapses a b (link_ok-collapsible stratum a b ts F ab (shared-edge a b ts w) l) refl (collapsed-vertices a b ab ts F)
