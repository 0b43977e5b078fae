-- The elements about a pair, gathered in the area behind the layout. Assumes nothing.
use mathlib.Core.Path.{◌≡◌, sym, ap, subst, ◌∙◌}
use mathlib.Core.Bool.{true, ◌||◌}
use mathlib.Core.List.{List}
use Prim.Native.Nat.{ℕ, ◌+◌, ◌*◌, ◌≤◌, ◌<◌}
use native.Mathlib.Omega.{arith}
use lib.ListN.{length, drop}
use Rattle.geometry.specs.declared.bounds.Options.{Options}
use Rattle.mesh.specs.declared.star.Index.{Index}
use Rattle.mesh.specs.Complex.{keep}
use Rattle.mesh.specs.Tests.{every, nodup}
use Rattle.mesh.specs.Element.{pair, tets, vertices_of}
use Rattle.mesh.specs.inside.Star.{Complete, star_of, star_list, starred}
use Rattle.mesh.specs.inside.About.{elements_in}
use Rattle.mesh.proofs.Laws.Intake.Reads.{length-tets}
use Rattle.mesh.proofs.Laws.List.Bad.{keep-few}
use Rattle.mesh.proofs.Laws.Star.Calls.{Answered, star-count, star-answered}
use Rattle.mesh.proofs.Laws.About.Calls.{Copied, pair-elements, pair-many}
use Rattle.repair.specs.Mesh.{Mesh, has}
use Rattle.repair.specs.Improve.{State, stratum_of, stratum_rule, pair_ok}
use Rattle.repair.specs.inside.Layout.{Room, Stands, Same, slots_in, live_in}
use Rattle.repair.specs.inside.improve.PairTest.{elements_link}
use Rattle.repair.proofs.Laws.Layout.{room-laid}
use Rattle.repair.proofs.Laws.Same.{same-trans, same-wider, same-front}
use Rattle.repair.proofs.Laws.PairOk.Slots.{about-different, about-links, pair-links}

-- k elements about a and b stand in t behind k words at the area's front; before the area t is the same as w
pub record Gathered (x : Index) (n a b : ℕ) (w t : List ℕ) (k : ℕ) : Type 0 where
  pub same : Same w t x.area (length w)
  pub few : k ≤ n
  pub elements : tets k (drop (x.area + k) t) ≡ keep (λ e. has a e || has b e) (slots_in x n w)

-- the area begins low, and has room for 128 words an element
pub area-low : (x : Index) (n m : ℕ) → Room x n m → (x.area ≤ 1048576) × (x.area + 128 * n ≤ m)
area-low x n m r =
    let a = r.few in let b = r.elements in let c = r.slots in let d = r.nexts in let e = r.heads in let f = r.lengths in let g = r.area in let h = r.long in
    (omega arith, omega arith)

module _ (x : Index) (n a b : ℕ) (w : List ℕ) (r : Room x n (length w)) (ha : a < x.vertices) (hb : b < x.vertices) where
  -- `star`, then `elements_at`
  pub gathered : Complete x w (4 * n) → (k : ℕ) (w₁ w₂ : List ℕ) → k ≡ length (star_list x w a b) → w₁ ≡ starred x w a b → w₂ ≡ elements_in x k w₁ → Gathered x n a b w w₂ k
  gathered index k w₁ w₂ ek e₁ e₂ =
      let l = room-laid r in
      let hn : n ≤ x.room = let q = r.room in omega arith in
      let low = (area-low x n (length w) r).1 in
      let ts = slots_in x n w in
      let us = star_of a b ts in
      let about = keep (λ e. has a e || has b e) ts in
      let ku : k ≡ length us = ek ∙ star-count x w n l hn index a b ha hb (omega arith) in
      let ka : k ≡ length about = ku ∙ pair-many a b ts in
      let few : k ≤ n = omega (arith, ka, keep-few (λ e. has a e || has b e) ts, length-tets n (drop x.slots w)) in
      let c : Answered w w₁ x.area us = subst (λ (y : List ℕ). Answered w y x.area us) (sym e₁) (star-answered x w n l hn index a b ha hb (omega arith)) in
      let d : Copied w₁ (elements_in x (length us) w₁) (x.area + length us) about = pair-elements x w n l hn a b w₁ c (omega (arith, ku, few)) in
      let d₂ : Copied w₁ w₂ (x.area + k) about =
      subst (λ (y : List ℕ). Copied w₁ y (x.area + k) about) (sym e₂) (subst (λ (i : ℕ). Copied w₁ (elements_in x i w₁) (x.area + i) about) (sym ku) d) in
      record {
        same = same-front x.area (d₂.long ∙ c.long) (λ j h. d₂.below j (omega arith) ∙ c.below j h);
        few = few;
        elements = ap (λ (i : ℕ). tets i (drop (x.area + k) w₂)) ka ∙ d₂.elements;
      }

  module _ (t : List ℕ) (k : ℕ) (g : Gathered x n a b w t k) (o : Options) (m : Mesh) (s : State) (z : Stands o m x n w s) where
    -- they may be tested
    pub gathered-ready : (x.area + k ≤ 4194304) × (k ≤ 16384) × (x.area + k + 88 * k ≤ length t) × (every (λ e. nodup (vertices_of e)) (tets k (drop (x.area + k) t)) ≡ true)
    gathered-ready =
        let low = area-low x n (length w) r in
        let few = g.few in
        let most = r.elements in
        let long = g.same.long in (
          omega (arith, low.0),
          omega arith,
          omega (arith, low.1),
          ap (every (λ e. nodup (vertices_of e))) g.elements ∙ about-different x.vertices a b r.few ha hb (slots_in x n w) z.proper,
        )

    -- the test is the pair's
    pub gathered-pair : stratum_rule o m a b ≡ true → elements_link (stratum_of o m) a b (tets k (drop (x.area + k) t)) ≡ pair_ok o m s.elements (pair a b)
    unfolding live_in
    gathered-pair h =
        ap (elements_link (stratum_of o m) a b) g.elements
        ∙ about-links x.vertices a b r.few ha hb (slots_in x n w) z.proper (stratum_of o m)
        ∙ ap (elements_link (stratum_of o m) a b) (sym z.elements)
        ∙ pair-links o m a b s.elements h

  -- what the test leaves
  pub gathered-same : (t : List ℕ) (k : ℕ) → Gathered x n a b w t k → (t' : List ℕ) → Same t t' (x.area + k) (x.area + k + 88 * k) → Same w t' x.area (length w)
  gathered-same t k g t' q =
      let low = (area-low x n (length w) r).1 in
      let few = g.few in
      same-trans g.same (same-wider x.area (length w) (omega arith) (omega arith) q)
