-- Edges tried leave no more live elements than there were: a three-to-two takes three away and makes two. Assumes nothing.
use mathlib.Core.Path.{◌≡◌, refl, ap, ◌∙◌}
use mathlib.Core.Bool.{Bool, true, false, not, cond, ◌&&◌}
use mathlib.Core.List.{List, [], ◌∷◌, ◌++◌, map}
use mathlib.Core.Option.{Option, some}
use Prim.Native.Nat.{ℕ, ◌+◌, ◌≤◌}
use native.Mathlib.Nat.{le_trans}
use native.Mathlib.Omega.{arith}
use borrow.Author.Tests.{eqb-true}
use lib.Dec.{eqb, leb}
use lib.ListN.{length, get_or, length-append}
use Rattle.mesh.specs.declared.element.Pair.{Pair}
use Rattle.mesh.specs.declared.element.Tet.{Tet}
use Rattle.mesh.specs.Sort.{sort, unique}
use Rattle.mesh.specs.Complex.{keep}
use Rattle.mesh.specs.Element.{tet, has_all}
use Rattle.mesh.specs.Measure.{Measure}
use Rattle.mesh.specs.Tests.{any}
use Rattle.repair.specs.Flip.{State, slot_has, live, numbers_with, elements_at, emptied, besides, oriented, accepted, replace, try_edge, try_edges}
use Rattle.repair.proofs.Laws.Flip.Slots.{length-with, live-replaced}
use Rattle.repair.proofs.Laws.Flip.Owners.{keep-both}

-- three replaced by two
two-fewer : (σ : List ℕ) (ss : List (Option Tet)) (new : List Tet) → length (numbers_with σ ss) ≡ 3 → length new ≡ 2
    → length (live (emptied (numbers_with σ ss) ss ++ map some new)) ≤ length (live ss)
two-fewer σ ss new three two =
    let rest = keep (λ t. not (has_all σ t)) (live ss) in
    let a = ap length (live-replaced σ ss new) ∙ length-append rest new in
    let b = keep-both (has_all σ) (live ss) in
    let c = length-with σ ss in
    omega arith

module _ (μ : Measure) where
  edge-fewer : (s : State) (e : Pair) → length (live (try_edge μ s e).slots) ≤ length (live s.slots)
  unfolding try_edge replace
  edge-fewer s e =
      go (eqb (length is) 3) (eqb (length others) 3) (any (slot_has (get_or others 0 0 ∷ get_or others 1 0 ∷ get_or others 2 0 ∷ [])) s.slots) (accepted μ (elements_at s.slots is) new) refl
    where
      is : List ℕ
      is = numbers_with (e.a ∷ e.b ∷ []) s.slots

      others : List ℕ
      others = unique eqb (sort leb (besides (e.a ∷ e.b ∷ []) (elements_at s.slots is)))

      new : List Tet
      new = map (oriented μ) (tet (get_or others 0 0) (get_or others 1 0) (get_or others 2 0) e.a ∷ tet (get_or others 0 0) (get_or others 1 0) (get_or others 2 0) e.b ∷ [])

      same : length (live s.slots) ≤ length (live s.slots)
      same = omega arith

      go : (x y z a : Bool) → eqb (length is) 3 ≡ x
          → length (live (cond (x && y) (cond z s (cond a (record { slots = emptied is s.slots ++ map some new; flips = s.flips + 1 }) s)) s).slots) ≤ length (live s.slots)
      go false y z a h = same
      go true false z a h = same
      go true true true a h = same
      go true true false false h = same
      go true true false true h = two-fewer (e.a ∷ e.b ∷ []) s.slots new (eqb-true (length is) 3 h) refl

  -- all edges tried
  pub edges-fewer : (s : State) (es : List Pair) → length (live (try_edges μ s es).slots) ≤ length (live s.slots)
  unfolding try_edges
  edges-fewer s [] = omega arith
  edges-fewer s (e ∷ es) = le_trans (edges-fewer (try_edge μ s e) es) (edge-fewer s e)
