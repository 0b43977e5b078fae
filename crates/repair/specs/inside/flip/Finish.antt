-- The end of `flip` in an area, as src/flip/finish.rt finds it. For the contracts of private functions; definitions only.
use Rattle.std.specs.Prelude.{ℕ, ◌+◌, ◌*◌, ◌≤◌, ◌≡◌, true, cond, List, eqb, length, take, drop}
use Rattle.mesh.specs.declared.element.Tet.{Tet}
use Rattle.mesh.specs.declared.element.Triple.{Triple}
use Rattle.mesh.specs.Surface.{Outcome}
use Rattle.mesh.specs.Surface.{Surface, Refused}
use Rattle.mesh.specs.Element.{tets, triples, all_corners, all_vertices}
use Rattle.mesh.specs.Boundary.{boundary_of}
use Rattle.mesh.specs.Surface.{answer}
use Rattle.mesh.specs.inside.Surface.{area_fits}
use Rattle.repair.specs.Flip.{sorted_keys, same_triples, end_number}
use Rattle.repair.specs.Step.{over}
use Rattle.repair.specs.Step.{Answer}
use Rattle.repair.specs.Step as answers

-- what the comparison with the g triples given makes of an outcome, with the surface behind k elements in s
abbrev pub keyed_outcome : ℕ → ℕ → Outcome → List ℕ → List ℕ → Outcome
keyed_outcome k g (Surface c) s f = cond (same_triples (sorted_keys (triples c (drop (4 * k) s))) (sorted_keys (triples g f))) (Surface c) (Refused 23)
keyed_outcome k g (Refused number) s f = Refused number

-- the answer for the k elements of s₀; with no number they are kept, and the triples stand behind them
pub record SurfaceEnded (k g : ℕ) (f s₀ s : List ℕ) (r : Outcome) : Type 0 where
  pub answer : r ≡ answer (end_number (triples g f) (tets k s₀)) (length (boundary_of (tets k s₀)))
  pub front : end_number (triples g f) (tets k s₀) ≡ 0 → take (4 * k) s ≡ take (4 * k) s₀
  pub surface : end_number (triples g f) (tets k s₀) ≡ 0 → take (3 * length (boundary_of (tets k s₀))) (drop (4 * k) s) ≡ all_corners (boundary_of (tets k s₀))

-- room for the end with k elements and g triples given, in buffers of e and f words and an area of m words
pub record EndRoom (k g e f m : ℕ) : Type 0 where
  pub fits : area_fits k (36 * k) ≡ true
  pub few : k ≤ 65536
  pub given : g ≤ 65536
  pub area : 36 * k + 18 * g ≤ m
  pub surface : 3 * g ≤ f
  pub elements : 4 * k ≤ e

-- the answer, the elements' buffer and the surface's for nv vertices, the elements ts and the given surface fs
unfoldable pub flip_end : ℕ → ℕ → List Triple → List Tet → List ℕ → List ℕ → Answer × List ℕ × List ℕ
flip_end count nv fs ts es ss =
    cond (eqb (end_number fs ts) 0)
    (answers.Done count (record { vertices = nv; elements = length ts; triples = length (boundary_of ts) }), over (all_vertices ts) es, over (all_corners (boundary_of ts)) ss)
    (answers.Refused (end_number fs ts), es, ss)
