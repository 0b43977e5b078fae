-- A round of `improve` in the work slice, for the contracts of private functions. Definitions only.
use Rattle.std.specs.Prelude.{ℕ, ◌≤◌, ◌≡◌, Bool, true, false, cond, ◌&&◌, List, eqb, ltb, Option, None, Some}
use Rattle.geometry.specs.declared.bounds.Options.{Options}
use Rattle.mesh.specs.declared.element.Pair.{Pair}
use Rattle.mesh.specs.declared.star.Index.{Index}
use Rattle.mesh.specs.Element.{pair}
use Rattle.mesh.specs.Words.{points_in}
use Rattle.mesh.specs.Measure.{measure}
use Rattle.repair.specs.declared.improve.inputs.Inputs.{Inputs}
use Rattle.repair.specs.Mesh.{Mesh}
use Rattle.repair.specs.Improve.{State, stratum_rule, active_group, pair_off, pairs_for, may_go}
use Rattle.repair.specs.inside.Layout.{Stands, Reads, Ready, Pairs, Same, pairs_at, pairs_in}

-- the mesh is the one read, the work slice stands for a state of it, or for some state of some such mesh
abbrev pub ReadsOf : Inputs → Mesh → Type 0
ReadsOf i m = Reads m (points_in i.parameters) (points_in i.points) i.masks.now

abbrev pub StandsOf : Inputs → Mesh → List ℕ → State → Type 0
StandsOf i m w s = Stands i.options m i.index i.index.room w s

abbrev pub ReadyOf : Inputs → List ℕ → Type 0
ReadyOf i w = Ready i.options i.index i.index.room w (points_in i.parameters) (points_in i.points) i.masks.now

-- both vertices of an edge are below nv
abbrev pub below : ℕ → Pair → Bool
below nv e = ltb e.a nv && ltb e.b nv

-- the direction d of an edge: 1 or 2
abbrev pub way_of : Pair → ℕ → Pair
way_of e d = cond (eqb d 1) e (pair e.b e.a)

-- with Some k, k pairs stand in the pairs' area, by which a's group goes into b's if they pass the further tests; with None a may not go into b
pub record MayPair (o : Options) (m : Mesh) (x : Index) (n : ℕ) (s : State) (a b : ℕ) (w w' : List ℕ) (r : Option ℕ) : Type 0 where
  pub stands : Stands o m x n w' s
  pub same : Same w w' (pairs_at x) x.slots
  pub few : (k : ℕ) → r ≡ Some k → k ≤ x.vertices
  pub none : r ≡ None → may_go o m (measure m.points) s a b ≡ false
  pub pairs : (k : ℕ) → r ≡ Some k → pairs_in x k w' ≡ pairs_for o m (measure m.points) s a b
  pub proper : (k : ℕ) → r ≡ Some k → Pairs x.vertices (pairs_for o m (measure m.points) s a b)
  pub rule : (k : ℕ) → r ≡ Some k
      → (stratum_rule o m a b && pair_off (active_group o m s.replaced a) (active_group o m s.replaced b) (pairs_for o m (measure m.points) s a b)) ≡ true
