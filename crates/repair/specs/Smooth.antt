-- `smooth` on values (document 01, "Element and surface"; `smooth` of repair.rs): group by group in rank order, the groups being those at
-- the start; a later group sees the moves of earlier ones. Definitions only.
use Rattle.std.specs.Prelude.{ℕ, ◌+◌, ◌/◌, ◌%◌, Bool, not, cond, ◌&&◌, ◌||◌, List, [], ◌∷◌, ◌++◌, map, eqb, pos, Float, length, get_or, set, Some, None}
use Rattle.std.proofs.Math.Option.{Option, none, some}
use Rattle.std.specs.Float.{binary64}
use Rattle.std.specs.Float.Ieee.{lt, eq, of_int}
use Rattle.geometry.specs.declared.point.Point.{Point}
use Rattle.geometry.specs.declared.bounds.Options.{Options}
use Rattle.geometry.specs.declared.field.Field.{Field}
use Rattle.geometry.specs.Float.{◌+₆₄◌, ◌-₆₄◌, ◌*₆₄◌, ◌/₆₄◌, one64, total}
use Rattle.geometry.specs.Literals.{e_9, e_10, half, quarter, fifteen_hundredths}
use Rattle.geometry.specs.Point.{difference, norm}
use Rattle.geometry.specs.Bounds.{spacing, periodic_in, canonical}
use Rattle.geometry.specs.Field.{value}
use Rattle.mesh.specs.declared.element.Tet.{Tet}
use Rattle.mesh.specs.Words.{point_at, numbers}
use Rattle.mesh.specs.Complex.{keep}
use Rattle.mesh.specs.Tests.{every, any}
use Rattle.mesh.specs.Group.{groups}
use Rattle.mesh.specs.Intake.{in_box}
use Rattle.mesh.specs.Measure.{measure, lowest_of}
use Rattle.repair.specs.Mesh.{Mesh, Result, made, has}
use Rattle.repair.specs.Project.{Projected, project}

-- ---- fields and regions

-- the fields whose bit the mask has, the first field's being bit 0
unfoldable pub chosen : ℕ → List Field → List Field
chosen mask [] = []
chosen mask (f ∷ fs) = cond (eqb (mask % 2) 1) (f ∷ []) [] ++ chosen (mask / 2) fs

-- is p outside one of the fields: its value above 1e-9
abbrev pub outside : Point → List Field → Bool
outside p fs = any (λ f. lt e_9 (value f p)) fs

-- "`regions` is an optional list of masks": p is outside all of them. Without the list all fields are one region.
abbrev pub outside_all : Point → List Field → Option (List ℕ) → Bool
outside_all p fs none = outside p fs
outside_all p fs (some regions) = every (λ mask. outside p (chosen mask fs)) regions

-- ---- the nine candidates

-- the vertices that share an element with v, in number order: each once
abbrev pub neighbours : ℕ → List Tet → ℕ → List ℕ
neighbours n ts v = keep (λ w. not (eqb w v) && any (λ t. has v t && has w t) ts) (numbers 0 n)

-- "the neighbours' mean": per direction the sum left to right, divided by their number
abbrev pub mean : List Point → Point
mean ps =
    let n = of_int binary64 (pos (length ps)) in
    record { x = total (map (λ p. p.x) ps) /₆₄ n; y = total (map (λ p. p.y) ps) /₆₄ n; z = total (map (λ p. p.z) ps) /₆₄ n }

-- origin + alpha × direction
abbrev pub along : Point → Point → Float → Point
along p d alpha = record { x = p.x +₆₄ alpha *₆₄ d.x; y = p.y +₆₄ alpha *₆₄ d.y; z = p.z +₆₄ alpha *₆₄ d.z }

-- "towards the neighbours' mean by 1, 1/2, 1/4": none where there is no neighbour, since "Where the group's first vertex has no element,
-- the three mean candidates are skipped". The first vertex is at `original`, and at `origin` where hi counts as lo.
abbrev pub mean_candidates : Point → Point → List Point → List Point
mean_candidates original origin [] = []
mean_candidates original origin (p ∷ ps) = map (along origin (difference (mean (p ∷ ps)) original)) (one64 ∷ half ∷ quarter ∷ [])

-- "then ∓0.15 h per direction"
abbrev pub step_candidates : Point → Float → List Point
step_candidates p h =
    let d = fifteen_hundredths *₆₄ h in
    record { x = p.x -₆₄ d; y = p.y; z = p.z } ∷ record { x = p.x +₆₄ d; y = p.y; z = p.z }
    ∷ record { x = p.x; y = p.y -₆₄ d; z = p.z } ∷ record { x = p.x; y = p.y +₆₄ d; z = p.z }
    ∷ record { x = p.x; y = p.y; z = p.z -₆₄ d } ∷ record { x = p.x; y = p.y; z = p.z +₆₄ d } ∷ []

-- ---- a move

-- where the pass stands: parameters and points, and how many vertices moved
pub record State : Type 0 where
  pub parameters : List Point
  pub points : List Point
  pub moved : ℕ

-- "The map is the identity": the point of a vertex with these parameters
unfoldable pub mapped : Point → Point
mapped p = p

-- p, but that a periodic coordinate of q on hi stays there
abbrev pub kept_on : Options → Point → Point → Point
kept_on o q p =
    let hi = o.bounds.hi in
    record {
      x = cond (periodic_in o.periodic 0 && eq q.x hi.x) hi.x p.x;
      y = cond (periodic_in o.periodic 1 && eq q.y hi.y) hi.y p.y;
      z = cond (periodic_in o.periodic 2 && eq q.z hi.z) hi.z p.z;
    }

-- the list with `new v` at each place v of a group
unfoldable pub placed : (ℕ → Point) → List ℕ → List Point → List Point
placed new [] ps = ps
placed new (v ∷ g) ps = set (placed new g ps) v (new v)

-- every vertex of the group moved to p
unfoldable pub move_to : Options → State → List ℕ → Point → State
move_to o s g p =
    let new : ℕ → Point = λ v. kept_on o (point_at s.parameters v) p in
    record {
      parameters = placed new g s.parameters;
      points = placed (λ v. mapped (new v)) g s.points;
      moved = s.moved + length g;
    }

-- ---- the best candidate

-- the best so far, if any, and the lowest score about the group with it
pub record Best : Type 0 where
  pub lowest : Float
  pub found : Option Point

-- "the best by more than 1e-10, among those with every determinant about the group above 0": of the best so far and p, `ts` being the
-- elements about the group and `ps` the points with p taken
abbrev pub better : List Tet → List Point → Point → Best → Best
better ts ps p best =
    cond (every (measure ps).above ts && lt (best.lowest +₆₄ e_10) (lowest_of (measure ps) ts))
    (record { lowest = lowest_of (measure ps) ts; found = some p })
    best

-- a projected candidate must lie inside the box, no further than 0.5 h from the origin and, where a field is active, in a region
abbrev pub allowed : Options → List Field → Option (List ℕ) → Point → List Field → Point → Bool
allowed o fields regions origin active p =
    in_box o.bounds p
    && (not (lt (half *₆₄ spacing o) (norm (difference p origin))) && (eqb (length active) 0 || not (outside_all p fields regions)))

module _ (o : Options) (fields : List Field) (regions : Option (List ℕ)) (ts : List Tet) (s : State) (g : List ℕ) (origin : Point) (active : List Field) where
  -- a candidate as it was projected
  abbrev pub tried : Best → Projected → Best
  tried best None = best
  tried best (Some p) = cond (allowed o fields regions origin active p) (better ts (move_to o s g p).points p best) best

  -- the candidates one after the other
  unfoldable pub best_of : Best → List Point → Best
  best_of best [] = best
  best_of best (c ∷ cs) = best_of (tried best (project o.bounds origin active c)) cs

-- ---- groups

-- the elements about a group
abbrev pub about_group : List Tet → List ℕ → List Tet
about_group ts g = keep (λ t. any (λ v. has v t) g) ts

module _ (o : Options) (fields : List Field) (regions : Option (List ℕ)) (m : Mesh) where
  -- the best candidate of the group g, its first vertex v giving origin, neighbours and active fields
  unfoldable pub best_for : State → ℕ → List ℕ → Best
  best_for s v g =
      let ts = about_group m.elements g in
      let original = point_at s.parameters v in
      let origin = canonical original o in
      let near = map (point_at s.parameters) (neighbours (length s.parameters) m.elements v) in
      best_of o fields regions ts s g origin (chosen (get_or m.masks v 0) fields)
      (record { lowest = lowest_of (measure s.points) ts; found = none })
      (mean_candidates original origin near ++ step_candidates origin (spacing o))

  -- the group moves where a candidate was found
  abbrev pub taken : State → List ℕ → Option Point → State
  taken s g none = s
  taken s g (some p) = move_to o s g p

  -- "groups .. with lowest score under 0.15"
  unfoldable pub smooth_group : State → List ℕ → State
  smooth_group s [] = s
  smooth_group s (v ∷ g) =
      cond (lt (lowest_of (measure s.points) (about_group m.elements (v ∷ g))) fifteen_hundredths)
      (taken s (v ∷ g) (best_for s v (v ∷ g)).found)
      s

  -- "groups in rank order"
  unfoldable pub smooth_groups : State → List (List ℕ) → State
  smooth_groups s [] = s
  smooth_groups s (g ∷ gs) = smooth_groups (smooth_group s g) gs

-- "The count is that of .. vertices moved": those of every group that took a candidate
unfoldable pub smooth : Options → List Field → Option (List ℕ) → Mesh → Result
smooth o fields regions m =
    let start : State = record { parameters = m.parameters; points = m.points; moved = 0 } in
    let s = smooth_groups o fields regions m start (groups o m.parameters) in
    made s.moved (record { parameters = s.parameters; points = s.points; masks = m.masks; elements = m.elements; surface = m.surface })
