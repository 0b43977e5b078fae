-- Where `smooth` keeps what it knows in the work slice w, and how that stands for the states of specs/Smooth.antt. For the contracts of
-- private functions; definitions only.
use Rattle.std.specs.Prelude.{ℕ, zero, suc, ◌+◌, ◌*◌, ◌≤◌, ◌<◌, ◌≡◌, Bool, true, cond, ◌&&◌, List, [], ◌∷◌, map, eqb, Float, length, take, drop, set, Some, None}
use Rattle.std.proofs.Math.Option.{Option, none}
use Rattle.geometry.specs.declared.point.Point.{Point}
use Rattle.geometry.specs.declared.bounds.Options.{Options}
use Rattle.geometry.specs.declared.field.Field.{Field}
use Rattle.geometry.specs.Bounds.{spacing, canonical}
use Rattle.mesh.specs.declared.element.Tet.{Tet}
use Rattle.mesh.specs.declared.star.Index.{Index}
use Rattle.mesh.specs.Words.{word_at, point_at, points_of}
use Rattle.mesh.specs.Sort.{sort}
use Rattle.mesh.specs.inside.Rows.{rows, le_row}
use Rattle.mesh.specs.Complex.{Nodup}
use Rattle.mesh.specs.Tests.{every, under}
use Rattle.mesh.specs.Element.{tets}
use Rattle.mesh.specs.inside.Group.{group_rows}
use Rattle.mesh.specs.Intake.{well_numbered}
use Rattle.mesh.specs.Measure.{measure, lowest_of}
use Rattle.std.specs.Float.Ieee.{lt}
use Rattle.mesh.specs.inside.Intake.{tet_at}
use Rattle.mesh.specs.inside.Star.{Complete}
use Rattle.repair.specs.declared.smooth.site.Site.{Site}
use Rattle.repair.specs.declared.smooth.choose.Best as Kept
use Rattle.repair.specs.declared.smooth.choose.Start.{Start}
use Rattle.repair.specs.Project.{Projected}
use Rattle.repair.specs.Mesh.{Mesh}
use Rattle.repair.specs.Smooth.{State, Best, neighbours, mean, mapped, kept_on, placed, move_to, better, allowed, about_group}
use Rattle.repair.specs.inside.Layout.{Room, slots_in}
use Rattle.repair.specs.inside.smooth.Candidates.{nine, plain}

-- ---- a group and the elements about it

-- the vertices of k rows: the word i, and each 7 words behind the one before
unfoldable pub members : List ℕ → ℕ → ℕ → List ℕ
members w i zero = []
members w i (suc k) = word_at w i ∷ members w (i + 7) k

-- the elements whose numbers are the k words from i on
unfoldable pub about : List ℕ → List ℕ → ℕ → ℕ → List Tet
about els w i zero = []
about els w i (suc k) = tet_at els (word_at w i) ∷ about els w (i + 1) k

-- ---- states

-- the state in the buffers of nv vertices
abbrev pub state_of : ℕ → List Float → List Float → ℕ → State
state_of nv parameters points moved = record { parameters = points_of nv parameters; points = points_of nv points; moved = moved }

-- the points with the group moved to p
unfoldable pub trial_points : Options → List Float → List Float → List ℕ → Site → Point → List Point
trial_points o parameters points w s p = (move_to o (state_of s.vertices parameters points 0) (members w s.group s.count) p).points

-- parameters and points have room for nv vertices
abbrev pub Fit : ℕ → List Float → List Float → Type 0
Fit nv parameters points = (3 * nv ≤ length parameters) × (3 * nv ≤ length points)

-- t is s with the point p for the vertex v of nv, and the same behind the vertices
pub record Put (nv v : ℕ) (p : Point) (s t : List Float) : Type 0 where
  pub points : points_of nv t ≡ set (points_of nv s) v p
  pub rest : drop (3 * nv) t ≡ drop (3 * nv) s
  pub long : length t ≡ length s

-- the points `new v` put at the vertices v of g
pub record Placed (nv : ℕ) (new : ℕ → Point) (g : List ℕ) (s t : List Float) : Type 0 where
  pub points : points_of nv t ≡ placed new g (points_of nv s)
  pub rest : drop (3 * nv) t ≡ drop (3 * nv) s
  pub long : length t ≡ length s

-- where a vertex goes with its group: its parameters, and its point
abbrev pub new_parameters : Options → ℕ → List Float → Point → ℕ → Point
new_parameters o nv parameters p v = kept_on o (point_at (points_of nv parameters) v) p

abbrev pub new_point : Options → ℕ → List Float → Point → ℕ → Point
new_point o nv parameters p v = mapped (new_parameters o nv parameters p v)

-- the buffers P and Q of parameters and points are now P' and Q': they hold the state s, and behind the vertices what they held
pub record Turned (nv : ℕ) (s : State) (P Q P' Q' : List Float) (moved : ℕ) : Type 0 where
  pub state : state_of nv P' Q' moved ≡ s
  pub parameters : drop (3 * nv) P' ≡ drop (3 * nv) P
  pub points : drop (3 * nv) Q' ≡ drop (3 * nv) Q
  pub long : (length P' ≡ length P) × (length Q' ≡ length Q)

-- ---- the best candidate

-- the best so far as a value
abbrev pub best_in : Kept.Best → Best
best_in b = record { lowest = b.lowest; found = plain b.point }

-- every determinant is above 0, and the lowest score is above the bar
abbrev pub beats : List Tet → List Point → Float → Bool
beats ts ps bar = every (measure ps).above ts && lt bar (lowest_of (measure ps) ts)

-- a candidate as it was projected, where it is allowed
abbrev pub permitted : Options → List Field → Option (List ℕ) → Point → List Field → Projected → Projected
permitted o fields regions origin active None = None
permitted o fields regions origin active (Some p) = cond (allowed o fields regions origin active p) (Some p) None

-- the better of the best so far and a candidate that is allowed, for the group g and the elements ts about it
abbrev pub compared : Options → List Tet → State → List ℕ → Best → Projected → Best
compared o ts s g best None = best
compared o ts s g best (Some p) = better ts (move_to o s g p).points p best

-- no candidate yet
abbrev pub none_yet : Float → Best
none_yet lowest = record { lowest = lowest; found = none }

-- the number of the first candidate
abbrev pub first_of : Start → ℕ
first_of s = cond (eqb s.near 0) 3 0

-- the candidates from there on
unfoldable pub start_list : Start → Options → List Point
start_list s o = drop (first_of s) (nine s.original s.origin s.mean (spacing o))

-- ---- the work

-- t is s but for the words from a on
pub record SameTo (a : ℕ) (s t : List ℕ) : Type 0 where
  pub long : length t ≡ length s
  pub before : (j : ℕ) → j < a → word_at t j ≡ word_at s j

-- how many words of the work are used for nv vertices and n elements: 12 nv + 32 n up to the area, there n for a list of elements, and
-- behind it 32 n for one of neighbours with its scratch; 14 nv while the groups are sorted
abbrev pub used_words : ℕ → ℕ → ℕ
used_words nv n = 14 * nv + 65 * n

-- nv vertices and n elements are within document 01's limits, and m words are enough for them
abbrev pub Enough : ℕ → ℕ → ℕ → Type 0
Enough nv n m = (nv ≤ 4096) × (n ≤ 16384) × (used_words nv n ≤ m)

-- the work is laid out as for `improve`, in the words that are used, and the elements in its slots are indexed
pub record Ready (x : Index) (w : List ℕ) : Type 0 where
  pub room : Room x x.room (256 * x.room + 32 * x.vertices + 1024)
  pub long : used_words x.vertices x.room ≤ length w
  pub index : Complete x w (4 * x.room)
  pub proper : every (well_numbered x.vertices) (slots_in x x.room w) ≡ true

-- the slots hold the elements
abbrev pub Slots : Index → List ℕ → List ℕ → Type 0
Slots x els w = tets x.room els ≡ slots_in x x.room w

-- the rows of a group: at least one, and all different vertices
pub record Rows (x : Index) (w : List ℕ) (i count : ℕ) : Type 0 where
  pub some : 0 < count
  pub inside : i + 7 * count ≤ 7 * x.vertices + 6
  pub once : Nodup (members w i count)
  pub below : under x.vertices (members w i count) ≡ true

-- w' is w with the elements about a group listed
pub record Listed (x : Index) (i k : ℕ) (w w' : List ℕ) (s : Site) : Type 0 where
  pub same : SameTo x.area w w'
  pub vertices : s.vertices ≡ x.vertices
  pub group : s.group ≡ i
  pub count : s.count ≡ k
  pub area : s.area ≡ x.area
  pub few : s.about ≤ x.room
  pub found : (els : List ℕ) → Slots x els w → about els w' x.area s.about ≡ about_group (tets x.room els) (members w i k)

-- the site s is that of a group in w, with the elements about it listed at the area's front
pub record Sited (x : Index) (els w : List ℕ) (s : Site) : Type 0 where
  pub vertices : s.vertices ≡ x.vertices
  pub area : s.area ≡ x.area
  pub few : s.about ≤ x.room
  pub rows : Rows x w s.group s.count
  pub found : about els w s.area s.about ≡ about_group (tets x.room els) (members w s.group s.count)

-- what the candidates start from, for the vertex v; the first n words of the area stay
pub record Started (o : Options) (x : Index) (parameters : List Float) (v n : ℕ) (w w' : List ℕ) (s : Start) : Type 0 where
  pub same : SameTo (x.area + n) w w'
  pub original : s.original ≡ point_at (points_of x.vertices parameters) v
  pub origin : s.origin ≡ canonical (point_at (points_of x.vertices parameters) v) o
  pub near : s.near ≡ length (neighbours x.vertices (slots_in x x.room w) v)
  pub mean : s.mean ≡ mean (map (point_at (points_of x.vertices parameters)) (neighbours x.vertices (slots_in x x.room w) v))

-- what `smooth` reads of the mesh besides the state: the masks of nv vertices and n elements; those of an index
abbrev pub mesh_read : ℕ → ℕ → List ℕ → List ℕ → Mesh
mesh_read nv n masks els = record { parameters = []; points = []; masks = take nv masks; elements = tets n els; surface = [] }

abbrev pub mesh_for : Index → List ℕ → List ℕ → Mesh
mesh_for x masks els = mesh_read x.vertices x.room masks els

-- the rows of the groups, sorted
abbrev pub Grouped : Options → Index → List Float → List ℕ → Type 0
Grouped o x parameters w = rows 7 x.vertices w ≡ sort le_row (group_rows o (points_of x.vertices parameters))
