-- The groups and the pairs of a direction as they stand in the work slice w, for the contracts of private functions
-- (src/improve/partners.rt). Definitions only.
use Rattle.std.specs.Prelude.{ℕ, zero, suc, ◌+◌, ◌*◌, ◌≤◌, ◌≡◌, Bool, true, false, not, cond, List, [], ◌∷◌, map, eqb, ltb, length, take, Option, None, Some}
use Rattle.geometry.specs.declared.point.Point.{Point}
use Rattle.geometry.specs.declared.bounds.Options.{Options}
use Rattle.mesh.specs.declared.element.Pair.{Pair}
use Rattle.mesh.specs.declared.star.Index.{Index}
use Rattle.mesh.specs.Words.{word_at, points_in, flat}
use Rattle.mesh.specs.Sort.{sort}
use Rattle.mesh.specs.inside.Rows.{le_row}
use Rattle.mesh.specs.Complex.{mem, keep}
use Rattle.mesh.specs.Feature.{stratum_of}
use Rattle.mesh.specs.Tests.{every}
use Rattle.mesh.specs.Element.{pair}
use Rattle.mesh.specs.inside.Group.{group_rows}
use Rattle.repair.specs.declared.improve.inputs.Inputs.{Inputs}
use Rattle.repair.specs.declared.layout.Run.{Run}
use Rattle.repair.specs.Mesh.{Mesh}
use Rattle.repair.specs.Improve.{partners, pair_off}
use Rattle.repair.specs.inside.Layout.{flags_at, pairs_at, pairs_in, Same}

-- ---- groups

-- the vertices read, by their parameters, and their strata
abbrev pub vertices_of : Inputs → List Point
vertices_of i = points_in i.parameters

abbrev pub strata_of : Inputs → ℕ → ℕ
strata_of i = stratum_of i.masks.now (vertices_of i) i.options.bounds

-- the sorted rows of the vertices with these parameters, and room for the pairs
pub record Ranked (o : Options) (ps : List Point) (x : Index) (w : List ℕ) : Type 0 where
  pub few : x.vertices ≤ 4096
  pub many : length ps ≡ x.vertices
  pub slots : x.slots ≡ 10 * x.vertices
  pub long : x.slots ≤ length w
  pub groups : take (7 * x.vertices) w ≡ flat (sort le_row (group_rows o ps))

-- the vertices of n rows from row i on
unfoldable pub members : ℕ → ℕ → List ℕ → List ℕ
members i zero w = []
members i (suc n) w = word_at w (7 * i + 6) ∷ members (i + 1) n w

abbrev pub members_of : List ℕ → Run → List ℕ
members_of w g = members g.first g.size w

-- v is not replaced
abbrev pub active_in : Index → List ℕ → ℕ → Bool
active_in x w v = eqb (word_at w (flags_at x + v)) 0

-- the active members of a group
abbrev pub active_of : Index → List ℕ → Run → List ℕ
active_of x w g = keep (active_in x w) (members_of w g)

-- rows of vertices
pub record IsGroup (x : Index) (w : List ℕ) (g : Run) : Type 0 where
  pub few : x.vertices ≤ 4096
  pub inside : g.first + g.size ≤ x.vertices
  pub below : every (λ v. ltb v x.vertices) (members_of w g) ≡ true

-- ---- pairs

-- the mesh of these parameters alone
abbrev pub only : List Point → Mesh
only ps = record { parameters = ps; points = []; masks = []; elements = []; surface = [] }

-- the words of pairs
unfoldable pub pair_words : List Pair → List ℕ
pair_words [] = []
pair_words (e ∷ es) = e.a ∷ e.b ∷ pair_words es

abbrev pub seconds : List Pair → List ℕ
seconds es = map (λ e. e.b) es

-- v with u, no pair where there is no u
abbrev pub paired_with : ℕ → Option ℕ → List Pair
paired_with v None = []
paired_with v (Some u) = pair v u ∷ []

-- there is a pair, and its second vertex is the second of none of es
abbrev pub is_new : List Pair → List Pair → Bool
is_new es [] = false
is_new es (e ∷ fs) = not (mem e.b (seconds es))

-- with Some r the r pairs of vs with ws were written to the pairs' area; with None they do not pair off
pub record Paired (o : Options) (m : Mesh) (x : Index) (vs ws w w' : List ℕ) (r : Option ℕ) : Type 0 where
  pub count : r ≡ cond (pair_off vs ws (partners o m vs ws)) (Some (length (partners o m vs ws))) None
  pub pairs : (k : ℕ) → r ≡ Some k → pairs_in x k w' ≡ partners o m vs ws
  pub same : Same w w' (pairs_at x) x.slots
