-- The worked examples of document 01, "Trial soil blocks", as one table of theorems about the definitions. Each field states an example
-- in the document's order, and `table` proves them all by computation. A float is written as fin SIGN m (pos k), which is m * 2 ^ k, or
-- fin SIGN m (negsuc k), which is m / 2 ^ (k + 1). Assumes nothing.
use mathlib.Core.Path.{◌∙⁻¹◌}
use Rattle.std.specs.Prelude.{◌≡◌, refl, true, false, List, [], ◌∷◌, map, ℕ, pos, negsuc, length, Float}
use Rattle.std.specs.Float.{fin, binary64}
use Rattle.std.specs.Float.Ieee.{to_bits, lt, le, eq, add, sub, mul, div, neg}
use Rattle.geometry.specs.declared.point.Point.{Point}
use Rattle.geometry.specs.Float.{zero64, one64, total, total_from}
use Rattle.geometry.specs.Root.{sqrt}
use Rattle.geometry.specs.Point.{determinant}
use Rattle.geometry.specs.Score.{squared_edge, squared_edges, score, bad, lowest, lowest_from}
use Rattle.geometry.specs.declared.bounds.Options.{Options}
use Rattle.geometry.specs.Bounds.{canonical}
use Rattle.geometry.specs.Rank.{nearest_away, rank_value, rank}
use Rattle.mesh.specs.Element.{tet, triple, vertices_of, all_edges, sort_first, sort_last, key_of, parity_of}
use Rattle.mesh.specs.Boundary.{le_triple, all_faces, singles, boundary_of, key_number, first_number, boundary_number}
use Rattle.mesh.specs.declared.element.Tet.{Tet}
use Rattle.mesh.specs.Intake.{Given, all_different, intake}
use Rattle.mesh.specs.Sort.{insert, sort, unique, unique_after}
use Rattle.mesh.specs.Complex.{faces, alternating}
use Rattle.mesh.specs.Words.{numbers}
use Rattle.repair.specs.Mesh.{Mesh, made}
use Rattle.repair.specs.Flip.{live, emptied, besides, listed_faces, listed_edges, replace, try_face, try_edge, try_faces, try_edges, flips, same_triples, end_number, flip_by, flip}

abbrev at : Float → Float → Float → Point
at x y z = record { x = x; y = y; z = z }

abbrev two : Float
two = fin false 1 (pos 1)

abbrev nine : Float
nine = fin false 9 (pos 0)

-- the points 000, 100 and 010
abbrev p000 : Point
p000 = at zero64 zero64 zero64

abbrev p100 : Point
p100 = at one64 zero64 zero64

abbrev p010 : Point
p010 = at zero64 one64 zero64

abbrev p001 : Point
p001 = at zero64 zero64 one64

-- (1, 1, z)
abbrev p11 : Float → Point
p11 z = at one64 one64 z

-- box 0 to 1 with the periodic bits given
abbrev unit_box : ℕ → Options
unit_box periodic = record {
  bounds = record { lo = p000; hi = at one64 one64 one64 };
  cells = record { x = 1; y = 1; z = 1 };
  periodic = periodic;
  passes = 1;
}

-- the face 000, (128, 0, 0), (0, 128, 0), and (32, 32, 7) and (32, 32, -7) close to it
abbrev flat_points : List Point
flat_points =
    p000
    ∷ at (fin false 1 (pos 7)) zero64 zero64
    ∷ at zero64 (fin false 1 (pos 7)) zero64
    ∷ at (fin false 1 (pos 5)) (fin false 1 (pos 5)) (fin false 7 (pos 0))
    ∷ at (fin false 1 (pos 5)) (fin false 1 (pos 5)) (fin true 7 (pos 0))
    ∷ []

-- M4's points, with the box 0 to 1, no field, buffers exactly long enough, and one element
abbrev one_element : Tet → Given
one_element t = record {
  sizes = record { vertices = 4; elements = 1; triples = 4 };
  lengths = record { parameters = 12; points = 12; masks = 4; elements = 8; surface = 12; words = 1408; floats = 64 };
  options = unit_box 0;
  count = 0;
  fields = [];
  parameters = p000 ∷ p100 ∷ p010 ∷ p001 ∷ [];
  points = p000 ∷ p100 ∷ p010 ∷ p001 ∷ [];
  elements = t ∷ [];
}

-- two elements on the face 0 1 2, and the three around the edge 3 4 that `flip` makes of them
abbrev two_elements : List Tet
two_elements = tet 0 1 2 3 ∷ tet 0 2 1 4 ∷ []

abbrev three_elements : List Tet
three_elements = tet 3 4 1 0 ∷ tet 3 4 2 1 ∷ tet 3 4 0 2 ∷ []

-- a mesh of these points and some elements, with its boundary as the surface
abbrev mesh_with : List Tet → Mesh
mesh_with ts = record {
  parameters = flat_points;
  points = flat_points;
  masks = 0 ∷ 0 ∷ 0 ∷ 0 ∷ 0 ∷ [];
  elements = ts;
  surface = boundary_of ts;
}

-- the vertices, edges, triangles and elements of a mesh of five vertices whose alternating count is 1
abbrev Counts : List Tet → ℕ → ℕ → ℕ → ℕ → Type 0
Counts ts v e f n =
    let es = map vertices_of ts in
    (faces 1 5 es ≡ v) × (faces 2 5 es ≡ e) × (faces 3 5 es ≡ f) × (length ts ≡ n) × (alternating 5 es ≡ pos 1)

pub record Table : Type 0 where
  -- M1 root of 2 has bits 3FF6A09E667F3BCD
  pub M1 : to_bits binary64 (sqrt two) ≡ 0x3FF6_A09E_667F_3BCD
  -- M2 root of 2^-1074 is 2^-537
  pub M2 : sqrt (fin false 1 (negsuc 1073)) ≡ fin false 1 (negsuc 536)
  -- M3 root of 9 is 3
  pub M3 : sqrt nine ≡ fin false 3 (pos 0)
  -- M4 points 000, 100, 010, 001: determinant 1, L 9
  pub M4 : (determinant p000 p100 p010 p001 ≡ one64) × (squared_edges p000 p100 p010 p001 ≡ nine)
  -- M5 its last two vertices exchanged: −1, so 15
  pub M5 : (determinant p000 p100 p001 p010 ≡ fin true 1 (pos 0)) × (intake (one_element (tet 0 1 3 2)) ≡ 15) × (intake (one_element (tet 0 1 2 3)) ≡ 0)
  -- M6 M4 doubled: the same score
  pub M6 : score p000 (at two zero64 zero64) (at zero64 two zero64) (at zero64 zero64 two) ≡ score p000 p100 p010 p001
  -- M7 000, 100, 010 and (1, 1, 1/16): bad; with 1/8: not bad
  pub M7 : (bad (score p000 p100 p010 (p11 (fin false 1 (negsuc 3)))) ≡ true) × (bad (score p000 p100 p010 (p11 (fin false 1 (negsuc 2)))) ≡ false)
  -- M8 box 0 to 1, value 2^-12: rank 24,414,063
  pub M8 : rank (at (fin false 1 (negsuc 11)) zero64 zero64) (unit_box 0) ≡ record { x = 24414063; y = 0; z = 0 }
  -- M9 value 1: rank 100,000,000,000, periodic 0
  pub M9 : (rank p100 (unit_box 0) ≡ record { x = 100000000000; y = 0; z = 0 }) × (rank p100 (unit_box 1) ≡ record { x = 0; y = 0; z = 0 })
  -- M10 parities of (0,1,2), (0,2,1), (2,0,1): 0, 1, 0
  pub M10 : (parity_of (triple 0 1 2) ≡ 0) × (parity_of (triple 0 2 1) ≡ 1) × (parity_of (triple 2 0 1) ≡ 0)
  -- M11 one element 0 1 2 3: surface 013, 021, 032, 123
  pub M11 : boundary_of (tet 0 1 2 3 ∷ []) ≡ triple 0 1 3 ∷ triple 0 2 1 ∷ triple 0 3 2 ∷ triple 1 2 3 ∷ []
  -- M12 two elements on a face: 5−9+7−2 = 1
  pub M12-two : Counts two_elements 5 9 7 2
  -- after two-to-three 5−10+9−3 = 1: `flip` makes one flip of the two
  pub M12-flip : flip (mesh_with two_elements) ≡ made 1 (mesh_with three_elements)
  pub M12-three : Counts three_elements 5 10 9 3

-- `flip` on the two elements
flip_is : flip (mesh_with two_elements) ≡ made 1 (mesh_with three_elements)
unfolding flip flip_by flips try_faces try_face try_edges try_edge replace live emptied besides listed_faces listed_edges same_triples end_number all_edges numbers lowest lowest_from total total_from unique unique_after insert sort sqrt determinant squared_edges squared_edge score add sub mul div neg lt eq le sort_first sort_last key_of parity_of le_triple all_faces singles boundary_of key_number first_number boundary_number
flip_is = refl

-- M4's score: R / 27
one_score : score p000 p100 p010 p001 ≡ fin false 3466872609579539 (negsuc 51)
unfolding score sqrt determinant squared_edges add sub mul div neg lt eq
one_score = refl

-- the score of M4 doubled: the same number
doubled_score : score p000 (at two zero64 zero64) (at zero64 two zero64) (at zero64 zero64 two) ≡ fin false 3466872609579539 (negsuc 51)
unfolding score sqrt determinant squared_edges add sub mul div neg lt eq
doubled_score = refl

pub table : Table
unfolding canonical nearest_away rank_value rank sqrt to_bits determinant squared_edges score add sub mul div neg lt eq sort_first sort_last key_of parity_of le_triple all_faces singles boundary_of key_number first_number boundary_number all_different intake le insert sort faces
table = record {
  M1 = refl;
  M2 = refl;
  M3 = refl;
  M4 = (refl, refl);
  M5 = (refl, refl, refl);
  M6 = doubled_score ∙⁻¹ one_score;
  M7 = (refl, refl);
  M8 = refl;
  M9 = (refl, refl);
  M10 = (refl, refl, refl);
  M11 = refl;
  M12-two = (refl, refl, refl, refl, refl);
  M12-flip = flip_is;
  M12-three = (refl, refl, refl, refl, refl);
}
