-- A mesh on values, and what a pass gives (document 01, "Vertex", "Element and surface"). A vertex is a number; its
-- parameters, point and mask are looked up, and a number past the end has the point 0 0 0 and the mask 0. Definitions only.
use Rattle.std.specs.Prelude.{ℕ, List}
use Rattle.geometry.specs.declared.point.Point.{Point}
use Rattle.mesh.specs.declared.element.Triple.{Triple}
use Rattle.mesh.specs.declared.element.Tet.{Tet}
pub use Rattle.mesh.specs.Element.{has}

pub record Mesh : Type 0 where
  pub parameters : List Point
  pub points : List Point
  pub masks : List ℕ
  pub elements : List Tet
  pub surface : List Triple

-- what a pass gives: its count and the mesh that it made, or a number of document 01's table
pub data Result : Type 0 where
  made : ℕ → Mesh → Result
  refused : ℕ → Result
