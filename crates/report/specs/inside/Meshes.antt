-- The mesh of src/counted.rt as points and elements. For the contracts of private functions.
use Rattle.std.specs.Prelude.{List}
use Rattle.mesh.specs.declared.element.Tet.{Tet}
use Rattle.mesh.specs.Element.{tets}
use Rattle.report.specs.declared.counted.Mesh.{Mesh}

-- the elements of a mesh
abbrev pub elements_in : Mesh → List Tet
elements_in m = tets m.count m.elements.now
