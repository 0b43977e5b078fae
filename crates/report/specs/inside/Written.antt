-- What a function that writes text leaves, and the room that it asks. For the contracts of private functions.
use Rattle.std.specs.Prelude.{◌≡◌, ℕ, ◌+◌, ◌*◌, ◌≤◌, List, map, length}
use Rattle.std.proofs.lemmas.List.Edits.{sets}
use Rattle.mesh.specs.inside.Complex.{Proper}
use Rattle.mesh.specs.Element.{tets, vertices_of}
use Rattle.report.specs.Run.{Ran}
use Rattle.report.specs.Run.{Finished, Stopped}

-- the bytes of a text stand from the place `at` on, and `end` is the place behind them; a byte past the slice's end is passed over
pub record Written (old new : List ℕ) (at end : ℕ) (text : List ℕ) : Type 0 where
  pub bytes : new ≡ sets old at text
  pub place : end ≡ at + length text

-- what printing asks of the elements that a run left: where it gave its counts, each has four different vertices of the mesh
abbrev pub Ready : Ran → List ℕ → Type 0
Ready (Finished collapsed moved reconnected sizes) els =
    (4 * sizes.elements ≤ length els) × Proper sizes.vertices (map vertices_of (tets sizes.elements els))
Ready (Stopped number sizes) els = Unit {0}
