-- The buffers of src/buffers.rt as a state of the passes. For the contracts of private functions.
use Rattle.mesh.specs.declared.intake.Sizes.{Sizes}
use Rattle.repair.specs.Step.{State, held}
use Rattle.report.specs.declared.buffers.Buffers.{Buffers}

-- the sizes of no mesh
abbrev pub no_sizes : Sizes
no_sizes = record { vertices = 0; elements = 0; triples = 0 }

-- a mesh of these sizes in the buffers
abbrev pub state_in : Buffers → Sizes → State
state_in b z = held z b.parameters b.points b.masks b.elements b.surface
