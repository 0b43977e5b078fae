-- The three passes on one plot (document 01, "Block": "runs `improve`, `smooth`, `flip` once with no regions"): an answer, and what the buffers
-- hold afterwards. Definitions only.
use Rattle.std.specs.Prelude.{ℕ, List, length, Float}
use Rattle.std.proofs.Math.Option.{none}
use Rattle.geometry.specs.declared.bounds.Options.{Options}
use Rattle.geometry.specs.declared.field.Field.{Field}
use Rattle.mesh.specs.declared.intake.Settings.{Settings}
use Rattle.mesh.specs.declared.intake.Sizes.{Sizes}
use Rattle.repair.specs.Step.{Answer}
use Rattle.repair.specs.Step.{Done, Refused}
use Rattle.repair.specs.Step.{State, Pass, Call, step}

-- what the three calls share: the box, the fields and the lengths of the work slices
pub record Setting : Type 0 where
  pub options : Options
  pub fields : List Field
  pub count : ℕ
  pub words : ℕ
  pub floats : ℕ

-- a call "with no regions"
abbrev pub call_in : Setting → Pass → Call
call_in g pass = record {
  pass = pass;
  options = g.options;
  fields = g.fields;
  count = g.count;
  regions = none;
  words = g.words;
  floats = g.floats;
}

-- what the calls share that are lent these slices of work
abbrev pub setting_for : Settings → List Field → List ℕ → List Float → Setting
setting_for s fields work floats = record { options = s.options; fields = fields; count = s.count; words = length work; floats = length floats }

-- what a run gave, with the sizes that the mesh has after it: the three counts, or the number of the pass that refused
pub data Ran : Type 0 where
  Finished : ℕ → ℕ → ℕ → Sizes → Ran
  Stopped : ℕ → Sizes → Ran

-- after a pass's answer and the buffers that it left: what comes next, with its count, or the end, with its number
abbrev pub after : Answer → State → (ℕ → State → Ran × State) → Ran × State
after (Done count sizes) s next = next count s
after (Refused number) s next = (Stopped number s.sizes, s)

-- a call, and what comes next
unfoldable pub called : Call → (ℕ → State → Ran × State) → State → Ran × State
called c next s = after (step c s).0 (step c s).1 next

-- `flip`, where the others gave these counts
unfoldable pub run_flip : Setting → ℕ → ℕ → State → Ran × State
run_flip g collapsed moved = called (call_in g Pass.flip) (λ reconnected s. (Finished collapsed moved reconnected s.sizes, s))

-- `smooth`, then `flip`
unfoldable pub run_smooth : Setting → ℕ → State → Ran × State
run_smooth g collapsed = called (call_in g Pass.smooth) (λ moved s. run_flip g collapsed moved s)

-- "runs `improve`, `smooth`, `flip` once": each on what the one before left; the first refusal ends the run with its number
unfoldable pub run_passes : Setting → State → Ran × State
run_passes g = called (call_in g Pass.improve) (λ collapsed s. run_smooth g collapsed s)

-- the sizes that the mesh has after a run
abbrev pub sizes_left : Ran → Sizes
sizes_left (Finished collapsed moved reconnected sizes) = sizes
sizes_left (Stopped number sizes) = sizes
