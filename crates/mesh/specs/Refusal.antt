-- The numbers of refusals, and what a result tells of one. Definitions only.
use Rattle.std.specs.Prelude.{ℕ, Result, Ok, Err}
use Rattle.mesh.specs.declared.refusal.Refusal.{Refusal}
use Rattle.mesh.specs.declared.refusal.Refusal.TheVariants.{Room, Settings, Vertex, Corner, Twice, Inverted, Crowded, Parity, Nonmanifold, Changed}

-- the number of a refusal in the table
abbrev pub table_number : Refusal → ℕ
table_number Room = 10
table_number Settings = 11
table_number Vertex = 12
table_number Corner = 13
table_number Twice = 14
table_number Inverted = 15
table_number Crowded = 16
table_number Parity = 17
table_number Nonmanifold = 22
table_number Changed = 23

-- the number that a result tells, 0 where nothing refuses
abbrev pub number_in : {A : Type 0} → Result A Refusal → ℕ
number_in (Ok v) = 0
number_in (Err e) = table_number e
