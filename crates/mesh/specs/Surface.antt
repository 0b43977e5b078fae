-- What the functions of src/boundary.rt give: the answer, the words of the surface, and what becomes of the buffers. A refusal is 10 where
-- a buffer is too short or there are too many elements, else the number of `boundary_number`. Definitions only.
use Rattle.std.specs.Prelude.{ℕ, ◌*◌, Result, Ok, Err, Bool, cond, ◌&&◌, List, [], ◌++◌, map, length, drop, ◌==◌, nat_le}
use Rattle.mesh.specs.declared.element.Tet.{Tet}
use Rattle.mesh.specs.declared.refusal.Refusal.{Refusal}
use Rattle.mesh.specs.Refusal.{table_number}
use Rattle.mesh.specs.Words.{zero_words, flat}
use Rattle.mesh.specs.Element.{tets, corners_of}
use Rattle.mesh.specs.Boundary.{boundary_number, boundary_of}

-- ---- the answer

-- how many surface triples, or the number of the refusal
pub data Outcome : Type 0 where
  Surface : ℕ → Outcome
  Refused : ℕ → Outcome

-- the outcome that a result tells
abbrev pub outcome_of : Result ℕ Refusal → Outcome
outcome_of (Ok count) = Surface count
outcome_of (Err e) = Refused (table_number e)

-- a number above 0 refuses; else so many triples are the surface
unfoldable pub answer : ℕ → ℕ → Outcome
answer number count = cond (number == 0) (Surface count) (Refused number)

-- how many triples an answer gives, none on a refusal
abbrev pub triples_of : Outcome → ℕ
triples_of (Surface c) = c
triples_of (Refused k) = 0

-- what the elements answer: how many surface triples, or 16 or 17
unfoldable pub answer_of : List Tet → Outcome
answer_of ts = answer (boundary_number ts) (length (boundary_of ts))

-- the words of the surface triples, none where a key is bad
unfoldable pub surface_words : List Tet → List ℕ
surface_words ts = cond (boundary_number ts == 0) (flat (map corners_of (boundary_of ts))) []

-- ---- with buffers

-- "16,384 elements", four words an element, "4 triples an element", and 36 words of work an element
unfoldable pub call_fits : ℕ → ℕ → ℕ → ℕ → Bool
call_fits n elements surface work = nat_le n 16384 && (nat_le (4 * n) elements && (nat_le (12 * n) surface && nat_le (36 * n) work))

-- an answer, and the buffers afterwards
pub record Call : Type 0 where
  pub answer : Outcome
  pub surface : List ℕ
  pub work : List ℕ

-- the surface's words over the first of the buffer, and all work 0; 10 where a buffer is too short
unfoldable pub boundary_call : ℕ → List ℕ → List ℕ → List ℕ → Call
boundary_call n elements surface work =
    cond (call_fits n (length elements) (length surface) (length work))
    (record { answer = answer_of (tets n elements); surface = surface_words (tets n elements) ++ drop (length (surface_words (tets n elements))) surface; work = zero_words (length work) })
    (record { answer = Refused 10; surface = surface; work = zero_words (length work) })
