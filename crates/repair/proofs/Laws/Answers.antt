-- An answer, and what a pass returns, is determined by its number and its values: a promise in numbers gives the answer itself. Assumes nothing.
use mathlib.Core.Path.{◌≡◌, ap}
use mathlib.Core.List.{List}
use Prim.Native.Nat.{ℕ}
use native.Mathlib.Omega.{arith}
use lib.ListN.{length, get_or}
use Rattle.std.specs.Prelude.{Result, Ok, Err}
use Rattle.mesh.specs.declared.refusal.Refusal.{Refusal}
use Rattle.mesh.proofs.Laws.Refusal.{number-same}
use Rattle.repair.specs.declared.answer.Made.{Made}
use Rattle.repair.specs.Answer.{answer_of}
use Rattle.repair.specs.Step.{Answer}
use Rattle.repair.specs.Step.{Done, Refused}
use Rattle.repair.specs.Step.{State, number_of, values_of, in_numbers}

-- a refusal has no values, a result four
same_answer : (a b : Answer) → number_of a ≡ number_of b → values_of a ≡ values_of b → a ≡ b
same_answer (Done n s) (Done m t) e f =
    let at : (j : ℕ) → get_or (values_of (Done n s)) j 0 ≡ get_or (values_of (Done m t)) j 0 = λ j. ap (λ (l : List ℕ). get_or l j 0) f in
    let v : s.vertices ≡ t.vertices = at 1 in
    let x : s.elements ≡ t.elements = at 2 in
    let y : s.triples ≡ t.triples = at 3 in
    λ i. Done (at 0 i) (record { vertices = v i; elements = x i; triples = y i })
same_answer (Done n s) (Refused k) e f = absurd (let z : ◌≡◌ {A = ℕ} 4 0 = ap length f in omega arith)
same_answer (Refused k) (Done n s) e f = absurd (let z : ◌≡◌ {A = ℕ} 0 4 = ap length f in omega arith)
same_answer (Refused k) (Refused j) e f = ap Refused e

-- what is equal in numbers is equal
pub in-numbers-same : {x y : Answer × State} → in_numbers x ≡ in_numbers y → x ≡ y
unfolding in_numbers
in-numbers-same {x} {y} e =
    let a = same_answer x.0 y.0 (ap (λ (u : ℕ × List ℕ × State). u.0) e) (ap (λ (u : ℕ × List ℕ × State). u.1) e) in
    let s : x.1 ≡ y.1 = ap (λ (u : ℕ × List ℕ × State). u.2) e in
    λ i. (a i, s i)

-- what passes return is the same where number and values are
same_return : (r q : Result Made Refusal) → number_of (answer_of r) ≡ number_of (answer_of q) → values_of (answer_of r) ≡ values_of (answer_of q) → r ≡ q
same_return (Ok m) (Ok k) e f =
    let at : (j : ℕ) → get_or (values_of (answer_of (Ok m))) j 0 ≡ get_or (values_of (answer_of (Ok k))) j 0 = λ j. ap (λ (l : List ℕ). get_or l j 0) f in
    λ i. Ok (record { count = at 0 i; sizes = record { vertices = at 1 i; elements = at 2 i; triples = at 3 i } })
same_return (Ok m) (Err c) e f = absurd (let z : ◌≡◌ {A = ℕ} 4 0 = ap length f in omega arith)
same_return (Err c) (Ok m) e f = absurd (let z : ◌≡◌ {A = ℕ} 0 4 = ap length f in omega arith)
same_return (Err c) (Err d) e f = ap Err (number-same c d e)

-- the code's own answer and the buffers: what is equal in numbers is equal
pub returned-same : {r q : Result Made Refusal} {s t : State} → in_numbers (answer_of r, s) ≡ in_numbers (answer_of q, t)
    → ◌≡◌ {A = Result Made Refusal × State} (r, s) (q, t)
unfolding in_numbers
returned-same {r} {q} {s} {t} e =
    let a = same_return r q (ap (λ (u : ℕ × List ℕ × State). u.0) e) (ap (λ (u : ℕ × List ℕ × State). u.1) e) in
    let m : s ≡ t = ap (λ (u : ℕ × List ℕ × State). u.2) e in
    λ i. (a i, m i)

-- an answer and a mesh in numbers
pub in-numbers : {a : Answer} {s : State} {y : Answer × State} → ◌≡◌ {A = Answer × State} (a, s) y → ◌≡◌ {A = ℕ × List ℕ × State} (number_of a, values_of a, s) (in_numbers y)
unfolding in_numbers
in-numbers e = ap (λ (x : Answer × State). (number_of x.0, values_of x.0, x.1)) e

-- and back
pub from-numbers : (a : Answer) {s : State} {y : Answer × State} → ◌≡◌ {A = ℕ × List ℕ × State} (number_of a, values_of a, s) (in_numbers y) → ◌≡◌ {A = Answer × State} (a, s) y
unfolding in_numbers
from-numbers a {s} {y} e = in-numbers-same {x = (a, s)} {y = y} e
