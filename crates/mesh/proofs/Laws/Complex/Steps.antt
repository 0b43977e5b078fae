-- Every step keeps the elements proper and the alternating count, and so does every run.
-- Assumes nothing.
use Rattle.std.proofs.Common.{◌≡◌, ℕ, ◌+◌, ltb, List, length, pos, negsuc, refl, ap, inl, inr, arith, ltb-false, ltb-true, le-ltb, lt-ltb}
use lib.IntN.{sub_ℕ}
use Rattle.mesh.specs.Complex.{faces, alternating}
use Rattle.mesh.specs.inside.Complex.{Proper, SameCount}
use Rattle.mesh.specs.inside.Moves.{Step, collapses, flips23, flips32, renumbers, reorders, Run, start, then}
use Rattle.mesh.proofs.Laws.Complex.Sets.{split}
use Rattle.mesh.proofs.Laws.Complex.Collapse.{collapse-proper, collapse-count}
use Rattle.mesh.proofs.Laws.Complex.Flip.{flip23-proper, flip23-count, flip32-proper, flip32-count}
use Rattle.mesh.proofs.Laws.Complex.Renumber.{renumber-proper, renumber-count}
use Rattle.mesh.proofs.Laws.Complex.Same.{same-proper, same_count}

pub step_keeps : (n : ℕ) (es : List (List ℕ)) (m : ℕ) (fs : List (List ℕ)) → Proper n es → Step n es m fs → Proper m fs × SameCount n es m fs
step_keeps n es m fs P (collapses a b c p q) = rw (p, q) (collapse-proper n a b es P c, collapse-count n a b es P c)
step_keeps n es m fs P (flips23 a b u v w c p q) = rw (p, q) (flip23-proper a b u v w c.five n es P c, flip23-count a b u v w c.five n es P c)
step_keeps n es m fs P (flips32 a b u v w c p q) = rw (p, q) (flip32-proper a b u v w c.five n es P c, flip32-count a b u v w c.five n es P c)
step_keeps n es m fs P (renumbers ρ c q) = rw q (renumber-proper ρ n m es P c, renumber-count ρ n m es P c)
step_keeps n es m fs P (reorders t l c p) =
    let Q : Proper n fs = same-proper n es fs P t l c in
    rw p (Q, same_count n es fs P Q c)

pub run-keeps : (n : ℕ) (es : List (List ℕ)) → Proper n es → {m : ℕ} {fs : List (List ℕ)} → Run n es m fs → Proper m fs × SameCount n es m fs
run-keeps n es P start = (P, refl)
run-keeps n es P (then {k} {m} {gs} {fs} r s) =
    let h = run-keeps n es P r in
    let j = step_keeps k gs m fs h.0 s in
    (j.0, omega arith)

-- the same, of the number V - E + F - T
sub_same : (a b c d : ℕ) → a + d ≡ c + b → sub_ℕ a b ≡ sub_ℕ c d
sub_same a b c d h =
    elim (split (ltb a b)) [
      | inl k ↦ let q = ltb-true a b k in rw (k, lt-ltb c d (omega arith)) (ap negsuc (omega arith))
      | inr k ↦ let q = ltb-false a b k in rw (k, le-ltb c d (omega arith)) (ap pos (omega arith))
    ]

pub same-alternating : (n : ℕ) (es : List (List ℕ)) (m : ℕ) (fs : List (List ℕ)) → SameCount n es m fs → alternating n es ≡ alternating m fs
same-alternating n es m fs h = sub_same (faces 1 n es + faces 3 n es) (faces 2 n es + length es) (faces 1 m fs + faces 3 m fs) (faces 2 m fs + length fs) h

pub run-alternating : (n : ℕ) (es : List (List ℕ)) → Proper n es → {m : ℕ} {fs : List (List ℕ)} → Run n es m fs → alternating n es ≡ alternating m fs
run-alternating n es P {m} {fs} r = same-alternating n es m fs (run-keeps n es P r).1
