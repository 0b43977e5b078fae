-- `mesh::words::copy_words` meets its contract. The invariant: the first p words are pasted. Assumes nothing.
use Rattle.std.proofs.Common.{ℕ, ◌+◌, List, get_or, set, ap, ◌∙◌, arith, length-set}
use Rattle.mesh.proofs.Laws.Parts.{copy-turn}
use Rattle.mesh.proofs.words.copy_words.Goals as goal

pub loop-p-preserved : goal.loop-p-preserved
loop-p-preserved c =
    let l = c.loop-p in
    let a = c.args in (
      omega arith,
      ap (λ (x : List ℕ). set x (a.k + l.p) (get_or x (a.i + l.p) 0)) l.invariant.1
          ∙ copy-turn a.s.now a.i a.k a.n l.p 0 c.requires.0 c.requires.1 c.requires.2 c.loop-p-test.true,
      simp length-set l.invariant.2,
    )
