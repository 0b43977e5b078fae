-- `mesh::words::copy` meets its contract. The invariant: the first i elements are copied. Assumes nothing.
use Rattle.std.proofs.Common.{◌≡◌, ℕ, ◌+◌, ◌<◌, ◌++◌, List, length, get_or, set, take, drop, ap, ◌∙◌, subst₂, zero-add, arith, length-set}
use Rattle.std.proofs.lemmas.List.Edits.{paste_more}
use Rattle.mesh.proofs.words.copy.Goals as goal

-- one more element
turn : {A : Type 0} (d s : List A) (i : ℕ) (z : A) → i < length d → i < length s → z ≡ get_or s i z
    → set (take i s ++ drop i d) i z ≡ take (i + 1) s ++ drop (i + 1) d
turn d s i z h k e =
    ap (set (take i s ++ drop i d) i) e
    ∙ subst₂ (λ (a b : ℕ). set (take i s ++ drop a d) a (get_or s i z) ≡ take (i + 1) s ++ drop b d) (zero-add i) (zero-add (i + 1))
    (paste_more d 0 s i z (omega (arith, h)) k)

pub loop-i-preserved : goal.loop-i-preserved
loop-i-preserved g c =
    let a = c.args in
    let l = c.loop-i in
    let z = c.index-from-i.result in (
      ap (λ x. set x l.i z) l.invariant.0 ∙ turn a.to.now a.from.now l.i z (omega arith) (omega arith) c.index-from-i.is,
      simp length-set l.invariant.1,
    )
