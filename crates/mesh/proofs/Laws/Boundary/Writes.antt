-- What the small functions of src/boundary.rt test and write. Assumes nothing.
use Rattle.std.proofs.Common.{◌≡◌, ℕ, ◌+◌, ◌-◌, ◌*◌, ◌/◌, ◌%◌, ◌≤◌, List, length, drop, sym, ap, ◌∙◌, arith, drop-drop}
use lib.Seq.{paste, drop-paste}
use Rattle.mesh.specs.declared.element.Triple.{Triple}
use Rattle.mesh.specs.Words.{word_at}
use Rattle.mesh.specs.Element.{tet, face_of}
use Rattle.mesh.specs.inside.Surface.{face_at}

-- ---- room

-- ---- a triple and a row

-- ---- a face read

pub face-is : (s : List ℕ) (m a b c d : ℕ) (f : Triple) → a ≡ word_at s (m / 4 * 4) → b ≡ word_at s (m / 4 * 4 + 1) → c ≡ word_at s (m / 4 * 4 + 2) → d ≡ word_at s (m / 4 * 4 + 3)
    → f ≡ face_of (tet a b c d) (m % 4) → f ≡ face_at s m
unfolding face_at
face-is s m a b c d f p q r t e = e ∙ rw (p, q, r, t)

-- ---- pastes

-- what lies past a paste
pub drop_past : (d : List ℕ) (k : ℕ) (x : List ℕ) (n e : ℕ) → k ≤ length d → n ≤ length x → k + n ≤ e → drop e (paste d k x n) ≡ drop e d
drop_past d k x n e hd hx h =
    let q : e ≡ k + n + (e - (k + n)) = omega arith in
    ap (λ (i : ℕ). drop i (paste d k x n)) q ∙ sym (drop-drop (e - (k + n)) (k + n) (paste d k x n))
    ∙ ap (drop (e - (k + n))) (drop-paste d k x n hd hx) ∙ drop-drop (e - (k + n)) (k + n) d ∙ ap (λ (i : ℕ). drop i d) (sym q)
