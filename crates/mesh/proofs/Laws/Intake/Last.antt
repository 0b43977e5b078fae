-- The boundary's number at the end of intake: the elements are copied to the front of the work, which is 0 again afterwards.
-- Assumes nothing.
use Rattle.std.proofs.Common.{◌≡◌, ℕ, ◌+◌, ◌-◌, ◌*◌, ◌≤◌, Bool, true, false, cond, eqb, leb, List, ◌++◌, length, take, drop, sym, refl, ap, ◌∙◌, ap₂, arith, length-take-le, take-take, drop-drop, take_at, drop_at, eqb-true, le-leb}
use lib.Seq.{paste, length-paste}
use Rattle.mesh.specs.declared.element.Tet.{Tet}
use Rattle.mesh.specs.Surface.{Outcome}
use Rattle.mesh.specs.Surface.{Surface, Refused}
use Rattle.mesh.specs.Words.{zero_words}
use Rattle.mesh.specs.Element.{tets}
use Rattle.mesh.specs.Boundary.{boundary_number, boundary_of}
use Rattle.mesh.specs.Surface.{answer, answer_of}
use Rattle.mesh.specs.inside.Surface.{area_fits, Filled, boundary_in}
use Rattle.mesh.specs.Intake.{refusal_of}
use Rattle.mesh.proofs.Laws.Bools.{and_intro}
use Rattle.mesh.proofs.Laws.Boundary.Faces.{tets-kept}
use Rattle.mesh.proofs.Laws.Boundary.Whole.{filled_is, refused-zeros}
use Rattle.mesh.proofs.Laws.Intake.Table.{zeros-again}

-- the number of the elements' answer
pub answer-number : (ts : List Tet) → refusal_of (answer_of ts) ≡ boundary_number ts
unfolding answer_of answer
answer-number ts = go (boundary_number ts) (length (boundary_of ts)) (eqb (boundary_number ts) 0) refl
  where
    go : (k c : ℕ) (b : Bool) → eqb k 0 ≡ b → refusal_of (cond b (Surface c) (Refused k)) ≡ k
    go k c true e = sym (eqb-true k 0 e)
    go k c false e = refl

module _ (n : ℕ) (els w₀ : List ℕ) (few : n ≤ 16384) (long : 4 * n ≤ length els) (room : 36 * n ≤ length w₀) (zeros : w₀ ≡ zero_words (length w₀))
    (w₁ : List ℕ) (e₁ : w₁ ≡ paste w₀ 0 els (4 * n)) where
  long₁ : length w₁ ≡ length w₀
  long₁ = ap length e₁ ∙ length-paste w₀ 0 els (4 * n) (omega arith) long

  -- the area, as it is lent
  part-long : length (take (36 * n - 0) w₁) ≡ 36 * n
  part-long = ap (λ (k : ℕ). length (take k w₁)) (let o : 36 * n - 0 ≡ 36 * n = omega arith in o) ∙ length-take-le (36 * n) w₁ (omega (arith, long₁))

  part-elements : tets n (take (36 * n - 0) w₁) ≡ tets n els
  part-elements =
      tets-kept n (take (36 * n - 0) w₁) els
      (take-take (4 * n) (36 * n - 0) w₁ (omega arith) ∙ ap (take (4 * n)) e₁
      ∙ take_at (take (4 * n) els) (drop (0 + 4 * n) w₀) (4 * n) (length-take-le (4 * n) els long))

  part-fits : area_fits n (length (take (36 * n - 0) w₁)) ≡ true
  unfolding area_fits
  part-fits =
      and_intro (leb n 65536) (leb (36 * n) (length (take (36 * n - 0) w₁))) (le-leb n 65536 (omega arith)) (le-leb (36 * n) (length (take (36 * n - 0) w₁)) (omega (arith, part-long)))

  pub last-number : (r : Outcome) (p : List ℕ) → ◌≡◌ {A = Filled} (record { answer = r; area = p }) (boundary_in n (take (36 * n - 0) (drop 0 w₁)))
      → refusal_of r ≡ boundary_number (tets n els)
  last-number r p e =
      ap (λ (f : Filled). refusal_of f.answer) e ∙ ap (λ (f : Filled). refusal_of f.answer) (filled_is n (take (36 * n - 0) w₁) part-fits)
      ∙ answer-number (tets n (take (36 * n - 0) w₁)) ∙ ap boundary_number part-elements

  -- what lies behind the area
  behind : drop (36 * n - 0) w₁ ≡ drop (36 * n) w₀
  behind =
      let o : 36 * n - 0 ≡ 36 * n = omega arith in
      let k : 4 * n + 32 * n ≡ 36 * n = omega arith in
      ap (λ (u : ℕ). drop u w₁) (o ∙ sym k) ∙ sym (drop-drop (32 * n) (4 * n) w₁) ∙ ap (λ (l : List ℕ). drop (32 * n) (drop (4 * n) l)) e₁
      ∙ ap (drop (32 * n)) (drop_at (take (4 * n) els) (drop (0 + 4 * n) w₀) (4 * n) (length-take-le (4 * n) els long))
      ∙ ap (λ (u : ℕ). drop (32 * n) (drop u w₀)) (let q : 0 + 4 * n ≡ 4 * n = omega arith in q)
      ∙ drop-drop (32 * n) (4 * n) w₀ ∙ ap (λ (u : ℕ). drop u w₀) k

  -- the area put back after a refusal
  pub refused-last : {r : Outcome} {p : List ℕ} {k : ℕ} → ◌≡◌ {A = Filled} (record { answer = r; area = p }) (boundary_in n (take (36 * n - 0) (drop 0 w₁))) → r ≡ Refused k
      → take 0 w₁ ++ (p ++ drop (36 * n - 0) (drop 0 w₁)) ≡ zero_words (length w₀)
  refused-last {r} {p} e h =
      zeros-again (36 * n) w₀ (p ++ drop (36 * n - 0) w₁) room zeros
      (ap₂ (λ (u v : List ℕ). u ++ v) (refused-zeros n (take (36 * n - 0) w₁) e h ∙ ap zero_words part-long) behind)

  -- or after a surface, and lent again and cleared
  module _ (p : List ℕ) (long₂ : length p ≡ length (take (36 * n - 0) (drop 0 w₁))) where
    pub last-zeros : (z : List ℕ)
        → z ≡ zero_words (length (take (36 * n - 0) (drop 0 (take 0 w₁ ++ (p ++ drop (36 * n - 0) (drop 0 w₁))))))
        → take 0 (take 0 w₁ ++ (p ++ drop (36 * n - 0) (drop 0 w₁))) ++ (z ++ drop (36 * n - 0) (drop 0 (take 0 w₁ ++ (p ++ drop (36 * n - 0) (drop 0 w₁))))) ≡ zero_words (length w₀)
    last-zeros z f =
        let o : 36 * n - 0 ≡ 36 * n = omega arith in
        let d = drop (36 * n - 0) w₁ in
        let m : length p ≡ 36 * n = long₂ ∙ part-long in
        let cut : drop (36 * n - 0) (p ++ d) ≡ d = drop_at p d (36 * n - 0) (m ∙ sym o) in
        let front : length (take (36 * n - 0) (p ++ d)) ≡ 36 * n = ap length (take_at p d (36 * n - 0) (m ∙ sym o)) ∙ m in
        zeros-again (36 * n) w₀ (z ++ drop (36 * n - 0) (p ++ d)) room zeros
        (ap₂ (λ (u v : List ℕ). u ++ v) (f ∙ ap zero_words front) (cut ∙ behind))
