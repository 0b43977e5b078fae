-- A pass's call: what intake's answer says of the buffers, and the two ways on from it. Assumes nothing.
use mathlib.Core.Path.{◌≡◌, refl, sym, ap, ◌∙◌}
use mathlib.Core.Bool.{◌&&◌}
use mathlib.Core.List.{List}
use Prim.Native.Nat.{ℕ, ◌≤◌}
use native.Mathlib.Omega.{arith}
use lib.Dec.{leb}
use lib.Ieee.{Float}
use lib.ListN.{length, length-replicate}
use borrow.Author.Tests.{ne_eqb, leb-true}
use Rattle.mesh.specs.Words.{zero_words}
use Rattle.mesh.specs.Intake.{Given, given_of, intake, bounds_in, cells_in}
use Rattle.mesh.proofs.Laws.Complex.Sets.{and-fst, and-snd}
use Rattle.repair.specs.Step.{Refused}
use Rattle.repair.specs.Improve as def
use Rattle.repair.specs.Step.{State, Call, Pass, mesh_of, given, lengths_of, result_of, finish, step}
use Rattle.repair.specs.inside.improve.Fitting.{Fitting}
use Rattle.repair.specs.inside.improve.Renumber.{EndBuffers}
use Rattle.repair.proofs.Laws.Improve.Intake.{Passed, intake-passed}
use Rattle.repair.proofs.Laws.Lengths.{LongEnough, long-enough}

module _ (c : Call) (s : State) (work : List ℕ) (floats : List Float) (words : c.words ≡ length work) (many : c.floats ≡ length floats) where
  -- what intake sees of the buffers
  abbrev pub seen : Given
  seen =
      given_of (record { sizes = s.sizes; options = c.options; count = c.count }) c.fields s.parameters s.points (length s.masks) s.elements
      (length s.surface) work floats

  given_is : given (lengths_of c s) c s ≡ seen
  unfolding given given_of mesh_of
  given_is = rw (words, many) refl

  -- a number other than 0 is the call's answer
  pub call-refused : (number : ℕ) → number ≡ intake seen → (number ≡ 0 → ⊥) → (Refused number, s) ≡ step c s
  unfolding step
  call-refused number e f =
      let i : intake (given (lengths_of c s) c s) ≡ number = ap intake given_is ∙ sym e in
      rw (i, ne_eqb number 0 f) refl

  -- with 0 the pass is made
  pub call-made : (number : ℕ) → number ≡ intake seen → number ≡ 0 → step c s ≡ finish s (result_of c.pass c (mesh_of s))
  unfolding step
  call-made number e f =
      let i : intake (given (lengths_of c s) c s) ≡ 0 = ap intake given_is ∙ sym e ∙ f in
      rw i refl

  -- and intake's tests passed
  pub passed : (number : ℕ) → number ≡ intake seen → number ≡ 0 → Passed seen
  passed number e f = intake-passed seen (sym e ∙ f)

  -- and the slices are long enough
  pub lengths : (number : ℕ) → number ≡ intake seen → number ≡ 0 → LongEnough s.sizes (lengths_of c s)
  unfolding given_of
  lengths number e f = long-enough s.sizes (lengths_of c s) (passed number e f).few (rw (words, many) (passed number e f).long)

  -- and all is as the rounds of `improve` ask
  pub fitting : (number : ℕ) → number ≡ intake seen → number ≡ 0 → (w : List ℕ) → w ≡ zero_words (length work) → Fitting c.options s.sizes s.elements w
  unfolding given_of
  fitting number e f w z =
      let p = passed number e f in
      let h = lengths number e f in
      let o = c.options in
      let b₁ = and-snd (bounds_in o.bounds) (cells_in o.cells.x && (cells_in o.cells.y && (cells_in o.cells.z && (leb o.passes 16 && leb o.periodic 7)))) p.options in
      let b₂ = and-snd (cells_in o.cells.x) (cells_in o.cells.y && (cells_in o.cells.z && (leb o.passes 16 && leb o.periodic 7))) b₁ in
      let b₃ = and-snd (cells_in o.cells.y) (cells_in o.cells.z && (leb o.passes 16 && leb o.periodic 7)) b₂ in
      let b₄ = and-snd (cells_in o.cells.z) (leb o.passes 16 && leb o.periodic 7) b₃ in
      let long : length w ≡ length work = ap length z ∙ length-replicate (length work) 0 in
      record {
        vertices = h.vertices;
        elements = h.elements;
        passes = leb-true o.passes 16 (and-fst (leb o.passes 16) (leb o.periodic 7) b₄);
        slots = omega (arith, h.slots);
        numbered = p.numbered;
        long = omega (arith, h.words, long, words);
        zeros = z ∙ ap zero_words (sym long);
      }

  -- and the buffers are long enough for its end
  pub end-buffers : (number : ℕ) → number ≡ intake seen → number ≡ 0 → (k : ℕ) → k ≤ s.sizes.elements → {j : ℕ} → j ≡ length floats
      → EndBuffers s.sizes k (length s.parameters) (length s.points) (length s.masks) (length s.elements) (length s.surface) j
  end-buffers number e f k few l =
      let h = lengths number e f in
      record {
        few = few;
        parameters = h.parameters;
        points = h.points;
        masks = h.masks;
        elements = h.slots;
        surface = h.surface;
        floats = omega (arith, h.floats, many, l);
      }

-- the pass on values of a call of `improve`
pub improve-result : (c : Call) (s : State) → c.pass ≡ Pass.improve → finish s (def.improve c.options (mesh_of s)) ≡ finish s (result_of c.pass c (mesh_of s))
unfolding result_of
improve-result c s e = rw e refl
