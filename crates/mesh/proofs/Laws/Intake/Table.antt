-- The table by parts: 10 and 11, then 12 to 15, then the boundary. Assumes nothing.
use Rattle.std.proofs.Common.{◌≡◌, ℕ, zero, suc, ◌+◌, ◌-◌, ◌*◌, ◌≤◌, Bool, true, false, cond, not, ◌&&◌, ◌||◌, eqb, ltb, List, ◌++◌, length, drop, replicate, sym, refl, ap, ◌∙◌, arith, drop_at, ltb-false, eq-eqb, ne_eqb}
use lib.Ieee.{Float}
use lib.ListN.{replicate-append-replicate, length-replicate}
use Rattle.geometry.specs.declared.point.Point.{Point}
use Rattle.geometry.specs.declared.bounds.Bounds.{Bounds}
use Rattle.geometry.specs.declared.bounds.Options.{Options}
use Rattle.geometry.specs.declared.field.Field.{Field}
use Rattle.mesh.specs.declared.element.Tet.{Tet}
use Rattle.mesh.specs.declared.intake.Sizes.{Sizes}
use Rattle.mesh.specs.declared.intake.Settings.{Settings}
use Rattle.mesh.specs.declared.intake.Lengths.{Lengths}
use Rattle.mesh.specs.Tests.{every}
use Rattle.mesh.specs.Words.{zero_words, points_of}
use Rattle.mesh.specs.Element.{tets}
use Rattle.mesh.specs.Boundary.{boundary_number}
use Rattle.mesh.specs.Intake.{Given, too_many, too_short, options_in, fields_in, sized_point, in_box, well_numbered, all_different, upright, intake, given_of}
use Rattle.mesh.specs.inside.Intake.{intake_numbers, settings_number, mesh_number}
use Rattle.mesh.proofs.Laws.Bools.{clash}
use Rattle.mesh.proofs.Laws.Intake.Chains.{neither_left, neither_right}
use Rattle.mesh.proofs.Laws.Intake.Room.{counts-few}

-- ---- the whole and its parts

-- the boundary's number comes last
pub intake-is : (g : Given) → intake g ≡ cond (eqb (intake_numbers g) 0) (boundary_number g.elements) (intake_numbers g)
unfolding intake intake_numbers
intake-is g =
    go (too_many g.sizes || too_short g.sizes g.lengths) (not (options_in g.options && fields_in g.count g.fields))
    (not (every sized_point g.points && every (in_box g.options.bounds) g.parameters)) (not (every (well_numbered g.sizes.vertices) g.elements))
    (not (all_different g.elements)) (not (every (upright g.points) g.elements)) (boundary_number g.elements)
  where
    go : (a b c d e f : Bool) (x : ℕ) → cond a 10 (cond b 11 (cond c 12 (cond d 13 (cond e 14 (cond f 15 x)))))
        ≡ cond (eqb (cond a 10 (cond b 11 (cond c 12 (cond d 13 (cond e 14 (cond f 15 0)))))) 0) x (cond a 10 (cond b 11 (cond c 12 (cond d 13 (cond e 14 (cond f 15 0))))))
    go true b c d e f x = refl
    go false true c d e f x = refl
    go false false true d e f x = refl
    go false false false true e f x = refl
    go false false false false true f x = refl
    go false false false false false true x = refl
    go false false false false false false x = refl

-- 12 to 15 come behind 10 and 11
pub numbers-are : (g : Given) → intake_numbers g
    ≡ cond (eqb (settings_number g.sizes g.lengths g.options g.count g.fields) 0)
    (mesh_number g.sizes.vertices g.options.bounds g.parameters g.points g.elements)
    (settings_number g.sizes g.lengths g.options g.count g.fields)
unfolding intake_numbers settings_number mesh_number
numbers-are g =
    go (too_many g.sizes || too_short g.sizes g.lengths) (not (options_in g.options && fields_in g.count g.fields))
    (cond (not (every sized_point g.points && every (in_box g.options.bounds) g.parameters)) 12
    (cond (not (every (well_numbered g.sizes.vertices) g.elements)) 13
    (cond (not (all_different g.elements)) 14 (cond (not (every (upright g.points) g.elements)) 15 0))))
  where
    go : (a b : Bool) (x : ℕ) → cond a 10 (cond b 11 x) ≡ cond (eqb (cond a 10 (cond b 11 0)) 0) x (cond a 10 (cond b 11 0))
    go true b x = refl
    go false true x = refl
    go false false x = refl

-- ---- 10 and 11

-- a number is given where its condition applies, and else what follows
given : (b : Bool) (k x : ℕ) → not b ≡ false → cond b k x ≡ k
given true k x h = refl
given false k x h = clash true refl h

follows : (b : Bool) (k x : ℕ) → not b ≡ true → cond b k x ≡ x
follows true k x h = clash false h refl
follows false k x h = refl

follows-back : (b : Bool) (k x : ℕ) → cond b (suc k) x ≡ 0 → b ≡ false
follows-back true k x e = absurd (no e)
  where
    no : suc k ≡ 0 → ⊥
    no e = omega arith
follows-back false k x e = refl

module _ (s : Sizes) (l : Lengths) (o : Options) (count : ℕ) (fields : List Field) where
  pub number-10 : not (too_many s || too_short s l) ≡ false → 10 ≡ settings_number s l o count fields
  unfolding settings_number
  number-10 h = sym (given (too_many s || too_short s l) 10 (cond (not (options_in o && fields_in count fields)) 11 0) h)

  module _ (h : not (too_many s || too_short s l) ≡ true) where
    rest : settings_number s l o count fields ≡ cond (not (options_in o && fields_in count fields)) 11 0
    unfolding settings_number
    rest = follows (too_many s || too_short s l) 10 (cond (not (options_in o && fields_in count fields)) 11 0) h

    pub number-11 : (options_in o && fields_in count fields) ≡ false → 11 ≡ settings_number s l o count fields
    number-11 k = sym (rest ∙ ap (λ (b : Bool). cond (not b) 11 0) k)

    pub settings-pass : (options_in o && fields_in count fields) ≡ true → 0 ≡ settings_number s l o count fields
    settings-pass k = sym (rest ∙ ap (λ (b : Bool). cond (not b) 11 0) k)

  -- counts that pass 10, and the room that they leave
  pub room_for : settings_number s l o count fields ≡ 0
      → (s.elements ≤ 16384) × (4 * (2 * s.elements) ≤ l.elements) × (256 * s.elements + 32 * s.vertices + 1024 ≤ l.words)
  unfolding settings_number
  room_for e =
      let fine = follows-back (too_many s || too_short s l) 9 (cond (not (options_in o && fields_in count fields)) 11 0) e in
      let t₁ = ltb l.parameters (3 * s.vertices) in
      let t₂ = ltb l.points (3 * s.vertices) in
      let t₃ = ltb l.masks s.vertices in
      let t₄ = ltb l.surface (3 * (4 * s.elements)) in
      let t₅ = ltb l.elements (4 * (2 * s.elements)) in
      let t₆ = ltb l.words (256 * s.elements + 32 * s.vertices + 1024) in
      let t₇ = ltb l.floats (16 * s.vertices) in
      let short : (t₅ || (t₆ || t₇)) ≡ false =
      neither_right t₄ (t₅ || (t₆ || t₇))
      (neither_right t₃ (t₄ || (t₅ || (t₆ || t₇)))
      (neither_right t₂ (t₃ || (t₄ || (t₅ || (t₆ || t₇))))
      (neither_right t₁ (t₂ || (t₃ || (t₄ || (t₅ || (t₆ || t₇))))) (neither_right (too_many s) (too_short s l) fine)))) in (
        (counts-few s (neither_left (too_many s) (too_short s l) fine)).1,
        ltb-false l.elements (4 * (2 * s.elements)) (neither_left t₅ (t₆ || t₇) short),
        ltb-false l.words (256 * s.elements + 32 * s.vertices + 1024) (neither_left t₆ t₇ (neither_right t₅ (t₆ || t₇) short)),
      )

-- ---- 12 to 15

module _ (n : ℕ) (b : Bounds) (parameters points : List Point) (elements : List Tet) where
  pub number-12 : (every sized_point points && every (in_box b) parameters) ≡ false → 12 ≡ mesh_number n b parameters points elements
  unfolding mesh_number
  number-12 h = rw h

  module _ (h : (every sized_point points && every (in_box b) parameters) ≡ true) where
    pub number-13 : every (well_numbered n) elements ≡ false → 13 ≡ mesh_number n b parameters points elements
    unfolding mesh_number
    number-13 k = rw (h, k)

    module _ (k : every (well_numbered n) elements ≡ true) where
      pub number-14 : all_different elements ≡ false → 14 ≡ mesh_number n b parameters points elements
      unfolding mesh_number
      number-14 e = rw (h, k, e)

      module _ (e : all_different elements ≡ true) where
        pub number-15 : every (upright points) elements ≡ false → 15 ≡ mesh_number n b parameters points elements
        unfolding mesh_number
        number-15 u = rw (h, k, e, u)

        pub mesh-pass : every (upright points) elements ≡ true → 0 ≡ mesh_number n b parameters points elements
        unfolding mesh_number
        mesh-pass u = rw (h, k, e, u)

-- ---- the work

-- zeros over the front of zeros
pub zeros-again : (k : ℕ) (s t : List ℕ) → k ≤ length s → s ≡ zero_words (length s) → t ≡ zero_words k ++ drop k s → t ≡ zero_words (length s)
zeros-again k s t h e f =
    let r = length s - k in
    let j : length s ≡ k + r = omega arith in
    let split : s ≡ replicate k 0 ++ replicate r 0 = e ∙ ap (λ (u : ℕ). replicate u 0) j ∙ sym (replicate-append-replicate k r 0) in
    f ∙ ap (λ (l : List ℕ). replicate k 0 ++ l) (ap (drop k) split ∙ drop_at (replicate k 0) (replicate r 0) k (length-replicate k 0)) ∙ sym split ∙ e

-- ---- the function

-- the lengths of slices, where the work is w words long
abbrev pub lengths : List Float → List Float → ℕ → List ℕ → ℕ → ℕ → List Float → Lengths
lengths parameters points masks elements surface w floats = record {
  parameters = length parameters;
  points = length points;
  masks = masks;
  elements = length elements;
  surface = surface;
  words = w;
  floats = length floats;
}

module _ (s : Settings) (fields : List Field) (parameters points : List Float) (masks : ℕ) (elements : List ℕ) (surface : ℕ) (work : List ℕ) (floats : List Float)
    (w k : ℕ) (long : w ≡ length work) (e : k ≡ settings_number s.sizes (lengths parameters points masks elements surface w floats) s.options s.count fields) where
  settled : k ≡ settings_number s.sizes (lengths parameters points masks elements surface (length work) floats) s.options s.count fields
  settled = e ∙ ap (λ (u : ℕ). settings_number s.sizes (lengths parameters points masks elements surface u floats) s.options s.count fields) long

  -- 10 or 11
  pub numbers-stop : (k ≡ 0 → ⊥) → k ≡ intake_numbers (given_of s fields parameters points masks elements surface work floats)
  unfolding given_of
  numbers-stop h = settled ∙ sym (numbers-are (given_of s fields parameters points masks elements surface work floats) ∙ go (settings_number s.sizes (lengths parameters points masks elements surface (length work) floats) s.options s.count fields) (λ z. h (settled ∙ z)))
    where
      go : (j : ℕ) → (j ≡ 0 → ⊥) → cond (eqb j 0) (mesh_number s.sizes.vertices s.options.bounds (points_of s.sizes.vertices parameters) (points_of s.sizes.vertices points) (tets s.sizes.elements elements)) j ≡ j
      go j f = rw (ne_eqb j 0 f)

  -- 12 to 15, or 0
  pub numbers-go : k ≡ 0 → (m : ℕ) → m ≡ mesh_number s.sizes.vertices s.options.bounds (points_of s.sizes.vertices parameters) (points_of s.sizes.vertices points) (tets s.sizes.elements elements)
      → m ≡ intake_numbers (given_of s fields parameters points masks elements surface work floats)
  unfolding given_of
  numbers-go h m f = f ∙ sym (numbers-are (given_of s fields parameters points masks elements surface work floats) ∙ go (settings_number s.sizes (lengths parameters points masks elements surface (length work) floats) s.options s.count fields) (sym settled ∙ h))
    where
      go : (j : ℕ) → j ≡ 0 → cond (eqb j 0) (mesh_number s.sizes.vertices s.options.bounds (points_of s.sizes.vertices parameters) (points_of s.sizes.vertices points) (tets s.sizes.elements elements)) j
          ≡ mesh_number s.sizes.vertices s.options.bounds (points_of s.sizes.vertices parameters) (points_of s.sizes.vertices points) (tets s.sizes.elements elements)
      go j z = rw (eq-eqb j 0 z)

  -- what the tests of 10 leave for those behind them
  pub room-left : k ≡ 0 → (s.sizes.elements ≤ 16384) × (8 * s.sizes.elements ≤ w)
  room-left h =
      let r = room_for s.sizes (lengths parameters points masks elements surface w floats) s.options s.count fields (sym e ∙ h) in
      (r.0, omega (arith, r.2))

-- ---- the boundary comes last

module _ (s : Settings) (fields : List Field) (parameters points : List Float) (masks : ℕ) (elements : List ℕ) (surface : ℕ) (work : List ℕ) (floats : List Float)
    (k : ℕ) (e : k ≡ intake_numbers (given_of s fields parameters points masks elements surface work floats)) where
  pub intake-stop : (k ≡ 0 → ⊥) → k ≡ intake (given_of s fields parameters points masks elements surface work floats)
  intake-stop h = sym (intake-is (given_of s fields parameters points masks elements surface work floats) ∙ go (intake_numbers (given_of s fields parameters points masks elements surface work floats)) (boundary_number (given_of s fields parameters points masks elements surface work floats).elements) (sym e))
    where
      go : (j x : ℕ) → j ≡ k → cond (eqb j 0) x j ≡ k
      go j x q = rw (ne_eqb j 0 (λ z. h (sym q ∙ z))) q

  pub intake-go : k ≡ 0 → (m : ℕ) → m ≡ boundary_number (tets s.sizes.elements elements) → m ≡ intake (given_of s fields parameters points masks elements surface work floats)
  unfolding given_of
  intake-go h m f = f ∙ sym (intake-is (given_of s fields parameters points masks elements surface work floats) ∙ go (intake_numbers (given_of s fields parameters points masks elements surface work floats)) (boundary_number (tets s.sizes.elements elements)) (sym e ∙ h))
    where
      go : (j x : ℕ) → j ≡ 0 → cond (eqb j 0) x j ≡ x
      go j x q = rw (eq-eqb j 0 q)

  -- what 10 leaves for the boundary
  pub boundary-room : k ≡ 0 → (s.sizes.elements ≤ 16384) × (4 * s.sizes.elements ≤ length elements) × (36 * s.sizes.elements ≤ length work)
  unfolding given_of
  boundary-room h =
      let l = lengths parameters points masks elements surface (length work) floats in
      let r = room_for s.sizes l s.options s.count fields (go (settings_number s.sizes l s.options s.count fields) (mesh_number s.sizes.vertices s.options.bounds (points_of s.sizes.vertices parameters) (points_of s.sizes.vertices points) (tets s.sizes.elements elements)) (sym (numbers-are (given_of s fields parameters points masks elements surface work floats)) ∙ sym e ∙ h)) in
      (r.0, omega (arith, r.1), omega (arith, r.2))
    where
      go : (j x : ℕ) → cond (eqb j 0) x j ≡ 0 → j ≡ 0
      go zero x q = refl
      go (suc j) x q = rw (ne_eqb (suc j) 0 (λ z. nought j z)) at q
        where
          nought : (j : ℕ) → suc j ≡ 0 → ⊥
          nought j z = omega arith
