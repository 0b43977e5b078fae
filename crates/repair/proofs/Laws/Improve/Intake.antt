-- What the answer 0 of intake means: each test of the table passed. So the elements are proper: four different vertices in range each, and
-- no two with the same four; and proper elements pass these two tests again. Assumes nothing.
use mathlib.Core.Path.{◌≡◌, refl, sym, subst}
use mathlib.Core.Logic.{◌≢◌}
use mathlib.Core.Bool.{Bool, true, false, not, cond, ◌&&◌, ◌||◌}
use mathlib.Core.List.Memᴰ
use mathlib.Core.List.{List, [], ◌∷◌, map, Memᴰ}
use Prim.Native.Nat.{ℕ}
use native.Mathlib.Omega.{arith}
use borrow.Author.Tests.{not-true, not-false}
use Rattle.mesh.specs.declared.element.Tet.{Tet}
use Rattle.mesh.specs.Complex.{sub, Sub}
use Rattle.mesh.specs.inside.Complex.{IsElement, Proper}
use Rattle.mesh.specs.Tests.{every, nodup, under}
use Rattle.mesh.specs.Element.{vertices_of}
use Rattle.mesh.specs.Boundary.{boundary_number}
use Rattle.mesh.specs.Intake.{Given, too_many, too_short, options_in, fields_in, sized_point, in_box, well_numbered, same_vertices, all_different, upright, intake}
use Rattle.mesh.proofs.Laws.Complex.Sets.{clash, and-fst, and-snd, sub-intro, sub-elim}
use Rattle.mesh.proofs.Laws.Link.Members.{every-elim, every-intro}
use Rattle.mesh.proofs.Laws.Complex.Tests.{nodup-sound, nodup-true, under-sound, under-true}

pub record Passed (g : Given) : Type 0 where
  -- 10
  pub few : too_many g.sizes ≡ false
  pub long : too_short g.sizes g.lengths ≡ false
  -- 11
  pub options : options_in g.options ≡ true
  pub fields : fields_in g.count g.fields ≡ true
  -- 12
  pub points : every sized_point g.points ≡ true
  pub parameters : every (in_box g.options.bounds) g.parameters ≡ true
  -- 13, 14, 15
  pub numbered : every (well_numbered g.sizes.vertices) g.elements ≡ true
  pub different : all_different g.elements ≡ true
  pub standing : every (upright g.points) g.elements ≡ true
  -- 16, 17
  pub boundary : boundary_number g.elements ≡ 0

-- a condition that does not apply, and what is left
gate : (t : Bool) (k r : ℕ) → k ≢ 0 → cond t k r ≡ 0 → (t ≡ false) × (r ≡ 0)
gate true k r n h = absurd (n h)
gate false k r n h = (refl, h)

pub or-none : (a b : Bool) → (a || b) ≡ false → (a ≡ false) × (b ≡ false)
or-none true b h = absurd (clash refl h)
or-none false b h = (refl, h)

-- none of the conditions applies
pub intake-passed : (g : Given) → intake g ≡ 0 → Passed g
unfolding intake
intake-passed g h =
    let short = too_many g.sizes || too_short g.sizes g.lengths in
    let t₁₁ = options_in g.options && fields_in g.count g.fields in
    let t₁₂ = every sized_point g.points && every (in_box g.options.bounds) g.parameters in
    let t₁₃ = every (well_numbered g.sizes.vertices) g.elements in
    let t₁₄ = all_different g.elements in
    let t₁₅ = every (upright g.points) g.elements in
    let b = boundary_number g.elements in
    let r₁₅ = cond (not t₁₅) 15 b in
    let r₁₄ = cond (not t₁₄) 14 r₁₅ in
    let r₁₃ = cond (not t₁₃) 13 r₁₄ in
    let r₁₂ = cond (not t₁₂) 12 r₁₃ in
    let r₁₁ = cond (not t₁₁) 11 r₁₂ in
    let h₁₀ = gate short 10 r₁₁ (λ e. omega arith) h in
    let h₁₁ = gate (not t₁₁) 11 r₁₂ (λ e. omega arith) h₁₀.1 in
    let h₁₂ = gate (not t₁₂) 12 r₁₃ (λ e. omega arith) h₁₁.1 in
    let h₁₃ = gate (not t₁₃) 13 r₁₄ (λ e. omega arith) h₁₂.1 in
    let h₁₄ = gate (not t₁₄) 14 r₁₅ (λ e. omega arith) h₁₃.1 in
    let h₁₅ = gate (not t₁₅) 15 b (λ e. omega arith) h₁₄.1 in
    let room = or-none (too_many g.sizes) (too_short g.sizes g.lengths) h₁₀.0 in
    record {
      few = room.0;
      long = room.1;
      options = and-fst (options_in g.options) (fields_in g.count g.fields) (not-false t₁₁ h₁₁.0);
      fields = and-snd (options_in g.options) (fields_in g.count g.fields) (not-false t₁₁ h₁₁.0);
      points = and-fst (every sized_point g.points) (every (in_box g.options.bounds) g.parameters) (not-false t₁₂ h₁₂.0);
      parameters = and-snd (every sized_point g.points) (every (in_box g.options.bounds) g.parameters) (not-false t₁₂ h₁₂.0);
      numbered = not-false t₁₃ h₁₃.0;
      different = not-false t₁₄ h₁₄.0;
      standing = not-false t₁₅ h₁₅.0;
      boundary = h₁₅.1;
    }

-- ---- the elements are proper

-- an element with four different vertices below n
pub numbered-element : (n : ℕ) (t : Tet) → well_numbered n t ≡ true → IsElement n (vertices_of t)
numbered-element n t h = record {
  four = refl;
  distinct = nodup-sound (vertices_of t) (and-snd (under n (vertices_of t)) (nodup (vertices_of t)) h);
  below = under-sound n (vertices_of t) (and-fst (under n (vertices_of t)) (nodup (vertices_of t)) h);
}

pub proper-of : (n : ℕ) (ts : List Tet) → every (well_numbered n) ts ≡ true → all_different ts ≡ true → Proper n (map vertices_of ts)
unfolding all_different
proper-of n [] w d = tt
proper-of n (t ∷ ts) w d =
    let here = and-fst (well_numbered n t) (every (well_numbered n) ts) w in
    let apart = and-fst (every (λ u. not (same_vertices t u)) ts) (all_different ts) d in (
      numbered-element n t here,
      (λ f m s r.
          let k = Memᴰ.of_map vertices_of ts m in
          let p : sub (vertices_of t) (vertices_of k.0) ≡ true = sub-intro (vertices_of t) (vertices_of k.0) (subst (λ e. Sub (vertices_of t) e) (sym k.2) s) in
          let q : sub (vertices_of k.0) (vertices_of t) ≡ true = sub-intro (vertices_of k.0) (vertices_of t) (subst (λ e. Sub e (vertices_of t)) (sym k.2) r) in
          clash (both (sub (vertices_of t) (vertices_of k.0)) (sub (vertices_of k.0) (vertices_of t)) p q) (not-true (same_vertices t k.0) (every-elim (λ u. not (same_vertices t u)) ts apart k.1))),
      proper-of n ts (and-snd (well_numbered n t) (every (well_numbered n) ts) w) (and-snd (every (λ u. not (same_vertices t u)) ts) (all_different ts) d),
    )
  where
    both : (a b : Bool) → a ≡ true → b ≡ true → (a && b) ≡ true
    both a b p q = rw (p, q) refl

pub passed-proper : (g : Given) → Passed g → Proper g.sizes.vertices (map vertices_of g.elements)
passed-proper g p = proper-of g.sizes.vertices g.elements p.numbered p.different

pub passed-upright : (g : Given) → Passed g → (t : Tet) → Memᴰ t g.elements → upright g.points t ≡ true
passed-upright g p t m = every-elim (upright g.points) g.elements p.standing m

-- ---- proper elements pass the tests again

-- 13
pub proper-numbered : (n : ℕ) (ts : List Tet) → Proper n (map vertices_of ts) → every (well_numbered n) ts ≡ true
proper-numbered n [] h = refl
proper-numbered n (t ∷ ts) h =
    rw (under-true n (vertices_of t) h.0.below, nodup-true (vertices_of t) h.0.distinct) (proper-numbered n ts h.2)

-- 14
pub proper-different : (n : ℕ) (ts : List Tet) → Proper n (map vertices_of ts) → all_different ts ≡ true
unfolding all_different
proper-different n [] h = refl
proper-different n (t ∷ ts) h = rw (every-intro (λ u. not (same_vertices t u)) ts other) (proper-different n ts h.2)
  where
    other : (u : Tet) → Memᴰ u ts → not (same_vertices t u) ≡ true
    other u m = by (sub (vertices_of t) (vertices_of u)) (sub (vertices_of u) (vertices_of t)) refl refl
      where
        by : (a b : Bool) → sub (vertices_of t) (vertices_of u) ≡ a → sub (vertices_of u) (vertices_of t) ≡ b → not (a && b) ≡ true
        by false b p q = refl
        by true false p q = refl
        by true true p q = absurd (h.1 (vertices_of u) (Memᴰ.map vertices_of m) (sub-elim (vertices_of t) (vertices_of u) p) (sub-elim (vertices_of u) (vertices_of t) q))
