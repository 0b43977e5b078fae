-- The owners of a listed face and their apexes: an element with the face has one vertex besides it, and a two-to-three is tried where both
-- owners of the start are still there. Assumes nothing.
use mathlib.Core.Path.{◌≡◌, refl, sym, ap, ap₂, subst, ◌∙◌}
use mathlib.Core.Logic.{inl, inr}
use mathlib.Core.Bool.{Bool, true, false, not, cond, ◌&&◌}
use mathlib.Core.List.{List, [], ◌∷◌, ◌++◌, map}
use mathlib.Core.Option as maths
use Rattle.std.specs.Prelude.{Option, Some, None}
use Rattle.std.specs.Option.{option_map, unwrap_or}
use Rattle.std.specs.List.{find}
use Prim.Native.Nat.{ℕ, zero, suc, ◌+◌, ◌≤◌, ◌<◌}
use native.Mathlib.Omega.{arith}
use borrow.Author.Tests.{ne_eqb}
use lib.Dec.{eqb}
use lib.ListN.{length, get_or, length-append}
use Rattle.mesh.specs.declared.element.Triple.{Triple}
use Rattle.mesh.specs.declared.element.Tet.{Tet}
use Rattle.mesh.specs.Complex.{mem, keep, Nodup}
use Rattle.mesh.specs.Element.{vertices_of, corners_of, has_all}
use Rattle.mesh.specs.Link.{without}
use Rattle.mesh.specs.Words.{numbers}
use Rattle.mesh.specs.Intake.{well_numbered}
use Rattle.mesh.specs.Measure.{Measure}
use Rattle.mesh.proofs.Laws.Complex.Sets.{split, out, mem-here}
use Rattle.mesh.proofs.Laws.Boundary.Same.{length-map}
use Rattle.repair.specs.Flip.{State, slot_has, live, elements_at, besides, two_to_three, try_face}
use Rattle.repair.specs.inside.flip.Tries.{Start, FaceListed}
use Rattle.repair.proofs.Laws.Improve.Intake.{numbered-element}
use Rattle.repair.proofs.Laws.Flip.Owners.{length_without, without-elim}

-- ---- the first vertex besides σ

module _ (σ : List ℕ) (t : Tet) where
  apex-first : mem t.a σ ≡ false → t.a ≡ get_or (without σ (vertices_of t)) 0 t.d
  apex-first h = sym (rw h refl)

  apex-second : mem t.a σ ≡ true → mem t.b σ ≡ false → t.b ≡ get_or (without σ (vertices_of t)) 0 t.d
  apex-second g h = sym (rw (g, h) refl)

  apex-third : mem t.a σ ≡ true → mem t.b σ ≡ true → mem t.c σ ≡ false → t.c ≡ get_or (without σ (vertices_of t)) 0 t.d
  apex-third f g h = sym (rw (f, g, h) refl)

  apex-last : mem t.a σ ≡ true → mem t.b σ ≡ true → mem t.c σ ≡ true → t.d ≡ get_or (without σ (vertices_of t)) 0 t.d
  apex-last f g h = sym (rw (f, g, h) (go (mem t.d σ)))
    where
      go : (q : Bool) → get_or (cond (not q) (t.d ∷ []) []) 0 t.d ≡ t.d
      go true = refl
      go false = refl

  -- the first of three that `find` gives
  pub apex-found : (r : Option ℕ) → option_map (λ v. v) r ≡ find (λ v. not (mem v σ)) (t.a ∷ t.b ∷ t.c ∷ []) → unwrap_or r t.d ≡ get_or (without σ (vertices_of t)) 0 t.d
  apex-found r e = ap (λ (o : Option ℕ). unwrap_or o t.d) (sym (same r) ∙ e) ∙ first
    where
      same : (o : Option ℕ) → option_map (λ v. v) o ≡ o
      same None = refl
      same (Some v) = refl

      first : unwrap_or (find (λ v. not (mem v σ)) (t.a ∷ t.b ∷ t.c ∷ [])) t.d ≡ get_or (without σ (vertices_of t)) 0 t.d
      first =
          elim (split (mem t.a σ)) [
            | inl f ↦ elim (split (mem t.b σ)) [
              | inl g ↦ elim (split (mem t.c σ)) [
                | inl h ↦ (let k : unwrap_or (find (λ v. not (mem v σ)) (t.a ∷ t.b ∷ t.c ∷ [])) t.d ≡ t.d = rw (f, g, h) refl in k) ∙ apex-last f g h
                | inr h ↦ (let k : unwrap_or (find (λ v. not (mem v σ)) (t.a ∷ t.b ∷ t.c ∷ [])) t.d ≡ t.c = rw (f, g, h) refl in k) ∙ apex-third f g h
              ]
              | inr g ↦ (let k : unwrap_or (find (λ v. not (mem v σ)) (t.a ∷ t.b ∷ t.c ∷ [])) t.d ≡ t.b = rw (f, g) refl in k) ∙ apex-second f g
            ]
            | inr f ↦ (let k : unwrap_or (find (λ v. not (mem v σ)) (t.a ∷ t.b ∷ t.c ∷ [])) t.d ≡ t.a = rw f refl in k) ∙ apex-first f
          ]

-- ---- the owners

heads : {i j : ℕ} {is js : List ℕ} → i ∷ is ≡ j ∷ js → i ≡ j
heads h = cc

tails : {i j : ℕ} {is js : List ℕ} → i ∷ is ≡ j ∷ js → is ≡ js
tails h = cc

never-nil : {j : ℕ} {js : List ℕ} → [] ≡ j ∷ js → ⊥
never-nil h = let e = ap length h in omega arith

module _ (p : ℕ → Bool) where
  -- the first number kept
  first-kept : (k n j : ℕ) (js : List ℕ) → keep p (numbers k n) ≡ j ∷ js → (k ≤ j) × (j < k + n) × (p j ≡ true)
  unfolding numbers
  first-kept k zero j js h = absurd (never-nil h)
  first-kept k (suc n) j js h = elim (split (p k)) [
    | inl q ↦ let e = heads (rw q at h) in (omega arith, omega arith, subst (λ (i : ℕ). p i ≡ true) e q)
    | inr q ↦ let r = first-kept (k + 1) n j js (rw q at h) in let a = r.0 in let b = r.1 in (omega arith, omega arith, r.2)
  ]

  -- the two numbers kept rise, and pass the test
  two-kept : (k n i j : ℕ) → keep p (numbers k n) ≡ i ∷ j ∷ [] → (i < j) × (j < k + n) × (p i ≡ true) × (p j ≡ true)
  unfolding numbers
  two-kept k zero i j h = absurd (never-nil h)
  two-kept k (suc n) i j h = elim (split (p k)) [
    | inl q ↦
        let e = heads (rw q at h) in
        let r = first-kept (k + 1) n j [] (tails (rw q at h)) in
        let a = r.0 in
        let b = r.1 in
        (omega arith, omega arith, subst (λ (m : ℕ). p m ≡ true) e q, r.2)
    | inr q ↦ let r = two-kept (k + 1) n i j (rw q at h) in let b = r.1 in (r.0, omega arith, r.2, r.3)
  ]

-- a list of one
one-is : (l : List ℕ) (d : ℕ) → length l ≡ 1 → l ≡ get_or l 0 d ∷ []
one-is [] d h = absurd (omega arith)
one-is (c ∷ []) d h = refl
one-is (c ∷ x ∷ l) d h = absurd (omega arith)

module _ (nv : ℕ) (ts : List Tet) (f : Triple) (i j : ℕ) (fl : FaceListed nv ts f i j) where
  -- the test of an owner at the start
  abbrev owns : ℕ → Bool
  owns k = slot_has (corners_of f) (get_or (map maths.some ts) k maths.none)

  -- the two owners
  pub owners-two : (i < j) × (j < length ts) × (owns i ≡ true) × (owns j ≡ true)
  owners-two =
      let r = two-kept owns 0 (length (map maths.some ts)) i j fl.owners in
      let b = r.1 in
      (r.0, omega (arith, length-map maths.some ts), r.2, r.3)

  -- three different corners
  corners-apart : Nodup (corners_of f)
  corners-apart =
      let a = fl.first in
      let b = fl.second in
      (out f.a f.b (f.c ∷ []) (λ e. omega arith) (out f.a f.c [] (λ e. omega arith) refl), (out f.b f.c [] (λ e. omega arith) refl, (refl, tt)))

  -- an element of the start with the face has one vertex besides it
  module _ (s : State) (st : Start ts s) where
    pub one-apex : (k : ℕ) → k < length ts → owns k ≡ true → (t : Tet) → get_or s.slots k maths.none ≡ maths.some t → well_numbered nv t ≡ true → length (without (corners_of f) (vertices_of t)) ≡ 1
    one-apex k l h t e ok =
        let g : has_all (corners_of f) t ≡ true = ap (slot_has (corners_of f)) (sym (st k t l e)) ∙ h in
        let r = length_without nv (corners_of f) (vertices_of t) (numbered-element nv t ok) corners-apart g in
        omega arith

    -- the vertex is no corner of the face, and below nv
    pub apex-out : (t : Tet) → well_numbered nv t ≡ true → length (without (corners_of f) (vertices_of t)) ≡ 1 → (a : ℕ) → a ≡ get_or (without (corners_of f) (vertices_of t)) 0 t.d
        → (mem a (vertices_of t) ≡ true) × (mem a (corners_of f) ≡ false) × (a < nv)
    apex-out t ok l a e =
        let q : without (corners_of f) (vertices_of t) ≡ a ∷ [] = one-is (without (corners_of f) (vertices_of t)) t.d l ∙ ap (λ (c : ℕ). c ∷ []) (sym e) in
        let r = without-elim (corners_of f) (vertices_of t) a (subst (λ (c : List ℕ). mem a c ≡ true) (sym q) (mem-here a [])) in
        (r.0, r.1, (numbered-element nv t ok).below a r.0)

    -- ---- what is tried

    module _ (μ : Measure) where
      -- the turn with the apexes l
      abbrev turn : List ℕ → State
      turn l = cond (eqb (length l) 2) (two_to_three μ s f (i ∷ j ∷ []) (get_or l 0 0) (get_or l 1 0)) s

      -- the trial by what is in the owners' slots
      try-is : (a b : maths.Option Tet) → get_or s.slots i maths.none ≡ a → get_or s.slots j maths.none ≡ b → try_face μ ts s f ≡ turn (besides (corners_of f) (live (a ∷ b ∷ [])))
      unfolding try_face
      try-is a b ea eb =
          ap (λ (l : List ℕ). cond (eqb (length l) 2 && eqb (length (besides (corners_of f) (elements_at s.slots l))) 2)
          (two_to_three μ s f l (get_or (besides (corners_of f) (elements_at s.slots l)) 0 0) (get_or (besides (corners_of f) (elements_at s.slots l)) 1 0)) s) fl.owners
          ∙ ap₂ (λ (x y : maths.Option Tet). turn (besides (corners_of f) (live (x ∷ y ∷ [])))) ea eb

      -- not two apexes: nothing changes
      idle : (l : List ℕ) → (length l ≡ 2 → ⊥) → turn l ≡ s
      idle l h = rw (ne_eqb (length l) 2 h) refl

      -- one owner has one apex
      alone : (t : Tet) → length (without (corners_of f) (vertices_of t)) ≡ 1 → length (besides (corners_of f) (t ∷ [])) ≡ 1
      unfolding besides
      alone t h = let e = length-append (without (corners_of f) (vertices_of t)) [] in omega (arith, h)

      -- neither is there, or one only: nothing changes
      pub try-none : get_or s.slots i maths.none ≡ maths.none → get_or s.slots j maths.none ≡ maths.none → try_face μ ts s f ≡ s
      unfolding live besides
      try-none ea eb = try-is maths.none maths.none ea eb ∙ idle [] (λ e. omega arith)

      pub try-second : (t : Tet) → get_or s.slots i maths.none ≡ maths.none → get_or s.slots j maths.none ≡ maths.some t → length (without (corners_of f) (vertices_of t)) ≡ 1 → try_face μ ts s f ≡ s
      unfolding live
      try-second t ea eb h = try-is maths.none (maths.some t) ea eb ∙ idle (besides (corners_of f) (t ∷ [])) (λ e. let r = alone t h in omega arith)

      pub try-first : (t : Tet) → get_or s.slots i maths.none ≡ maths.some t → get_or s.slots j maths.none ≡ maths.none → length (without (corners_of f) (vertices_of t)) ≡ 1 → try_face μ ts s f ≡ s
      unfolding live
      try-first t ea eb h = try-is (maths.some t) maths.none ea eb ∙ idle (besides (corners_of f) (t ∷ [])) (λ e. let r = alone t h in omega arith)

      -- both: a two-to-three with their apexes
      pub try-both : (t u : Tet) → get_or s.slots i maths.none ≡ maths.some t → get_or s.slots j maths.none ≡ maths.some u
          → length (without (corners_of f) (vertices_of t)) ≡ 1 → length (without (corners_of f) (vertices_of u)) ≡ 1
          → (a b : ℕ) → a ≡ get_or (without (corners_of f) (vertices_of t)) 0 t.d → b ≡ get_or (without (corners_of f) (vertices_of u)) 0 u.d
          → try_face μ ts s f ≡ two_to_three μ s f (i ∷ j ∷ []) a b
      unfolding live besides
      try-both t u ea eb ht hu a b ha hb =
          let p : without (corners_of f) (vertices_of t) ≡ a ∷ [] = one-is (without (corners_of f) (vertices_of t)) t.d ht ∙ ap (λ (c : ℕ). c ∷ []) (sym ha) in
          let q : without (corners_of f) (vertices_of u) ≡ b ∷ [] = one-is (without (corners_of f) (vertices_of u)) u.d hu ∙ ap (λ (c : ℕ). c ∷ []) (sym hb) in
          try-is (maths.some t) (maths.some u) ea eb ∙ ap₂ (λ (x y : List ℕ). turn (x ++ (y ++ []))) p q
