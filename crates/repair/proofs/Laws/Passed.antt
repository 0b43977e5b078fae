-- `improve` on a mesh that passed intake, call by call. Assumes nothing.
use mathlib.Core.Path.{◌≡◌, refl, sym, ap, ap₂, subst, ◌∙◌}
use mathlib.Core.Bool.{true, not}
use mathlib.Core.List.{List, [], ◌∷◌}
use Prim.Native.Nat.{ℕ, ◌+◌, ◌-◌, ◌*◌, ◌≤◌}
use native.Mathlib.Nat.{le_of_eq}
use native.Mathlib.Omega.{arith}
use lib.Dec.{eqb}
use lib.ListN.{length, take, drop, length-drop}
use lib.Seq.{take_all}
use Rattle.geometry.specs.declared.bounds.Options.{Options}
use Rattle.geometry.specs.declared.point.Point.{Point}
use Rattle.mesh.specs.declared.star.Index.{Index}
use Rattle.mesh.specs.declared.intake.Sizes.{Sizes}
use Rattle.mesh.specs.declared.element.Tet.{Tet}
use Rattle.mesh.specs.Words.{points_of}
use Rattle.mesh.specs.Complex.{keep}
use Rattle.mesh.specs.Tests.{every}
use Rattle.mesh.specs.Element.{tets, vertices_of}
use Rattle.mesh.specs.Intake.{well_numbered}
use Rattle.mesh.specs.inside.List.{gone}
use Rattle.mesh.specs.inside.Star.{gone_word}
use Rattle.mesh.specs.inside.About as about
use Rattle.mesh.specs.Measure.{measure}
use Rattle.mesh.proofs.Laws.Complex.Sets.{split, clash, or_cases, and-fst, and-snd}
use Rattle.mesh.proofs.Laws.List.Bad.{keep-few}
use mathlib.Core.Logic.{inl, inr}
use Rattle.mesh.proofs.Laws.About.Calls.{Copied, live-count, live-copied}
use borrow.Author.Tests.{eq-eqb, eqb-true}
use Rattle.repair.specs.Improve as def
use Rattle.repair.specs.inside.Layout.{Room, Stands, Reads, Ready, slots_in, live_in, slot_ok}
use Rattle.repair.specs.inside.improve.Renumber.{EndArea, improve_end}
use Rattle.repair.specs.inside.improve.Fitting.{Collapsed, before_rounds, after_rounds}
use Rattle.repair.specs.declared.improve.Rest.{Rest}
use Rattle.repair.specs.Mesh.{Mesh}
use Rattle.repair.specs.Step.{State, mesh_of, finish}
use Rattle.repair.proofs.Laws.Layout.{room-laid}
use Rattle.mesh.proofs.Laws.Intake.Reads.{length-tets}

pub begun-ready : (o : Options) (x : Index) (w : List ℕ) (es : List ℕ) (ps qs : List Point) (ms : List ℕ)
    → ((m : Mesh) → Reads m ps qs ms → Stands o m x x.room w (before_rounds (tets x.room es))) → Ready o x x.room w ps qs ms
begun-ready o x w es ps qs ms h =
    let m : Mesh = record { parameters = ps; points = qs; masks = ms; elements = []; surface = [] } in
    let r : Reads m ps qs ms = record { parameters = refl; points = refl; masks = refl } in
    (m, before_rounds (tets x.room es), r, h m r)

module _ (z : Sizes) (es : List ℕ) (x : Index) (many : x.vertices ≡ z.vertices) (all : x.room ≡ z.elements) where
  -- what `rounds` gives for the index's room it gives for the mesh's elements
  module _ (o : Options) (m : Mesh) (ps qs : List Point) (ms : List ℕ) (v : Reads m ps qs ms) where
    pub rounded : (w₀ w : List ℕ) (count : ℕ)
        → ((m : Mesh) → Reads m ps qs ms → Stands o m x x.room w₀ (before_rounds (tets x.room es)))
        → ((m : Mesh) (s : def.State) → Reads m ps qs ms → Stands o m x x.room w₀ s
        → Stands o m x x.room w (def.rounds o m (measure m.points) o.passes s) × (length (def.rounds o m (measure m.points) o.passes s).replaced ≡ count + length s.replaced))
        → Stands o m x z.elements w (after_rounds o m (tets z.elements es)) × (length (after_rounds o m (tets z.elements es)).replaced ≡ count + 0)
    rounded w₀ w count f g =
        subst (λ u. Stands o m x u w (after_rounds o m (tets u es)) × (length (after_rounds o m (tets u es)).replaced ≡ count + 0)) all (g m (before_rounds (tets x.room es)) v (f m v))

  module _ (o : Options) (m : Mesh) (s : def.State) (w w' : List ℕ) (st : Stands o m x z.elements w s) (k : ℕ) (ek : k ≡ length (about.live_list x z.elements w)) (e : w' ≡ about.live_in x z.elements w) where
    abbrev n : ℕ
    n = z.elements

    r : Room x n (length w)
    r = st.room

    fit : x.area + 4 * n ≤ length w
    fit = let a = r.few in let b = r.slots in let c = r.nexts in let d = r.heads in let f = r.lengths in let g = r.area in let h = r.long in omega arith

    -- the live elements are those of the state
    live-are : keep (λ t. not (gone t)) (slots_in x n w) ≡ s.elements
    unfolding live_in
    live-are = sym st.elements

    copied : Copied w w' x.area s.elements
    copied =
        subst (λ u. Copied w u x.area s.elements) (sym e)
        (subst (Copied w (about.live_in x n w) x.area) live-are (live-copied x w n (room-laid r) (let a = r.room in omega arith) fit))

    count-is : k ≡ length s.elements
    count-is = ek ∙ live-count x w n (room-laid r) (let a = r.room in omega arith) fit ∙ ap length live-are

    -- the area holds them
    area-elements : tets k (drop x.area w') ≡ s.elements
    area-elements = ap (λ u. tets u (drop x.area w')) count-is ∙ copied.elements

    area-inside : x.area ≤ length w'
    area-inside = let a = copied.long in let b = fit in omega arith

    few-live : k ≤ n
    few-live =
        let a = keep-few (λ t. not (gone t)) (slots_in x n w) in let b = length-tets n (drop x.slots w) in let c = ap length live-are in let d = count-is in omega arith

    -- each has four different vertices
    all-numbered : (nv : ℕ) (ts : List Tet) → every (slot_ok nv) ts ≡ true → every (well_numbered nv) (keep (λ t. not (gone t)) ts) ≡ true
    unfolding slot_ok
    all-numbered nv [] h = refl
    all-numbered nv (t ∷ ts) h =
        let a = and-fst (slot_ok nv t) (every (slot_ok nv) ts) h in
        let b = all-numbered nv ts (and-snd (slot_ok nv t) (every (slot_ok nv) ts) h) in
        elim (split (gone t)) [
          | inl g ↦ rw g b
          | inr g ↦ elim (or_cases (every (eqb gone_word) (vertices_of t)) (well_numbered nv t) a) [
            | inl q ↦ absurd (clash (eq-eqb t.a gone_word (sym (eqb-true gone_word t.a (and-fst (eqb gone_word t.a) (every (eqb gone_word) (t.b ∷ t.c ∷ t.d ∷ [])) q)))) g)
            | inr q ↦ rw (g, q) b
          ]
        ]

    end-area : EndArea k z.vertices (drop x.area w')
    end-area = record {
      elements = let a = few-live in let b = r.elements in omega arith;
      vertices = let a = r.few in omega arith;
      long = let a = r.few in let b = r.slots in let c = r.nexts in let d = r.heads in let f = r.lengths in let g = r.area in let h = r.long in
          let i = copied.long in let j = length-drop x.area w' in let l = few-live in omega arith;
      numbered =
          ap (every (well_numbered z.vertices)) (area-elements ∙ sym live-are)
          ∙ subst (λ u. every (well_numbered u) (keep (λ t. not (gone t)) (slots_in x n w)) ≡ true) many (all-numbered x.vertices (slots_in x n w) st.proper);
    }

    -- what is left
    pub collapsed : (count : ℕ) → length s.replaced ≡ count + 0 → Collapsed z s w' (record { replaced = count; elements = k; area = x.area })
    collapsed count h = record {
      replaced = omega arith;
      elements = area-elements;
      few = few-live;
      low = let a = r.few in let b = r.slots in let c = r.nexts in let d = r.heads in let f = r.lengths in let g = r.area in let h = r.elements in omega arith;
      inside = area-inside;
      ready = end-area;
    }

-- ---- the end

module _ (s : State) where
  -- the vertices of the mesh are those of the buffers
  pub reads : Reads (mesh_of s) (points_of s.sizes.vertices s.parameters) (points_of s.sizes.vertices s.points) (take s.sizes.vertices s.masks)
  unfolding mesh_of
  reads = record { parameters = refl; points = refl; masks = refl }

  module _ (o : Options) (w : List ℕ) (rest : Rest) (h : Collapsed s.sizes (after_rounds o (mesh_of s) (tets s.sizes.elements s.elements)) w rest) where
    -- all words from the area on, as they are lent
    abbrev part : List ℕ
    part = take (length w - rest.area) (drop rest.area w)

    part-is : part ≡ drop rest.area w
    part-is = take_all (length w - rest.area) (drop rest.area w) (le_of_eq (length-drop rest.area w))

    pub part-area : EndArea rest.elements s.sizes.vertices part
    part-area = subst (EndArea rest.elements s.sizes.vertices) (sym part-is) h.ready

    -- the answer and the buffers are the definition's
    pub part-ended : improve_end rest.replaced (tets rest.elements part) s ≡ finish s (def.improve o (mesh_of s))
    unfolding improve_end def.improve def.improve_by mesh_of
    part-ended = ap₂ (λ u v. improve_end u v s) h.replaced (ap (tets rest.elements) part-is ∙ h.elements)
