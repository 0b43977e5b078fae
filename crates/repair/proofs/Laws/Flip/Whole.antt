-- `flip` on a mesh that passed intake, call by call: after both lists the work slice stands for the state of the definition, and its live
-- elements, at most three for two at the start, have room in the area behind it. Assumes nothing.
use mathlib.Core.Path.{◌≡◌, refl, sym, ap, ap₂, subst, ◌∙◌}
use mathlib.Core.Bool.{true}
use mathlib.Core.List.{List, map}
use mathlib.Core.Option.{some}
use Prim.Native.Nat.{ℕ, ◌+◌, ◌-◌, ◌*◌, ◌≤◌}
use native.Mathlib.Nat.{le_of_eq}
use native.Mathlib.Omega.{arith}
use borrow.Author.Tests.{le-leb}
use lib.Ieee.{Float}
use lib.ListN.{length, take, drop, length-drop}
use lib.Seq.{take_all}
use Rattle.geometry.specs.declared.point.Point.{Point}
use Rattle.mesh.specs.declared.element.Pair.{Pair}
use Rattle.mesh.specs.declared.element.Triple.{Triple}
use Rattle.mesh.specs.declared.element.Tet.{Tet}
use Rattle.mesh.specs.declared.intake.Sizes.{Sizes}
use Rattle.mesh.specs.declared.star.Index.{Index}
use Rattle.mesh.specs.Words.{points_of}
use Rattle.mesh.specs.inside.Rows.{rows}
use Rattle.mesh.specs.Tests.{every}
use Rattle.mesh.specs.Element.{tets, triples}
use Rattle.mesh.specs.inside.Surface.{area_fits}
use Rattle.mesh.specs.Intake.{well_numbered}
use Rattle.mesh.specs.inside.Shared.{shared_row, shared_faces}
use Rattle.mesh.specs.inside.About as about
use Rattle.mesh.specs.Measure.{measure}
use Rattle.mesh.proofs.Laws.Rows.{rows_same}
use Rattle.mesh.proofs.Laws.About.Calls.{Copied, live-count, live-copied}
use Rattle.repair.specs.declared.flip.counts.Tried.{Tried}
use Rattle.repair.specs.declared.flip.counts.Lists.{Lists}
use Rattle.repair.specs.Flip.{State, live, listed_edges, try_faces, try_edges, flips}
use Rattle.repair.specs.inside.flip.Layout.{FlipRoom, SlotsStand, FacesBound, EdgesBound}
use Rattle.repair.specs.inside.flip.Tries.{Holds, Went, Start, FacesListed, EdgesListed, edge_row, face_rows_at, edge_rows_at, Begun}
use Rattle.repair.specs.inside.flip.Finish.{EndRoom, flip_end}
use Rattle.repair.specs.inside.flip.Fitting.{FlipFitting, flip_last, flip_whole}
use Rattle.repair.proofs.Laws.Flip.Layout.{room-laid, area-long, stands_live}
use Rattle.repair.proofs.Laws.Flip.Bound.{faces-start, faces-edges}
use Rattle.repair.proofs.Laws.Flip.Shared.{shared-tried}
use Rattle.repair.proofs.Laws.Flip.Begun.{numbered-fours, numbered-live, faces-listed, edges-rows, edges-listed}
use Rattle.repair.proofs.Laws.Flip.Fewer.{edges-fewer}
use Rattle.mesh.proofs.Laws.Intake.Reads.{length-tets}

module _ (z : Sizes) (points : List Float) (es ss w₀ : List ℕ) (fit : FlipFitting z es ss w₀) (x : Index) (many : x.vertices ≡ z.vertices) (ps : List Point) (read : ps ≡ points_of z.vertices points) where
  -- how many elements, and the elements
  abbrev n : ℕ
  n = z.elements

  abbrev ts : List Tet
  ts = tets n es

  -- the elements are well numbered
  pub well : every (well_numbered x.vertices) (tets z.elements es) ≡ true
  well = subst (λ u. every (well_numbered u) (tets z.elements es) ≡ true) (sym many) fit.numbered

  -- all of them live, and no flip made
  abbrev first : State
  first = record { slots = map some ts; flips = 0 }

  -- after the faces, and after the edges
  abbrev faced : State
  faced = try_faces (measure ps) ts first (shared_faces ps ts)

  abbrev edged : State
  edged = try_edges (measure ps) faced (listed_edges (measure ps) ts)

  -- few enough for none of their numbers to be that of a slot that is gone
  few : x.vertices ≤ 4096
  few = let a = fit.vertices in omega arith

  -- what the trials end with
  last-is : edged ≡ flip_last z points es
  unfolding flips
  last-is =
      ap (λ (s : State). try_edges (measure ps) s (listed_edges (measure ps) ts)) (shared-tried ps ts (numbered-live x.vertices ts few well) (numbered-fours x.vertices ts well) first)
      ∙ ap (λ (u : List Point). flips (measure u) ts) read

  module _ (l : Lists) (w₁ : List ℕ) (b : Begun x n ps ts l w₁) where
    -- the faces are tried
    module _ (w₂ : List ℕ) (t : Tried) (tried : (us : List Tet) (fs : List Triple) (s : State) → Holds x n (record { slots = n; flips = 0 }) w₁ s → length us ≡ n
        → rows 5 l.faces (drop (face_rows_at x n) w₁) ≡ map (shared_row us) fs → FacesListed x.vertices us fs → Start us s → FacesBound n s.slots
        → Went x n (FacesBound n) w₁ w₂ t (try_faces (measure ps) us s fs)) where
      pub faces-went : Went x n (FacesBound n) w₁ w₂ t faced
      faces-went =
          tried ts (shared_faces ps ts) first (record { stands = b.stands; flips = refl }) (length-tets n es) b.faces (faces-listed x.vertices ts well ps) (λ k u h e. e)
          (subst (λ (k : ℕ). FacesBound k (map some ts)) (length-tets n es) (faces-start ts))

      -- the rows of the edges are still there
      rows-kept : rows 2 l.edges (drop (edge_rows_at x n l.bad) w₂) ≡ map edge_row (listed_edges (measure ps) ts)
      rows-kept =
          let k = faces-went.kept in
          let a = b.stands.room.area in let c = b.few_bad in let d = b.few_edges in
          rows_same 2 l.edges w₂ w₁ (edge_rows_at x n l.bad) k.long (λ j f g. k.listed j (omega arith) (omega arith))
          ∙ b.edges ∙ edges-rows ps ts (numbered-live x.vertices ts few well)

      -- the edges are tried
      module _ (w₃ : List ℕ) (u : Tried) (tried₂ : (fs : List Pair) (s : State) → Holds x n t w₂ s
          → rows 2 l.edges (drop (edge_rows_at x n l.bad) w₂) ≡ map edge_row fs → EdgesListed x.vertices fs → EdgesBound n s.slots
          → Went x n (EdgesBound n) w₂ w₃ u (try_edges (measure ps) s fs)) where
        edges-went : Went x n (EdgesBound n) w₂ w₃ u edged
        edges-went =
            tried₂ (listed_edges (measure ps) ts) faced faces-went.holds rows-kept (edges-listed x.vertices ps ts well) (faces-edges n faced.slots faces-went.room)

        stands : SlotsStand x n u.slots w₃ edged
        stands = edges-went.holds.stands

        room : FlipRoom x n (length w₃)
        room = stands.room

        fits-area : x.area + 4 * u.slots ≤ length w₃
        fits-area = let a = area-long room in let c = stands.fits in let d = room.room in omega arith

        -- at most three live elements for two at the start
        few-live : 2 * length (live edged.slots) ≤ 3 * n
        few-live = let a = faces-went.room.live in let c = edges-fewer (measure ps) faced (listed_edges (measure ps) ts) in omega arith

        -- the live elements are copied
        module _ (k : ℕ) (ek : k ≡ length (about.live_list x u.slots w₃)) (w₄ : List ℕ) (e : w₄ ≡ about.live_in x u.slots w₃) where
          copied : Copied w₃ w₄ x.area (live edged.slots)
          copied =
              subst (λ (v : List ℕ). Copied w₃ v x.area (live edged.slots)) (sym e)
              (subst (Copied w₃ (about.live_in x u.slots w₃) x.area) (sym (stands_live stands)) (live-copied x w₃ u.slots (room-laid room) stands.fits fits-area))

          count-is : k ≡ length (live edged.slots)
          count-is = ek ∙ live-count x w₃ u.slots (room-laid room) stands.fits fits-area ∙ ap length (sym (stands_live stands))

          -- the area's place in the work slice
          pub area-inside : x.area ≤ length w₄
          area-inside = let a = copied.long in let c = fits-area in omega arith

          -- all words from there on, as they are lent
          abbrev part : List ℕ
          part = take (length w₄ - x.area) (drop x.area w₄)

          part-is : part ≡ drop x.area w₄
          part-is = take_all (length w₄ - x.area) (drop x.area w₄) (le_of_eq (length-drop x.area w₄))

          part-elements : tets k part ≡ live edged.slots
          part-elements = ap (tets k) part-is ∙ ap (λ (j : ℕ). tets j (drop x.area w₄)) count-is ∙ copied.elements

          pub end-room : EndRoom k z.triples (length es) (length ss) (length part)
          unfolding area_fits
          end-room =
              let a = few-live in let c = count-is in let d = fit.elements in let f = fit.triples in let g = fit.slots in let h = fit.surface in
              let i = area-long room in let j = copied.long in let m = ap length part-is ∙ length-drop x.area w₄ in
              record {
                fits = rw (le-leb k 65536 (omega arith), le-leb (36 * k) (36 * k) (omega arith)) refl;
                few = omega arith;
                given = omega arith;
                area = omega arith;
                surface = omega arith;
                elements = omega arith;
              }

          -- the end is that of the definition
          pub whole_is : flip_end u.flips z.vertices (triples z.triples ss) (tets k part) es ss ≡ flip_whole z points es ss
          unfolding flip_whole
          whole_is =
              let f : u.flips ≡ (flip_last z points es).flips = sym edges-went.holds.flips ∙ ap (λ (s : State). s.flips) last-is in
              let g : tets k part ≡ live (flip_last z points es).slots = part-elements ∙ ap (λ (s : State). live s.slots) last-is in
              ap₂ (λ (i : ℕ) (v : List Tet). flip_end i z.vertices (triples z.triples ss) v es ss) f g
