-- How `flip` begins: the elements in the first slots and the index of those, and the whole start from its steps. Assumes nothing.
use mathlib.Core.Path.{◌≡◌, refl, sym, ap, ap₂, subst, ◌∙◌}
use mathlib.Core.Bool.{true}
use mathlib.Core.List.{List, [], ◌∷◌, map}
use mathlib.Core.Option.{Option, some}
use Prim.Native.Nat.{ℕ, ◌+◌, ◌-◌, ◌*◌, ◌≤◌}
use native.Mathlib.Omega.{arith}
use borrow.Author.Tests.{le-leb}
use lib.ListN.{length, take, drop, replicate, length-replicate}
use lib.Seq.{length-take-le, get_or-take, get_or-drop}
use Rattle.geometry.specs.declared.point.Point.{Point}
use Rattle.mesh.specs.declared.element.Tet.{Tet}
use Rattle.mesh.specs.declared.list.Listed.{Listed}
use Rattle.mesh.specs.declared.star.Index.{Index}
use Rattle.mesh.specs.Words.{word_at, copied}
use Rattle.mesh.specs.Tests.{every}
use Rattle.mesh.specs.Element.{tets}
use Rattle.mesh.specs.Intake.{well_numbered}
use Rattle.mesh.specs.inside.Star.{Complete, Laid, has_slots, written, built}
use Rattle.mesh.proofs.Laws.Complex.Sets.{and-fst, and-snd}
use Rattle.mesh.proofs.Laws.Rows.{rows_same}
use Rattle.mesh.proofs.Laws.Star.Layout.{laid-yes}
use Rattle.mesh.proofs.Laws.Star.Written.{length-written, written_behind, written_at}
use Rattle.mesh.proofs.Laws.Star.Hanging.{length-built, built-outside, built-complete}
use Rattle.mesh.proofs.Laws.Star.Calls.{tets-same}
use Rattle.repair.specs.inside.Layout.{slot_ok, slots_in}
use Rattle.repair.specs.inside.flip.Layout.{FlipRoom, faces_at, slot_of}
use Rattle.repair.specs.inside.flip.Tries.{Begun, face_rows_at, edge_rows_at}
use Rattle.repair.specs.inside.flip.Prepare.{FacesLaid, EdgesLaid, SlotsLaid}
use Rattle.repair.proofs.Laws.Layout.{area-at}
use Rattle.repair.proofs.Laws.Replace.Slots.{ok-well, well-there}
use Rattle.repair.proofs.Laws.Flip.Layout.{room-laid, slot-some}
use Rattle.repair.proofs.Laws.Flip.Part.{copied_is}
use Rattle.repair.proofs.Laws.Flip.Written.{short-laid, hung-at, appended-is}

-- ---- the index leaves what is listed

module _ (x : Index) (n : ℕ) (w : List ℕ) (l : Laid x (length w)) (hn : n ≤ x.room) where
  abbrev cleared : List ℕ
  cleared = written w x.lengths (replicate x.vertices 0)

  cleared-laid : Laid x (length cleared)
  cleared-laid =
      let a = l.area in let b = l.end in let c = length-replicate {A = ℕ} x.vertices 0 in
      subst (Laid x) (sym (length-written w x.lengths (replicate x.vertices 0) (omega arith))) l

  -- where the area begins does not matter to the index
  built-short : built x n w ≡ built (area-at x (faces_at x)) n w
  unfolding built has_slots
  built-short =
      rw (laid-yes x (length w) l, laid-yes (area-at x (faces_at x)) (length w) (short-laid x (length w) l), le-leb 0 n (omega arith), le-leb n x.room hn)
      (appended-is x 0 n cleared cleared-laid (omega arith) hn
      ∙ sym (appended-is (area-at x (faces_at x)) 0 n cleared (short-laid x (length cleared) cleared-laid) (omega arith) hn ∙ hung-at x (faces_at x) (4 * n - 4 * 0) (4 * 0) cleared))

  built-listed : (j : ℕ) → faces_at x ≤ j → word_at (built x n w) j ≡ word_at w j
  built-listed j h = ap (λ (u : List ℕ). word_at u j) built-short ∙ built-outside (area-at x (faces_at x)) n w (short-laid x (length w) l) hn j (λ g. h)

-- ---- the slots

-- no slot is gone, and each is right
all_slots : (nv : ℕ) → nv ≤ 4096 → (ts : List Tet) → every (well_numbered nv) ts ≡ true → (map some ts ≡ map slot_of ts) × (every (slot_ok nv) ts ≡ true)
all_slots nv few [] h = (refl, refl)
all_slots nv few (t ∷ ts) h =
    let a = and-fst (well_numbered nv t) (every (well_numbered nv) ts) h in
    let r = all_slots nv few ts (and-snd (well_numbered nv t) (every (well_numbered nv) ts) h) in
    (ap₂ (λ (u : Option Tet) (l : List (Option Tet)). u ∷ l) (sym (slot-some t (well-there nv few t a))) r.0, rw (ok-well nv t a) r.1)

module _ (x : Index) (n : ℕ) (els w u v : List ℕ) (room : FlipRoom x n (length w)) (long : 4 * n ≤ length els) (good : every (well_numbered x.vertices) (tets n els) ≡ true)
    (e₁ : u ≡ copied els 0 w x.slots (4 * n)) (e₂ : v ≡ built x n u) where
  front_long : length (take (4 * n) els) ≡ 4 * n
  front_long = length-take-le (4 * n) els long

  fits : x.slots + length (take (4 * n) els) ≤ length w
  fits = let a = room.slots in let b = room.long in let c = front_long in omega arith

  u-is : u ≡ written w x.slots (take (4 * n) els)
  u-is = e₁ ∙ copied_is els w x.slots (4 * n) long (let a = fits in let b = front_long in omega arith)

  u-long : length u ≡ length w
  u-long = ap length u-is ∙ length-written w x.slots (take (4 * n) els) fits

  laid : Laid x (length u)
  laid = room-laid (subst (FlipRoom x n) (sym u-long) room)

  enough : n ≤ x.room
  enough = let a = room.room in omega arith

  v-long : length v ≡ length w
  v-long = ap length e₂ ∙ length-built x n u laid enough ∙ u-long

  slot-words : slots_in x n v ≡ tets n els
  slot-words = tets-same n els (drop x.slots v) (λ j h.
      get_or-drop x.slots v j 0 ∙ ap (λ (y : List ℕ). word_at y (x.slots + j)) e₂
      ∙ built-outside x n u laid enough (x.slots + j) (λ g. absurd (let a = room.slots in let b = room.nexts in omega arith))
      ∙ ap (λ (y : List ℕ). word_at y (x.slots + j)) u-is ∙ written_at w x.slots (take (4 * n) els) fits j (let a = front_long in omega arith) ∙ get_or-take (4 * n) els j 0 h)

  listed : (j : ℕ) → faces_at x ≤ j → word_at v j ≡ word_at w j
  listed j h =
      ap (λ (y : List ℕ). word_at y j) e₂ ∙ built-listed x n u laid enough j h ∙ ap (λ (y : List ℕ). word_at y j) u-is
      ∙ written_behind w x.slots (take (4 * n) els) fits j (let a = room.slots in let b = room.lengths in let c = front_long in omega arith)

  pub slots-laid : SlotsLaid x n (tets n els) w v
  slots-laid =
      let q = all_slots x.vertices room.few (tets n els) good in
      record {
        stands = record {
          room = subst (FlipRoom x n) (sym v-long) room;
          fits = enough;
          slots = q.0 ∙ ap (map slot_of) (sym slot-words);
          proper = ap (every (slot_ok x.vertices)) slot-words ∙ q.1;
          index = subst (λ (y : List ℕ). Complete x y (4 * n)) (sym e₂) (built-complete x n u laid enough);
        };
        kept = record { long = v-long; listed = λ j a b. listed j a };
      }

-- ---- the whole

pub begun : {x : Index} {n : ℕ} {ps : List Point} {ts : List Tet} {r : ℕ} {l : Listed} {w₀ w₁ w₂ w₃ : List ℕ} → FlipRoom x n (length w₀) → FacesLaid x n ps ts r w₀ w₁ → EdgesLaid x n ps ts l w₁ w₂ → SlotsLaid x n ts w₂ w₃
    → Begun x n ps ts (record { faces = r; bad = l.elements; edges = l.rows }) w₃
begun {x} {n} {r = r} {l = l} {w₁ = w₁} {w₂ = w₂} {w₃ = w₃} room f e s =
    let a = room.area in let b = f.few in let c = e.few_bad in let d = e.few in
    record {
      stands = s.stands;
      faces = rows_same 5 r w₃ w₁ (face_rows_at x n) (s.kept.long ∙ e.same.long) (λ j g h. s.kept.listed j (omega arith) (omega arith) ∙ e.same.before j (omega arith)) ∙ f.rows;
      edges = rows_same 2 l.rows w₃ w₂ (edge_rows_at x n l.elements) s.kept.long (λ j g h. s.kept.listed j (omega arith) (omega arith)) ∙ e.rows;
      few_faces = b;
      few_bad = c;
      few_edges = d;
    }
