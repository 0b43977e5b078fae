-- `try_face` in the work slice: the two slots, the tests, and what the replacement leaves. Assumes nothing.
use mathlib.Core.Path.{◌≡◌, refl, sym, ap, ap₂, subst, ◌∙◌}
use mathlib.Core.Logic.{◌≢◌, ◌⊎◌, inl, inr, ⊎_elim}
use mathlib.Core.Bool.{Bool, true, false, cond, ◌&&◌}
use mathlib.Core.List.{List, [], ◌∷◌, ◌++◌, map}
use mathlib.Core.Option.{Option, none, some}
use Prim.Native.Nat.{ℕ, zero, suc, ◌+◌, ◌≤◌, ◌<◌}
use native.Mathlib.Omega.{arith}
use lib.ListN.{length, get_or}
use Rattle.mesh.specs.declared.element.Triple.{Triple}
use Rattle.mesh.specs.declared.element.Tet.{Tet}
use Rattle.mesh.specs.declared.star.Index.{Index}
use Rattle.mesh.specs.Complex.{mem}
use Rattle.mesh.specs.Tests.{every, any}
use Rattle.mesh.specs.Element.{tet, vertices_of, corners_of}
use Rattle.mesh.specs.Link.{without}
use Rattle.mesh.specs.Intake.{well_numbered}
use Rattle.mesh.specs.inside.List.{gone}
use Rattle.mesh.specs.Measure.{Measure}
use Rattle.mesh.proofs.Laws.Bools.{and_intro}
use Rattle.mesh.proofs.Laws.Complex.Sets.{split, clash, or_left, or_right, out-head, out-tail}
use Rattle.repair.specs.declared.flip.counts.Tried.{Tried}
use Rattle.repair.specs.Flip.{State, slot_has, emptied, elements_at, oriented, accepted, replace, try_face}
use Rattle.repair.specs.inside.Layout.{slot_ok}
use Rattle.repair.specs.inside.improve.Collapse.{slot_at}
use Rattle.repair.specs.inside.flip.Layout.{SlotsStand, Kept, FacesBound, slot_of}
use Rattle.repair.specs.inside.flip.Tries.{Holds, Went, Old, Start, FaceListed}
use Rattle.repair.proofs.Laws.Flip.Slots.{none-some, Aged, aged-emptied, aged-append}
use Rattle.repair.proofs.Laws.Flip.Bound.{faces-room, faces-turn}
use Rattle.repair.proofs.Laws.Flip.Layout.{slots-many, slot-none, slot-some, kept_refl}
use Rattle.repair.proofs.Laws.Flip.Numbered.{four-numbered}
use Rattle.repair.proofs.Laws.Flip.Held.{slot_read, slot-well}
use Rattle.repair.proofs.Laws.Flip.Apex.{owners-two, one-apex, apex-out, try-none, try-first, try-second, try-both}

-- ---- tests

-- a slot that passes
any_at : (g : Option Tet → Bool) (ss : List (Option Tet)) (k : ℕ) (t : Tet) → get_or ss k none ≡ some t → g (some t) ≡ true → any g ss ≡ true
any_at g [] k t h p = absurd (none-some h)
any_at g (y ∷ ss) zero t h p = or_left (any g ss) (ap g h ∙ p)
any_at g (y ∷ ss) (suc k) t h p = or_right (g y) (any_at g ss k t h p)

-- a vertex named twice
slot_twice : (a b : ℕ) (y : Option Tet) → slot_has (a ∷ b ∷ b ∷ []) y ≡ slot_has (a ∷ b ∷ []) y
slot_twice a b none = refl
slot_twice a b (some t) = ap (λ (q : Bool). mem a (vertices_of t) && q) (twice (mem b (vertices_of t)))
  where
    twice : (q : Bool) → (q && (q && true)) ≡ (q && true)
    twice true = refl
    twice false = refl

any_twice : (a b : ℕ) (ss : List (Option Tet)) → any (slot_has (a ∷ b ∷ b ∷ [])) ss ≡ any (slot_has (a ∷ b ∷ [])) ss
any_twice a b [] = refl
any_twice a b (y ∷ ss) = rw (slot_twice a b y, any_twice a b ss) refl

-- ---- slots of the start

-- a slot of the start in the words of `Aged`, and back
to-aged : (ts : List Tet) (s : State) → Start ts s → length ts ≤ length s.slots → Aged ts s.slots
to-aged ts s st l = record { long = l; old = λ k h. go k h (get_or s.slots k none) refl }
  where
    go : (k : ℕ) → k < length ts → (y : Option Tet) → get_or s.slots k none ≡ y → (get_or s.slots k none ≡ none) ⊎ (get_or s.slots k none ≡ get_or (map some ts) k none)
    go k h none e = inl e
    go k h (some t) e = inr (e ∙ sym (st k t h e))

from-aged : (ts : List Tet) (s : State) → Aged ts s.slots → Start ts s
from-aged ts s a k t h e = ⊎_elim (λ g. absurd (none-some (sym g ∙ e))) (λ g. sym g ∙ e) (a.old k h)

-- a replacement keeps it: emptied slots have nothing, and new ones lie behind
replaced-start : (μ : Measure) (ts : List Tet) (s : State) (is : List ℕ) (cs : List Tet) → Start ts s → length ts ≤ length s.slots → Start ts (replace μ s is cs)
unfolding replace
replaced-start μ ts s is cs st l = go (accepted μ (elements_at s.slots is) (map (oriented μ) cs))
  where
    go : (q : Bool) → Start ts (cond q (record { slots = emptied is s.slots ++ map some (map (oriented μ) cs); flips = s.flips + 1 }) s)
    go true =
        from-aged ts (record { slots = emptied is s.slots ++ map some (map (oriented μ) cs); flips = s.flips + 1 })
        (aged-append ts (emptied is s.slots) (map some (map (oriented μ) cs)) (aged-emptied ts is s.slots (to-aged ts s st l)))
    go false = st

-- ---- the trial

module _ (μ : Measure) (x : Index) (n : ℕ) (t : Tried) (w : List ℕ) (ts : List Tet) (s : State) (f : Triple) (i j : ℕ) (z : Holds x n t w s) (long : length ts ≡ n)
    (fl : FaceListed x.vertices ts f i j) (st : Start ts s) (bound : FacesBound n s.slots) (p q : Tet) (at_i : p ≡ slot_at x w i) (at_j : q ≡ slot_at x w j) where
  -- what a trial leaves
  abbrev Left : Tried → List ℕ → State → Type 0
  Left r v u = Went x n (FacesBound n) w v r u × Start ts u

  abbrev nv : ℕ
  nv = x.vertices

  abbrev σ : List ℕ
  σ = corners_of f

  -- the owners' numbers rise, and are those of slots
  rise : (i < j) × (j < n) × (i < t.slots) × (j < t.slots)
  rise =
      let o = owners-two nv ts f i j fl in
      let a = o.0 in
      let b = o.1 in
      let c = bound.many in
      let d = slots-many z.stands in
      (a, omega arith, omega arith, omega arith)

  -- what their slots hold
  read-i : (get_or s.slots i none ≡ slot_of p) × (slot_ok nv p ≡ true)
  read-i = slot_read z.stands i rise.2 at_i

  read-j : (get_or s.slots j none ≡ slot_of q) × (slot_ok nv q ≡ true)
  read-j = slot_read z.stands j rise.3 at_j

  -- nothing changed
  idle : try_face μ ts s f ≡ s → Left t w (try_face μ ts s f)
  idle e = subst (λ (u : State). Left t w u) (sym e) (record { holds = z; kept = kept_refl; room = bound }, st)

  -- an owner that is there
  slot-i : gone p ≡ false → get_or s.slots i none ≡ some p
  slot-i h = read-i.0 ∙ slot-some p h

  slot-j : gone q ≡ false → get_or s.slots j none ≡ some q
  slot-j h = read-j.0 ∙ slot-some q h

  -- it has one vertex besides the face
  one-i : gone p ≡ false → length (without σ (vertices_of p)) ≡ 1
  one-i h = let o = owners-two nv ts f i j fl in let a = o.0 in let b = o.1 in one-apex nv ts f i j fl s st i (omega arith) o.2 p (slot-i h) (slot-well nv p read-i.1 h)

  one-j : gone q ≡ false → length (without σ (vertices_of q)) ≡ 1
  one-j h = let o = owners-two nv ts f i j fl in one-apex nv ts f i j fl s st j o.1 o.3 q (slot-j h) (slot-well nv q read-j.1 h)

  -- the first owner is gone
  pub face-first : gone p ≡ true → Left t w (try_face μ ts s f)
  face-first e =
      let a : get_or s.slots i none ≡ none = read-i.0 ∙ slot-none p e in
      elim (split (gone q)) [
        | inl g ↦ idle (try-none nv ts f i j fl s st μ a (read-j.0 ∙ slot-none q g))
        | inr g ↦ idle (try-second nv ts f i j fl s st μ q a (slot-j g) (one-j g))
      ]

  module _ (here-p : gone p ≡ false) where
    -- the second owner is gone
    pub face-second : gone q ≡ true → Left t w (try_face μ ts s f)
    face-second e = idle (try-first nv ts f i j fl s st μ p (slot-i here-p) (read-j.0 ∙ slot-none q e) (one-i here-p))

    module _ (here-q : gone q ≡ false) (a b : ℕ) (ea : a ≡ get_or (without σ (vertices_of p)) 0 p.d) (eb : b ≡ get_or (without σ (vertices_of q)) 0 q.d)
        (r : Bool) (found : (n c : ℕ) (s : State) → SlotsStand x n c w s → a < nv → b < nv → r ≡ any (slot_has (a ∷ b ∷ b ∷ [])) s.slots) where
      -- the apexes are vertices besides the face
      out-a : (mem a (vertices_of p) ≡ true) × (mem a σ ≡ false) × (a < nv)
      out-a = apex-out nv ts f i j fl s st p (slot-well nv p read-i.1 here-p) (one-i here-p) a ea

      out-b : (mem b (vertices_of q) ≡ true) × (mem b σ ≡ false) × (b < nv)
      out-b = apex-out nv ts f i j fl s st q (slot-well nv q read-j.1 here-q) (one-j here-q) b eb

      -- the test for the new edge
      edge-is : r ≡ any (slot_has (a ∷ b ∷ [])) s.slots
      edge-is = found n t.slots s z.stands out-a.2 out-b.2 ∙ any_twice a b s.slots

      -- the candidates
      abbrev cs : List Tet
      cs = tet a b f.a f.b ∷ tet a b f.b f.c ∷ tet a b f.c f.a ∷ []

      -- the trial by that test
      turn_is : (h : Bool) → r ≡ h → try_face μ ts s f ≡ cond h s (replace μ s (i ∷ j ∷ []) cs)
      turn_is h e =
          try-both nv ts f i j fl s st μ p q (slot-i here-p) (slot-j here-q) (one-i here-p) (one-j here-q) a b ea eb
          ∙ ap (λ (k : Bool). cond k s (replace μ s (i ∷ j ∷ []) cs)) (sym edge-is ∙ e)

      -- a live element has the new edge
      pub face-edge : r ≡ true → Left t w (try_face μ ts s f)
      face-edge h = idle (turn_is true h)

      module _ (free : r ≡ false) where
        -- the apexes differ
        apart : a ≢ b
        apart e =
            let m : mem b (vertices_of p) ≡ true = subst (λ (c : ℕ). mem c (vertices_of p) ≡ true) e out-a.0 in
            let both : slot_has (a ∷ b ∷ []) (some p) ≡ true = and_intro (mem a (vertices_of p)) (mem b (vertices_of p) && true) out-a.0 (and_intro (mem b (vertices_of p)) true m refl) in
            clash (any_at (slot_has (a ∷ b ∷ [])) s.slots i p (slot-i here-p) both) (sym edge-is ∙ free)

        -- a vertex that is no corner
        not_first : {c : ℕ} → mem c σ ≡ false → c ≢ f.a
        not_first {c} h = out-head c f.a (f.b ∷ f.c ∷ []) h

        not-second : {c : ℕ} → mem c σ ≡ false → c ≢ f.b
        not-second {c} h = out-head c f.b (f.c ∷ []) (out-tail c f.a (f.b ∷ f.c ∷ []) h)

        not_third : {c : ℕ} → mem c σ ≡ false → c ≢ f.c
        not_third {c} h = out-head c f.c [] (out-tail c f.b (f.c ∷ []) (out-tail c f.a (f.b ∷ f.c ∷ []) h))

        -- the candidates have four different vertices each
        numbered : every (well_numbered nv) cs ≡ true
        numbered =
            let k = fl.first in let l = fl.second in let m = fl.third in
            let oa = out-a.1 in let ob = out-b.1 in
            and_intro (well_numbered nv (tet a b f.a f.b)) _ (four-numbered nv a b f.a f.b out-a.2 out-b.2 (omega arith) (omega arith) apart (not_first oa) (not-second oa) (not_first ob) (not-second ob) (λ e. omega arith))
            (and_intro (well_numbered nv (tet a b f.b f.c)) _ (four-numbered nv a b f.b f.c out-a.2 out-b.2 (omega arith) m apart (not-second oa) (not_third oa) (not-second ob) (not_third ob) (λ e. omega arith))
            (and_intro (well_numbered nv (tet a b f.c f.a)) true (four-numbered nv a b f.c f.a out-a.2 out-b.2 m (omega arith) apart (not_third oa) (not_first oa) (not_third ob) (not_first ob) (λ e. omega arith)) refl))

        -- three more have room
        room-left : t.slots + 3 ≤ x.room
        room-left =
            let o = rise in let k = o.0 in let l = o.1 in
            let g = faces-room n s.slots bound i j (λ e. omega arith) (omega arith) l p q (slot-i here-p) (slot-j here-q) in
            let h = slots-many z.stands in
            let m = z.stands.room.room in
            omega arith

        -- and there is room for the trials to come
        bound-after : FacesBound n (replace μ s (i ∷ j ∷ []) cs).slots
        unfolding replace
        bound-after = go (accepted μ (elements_at s.slots (i ∷ j ∷ [])) (map (oriented μ) cs))
          where
            go : (h : Bool) → FacesBound n (cond h (record { slots = emptied (i ∷ j ∷ []) s.slots ++ map some (map (oriented μ) cs); flips = s.flips + 1 }) s).slots
            go true = let o = rise in let k = o.0 in let l = o.1 in faces-turn n s.slots bound i j (λ e. omega arith) (omega arith) l p q (slot-i here-p) (slot-j here-q) (map (oriented μ) cs) refl
            go false = bound

        -- the elements that are replaced
        old-is : Old (i ∷ j ∷ []) (p ∷ q ∷ []) s
        old-is = ap₂ (λ (u v : Option Tet). u ∷ v ∷ []) (slot-i here-p) (slot-j here-q)

        -- the replacement
        pub face-made : (new : List Tet) → new ≡ cs → (u : Tried) (v : List ℕ)
            → ((n : ℕ) (s : State) → Holds x n t w s → Old (i ∷ j ∷ []) (p ∷ q ∷ []) s → every (well_numbered nv) new ≡ true → t.slots + length new ≤ x.room
            → Holds x n u v (replace μ s (i ∷ j ∷ []) new) × Kept x w v)
            → Left u v (try_face μ ts s f)
        face-made new e u v made =
            let k = ap length e in
            let d = made n s z old-is (ap (every (well_numbered nv)) e ∙ numbered) (let m = room-left in omega arith) in
            let g : Holds x n u v (replace μ s (i ∷ j ∷ []) cs) = subst (λ (l : List Tet). Holds x n u v (replace μ s (i ∷ j ∷ []) l)) e d.0 in
            subst (λ (y : State). Left u v y) (sym (turn_is false free))
            (record { holds = g; kept = d.1; room = bound-after }, replaced-start μ ts s (i ∷ j ∷ []) cs st (let b = bound.many in omega arith))
