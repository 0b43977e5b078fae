-- A group's turn: the best candidate found, and the group moved to it. Assumes nothing.
use mathlib.Core.Path.{◌≡◌, refl, sym, ap, ap₂, subst, subst₂, ◌∙◌}
use mathlib.Core.Bool.{true, false, cond}
use mathlib.Core.List.{List, ◌∷◌, ◌++◌, map}
use mathlib.Core.Option.{Option}
use Prim.Native.Nat.{ℕ, zero, suc, ◌+◌, ◌-◌, ◌*◌, ◌<◌, ◌≤◌}
use native.Mathlib.Omega.{arith}
use borrow.Author.Tests.{ltb-true}
use lib.Dec.{ltb}
use lib.Ieee.{Float, lt}
use lib.ListN.{length, take, get_or}
use lib.Seq.{get_or-take}
use Rattle.geometry.specs.declared.point.Point.{Point}
use Rattle.geometry.specs.declared.bounds.Options.{Options}
use Rattle.geometry.specs.declared.field.Field.{Field}
use Rattle.geometry.specs.Bounds.{spacing, canonical}
use Rattle.geometry.specs.Literals.{fifteen_hundredths}
use Rattle.mesh.specs.declared.element.Tet.{Tet}
use Rattle.mesh.specs.declared.star.Index.{Index}
use Rattle.mesh.specs.Words.{word_at, point_at, points_of}
use Rattle.mesh.specs.Complex.{Nodup}
use Rattle.mesh.specs.Tests.{under}
use Rattle.mesh.specs.Element.{tets}
use Rattle.mesh.specs.Measure.{measure, lowest_of}
use Rattle.mesh.proofs.Laws.Complex.Sets.{and-fst}
use Rattle.mesh.proofs.Laws.Intake.Reads.{length-points}
use Rattle.repair.specs.declared.smooth.site.Site.{Site}
use Rattle.repair.specs.declared.smooth.choose.Best as Found
use Rattle.repair.specs.declared.smooth.choose.Start.{Start}
use Rattle.repair.specs.Smooth.{State, Best, chosen, neighbours, mean_candidates, step_candidates, move_to, best_of, about_group, best_for, taken, smooth_group}
use Rattle.repair.specs.inside.Layout.{slots_in}
use Rattle.repair.specs.inside.smooth.Candidates.{plain}
use Rattle.std.specs.Prelude.{Option as Maybe, Some, None}
use Rattle.repair.specs.inside.smooth.Site.{members, about, state_of, Placed, new_parameters, new_point, Turned, best_in, none_yet, start_list, SameTo, Ready, Slots, Rows, Listed, Sited, Started, mesh_for}
use Rattle.repair.proofs.Laws.Site.Best.{start-candidates, best-moved}
use Rattle.repair.proofs.Laws.Site.Work.{same-less, ready-kept, slots_kept, about-kept, group-same, group-kept}

-- ---- the first vertex of a group

module _ (x : Index) (w : List ℕ) (i k : ℕ) (g : Rows x w i k) where
  -- the others
  abbrev pub rest : List ℕ
  rest = members w (i + 7) (k - 1)

  pub members-cons : members w i k ≡ word_at w i ∷ rest
  unfolding members
  members-cons = let h = g.some in let e : k ≡ suc (k - 1) = omega arith in ap (members w i) e

  pub first_below : word_at w i < x.vertices
  first_below =
      ltb-true (word_at w i) x.vertices (and-fst (ltb (word_at w i) x.vertices) (under x.vertices rest) (sym (ap (under x.vertices) members-cons) ∙ g.below))

pub length-members : (w : List ℕ) (i k : ℕ) → length (members w i k) ≡ k
unfolding members
length-members w i zero = refl
length-members w i (suc k) = ap suc (length-members w (i + 7) k)

-- the places of what is listed are in range
pub listed-range : (x : Index) (w : List ℕ) (i k n : ℕ) → Ready x w → Rows x w i k → n ≤ x.room → (i + 7 * k ≤ 4294967296) × (x.area + n ≤ 4294967296)
listed-range x w i k n r g m =
    let a = r.room.area in let b = r.room.lengths in let c = r.room.heads in let d = r.room.nexts in let f = r.room.slots in
    let h = r.room.few in let e = r.room.elements in let t = g.inside in
    (omega (arith, h, t), omega (arith, a, b, c, d, f, h, e, m))

-- ---- the best candidate

-- a value that is no `Some`
pub none_of : (q : Maybe Point) → ((p : Point) → q ≡ Some p → ⊥) → q ≡ None
none_of None h = refl
none_of (Some p) h = absurd (h p refl)

-- the same candidates for the same group
same-best : (o : Options) (F : List Field) (R : Option (List ℕ)) (ts ts' : List Tet) (s s' : State) (g g' : List ℕ) (p p' : Point) (a a' : List Field) (b b' : Best) (c c' : List Point)
    → ts ≡ ts' → s ≡ s' → g ≡ g' → p ≡ p' → a ≡ a' → b ≡ b' → c ≡ c' → best_of o F R ts s g p a b c ≡ best_of o F R ts' s' g' p' a' b' c'
same-best o F R ts ts' s s' g g' p p' a a' b b' c c' e₁ e₂ e₃ e₄ e₅ e₆ e₇ = cc

module _ (o : Options) (F : List Field) (R : Option (List ℕ)) (x : Index) (masks els : List ℕ) (P Q : List Float) (w : List ℕ) (s : Site)
    (r : Ready x w) (z : Slots x els w) (S : Sited x els w s) where
  -- the group, and the elements about it
  abbrev g : List ℕ
  g = members w s.group s.count

  abbrev ts : List Tet
  ts = about_group (tets x.room els) g

  -- they stay
  same-about : (w₁ : List ℕ) → SameTo (x.area + s.about) w w₁ → about els w₁ s.area s.about ≡ ts
  same-about w₁ e = let a = S.area in about-kept els (x.area + s.about) w w₁ e s.area s.about (omega arith) ∙ S.found

  pub work-same : (w₁ : List ℕ) → SameTo (x.area + s.about) w w₁ → SameTo x.area w w₁
  work-same w₁ e = same-less x.area (x.area + s.about) w w₁ (omega arith) e

  pub best-is : (w₁ : List ℕ) (st : Start) (lowest : Float) (mask : ℕ) (b : Best)
      → Started o x P (word_at w s.group) s.about w w₁ st → mask ≡ word_at masks (word_at w s.group)
      → lowest ≡ lowest_of (measure (points_of s.vertices Q)) (about els w s.area s.about)
      → b ≡ best_of o F R (about els w₁ s.area s.about) (state_of s.vertices P Q 0) (members w₁ s.group s.count) st.origin (chosen mask F) (none_yet lowest) (start_list st o)
      → b ≡ best_for o F R (mesh_for x masks els) (state_of x.vertices P Q 0) (word_at w s.group) g
  unfolding best_for
  best-is w₁ st lowest mask b T em e₁ e₂ =
      let nv = x.vertices in
      let v = word_at w s.group in
      let f = point_at (points_of nv P) in
      let ns : neighbours nv (slots_in x x.room w) v ≡ neighbours (length (points_of nv P)) (tets x.room els) v =
      ap₂ (λ n t. neighbours n t v) (sym (length-points nv P)) (sym z) in
      let mk : mask ≡ get_or (take nv masks) v 0 = em ∙ sym (get_or-take nv masks v 0 (first_below x w s.group s.count S.rows)) in
      e₂ ∙ same-best o F R (about els w₁ s.area s.about) ts (state_of s.vertices P Q 0) (state_of nv P Q 0) (members w₁ s.group s.count) g
      st.origin (canonical (f v) o) (chosen mask F) (chosen (get_or (take nv masks) v 0) F) (none_yet lowest) (none_yet (lowest_of (measure (points_of nv Q)) ts))
      (start_list st o) (mean_candidates (f v) (canonical (f v) o) (map f (neighbours (length (points_of nv P)) (tets x.room els) v)) ++ step_candidates (canonical (f v) o) (spacing o))
      (same-about w₁ T.same) (ap (λ n. state_of n P Q 0) S.vertices) (group-same x w w₁ r (work-same w₁ T.same) s.group s.count S.rows) T.origin
      (ap (λ n. chosen n F) mk)
      (ap none_yet (e₁ ∙ ap₂ (λ n t. lowest_of (measure (points_of n Q)) t) S.vertices S.found))
      (start-candidates o f st (f v) (canonical (f v) o) (neighbours nv (slots_in x x.room w) v) T.original T.origin T.near T.mean
      ∙ ap (λ l. mean_candidates (f v) (canonical (f v) o) (map f l) ++ step_candidates (canonical (f v) o) (spacing o)) ns)

module _ (o : Options) (F : List Field) (R : Option (List ℕ)) (x : Index) (masks els : List ℕ) (P Q : List Float) (i k : ℕ) (w : List ℕ)
    (r : Ready x w) (g : Rows x w i k) (z : Slots x els w) where
  -- ---- the turn

  -- the elements about the group, as they are
  abbrev pub lowest_here : Float
  lowest_here = lowest_of (measure (points_of x.vertices Q)) (about_group (tets x.room els) (members w i k))

  module _ (moved : ℕ) where
    abbrev pub before : State
    before = state_of x.vertices P Q moved

    abbrev pub after : State
    after = smooth_group o F R (mesh_for x masks els) before (members w i k)

    -- no element about the group is under 0.15
    pub turn-fine : lt lowest_here fifteen_hundredths ≡ false → Turned x.vertices after P Q P Q moved
    unfolding smooth_group
    turn-fine h = record {
      state = sym (ap (smooth_group o F R (mesh_for x masks els) before) (members-cons x w i k g)
          ∙ ap (λ t. cond t (taken o F R (mesh_for x masks els) before (word_at w i ∷ rest x w i k g) (best_for o F R (mesh_for x masks els) before (word_at w i) (word_at w i ∷ rest x w i k g)).found) before)
          (ap (λ l. lt (lowest_of (measure (points_of x.vertices Q)) (about_group (tets x.room els) l)) fifteen_hundredths) (sym (members-cons x w i k g)) ∙ h));
      parameters = refl;
      points = refl;
      long = (refl, refl);
    }

    -- else the group is moved to the best candidate, if any
    turn-taken : lt lowest_here fifteen_hundredths ≡ true
        → after ≡ taken o F R (mesh_for x masks els) before (members w i k) (best_for o F R (mesh_for x masks els) (state_of x.vertices P Q 0) (word_at w i) (members w i k)).found
    unfolding smooth_group best_for
    turn-taken h =
        let m = mesh_for x masks els in
        let v = word_at w i in
        let q = sym (members-cons x w i k g) in
        ap (smooth_group o F R m before) (members-cons x w i k g)
        ∙ ap (λ l. cond (lt (lowest_of (measure (points_of x.vertices Q)) (about_group (tets x.room els) l)) fifteen_hundredths) (taken o F R m before l (best_for o F R m before v l).found) before) q
        ∙ ap (λ t. cond t (taken o F R m before (members w i k) (best_for o F R m before v (members w i k)).found) before) h
        ∙ ap (λ (b : Best). taken o F R m before (members w i k) b.found)
        (best-moved o F R (about_group (tets x.room els) (members w i k)) x.vertices P Q moved (members w i k) _ _ _ _)

    pub turn-none : (b : Found.Best) → lt lowest_here fifteen_hundredths ≡ true
        → best_in b ≡ best_for o F R (mesh_for x masks els) (state_of x.vertices P Q 0) (word_at w i) (members w i k) → b.point ≡ None
        → Turned x.vertices after P Q P Q moved
    turn-none b h e f = record {
      state = sym (turn-taken h ∙ ap (λ (q : Best). taken o F R (mesh_for x masks els) before (members w i k) q.found) (sym e)
          ∙ ap (λ q. taken o F R (mesh_for x masks els) before (members w i k) (plain q)) f);
      parameters = refl;
      points = refl;
      long = (refl, refl);
    }

    pub turn_moved : (b : Found.Best) (t : Point) (P' Q' : List Float) (m : ℕ) → lt lowest_here fifteen_hundredths ≡ true
        → best_in b ≡ best_for o F R (mesh_for x masks els) (state_of x.vertices P Q 0) (word_at w i) (members w i k) → b.point ≡ Some t
        → Placed x.vertices (new_parameters o x.vertices P t) (members w i k) P P' → Placed x.vertices (new_point o x.vertices P t) (members w i k) Q Q'
        → m ≡ moved + k → Turned x.vertices after P Q P' Q' m
    unfolding move_to
    turn_moved b t P' Q' m h e f p q n = record {
      state = (λ j. record { parameters = p.points j; points = q.points j; moved = (n ∙ ap (λ l. moved + l) (sym (length-members w i k))) j })
          ∙ sym (turn-taken h ∙ ap (λ (q : Best). taken o F R (mesh_for x masks els) before (members w i k) q.found) (sym e)
          ∙ ap (λ q. taken o F R (mesh_for x masks els) before (members w i k) (plain q)) f);
      parameters = p.rest;
      points = q.rest;
      long = (p.long, q.long);
    }

-- ---- as the code goes: the elements are listed first, from w to w₁

module _ (x : Index) (els : List ℕ) (i k : ℕ) (w w₁ : List ℕ) (s : Site) (r : Ready x w) (g : Rows x w i k) (z : Slots x els w) (l : Listed x i k w w₁ s) where
  pub ready₁ : Ready x w₁
  ready₁ = ready-kept x w w₁ r l.same

  pub rows₁ : Rows x w₁ i k
  rows₁ = group-kept x w w₁ r l.same i k g

  pub slots₁ : Slots x els w₁
  slots₁ = z ∙ sym (slots_kept x w w₁ r l.same)

  -- the lowest score is that about the group
  pub lowest₁ : (Q : List Float) (low : Float) → low ≡ lowest_of (measure (points_of s.vertices Q)) (about els w₁ s.area s.about)
      → low ≡ lowest_of (measure (points_of x.vertices Q)) (about_group (tets x.room els) (members w₁ i k))
  lowest₁ Q low e =
      e ∙ ap₂ (λ n t. lowest_of (measure (points_of n Q)) t) l.vertices
      (ap (λ (a : ℕ). about els w₁ a s.about) l.area ∙ l.found els z
      ∙ ap (about_group (tets x.room els)) (sym (group-same x w w₁ r l.same i k g)))

  -- the site is that of the group
  pub sited₁ : Sited x els w₁ s
  sited₁ = record {
    vertices = l.vertices;
    area = l.area;
    few = l.few;
    rows = subst₂ (λ a n. Rows x w₁ a n) (sym l.group) (sym l.count) rows₁;
    found = ap (λ (a : ℕ). about els w₁ a s.about) l.area ∙ l.found els z
        ∙ ap (about_group (tets x.room els)) (sym (group-same x w w₁ r l.same i k g))
        ∙ sym (ap₂ (λ (a n : ℕ). about_group (tets x.room els) (members w₁ a n)) l.group l.count);
  }

  pub best₁ : (f : ℕ → List ℕ → Best) (b : Best) → b ≡ f (word_at w₁ s.group) (members w₁ s.group s.count) → b ≡ f (word_at w₁ i) (members w₁ i k)
  best₁ f b e = e ∙ ap₂ (λ (a n : ℕ). f (word_at w₁ a) (members w₁ a n)) l.group l.count

  -- the turn is that of the group in w
  pub turned₁ : (f : List ℕ → State) (P Q P' Q' : List Float) (m : ℕ) → Turned x.vertices (f (members w₁ i k)) P Q P' Q' m → Turned x.vertices (f (members w i k)) P Q P' Q' m
  turned₁ f P Q P' Q' m t = subst (λ h. Turned x.vertices (f h) P Q P' Q' m) (group-same x w w₁ r l.same i k g) t

  -- the vertices are placed as the site says
  module _ (w₂ : List ℕ) (e : SameTo x.area w₁ w₂) where
    site-members : members w₂ s.group s.count ≡ members w₁ i k
    site-members = ap₂ (members w₂) l.group l.count ∙ group-same x w₁ w₂ ready₁ e i k rows₁

    pub site-once : Nodup (members w₂ s.group s.count)
    site-once = subst (λ h. Nodup h) (sym site-members) rows₁.once

    pub site-vertices : s.vertices ≡ x.vertices
    site-vertices = l.vertices

    pub site-placed : (new : ℕ → ℕ → Point) (S T : List Float) → Placed s.vertices (new s.vertices) (members w₂ s.group s.count) S T
        → Placed x.vertices (new x.vertices) (members w₁ i k) S T
    site-placed new S T q = subst₂ (λ n h. Placed n (new n) h S T) site-vertices site-members q

-- ---- by other names

-- the first vertex as it is read
pub below_as : {v u n : ℕ} → v ≡ u → u < n → v < n
below_as {v} {u} {n} e h = subst (λ j. j < n) (sym e) h

pub started-as : (o : Options) (x : Index) (P : List Float) (k : ℕ) (w w₁ : List ℕ) (s : Start) {v u : ℕ} → v ≡ u → Started o x P v k w w₁ s → Started o x P u k w w₁ s
started-as o x P k w w₁ s e S = subst (λ j. Started o x P j k w w₁ s) e S
