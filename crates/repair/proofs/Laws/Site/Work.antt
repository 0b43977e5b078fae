-- The work of `smooth`: what lies below the area stays, and with it groups, slots and index. Assumes nothing.
use mathlib.Core.Path.{◌≡◌, refl, sym, ap, ap₂, subst, ◌∙◌}
use mathlib.Core.List.{List, ◌∷◌}
use Prim.Native.Nat.{ℕ, zero, suc, ◌+◌, ◌*◌, ◌≤◌}
use native.Mathlib.Omega.{arith}
use lib.ListN.{length}
use Rattle.mesh.specs.declared.element.Tet.{Tet}
use Rattle.mesh.specs.declared.star.Index.{Index}
use Rattle.mesh.specs.inside.Rows.{rows}
use Rattle.mesh.specs.Complex.{Nodup}
use Rattle.mesh.specs.Tests.{every, under}
use Rattle.mesh.specs.Intake.{well_numbered}
use Rattle.mesh.specs.inside.Intake.{tet_at}
use Rattle.mesh.specs.inside.Star.{Laid}
use Rattle.mesh.proofs.Laws.Rows.{rows_same}
use Rattle.mesh.proofs.Laws.Star.Calls.{answered-complete, answered-elements}
use Rattle.repair.specs.inside.Layout.{Room, slots_in}
use Rattle.repair.proofs.Laws.Layout.{room-laid}
use Rattle.repair.specs.inside.smooth.Site.{members, about, SameTo, used_words, Ready, Rows}

-- the areas of the index lie inside the words that are used
pub used-laid : (x : Index) (k m : ℕ) → Room x x.room k → used_words x.vertices x.room ≤ m → Laid x m
used-laid x k m r h =
    let l = room-laid r in
    let a = r.area in let b = r.lengths in let c = r.heads in let d = r.nexts in let e = r.slots in
    record { few = l.few; nexts = l.nexts; heads = l.heads; lengths = l.lengths; area = l.area; end = omega (arith, a, b, c, d, e, h) }

pub ready-laid : (x : Index) (w : List ℕ) → Ready x w → Laid x (length w)
ready-laid x w r = used-laid x _ (length w) r.room r.long

-- ---- what stays

pub same-trans : (a : ℕ) (s t u : List ℕ) → SameTo a s t → SameTo a t u → SameTo a s u
same-trans a s t u p q = record { long = q.long ∙ p.long; before = λ j h. q.before j h ∙ p.before j h }

pub same-less : (a b : ℕ) (s t : List ℕ) → a ≤ b → SameTo b s t → SameTo a s t
same-less a b s t h e = record { long = e.long; before = λ j g. e.before j (omega arith) }

module _ (x : Index) (w w' : List ℕ) (r : Ready x w) (e : SameTo x.area w w') where
  -- the slots
  pub slots_kept : slots_in x x.room w' ≡ slots_in x x.room w
  slots_kept = answered-elements x w x.room (ready-laid x w r) (omega arith) r.index w' e.before

  -- all of it
  pub ready-kept : Ready x w'
  ready-kept = record {
    room = r.room;
    long = let l = r.long in omega (arith, l, e.long);
    index = answered-complete x w x.room (ready-laid x w r) (omega arith) r.index w' e.before;
    proper = ap (every (well_numbered x.vertices)) slots_kept ∙ r.proper;
  }

  -- the rows of the groups
  pub rows-kept : rows 7 x.vertices w' ≡ rows 7 x.vertices w
  rows-kept =
      let a = r.room.area in let b = r.room.lengths in let c = r.room.heads in let d = r.room.nexts in let f = r.room.slots in
      rows_same 7 x.vertices w' w 0 e.long (λ j g h. e.before j (omega (arith, a, b, c, d, f)))

-- the vertices of a group
pub members_kept : (a : ℕ) (w w' : List ℕ) → SameTo a w w' → (i k : ℕ) → i + 7 * k ≤ a + 6 → members w' i k ≡ members w i k
unfolding members
members_kept a w w' e i zero h = refl
members_kept a w w' e i (suc k) h = ap₂ (λ (v : ℕ) (l : List ℕ). v ∷ l) (e.before i (omega arith)) (members_kept a w w' e (i + 7) k (omega arith))

-- the listed elements
pub about-kept : (els : List ℕ) (a : ℕ) (w w' : List ℕ) → SameTo a w w' → (i k : ℕ) → i + k ≤ a → about els w' i k ≡ about els w i k
unfolding about
about-kept els a w w' e i zero h = refl
about-kept els a w w' e i (suc k) h = ap₂ (λ (u : ℕ) (l : List Tet). tet_at els u ∷ l) (e.before i (omega arith)) (about-kept els a w w' e (i + 1) k (omega arith))

module _ (x : Index) (w w' : List ℕ) (r : Ready x w) (e : SameTo x.area w w') (i k : ℕ) (g : Rows x w i k) where
  pub group-same : members w' i k ≡ members w i k
  group-same =
      let a = r.room.area in let b = r.room.lengths in let c = r.room.heads in let d = r.room.nexts in let f = r.room.slots in
      let h = g.inside in
      members_kept x.area w w' e i k (omega arith)

  pub group-kept : Rows x w' i k
  group-kept = record {
    some = g.some;
    inside = g.inside;
    once = subst (λ l. Nodup l) (sym group-same) g.once;
    below = ap (under x.vertices) group-same ∙ g.below;
  }
