-- The pairs that are found are those of the state for which the work slice stands, and it stands for that state afterwards. Assumes nothing.
use mathlib.Core.Path.{◌≡◌, sym, ap, ap₂, subst, ◌∙◌}
use mathlib.Core.Bool.{Bool, not, cond}
use mathlib.Core.List.{List}
use Prim.Native.Nat.{ℕ, ◌+◌, ◌*◌}
use native.Mathlib.Omega.{arith}
use lib.Dec.{eqb}
use lib.ListN.{length, drop}
use Rattle.std.specs.Prelude.{Option, None, Some}
use Rattle.geometry.specs.declared.point.Point.{Point}
use Rattle.geometry.specs.declared.bounds.Options.{Options}
use Rattle.mesh.specs.declared.element.Pair.{Pair}
use Rattle.mesh.specs.declared.star.Index.{Index}
use Rattle.mesh.specs.Complex.{mem, keep}
use Rattle.mesh.specs.Tests.{every}
use Rattle.mesh.specs.Element.{tets}
use Rattle.mesh.specs.Group.{group_of}
use Rattle.mesh.specs.inside.List.{gone}
use Rattle.mesh.proofs.Laws.Parts.{part_same, rest-same}
use Rattle.mesh.proofs.Laws.Star.Chains.{complete-kept}
use Rattle.repair.specs.declared.layout.Run.{Run}
use Rattle.repair.specs.Mesh.{Mesh}
use Rattle.repair.specs.Improve.{State, active_group, partners, pair_off}
use Rattle.repair.specs.inside.Layout.{flags_at, pairs_at, Room, live_in, slot_ok, Same, Stands}
use Rattle.repair.specs.inside.improve.Partners.{members_of, active_in, active_of, IsGroup, only, Paired}
use Rattle.repair.proofs.Laws.Pairs.Partners.{partners-only}
use Rattle.repair.proofs.Laws.Pairs.Pairing.{keep-below}
use Rattle.repair.proofs.Laws.Layout.{room-laid}

module _ {o : Options} {m : Mesh} {x : Index} {n : ℕ} {w : List ℕ} {s : State} (S : Stands o m x n w s) {ps : List Point} (e : m.parameters ≡ ps) where
  -- the active members of a group's rows
  pub active-is : {g : Run} → IsGroup x w g → (v : ℕ) → members_of w g ≡ group_of o ps v → active_of x w g ≡ active_group o m s.replaced v
  active-is {g} i v h =
      keep-below (active_in x w) (λ u. not (mem u s.replaced)) x.vertices S.flags (members_of w g) i.below
      ∙ ap (keep (λ u. not (mem u s.replaced))) (h ∙ ap (λ (p : List Point). group_of o p v) (sym e))

-- only the parameters of the mesh count
pub paired-mesh : {o : Options} {m : Mesh} {x : Index} {ps : List Point} {w w' : List ℕ} {r : Option ℕ} → m.parameters ≡ ps → (vs vs' ws ws' : List ℕ) → vs ≡ vs' → ws ≡ ws'
    → Paired o (only ps) x vs ws w w' r → Paired o m x vs' ws' w w' r
paired-mesh {o} {m} {x} {ps} e vs vs' ws ws' f g p =
    let h : partners o (only ps) vs ws ≡ partners o m vs' ws' =
    ap₂ (λ (a b : List ℕ). partners o (only ps) a b) f g ∙ sym (partners-only o m vs' ws' ∙ ap (λ (q : List Point). partners o (only q) vs' ws') e) in
    let off : pair_off vs ws (partners o (only ps) vs ws) ≡ pair_off vs' ws' (partners o m vs' ws') =
    ap₂ (λ (a b : List ℕ). pair_off a b (partners o (only ps) vs ws)) f g ∙ ap (pair_off vs' ws') h in
    record {
      count = p.count ∙ ap₂ (λ (c : Bool) (l : List Pair). cond c (Some (length l)) None) off h;
      pairs = λ k z. p.pairs k z ∙ h;
      same = p.same;
    }

-- ---- the pairs' area does not count

-- a slice that differs there alone stands for the same state
pub stands_same : {o : Options} {m : Mesh} {x : Index} {n : ℕ} {w w' : List ℕ} {s : State} → Same w w' (pairs_at x) x.slots → Stands o m x n w s → Stands o m x n w' s
unfolding live_in
stands_same {o} {m} {x} {n} {w} {w'} {s} q S =
    let R = S.room in
    let slots : drop x.slots w' ≡ drop x.slots w = rest-same 0 w' w x.slots q.long q.behind in
    record {
      room = subst (Room x n) (sym q.long) R;
      many = S.many;
      groups = part_same 0 w' w 0 (7 * x.vertices) q.long (λ j a b. q.before j (omega arith)) ∙ S.groups;
      flags = λ v l. ap (λ (a : ℕ). eqb a 0) (q.before (flags_at x + v) (omega arith)) ∙ S.flags v l;
      elements = S.elements ∙ ap (λ (l : List ℕ). keep (λ t. not (gone t)) (tets n l)) (sym slots);
      proper = ap (λ (l : List ℕ). every (slot_ok x.vertices) (tets n l)) slots ∙ S.proper;
      index = complete-kept x w w' (room-laid R) (λ j a b. q.behind j (omega (arith, R.nexts))) (4 * n) (λ p v a b c. sym (q.behind (x.slots + p) (omega arith)) ∙ c) S.index;
    }
