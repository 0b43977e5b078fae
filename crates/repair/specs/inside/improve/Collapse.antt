-- A vertex a goes into a vertex b in the work slice (src/improve/collapse.rt): what becomes of the slots, and which words stay. For the
-- contracts of private functions; definitions only.
use Rattle.std.specs.Prelude.{ℕ, zero, suc, ◌+◌, ◌*◌, ◌≤◌, ◌<◌, ◌≡◌, cond, ◌&&◌, List, [], ◌∷◌, ◌++◌, map, length, drop, set}
use Rattle.geometry.specs.declared.bounds.Options.{Options}
use Rattle.mesh.specs.declared.element.Pair.{Pair}
use Rattle.mesh.specs.declared.element.Tet.{Tet}
use Rattle.mesh.specs.declared.star.Index.{Index}
use Rattle.mesh.specs.Words.{word_at}
use Rattle.mesh.specs.Element.{pair}
use Rattle.mesh.specs.Feature.{onto}
use Rattle.mesh.specs.inside.Intake.{tet_at}
use Rattle.mesh.specs.inside.Star.{gone_tet}
use Rattle.repair.specs.Mesh.{Mesh, has}
use Rattle.repair.specs.Improve.{State, image_of, collapsed}
use Rattle.repair.specs.inside.Layout.{Pairs, Stands, pairs_at, edges_at, pairs_in}

-- a slot once a went into b: gone where it has both, else b in a's place
unfoldable pub slot_after : ℕ → ℕ → Tet → Tet
slot_after a b t = cond (has a t && has b t) gone_tet (image_of (onto a b) t)

-- the slot e
abbrev pub slot_at : Index → List ℕ → ℕ → Tet
slot_at x w e = tet_at (drop x.slots w) e

-- w with the four vertices of t from p on
unfoldable pub put_slot : List ℕ → ℕ → Tet → List ℕ
put_slot w p t = set (set (set (set w p t.a) (p + 1) t.b) (p + 2) t.c) (p + 3) t.d

-- w once a went into b in the slot e
unfoldable pub slot_replaced : Index → ℕ → ℕ → ℕ → List ℕ → List ℕ
slot_replaced x a b e w = put_slot w (x.slots + 4 * e) (slot_after a b (slot_at x w e))

-- the same for the slots that the k words from p on name, one after the other
unfoldable pub slots_replaced : Index → ℕ → ℕ → ℕ → ℕ → List ℕ → List ℕ
slots_replaced x a b zero p w = w
slots_replaced x a b (suc k) p w = slots_replaced x a b k (p + 1) (slot_replaced x a b (word_at w p) w)

-- the pairs and the listed edges of t are those of s
pub record ListsKept (x : Index) (s t : List ℕ) : Type 0 where
  pub long : length t ≡ length s
  pub pairs : (j : ℕ) → pairs_at x ≤ j → j < x.slots → word_at t j ≡ word_at s j
  pub edges : (j : ℕ) → edges_at x ≤ j → j < x.area → word_at t j ≡ word_at s j

-- where v stands for a state, w stands for the state once the pairs es went in it, all at once
abbrev pub Replaces : Index → ℕ → List Pair → List ℕ → List ℕ → Type 0
Replaces x n es v w =
    (o : Options) (m : Mesh) (s : State) → Stands o m x n v s
    → ListsKept x v w × Stands o m x n w (record { elements = collapsed es s.elements; replaced = map (λ e. e.a) es ++ s.replaced })

-- a vertex a went into a vertex b
abbrev pub Goes : Index → ℕ → ℕ → ℕ → List ℕ → List ℕ → Type 0
Goes x n a b v w = a < x.vertices → b < x.vertices → Replaces x n (pair a b ∷ []) v w

-- the k pairs of the pairs' area went, where they are pairs as `improve` finds them
abbrev pub AllGo : Index → ℕ → ℕ → List ℕ → List ℕ → Type 0
AllGo x n k v w = Pairs x.vertices (pairs_in x k v) → Replaces x n (pairs_in x k v) v w
