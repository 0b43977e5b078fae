-- The live elements that have all of certain vertices, by the plain scan and by the index of src/star.rt: of the chain with fewer entries
-- those slots that have all of them. For contracts of private functions and for proofs; definitions only.
use Rattle.std.specs.Prelude.{ℕ, ◌/◌, Bool, cond, List, [], ◌∷◌, length, nat_le}
use Rattle.mesh.specs.declared.star.Index.{Index}
use Rattle.mesh.specs.declared.with.Chain.{Chain}
use Rattle.mesh.specs.Complex.{sub}
use Rattle.mesh.specs.inside.Star.{walk, next_of, gather, corners_at, chain_length, chain_of, room_for, distinct, listed}
use Rattle.mesh.specs.Tests.{any}

-- ---- by the index

-- the entries that are left of a chain
abbrev pub chain_left : Chain → List ℕ
chain_left c = walk c.index.room (next_of c.index c.words.now) c.left c.entry

module _ (x : Index) (s : List ℕ) where
  -- the one of v and w whose chain has fewer entries, v where both have as many
  unfoldable pub rarer : ℕ → ℕ → ℕ
  rarer v w = cond (nat_le (chain_length x s v) (chain_length x s w)) v w

  -- has the slot of the entry p all of these vertices
  unfoldable pub entry_has : List ℕ → ℕ → Bool
  entry_has σ p = sub σ (corners_at x s (p / 4))

  -- the slot of the entry p where it has all of them
  unfoldable pub with_if : List ℕ → ℕ → List ℕ
  with_if σ p = cond (entry_has σ p) (p / 4 ∷ []) []

  -- the slots that have all of them, by the chain of a
  unfoldable pub with_met : ℕ → List ℕ → List ℕ
  with_met a σ = gather (with_if σ) (chain_of x s a)

  -- does a slot have u, v and w
  unfoldable pub any_with : ℕ → ℕ → ℕ → Bool
  any_with u v w = any (entry_has (u ∷ v ∷ w ∷ [])) (chain_of x s (rarer u v))

  -- room for twice the entries of the shorter chain
  unfoldable pub with_room : ℕ → ℕ → Bool
  with_room v w = room_for x (length s) (chain_length x s (rarer v w))

  -- the slots that have v and w, in number order, and none where there is no room
  unfoldable pub with_list : ℕ → ℕ → List ℕ
  with_list v w = cond (with_room v w) (distinct (with_met (rarer v w) (v ∷ w ∷ []))) []

  -- the slice with them in its area
  unfoldable pub with_in : ℕ → ℕ → List ℕ
  with_in v w = cond (with_room v w) (listed s x.area (with_met (rarer v w) (v ∷ w ∷ []))) s
