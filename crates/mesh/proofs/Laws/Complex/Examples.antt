-- The definitions at small meshes, by computation.
-- Assumes nothing.
use Rattle.std.proofs.Common.{◌≡◌, ℕ, List, [], ◌∷◌, refl, arith}
use Rattle.mesh.specs.Complex.{faces}
use Rattle.mesh.specs.inside.Complex.{star, SameCount}
use Rattle.mesh.specs.inside.Moves.{collapse, flip23, Flippable23, Flippable32}

-- two elements that share the face 0 2 3: 5 vertices, 9 edges, 7 triangles
pair : List (List ℕ)
pair = (0 ∷ 1 ∷ 2 ∷ 3 ∷ []) ∷ (0 ∷ 2 ∷ 3 ∷ 4 ∷ []) ∷ []

pair-vertices : faces 1 5 pair ≡ 5
unfolding faces pair
pair-vertices = refl

pair-edges : faces 2 5 pair ≡ 9
unfolding faces pair
pair-edges = refl

pair-triangles : faces 3 5 pair ≡ 7
unfolding faces pair
pair-triangles = refl

pair-after : collapse 0 1 pair ≡ (1 ∷ 2 ∷ 3 ∷ 4 ∷ []) ∷ []
unfolding pair
pair-after = refl

-- one element alone: nothing would be left of it
alone : List (List ℕ)
alone = (0 ∷ 1 ∷ 2 ∷ 3 ∷ []) ∷ []

alone-differs : SameCount 4 alone 4 (collapse 0 1 alone) → ⊥
unfolding faces alone
alone-differs h = omega arith

-- a flip there and back
flips : Flippable23 1 4 0 2 3 pair
unfolding star pair
flips = record { five = (refl, (refl, (refl, (refl, (refl, tt))))); at_a = refl; at_b = refl; only = refl; free = refl }

flips-back : Flippable32 1 4 0 2 3 (flip23 1 4 0 2 3 pair)
unfolding star pair
flips-back = record { five = (refl, (refl, (refl, (refl, (refl, tt))))); at_uv = refl; at_vw = refl; at_wu = refl; only = refl; free = refl }

flipped-edges : faces 2 5 (flip23 1 4 0 2 3 pair) ≡ 10
unfolding faces pair
flipped-edges = refl

flipped-triangles : faces 3 5 (flip23 1 4 0 2 3 pair) ≡ 9
unfolding faces pair
flipped-triangles = refl

-- the five elements of the boundary of a 4-simplex
closed : List (List ℕ)
closed = (0 ∷ 1 ∷ 2 ∷ 3 ∷ []) ∷ (0 ∷ 1 ∷ 3 ∷ 4 ∷ []) ∷ (0 ∷ 1 ∷ 4 ∷ 2 ∷ []) ∷ (0 ∷ 2 ∷ 3 ∷ 4 ∷ []) ∷ (1 ∷ 2 ∷ 3 ∷ 4 ∷ []) ∷ []

-- its collapse has one element twice
closed-twice : collapse 0 1 closed ≡ (1 ∷ 2 ∷ 3 ∷ 4 ∷ []) ∷ (1 ∷ 2 ∷ 3 ∷ 4 ∷ []) ∷ []
unfolding closed
closed-twice = refl
