-- Groups of vertices of equal rank (document 01, "Box": "Vertices of equal rank form a group"). Definitions only.
use Rattle.std.specs.Prelude.{ℕ, Bool, true, false, cond, ◌&&◌, List, map, length, ◌==◌, nat_le, nat_lt}
use Rattle.geometry.specs.declared.point.Point.{Point}
use Rattle.geometry.specs.declared.bounds.Options.{Options}
use Rattle.geometry.specs.declared.bounds.Ranks.{Ranks}
use Rattle.geometry.specs.Rank.{rank}
use Rattle.mesh.specs.Words.{point_at, numbers}
use Rattle.mesh.specs.Sort.{sort, unique}
use Rattle.mesh.specs.Complex.{keep}

-- the same rank in all three directions
abbrev pub same_ranks : Ranks → Ranks → Bool
same_ranks r s = r.x == s.x && (r.y == s.y && r.z == s.z)

-- r no later than s: by x, then y, then z
unfoldable pub le_ranks : Ranks → Ranks → Bool
le_ranks r s =
    cond (nat_lt r.x s.x) true
    (cond (nat_lt s.x r.x) false
    (cond (nat_lt r.y s.y) true (cond (nat_lt s.y r.y) false (nat_le r.z s.z))))

module _ (o : Options) (parameters : List Point) where
  -- the rank of the vertex v
  abbrev pub rank_of : ℕ → Ranks
  rank_of v = rank (point_at parameters v) o

  -- the vertices of the rank r, in number order
  abbrev pub of_rank : Ranks → List ℕ
  of_rank r = keep (λ v. same_ranks (rank_of v) r) (numbers 0 (length parameters))

  -- the group of the vertex v
  abbrev pub group_of : ℕ → List ℕ
  group_of v = of_rank (rank_of v)

  -- all groups, in rank order
  unfoldable pub groups : List (List ℕ)
  groups = map of_rank (unique same_ranks (sort le_ranks (map (λ p. rank p o) parameters)))
