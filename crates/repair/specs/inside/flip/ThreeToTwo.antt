-- What three-to-two reads and lists in the work slice (src/flip/three_to_two.rt). For the contracts of private functions; definitions only.
use Rattle.std.specs.Prelude.{ℕ, ◌+◌, ◌≡◌, List, [], ◌∷◌, eqb, leb, length, take, drop}
use Rattle.mesh.specs.declared.element.Pair.{Pair}
use Rattle.mesh.specs.declared.element.Triple.{Triple}
use Rattle.mesh.specs.declared.element.Tet.{Tet}
use Rattle.mesh.specs.declared.star.Index.{Index}
use Rattle.mesh.specs.Sort.{sort, unique}
use Rattle.mesh.specs.inside.Star.{written}
use Rattle.repair.specs.Flip.{besides}
use Rattle.repair.specs.inside.Layout.{Same}
use Rattle.repair.specs.inside.improve.Collapse.{slot_at}
use Rattle.repair.specs.inside.flip.Tries.{edge_row}

-- the elements in the slots with the three numbers of f
abbrev pub three_in : Index → List ℕ → Triple → List Tet
three_in x w f = slot_at x w f.a ∷ slot_at x w f.b ∷ slot_at x w f.c ∷ []

-- the vertices of the elements besides those of the edge e, in order, each once
unfoldable pub others_of : Pair → List Tet → List ℕ
others_of e ts = unique eqb (sort leb (besides (edge_row e) ts))

-- the words l put at k, with n the place behind them
pub record Puts (s : List ℕ) (k : ℕ) (l : List ℕ) (n : ℕ) (t : List ℕ) : Type 0 where
  pub place : n ≡ k + length l
  pub words : t ≡ written s k l

-- the list l, r words long, stands from a on, and nothing before a changed
pub record ListedAt (a : ℕ) (l : List ℕ) (w v : List ℕ) (r : ℕ) : Type 0 where
  pub count : r ≡ length l
  pub words : take r (drop a v) ≡ l
  pub same : Same w v a (length w)
