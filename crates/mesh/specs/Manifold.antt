-- Whether a surface has a nonmanifold vertex (document 01, number 22; `nonmanifold_vertices` of implicit.rs, on values): an edge that is
-- not on exactly two triples, or a vertex whose link is not one cycle. Definitions only.
use Rattle.std.specs.Prelude.{ℕ, zero, suc, ◌-◌, ◌*◌, Bool, true, cond, not, ◌&&◌, List, [], ◌∷◌, ◌++◌, length, take, ◌==◌, nat_eq, nat_le, nat_lt}
use Rattle.mesh.specs.declared.element.Pair.{Pair}
use Rattle.mesh.specs.declared.element.Triple.{Triple}
use Rattle.mesh.specs.Words.{zero_words}
use Rattle.mesh.specs.Complex.{mem}
use Rattle.mesh.specs.Tests.{every}
use Rattle.mesh.specs.Sets.{times}
use Rattle.mesh.specs.Element.{all_corners, pair, triples, edge, same_pair}

-- the three edges of a triple
abbrev pub sides_of : Triple → List Pair
sides_of f = edge f.a f.b ∷ edge f.b f.c ∷ edge f.c f.a ∷ []

-- the edges of all triples, as often as triples have them
unfoldable pub surface_edges : List Triple → List Pair
surface_edges [] = []
surface_edges (f ∷ fs) = sides_of f ++ surface_edges fs

-- is every edge on exactly two triples
unfoldable pub edges_twice : List Triple → Bool
edges_twice fs = every (λ e. nat_eq (times same_pair e (surface_edges fs)) 2) (surface_edges fs)

-- the link of v: for each place of v in a triple, the other two vertices in turn
unfoldable pub surface_link : ℕ → List Triple → List Pair
surface_link v [] = []
surface_link v (f ∷ fs) =
    cond (f.a == v) (pair f.b f.c ∷ []) [] ++ (cond (f.b == v) (pair f.c f.a ∷ []) [] ++ (cond (f.c == v) (pair f.a f.b ∷ []) [] ++ surface_link v fs))

-- the vertices seen, with each that a pair joins to one of them
unfoldable pub grow : List Pair → List ℕ → List ℕ
grow [] seen = seen
grow (e ∷ es) seen =
    cond (mem e.a seen && not (mem e.b seen)) (grow es (e.b ∷ seen))
    (cond (mem e.b seen && not (mem e.a seen)) (grow es (e.a ∷ seen)) (grow es seen))

-- n times so: each time but the last adds a vertex, so that as many times as there are pairs reach all
unfoldable pub reach : ℕ → List Pair → List ℕ → List ℕ
reach zero es seen = seen
reach (suc n) es seen = reach n es (grow es seen)

-- one cycle, of a link each of whose vertices is on two pairs: from its first vertex as many are reached as there are pairs
unfoldable pub one_cycle : List Pair → Bool
one_cycle [] = true
one_cycle (e ∷ es) = length (reach (length (e ∷ es)) (e ∷ es) (e.a ∷ [])) == length (e ∷ es)

-- 22: "a nonmanifold boundary vertex"
unfoldable pub nonmanifold : List Triple → Bool
nonmanifold fs = not (edges_twice fs && every (λ v. one_cycle (surface_link v fs)) (all_corners fs))

-- ---- within one area

-- at most 65,536 triples, 27 words for each, and a mark for each vertex number behind the first 15 n words
unfoldable pub surface_fits : ℕ → List ℕ → Bool
surface_fits n s = nat_le n 65536 && (nat_le (27 * n) (length s) && every (λ x. nat_lt x (length s - 15 * n)) (take (3 * n) s))

-- an answer, and the area afterwards
pub record Tested : Type 0 where
  pub answer : Bool
  pub area : List ℕ

-- whether the n triples at the front have a nonmanifold vertex, with zeros behind them; true, and the area as it was, where it is too small
unfoldable pub nonmanifold_in : ℕ → List ℕ → Tested
nonmanifold_in n s =
    cond (surface_fits n s)
    (record { answer = nonmanifold (triples n s); area = take (3 * n) s ++ zero_words (length s - 3 * n) })
    (record { answer = true; area = s })
