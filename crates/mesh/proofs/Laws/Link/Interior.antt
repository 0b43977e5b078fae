-- The interior test of `link_ok` is the link condition of Dey et al.: Lk a ∩ Lk b = Lk ab. Assumes nothing.
use Rattle.std.proofs.Common.{◌≡◌, ℕ, ◌≤◌, true, ◌↔◌, List, map, length, subst, arith}
use mathlib.Core.List.Memᴰ
use Rattle.mesh.specs.declared.element.Tet.{Tet}
use Rattle.mesh.specs.Element.{vertices_of}
use Rattle.mesh.specs.Complex.{Nodup}
use Rattle.mesh.specs.Link.{interior_ok}
use Rattle.mesh.proofs.Laws.Link.Links.{Simplices, LinksMeet, links_meet-sound, links_meet-complete}
use Rattle.mesh.proofs.Laws.Link.Keys.{Fours}

pub fours-simplices : (ts : List Tet) → Fours ts → Simplices (map vertices_of ts)
fours-simplices ts P e m = let r = Memᴰ.of_map vertices_of ts m in subst (λ u. Nodup u × (length u ≤ 4)) r.2 (P r.0 r.1, omega arith)

-- the interior test holds exactly where a set of vertices lies in an element with a and in one with b just if it lies in one with both
pub interior-exact : (a b : ℕ) (ts : List Tet) → Fours ts → (interior_ok a b ts ≡ true) ↔ LinksMeet a b (map vertices_of ts)
unfolding interior_ok
interior-exact a b ts P = let S = fours-simplices ts P in (links_meet-sound a b (map vertices_of ts) S, links_meet-complete a b (map vertices_of ts) S)
