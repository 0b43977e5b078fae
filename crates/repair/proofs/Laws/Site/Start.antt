-- What the candidates of a group start from: the neighbours listed in the area, and their mean. Assumes nothing.
use mathlib.Core.Path.{◌≡◌, sym, ap, subst, ◌∙◌}
use mathlib.Core.List.{List, map}
use Prim.Native.Nat.{ℕ, ◌+◌, ◌*◌, ◌≤◌, ◌<◌}
use native.Mathlib.Omega.{arith}
use lib.Ieee.{Float}
use lib.ListN.{length, take, drop}
use Rattle.std.proofs.lemmas.List.{length-take}
use Rattle.std.proofs.Common.{length-drop}
use Rattle.geometry.specs.declared.point.Point.{Point}
use Rattle.geometry.specs.declared.bounds.Options.{Options}
use Rattle.geometry.specs.Bounds.{canonical}
use Rattle.mesh.specs.declared.element.Tet.{Tet}
use Rattle.mesh.specs.declared.star.Index.{Index}
use Rattle.mesh.specs.Words.{point_at, points_of}
use Rattle.mesh.specs.inside.Star.{Laid, Complete, neighbours_of, neighbour_list, neighboured}
use Rattle.mesh.proofs.Laws.Star.Calls.{Answered, neighbours-count, neighbours-answered}
use Rattle.repair.specs.declared.smooth.choose.Start.{Start}
use Rattle.repair.specs.inside.Layout.{slots_in}
use Rattle.repair.specs.Smooth.{neighbours, mean}
use Rattle.repair.specs.inside.smooth.Site.{Ready, Started}
use Rattle.repair.proofs.Laws.Site.Near.{near-is, near-most}
use Rattle.repair.proofs.Laws.Site.Work.{ready-laid}
use Rattle.repair.proofs.Laws.Layout.{area-at, complete-at}

-- the area has room for a list of all elements, and behind it for the neighbours and their scratch
near_fits : (x : Index) (w : List ℕ) → Ready x w → x.area + x.room + (16 * x.room + 16 * x.room) ≤ length w
near_fits x w r =
    let a = r.room.area in let b = r.room.lengths in let c = r.room.heads in let d = r.room.nexts in let e = r.room.slots in let f = r.long in
    omega (arith, a, b, c, d, e, f)

module _ (x : Index) (k : ℕ) (w : List ℕ) (r : Ready x w) (few : k ≤ x.room) where
  -- an area behind k words begins inside the work
  pub area-inside : x.area + k ≤ length w
  area-inside = let h = near_fits x w r in omega arith

  behind-fits : x.area + k + (16 * x.room + 16 * x.room) ≤ length w
  behind-fits = let h = near_fits x w r in omega arith

  behind-laid : Laid (area-at x (x.area + k)) (length w)
  behind-laid =
      let l = ready-laid x w r in let a = l.area in let i = area-inside in
      record { few = l.few; nexts = l.nexts; heads = l.heads; lengths = l.lengths; area = omega arith; end = i }

  behind-complete : Complete (area-at x (x.area + k)) w (4 * x.room)
  behind-complete = complete-at x (x.area + k) w (4 * x.room) r.index

module _ (o : Options) (x : Index) (P : List Float) (v k : ℕ) (w w' : List ℕ) (r : Ready x w) (h : v < x.vertices) (few : k ≤ x.room)
    (e : w' ≡ neighboured (area-at x (x.area + k)) w v) where
  ts : List Tet
  ts = slots_in x x.room w

  answered : Answered w w' (x.area + k) (neighbours_of v ts)
  unfolding ts
  answered =
      subst (λ u. Answered w u (x.area + k) (neighbours_of v (slots_in x x.room w))) (sym e)
      (neighbours-answered (area-at x (x.area + k)) w x.room (behind-laid x k w r few) (omega arith) (behind-complete x k w r few) v h (behind-fits x k w r few))

  -- how many, and those that are listed
  count-is : neighbours_of v ts ≡ neighbours x.vertices ts v
  unfolding ts
  count-is = near-is x.vertices v (slots_in x x.room w) r.proper

  long-is : length (neighbour_list (area-at x (x.area + k)) w v) ≡ length (neighbours_of v ts)
  unfolding ts
  long-is = neighbours-count (area-at x (x.area + k)) w x.room (behind-laid x k w r few) (omega arith) (behind-complete x k w r few) v h (behind-fits x k w r few)

  -- there are not more than vertices
  pub near-few : (n : ℕ) → n ≡ length (neighbour_list (area-at x (x.area + k)) w v) → n ≤ 4096
  unfolding ts
  near-few n a =
      let m : n ≡ length (neighbours_of v (slots_in x x.room w)) = a ∙ long-is in
      let f = r.room.few in
      omega (arith, m, ap length count-is, near-most x.vertices (slots_in x x.room w) v, f)

  -- and their list ends inside the work
  pub near-inside : (n : ℕ) → n ≡ length (neighbour_list (area-at x (x.area + k)) w v) → x.area + k + n ≤ length w'
  unfolding ts
  near-inside n a =
      let m : n ≡ length (neighbours_of v (slots_in x x.room w)) = a ∙ long-is in
      let l = ap (λ j. length (take j (drop (x.area + k) w'))) m ∙ ap length answered.list in
      let i = area-inside x k w r few in
      omega (arith, m, l, i, length-take n (drop (x.area + k) w'), length-drop (x.area + k) w', answered.long)

  pub started-is : (s : Start) (n : ℕ) (q : Point) → n ≡ length (neighbour_list (area-at x (x.area + k)) w v) → q ≡ point_at (points_of x.vertices P) v → s.original ≡ q → s.origin ≡ canonical q o → s.near ≡ n
      → s.mean ≡ mean (map (point_at (points_of x.vertices P)) (take n (drop (x.area + k) w'))) → Started o x P v k w w' s
  unfolding ts
  started-is s n q a b c d f g =
      let m : n ≡ length (neighbours_of v (slots_in x x.room w)) = a ∙ long-is in
      record {
        same = record { long = answered.long; before = answered.below };
        original = c ∙ b;
        origin = d ∙ ap (λ p. canonical p o) b;
        near = f ∙ m ∙ ap length count-is;
        mean = g ∙ ap (λ l. mean (map (point_at (points_of x.vertices P)) l)) (ap (λ j. take j (drop (x.area + k) w')) m ∙ answered.list ∙ count-is);
      }
