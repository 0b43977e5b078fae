-- The elements about a group as the index lists them. Assumes nothing.
use mathlib.Core.Path.{◌≡◌, refl, sym, ap, ap₂, subst, ◌∙◌}
use mathlib.Core.Bool.{true}
use mathlib.Core.List.{List, [], ◌∷◌, map}
use Prim.Native.Nat.{ℕ, zero, suc, ◌+◌, ◌*◌, ◌≤◌, ◌<◌}
use native.Mathlib.Numerals.{add-one}
use native.Mathlib.Omega.{arith}
use lib.ListN.{length, take, drop, get_or}
use lib.Seq.{drop-cons}
use Rattle.mesh.specs.declared.element.Tet.{Tet}
use Rattle.mesh.specs.declared.star.Index.{Index}
use Rattle.mesh.specs.Words.{word_at}
use Rattle.mesh.specs.Complex.{mem, Nodup}
use Rattle.mesh.specs.Element.{tets}
use Rattle.mesh.specs.inside.Intake.{tet_at}
use Rattle.mesh.specs.inside.Star.{gone_tet}
use Rattle.mesh.specs.inside.About as Scan
use Rattle.mesh.specs.inside.About.{has_one, star_all, entries_of, about_list, about_in}
use Rattle.mesh.proofs.Laws.Complex.Sets.{mem-here, mem-there}
use Rattle.mesh.proofs.Laws.Link.Members.{keep_same}
use Rattle.mesh.proofs.Laws.List.Bad.{keep-few}
use Rattle.mesh.proofs.Laws.Intake.Reads.{length-tets, tets-at}
use Rattle.mesh.proofs.Laws.Star.Numbers.{pass-count, pass-elements, pass_below}
use Rattle.mesh.proofs.Laws.Star.Calls.{Answered}
use Rattle.mesh.proofs.Laws.About.Members.{entries-few}
use Rattle.mesh.proofs.Laws.About.Answer.{about-count, about-answered}
use Rattle.repair.specs.declared.smooth.site.Site.{Site}
use Rattle.repair.specs.Mesh.{has}
use Rattle.mesh.specs.Tests.{any}
use Rattle.repair.specs.Smooth.{about_group}
use Rattle.repair.specs.inside.Layout.{slots_in}
use Rattle.repair.specs.inside.smooth.Site.{members, about, Ready, Slots, Rows, Listed}
use Rattle.repair.proofs.Laws.Site.Near.{under-mem}
use Rattle.repair.proofs.Laws.Site.Work.{ready-laid}

-- ---- the same in both crates' words

same-members : (w : List ℕ) (i k : ℕ) → Scan.members k i 7 w ≡ members w i k
unfolding members Scan.members
same-members w i zero = refl
same-members w i (suc k) = ap (λ (l : List ℕ). word_at w i ∷ l) (same-members w (i + 7) k)

-- ---- the listed elements

-- the elements of listed numbers
about-map : (els w : List ℕ) (a k : ℕ) → a + k ≤ length w → about els w a k ≡ map (tet_at els) (take k (drop a w))
unfolding about
about-map els w a zero h = refl
about-map els w a (suc k) h =
    ap (λ (l : List Tet). tet_at els (word_at w a) ∷ l) (about-map els w (a + 1) k (omega arith) ∙ ap (λ (i : ℕ). map (tet_at els) (take k (drop i w))) (add-one a))
    ∙ sym (ap (λ (l : List ℕ). map (tet_at els) (take (suc k) l)) (drop-cons w a 0 (omega arith)))

map_below : (els : List ℕ) (n : ℕ) (us : List ℕ) → ((u : ℕ) → mem u us ≡ true → u < n) → map (tet_at els) us ≡ map (λ e. get_or (tets n els) e gone_tet) us
map_below els n [] h = refl
map_below els n (u ∷ us) h =
    ap₂ (λ (t : Tet) (ts : List Tet). t ∷ ts) (sym (tets-at n els u gone_tet (h u (mem-here u us)))) (map_below els n us (λ v m. h v (mem-there v u us m)))

module _ (x : Index) (w : List ℕ) (i k : ℕ) (r : Ready x w) (g : Rows x w i k) where
  abbrev ts : List Tet
  ts = slots_in x x.room w

  vs : List ℕ
  vs = Scan.members k i 7 w

  vs-is : vs ≡ members w i k
  unfolding vs
  vs-is = same-members w i k

  stand : (j : ℕ) → j < k → i + 7 * j < x.area
  stand j h =
      let a = r.room.area in let b = r.room.lengths in let c = r.room.heads in let d = r.room.nexts in let f = r.room.slots in
      let m = g.inside in
      omega arith

  below : (v : ℕ) → mem v vs ≡ true → v < x.vertices
  below v m = under-mem x.vertices v (members w i k) g.below (subst (λ l. mem v l ≡ true) vs-is m)

  fit : x.area + (entries_of x w vs + entries_of x w vs) ≤ length w
  fit =
      let a = r.room.area in let b = r.room.lengths in let c = r.room.heads in let d = r.room.nexts in let f = r.room.slots in let l = r.long in
      let e = entries-few x w (4 * x.room) r.index.chains vs (subst (λ l. Nodup l) (sym vs-is) g.once) in
      omega (arith, a, b, c, d, f, l, e)

  count : length (about_list x w i k 7) ≡ length (star_all vs ts)
  unfolding vs
  count = about-count x w x.room (ready-laid x w r) r.index i k 7 stand below fit

  answered : Answered w (about_in x w i k 7) x.area (star_all vs ts)
  unfolding vs
  answered = about-answered x w x.room (ready-laid x w r) r.index i k 7 stand below fit

  -- no more than there are elements
  star-few : length (star_all vs ts) ≤ x.room
  star-few = omega (arith, pass-count (has_one vs) ts 0, keep-few (has_one vs) ts, length-tets x.room (drop x.slots w))

  -- listed, they are those about the group
  star-about : (els : List ℕ) → Slots x els w → map (tet_at els) (star_all vs ts) ≡ about_group (tets x.room els) (members w i k)
  star-about els z =
      map_below els x.room (star_all vs ts)
      (λ u m. let h = pass_below (has_one vs) ts u gone_tet m in omega (arith, h, length-tets x.room (drop x.slots w)))
      ∙ ap (λ t. map (λ e. get_or t e gone_tet) (star_all vs ts)) z ∙ pass-elements (has_one vs) ts gone_tet
      ∙ keep_same (has_one vs) (λ t. any (λ v. has v t) (members w i k)) ts
      (λ t. ap (any (λ v. has v t)) vs-is) ∙ ap (λ t. about_group t (members w i k)) (sym z)

  pub listed-few : (n : ℕ) → n ≡ length (about_list x w i k 7) → n ≤ x.room
  listed-few n e = let m = e ∙ count in omega (arith, m, star-few)

  pub listed-is : (w' : List ℕ) (s : Site) → s.about ≡ length (about_list x w i k 7) → w' ≡ about_in x w i k 7
      → s.vertices ≡ x.vertices → s.group ≡ i → s.count ≡ k → s.area ≡ x.area → Listed x i k w w' s
  listed-is w' s e f sv sg sc sa =
      let A : Answered w w' x.area (star_all vs ts) = subst (λ u. Answered w u x.area (star_all vs ts)) (sym f) answered in
      let m : s.about ≡ length (star_all vs ts) = e ∙ count in
      let a = r.room.area in let b = r.room.lengths in let c = r.room.heads in let d = r.room.nexts in let h = r.room.slots in let l = r.long in
      let o : x.area + s.about ≤ length w' = omega (arith, a, b, c, d, h, l, m, star-few, A.long) in
      record {
        same = record { long = A.long; before = A.below };
        vertices = sv;
        group = sg;
        count = sc;
        area = sa;
        few = omega (arith, m, star-few);
        found = λ els z. about-map els w' x.area s.about o ∙ ap (λ j. map (tet_at els) (take j (drop x.area w'))) m ∙ ap (map (tet_at els)) A.list ∙ star-about els z;
      }
