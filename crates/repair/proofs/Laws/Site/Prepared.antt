-- The work as `smooth` lays it out: the sorted groups at the front, the elements copied to the slots, and their index. Assumes nothing.
use mathlib.Core.Path.{◌≡◌, sym, ap, ap₂, subst, ◌∙◌}
use mathlib.Core.Bool.{Bool, true, cond}
use mathlib.Core.List.{List, ◌++◌, append_assoc}
use Prim.Native.Nat.{ℕ, ◌+◌, ◌*◌, ◌≤◌, ◌<◌}
use native.Mathlib.Omega.{arith}
use borrow.Author.Tests.{le-leb}
use lib.Dec.{leb}
use lib.Ieee.{Float}
use lib.ListN.{length, take, drop, get_or-append}
use lib.Seq.{paste, length-paste, length-take-le, take_at, drop_at, get_or-take, get_or-drop}
use Rattle.geometry.specs.declared.bounds.Options.{Options}
use Rattle.mesh.specs.declared.star.Index.{Index}
use Rattle.mesh.specs.Words.{word_at, points_of, inside, copied}
use Rattle.mesh.specs.Sort.{sort}
use Rattle.mesh.specs.inside.Rows.{rows, le_row}
use Rattle.mesh.specs.Tests.{every}
use Rattle.mesh.specs.Element.{tets}
use Rattle.mesh.specs.inside.Group.{group_rows, group_fits, grouped_area}
use Rattle.mesh.specs.Intake.{well_numbered}
use Rattle.mesh.specs.inside.Star.{Laid, Complete, built}
use Rattle.mesh.proofs.Laws.Bools.{and_intro}
use Rattle.mesh.proofs.Laws.Rows.{rows_same}
use Rattle.mesh.proofs.Laws.Boundary.Faces.{tets-kept}
use Rattle.mesh.proofs.Laws.Intake.Reads.{length-points}
use Rattle.mesh.proofs.Laws.Group.Area.{grouped-rows}
use Rattle.mesh.proofs.Laws.Star.Hanging.{length-built, built-outside, built-complete}
use Rattle.mesh.proofs.Laws.Star.Calls.{tets-same}
use Rattle.repair.specs.inside.Layout.{Room}
use Rattle.repair.specs.inside.smooth.Site.{used_words, Ready, Slots, Grouped}
use Rattle.repair.proofs.Laws.Site.Work.{used-laid}

module _ (o : Options) (x : Index) (P : List Float) (els w₀ w₁ w₂ w₃ : List ℕ) (R : Room x x.room (256 * x.room + 32 * x.vertices + 1024))
    (fits : used_words x.vertices x.room ≤ length w₀) (long : 4 * x.room ≤ length els)
    (long₁ : length w₁ ≡ length w₀) (e₁ : w₁ ≡ grouped_area o (points_of x.vertices P) w₀)
    (e₂ : w₂ ≡ copied els 0 w₁ x.slots (4 * x.room)) (e₃ : w₃ ≡ built x x.room w₂) where
  -- the groups
  groups-first : rows 7 x.vertices w₁ ≡ sort le_row (group_rows o (points_of x.vertices P))
  unfolding group_fits
  groups-first =
      let l = length-points x.vertices P in
      let a = R.few in
      ap (rows 7 x.vertices) e₁
      ∙ ap (λ (k : ℕ). rows 7 k (grouped_area o (points_of x.vertices P) w₀)) (sym l)
      ∙ grouped-rows o (points_of x.vertices P) w₀
      (and_intro (leb (length (points_of x.vertices P)) 65536) (leb (14 * length (points_of x.vertices P)) (length w₀))
      (le-leb (length (points_of x.vertices P)) 65536 (omega (arith, l, a))) (le-leb (14 * length (points_of x.vertices P)) (length w₀) (omega (arith, l, fits))))

  -- the elements behind them
  slots_end : x.slots + 4 * x.room ≤ length w₁
  slots_end = let a = R.slots in omega (arith, a, fits, long₁)

  copied_is : w₂ ≡ paste w₁ x.slots els (4 * x.room)
  unfolding copied inside
  copied_is =
      e₂ ∙ ap (λ (t : Bool). cond t (paste w₁ x.slots els (4 * x.room)) w₁)
      (and_intro (leb (0 + 4 * x.room) (length els)) (leb (x.slots + 4 * x.room) (length w₁))
      (le-leb (0 + 4 * x.room) (length els) (omega (arith, long))) (le-leb (x.slots + 4 * x.room) (length w₁) slots_end))

  -- in three parts
  parts : w₂ ≡ take x.slots w₁ ++ (take (4 * x.room) els ++ drop (x.slots + 4 * x.room) w₁)
  parts = copied_is ∙ append_assoc (take x.slots w₁) (take (4 * x.room) els) (drop (x.slots + 4 * x.room) w₁)

  long₂ : length w₂ ≡ length w₀
  long₂ = ap length copied_is ∙ length-paste w₁ x.slots els (4 * x.room) slots_end long ∙ long₁

  front₂ : (j : ℕ) → j < x.slots → word_at w₂ j ≡ word_at w₁ j
  front₂ j h =
      let s = slots_end in
      let l = length-take-le x.slots w₁ (omega (arith, s)) in
      ap (λ (l : List ℕ). word_at l j) parts
      ∙ get_or-append (take x.slots w₁) (take (4 * x.room) els ++ drop (x.slots + 4 * x.room) w₁) 0 j (omega (arith, l))
      ∙ get_or-take x.slots w₁ j 0 h

  slots₂ : tets x.room (drop x.slots w₂) ≡ tets x.room els
  slots₂ =
      let s = slots_end in
      tets-kept x.room (drop x.slots w₂) els
      (ap (λ (l : List ℕ). take (4 * x.room) (drop x.slots l)) parts
      ∙ ap (take (4 * x.room)) (drop_at (take x.slots w₁) (take (4 * x.room) els ++ drop (x.slots + 4 * x.room) w₁) x.slots (length-take-le x.slots w₁ (omega (arith, s))))
      ∙ take_at (take (4 * x.room) els) (drop (x.slots + 4 * x.room) w₁) (4 * x.room) (length-take-le (4 * x.room) els long))

  -- the index
  laid₂ : Laid x (length w₂)
  laid₂ = subst (Laid x) (sym long₂) (used-laid x (256 * x.room + 32 * x.vertices + 1024) (length w₀) R fits)

  pub long₃ : length w₃ ≡ length w₀
  long₃ = ap length e₃ ∙ length-built x x.room w₂ laid₂ (omega arith) ∙ long₂

  front₃ : (j : ℕ) → j < x.nexts → word_at w₃ j ≡ word_at w₂ j
  front₃ j h = ap (λ (l : List ℕ). word_at l j) e₃ ∙ built-outside x x.room w₂ laid₂ (omega arith) j (λ g. absurd (omega (arith, h, g)))

  pub slots-ready : Slots x els w₃
  slots-ready =
      sym (tets-same x.room (drop x.slots w₂) (drop x.slots w₃)
      (λ j g. let a = R.nexts in get_or-drop x.slots w₃ j 0 ∙ front₃ (x.slots + j) (omega (arith, a, g)) ∙ sym (get_or-drop x.slots w₂ j 0)) ∙ slots₂)

  pub groups-ready : Grouped o x P w₃
  groups-ready =
      let a = R.slots in let b = R.nexts in
      rows_same 7 x.vertices w₃ w₁ 0 (long₃ ∙ sym long₁)
      (λ j g h. front₃ j (omega (arith, a, b, h)) ∙ front₂ j (omega (arith, a, h))) ∙ groups-first

  pub work-ready : every (well_numbered x.vertices) (tets x.room els) ≡ true → Ready x w₃
  work-ready h = record {
    room = R;
    long = omega (arith, fits, long₃);
    index = subst (λ l. Complete x l (4 * x.room)) (sym e₃) (built-complete x x.room w₂ laid₂ (omega arith));
    proper = ap (every (well_numbered x.vertices)) (sym slots-ready) ∙ h;
  }

-- all of it, with the numbers as the code has them
pub prepared-is : (o : Options) (x : Index) (P : List Float) (els w₀ w₁ w₂ w₃ : List ℕ) (nv n : ℕ) → x.vertices ≡ nv → ((m : ℕ) → 256 * n + 32 * nv + 1024 ≤ m → Room x n m)
    → used_words nv n ≤ length w₀ → 4 * n ≤ length els → every (well_numbered nv) (tets n els) ≡ true → length w₁ ≡ length w₀
    → w₁ ≡ grouped_area o (points_of nv P) w₀ → w₂ ≡ copied els 0 w₁ x.slots (4 * n) → w₃ ≡ built x n w₂
    → ((x.vertices ≡ nv) × (x.room ≡ n) × Ready x w₃) × (Slots x els w₃ × Grouped o x P w₃)
prepared-is o x P els w₀ w₁ w₂ w₃ nv n ev room long few proper long₁ e₁ e₂ e₃ =
    let en = (room (256 * n + 32 * nv + 1024) (omega arith)).room in
    let s : 256 * n + 32 * nv + 1024 ≤ 256 * x.room + 32 * x.vertices + 1024 = omega (arith, ev, en) in
    let R : Room x x.room (256 * x.room + 32 * x.vertices + 1024) =
    subst (λ k. Room x k (256 * x.room + 32 * x.vertices + 1024)) (sym en) (room (256 * x.room + 32 * x.vertices + 1024) s) in
    let t : used_words x.vertices x.room ≤ length w₀ = omega (arith, long, ev, en) in
    let f₁ : w₁ ≡ grouped_area o (points_of x.vertices P) w₀ = e₁ ∙ ap (λ k. grouped_area o (points_of k P) w₀) (sym ev) in
    let f₂ : w₂ ≡ copied els 0 w₁ x.slots (4 * x.room) = e₂ ∙ ap (λ k. copied els 0 w₁ x.slots (4 * k)) (sym en) in
    let f₃ : w₃ ≡ built x x.room w₂ = e₃ ∙ ap (λ k. built x k w₂) (sym en) in
    let l : 4 * x.room ≤ length els = omega (arith, few, en) in
    let p : every (well_numbered x.vertices) (tets x.room els) ≡ true = ap₂ (λ k m. every (well_numbered k) (tets m els)) ev en ∙ proper in (
      (ev, en, work-ready o x P els w₀ w₁ w₂ w₃ R t l long₁ f₁ f₂ f₃ p),
      (slots-ready o x P els w₀ w₁ w₂ w₃ R t l long₁ f₁ f₂ f₃, groups-ready o x P els w₀ w₁ w₂ w₃ R t l long₁ f₁ f₂ f₃),
    )
