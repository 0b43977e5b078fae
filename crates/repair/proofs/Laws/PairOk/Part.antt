-- The link tests on a part of the work slice. Assumes nothing.
use mathlib.Core.Path.{◌≡◌, refl, sym, ap, ◌∙◌}
use mathlib.Core.Bool.{Bool, true, false, ◌&&◌}
use mathlib.Core.List.{List}
use Prim.Native.Nat.{ℕ, ◌+◌, ◌-◌, ◌*◌, ◌≤◌}
use native.Mathlib.Omega.{arith}
use lib.ListN.{length, drop}
use lib.Seq.{get_or-take}
use borrow.Author.Tests.{le-leb}
use borrow.Rule.Slice.PartMut.{mid_of, mid_len}
use Rattle.mesh.specs.declared.element.Tet.{Tet}
use Rattle.mesh.specs.Complex.{sub}
use Rattle.mesh.specs.Tests.{every, nodup, any}
use Rattle.mesh.specs.Element.{tets, vertices_of}
use Rattle.mesh.specs.Feature.{bits_of, link_ok, link_fits, link_ok_in}
use Rattle.mesh.specs.Manifold.{Tested}
use Rattle.mesh.proofs.Laws.Star.Calls.{tets-same}
use Rattle.repair.specs.Mesh.{has}
use Rattle.repair.specs.inside.improve.PairTest.{elements_link}

-- elements at the front of a part
pub part-tets : (k i c : ℕ) (s : List ℕ) → 4 * k ≤ c → tets k (mid_of i c s) ≡ tets k (drop i s)
part-tets k i c s h = tets-same k (drop i s) (mid_of i c s) (λ j g. get_or-take c (drop i s) j 0 (omega arith))

module _ (stratum : ℕ → ℕ) (a b i k : ℕ) (s : List ℕ) (few : k ≤ 16384) (fits : i + 88 * k ≤ length s)
    (different : every (λ t. nodup (vertices_of t)) (tets k (drop i s)) ≡ true) where
  abbrev part : List ℕ
  part = mid_of i (i + 88 * k - i) s

  abbrev both : Tet → Bool
  both t = has a t && has b t

  part-is : tets k part ≡ tets k (drop i s)
  part-is = part-tets k i (i + 88 * k - i) s (omega arith)

  -- none has both
  pub link-none : any both (tets k part) ≡ false → false ≡ elements_link stratum a b (tets k (drop i s))
  unfolding elements_link
  link-none h = sym (ap (λ (c : Bool). c && (sub (bits_of (stratum a)) (bits_of (stratum b)) && link_ok stratum a b (tets k (drop i s)))) (sym (ap (any both) part-is) ∙ h))

  part-fits : link_fits k part ≡ true
  unfolding link_fits
  part-fits =
      rw (
        le-leb k 16384 few,
        le-leb (88 * k) (length part) (omega (arith, mid_len i (i + 88 * k) s fits)),
        part-is,
      ) different

  part-answer : (link_ok_in stratum a b k part).answer ≡ (sub (bits_of (stratum a)) (bits_of (stratum b)) && link_ok stratum a b (tets k part))
  unfolding link_ok_in
  part-answer = rw part-fits refl

  -- one has both
  pub link-some : any both (tets k part) ≡ true → (r : Bool) (p : List ℕ) → ◌≡◌ {A = Tested} (record { answer = r; area = p }) (link_ok_in stratum a b k part)
      → r ≡ elements_link stratum a b (tets k (drop i s))
  unfolding elements_link
  link-some h r p e =
      ap (λ (u : Tested). u.answer) e ∙ part-answer
      ∙ ap (λ (l : List Tet). sub (bits_of (stratum a)) (bits_of (stratum b)) && link_ok stratum a b l) part-is
      ∙ sym (ap (λ (c : Bool). c && (sub (bits_of (stratum a)) (bits_of (stratum b)) && link_ok stratum a b (tets k (drop i s)))) (sym (ap (any both) part-is) ∙ h))
