-- Triples in the area: their keys written one after the other, put in order, and compared. Assumes nothing.
use mathlib.Core.Path.{◌≡◌, refl, sym, ap, ap₂, subst, ◌∙◌}
use mathlib.Core.Bool.{Bool, true, false, ◌&&◌}
use mathlib.Core.List.{List, [], ◌∷◌, ◌++◌, map, append_assoc}
use Prim.Native.Nat.{ℕ, zero, suc, ◌+◌, ◌-◌, ◌*◌, ◌≤◌, ◌<◌}
use native.Mathlib.Nat.{add-zero, not-suc-le-zero}
use native.Mathlib.Omega.{arith}
use borrow.Author.Tests.{le-leb}
use borrow.Rule.Slice.PartMut.{mid_of, put_mid, mid_len}
use lib.Dec.{eqb, leb}
use lib.ListN.{length, take, drop, replicate, length-drop}
use lib.Seq.{length-take-le, get_or-take, get_or-drop, drop-drop, drop_at}
use Rattle.std.specs.Cmp.Lexicographic.{pointwise}
use Rattle.mesh.specs.declared.element.Triple.{Triple}
use Rattle.mesh.specs.Words.{flat}
use Rattle.mesh.specs.Sort.{sort}
use Rattle.mesh.specs.inside.Rows.{rows, le_row, fit_rows, sorted_area}
use Rattle.mesh.specs.Element.{key_of, corners_of, triples}
use Rattle.mesh.specs.Boundary.{le_triple}
use Rattle.mesh.proofs.Laws.Areas.{length-sorted}
use Rattle.mesh.proofs.Laws.Boundary.Order.{sort-corners}
use Rattle.mesh.proofs.Laws.Sort.{length-sort}
use Rattle.mesh.proofs.Laws.Manifold.Whole.{triples-flat, triples-take}
use Rattle.repair.specs.Flip.{same_triples}
use Rattle.repair.specs.inside.Layout.{Same}
use Rattle.repair.specs.inside.flip.Layout.{triple_at}
use Rattle.repair.proofs.Laws.Same.{same-put}

-- ---- triples read

-- the first of the c triples at p
pub triples-next : (c p : ℕ) (w : List ℕ) → 0 < c → triples c (drop p w) ≡ triple_at w p ∷ triples (c - 1) (drop (p + 3) w)
unfolding triples
triples-next zero p w h = absurd (not-suc-le-zero h)
triples-next (suc c) p w h =
    let e : suc c - 1 ≡ c = omega arith in
    rw (e, get_or-drop p w 0 0, add-zero p, get_or-drop p w 1 0, get_or-drop p w 2 0, drop-drop 3 p w) refl

pub triples_none : (c p : ℕ) (w : List ℕ) → c ≤ 0 → triples c (drop p w) ≡ []
unfolding triples
triples_none zero p w h = refl
triples_none (suc c) p w h = absurd (not-suc-le-zero h)

-- triples that f gives of others, one by one
pub triples-map : (f : Triple → Triple) (c p q : ℕ) (w v : List ℕ) → ((j : ℕ) → j < c → triple_at w (p + 3 * j) ≡ f (triple_at v (q + 3 * j))) → triples c (drop p w) ≡ map f (triples c (drop q v))
triples-map f zero p q w v h = triples_none 0 p w (omega arith) ∙ ap (map f) (sym (triples_none 0 q v (omega arith)))
triples-map f (suc c) p q w v h =
    let e : suc c - 1 ≡ c = omega arith in
    let a : p + 3 * 0 ≡ p = omega arith in
    let b : q + 3 * 0 ≡ q = omega arith in
    let here : triple_at w p ≡ f (triple_at v q) = ap (triple_at w) (sym a) ∙ h 0 (omega arith) ∙ ap (λ (k : ℕ). f (triple_at v k)) b in
    let rest : triples c (drop (p + 3) w) ≡ map f (triples c (drop (q + 3) v)) = triples-map f c (p + 3) (q + 3) w v (λ j g.
    let k : p + 3 + 3 * j ≡ p + 3 * suc j = omega arith in
    let l : q + 3 + 3 * j ≡ q + 3 * suc j = omega arith in
    ap (triple_at w) k ∙ h (suc j) (omega arith) ∙ ap (λ (i : ℕ). f (triple_at v i)) (sym l)) in
    triples-next (suc c) p w (omega arith)
    ∙ ap (λ (k : ℕ). triple_at w p ∷ triples k (drop (p + 3) w)) e
    ∙ ap₂ (λ (g : Triple) (l : List Triple). g ∷ l) here rest
    ∙ sym (ap (map f) (triples-next (suc c) q v (omega arith) ∙ ap (λ (k : ℕ). triple_at v q ∷ triples k (drop (q + 3) v)) e))

-- ---- the keys, one after the other

-- the keys of j of the c triples from i on stand from d on, and the rest is as it was
pub record Keying (i d c : ℕ) (w₀ w : List ℕ) (j : ℕ) : Type 0 where
  pub done : j ≤ c
  pub same : Same w₀ w d (d + 3 * c)
  pub keys : (q : ℕ) → q < j → triple_at w (d + 3 * q) ≡ key_of (triple_at w₀ (i + 3 * q))

pub keying-end : {i d c : ℕ} {w₀ w : List ℕ} {j : ℕ} → Keying i d c w₀ w j → c ≤ j → (triples c (drop d w) ≡ map key_of (triples c (drop i w₀))) × Same w₀ w d (d + 3 * c)
keying-end {i} {d} {c} {w₀} {w} k h = (triples-map key_of c d i w w₀ (λ q g. k.keys q (omega arith)), k.same)

-- ---- compared

-- triples are the same where their words are
words-same : (c : ℕ) (s t : List ℕ) → 3 * c ≤ length s → 3 * c ≤ length t → pointwise eqb (take (3 * c) s) (take (3 * c) t) ≡ same_triples (triples c s) (triples c t)
unfolding same_triples triples
words-same zero s t h g = refl
words-same (suc c) [] t h g = absurd (omega arith)
words-same (suc c) (a ∷ []) t h g = absurd (omega arith)
words-same (suc c) (a ∷ b ∷ []) t h g = absurd (omega arith)
words-same (suc c) (a ∷ b ∷ d ∷ s) [] h g = absurd (omega arith)
words-same (suc c) (a ∷ b ∷ d ∷ s) (x ∷ []) h g = absurd (omega arith)
words-same (suc c) (a ∷ b ∷ d ∷ s) (x ∷ y ∷ []) h g = absurd (omega arith)
words-same (suc c) (a ∷ b ∷ d ∷ s) (x ∷ y ∷ z ∷ t) h g =
    let e : 3 * suc c ≡ suc (suc (suc (3 * c))) = omega arith in
    rw (e, words-same c s t (omega arith) (omega arith)) (regroup (eqb a x) (eqb b y) (eqb d z) (same_triples (triples c s) (triples c t)))
  where
    regroup : (p q r u : Bool) → (p && (q && (r && u))) ≡ ((p && (q && r)) && u)
    regroup true true r u = refl
    regroup true false r u = refl
    regroup false q r u = refl

-- so are those in two ranges of the area
pub ranges-same : (w : List ℕ) (p q c : ℕ) → p + 3 * c ≤ length w → q + 3 * c ≤ length w
    → pointwise eqb (take (p + 3 * c - p) (drop p w)) (take (q + 3 * c - q) (drop q w)) ≡ same_triples (triples c (drop p w)) (triples c (drop q w))
ranges-same w p q c h g =
    let a : p + 3 * c - p ≡ 3 * c = omega arith in
    let b : q + 3 * c - q ≡ 3 * c = omega arith in
    rw (a, b) (words-same c (drop p w) (drop q w) (omega (arith, length-drop p w)) (omega (arith, length-drop q w)))

-- ---- put in order

pub length-triples : (c : ℕ) (s : List ℕ) → length (triples c s) ≡ c
unfolding triples
length-triples zero s = refl
length-triples (suc c) s = ap suc (length-triples c (drop 3 s))

-- rows of three words are corners of triples
pub rows-corners : (c : ℕ) (s : List ℕ) → 3 * c ≤ length s → rows 3 c s ≡ map corners_of (triples c s)
unfolding rows triples
rows-corners zero s h = refl
rows-corners (suc c) [] h = absurd (omega arith)
rows-corners (suc c) (a ∷ []) h = absurd (omega arith)
rows-corners (suc c) (a ∷ b ∷ []) h = absurd (omega arith)
rows-corners (suc c) (a ∷ b ∷ d ∷ s) h = ap (λ l. (a ∷ b ∷ d ∷ []) ∷ l) (rows-corners c s (omega arith))

module _ (p c : ℕ) (w : List ℕ) (h : p + 6 * c ≤ length w) where
  abbrev part : List ℕ
  part = mid_of p (p + 6 * c - p) w

  part-long : length part ≡ 6 * c
  part-long = mid_len p (p + 6 * c) w h ∙ (let e : p + 6 * c - p ≡ 6 * c = omega arith in e)

  part-triples : triples c part ≡ triples c (drop p w)
  part-triples = triples-take c part (drop p w) (λ j g. get_or-take (p + 6 * c - p) (drop p w) j 0 (omega arith))

  -- the part in order
  sorted_part : triples c (sorted_area c 3 part ++ drop (p + 6 * c - p) (drop p w)) ≡ sort le_triple (triples c (drop p w))
  unfolding sorted_area fit_rows
  sorted_part =
      let l = part-long in
      let fit : leb ((c + c) * 3) (length part) ≡ true = le-leb ((c + c) * 3) (length part) (omega arith) in
      let e : sort le_row (rows 3 c part) ≡ map corners_of (sort le_triple (triples c part)) = ap (sort le_row) (rows-corners c part (omega arith)) ∙ sort-corners (triples c part) in
      let n : c ≡ length (sort le_triple (triples c part)) = sym (length-sort le_triple (triples c part) ∙ length-triples c part) in
      rw fit
      (ap (λ (u : List (List ℕ)). triples c ((flat u ++ (replicate (c * 3) 0 ++ drop (c * 3 + c * 3) part)) ++ drop (p + 6 * c - p) (drop p w))) e
      ∙ ap (triples c) (append_assoc (flat (map corners_of (sort le_triple (triples c part)))) (replicate (c * 3) 0 ++ drop (c * 3 + c * 3) part) (drop (p + 6 * c - p) (drop p w)))
      ∙ ap (λ (k : ℕ). triples k (flat (map corners_of (sort le_triple (triples c part))) ++ ((replicate (c * 3) 0 ++ drop (c * 3 + c * 3) part) ++ drop (p + 6 * c - p) (drop p w)))) n
      ∙ triples-flat (sort le_triple (triples c part)) ((replicate (c * 3) 0 ++ drop (c * 3 + c * 3) part) ++ drop (p + 6 * c - p) (drop p w))
      ∙ ap (sort le_triple) part-triples)

  pub sorted-triples : (w' : List ℕ) → w' ≡ put_mid p (p + 6 * c - p) w (sorted_area c 3 part) → (triples c (drop p w') ≡ sort le_triple (triples c (drop p w))) × Same w w' p (p + 6 * c)
  sorted-triples w' e = (
    ap (λ (u : List ℕ). triples c (drop p u)) e ∙ ap (triples c) (drop_at (take p w) (sorted_area c 3 part ++ drop (p + 6 * c - p) (drop p w)) p (length-take-le p w (omega arith))) ∙ sorted_part,
    subst (λ (u : List ℕ). Same w u p (p + 6 * c)) (sym e) (same-put p (p + 6 * c) w (sorted_area c 3 part) (omega arith) h (length-sorted c 3 part)),
  )
