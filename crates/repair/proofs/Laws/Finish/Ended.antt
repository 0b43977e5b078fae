-- The boundary of the elements in an area and its nonmanifold test: what `end_surface` answers, and what it leaves. Assumes nothing.
use mathlib.Core.Path.{◌≡◌, refl, sym, ap, ap₂, ◌∙◌}
use mathlib.Core.Logic.{inl, inr, ⊎_elim}
use mathlib.Core.Bool.{true, false, cond}
use mathlib.Core.List.{List, ◌++◌, map, append_assoc}
use Prim.Native.Nat.{ℕ, ◌+◌, ◌-◌, ◌*◌, ◌≤◌}
use native.Mathlib.Omega.{arith}
use borrow.Author.Tests.{eqb-false}
use borrow.Rule.Slice.PartMut.{mid_of, post_of, put_mid, take_put, drop_put, put_same}
use lib.Dec.{eqb, ltb}
use lib.ListN.{length, take, drop, length-append, length-drop, length-replicate, take-append-drop}
use lib.Seq.{take_at, drop_at, take-take, length-take-le}
use Rattle.mesh.specs.declared.element.Tet.{Tet}
use Rattle.mesh.specs.declared.element.Triple.{Triple}
use Rattle.mesh.specs.Surface.{Outcome}
use Rattle.mesh.specs.Surface.{Surface, Refused}
use Rattle.mesh.specs.Words.{zero_words, flat}
use Rattle.mesh.specs.Tests.{every}
use Rattle.mesh.specs.Element.{tets, corners_of, triples, all_corners, all_vertices}
use Rattle.mesh.specs.Boundary.{boundary_number, boundary_of}
use Rattle.mesh.specs.Surface.{triples_of, answer, answer_of, surface_words}
use Rattle.mesh.specs.inside.Surface.{Filled, area_after, boundary_in}
use Rattle.mesh.specs.Manifold.{nonmanifold, surface_fits, Tested, nonmanifold_in}
use Rattle.mesh.proofs.Laws.Complex.Sets.{split}
use Rattle.mesh.proofs.Laws.Boundary.Faces.{tets-kept}
use Rattle.mesh.proofs.Laws.Boundary.Whole.{words_count, triples-few, area-front, area-behind, area-long, filled_is}
use Rattle.mesh.proofs.Laws.Boundary.Called.{area-fits}
use Rattle.mesh.proofs.Laws.Manifold.Whole.{triples-flat, fits_below}
use Rattle.repair.specs.inside.improve.Renumber.{end_of, tested_outcome, tested_part, Ended}
use Rattle.repair.proofs.Laws.Finish.Surface.{boundary-every, words-flat}

-- ---- by the number of the boundary

-- the answer with no bad key, and its words
pub good-answer : (ts : List Tet) → eqb (boundary_number ts) 0 ≡ true → answer_of ts ≡ Surface (length (boundary_of ts))
unfolding answer_of answer
good-answer ts e = rw e refl

pub good-words : (ts : List Tet) → eqb (boundary_number ts) 0 ≡ true → surface_words ts ≡ flat (map corners_of (boundary_of ts))
unfolding surface_words
good-words ts e = rw e refl

good-end : (ts : List Tet) → eqb (boundary_number ts) 0 ≡ true → end_of ts ≡ cond (nonmanifold (boundary_of ts)) 22 0
unfolding end_of
good-end ts e = rw e refl

-- with a bad one
pub bad-answer : (ts : List Tet) → eqb (boundary_number ts) 0 ≡ false → answer_of ts ≡ Refused (boundary_number ts)
unfolding answer_of answer
bad-answer ts e = rw e refl

bad-end : (ts : List Tet) → eqb (boundary_number ts) 0 ≡ false → end_of ts ≡ boundary_number ts
unfolding end_of
bad-end ts e = rw e refl

-- the whole answer
tested-answer : (ts : List Tet) (c : ℕ) → cond (nonmanifold (boundary_of ts)) (Refused 22) (Surface c) ≡ answer (cond (nonmanifold (boundary_of ts)) 22 0) c
unfolding answer
tested-answer ts c = elim (split (nonmanifold (boundary_of ts))) [ inl q ↦ rw q refl | inr q ↦ rw q refl ]

pub refused-answer : (n c : ℕ) → eqb n 0 ≡ false → Refused n ≡ answer n c
unfolding answer
refused-answer n c e = rw e refl

-- no more than four triples an element
pub end-few : (k : ℕ) (s : List ℕ) → end_of (tets k s) ≡ 0 → length (boundary_of (tets k s)) ≤ 4 * k
end-few k s h =
    elim (split (eqb (boundary_number (tets k s)) 0)) [
      | inl q ↦ omega (arith, triples-few k s, ap triples_of (good-answer (tets k s) q))
      | inr q ↦ absurd (eqb-false (boundary_number (tets k s)) 0 q (sym (bad-end (tets k s) q) ∙ h))
    ]

-- ---- `boundary_in` on a part

module _ (k nv : ℕ) (s₀ : List ℕ) (few : k ≤ 16384) (room : 112 * k + nv ≤ length s₀) (below : every (λ v. ltb v nv) (all_vertices (tets k s₀)) ≡ true) (f : Outcome) (p : List ℕ)
    (found : ◌≡◌ {A = Filled} (record { answer = f; area = p }) (boundary_in k (mid_of 0 (112 * k + nv - 0) s₀))) where
  ts : List Tet
  ts = tets k s₀

  e : ℕ
  e = 112 * k + nv

  zs : List ℕ
  unfolding e ts
  zs = zero_words (e - (4 * k + length (surface_words ts)))

  part-is : mid_of 0 (112 * k + nv - 0) s₀ ≡ take (112 * k + nv) s₀
  part-is = let q : 112 * k + nv - 0 ≡ 112 * k + nv = omega arith in ap (λ (i : ℕ). take i s₀) q

  part-long : length (mid_of 0 (112 * k + nv - 0) s₀) ≡ 112 * k + nv
  part-long = ap length part-is ∙ length-take-le (112 * k + nv) s₀ room

  part-front : take (4 * k) (mid_of 0 (112 * k + nv - 0) s₀) ≡ take (4 * k) s₀
  part-front = ap (take (4 * k)) part-is ∙ take-take (4 * k) (112 * k + nv) s₀ (omega arith)

  part-tets : tets k (mid_of 0 (112 * k + nv - 0) s₀) ≡ tets k s₀
  part-tets = tets-kept k (mid_of 0 (112 * k + nv - 0) s₀) s₀ part-front

  filled : ◌≡◌ {A = Filled} (record { answer = f; area = p })
      (record { answer = answer_of (tets k (mid_of 0 (112 * k + nv - 0) s₀)); area = area_after k (mid_of 0 (112 * k + nv - 0) s₀) })
  filled =
      let part = mid_of 0 (112 * k + nv - 0) s₀ in
      found ∙ filled_is k part (area-fits k (length part) few (omega (arith, part-long)))

  found-is : f ≡ answer_of ts
  unfolding ts
  found-is = ap (λ (u : Filled). u.answer) filled ∙ ap answer_of part-tets

  -- what stands in the place of the elements, and behind them
  front : List ℕ
  front = take (4 * k) p

  area-is : p ≡ front ++ (surface_words ts ++ zs)
  unfolding ts e zs front
  area-is =
      sym (take-append-drop (4 * k) p)
      ∙ ap (λ (l : List ℕ). take (4 * k) p ++ l)
      (ap (λ (u : Filled). drop (4 * k) u.area) filled ∙ area-behind k (mid_of 0 (112 * k + nv - 0) s₀) (omega (arith, part-long)) ∙ rw (part-tets, part-long) refl)

  front_long : length front ≡ 4 * k
  unfolding front
  front_long = length-take-le (4 * k) p (omega (arith, ap (λ (u : Filled). length u.area) filled, area-long k (mid_of 0 (112 * k + nv - 0) s₀) (omega (arith, part-long)), part-long))

  -- the elements are kept with no bad key
  front_kept : eqb (boundary_number ts) 0 ≡ true → front ≡ take (4 * k) s₀
  unfolding ts front
  front_kept q =
      ap (λ (u : Filled). take (4 * k) u.area) filled
      ∙ area-front k (mid_of 0 (112 * k + nv - 0) s₀) (omega (arith, part-long)) (ap (λ (l : List Tet). eqb (boundary_number l) 0) part-tets ∙ q)
      ∙ part-front

  words_long : length (surface_words ts) ≤ 12 * k
  unfolding ts
  words_long = omega (arith, words_count ts, triples-few k s₀)

  rest-long : length (surface_words ts ++ zs) ≡ 112 * k + nv - 4 * k
  unfolding e zs
  rest-long = omega (arith, words_long, length-append (surface_words ts) zs, length-replicate {A = ℕ} (e - (4 * k + length (surface_words ts))) 0)

  -- the area then, and its part behind the elements
  given : List ℕ
  given = put_mid 0 (112 * k + nv - 0) s₀ p

  behind-is : post_of 0 (112 * k + nv - 0) s₀ ≡ drop (112 * k + nv) s₀
  behind-is = let q : 112 * k + nv - 0 ≡ 112 * k + nv = omega arith in ap (λ (i : ℕ). drop i s₀) q

  given_is : given ≡ front ++ ((surface_words ts ++ zs) ++ drop (112 * k + nv) s₀)
  unfolding given
  given_is =
      ap₂ (λ (u v : List ℕ). u ++ v) area-is behind-is
      ∙ append_assoc front (surface_words ts ++ zs) (drop (112 * k + nv) s₀)

  given-drop : drop (4 * k) given ≡ (surface_words ts ++ zs) ++ drop (112 * k + nv) s₀
  given-drop = ap (drop (4 * k)) given_is ∙ drop_at front ((surface_words ts ++ zs) ++ drop (112 * k + nv) s₀) (4 * k) front_long

  given-part : mid_of (4 * k) (112 * k + nv - 4 * k) given ≡ surface_words ts ++ zs
  given-part = ap (take (112 * k + nv - 4 * k)) given-drop ∙ take_at (surface_words ts ++ zs) (drop (112 * k + nv) s₀) (112 * k + nv - 4 * k) rest-long

  given-long : length given ≡ length s₀
  given-long =
      ap length given_is
      ∙ omega (arith, length-append front ((surface_words ts ++ zs) ++ drop (112 * k + nv) s₀), length-append (surface_words ts ++ zs) (drop (112 * k + nv) s₀), rest-long, front_long, length-drop (112 * k + nv) s₀)

  given-behind : drop (112 * k + nv) given ≡ drop (112 * k + nv) s₀
  given-behind =
      ap (drop (112 * k + nv)) (given_is ∙ sym (append_assoc front (surface_words ts ++ zs) (drop (112 * k + nv) s₀)))
      ∙ drop_at (front ++ (surface_words ts ++ zs)) (drop (112 * k + nv) s₀) (112 * k + nv)
      (omega (arith, length-append front (surface_words ts ++ zs), rest-long, front_long))

  -- ---- the test of that part

  module _ (q : eqb (boundary_number ts) 0 ≡ true) where
    c : ℕ
    c = length (boundary_of ts)

    few-triples : c ≤ 4 * k
    unfolding ts c
    few-triples = omega (arith, triples-few k s₀, ap triples_of (good-answer (tets k s₀) q))

    words_are : surface_words ts ≡ flat (map corners_of (boundary_of ts))
    words_are = good-words ts q

    words-count-is : length (surface_words ts) ≡ 3 * c
    unfolding c
    words-count-is = omega (arith, words_count ts, ap triples_of (good-answer ts q))

    triples-are : triples c (surface_words ts ++ zs) ≡ boundary_of ts
    unfolding c
    triples-are = ap (λ (l : List ℕ). triples (length (boundary_of ts)) (l ++ zs)) words_are ∙ triples-flat (boundary_of ts) zs

    fits : surface_fits c (surface_words ts ++ zs) ≡ true
    unfolding ts
    fits =
        fits_below c nv (surface_words ts ++ zs) (omega (arith, few-triples)) (omega (arith, few-triples, rest-long)) (omega (arith, few-triples, rest-long))
        (ap (λ (l : List Triple). every (λ x. ltb x nv) (all_corners l)) triples-are ∙ boundary-every (λ x. ltb x nv) ts below)

    tested-is : nonmanifold_in c (surface_words ts ++ zs)
        ≡ record { answer = nonmanifold (boundary_of ts); area = surface_words ts ++ zero_words (length (surface_words ts ++ zs) - 3 * c) }
    unfolding nonmanifold_in
    tested-is = rw (fits, triples-are, take_at (surface_words ts) zs (3 * c) words-count-is) refl

  -- ---- the end

  module _ (r : Outcome) (s : List ℕ) (hr : r ≡ tested_outcome f (mid_of (4 * k) (112 * k + nv - 4 * k) (put_mid 0 (112 * k + nv - 0) s₀ p)))
      (hs : s ≡ put_mid (4 * k) (112 * k + nv - 4 * k) (put_mid 0 (112 * k + nv - 0) s₀ p) (tested_part f (mid_of (4 * k) (112 * k + nv - 4 * k) (put_mid 0 (112 * k + nv - 0) s₀ p)))) where
    answer-is : r ≡ tested_outcome (answer_of ts) (surface_words ts ++ zs)
    unfolding given
    answer-is = hr ∙ ap₂ tested_outcome found-is given-part

    part : List ℕ
    part = tested_part (answer_of ts) (surface_words ts ++ zs)

    put_is : s ≡ put_mid (4 * k) (112 * k + nv - 4 * k) given part
    unfolding given part
    put_is = hs ∙ ap (put_mid (4 * k) (112 * k + nv - 4 * k) given) (ap₂ tested_part found-is given-part)

    front-is : take (4 * k) s ≡ front
    front-is =
        ap (take (4 * k)) put_is ∙ take_put (4 * k) (112 * k + nv - 4 * k) given part (omega (arith, given-long))
        ∙ ap (take (4 * k)) given_is ∙ take_at front ((surface_words ts ++ zs) ++ drop (112 * k + nv) s₀) (4 * k) front_long

    behind : length part ≡ 112 * k + nv - 4 * k → drop (112 * k + nv) s ≡ drop (112 * k + nv) s₀
    behind l =
        ap (drop (112 * k + nv)) put_is
        ∙ drop_put (4 * k) (112 * k + nv) given part (omega arith) (omega (arith, given-long)) l ∙ given-behind

    -- with no bad key
    module _ (q : eqb (boundary_number ts) 0 ≡ true) where
      rest : List ℕ
      rest = zero_words (length (surface_words ts ++ zs) - 3 * length (boundary_of ts))

      part-good : part ≡ surface_words ts ++ rest
      unfolding part c rest
      part-good = ap (λ (o : Outcome). tested_part o (surface_words ts ++ zs)) (good-answer ts q) ∙ ap (λ (u : Tested). u.area) (tested-is q)

      count-is : length (surface_words ts) ≡ 3 * length (boundary_of ts)
      unfolding c
      count-is = words-count-is q

      part-good-long : length part ≡ 112 * k + nv - 4 * k
      unfolding rest
      part-good-long =
          ap length part-good
          ∙ omega (arith, rest-long, count-is, length-append (surface_words ts) rest, length-append (surface_words ts) zs, length-replicate {A = ℕ} (length (surface_words ts ++ zs) - 3 * length (boundary_of ts)) 0)

      answer-good : r ≡ answer (end_of ts) (length (boundary_of ts))
      unfolding c
      answer-good =
          answer-is ∙ ap (λ (o : Outcome). tested_outcome o (surface_words ts ++ zs)) (good-answer ts q)
          ∙ ap (λ (u : Tested). cond u.answer (Refused 22) (Surface (length (boundary_of ts)))) (tested-is q)
          ∙ tested-answer ts (length (boundary_of ts))
          ∙ ap (λ (i : ℕ). answer i (length (boundary_of ts))) (sym (good-end ts q))

      surface-good : take (3 * length (boundary_of ts)) (drop (4 * k) s) ≡ all_corners (boundary_of ts)
      surface-good =
          let post = post_of (4 * k) (112 * k + nv - 4 * k) given in
          ap (λ (l : List ℕ). take (3 * length (boundary_of ts)) (drop (4 * k) l)) put_is
          ∙ ap (take (3 * length (boundary_of ts))) (drop_at (take (4 * k) given) (part ++ post) (4 * k) (length-take-le (4 * k) given (omega (arith, given-long))))
          ∙ ap (λ (l : List ℕ). take (3 * length (boundary_of ts)) (l ++ post)) part-good
          ∙ ap (take (3 * length (boundary_of ts))) (append_assoc (surface_words ts) rest post)
          ∙ take_at (surface_words ts) (rest ++ post) (3 * length (boundary_of ts)) count-is
          ∙ good-words ts q ∙ words-flat (boundary_of ts)

      good : Ended k nv s₀ s r
      unfolding ts
      good = record { answer = answer-good; front = λ z. front-is ∙ front_kept q; surface = λ z. surface-good; behind = behind part-good-long }

    -- with a bad one
    module _ (q : eqb (boundary_number ts) 0 ≡ false) where
      part-bad : part ≡ surface_words ts ++ zs
      unfolding part
      part-bad = ap (λ (o : Outcome). tested_part o (surface_words ts ++ zs)) (bad-answer ts q)

      answer-bad : r ≡ answer (end_of ts) (length (boundary_of ts))
      answer-bad =
          answer-is ∙ ap (λ (o : Outcome). tested_outcome o (surface_words ts ++ zs)) (bad-answer ts q)
          ∙ refused-answer (boundary_number ts) (length (boundary_of ts)) q
          ∙ ap (λ (i : ℕ). answer i (length (boundary_of ts))) (sym (bad-end ts q))

      bad : Ended k nv s₀ s r
      unfolding ts
      bad = record {
        answer = answer-bad;
        front = λ z. absurd (eqb-false (boundary_number ts) 0 q (sym (bad-end ts q) ∙ z));
        surface = λ z. absurd (eqb-false (boundary_number ts) 0 q (sym (bad-end ts q) ∙ z));
        behind = behind (ap length part-bad ∙ rest-long);
      }

    pub ended : Ended k nv s₀ s r
    ended = ⊎_elim good bad (split (eqb (boundary_number ts) 0))

-- ---- no test

-- s with its part between m and e tested
abbrev TestedAs : ℕ → ℕ → List ℕ → Outcome → Outcome → List ℕ → Type 0
TestedAs m e s f r t = (r ≡ tested_outcome f (mid_of m (e - m) s)) × (t ≡ put_mid m (e - m) s (tested_part f (mid_of m (e - m) s)))

-- a refusal is not tested
pub none-tested : (m e : ℕ) (s : List ℕ) {f : Outcome} {n : ℕ} → f ≡ Refused n → TestedAs m e s f (Refused n) s
none-tested m e s hf = rw hf (refl, sym (put_same m (e - m) s))
