-- One accepted replacement: every new determinant is above 0 and every new score at least the floor, and where the new list of elements is
-- a flip of the old one but for the order, it is as good as that. Assumes nothing.
use mathlib.Core.Path.{◌≡◌, refl, sym, ap, subst, ◌∙◌}
use mathlib.Core.Logic.{inl, inr}
use mathlib.Core.Bool.{Bool, true, false, not, cond, ◌||◌}
use mathlib.Core.List.Memᴰ
use mathlib.Core.List.{List, [], ◌∷◌, ◌++◌, map, Memᴰ}
use mathlib.Core.Option.{Option, some}
use Prim.Native.Nat.{ℕ, ◌+◌, ◌≤◌}
use native.Mathlib.Nat.{le_trans}
use native.Mathlib.Omega.{arith}
use lib.Dec.{eqb}
use lib.Ieee.{lt}
use lib.ListN.{length, length-append}
use Rattle.geometry.specs.Float.{◌+₆₄◌, one64}
use Rattle.geometry.specs.Literals.{e_10}
use Rattle.geometry.specs.Units.{units_of}
use Rattle.mesh.specs.declared.element.Tet.{Tet}
use Rattle.mesh.specs.Complex.{mem, sub, within, keep, Nodup, Sub}
use Rattle.mesh.specs.inside.Complex.{IsElement, Proper, SameCount, SameComplex}
use Rattle.mesh.specs.inside.Moves.{flip23, flip32, Flippable23, Flippable32}
use Rattle.mesh.specs.Tests.{every}
use Rattle.mesh.specs.Element.{tet, vertices_of, has_all}
use Rattle.mesh.specs.Measure.{Measure, lowest_of}
use Rattle.mesh.proofs.Laws.Bools.{or_swap}
use Rattle.mesh.proofs.Laws.Complex.Sets.{and-fst, and-snd, out, out-head, within-intro}
use Rattle.mesh.proofs.Laws.Complex.Same.{same-proper, same_count}
use Rattle.mesh.proofs.Laws.Complex.Tets.{tet-of}
use Rattle.mesh.proofs.Laws.Link.Members.{kept-elim, every-elim}
use Rattle.mesh.proofs.Laws.Boundary.Same.{keep-map}
use Rattle.mesh.proofs.Laws.Link.Closed.{AtMostTwo}
use Rattle.repair.specs.Wholeness.{Exact}
use Rattle.repair.specs.Flip.{State, live, numbers_with, elements_at, emptied, oriented, accepted, replace}
use Rattle.repair.proofs.Laws.Smooth.Scores.{above-exact, lowest-exact, lowest-under, lowest-over}
use Rattle.repair.proofs.Laws.Flip.Slots.{elements-with, live-replaced}
use Rattle.repair.proofs.Laws.Flip.Triangles.{Alike}

-- ---- elements with two vertices exchanged

-- x has the vertices of p, and is an element where p is one
pub record Turned (p x : List ℕ) : Type 0 where
  pub alike : Alike x p
  pub element : (n : ℕ) → IsElement n p → IsElement n x

exchange-alike : (a b c d : ℕ) → Alike (a ∷ b ∷ d ∷ c ∷ []) (a ∷ b ∷ c ∷ d ∷ [])
exchange-alike a b c d x = ap (λ t. eqb x a || (eqb x b || t)) (or_swap (eqb x d) (eqb x c) false)

exchange-nodup : (a b c d : ℕ) → Nodup (a ∷ b ∷ c ∷ d ∷ []) → Nodup (a ∷ b ∷ d ∷ c ∷ [])
exchange-nodup a b c d h = (
  ap (λ t. eqb a b || t) (or_swap (eqb a d) (eqb a c) false) ∙ h.0,
  (or_swap (eqb b d) (eqb b c) false ∙ h.1.0, (out d c [] (λ e. out-head c d [] h.1.1.0 (sym e)) refl, (refl, tt))),
)

-- an element as it is oriented
pub turned : (μ : Measure) (t : Tet) → Turned (vertices_of t) (vertices_of (oriented μ t))
turned μ t = go (μ.below t)
  where
    go : (b : Bool) → Turned (vertices_of t) (vertices_of (cond b (tet t.a t.b t.d t.c) t))
    go true = record {
      alike = exchange-alike t.a t.b t.c t.d;
      element = λ n e. record {
        four = refl;
        distinct = exchange-nodup t.a t.b t.c t.d e.distinct;
        below = λ x m. e.below x (sym (exchange-alike t.a t.b t.c t.d x) ∙ m);
      };
    }
    go false = record { alike = λ x. refl; element = λ n e. e }

-- lists of such, one by one
pub data Pairs : List (List ℕ) → List (List ℕ) → Type 0 where
  nothing : Pairs [] []
  more : {p x : List ℕ} {ps xs : List (List ℕ)} → Turned p x → Pairs ps xs → Pairs (p ∷ ps) (x ∷ xs)

pub all-turned : (μ : Measure) (ts : List Tet) → Pairs (map vertices_of ts) (map vertices_of (map (oriented μ) ts))
all-turned μ [] = nothing
all-turned μ (t ∷ ts) = more (turned μ t) (all-turned μ ts)

pairs-length : {ps xs : List (List ℕ)} → Pairs ps xs → length xs ≡ length ps
pairs-length nothing = refl
pairs-length (more t r) = let h = pairs-length r in omega arith

pairs-there : {ps xs : List (List ℕ)} → Pairs ps xs → {p : List ℕ} → Memᴰ p ps → (x : List ℕ) × Memᴰ x xs × Sub p x
pairs-there nothing m = absurd (Memᴰ.not-nil m)
pairs-there (more {p = q} {x = y} t r) {p} m = elim (Memᴰ.cases_cons m) [
  | inl e ↦ (y, Memᴰ.head refl, λ z k. t.alike z ∙ subst (λ l. mem z l ≡ true) e k)
  | inr k ↦ let f = pairs-there r k in (f.0, Memᴰ.tail f.1, f.2)
]

pairs-back : {ps xs : List (List ℕ)} → Pairs ps xs → {x : List ℕ} → Memᴰ x xs → (p : List ℕ) × Memᴰ p ps × Sub x p × ((n : ℕ) → IsElement n p → IsElement n x)
pairs-back nothing m = absurd (Memᴰ.not-nil m)
pairs-back (more {p = q} {x = y} t r) {x} m = elim (Memᴰ.cases_cons m) [
  | inl e ↦ (q, Memᴰ.head refl, (λ z k. sym (t.alike z) ∙ subst (λ l. mem z l ≡ true) e k), λ n i. subst (IsElement n) (sym e) (t.element n i))
  | inr k ↦ let f = pairs-back r k in (f.0, Memᴰ.tail f.1, f.2, f.3)
]

-- the order of the elements, and of the vertices in them, does not matter
pub rearranged : (n : ℕ) (ps xs R : List (List ℕ)) → Pairs ps xs → Proper n (ps ++ R) → Proper n (R ++ xs) × SameCount n (ps ++ R) n (R ++ xs) × SameComplex (ps ++ R) (R ++ xs)
rearranged n ps xs R h P =
    let c : SameComplex (ps ++ R) (R ++ xs) = (there, back) in
    let Q : Proper n (R ++ xs) = same-proper n (ps ++ R) (R ++ xs) P elements (omega (arith, length-append ps R, length-append R xs, pairs-length h)) c in
    (Q, same_count n (ps ++ R) (R ++ xs) P Q c, c)
  where
    there : (e : List ℕ) → Memᴰ e (ps ++ R) → within e (R ++ xs) ≡ true
    there e m = elim (Memᴰ.append_cases ps m) [
      | inl k ↦ let f = pairs-there h k in within-intro e (Memᴰ.append_right R f.1) f.2
      | inr k ↦ within-intro e (Memᴰ.append_left xs k) (λ z i. i)
    ]

    back : (e : List ℕ) → Memᴰ e (R ++ xs) → within e (ps ++ R) ≡ true
    back e m = elim (Memᴰ.append_cases R m) [
      | inl k ↦ within-intro e (Memᴰ.append_right ps k) (λ z i. i)
      | inr k ↦ let f = pairs-back h k in within-intro e (Memᴰ.append_left R f.1) f.2
    ]

    elements : (e : List ℕ) → Memᴰ e (R ++ xs) → IsElement n e
    elements e m = elim (Memᴰ.append_cases R m) [
      | inl k ↦ tet-of {n = n} P (Memᴰ.append_right ps k)
      | inr k ↦ let f = pairs-back h k in f.3 n (tet-of {n = n} P (Memᴰ.append_left R f.1))
    ]

-- ---- what a passed test says

module _ (μ : Measure) (exact : (t : Tet) → Exact (μ.score t)) (old new : List Tet) (h : accepted μ old new ≡ true) where
  -- each new determinant is above 0
  pub accepted-upright : (t : Tet) → Memᴰ t new → μ.above t ≡ true
  accepted-upright t m = every-elim μ.above new (and-fst (every μ.above new) _ h) m

  -- the lowest score does not fall
  pub accepted-lowest : units_of (lowest_of μ old) ≤ units_of (lowest_of μ new)
  accepted-lowest =
      above-exact (lowest_of μ new) (lowest_of μ old) (lowest-exact μ.score exact new) (lowest-exact μ.score exact old)
      (and-fst (lt (lowest_of μ old +₆₄ e_10) (lowest_of μ new)) _ (and-snd (every μ.above new) _ h))

  -- each new score is at least what 1 and the old scores are at least
  pub accepted-floor : (F : ℕ) → F ≤ units_of one64 → ((t : Tet) → Memᴰ t old → F ≤ units_of (μ.score t)) → (t : Tet) → Memᴰ t new → F ≤ units_of (μ.score t)
  accepted-floor F one k t m = le_trans (le_trans (lowest-over μ.score exact F one old k) accepted-lowest) (lowest-under μ.score exact new m)

-- ---- flips, counted

-- one flip of the elements es, but for the order of the elements and of the vertices in them
pub data OneFlip (es fs : List (List ℕ)) : Type 0 where
  two-to-three : (a b u v w : ℕ) → Flippable23 a b u v w es → SameComplex (flip23 a b u v w es) fs → OneFlip es fs
  three-to-two : (a b u v w : ℕ) → Flippable32 a b u v w es → SameComplex (flip32 a b u v w es) fs → OneFlip es fs

-- n flips, one after the other
pub data Chain (es : List (List ℕ)) : ℕ → List (List ℕ) → Type 0 where
  start : {n : ℕ} {fs : List (List ℕ)} → n ≡ 0 → fs ≡ es → Chain es n fs
  then : {k n : ℕ} {fs gs : List (List ℕ)} → Chain es k fs → OneFlip fs gs → n ≡ k + 1 → Chain es n gs

-- ---- the state

-- the elements of the slots, as sets of vertices
abbrev pub elements_of : List (Option Tet) → List (List ℕ)
elements_of ss = map vertices_of (live ss)

-- what holds all along: proper elements, the alternating count of the start, at most two elements a triangle, every determinant above 0,
-- every score at least F units, and as many flips made as counted
pub record Held (μ : Measure) (n F : ℕ) (es₀ : List (List ℕ)) (s : State) : Type 0 where
  pub proper : Proper n (elements_of s.slots)
  pub count : SameCount n es₀ n (elements_of s.slots)
  pub thin : AtMostTwo (elements_of s.slots)
  pub upright : (t : Tet) → Memᴰ t (live s.slots) → μ.above t ≡ true
  pub floor : (t : Tet) → Memᴰ t (live s.slots) → F ≤ units_of (μ.score t)
  pub made : Chain es₀ s.flips (elements_of s.slots)

-- what is asked of a new list fs of elements: proper, the alternating count of es, at most two elements a triangle, and one flip from es
pub record AsGood (n : ℕ) (es fs : List (List ℕ)) : Type 0 where
  pub proper : Proper n fs
  pub count : SameCount n es n fs
  pub thin : AtMostTwo fs
  pub flip : OneFlip es fs

map-join : (ts us : List Tet) → map vertices_of (ts ++ us) ≡ map vertices_of ts ++ map vertices_of us
map-join [] us = refl
map-join (t ∷ ts) us = ap (λ l. vertices_of t ∷ l) (map-join ts us)

-- the elements after a replacement
pub elements-replaced : (σ : List ℕ) (ss : List (Option Tet)) (new : List Tet)
    → elements_of (emptied (numbers_with σ ss) ss ++ map some new) ≡ keep (λ e. not (sub σ e)) (elements_of ss) ++ map vertices_of new
elements-replaced σ ss new =
    ap (map vertices_of) (live-replaced σ ss new) ∙ map-join (keep (λ t. not (has_all σ t)) (live ss)) new
    ∙ ap (λ l. l ++ map vertices_of new) (sym (keep-map vertices_of (λ e. not (sub σ e)) (live ss)))

module _ (μ : Measure) (exact : (t : Tet) → Exact (μ.score t)) (n F : ℕ) (one : F ≤ units_of one64) (es₀ : List (List ℕ)) where
  pub replace-held : (s : State) (σ : List ℕ) (cs : List Tet) → Held μ n F es₀ s
      → AsGood n (elements_of s.slots) (keep (λ e. not (sub σ e)) (elements_of s.slots) ++ map vertices_of (map (oriented μ) cs))
      → Held μ n F es₀ (replace μ s (numbers_with σ s.slots) cs)
  unfolding replace
  replace-held s σ cs k f = go (accepted μ (elements_at ss is) new) refl
    where
      ss : List (Option Tet)
      ss = s.slots

      is : List ℕ
      is = numbers_with σ s.slots

      new : List Tet
      new = map (oriented μ) cs

      old-live : (t : Tet) → Memᴰ t (elements_at ss is) → Memᴰ t (live ss)
      old-live t m = (kept-elim (has_all σ) (live ss) (subst (Memᴰ t) (elements-with σ ss) m)).0

      cases : {P : Tet → Type 0} → ((t : Tet) → Memᴰ t (live ss) → P t) → ((t : Tet) → Memᴰ t new → P t) → (t : Tet)
          → Memᴰ t (live (emptied is ss ++ map some new)) → P t
      cases old made t m =
          elim (Memᴰ.append_cases (keep (λ u. not (has_all σ u)) (live ss)) (subst (Memᴰ t) (live-replaced σ ss new) m)) [
            | inl q ↦ old t (kept-elim (λ u. not (has_all σ u)) (live ss) q).0
            | inr q ↦ made t q
          ]

      go : (b : Bool) → accepted μ (elements_at ss is) new ≡ b → Held μ n F es₀ (cond b (record { slots = emptied is ss ++ map some new; flips = s.flips + 1 }) s)
      go false h = k
      go true h = record {
        proper = subst (Proper n) (sym (elements-replaced σ ss new)) f.proper;
        count = subst (λ l. SameCount n es₀ n l) (sym (elements-replaced σ ss new)) (let i = k.count in let j = f.count in omega arith);
        thin = subst AtMostTwo (sym (elements-replaced σ ss new)) f.thin;
        upright = cases k.upright (accepted-upright μ exact (elements_at ss is) new h);
        made = subst (λ l. Chain es₀ (s.flips + 1) l) (sym (elements-replaced σ ss new)) (then k.made f.flip refl);
        floor = cases k.floor (accepted-floor μ exact (elements_at ss is) new h F one (λ t m. k.floor t (old-live t m)));
      }
