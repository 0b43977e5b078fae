-- The vertices of elements besides those of an edge: put one behind the other, in order, each once, at an area's front. Assumes
-- nothing.
use mathlib.Core.Path.{◌≡◌, refl, sym, ap, ap₂, subst, ◌∙◌}
use mathlib.Core.Logic.{inl, inr}
use mathlib.Core.Bool.{Bool, true, false, not, cond}
use mathlib.Core.List.{List, [], ◌∷◌, ◌++◌, Memᴰ}
use Prim.Native.Nat.{ℕ, suc, ◌+◌, ◌*◌, ◌≤◌, ◌<◌}
use native.Mathlib.Nat.{add-zero}
use native.Mathlib.Omega.{arith}
use borrow.Author.Tests.{eq-eqb, ne_eqb}
use lib.ListN.{length, get_or, take, drop, set, length-append, drop_of_length-le}
use lib.Seq.{get_or-take, get_or-drop, take_at, drop-cons}
use Rattle.mesh.specs.declared.element.Pair.{Pair}
use Rattle.mesh.specs.declared.element.Triple.{Triple}
use Rattle.mesh.specs.declared.element.Tet.{Tet}
use Rattle.mesh.specs.Words.{word_at}
use Rattle.mesh.specs.Complex.{mem}
use Rattle.mesh.specs.inside.Rows.{sorted_area, unique_rows, unique_area}
use Rattle.mesh.specs.Element.{vertices_of}
use Rattle.mesh.specs.Link.{without}
use Rattle.mesh.specs.inside.Star.{written, distinct}
use Rattle.mesh.proofs.Laws.Complex.Sets.{or_cases, mem-nil}
use Rattle.mesh.proofs.Laws.Star.Singles.{kinds-count, kinds-area}
use Rattle.mesh.proofs.Laws.Star.Written.{length-written, written-part, written-more, written_none, written_one}
use Rattle.repair.specs.Flip.{besides}
use Rattle.repair.specs.inside.flip.Layout.{triple_at}
use Rattle.repair.specs.inside.flip.Tries.{edge_row}
use Rattle.repair.specs.inside.flip.ThreeToTwo.{others_of, Puts}
use Rattle.repair.proofs.Laws.Site.Near.{mem-append}
use Rattle.repair.proofs.Laws.Flip.Owners.{without-elim}
use Rattle.repair.proofs.Laws.Flip.Edge.{three-of}

-- ---- words behind words

puts_none : (s : List ℕ) (k : ℕ) (l : List ℕ) → l ≡ [] → Puts s k l k s
puts_none s k l h = record { place = sym (ap (λ (m : List ℕ). k + length m) h ∙ add-zero k); words = sym (written_none s k) ∙ ap (written s k) (sym h) }

puts_one : (s t : List ℕ) (k v : ℕ) (l : List ℕ) → k < length s → l ≡ v ∷ [] → t ≡ set s k v → Puts s k l (k + 1) t
puts_one s t k v l g h e = record { place = ap (λ (m : List ℕ). k + length m) (sym h); words = e ∙ written_one s k v g ∙ ap (written s k) (sym h) }

puts-more : {s t u : List ℕ} {k n p : ℕ} {l m : List ℕ} → n ≤ length s → Puts s k l n t → Puts t n m p u → Puts s k (l ++ m) p u
puts-more {s} {t} {u} {k} {n} {p} {l} {m} h a b = record {
  place = (let x = a.place in let y = b.place in let z = length-append l m in omega arith);
  words = b.words ∙ ap₂ (λ (y : List ℕ) (i : ℕ). written y i m) a.words a.place ∙ written-more s k l (let x = a.place in omega arith) m;
}

puts-long : {s t : List ℕ} {k n : ℕ} {l : List ℕ} → n ≤ length s → Puts s k l n t → length t ≡ length s
puts-long {s} {t} {k} {n} {l} h a = ap length a.words ∙ length-written s k l (let x = a.place in omega arith)

-- once a part is put, up to n: what puts those that are left puts all
pub record Putting (s : List ℕ) (k : ℕ) (all w : List ℕ) (n : ℕ) (left : List ℕ) : Type 0 where
  pub long : length w ≡ length s
  pub rest : (p : ℕ) (u : List ℕ) → Puts w n left p u → Puts s k all p u

putting-turn : {s : List ℕ} {k : ℕ} {all w : List ℕ} {n : ℕ} {l m v : List ℕ} {p : ℕ} → Putting s k all w n (l ++ m) → p ≤ length w → Puts w n l p v → Putting s k all v p m
putting-turn {l = l} {m = m} q h a = record { long = puts-long h a ∙ q.long; rest = λ p u b. q.rest p u (puts-more {l = l} {m = m} h a b) }

putting-end : {s : List ℕ} {k : ℕ} {all w : List ℕ} {n : ℕ} {left : List ℕ} → Putting s k all w n left → left ≡ [] → Puts s k all n w
putting-end {w = w} {n = n} {left = left} q h = q.rest n w (puts_none w n left h)

-- ---- the vertices besides an edge's

module _ (e : Pair) where
  -- a vertex of the edge
  pub other-first : (s : List ℕ) (k v : ℕ) → v ≡ e.a → Puts s k (without (edge_row e) (v ∷ [])) k s × (k ≤ k + 1)
  other-first s k v h = (puts_none s k (without (edge_row e) (v ∷ [])) (rw (eq-eqb v e.a h) refl), omega arith)

  pub other-second : (s : List ℕ) (k v : ℕ) → (v ≡ e.a → ⊥) → v ≡ e.b → Puts s k (without (edge_row e) (v ∷ [])) k s × (k ≤ k + 1)
  other-second s k v n h = (puts_none s k (without (edge_row e) (v ∷ [])) (rw (ne_eqb v e.a n, eq-eqb v e.b h) refl), omega arith)

  -- another
  pub other-put : (s t : List ℕ) (k v : ℕ) → (v ≡ e.a → ⊥) → (v ≡ e.b → ⊥) → k < length s → t ≡ set s k v → Puts s k (without (edge_row e) (v ∷ [])) (k + 1) t × (k + 1 ≤ k + 1)
  other-put s t k v n m h g = (puts_one s t k v (without (edge_row e) (v ∷ [])) h (rw (ne_eqb v e.a n, ne_eqb v e.b m) refl) g, omega arith)

  without-cons : (v : ℕ) (vs : List ℕ) → without (edge_row e) (v ∷ vs) ≡ without (edge_row e) (v ∷ []) ++ without (edge_row e) vs
  without-cons v vs = go (not (mem v (edge_row e)))
    where
      go : (b : Bool) → cond b (v ∷ without (edge_row e) vs) (without (edge_row e) vs) ≡ cond b (v ∷ []) [] ++ without (edge_row e) vs
      go true = refl
      go false = refl

  -- once i of the vertices vs are put
  pub record PuttingVertices (s : List ℕ) (k : ℕ) (vs w : List ℕ) (n i : ℕ) : Type 0 where
    pub few : n ≤ k + i
    pub put : Putting s k (without (edge_row e) vs) w n (without (edge_row e) (drop i vs))

  module _ {s : List ℕ} {k : ℕ} {vs w : List ℕ} {n i : ℕ} (room : k + length vs ≤ length s) (q : PuttingVertices s k vs w n i) where
    pub vertices-turn : i < length vs → (p : ℕ) (v : List ℕ) → Puts w n (without (edge_row e) (get_or vs i 0 ∷ [])) p v → p ≤ n + 1 → PuttingVertices s k vs v p (i + 1)
    vertices-turn h p v a b =
        let j : suc i ≡ i + 1 = omega arith in
        let here : without (edge_row e) (drop i vs) ≡ without (edge_row e) (get_or vs i 0 ∷ []) ++ without (edge_row e) (drop (i + 1) vs) =
        ap (without (edge_row e)) (drop-cons vs i 0 h) ∙ without-cons (get_or vs i 0) (drop (suc i) vs)
        ∙ ap (λ (m : ℕ). without (edge_row e) (get_or vs i 0 ∷ []) ++ without (edge_row e) (drop m vs)) j in
        record {
          few = let y = q.few in omega arith;
          put = putting-turn {l = without (edge_row e) (get_or vs i 0 ∷ [])} (subst (λ (l : List ℕ). Putting s k (without (edge_row e) vs) w n l) here q.put) (let y = q.few in let z = q.put.long in omega arith) a;
        }

    pub vertices-end : length vs ≤ i → i ≤ length vs → Puts s k (without (edge_row e) vs) n w × (n ≤ k + length vs)
    vertices-end h g = (putting-end q.put (ap (without (edge_row e)) (drop_of_length-le vs h)), (let a = q.few in omega arith))

  -- once those of i of the elements ts are put
  pub record PuttingElements (s : List ℕ) (ts : List Tet) (w : List ℕ) (n i : ℕ) : Type 0 where
    pub few : n ≤ 4 * i
    pub put : Putting s 0 (besides (edge_row e) ts) w n (besides (edge_row e) (drop i ts))

  module _ {s : List ℕ} {ts : List Tet} {w : List ℕ} {n i : ℕ} (room : 4 * length ts ≤ length s) (q : PuttingElements s ts w n i) where
    pub elements-turn : (d : Tet) → i < length ts → (p : ℕ) (v : List ℕ) → Puts w n (without (edge_row e) (vertices_of (get_or ts i d))) p v → p ≤ n + 4 → PuttingElements s ts v p (i + 1)
    unfolding besides
    elements-turn d h p v a b =
        let j : suc i ≡ i + 1 = omega arith in
        let l = without (edge_row e) (vertices_of (get_or ts i d)) in
        let here : besides (edge_row e) (drop i ts) ≡ l ++ besides (edge_row e) (drop (i + 1) ts) =
        ap (besides (edge_row e)) (drop-cons ts i d h) ∙ ap (λ (m : ℕ). l ++ besides (edge_row e) (drop m ts)) j in
        record {
          few = let y = q.few in omega arith;
          put = putting-turn {l = l} (subst (λ (l : List ℕ). Putting s 0 (besides (edge_row e) ts) w n l) here q.put) (let y = q.few in let z = q.put.long in omega arith) a;
        }

    pub elements-end : length ts ≤ i → Puts s 0 (besides (edge_row e) ts) n w
    unfolding besides
    elements-end h = putting-end q.put (ap (besides (edge_row e)) (drop_of_length-le ts h))

  -- in order, each once
  pub others-listed : {s s₃ s₄ s₅ : List ℕ} {n r : ℕ} (ts : List Tet) → length ts ≤ 3 → 24 ≤ length s → n ≤ 4 * length ts → Puts s 0 (besides (edge_row e) ts) n s₃
      → s₄ ≡ sorted_area n 1 s₃ → r ≡ length (unique_rows n 1 s₄) → s₅ ≡ unique_area n 1 s₄
      → (r ≡ length (others_of e ts)) × (take r s₅ ≡ others_of e ts)
  unfolding others_of distinct
  others-listed {s} {s₃} {s₄} {s₅} {n} {r} ts three h f put e₄ er e₅ =
      let all = besides (edge_row e) ts in
      let long : length s₃ ≡ length s = puts-long (omega arith) put in
      let room : n + n ≤ length s₃ = omega arith in
      let place = put.place in
      let many : n ≡ length all = omega arith in
      let first : take n s₃ ≡ all = ap₂ (λ (i : ℕ) (l : List ℕ). take i l) many put.words ∙ written-part s 0 all (omega arith) in
      let count : r ≡ length (distinct all) = er ∙ ap (λ (l : List ℕ). length (unique_rows n 1 l)) e₄ ∙ kinds-count n s₃ room ∙ ap (λ (l : List ℕ). length (distinct l)) first in
      let area : s₅ ≡ distinct all ++ drop (length (distinct all)) (sorted_area n 1 s₃) =
      e₅ ∙ ap (unique_area n 1) e₄ ∙ kinds-area n s₃ room ∙ ap (λ (l : List ℕ). distinct l ++ drop (length (distinct l)) (sorted_area n 1 s₃)) first in
      (count, ap (take r) area ∙ take_at (distinct all) (drop (length (distinct all)) (sorted_area n 1 s₃)) r (sym count))

-- ---- a lent part

-- ---- what they are

-- three words at a are the list that stands there
pub words-three : (l v : List ℕ) (a k : ℕ) → k ≡ length l → take k (drop a v) ≡ l → k ≡ 3 → (f : Triple) → f ≡ triple_at v a → l ≡ f.a ∷ f.b ∷ f.c ∷ []
words-three l v a k ek el k3 f ef =
    let at : (j : ℕ) → j < 3 → get_or l j 0 ≡ word_at v (a + j) = λ j g. ap (λ (m : List ℕ). get_or m j 0) (sym el) ∙ get_or-take k (drop a v) j 0 (omega arith) ∙ get_or-drop a v j 0 in
    three-of l (sym ek ∙ k3) ∙ rw (at 0 (omega arith), at 1 (omega arith), at 2 (omega arith), add-zero a, ef) refl

-- an element that has a vertex besides σ
pub besides-elim : (σ : List ℕ) (ts : List Tet) (x : ℕ) → mem x (besides σ ts) ≡ true → (t : Tet) × Memᴰ t ts × (mem x (vertices_of t) ≡ true)
unfolding besides
besides-elim σ [] x m = absurd (mem-nil x m)
besides-elim σ (t ∷ ts) x m =
    elim (or_cases (mem x (without σ (vertices_of t))) (mem x (besides σ ts)) (sym (mem-append x (without σ (vertices_of t)) (besides σ ts)) ∙ m)) [
      | inl h ↦ (t, Memᴰ.head refl, (without-elim σ (vertices_of t) x h).0)
      | inr h ↦ let r = besides-elim σ ts x h in (r.0, Memᴰ.tail r.1, r.2)
    ]
