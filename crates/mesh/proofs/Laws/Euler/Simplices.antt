-- The rows of an element's vertices, edges and triangles are its rising lists of one, two and three vertices. Assumes nothing.
use Rattle.std.proofs.Common.{◌≡◌, ℕ, ◌<◌, min, max, true, false, ltb, ◌≢◌, List, [], ◌∷◌, map, length, sym, refl, ap, ◌∙◌, subst, ap₂, inl, inr, arith, ltb-false, ltb-true, lt-ltb}
use mathlib.Core.List.{Memᴰ}
use Rattle.mesh.specs.declared.element.Pair.{Pair}
use Rattle.mesh.specs.declared.element.Triple.{Triple}
use Rattle.mesh.specs.declared.element.Tet.{Tet}
use Rattle.mesh.specs.Complex.{mem, Nodup, Sub}
use Rattle.mesh.specs.Element.{pair, triple, faces_of, key_of, corners_of, vertices_of}
use Rattle.mesh.proofs.Laws.Complex.Sets.{split, clash, mem-here, mem-there, mem-cases, mem-nil, out-head, out-tail, short, full}
use Rattle.mesh.proofs.Laws.Link.Simplices.{rising, rising-head, rising-nodup, rising-unique}
use Rattle.mesh.proofs.Laws.Link.Keys.{key-mem, key-rising, face-nodup}
use Rattle.mesh.specs.inside.Euler.{ends_of, rising_row, vertex_rows, edge_rows, triangle_rows}

-- a rising list of k vertices of an element
pub record Simplex (k : ℕ) (e σ : List ℕ) : Type 0 where
  pub size : length σ ≡ k
  pub rises : rising σ ≡ true
  pub inside : Sub σ e

-- a list of rows is all such lists
pub record Lists (k : ℕ) (e : List ℕ) (rs : List (List ℕ)) : Type 0 where
  pub only : (σ : List ℕ) → Memᴰ σ rs → Simplex k e σ
  pub all : (σ : List ℕ) → Simplex k e σ → Memᴰ σ rs

-- ---- vertices

one-vertex : (v : ℕ) (e : List ℕ) → mem v e ≡ true → Simplex 1 e (v ∷ [])
one-vertex v e m = record { size = refl; rises = refl; inside = λ x k. elim (mem-cases x v [] k) [ inl q ↦ rw q m | inr q ↦ absurd (mem-nil x q) ] }

vertex-rows-of : (e l : List ℕ) → Sub l e → (σ : List ℕ) → Memᴰ σ (map (λ v. v ∷ []) l) → Simplex 1 e σ
vertex-rows-of e [] s σ m = absurd (mathlib.Core.List.Memᴰ.not-nil m)
vertex-rows-of e (v ∷ l) s σ m =
    elim (mathlib.Core.List.Memᴰ.cases_cons m) [
      | inl q ↦ rw q (one-vertex v e (s v (mem-here v l)))
      | inr q ↦ vertex-rows-of e l (λ x k. s x (mem-there x v l k)) σ q
    ]

vertex-row-in : (x : ℕ) (l : List ℕ) → mem x l ≡ true → Memᴰ (x ∷ []) (map (λ v. v ∷ []) l)
vertex-row-in x [] m = absurd (mem-nil x m)
vertex-row-in x (y ∷ l) m = elim (mem-cases x y l m) [ inl q ↦ mathlib.Core.List.Memᴰ.head (ap (λ (v : ℕ). v ∷ []) q) | inr q ↦ mathlib.Core.List.Memᴰ.tail (vertex-row-in x l q) ]

pub vertices-listed : (t : Tet) → Lists 1 (vertices_of t) (vertex_rows t)
vertices-listed t = record { only = vertex-rows-of (vertices_of t) (vertices_of t) (λ x m. m); all = single }
  where
    single : (σ : List ℕ) → Simplex 1 (vertices_of t) σ → Memᴰ σ (vertex_rows t)
    single [] s = absurd (let e = s.size in omega arith)
    single (x ∷ []) s = vertex-row-in x (vertices_of t) (s.inside x (mem-here x []))
    single (x ∷ y ∷ σ) s = absurd (let e = s.size in omega arith)

-- ---- edges

-- the smaller and the larger of two
sides : (u v x : ℕ) (e : List ℕ) → mem u e ≡ true → mem v e ≡ true → mem x (rising_row (pair u v)) ≡ true → mem x e ≡ true
sides u v x e h k m =
    elim (split (ltb u v)) [
      | inl l ↦ (let g = ltb-true u v l in of u v h k (omega arith) (omega arith))
      | inr l ↦ (let g = ltb-false u v l in of v u k h (omega arith) (omega arith))
    ]
  where
    of : (a b : ℕ) → mem a e ≡ true → mem b e ≡ true → min u v ≡ a → max u v ≡ b → mem x e ≡ true
    of a b ha hb p q =
        elim (mem-cases x (min u v) (max u v ∷ []) m) [
          | inl r ↦ rw (r ∙ p) ha
          | inr r ↦ elim (mem-cases x (max u v) [] r) [ inl z ↦ rw (z ∙ q) hb | inr z ↦ absurd (mem-nil x z) ]
        ]

two-vertices : (u v : ℕ) (e : List ℕ) → u ≢ v → mem u e ≡ true → mem v e ≡ true → Simplex 2 e (rising_row (pair u v))
two-vertices u v e n h k = record { size = refl; rises = rw (lt-ltb (min u v) (max u v) (omega arith)) refl; inside = λ x m. sides u v x e h k m }

-- the row of two vertices that rise, whichever comes first
row_up : (x y u v : ℕ) → x < y → x ≡ u → y ≡ v → x ∷ y ∷ [] ≡ rising_row (pair u v)
row_up x y u v l p q =
    let e : x ≡ min u v = omega arith in
    let f : y ≡ max u v = omega arith in
    ap₂ (λ (a b : ℕ). a ∷ b ∷ []) e f

row-down : (x y u v : ℕ) → x < y → x ≡ v → y ≡ u → x ∷ y ∷ [] ≡ rising_row (pair u v)
row-down x y u v l p q =
    let e : x ≡ min u v = omega arith in
    let f : y ≡ max u v = omega arith in
    ap₂ (λ (a b : ℕ). a ∷ b ∷ []) e f

-- a vertex of four is one of them
data OneOf (x a b c d : ℕ) : Type 0 where
  is-a : x ≡ a → OneOf x a b c d
  is_b : x ≡ b → OneOf x a b c d
  is_c : x ≡ c → OneOf x a b c d
  is-d : x ≡ d → OneOf x a b c d

one_of : (x a b c d : ℕ) → mem x (a ∷ b ∷ c ∷ d ∷ []) ≡ true → OneOf x a b c d
one_of x a b c d m =
    elim (mem-cases x a (b ∷ c ∷ d ∷ []) m) [
      | inl q ↦ is-a q
      | inr m₁ ↦ elim (mem-cases x b (c ∷ d ∷ []) m₁) [
        | inl q ↦ is_b q
        | inr m₂ ↦ elim (mem-cases x c (d ∷ []) m₂) [
          | inl q ↦ is_c q
          | inr m₃ ↦ elim (mem-cases x d [] m₃) [ inl q ↦ is-d q | inr m₄ ↦ absurd (mem-nil x m₄) ]
        ]
      ]
    ]

same_not : {X : Type 0} (x y a : ℕ) → x < y → x ≡ a → y ≡ a → X
same_not x y a l p q = absurd (no x y a l p q)
  where
    no : (x y a : ℕ) → x < y → x ≡ a → y ≡ a → ⊥
    no x y a l p q = omega arith

edge_in : (x y : ℕ) (t : Tet) → x < y → OneOf x t.a t.b t.c t.d → OneOf y t.a t.b t.c t.d → Memᴰ (x ∷ y ∷ []) (edge_rows t)
edge_in x y t l (is-a p) (is-a q) = same_not x y t.a l p q
edge_in x y t l (is-a p) (is_b q) = mathlib.Core.List.Memᴰ.head (row_up x y t.a t.b l p q)
edge_in x y t l (is-a p) (is_c q) = mathlib.Core.List.Memᴰ.tail (mathlib.Core.List.Memᴰ.head (row_up x y t.a t.c l p q))
edge_in x y t l (is-a p) (is-d q) = mathlib.Core.List.Memᴰ.tail (mathlib.Core.List.Memᴰ.tail (mathlib.Core.List.Memᴰ.head (row_up x y t.a t.d l p q)))
edge_in x y t l (is_b p) (is-a q) = mathlib.Core.List.Memᴰ.head (row-down x y t.a t.b l p q)
edge_in x y t l (is_b p) (is_b q) = same_not x y t.b l p q
edge_in x y t l (is_b p) (is_c q) = mathlib.Core.List.Memᴰ.tail (mathlib.Core.List.Memᴰ.tail (mathlib.Core.List.Memᴰ.tail (mathlib.Core.List.Memᴰ.head (row_up x y t.b t.c l p q))))
edge_in x y t l (is_b p) (is-d q) = mathlib.Core.List.Memᴰ.tail (mathlib.Core.List.Memᴰ.tail (mathlib.Core.List.Memᴰ.tail (mathlib.Core.List.Memᴰ.tail (mathlib.Core.List.Memᴰ.head (row_up x y t.b t.d l p q)))))
edge_in x y t l (is_c p) (is-a q) = mathlib.Core.List.Memᴰ.tail (mathlib.Core.List.Memᴰ.head (row-down x y t.a t.c l p q))
edge_in x y t l (is_c p) (is_b q) = mathlib.Core.List.Memᴰ.tail (mathlib.Core.List.Memᴰ.tail (mathlib.Core.List.Memᴰ.tail (mathlib.Core.List.Memᴰ.head (row-down x y t.b t.c l p q))))
edge_in x y t l (is_c p) (is_c q) = same_not x y t.c l p q
edge_in x y t l (is_c p) (is-d q) = mathlib.Core.List.Memᴰ.tail (mathlib.Core.List.Memᴰ.tail (mathlib.Core.List.Memᴰ.tail (mathlib.Core.List.Memᴰ.tail (mathlib.Core.List.Memᴰ.tail (mathlib.Core.List.Memᴰ.head (row_up x y t.c t.d l p q))))))
edge_in x y t l (is-d p) (is-a q) = mathlib.Core.List.Memᴰ.tail (mathlib.Core.List.Memᴰ.tail (mathlib.Core.List.Memᴰ.head (row-down x y t.a t.d l p q)))
edge_in x y t l (is-d p) (is_b q) = mathlib.Core.List.Memᴰ.tail (mathlib.Core.List.Memᴰ.tail (mathlib.Core.List.Memᴰ.tail (mathlib.Core.List.Memᴰ.tail (mathlib.Core.List.Memᴰ.head (row-down x y t.b t.d l p q)))))
edge_in x y t l (is-d p) (is_c q) = mathlib.Core.List.Memᴰ.tail (mathlib.Core.List.Memᴰ.tail (mathlib.Core.List.Memᴰ.tail (mathlib.Core.List.Memᴰ.tail (mathlib.Core.List.Memᴰ.tail (mathlib.Core.List.Memᴰ.head (row-down x y t.c t.d l p q))))))
edge_in x y t l (is-d p) (is-d q) = same_not x y t.d l p q

-- the ends of each edge are different vertices of the element
record Ends (e : List ℕ) (f : Pair) : Type 0 where
  differ : f.a ≢ f.b
  first : mem f.a e ≡ true
  second : mem f.b e ≡ true

ends_of_lem : (t : Tet) → Nodup (vertices_of t) → (f : Pair) → Memᴰ f (ends_of t) → Ends (vertices_of t) f
ends_of_lem t n f m =
    let a = t.a in
    let b = t.b in
    let c = t.c in
    let d = t.d in
    let e = vertices_of t in
    let ma : mem a e ≡ true = mem-here a (b ∷ c ∷ d ∷ []) in
    let mb : mem b e ≡ true = mem-there b a (b ∷ c ∷ d ∷ []) (mem-here b (c ∷ d ∷ [])) in
    let mc : mem c e ≡ true = mem-there c a (b ∷ c ∷ d ∷ []) (mem-there c b (c ∷ d ∷ []) (mem-here c (d ∷ []))) in
    let md : mem d e ≡ true = mem-there d a (b ∷ c ∷ d ∷ []) (mem-there d b (c ∷ d ∷ []) (mem-there d c (d ∷ []) (mem-here d []))) in
    let n₁ = out-tail a b (c ∷ d ∷ []) n.0 in
    let make : (u v : ℕ) → u ≢ v → mem u e ≡ true → mem v e ≡ true → f ≡ pair u v → Ends e f =
    λ u v r h k q. subst (Ends e) (sym q) (record { differ = r; first = h; second = k }) in
    elim (mathlib.Core.List.Memᴰ.cases_cons m) [
      | inl q ↦ make a b (out-head a b (c ∷ d ∷ []) n.0) ma mb q
      | inr m₁ ↦ elim (mathlib.Core.List.Memᴰ.cases_cons m₁) [
        | inl q ↦ make a c (out-head a c (d ∷ []) n₁) ma mc q
        | inr m₂ ↦ elim (mathlib.Core.List.Memᴰ.cases_cons m₂) [
          | inl q ↦ make a d (out-head a d [] (out-tail a c (d ∷ []) n₁)) ma md q
          | inr m₃ ↦ elim (mathlib.Core.List.Memᴰ.cases_cons m₃) [
            | inl q ↦ make b c (out-head b c (d ∷ []) n.1.0) mb mc q
            | inr m₄ ↦ elim (mathlib.Core.List.Memᴰ.cases_cons m₄) [
              | inl q ↦ make b d (out-head b d [] (out-tail b c (d ∷ []) n.1.0)) mb md q
              | inr m₅ ↦ elim (mathlib.Core.List.Memᴰ.cases_cons m₅) [
                | inl q ↦ make c d (out-head c d [] n.1.1.0) mc md q
                | inr m₆ ↦ absurd (mathlib.Core.List.Memᴰ.not-nil m₆)
              ]
            ]
          ]
        ]
      ]
    ]

-- a row of a list of rows comes from one of the items
map-from : {A : Type 0} (g : A → List ℕ) (l : List A) (σ : List ℕ) → Memᴰ σ (map g l) → (x : A) × Memᴰ x l × (σ ≡ g x)
map-from g [] σ m = absurd (mathlib.Core.List.Memᴰ.not-nil m)
map-from g (y ∷ l) σ m =
    elim (mathlib.Core.List.Memᴰ.cases_cons m) [
      | inl q ↦ (y, mathlib.Core.List.Memᴰ.head refl, q)
      | inr q ↦ let r = map-from g l σ q in (r.0, mathlib.Core.List.Memᴰ.tail r.1, r.2)
    ]

pub edges-listed : (t : Tet) → Nodup (vertices_of t) → Lists 2 (vertices_of t) (edge_rows t)
edges-listed t n = record {
  only = λ σ m. (let r = map-from rising_row (ends_of t) σ m in let e = ends_of_lem t n r.0 r.1 in rw r.2 (two-vertices r.0.a r.0.b (vertices_of t) e.differ e.first e.second));
  all = pairs;
}
  where
    pairs : (σ : List ℕ) → Simplex 2 (vertices_of t) σ → Memᴰ σ (edge_rows t)
    pairs [] s = absurd (let e = s.size in omega arith)
    pairs (x ∷ []) s = absurd (let e = s.size in omega arith)
    pairs (x ∷ y ∷ []) s =
        edge_in x y t (rising-head x (y ∷ []) s.rises y (mem-here y []))
        (one_of x t.a t.b t.c t.d (s.inside x (mem-here x (y ∷ []))))
        (one_of y t.a t.b t.c t.d (s.inside y (mem-there y x (y ∷ []) (mem-here y []))))
    pairs (x ∷ y ∷ z ∷ σ) s = absurd (let e = s.size in omega arith)

-- ---- triangles

-- a face has three vertices of the element
face-inside : (t : Tet) (f : Triple) → Memᴰ f (faces_of t) → Sub (corners_of f) (vertices_of t)
face-inside t f m x k =
    let a = t.a in
    let b = t.b in
    let c = t.c in
    let d = t.d in
    let e = vertices_of t in
    let ma : mem a e ≡ true = mem-here a (b ∷ c ∷ d ∷ []) in
    let mb : mem b e ≡ true = mem-there b a (b ∷ c ∷ d ∷ []) (mem-here b (c ∷ d ∷ [])) in
    let mc : mem c e ≡ true = mem-there c a (b ∷ c ∷ d ∷ []) (mem-there c b (c ∷ d ∷ []) (mem-here c (d ∷ []))) in
    let md : mem d e ≡ true = mem-there d a (b ∷ c ∷ d ∷ []) (mem-there d b (c ∷ d ∷ []) (mem-there d c (d ∷ []) (mem-here d []))) in
    let three : (u v w : ℕ) → mem u e ≡ true → mem v e ≡ true → mem w e ≡ true → f ≡ triple u v w → mem x e ≡ true =
    λ u v w hu hv hw q. elim (mem-cases x u (v ∷ w ∷ []) (subst (λ (g : Triple). mem x (corners_of g) ≡ true) q k)) [
      | inl z ↦ rw z hu
      | inr k₁ ↦ elim (mem-cases x v (w ∷ []) k₁) [
        | inl z ↦ rw z hv
        | inr k₂ ↦ elim (mem-cases x w [] k₂) [ inl z ↦ rw z hw | inr k₃ ↦ absurd (mem-nil x k₃) ]
      ]
    ] in
    elim (mathlib.Core.List.Memᴰ.cases_cons m) [
      | inl q ↦ three a b d ma mb md q
      | inr m₁ ↦ elim (mathlib.Core.List.Memᴰ.cases_cons m₁) [
        | inl q ↦ three a c b ma mc mb q
        | inr m₂ ↦ elim (mathlib.Core.List.Memᴰ.cases_cons m₂) [
          | inl q ↦ three a d c ma md mc q
          | inr m₃ ↦ elim (mathlib.Core.List.Memᴰ.cases_cons m₃) [ inl q ↦ three b c d mb mc md q | inr m₄ ↦ absurd (mathlib.Core.List.Memᴰ.not-nil m₄) ]
        ]
      ]
    ]

-- three vertices within a face are its key
key-is : (f : Triple) (σ : List ℕ) → Nodup (corners_of f) → length σ ≡ 3 → rising σ ≡ true → Sub σ (corners_of f) → σ ≡ corners_of (key_of f)
key-is f σ n l r s =
    let back = full σ (corners_of f) (rising-nodup σ r) s (omega arith) in
    rising-unique σ (corners_of (key_of f)) r (key-rising f n) (λ z m. key-mem f z ∙ s z m) (λ z m. back z (sym (key-mem f z) ∙ m))

-- the face that lacks a vertex has the others
lacking : (σ : List ℕ) (x v : ℕ) → mem x σ ≡ true → mem v σ ≡ false → x ≡ v → ⊥
lacking σ x v h k e = clash (rw e at h) k

pub triangles-listed : (t : Tet) → Nodup (vertices_of t) → Lists 3 (vertices_of t) (triangle_rows t)
triangles-listed t n = record { only = keys; all = triangles }
  where
    keys : (σ : List ℕ) → Memᴰ σ (triangle_rows t) → Simplex 3 (vertices_of t) σ
    keys σ m =
        let r = map-from (λ (f : Triple). corners_of (key_of f)) (faces_of t) σ m in
        rw r.2 (record {
          size = refl;
          rises = key-rising r.0 (face-nodup t r.0 n r.1);
          inside = λ x k. face-inside t r.0 r.1 x (sym (key-mem r.0 x) ∙ k);
        })

    triangles : (σ : List ℕ) → Simplex 3 (vertices_of t) σ → Memᴰ σ (triangle_rows t)
    triangles σ s =
        let a = t.a in
        let b = t.b in
        let c = t.c in
        let d = t.d in
        let at : (f : Triple) → Memᴰ f (faces_of t) → ((x : ℕ) → mem x σ ≡ true → mem x (corners_of f) ≡ true) → σ ≡ corners_of (key_of f) =
        λ f m h. key-is f σ (face-nodup t f n m) s.size s.rises h in
        let in₁ : Memᴰ (triple a b d) (faces_of t) = mathlib.Core.List.Memᴰ.head refl in
        let in₂ : Memᴰ (triple a c b) (faces_of t) = mathlib.Core.List.Memᴰ.tail (mathlib.Core.List.Memᴰ.head refl) in
        let in₃ : Memᴰ (triple a d c) (faces_of t) = mathlib.Core.List.Memᴰ.tail (mathlib.Core.List.Memᴰ.tail (mathlib.Core.List.Memᴰ.head refl)) in
        let in₄ : Memᴰ (triple b c d) (faces_of t) = mathlib.Core.List.Memᴰ.tail (mathlib.Core.List.Memᴰ.tail (mathlib.Core.List.Memᴰ.tail (mathlib.Core.List.Memᴰ.head refl))) in
        elim (split (mem a σ)) [
          | inr o ↦ mathlib.Core.List.Memᴰ.tail (mathlib.Core.List.Memᴰ.tail (mathlib.Core.List.Memᴰ.tail (mathlib.Core.List.Memᴰ.head (at (triple b c d) in₄ (λ x m. without-a x (one_of x a b c d (s.inside x m)) (lacking σ x a m o))))))
          | inl ha ↦ elim (split (mem b σ)) [
            | inr o ↦ mathlib.Core.List.Memᴰ.tail (mathlib.Core.List.Memᴰ.tail (mathlib.Core.List.Memᴰ.head (at (triple a d c) in₃ (λ x m. without-b x (one_of x a b c d (s.inside x m)) (lacking σ x b m o)))))
            | inl hb ↦ elim (split (mem c σ)) [
              | inr o ↦ mathlib.Core.List.Memᴰ.head (at (triple a b d) in₁ (λ x m. without-c x (one_of x a b c d (s.inside x m)) (lacking σ x c m o)))
              | inl hc ↦ elim (split (mem d σ)) [
                | inr o ↦ mathlib.Core.List.Memᴰ.tail (mathlib.Core.List.Memᴰ.head (at (triple a c b) in₂ (λ x m. without-d x (one_of x a b c d (s.inside x m)) (lacking σ x d m o))))
                | inl hd ↦ absurd (let r = short (vertices_of t) σ n (λ x m. all_in x ha hb hc hd (one_of x a b c d m)) in let q = s.size in omega arith)
              ]
            ]
          ]
        ]
      where
        without-a : (x : ℕ) → OneOf x t.a t.b t.c t.d → (x ≡ t.a → ⊥) → mem x (corners_of (triple t.b t.c t.d)) ≡ true
        without-a x (is-a q) n = absurd (n q)
        without-a x (is_b q) n = rw q (mem-here t.b (t.c ∷ t.d ∷ []))
        without-a x (is_c q) n = rw q (mem-there t.c t.b (t.c ∷ t.d ∷ []) (mem-here t.c (t.d ∷ [])))
        without-a x (is-d q) n = rw q (mem-there t.d t.b (t.c ∷ t.d ∷ []) (mem-there t.d t.c (t.d ∷ []) (mem-here t.d [])))

        without-b : (x : ℕ) → OneOf x t.a t.b t.c t.d → (x ≡ t.b → ⊥) → mem x (corners_of (triple t.a t.d t.c)) ≡ true
        without-b x (is_b q) n = absurd (n q)
        without-b x (is-a q) n = rw q (mem-here t.a (t.d ∷ t.c ∷ []))
        without-b x (is-d q) n = rw q (mem-there t.d t.a (t.d ∷ t.c ∷ []) (mem-here t.d (t.c ∷ [])))
        without-b x (is_c q) n = rw q (mem-there t.c t.a (t.d ∷ t.c ∷ []) (mem-there t.c t.d (t.c ∷ []) (mem-here t.c [])))

        without-c : (x : ℕ) → OneOf x t.a t.b t.c t.d → (x ≡ t.c → ⊥) → mem x (corners_of (triple t.a t.b t.d)) ≡ true
        without-c x (is_c q) n = absurd (n q)
        without-c x (is-a q) n = rw q (mem-here t.a (t.b ∷ t.d ∷ []))
        without-c x (is_b q) n = rw q (mem-there t.b t.a (t.b ∷ t.d ∷ []) (mem-here t.b (t.d ∷ [])))
        without-c x (is-d q) n = rw q (mem-there t.d t.a (t.b ∷ t.d ∷ []) (mem-there t.d t.b (t.d ∷ []) (mem-here t.d [])))

        without-d : (x : ℕ) → OneOf x t.a t.b t.c t.d → (x ≡ t.d → ⊥) → mem x (corners_of (triple t.a t.c t.b)) ≡ true
        without-d x (is-d q) n = absurd (n q)
        without-d x (is-a q) n = rw q (mem-here t.a (t.c ∷ t.b ∷ []))
        without-d x (is_c q) n = rw q (mem-there t.c t.a (t.c ∷ t.b ∷ []) (mem-here t.c (t.b ∷ [])))
        without-d x (is_b q) n = rw q (mem-there t.b t.a (t.c ∷ t.b ∷ []) (mem-there t.b t.c (t.b ∷ []) (mem-here t.b [])))

        all_in : (x : ℕ) → mem t.a σ ≡ true → mem t.b σ ≡ true → mem t.c σ ≡ true → mem t.d σ ≡ true → OneOf x t.a t.b t.c t.d → mem x σ ≡ true
        all_in x ha hb hc hd (is-a q) = rw q ha
        all_in x ha hb hc hd (is_b q) = rw q hb
        all_in x ha hb hc hd (is_c q) = rw q hc
        all_in x ha hb hc hd (is-d q) = rw q hd
