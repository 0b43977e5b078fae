-- Oriented triangles. Two triangles of three different vertices have the same key and the same parity exactly if one is the other turned
-- round (`round-key`, `key-round`). The faces of an element are those of its orientations (`face-shown`, `face-apex`). Assumes nothing.
use mathlib.Core.Path.{◌≡◌, refl, sym, subst, ◌∙◌}
use mathlib.Core.Logic.{◌≢◌, inl, inr}
use mathlib.Core.Bool.{true, false}
use mathlib.Core.List.Memᴰ
use mathlib.Core.List.{[], ◌∷◌, Memᴰ}
use Prim.Native.Nat.{ℕ, ◌<◌, ◌≤◌}
use native.Mathlib.Omega.{arith}
use borrow.Author.Tests.{ltb-true, ltb-false, lt-ltb, le-ltb}
use lib.Dec.{ltb}
use Rattle.mesh.specs.declared.element.Tet.{Tet}
use Rattle.mesh.specs.declared.element.Triple.{Triple}
use Rattle.mesh.specs.Complex.{Nodup}
use Rattle.mesh.specs.Element.{triple, faces_of, corners_of, sort_first, sort_last, key_of, parity_of}
use Rattle.mesh.proofs.Laws.Complex.Sets.{split, out-head, out-tail}
use Rattle.theorems.proofs.Collapse.Turns.{Turns, as_is, turn, cross}

-- ---- triangles turned round

pub data Round (a b c : ℕ) : ℕ → ℕ → ℕ → Type 0 where
  stay : Round a b c a b c
  once : Round a b c b c a
  twice : Round a b c c a b

pub on : {a b c u v w : ℕ} → Round a b c u v w → Round a b c v w u
on stay = once
on once = twice
on twice = stay

pub round-then : {a b c u v w x y z : ℕ} → Round a b c u v w → Round u v w x y z → Round a b c x y z
round-then r stay = r
round-then r once = on r
round-then r twice = on (on r)

pub round-back : {a b c u v w : ℕ} → Round a b c u v w → Round u v w a b c
round-back stay = stay
round-back once = twice
round-back twice = once

-- ---- keys and parities

module _ (x y z : ℕ) (p : x < y) (q : y < z) where
  xy : ltb x y ≡ true
  xy = lt-ltb x y p

  yx : ltb y x ≡ false
  yx = le-ltb y x (omega arith)

  yz : ltb y z ≡ true
  yz = lt-ltb y z q

  zy : ltb z y ≡ false
  zy = le-ltb z y (omega arith)

  xz : ltb x z ≡ true
  xz = lt-ltb x z (omega arith)

  zx : ltb z x ≡ false
  zx = le-ltb z x (omega arith)

  ruleset order = (xy, yx, yz, zy, xz, zx)

  even-key : {u v w : ℕ} → Round x y z u v w → (key_of (triple u v w) ≡ triple x y z) × (parity_of (triple u v w) ≡ 0)
  unfolding key_of sort_first sort_last parity_of
  even-key stay = (simp order, simp order)
  even-key once = (simp order, simp order)
  even-key twice = (simp order, simp order)

  odd-key : {u v w : ℕ} → Round x z y u v w → (key_of (triple u v w) ≡ triple x y z) × (parity_of (triple u v w) ≡ 1)
  unfolding key_of sort_first sort_last parity_of
  odd-key stay = (simp order, simp order)
  odd-key once = (simp order, simp order)
  odd-key twice = (simp order, simp order)

-- three different numbers are three in rising order turned round, or those with the last two exchanged
data Sorted (a b c : ℕ) : Type 0 where
  even : (x y z : ℕ) → x < y → y < z → Round x y z a b c → Sorted a b c
  odd : (x y z : ℕ) → x < y → y < z → Round x z y a b c → Sorted a b c

below : (a b : ℕ) → a ≢ b → b ≤ a → b < a
below a b n l = omega arith

sorted : (a b c : ℕ) → a ≢ b → a ≢ c → b ≢ c → Sorted a b c
sorted a b c ab ac bc = elim (split (ltb a b)) [
  | inl p ↦ elim (split (ltb b c)) [
    | inl q ↦ even a b c (ltb-true a b p) (ltb-true b c q) stay
    | inr q ↦ elim (split (ltb a c)) [
      | inl r ↦ odd a c b (ltb-true a c r) (below b c bc (ltb-false b c q)) stay
      | inr r ↦ even c a b (below a c ac (ltb-false a c r)) (ltb-true a b p) once
    ]
  ]
  | inr p ↦ elim (split (ltb a c)) [
    | inl r ↦ odd b a c (below a b ab (ltb-false a b p)) (ltb-true a c r) twice
    | inr r ↦ elim (split (ltb b c)) [
      | inl q ↦ even b c a (ltb-true b c q) (below a c ac (ltb-false a c r)) twice
      | inr q ↦ odd c b a (below b c bc (ltb-false b c q)) (below a b ab (ltb-false a b p)) once
    ]
  ]
]

face-sorted : (f : Triple) → Nodup (corners_of f) → Sorted f.a f.b f.c
face-sorted f n = sorted f.a f.b f.c (out-head f.a f.b (f.c ∷ []) n.0) (out-head f.a f.c [] (out-tail f.a f.b (f.c ∷ []) n.0)) (out-head f.b f.c [] n.1.0)

-- the turned triangle has the same key and parity
pub round-key : (f g : Triple) → Nodup (corners_of f) → Round f.a f.b f.c g.a g.b g.c → (key_of f ≡ key_of g) × (parity_of f ≡ parity_of g)
round-key f g n s = at (face-sorted f n)
  where
    at : Sorted f.a f.b f.c → (key_of f ≡ key_of g) × (parity_of f ≡ parity_of g)
    at (even x y z p q r) =
        let h = even-key x y z p q r in
        let k = even-key x y z p q (round-then r s) in
        (h.0 ∙ sym k.0, h.1 ∙ sym k.1)
    at (odd x y z p q r) =
        let h = odd-key x y z p q r in
        let k = odd-key x y z p q (round-then r s) in
        (h.0 ∙ sym k.0, h.1 ∙ sym k.1)

-- and a triangle with the same key and parity is the turned one
pub key-round : (f g : Triple) → Nodup (corners_of f) → Nodup (corners_of g) → key_of f ≡ key_of g → parity_of f ≡ parity_of g → Round f.a f.b f.c g.a g.b g.c
key-round f g n m k e = at (face-sorted f n) (face-sorted g m)
  where
    -- from the corners of f's key to those of g's
    moved : (x y z x' y' z' : ℕ) → triple x y z ≡ triple x' y' z' → (F : ℕ → ℕ → ℕ → Type 0) → F x' y' z' → F x y z
    moved x y z x' y' z' e F h = subst (λ (t : Triple). F t.a t.b t.c) (sym e) h

    differ : ◌≡◌ {A = ℕ} 0 1 → ⊥
    differ e = omega arith

    at : Sorted f.a f.b f.c → Sorted g.a g.b g.c → Round f.a f.b f.c g.a g.b g.c
    at (even x y z p q r) (even x' y' z' p' q' r') =
        let h = even-key x y z p q r in
        let h' = even-key x' y' z' p' q' r' in
        round-then (round-back r) (moved x y z x' y' z' (sym h.0 ∙ (k ∙ h'.0)) (λ u v w. Round u v w g.a g.b g.c) r')
    at (odd x y z p q r) (odd x' y' z' p' q' r') =
        let h = odd-key x y z p q r in
        let h' = odd-key x' y' z' p' q' r' in
        round-then (round-back r) (moved x y z x' y' z' (sym h.0 ∙ (k ∙ h'.0)) (λ u v w. Round u w v g.a g.b g.c) r')
    at (even x y z p q r) (odd x' y' z' p' q' r') = absurd (differ (sym (even-key x y z p q r).1 ∙ (e ∙ (odd-key x' y' z' p' q' r').1)))
    at (odd x y z p q r) (even x' y' z' p' q' r') = absurd (differ (sym (even-key x' y' z' p' q' r').1 ∙ (sym e ∙ (odd-key x y z p q r).1)))

-- a vertex that a triangle lacks, the turned one lacks
pub round-lacks : {x a b c u v w : ℕ} → Round a b c u v w → x ≢ a → x ≢ b → x ≢ c → (x ≢ u) × (x ≢ v) × (x ≢ w)
round-lacks stay p q r = (p, q, r)
round-lacks once p q r = (q, r, p)
round-lacks twice p q r = (r, p, q)

-- ---- the faces of an element

-- x y z is a face of the element, turned round
pub record Shown (t : Tet) (x y z : ℕ) : Type 0 where
  pub face : Triple
  pub here : Memᴰ face (faces_of t)
  pub round : Round face.a face.b face.c x y z

shown-on : {t : Tet} {x y z : ℕ} → Shown t x y z → Shown t y z x
shown-on s = record { face = s.face; here = s.here; round = on s.round }

-- the four faces of p u v w, by their apexes
record Faces (t : Tet) (p u v w : ℕ) : Type 0 where
  of-p : Shown t u v w
  of-u : Shown t p w v
  of-v : Shown t p u w
  of-w : Shown t p v u

all_shown : (t : Tet) {p u v w : ℕ} → Turns t.a t.b t.c t.d p u v w → Faces t p u v w
all_shown t as_is = record {
  of-p = record { face = triple t.b t.c t.d; here = Memᴰ.tail (Memᴰ.tail (Memᴰ.tail (Memᴰ.head refl))); round = stay };
  of-u = record { face = triple t.a t.d t.c; here = Memᴰ.tail (Memᴰ.tail (Memᴰ.head refl)); round = stay };
  of-v = record { face = triple t.a t.b t.d; here = Memᴰ.head refl; round = stay };
  of-w = record { face = triple t.a t.c t.b; here = Memᴰ.tail (Memᴰ.head refl); round = stay };
}
all_shown t (turn s) = let r = all_shown t s in record { of-p = shown-on r.of-p; of-u = r.of-v; of-v = r.of-w; of-w = r.of-u }
all_shown t (cross s) = let r = all_shown t s in record { of-p = r.of-u; of-u = r.of-p; of-v = shown-on (shown-on r.of-w); of-w = shown-on r.of-v }

pub face-shown : (t : Tet) {p u v w : ℕ} → Turns t.a t.b t.c t.d p u v w → Shown t u v w
face-shown t s = (all_shown t s).of-p

-- each face has its apex
pub face-apex : (t : Tet) (f : Triple) → Memᴰ f (faces_of t) → (p : ℕ) × Turns t.a t.b t.c t.d p f.a f.b f.c
face-apex t f m = elim (Memᴰ.cases_cons m) [
  | inl e ↦ at t.c e (cross (turn as_is))
  | inr m₁ ↦ elim (Memᴰ.cases_cons m₁) [
    | inl e ↦ at t.d e (cross (turn (turn as_is)))
    | inr m₂ ↦ elim (Memᴰ.cases_cons m₂) [
      | inl e ↦ at t.b e (cross as_is)
      | inr m₃ ↦ elim (Memᴰ.cases_cons m₃) [ inl e ↦ at t.a e as_is | inr m₄ ↦ absurd (Memᴰ.not-nil m₄) ]
    ]
  ]
]
  where
    at : (p : ℕ) {g : Triple} → f ≡ g → Turns t.a t.b t.c t.d p g.a g.b g.c → (q : ℕ) × Turns t.a t.b t.c t.d q f.a f.b f.c
    at p e s = (p, subst (λ (h : Triple). Turns t.a t.b t.c t.d p h.a h.b h.c) (sym e) s)

-- turned round it has the same apex
pub round-turns : {a b c d p x y z u v w : ℕ} → Round x y z u v w → Turns a b c d p x y z → Turns a b c d p u v w
round-turns stay s = s
round-turns once s = turn s
round-turns twice s = turn (turn s)
