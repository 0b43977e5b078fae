-- The orientation of an element. Two exchanges of vertices leave it as it is: p u v w, p v w u and u p w v are one oriented element. Its
-- faces are u v w against p, and so on by those two rules; each has an apex, the vertex against it. Assumes nothing.
use mathlib.Core.Path.{◌≡◌, refl, sym, subst, subst₂}
use mathlib.Core.Logic.{◌≢◌, ◌⊎◌, inl, inr}
use mathlib.Core.Bool.{true}
use mathlib.Core.List.{[], ◌∷◌}
use Prim.Native.Nat.{ℕ}
use Rattle.mesh.specs.Complex.{mem, Nodup}
use Rattle.mesh.proofs.Laws.Complex.Sets.{mem-here, mem-there, mem-cases, mem-nil, out-head, out-tail}
use Rattle.mesh.proofs.Laws.Link.Keys.{flip≢}

-- p u v w is the oriented element a b c d: p the apex of the face u v w
pub data Turns (a b c d : ℕ) : ℕ → ℕ → ℕ → ℕ → Type 0 where
  as_is : Turns a b c d a b c d
  turn : {p u v w : ℕ} → Turns a b c d p u v w → Turns a b c d p v w u
  cross : {p u v w : ℕ} → Turns a b c d p u v w → Turns a b c d u p w v

-- ---- the vertices

-- x is one of four
pub data One (x p u v w : ℕ) : Type 0 where
  first : x ≡ p → One x p u v w
  second : x ≡ u → One x p u v w
  third : x ≡ v → One x p u v w
  fourth : x ≡ w → One x p u v w

pub one-mem : {x p u v w : ℕ} → One x p u v w → mem x (p ∷ u ∷ v ∷ w ∷ []) ≡ true
one-mem {x} {p} {u} {v} {w} (first e) = rw e (mem-here p (u ∷ v ∷ w ∷ []))
one-mem {x} {p} {u} {v} {w} (second e) = rw e (mem-there u p (u ∷ v ∷ w ∷ []) (mem-here u (v ∷ w ∷ [])))
one-mem {x} {p} {u} {v} {w} (third e) = rw e (mem-there v p (u ∷ v ∷ w ∷ []) (mem-there v u (v ∷ w ∷ []) (mem-here v (w ∷ []))))
one-mem {x} {p} {u} {v} {w} (fourth e) = rw e (mem-there w p (u ∷ v ∷ w ∷ []) (mem-there w u (v ∷ w ∷ []) (mem-there w v (w ∷ []) (mem-here w []))))

pub mem-one : (x p u v w : ℕ) → mem x (p ∷ u ∷ v ∷ w ∷ []) ≡ true → One x p u v w
mem-one x p u v w m = elim (mem-cases x p (u ∷ v ∷ w ∷ []) m) [
  | inl e ↦ first e
  | inr m₁ ↦ elim (mem-cases x u (v ∷ w ∷ []) m₁) [
    | inl e ↦ second e
    | inr m₂ ↦ elim (mem-cases x v (w ∷ []) m₂) [
      | inl e ↦ third e
      | inr m₃ ↦ elim (mem-cases x w [] m₃) [ inl e ↦ fourth e | inr m₄ ↦ absurd (mem-nil x m₄) ]
    ]
  ]
]

one-turn : {x p u v w : ℕ} → One x p u v w → One x p v w u
one-turn (first e) = first e
one-turn (second e) = fourth e
one-turn (third e) = second e
one-turn (fourth e) = third e

one-cross : {x p u v w : ℕ} → One x p u v w → One x u p w v
one-cross (first e) = second e
one-cross (second e) = first e
one-cross (third e) = fourth e
one-cross (fourth e) = third e

-- the same four, there and back
pub turned : {x a b c d p u v w : ℕ} → Turns a b c d p u v w → One x a b c d → One x p u v w
turned as_is i = i
turned (turn t) i = one-turn (turned t i)
turned (cross t) i = one-cross (turned t i)

pub back : {x a b c d p u v w : ℕ} → Turns a b c d p u v w → One x p u v w → One x a b c d
back as_is i = i
back (turn t) i = back t (one-turn (one-turn i))
back (cross t) i = back t (one-cross i)

-- four different vertices, pair by pair
pub record Different (p u v w : ℕ) : Type 0 where
  pub pu : p ≢ u
  pub pv : p ≢ v
  pub pw : p ≢ w
  pub uv : u ≢ v
  pub uw : u ≢ w
  pub vw : v ≢ w

pub nodup-different : (a b c d : ℕ) → Nodup (a ∷ b ∷ c ∷ d ∷ []) → Different a b c d
nodup-different a b c d n =
    let n₁ = out-tail a b (c ∷ d ∷ []) n.0 in
    record {
      pu = out-head a b (c ∷ d ∷ []) n.0;
      pv = out-head a c (d ∷ []) n₁;
      pw = out-head a d [] (out-tail a c (d ∷ []) n₁);
      uv = out-head b c (d ∷ []) n.1.0;
      uw = out-head b d [] (out-tail b c (d ∷ []) n.1.0);
      vw = out-head c d [] n.1.1.0;
    }

pub turned-different : {a b c d p u v w : ℕ} → Turns a b c d p u v w → Different a b c d → Different p u v w
turned-different as_is n = n
turned-different (turn t) n =
    let r = turned-different t n in
    record { pu = r.pv; pv = r.pw; pw = r.pu; uv = r.vw; uw = flip≢ r.uv; vw = flip≢ r.uw }
turned-different (cross t) n =
    let r = turned-different t n in
    record { pu = flip≢ r.pu; pv = r.uw; pw = r.uv; uv = r.pw; uw = r.pv; vw = flip≢ r.vw }

-- a face of an element has one apex
pub one-apex : {a b c d p q u v w : ℕ} → Different a b c d → Turns a b c d p u v w → Turns a b c d q u v w → p ≡ q
one-apex n s t = let r = turned-different s n in at r (turned t (back s (first refl)))
  where
    at : {p q u v w : ℕ} → Different p u v w → One p q u v w → p ≡ q
    at r (first e) = e
    at r (second e) = absurd (r.pu e)
    at r (third e) = absurd (r.pv e)
    at r (fourth e) = absurd (r.pw e)

-- ---- both orientations of four vertices

-- each vertex is an apex
front : (a b c d p : ℕ) → One p a b c d → (u : ℕ) × (v : ℕ) × (w : ℕ) × Turns a b c d p u v w
front a b c d p (first e) = rw e (b, c, d, as_is)
front a b c d p (second e) = rw e (a, d, c, cross as_is)
front a b c d p (third e) = rw e (a, b, d, cross (turn as_is))
front a b c d p (fourth e) = rw e (a, c, b, cross (turn (turn as_is)))

-- and the next any of the other three
next : {a b c d p x y z : ℕ} (u : ℕ) → u ≢ p → Turns a b c d p x y z → One u p x y z → (v : ℕ) × (w : ℕ) × Turns a b c d p u v w
next u n t (first e) = absurd (n e)
next {y} {z} u n t (second e) = rw e (y, z, t)
next {x} {z} u n t (third e) = rw e (z, x, turn t)
next {x} {y} u n t (fourth e) = rw e (x, y, turn (turn t))

-- an element with the vertices p u v w is oriented as they stand, or with the last two exchanged
pub either : (a b c d p u v w : ℕ) → Different p u v w → One p a b c d → One u a b c d → One v a b c d → One w a b c d → Turns a b c d p u v w ⊎ Turns a b c d p u w v
either a b c d p u v w n ip iu iv iw =
    let f = front a b c d p ip in
    let g = next u (flip≢ n.pu) f.3 (turned f.3 iu) in
    last g.0 g.1 g.2 (turned g.2 iv) (turned g.2 iw)
  where
    fourth-is : (y : ℕ) → One w p u v y → w ≡ y
    fourth-is y (first e) = absurd (n.pw (sym e))
    fourth-is y (second e) = absurd (n.uw (sym e))
    fourth-is y (third e) = absurd (n.vw (sym e))
    fourth-is y (fourth e) = e

    third-is : (y : ℕ) → One w p u y v → w ≡ y
    third-is y (first e) = absurd (n.pw (sym e))
    third-is y (second e) = absurd (n.uw (sym e))
    third-is y (third e) = e
    third-is y (fourth e) = absurd (n.vw (sym e))

    last : (y z : ℕ) → Turns a b c d p u y z → One v p u y z → One w p u y z → Turns a b c d p u v w ⊎ Turns a b c d p u w v
    last y z t (first e) j = absurd (n.pv (sym e))
    last y z t (second e) j = absurd (n.uv (sym e))
    last y z t (third e) j =
        let k : w ≡ z = fourth-is z (subst (λ x. One w p u x z) (sym e) j) in
        inl (subst₂ (λ x x'. Turns a b c d p u x x') (sym e) (sym k) t)
    last y z t (fourth e) j =
        let k : w ≡ y = third-is y (subst (λ x. One w p u y x) (sym e) j) in
        inr (subst₂ (λ x x'. Turns a b c d p u x x') (sym k) (sym e) t)

-- ---- images of the vertices

-- p' u' v' w' are the images of an orientation of a b c d
pub record Origin (ρ : ℕ → ℕ) (a b c d p' u' v' w' : ℕ) : Type 0 where
  pub p : ℕ
  pub u : ℕ
  pub v : ℕ
  pub w : ℕ
  pub turns : Turns a b c d p u v w
  pub at_p : p' ≡ ρ p
  pub at-u : u' ≡ ρ u
  pub at-v : v' ≡ ρ v
  pub at-w : w' ≡ ρ w

pub origin : (ρ : ℕ → ℕ) (a b c d : ℕ) {p' u' v' w' : ℕ} → Turns (ρ a) (ρ b) (ρ c) (ρ d) p' u' v' w' → Origin ρ a b c d p' u' v' w'
origin ρ a b c d as_is = record { p = a; u = b; v = c; w = d; turns = as_is; at_p = refl; at-u = refl; at-v = refl; at-w = refl }
origin ρ a b c d (turn t) =
    let r = origin ρ a b c d t in
    record { p = r.p; u = r.v; v = r.w; w = r.u; turns = turn r.turns; at_p = r.at_p; at-u = r.at-v; at-v = r.at-w; at-w = r.at-u }
origin ρ a b c d (cross t) =
    let r = origin ρ a b c d t in
    record { p = r.u; u = r.p; v = r.w; w = r.v; turns = cross r.turns; at_p = r.at-u; at-u = r.at_p; at-v = r.at-w; at-w = r.at-v }
