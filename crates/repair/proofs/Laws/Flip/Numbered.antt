-- Elements with four different vertices below n: those of four different numbers, those of a face and a vertex besides it, and oriented
-- ones. Assumes nothing.
use mathlib.Core.Path.{◌≡◌, refl, sym}
use mathlib.Core.Logic.{◌≢◌}
use mathlib.Core.Bool.{true, false}
use mathlib.Core.List.{List, [], ◌∷◌, map}
use Prim.Native.Nat.{ℕ, ◌<◌}
use borrow.Author.Tests.{ne_eqb, lt-ltb}
use Rattle.mesh.specs.declared.element.Tet.{Tet}
use Rattle.mesh.specs.Complex.{mem, Nodup}
use Rattle.mesh.specs.inside.Complex.{IsElement}
use Rattle.mesh.specs.Tests.{every}
use Rattle.mesh.specs.Element.{tet, vertices_of}
use Rattle.mesh.specs.Intake.{well_numbered}
use Rattle.mesh.specs.Measure.{Measure}
use Rattle.mesh.proofs.Laws.Bools.{and_intro}
use Rattle.mesh.proofs.Laws.Complex.Sets.{and-fst, and-snd, mem-here, mem-there, out-head, out-tail}
use Rattle.repair.specs.Flip.{oriented}
use Rattle.repair.proofs.Laws.Improve.Intake.{numbered-element}
use Rattle.repair.proofs.Laws.Flip.Replace.{turned}

-- four different vertices
pub four-numbered : (n a b u v : ℕ) → a < n → b < n → u < n → v < n → a ≢ b → a ≢ u → a ≢ v → b ≢ u → b ≢ v → u ≢ v → well_numbered n (tet a b u v) ≡ true
four-numbered n a b u v ha hb hu hv ab au av bu bv uv =
    rw (lt-ltb a n ha, lt-ltb b n hb, lt-ltb u n hu, lt-ltb v n hv, ne_eqb a b ab, ne_eqb a u au, ne_eqb a v av, ne_eqb b u bu, ne_eqb b v bv, ne_eqb u v uv) refl

-- three different vertices and one that is none of them
pub well-made : (n u v w d : ℕ) → Nodup (u ∷ v ∷ w ∷ []) → u < n → v < n → w < n → d < n → mem d (u ∷ v ∷ w ∷ []) ≡ false → well_numbered n (tet u v w d) ≡ true
well-made n u v w d r hu hv hw hd o =
    let du = out-head d u (v ∷ w ∷ []) o in
    let dv = out-head d v (w ∷ []) (out-tail d u (v ∷ w ∷ []) o) in
    let dw = out-head d w [] (out-tail d v (w ∷ []) (out-tail d u (v ∷ w ∷ []) o)) in
    four-numbered n u v w d hu hv hw hd (out-head u v (w ∷ []) r.0) (out-head u w [] (out-tail u v (w ∷ []) r.0)) (λ q. du (sym q)) (out-head v w [] r.1.0)
    (λ q. dv (sym q)) (λ q. dw (sym q))

-- the vertices of an element
element-numbered : (n : ℕ) (t : Tet) → IsElement n (vertices_of t) → well_numbered n t ≡ true
element-numbered n t e =
    let l = e.below in
    let d = e.distinct in
    rw (
      lt-ltb t.a n (l t.a (mem-here t.a (t.b ∷ t.c ∷ t.d ∷ []))),
      lt-ltb t.b n (l t.b (mem-there t.b t.a (t.b ∷ t.c ∷ t.d ∷ []) (mem-here t.b (t.c ∷ t.d ∷ [])))),
      lt-ltb t.c n (l t.c (mem-there t.c t.a (t.b ∷ t.c ∷ t.d ∷ []) (mem-there t.c t.b (t.c ∷ t.d ∷ []) (mem-here t.c (t.d ∷ []))))),
      lt-ltb t.d n (l t.d (mem-there t.d t.a (t.b ∷ t.c ∷ t.d ∷ []) (mem-there t.d t.b (t.c ∷ t.d ∷ []) (mem-there t.d t.c (t.d ∷ []) (mem-here t.d []))))),
      d.0,
      d.1.0,
      d.1.1.0,
    ) refl

-- oriented elements
pub oriented-numbered : (μ : Measure) (n : ℕ) (ts : List Tet) → every (well_numbered n) ts ≡ true → every (well_numbered n) (map (oriented μ) ts) ≡ true
oriented-numbered μ n [] h = refl
oriented-numbered μ n (t ∷ ts) h =
    and_intro (well_numbered n (oriented μ t)) (every (well_numbered n) (map (oriented μ) ts))
    (element-numbered n (oriented μ t) ((turned μ t).element n (numbered-element n t (and-fst (well_numbered n t) (every (well_numbered n) ts) h))))
    (oriented-numbered μ n ts (and-snd (well_numbered n t) (every (well_numbered n) ts) h))
