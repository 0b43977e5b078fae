-- The lists of elements after a flip, the new elements oriented: as good as the list before. Assumes nothing.
use mathlib.Core.Bool.{not}
use mathlib.Core.List.{List, [], ◌∷◌, ◌++◌, map}
use Prim.Native.Nat.{ℕ}
use native.Mathlib.Omega.{arith}
use Rattle.mesh.specs.Complex.{sub, keep}
use Rattle.mesh.specs.inside.Complex.{Proper}
use Rattle.mesh.specs.inside.Moves.{Flippable23, Flippable32}
use Rattle.mesh.specs.Element.{tet, vertices_of}
use Rattle.mesh.specs.Measure.{Measure}
use Rattle.mesh.proofs.Laws.Complex.Flip.{flip23-proper, flip23-count, flip32-proper, flip32-count}
use Rattle.mesh.proofs.Laws.Link.Closed.{AtMostTwo}
use Rattle.repair.specs.Flip.{oriented}
use Rattle.repair.proofs.Laws.Flip.Replace.{AsGood, two-to-three, three-to-two, turned, all-turned, rearranged}
use Rattle.repair.proofs.Laws.Flip.Five.{thin23, thin32}

module _ (μ : Measure) (n a b u v w : ℕ) (es : List (List ℕ)) (P : Proper n es) (thin : AtMostTwo es) where
  pub flipped23 : Flippable23 a b u v w es
      → AsGood n es (keep (λ e. not (sub (u ∷ v ∷ w ∷ []) e)) es ++ map vertices_of (map (oriented μ) (tet a b u v ∷ tet a b v w ∷ tet a b w u ∷ [])))
  flipped23 c =
      let ts = tet a b u v ∷ tet a b v w ∷ tet a b w u ∷ [] in
      let R = keep (λ e. not (sub (u ∷ v ∷ w ∷ []) e)) es in
      let r = rearranged n (map vertices_of ts) (map vertices_of (map (oriented μ) ts)) R (all-turned μ ts) (flip23-proper a b u v w c.five n es P c) in
      let k = flip23-count a b u v w c.five n es P c in
      let l = r.1 in
      record {
        proper = r.0;
        count = omega arith;
        flip = two-to-three a b u v w c r.2;
        thin = thin23 a b u v w c.five es c thin (vertices_of (oriented μ (tet a b u v))) (vertices_of (oriented μ (tet a b v w))) (vertices_of (oriented μ (tet a b w u)))
            (turned μ (tet a b u v)).alike (turned μ (tet a b v w)).alike (turned μ (tet a b w u)).alike;
      }

  pub flipped32 : Flippable32 a b u v w es
      → AsGood n es (keep (λ e. not (sub (a ∷ b ∷ []) e)) es ++ map vertices_of (map (oriented μ) (tet u v w a ∷ tet u v w b ∷ [])))
  flipped32 c =
      let ts = tet u v w a ∷ tet u v w b ∷ [] in
      let R = keep (λ e. not (sub (a ∷ b ∷ []) e)) es in
      let r = rearranged n (map vertices_of ts) (map vertices_of (map (oriented μ) ts)) R (all-turned μ ts) (flip32-proper a b u v w c.five n es P c) in
      let k = flip32-count a b u v w c.five n es P c in
      let l = r.1 in
      record {
        proper = r.0;
        count = omega arith;
        flip = three-to-two a b u v w c r.2;
        thin = thin32 a b u v w c.five es c thin (vertices_of (oriented μ (tet u v w a))) (vertices_of (oriented μ (tet u v w b))) (turned μ (tet u v w a)).alike (turned μ (tet u v w b)).alike;
      }
