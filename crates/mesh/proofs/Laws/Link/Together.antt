-- What `link_ok` lets pass may be collapsed: its interior and boundary tests give the record `Collapsible`, on which the laws of
-- Complex/Collapse.antt rest. Assumes nothing.
use Rattle.std.proofs.Common.{◌≡◌, ℕ, true, false, ◌&&◌, ◌≢◌, List, [], ◌∷◌, map, sym, refl, ◌∙◌, subst}
use mathlib.Core.List.{Memᴰ}
use Rattle.mesh.specs.declared.element.Tet.{Tet}
use Rattle.mesh.specs.Complex.{mem, within, keep, Sub}
use Rattle.mesh.specs.inside.Moves.{Collapsible}
use Rattle.mesh.specs.Element.{vertices_of}
use Rattle.mesh.specs.Link.{interior_ok, boundary_about, boundary_ok}
use Rattle.mesh.specs.Feature.{feature_ok, link_ok}
use Rattle.mesh.proofs.Laws.Complex.Sets.{nope, clash, and-fst, and-snd, mem-here, mem-there, mem-nil, Sub-both, within-elim, within-mono, keep-mem, keep-nodup}
use Rattle.mesh.proofs.Laws.Link.Links.{Simplices, LinksMeet}
use Rattle.mesh.proofs.Laws.Link.Keys.{Fours}
use Rattle.mesh.proofs.Laws.Link.Interior.{fours-simplices, interior-exact}
use Rattle.mesh.proofs.Laws.Link.Boundary.{boundary-apart}

module _ (a b : ℕ) (es : List (List ℕ)) (S : Simplices es) (f : LinksMeet a b es) where
  -- links that meet, of lists in which a vertex may stand twice: those of an element's vertices that are in σ stand there once
  meets-once : (x : ℕ) (σ e : List ℕ) → Memᴰ e es → Sub (a ∷ x ∷ σ) e → mem a (x ∷ σ) ≡ false → mem b (x ∷ σ) ≡ false → within (a ∷ x ∷ σ) es ≡ true → within (b ∷ x ∷ σ) es ≡ true → within (a ∷ b ∷ x ∷ σ) es ≡ true
  meets-once x σ e m s oa ob wa wb =
      within-mono (a ∷ b ∷ x ∷ σ) (a ∷ b ∷ ς) es (Sub-both a (b ∷ x ∷ σ) (b ∷ ς) (Sub-both b (x ∷ σ) ς there))
      (sym (f ς filled (keep-nodup (λ z. mem z (x ∷ σ)) e (S e m).0) (lacks a oa) (lacks b ob)) ∙ rw (forth a wa, forth b wb) refl)
    where
      ς : List ℕ
      ς = keep (λ z. mem z (x ∷ σ)) e

      there : Sub (x ∷ σ) ς
      there z i = keep-mem (λ y. mem y (x ∷ σ)) e z ∙ rw (s z (mem-there z a (x ∷ σ) i), i) refl

      back : Sub ς (x ∷ σ)
      back z i = and-snd (mem z e) (mem z (x ∷ σ)) (sym (keep-mem (λ y. mem y (x ∷ σ)) e z) ∙ i)

      filled : ς ≢ []
      filled q = mem-nil x (subst (λ l. mem x l ≡ true) q (there x (mem-here x σ)))

      lacks : (v : ℕ) → mem v (x ∷ σ) ≡ false → mem v ς ≡ false
      lacks v o = nope (λ i. clash (back v i) o)

      forth : (v : ℕ) → within (v ∷ x ∷ σ) es ≡ true → within (v ∷ ς) es ≡ true
      forth v w = within-mono (v ∷ ς) (v ∷ x ∷ σ) es (Sub-both v ς (x ∷ σ) back) w

  -- so it holds of every list of vertices
  pub meets-all : (σ : List ℕ) → σ ≢ [] → mem a σ ≡ false → mem b σ ≡ false → within (a ∷ σ) es ≡ true → within (b ∷ σ) es ≡ true → within (a ∷ b ∷ σ) es ≡ true
  meets-all [] n oa ob wa wb = absurd (n refl)
  meets-all (x ∷ σ) n oa ob wa wb = let r = within-elim (a ∷ x ∷ σ) es wa in meets-once x σ r.0 r.1 r.2 oa ob wa wb

-- an edge that passes the interior and the boundary test may be collapsed
pub link-collapsible : (a b : ℕ) (ts : List Tet) → Fours ts → a ≢ b → within (a ∷ b ∷ []) (map vertices_of ts) ≡ true → interior_ok a b ts ≡ true → boundary_ok a b ts ≡ true → Collapsible a b (map vertices_of ts)
link-collapsible a b ts P ab w i k =
    record {
      differ = ab;
      edge = w;
      link = meets-all a b (map vertices_of ts) (fours-simplices ts P) ((interior-exact a b ts P).0 i);
      inner = boundary-apart a b ts P ab k;
    }

-- the same of `link_ok` as a whole
pub link_ok-collapsible : (stratum : ℕ → ℕ) (a b : ℕ) (ts : List Tet) → Fours ts → a ≢ b → within (a ∷ b ∷ []) (map vertices_of ts) ≡ true → link_ok stratum a b ts ≡ true → Collapsible a b (map vertices_of ts)
unfolding link_ok
link_ok-collapsible stratum a b ts P ab w h =
    let k = and-snd (interior_ok a b ts) (boundary_ok a b ts && feature_ok stratum a b (boundary_about a b ts)) h in
    link-collapsible a b ts P ab w (and-fst (interior_ok a b ts) (boundary_ok a b ts && feature_ok stratum a b (boundary_about a b ts)) h) (and-fst (boundary_ok a b ts) (feature_ok stratum a b (boundary_about a b ts)) k)
