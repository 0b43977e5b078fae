-- A pair's tests from its words to the answer. Assumes nothing.
use mathlib.Core.Path.{◌≡◌, sym, ap, ap₂, subst, ◌∙◌}
use mathlib.Core.Bool.{Bool, true}
use mathlib.Core.List.{List}
use Prim.Native.Nat.{ℕ, ◌+◌, ◌*◌, ◌≤◌, ◌<◌}
use lib.ListN.{length, drop}
use Rattle.geometry.specs.declared.point.Point.{Point}
use Rattle.geometry.specs.declared.bounds.Bounds.{Bounds}
use Rattle.geometry.specs.declared.bounds.Options.{Options}
use Rattle.mesh.specs.declared.star.Index.{Index}
use Rattle.mesh.specs.Words.{word_at}
use Rattle.mesh.specs.Tests.{every, nodup}
use Rattle.mesh.specs.Element.{pair, tets, vertices_of}
use Rattle.mesh.specs.Feature as strata
use Rattle.mesh.specs.inside.Star.{star_list, starred}
use Rattle.mesh.specs.inside.About.{elements_in}
use Rattle.repair.specs.Mesh.{Mesh}
use Rattle.repair.specs.Improve.{State, stratum_rule, pair_ok}
use Rattle.repair.specs.inside.Layout.{Room, Stands, Same, pairs_at}
use Rattle.repair.specs.inside.improve.PairTest.{elements_link}
use Rattle.repair.proofs.Laws.PairOk.Gathered.{Gathered, gathered, gathered-ready, gathered-pair, gathered-same}

module _ (x : Index) (n p : ℕ) (w : List ℕ)
    (asked : Room x n (length w) × (p < x.vertices) × (word_at w (pairs_at x + 2 * p) < x.vertices) × (word_at w (pairs_at x + 2 * p + 1) < x.vertices))
    (some : (o : Options) × (m : Mesh) × (s : State) × Stands o m x n w s)
    (from a b : ℕ) (place : from ≡ pairs_at x) (first : a ≡ word_at w (from + 2 * p)) (second : b ≡ word_at w (from + 2 * p + 1)) where
  ea : a ≡ word_at w (pairs_at x + 2 * p)
  ea = first ∙ ap (λ (i : ℕ). word_at w (i + 2 * p)) place

  eb : b ≡ word_at w (pairs_at x + 2 * p + 1)
  eb = second ∙ ap (λ (i : ℕ). word_at w (i + 2 * p + 1)) place

  pub both_below : (a < x.vertices) × (b < x.vertices)
  both_below = (subst (λ (u : ℕ). u < x.vertices) (sym ea) asked.2, subst (λ (u : ℕ). u < x.vertices) (sym eb) asked.3)

  -- the pair p
  abbrev here : (o : Options) (m : Mesh) (s : State) → Bool
  here o m s = pair_ok o m s.elements (pair (word_at w (pairs_at x + 2 * p)) (word_at w (pairs_at x + 2 * p + 1)))

  read : (o : Options) (m : Mesh) (s : State) → pair_ok o m s.elements (pair a b) ≡ here o m s
  read o m s = ap₂ (λ (u v : ℕ). pair_ok o m s.elements (pair u v)) ea eb

  module _ (k : ℕ) (w₁ w₂ : List ℕ) (ek : k ≡ length (star_list x w a b)) (e₁ : w₁ ≡ starred x w a b) (e₂ : w₂ ≡ elements_in x k w₁) where
    found : Gathered x n a b w w₂ k
    found = gathered x n a b w asked.0 both_below.0 both_below.1 some.3.index k w₁ w₂ ek e₁ e₂

    -- the elements may be tested
    pub ready : (x.area + k ≤ 4194304) × (k ≤ 16384) × (x.area + k + 88 * k ≤ length w₂) × (every (λ e. nodup (vertices_of e)) (tets k (drop (x.area + k) w₂)) ≡ true)
    ready = gathered-ready x n a b w asked.0 both_below.0 both_below.1 w₂ k found some.0 some.1 some.2 some.3

    -- their test is the pair's
    pub decided : (o : Options) (m : Mesh) (s : State) (ms : List ℕ) (ps : List Point) (d : Bounds) → o.bounds ≡ d → m.masks ≡ ms → m.parameters ≡ ps
        → stratum_rule o m a b ≡ true → Stands o m x n w s → elements_link (strata.stratum_of ms ps d) a b (tets k (drop (x.area + k) w₂)) ≡ here o m s
    decided o m s ms ps d hb hm hp h z =
        let ts = tets k (drop (x.area + k) w₂) in
        ap (λ (e : Bounds). elements_link (strata.stratum_of ms ps e) a b ts) (sym hb)
        ∙ ap₂ (λ (l : List ℕ) (q : List Point). elements_link (strata.stratum_of l q o.bounds) a b ts) (sym hm) (sym hp)
        ∙ gathered-pair x n a b w asked.0 both_below.0 both_below.1 w₂ k found o m s z h ∙ read o m s

    -- it leaves all before the area
    pub left : (w₃ : List ℕ) → Same w₂ w₃ (x.area + k) (x.area + k + 88 * k) → Same w w₃ x.area (length w)
    left = gathered-same x n a b w asked.0 both_below.0 both_below.1 w₂ k found
