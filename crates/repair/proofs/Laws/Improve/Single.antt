-- Where no two vertices have the same ranks, each vertex is alone in its group. So the pairs by which a goes into b are the one pair
-- (a, b), wherever `may_go` lets it go. Assumes nothing.
use mathlib.Core.Path.{◌≡◌, refl, sym, ap, subst, subst₂, ◌∙◌}
use mathlib.Core.Logic.{inl, inr}
use mathlib.Core.Bool.{Bool, true, false, cond, ◌&&◌, true≢false}
use mathlib.Core.List.{List, [], ◌∷◌}
use Prim.Native.Nat.{ℕ, zero, suc, ◌+◌, ◌≤◌, ◌<◌}
use native.Mathlib.Omega.{arith}
use borrow.Author.Tests.{eqb-true, eqb-false, eq-eqb}
use lib.Dec.{eqb}
use lib.ListN.{length}
use Rattle.geometry.specs.declared.point.Point.{Point}
use Rattle.geometry.specs.declared.bounds.Options.{Options}
use Rattle.geometry.specs.declared.bounds.Ranks.{Ranks}
use Rattle.mesh.specs.Complex.{mem, keep}
use Rattle.mesh.specs.Tests.{every}
use Rattle.mesh.specs.Element.{pair}
use Rattle.mesh.specs.Words.{numbers}
use Rattle.mesh.specs.Group.{same_ranks, rank_of, group_of}
use Rattle.mesh.specs.declared.element.Pair.{Pair}
use Rattle.mesh.specs.Measure.{Measure}
use Rattle.mesh.proofs.Laws.Complex.Sets.{split, nope, and-fst, and-snd}
use Rattle.repair.specs.Mesh.{Mesh}
use Rattle.repair.specs.Improve.{State, cap_of, stratum_rule, active_group, partner, partners, pair_off, pair_ok, about, collapsed, gains, pairs_for, may_go}

-- no two vertices have the same rank in all three directions
abbrev pub Distinct : Options → List Point → Type 0
Distinct o ps = (v w : ℕ) → v < length ps → w < length ps → rank_of o ps v ≡ rank_of o ps w → v ≡ w

-- ---- the one number that passes a test

keep-none : (p : ℕ → Bool) (k n : ℕ) → ((w : ℕ) → k ≤ w → w < k + n → p w ≡ false) → keep p (numbers k n) ≡ []
unfolding numbers
keep-none p k zero h = refl
keep-none p k (suc n) h = rw (h k (omega arith) (omega arith)) (keep-none p (k + 1) n (λ w l u. h w (omega arith) (omega arith)))

keep-only : (p : ℕ → Bool) (k n v : ℕ) → k ≤ v → v < k + n → p v ≡ true → ((w : ℕ) → w < k + n → p w ≡ true → w ≡ v) → keep p (numbers k n) ≡ v ∷ []
unfolding numbers
keep-only p k zero v l u h only = absurd (omega arith)
keep-only p k (suc n) v l u h only =
    elim (split (eqb k v)) [
      | inl q ↦
          let e : k ≡ v = eqb-true k v q in
          let t : p k ≡ true = ap p e ∙ h in
          let r : keep p (numbers (k + 1) n) ≡ [] = keep-none p (k + 1) n (λ w a b. nope (λ z. let s : w ≡ v = only w (omega arith) z in omega arith)) in
          rw t (rw r (ap (λ z. z ∷ []) e))
      | inr q ↦
          let ne = eqb-false k v q in
          let t : p k ≡ false = nope (λ z. ne (only k (omega arith) z)) in
          rw t (keep-only p (k + 1) n v (omega arith) (omega arith) h (λ w b z. only w (omega arith) z))
    ]

-- ---- groups

pub ranks-sound : (r s : Ranks) → same_ranks r s ≡ true → r ≡ s
ranks-sound r s h =
    let k = and-snd (eqb r.x s.x) (eqb r.y s.y && eqb r.z s.z) h in
    join r.x r.y r.z s.x s.y s.z
    (eqb-true r.x s.x (and-fst (eqb r.x s.x) (eqb r.y s.y && eqb r.z s.z) h))
    (eqb-true r.y s.y (and-fst (eqb r.y s.y) (eqb r.z s.z) k))
    (eqb-true r.z s.z (and-snd (eqb r.y s.y) (eqb r.z s.z) k))
  where
    join : (a b c a' b' c' : ℕ) → a ≡ a' → b ≡ b' → c ≡ c' → ◌≡◌ {A = Ranks} (record { x = a; y = b; z = c }) (record { x = a'; y = b'; z = c' })
    join a b c a' b' c' p q r = rw (p, q, r) refl

pub ranks-refl : (r : Ranks) → same_ranks r r ≡ true
ranks-refl r = rw (eq-eqb r.x r.x refl, eq-eqb r.y r.y refl, eq-eqb r.z r.z refl) refl

-- each vertex is alone in its group
pub single-group : (o : Options) (ps : List Point) → Distinct o ps → (v : ℕ) → v < length ps → group_of o ps v ≡ v ∷ []
single-group o ps d v l =
    keep-only (λ w. same_ranks (rank_of o ps w) (rank_of o ps v)) 0 (length ps) v (omega arith) (omega arith) (ranks-refl (rank_of o ps v))
    (λ w u h. d w v (omega arith) l (ranks-sound (rank_of o ps w) (rank_of o ps v) h))

-- ---- pairs

-- how many vertices a mesh has
abbrev pub size : Mesh → ℕ
size m = length m.parameters

module _ (o : Options) (m : Mesh) (d : Distinct o m.parameters) where
  -- a vertex that is not replaced is the one member of its group
  pub single-active : (replaced : List ℕ) (v : ℕ) → v < size m → mem v replaced ≡ false → active_group o m replaced v ≡ v ∷ []
  single-active replaced v l h = rw (single-group o m.parameters d v l) (rw h refl)

  -- one vertex with one: a pair if their caps are equal
  pub single-partners : (a b : ℕ) → partners o m (a ∷ []) (b ∷ []) ≡ cond (eqb (cap_of o m a) (cap_of o m b)) (pair a b ∷ []) []
  unfolding partners partner
  single-partners a b = elim (split (eqb (cap_of o m a) (cap_of o m b))) [ inl h ↦ rw h refl | inr h ↦ rw h refl ]

  -- what `may_go` says where the groups are single
  pub record Goes (μ : Measure) (s : State) (a b : ℕ) : Type 0 where
    pub pairs : pairs_for o m μ s a b ≡ pair a b ∷ []
    pub ok : pair_ok o m s.elements (pair a b) ≡ true
    pub gain : gains μ (about (pair a b ∷ []) s.elements) (collapsed (pair a b ∷ []) (about (pair a b ∷ []) s.elements)) ≡ true

  pub goes : (μ : Measure) (s : State) (a b : ℕ) → a < size m → b < size m → mem a s.replaced ≡ false → mem b s.replaced ≡ false → may_go o m μ s a b ≡ true → Goes μ s a b
  unfolding may_go
  goes μ s a b la lb ra rb h = by (eqb (cap_of o m a) (cap_of o m b)) here (and-snd (stratum_rule o m a b) (Rest (pairs_for o m μ s a b)) h)
    where
      here : pairs_for o m μ s a b ≡ cond (eqb (cap_of o m a) (cap_of o m b)) (pair a b ∷ []) []
      here = rw (single-active s.replaced a la ra, single-active s.replaced b lb rb) (single-partners a b)

      Tested : List Pair → Bool
      Tested es = every (pair_ok o m s.elements) es && gains μ (about es s.elements) (collapsed es (about es s.elements))

      Rest : List Pair → Bool
      Rest es = pair_off (active_group o m s.replaced a) (active_group o m s.replaced b) es && Tested es

      by : (t : Bool) → pairs_for o m μ s a b ≡ cond t (pair a b ∷ []) [] → Rest (pairs_for o m μ s a b) ≡ true → Goes μ s a b
      by true p r =
          let one : List Pair = pair a b ∷ [] in
          let q : Rest one ≡ true = subst (λ es. Rest es ≡ true) p r in
          let z : Tested one ≡ true = and-snd (pair_off (active_group o m s.replaced a) (active_group o m s.replaced b) one) (Tested one) q in
          record {
            pairs = p;
            ok = and-fst (pair_ok o m s.elements (pair a b)) true (and-fst (every (pair_ok o m s.elements) one) (gains μ (about one s.elements) (collapsed one (about one s.elements))) z);
            gain = and-snd (every (pair_ok o m s.elements) one) (gains μ (about one s.elements) (collapsed one (about one s.elements))) z;
          }
      by false p r =
          let q : Rest [] ≡ true = subst (λ es. Rest es ≡ true) p r in
          let z : pair_off (active_group o m s.replaced a) (active_group o m s.replaced b) [] ≡ true = and-fst (pair_off (active_group o m s.replaced a) (active_group o m s.replaced b) []) (Tested []) q in
          let y : pair_off (a ∷ []) (b ∷ []) [] ≡ true = subst₂ (λ vs ws. pair_off vs ws [] ≡ true) (single-active s.replaced a la ra) (single-active s.replaced b lb rb) z in
          absurd (true≢false (sym y))
