-- New vertex numbers keep the count, and so does another bound on the numbers.
-- Assumes nothing.
use Rattle.std.proofs.Common.{◌≡◌, ℕ, zero, suc, ◌+◌, true, false, List, [], ◌∷◌, map, length, sym, refl, ap, ◌∙◌, ap₂, inl, inr, arith, eq-eqb}
use mathlib.Core.List.{Memᴰ}
use lib.ListN.{length-map}
use Rattle.mesh.specs.Complex.{mem, within, keep, up_to, faces, Nodup, Sub}
use Rattle.mesh.specs.inside.Complex.{Proper, SameCount}
use Rattle.mesh.specs.inside.Moves.{Renumbers, renumber}
use Rattle.mesh.proofs.Laws.Complex.Sets.{split, clash, nope, same, or_left, and-snd, mem-here, mem-there, mem-cases, mem-nil, out, apart, Sub-cons, within-elim, within-intro, within-mono, rm, rm-out, rm-mem, rm-sub, rm-nodup, keep-mem, keep-nodup}
use Rattle.mesh.proofs.Laws.Complex.Lists.{map-elim, map-intro}
use Rattle.mesh.proofs.Laws.Complex.Sums.{bit, total, ind, total-cong, total-zero, faces-total, Sym, Sym-ind, Sym-cons, Sym-swap, first}
use Rattle.mesh.proofs.Laws.Complex.Tets.{up_to-mem, up_to-nodup, tet-of}

-- f is zero at each set with a vertex of vs that ws lacks
abbrev Idle : (List ℕ → ℕ) → List ℕ → List ℕ → Type 0
Idle f vs ws = (x : ℕ) → mem x vs ≡ true → mem x ws ≡ false → (σ : List ℕ) → f (x ∷ σ) ≡ 0

Idle-cons : (v : ℕ) (f : List ℕ → ℕ) (vs ws : List ℕ) → Sym f → Idle f vs ws → Idle (λ σ. f (v ∷ σ)) vs ws
Idle-cons v f vs ws s h x m o σ = Sym-swap v x f s σ ∙ h x m o (v ∷ σ)

-- a sum over the subsets depends only on the vertices that count
pub over_any : (k : ℕ) (vs ws : List ℕ) (f : List ℕ → ℕ) → Nodup vs → Nodup ws → Sym f → Idle f vs ws → Idle f ws vs → total k vs f ≡ total k ws f
over_any zero vs ws f dv dw s h g = refl
over_any (suc k) [] ws f dv dw s h g = sym (total-zero (suc k) ws dw zeros)
  where
    zeros : (σ : List ℕ) → length σ ≡ suc k → Nodup σ → Sub σ ws → f σ ≡ 0
    zeros [] l d t = absurd (omega arith)
    zeros (x ∷ σ) l d t = g x (t x (mem-here x σ)) refl σ
over_any (suc k) (v ∷ vs) ws f dv dw s h g =
    elim (split (mem v ws)) [
      | inl m ↦
          let h' : Idle f vs (rm v ws) = λ x i o. h x (mem-there x v vs i) (nope (λ q. clash (rm-mem v x ws (apart x v vs i dv.0) ∙ q) o)) in
          let g' : Idle f (rm v ws) vs = λ x i o. g x (rm-sub v x ws i) (out x v vs (apart x v (rm v ws) i (rm-out v ws)) o) in
          ap₂ ◌+◌ (over_any (suc k) vs (rm v ws) f dv.1 (rm-nodup v ws dw) s h' g')
          (over_any k vs (rm v ws) (λ σ. f (v ∷ σ)) dv.1 (rm-nodup v ws dw) (Sym-cons v f s) (Idle-cons v f vs (rm v ws) s h') (Idle-cons v f (rm v ws) vs s g'))
          ∙ sym (first v ws dw m (suc k) f s)
      | inr o ↦
          let r = over_any (suc k) vs ws f dv.1 dw s (λ x i. h x (mem-there x v vs i)) (λ x i n. g x i (out x v vs (apart x v ws i o) n)) in
          let z : total k vs (λ σ. f (v ∷ σ)) ≡ 0 = total-zero k vs dv.1 (λ σ l d t. h v (mem-here v vs) o σ) in
          omega arith
    ]

pub total-map : (ρ : ℕ → ℕ) (k : ℕ) (vs : List ℕ) (f : List ℕ → ℕ) → total k (map ρ vs) f ≡ total k vs (λ σ. f (map ρ σ))
total-map ρ zero vs f = refl
total-map ρ (suc k) [] f = refl
total-map ρ (suc k) (v ∷ vs) f = ap₂ ◌+◌ (total-map ρ (suc k) vs f) (total-map ρ k vs (λ σ. f (ρ v ∷ σ)))

-- new numbers for the vertices of a list
pub map-mem : (ρ : ℕ → ℕ) (x : ℕ) (e : List ℕ) → mem x e ≡ true → mem (ρ x) (map ρ e) ≡ true
map-mem ρ x [] h = absurd (mem-nil x h)
map-mem ρ x (y ∷ e) h =
    elim (mem-cases x y e h) [
      | inl q ↦ or_left (mem (ρ x) (map ρ e)) (eq-eqb (ρ x) (ρ y) (ap ρ q))
      | inr q ↦ mem-there (ρ x) (ρ y) (map ρ e) (map-mem ρ x e q)
    ]

map_back : (ρ : ℕ → ℕ) (z : ℕ) (e : List ℕ) → mem z (map ρ e) ≡ true → (x : ℕ) × (mem x e ≡ true) × (z ≡ ρ x)
map_back ρ z [] h = absurd (mem-nil z h)
map_back ρ z (y ∷ e) h =
    elim (mem-cases z (ρ y) (map ρ e) h) [
      | inl q ↦ (y, mem-here y e, q)
      | inr q ↦ let r = map_back ρ z e q in (r.0, mem-there r.0 y e r.1, r.2)
    ]

map-Sub : (ρ : ℕ → ℕ) (σ e : List ℕ) → Sub σ e → Sub (map ρ σ) (map ρ e)
map-Sub ρ σ e s z m = let r = map_back ρ z σ m in rw r.2 (map-mem ρ r.0 e (s r.0 r.1))

single : (x : ℕ) (e : List ℕ) → mem x e ≡ true → Sub (x ∷ []) e
single x e h = Sub-cons x [] e h (λ z m. absurd (mem-nil z m))

module _ (ρ : ℕ → ℕ) (n m : ℕ) (es : List (List ℕ)) (P : Proper n es) (c : Renumbers ρ m es) where
  uses : (x : ℕ) {e : List ℕ} → Memᴰ e es → mem x e ≡ true → within (x ∷ []) es ≡ true
  uses x {e} k h = within-intro (x ∷ []) k (single x e h)

  -- over vertices of the elements the new numbers are different, and inclusions are the same
  map-nodup : (σ : List ℕ) → ((x : ℕ) → mem x σ ≡ true → within (x ∷ []) es ≡ true) → Nodup σ → Nodup (map ρ σ)
  map-nodup [] h d = tt
  map-nodup (x ∷ σ) h d = (
    nope (λ q.
        let r = map_back ρ (ρ x) σ q in
        clash (rw (c.apart x r.0 (h x (mem-here x σ)) (h r.0 (mem-there r.0 x σ r.1)) r.2) r.1) d.0),
    map-nodup σ (λ y k. h y (mem-there y x σ k)) d.1,
  )

  Sub-back : (σ e : List ℕ) → ((x : ℕ) → mem x σ ≡ true → within (x ∷ []) es ≡ true) → Memᴰ e es → Sub (map ρ σ) (map ρ e) → Sub σ e
  Sub-back σ e h k s x q =
      let r = map_back ρ (ρ x) e (s (ρ x) (map-mem ρ x σ q)) in
      rw (c.apart x r.0 (h x q) (uses r.0 k r.1) r.2) r.1

  renumber-within : (σ : List ℕ) → ((x : ℕ) → mem x σ ≡ true → within (x ∷ []) es ≡ true) → within (map ρ σ) (renumber ρ es) ≡ within σ es
  renumber-within σ h =
      same
      (λ q.
      let r = within-elim (map ρ σ) (renumber ρ es) q in
      let k = map-elim (map ρ) r.0 es r.1 in
      within-intro σ k.1 (Sub-back σ k.0 h k.1 (λ z t. rw k.2 at (r.2 z t))))
      (λ q. let r = within-elim σ es q in within-intro (map ρ σ) (map-intro (map ρ) r.0 es r.1) (map-Sub ρ σ r.0 r.2))

  -- the vertices of the elements
  olds : List ℕ
  olds = keep (λ x. within (x ∷ []) es) (up_to n)

  olds-uses : (x : ℕ) → mem x olds ≡ true → within (x ∷ []) es ≡ true
  unfolding olds
  olds-uses x h = and-snd (mem x (up_to n)) (within (x ∷ []) es) (sym (keep-mem (λ y. within (y ∷ []) es) (up_to n) x) ∙ h)

  olds-mem : (x : ℕ) → within (x ∷ []) es ≡ true → mem x olds ≡ true
  unfolding olds
  olds-mem x h =
      let r = within-elim (x ∷ []) es h in
      keep-mem (λ y. within (y ∷ []) es) (up_to n) x ∙ rw (up_to-mem n x ((tet-of {n = n} P r.1).below x (r.2 x (mem-here x [])))) h

  olds-nodup : Nodup olds
  unfolding olds
  olds-nodup = keep-nodup (λ x. within (x ∷ []) es) (up_to n) (up_to-nodup n)

  old-count : (k : ℕ) → faces k n es ≡ total k olds (ind es)
  old-count k =
      faces-total k n es
      ∙ over_any k (up_to n) olds (ind es) (up_to-nodup n) olds-nodup (Sym-ind es)
      (λ x i o σ. ap bit (nope (λ q. clash (olds-mem x (within-mono (x ∷ []) (x ∷ σ) es (single x (x ∷ σ) (mem-here x σ)) q)) o)))
      (λ x i o σ. absurd (clash (let r = within-elim (x ∷ []) es (olds-uses x i) in up_to-mem n x ((tet-of {n = n} P r.1).below x (r.2 x (mem-here x [])))) o))

  new-count : (k : ℕ) → faces k m (renumber ρ es) ≡ total k (map ρ olds) (ind (renumber ρ es))
  new-count k =
      faces-total k m (renumber ρ es)
      ∙ over_any k (up_to m) (map ρ olds) (ind (renumber ρ es)) (up_to-nodup m) (map-nodup olds olds-uses olds-nodup) (Sym-ind (renumber ρ es))
      (λ x i o σ. ap bit (nope (λ q.
      let r = within-elim (x ∷ σ) (renumber ρ es) q in
      let f = map-elim (map ρ) r.0 es r.1 in
      let y = map_back ρ x f.0 (rw f.2 at (r.2 x (mem-here x σ))) in
      clash (rw y.2 (map-mem ρ y.0 olds (olds-mem y.0 (uses y.0 f.1 y.1)))) o)))
      (λ x i o σ. absurd (clash (let y = map_back ρ x olds i in rw y.2 (up_to-mem m (ρ y.0) (c.below y.0 (olds-uses y.0 y.1)))) o))

  pub renumber-faces : (k : ℕ) → faces k n es ≡ faces k m (renumber ρ es)
  renumber-faces k =
      old-count k
      ∙ (sym (total-cong k olds olds-nodup (λ σ l d s. ap bit (renumber-within σ (λ x i. olds-uses x (s x i)))))
      ∙ (sym (total-map ρ k olds (ind (renumber ρ es)))
      ∙ sym (new-count k)))

  pub renumber-count : SameCount n es m (renumber ρ es)
  renumber-count = omega (arith, renumber-faces 1, renumber-faces 2, renumber-faces 3, length-map es (map ρ))

  renumber-part : (fs : List (List ℕ)) → ((e : List ℕ) → Memᴰ e fs → Memᴰ e es) → Proper n fs → Proper m (renumber ρ fs)
  renumber-part [] i Q = tt
  renumber-part (e ∷ fs) i Q =
      let ke = i e (Memᴰ.head refl) in (
        record {
          four = length-map e ρ ∙ Q.0.four;
          distinct = map-nodup e (λ x h. uses x ke h) Q.0.distinct;
          below = λ z h. let r = map_back ρ z e h in rw r.2 (c.below r.0 (uses r.0 ke r.1));
        },
        (λ f k s t.
            let r = map-elim (map ρ) f fs k in
            let kf = i r.0 (Memᴰ.tail r.1) in
            Q.1 r.0 r.1 (Sub-back e r.0 (λ x h. uses x ke h) kf (λ z q. rw r.2 at (s z q))) (Sub-back r.0 e (λ x h. uses x kf h) ke (λ z q. t z (rw r.2 q)))),
        renumber-part fs (λ f k. i f (Memᴰ.tail k)) Q.2,
      )

  pub renumber-proper : Proper m (renumber ρ es)
  renumber-proper = renumber-part es (λ e k. k) P
