-- Where two groups pair off, the pairs are such as `replace` takes (`Pairs` of specs/inside/Layout.antt): the groups are the same, and each
-- vertex is its own partner, or no vertex is in both. Assumes nothing.
use mathlib.Core.Path.{◌≡◌, refl, sym, ap, ap₂, subst, ◌∙◌}
use mathlib.Core.Logic.{inl, inr}
use mathlib.Core.Bool.{true, false, not, ◌&&◌}
use mathlib.Core.List.{List, [], ◌∷◌, Memᴰ}
use Prim.Native.Nat.{ℕ, ◌<◌}
use borrow.Author.Tests.{eqb-true, eq-eqb, ltb-true}
use lib.Dec.{eqb, ltb}
use lib.ListN.{length}
use Rattle.std.specs.Prelude.{Option, None, Some}
use Rattle.geometry.specs.declared.bounds.Options.{Options}
use Rattle.geometry.specs.declared.bounds.Ranks.{Ranks}
use Rattle.mesh.specs.declared.element.Pair.{Pair}
use Rattle.mesh.specs.declared.star.Index.{Index}
use Rattle.mesh.specs.Complex.{mem, keep, Nodup}
use Rattle.mesh.specs.Tests.{nodup}
use Rattle.mesh.specs.Element.{pair, same_pair}
use Rattle.mesh.specs.Words.{numbers}
use Rattle.mesh.specs.Group.{same_ranks, rank_of, group_of}
use Rattle.mesh.proofs.Laws.Complex.Sets.{split, clash, nope, or_left, and-fst, and-snd, mem-here, mem-there, mem-cases, mem-nil, keep-mem}
use Rattle.mesh.proofs.Laws.Link.Members.{Decides, among-elim}
use Rattle.mesh.proofs.Laws.Link.Simplices.{every-mem}
use Rattle.repair.specs.Mesh.{Mesh}
use Rattle.repair.specs.Improve.{State, cap_of, active_group, partner, partners, pair_off}
use Rattle.repair.specs.inside.Layout.{Apart, Pairs, Stands}
use Rattle.repair.specs.inside.improve.Partners.{seconds, Paired}
use Rattle.repair.proofs.Laws.Improve.Single.{ranks-sound, ranks-refl}
use Rattle.repair.proofs.Laws.Improve.Counts.{firsts, firsts-mem, firsts-nodup, active-nodup}
use Rattle.repair.proofs.Laws.Pairs.Rows.{below-group}
use Rattle.repair.proofs.Laws.Pairs.Partners.{partner-cases}
use Rattle.mesh.proofs.Laws.Complex.Tests.{nodup-sound}

-- ---- lists of pairs

-- the test of pairs decides
pair-decides : Decides same_pair
pair-decides = record {
  equal = λ e f h. ap₂ pair (eqb-true e.a f.a (and-fst (eqb e.a f.a) (eqb e.b f.b) h)) (eqb-true e.b f.b (and-snd (eqb e.a f.a) (eqb e.b f.b) h));
  self = λ e. rw (eq-eqb e.a e.a refl, eq-eqb e.b e.b refl) refl;
}

-- the second vertex of a pair is one, and comes from one
seconds-mem : {e : Pair} (es : List Pair) → Memᴰ e es → mem e.b (seconds es) ≡ true
seconds-mem [] i = absurd (mathlib.Core.List.Memᴰ.not-nil i)
seconds-mem {e} (f ∷ es) i =
    elim (mathlib.Core.List.Memᴰ.cases_cons i) [ inl q ↦ or_left (mem e.b (seconds es)) (eq-eqb e.b f.b (ap (λ (p : Pair). p.b) q)) | inr q ↦ mem-there e.b f.b (seconds es) (seconds-mem es q) ]

-- a vertex is the second of one pair only
seconds-one : {e f : Pair} (es : List Pair) → Nodup (seconds es) → Memᴰ e es → Memᴰ f es → e.b ≡ f.b → e ≡ f
seconds-one [] d i j q = absurd (mathlib.Core.List.Memᴰ.not-nil i)
seconds-one {e} {f} (g ∷ es) d i j q =
    elim (mathlib.Core.List.Memᴰ.cases_cons i) [
      | inl a ↦ elim (mathlib.Core.List.Memᴰ.cases_cons j) [
        | inl b ↦ a ∙ sym b
        | inr b ↦ absurd (clash (subst (λ (u : ℕ). mem u (seconds es) ≡ true) (sym q ∙ ap (λ (p : Pair). p.b) a) (seconds-mem es b)) d.0)
      ]
      | inr a ↦ elim (mathlib.Core.List.Memᴰ.cases_cons j) [
        | inl b ↦ absurd (clash (subst (λ (u : ℕ). mem u (seconds es) ≡ true) (q ∙ ap (λ (p : Pair). p.b) b) (seconds-mem es a)) d.0)
        | inr b ↦ seconds-one es d.1 a b q
      ]
    ]

second-of : (v : ℕ) (es : List Pair) → mem v (seconds es) ≡ true → (e : Pair) × Memᴰ e es × (e.b ≡ v)
second-of v [] h = absurd (mem-nil v h)
second-of v (f ∷ es) h =
    elim (mem-cases v f.b (seconds es) h) [
      | inl q ↦ (f, mathlib.Core.List.Memᴰ.head refl, sym q)
      | inr q ↦ let r = second-of v es q in (r.0, mathlib.Core.List.Memᴰ.append_right (f ∷ []) r.1, r.2)
    ]

-- ---- partners

module _ (o : Options) (m : Mesh) where
  -- a pair of partners
  record Partnered (vs ws : List ℕ) (e : Pair) : Type 0 where
    pub first : mem e.a vs ≡ true
    pub second : mem e.b ws ≡ true
    pub level : cap_of o m e.a ≡ cap_of o m e.b
    pub found : partner o m e.a ws ≡ e ∷ []

  partnered : (vs ws : List ℕ) {e : Pair} → Memᴰ e (partners o m vs ws) → Partnered vs ws e
  unfolding partners
  partnered [] ws i = absurd (mathlib.Core.List.Memᴰ.not-nil i)
  partnered (v ∷ vs) ws {e} i =
      elim (mathlib.Core.List.Memᴰ.append_cases (partner o m v ws) i) [
        | inl q ↦ elim (partner-cases o m v ws) [
          | inl n ↦ absurd (mathlib.Core.List.Memᴰ.not-nil (subst (λ (l : List Pair). Memᴰ e l) n q))
          | inr f ↦
              let t : e ≡ pair v f.vertex = mathlib.Core.List.Memᴰ.eq_of_singleton (subst (λ (l : List Pair). Memᴰ e l) f.found q) in
              subst (Partnered (v ∷ vs) ws) (sym t) (record { first = mem-here v vs; second = f.member; level = f.level; found = f.found })
        ]
        | inr q ↦ let r = partnered vs ws q in record { first = mem-there e.a v vs r.first; second = r.second; level = r.level; found = r.found }
      ]

  -- the partner of a vertex of the list
  partners-intro : (v : ℕ) (vs ws : List ℕ) {e : Pair} → mem v vs ≡ true → Memᴰ e (partner o m v ws) → Memᴰ e (partners o m vs ws)
  unfolding partners
  partners-intro v [] ws h i = absurd (mem-nil v h)
  partners-intro v (u ∷ vs) ws {e} h i =
      elim (mem-cases v u vs h) [
        | inl q ↦ mathlib.Core.List.Memᴰ.append_left (partners o m vs ws) (subst (λ (a : ℕ). Memᴰ e (partner o m a ws)) q i)
        | inr q ↦ mathlib.Core.List.Memᴰ.append_right (partner o m u ws) (partners-intro v vs ws q i)
      ]

  -- vertices of one cap have the same partner
  partner-level : (v u : ℕ) → cap_of o m v ≡ cap_of o m u → (w : ℕ) (ws : List ℕ) → partner o m v ws ≡ pair v w ∷ [] → Memᴰ (pair u w) (partner o m u ws)
  unfolding partner
  partner-level v u c w [] h = absurd (mathlib.Core.List.Memᴰ.not-nil (subst (λ (l : List Pair). Memᴰ (pair v w) l) (sym h) (mathlib.Core.List.Memᴰ.head refl)))
  partner-level v u c w (z ∷ ws) h =
      elim (split (eqb (cap_of o m v) (cap_of o m z))) [
        | inl q ↦
            let q' : eqb (cap_of o m u) (cap_of o m z) ≡ true = subst (λ (a : ℕ). eqb a (cap_of o m z) ≡ true) c q in
            let t : pair v z ≡ pair v w = mathlib.Core.List.Memᴰ.eq_of_singleton (subst (λ (l : List Pair). Memᴰ (pair v z) l) (rw q at h) (mathlib.Core.List.Memᴰ.head refl)) in
            rw q' (mathlib.Core.List.Memᴰ.head (ap (λ (p : Pair). pair u p.b) (sym t)))
        | inr q ↦
            let q' : eqb (cap_of o m u) (cap_of o m z) ≡ false = subst (λ (a : ℕ). eqb a (cap_of o m z) ≡ false) c q in
            rw q' (partner-level v u c w ws (rw q at h))
      ]

  -- where a list pairs off with itself each is its own partner
  own-partner : (vs : List ℕ) → Nodup (seconds (partners o m vs vs)) → (e : Pair) → Memᴰ e (partners o m vs vs) → e.a ≡ e.b
  own-partner vs d e i =
      let r = partnered vs vs i in
      let j : Memᴰ (pair e.b e.b) (partners o m vs vs) = partners-intro e.b vs vs r.second (partner-level e.a e.b r.level e.b vs r.found) in
      ap (λ (p : Pair). p.a) (seconds-one (partners o m vs vs) d i j refl)

  -- ---- groups

  module _ (replaced : List ℕ) where
    -- the rank of an active member
    active-rank : (v x : ℕ) → mem x (active_group o m replaced v) ≡ true → rank_of o m.parameters x ≡ rank_of o m.parameters v
    active-rank v x h =
        let ps = m.parameters in
        let k = and-fst (mem x (group_of o ps v)) (not (mem x replaced)) (sym (keep-mem (λ w. not (mem w replaced)) (group_of o ps v) x) ∙ h) in
        ranks-sound (rank_of o ps x) (rank_of o ps v)
        (and-snd (mem x (numbers 0 (length ps))) (same_ranks (rank_of o ps x) (rank_of o ps v)) (sym (keep-mem (λ w. same_ranks (rank_of o ps w) (rank_of o ps v)) (numbers 0 (length ps)) x) ∙ k))

    -- it is a vertex
    active-below : (v x : ℕ) → mem x (active_group o m replaced v) ≡ true → x < length m.parameters
    active-below v x h =
        let ps = m.parameters in
        let k = and-fst (mem x (group_of o ps v)) (not (mem x replaced)) (sym (keep-mem (λ w. not (mem w replaced)) (group_of o ps v) x) ∙ h) in
        ltb-true x (length ps) (every-mem (λ u. ltb u (length ps)) (group_of o ps v) (below-group o ps v) x k)

    module _ (a b : ℕ) where
      abbrev vs : List ℕ
      vs = active_group o m replaced a

      abbrev ws : List ℕ
      ws = active_group o m replaced b

      abbrev es : List Pair
      es = partners o m vs ws

      -- the groups are the same or apart
      groups-apart : Nodup (seconds es) → Apart es
      unfolding firsts
      groups-apart d =
          let ps = m.parameters in
          elim (split (same_ranks (rank_of o ps a) (rank_of o ps b))) [
            | inl h ↦
                let same : ws ≡ vs = ap (λ (r : Ranks). keep (λ w. not (mem w replaced)) (keep (λ v. same_ranks (rank_of o ps v) r) (numbers 0 (length ps)))) (sym (ranks-sound (rank_of o ps a) (rank_of o ps b) h)) in
                inl (λ e i. own-partner vs (subst (λ (l : List ℕ). Nodup (seconds (partners o m vs l))) same d) e (subst (λ (l : List ℕ). Memᴰ e (partners o m vs l)) same (among-elim same_pair pair-decides es i)))
            | inr h ↦ inr (λ v i. nope (λ j.
                let r = second-of v es j in
                let k : mem v ws ≡ true = subst (λ (u : ℕ). mem u ws ≡ true) r.2 (partnered vs ws r.1).second in
                let q : rank_of o ps a ≡ rank_of o ps b = sym (active-rank a v (firsts-mem o m vs ws v i)) ∙ active-rank b v k in
                clash (ap (same_ranks (rank_of o ps a)) (sym q) ∙ ranks-refl (rank_of o ps a)) h))
          ]

      -- the pairs of two groups that pair off
      pub pairs-off : pair_off vs ws es ≡ true → Pairs (length m.parameters) es
      unfolding firsts
      pairs-off h =
          let d : Nodup (seconds es) = nodup-sound (seconds es) (and-snd (eqb (length es) (length vs)) (nodup (seconds es)) (and-snd (eqb (length vs) (length ws)) (eqb (length es) (length vs) && nodup (seconds es)) h)) in
          record {
            below = λ e i. let r = partnered vs ws (among-elim same_pair pair-decides es i) in (active-below a e.a r.first, active-below b e.b r.second);
            firsts = firsts-nodup o m vs ws (active-nodup o m replaced a);
            seconds = d;
            apart = groups-apart d;
          }

-- ---- what `find_pairs` gives

module _ {o : Options} {m : Mesh} {x : Index} {n : ℕ} {w : List ℕ} {s : State} (S : Stands o m x n w s) (a b : ℕ) {w' : List ℕ} {r : Option ℕ}
    (p : Paired o m x (active_group o m s.replaced a) (active_group o m s.replaced b) w w' r) where
  abbrev left : List ℕ
  left = active_group o m s.replaced a

  abbrev right : List ℕ
  right = active_group o m s.replaced b

  -- pairs: the groups pair off
  pub some-off : (k : ℕ) → r ≡ Some k → pair_off left right (partners o m left right) ≡ true
  some-off k h =
      elim (split (pair_off left right (partners o m left right))) [
        | inl q ↦ q
        | inr q ↦ absurd (let z : r ≡ None = p.count ∙ rw q refl in cc)
      ]

  -- and are such as `replace` takes
  pub some_pairs : (k : ℕ) → r ≡ Some k → Pairs x.vertices (partners o m left right)
  some_pairs k h = subst (λ (k : ℕ). Pairs k (partners o m left right)) S.many (pairs-off o m s.replaced a b (some-off k h))

  -- none: the groups do not pair off
  pub none-off : r ≡ None → pair_off left right (partners o m left right) ≡ false
  none-off z = nope (λ q. let c : r ≡ Some (length (partners o m left right)) = p.count ∙ rw q refl in absurd cc)
