-- The links of specs/Link.antt hold exactly the simplices that they should, and two of them meet in the edge's link exactly where
-- that is so of sets of vertices in any order. Assumes nothing.
use Rattle.std.proofs.Common.{◌≡◌, ℕ, ◌≤◌, true, false, cond, not, ◌&&◌, eqb, leb, ◌≢◌, List, [], ◌∷◌, ◌++◌, length, sym, refl, ap, ◌∙◌, inl, inr, true≢false, arith, eq-eqb, eqb-true}
use mathlib.Core.List.{Memᴰ}
use borrow.Author.Tests.{not-true}
use Rattle.mesh.specs.Complex.{mem, sub, within, Nodup, Sub}
use Rattle.mesh.specs.Sort.{sort}
use Rattle.mesh.specs.Sets.{both}
use Rattle.mesh.specs.Link.{same_simplex, subsets, without, link, links_meet}
use Rattle.mesh.proofs.Laws.Complex.Sets.{split, clash, nope, same, or_cases, or_left, or_right, and-fst, and-snd, mem-here, mem-there, mem-cases, mem-nil, Sub-cons, Sub-both, sub-elim, sub-intro, within-elim, within-mono, keep-mem, keep-nodup, short}
use Rattle.mesh.proofs.Laws.Link.Members.{Decides, both-elim, both-intro, same_set-elim, same_set-intro}
use Rattle.mesh.proofs.Laws.Link.Simplices.{rising, rising-nodup, sort-mem, sort-rising, subset-elim, subset-intro}

-- the test of simplices is equality
pub simplex-decides : Decides same_simplex
simplex-decides = record { equal = equal'; self = self' }
  where
    equal' : (σ τ : List ℕ) → same_simplex σ τ ≡ true → σ ≡ τ
    equal' [] [] h = refl
    equal' [] (y ∷ τ) h = absurd (true≢false (sym h))
    equal' (x ∷ σ) [] h = absurd (true≢false (sym h))
    equal' (x ∷ σ) (y ∷ τ) h = rw (eqb-true x y (and-fst (eqb x y) (same_simplex σ τ) h)) (ap (λ l. y ∷ l) (equal' σ τ (and-snd (eqb x y) (same_simplex σ τ) h)))

    self' : (σ : List ℕ) → same_simplex σ σ ≡ true
    self' [] = refl
    self' (x ∷ σ) = rw (eq-eqb x x refl) (self' σ)

-- simplices of at most four different vertices
abbrev pub Simplices : List (List ℕ) → Type 0
Simplices τs = (τ : List ℕ) → Memᴰ τ τs → Nodup τ × (length τ ≤ 4)

-- σ, of one, two or three vertices, has none of ρ, and lies with ρ in a simplex of the list
pub record InLink (ρ : List ℕ) (τs : List (List ℕ)) (σ : List ℕ) : Type 0 where
  pub some : 1 ≤ length σ
  pub small : length σ ≤ 3
  pub rises : rising σ ≡ true
  pub apart : (v : ℕ) → mem v σ ≡ true → mem v ρ ≡ false
  pub inside : within (ρ ++ σ) τs ≡ true

Sub-join : (ρ σ e : List ℕ) → Sub ρ e → Sub σ e → Sub (ρ ++ σ) e
Sub-join [] σ e r s = s
Sub-join (x ∷ ρ) σ e r s = Sub-cons x (ρ ++ σ) e (r x (mem-here x ρ)) (Sub-join ρ σ e (λ z m. r z (mem-there z x ρ m)) s)

Sub-left : (ρ σ e : List ℕ) → Sub (ρ ++ σ) e → Sub ρ e
Sub-left [] σ e s = λ z m. absurd (mem-nil z m)
Sub-left (x ∷ ρ) σ e s = Sub-cons x ρ e (s x (mem-here x (ρ ++ σ))) (Sub-left ρ σ e (λ z m. s z (mem-there z x (ρ ++ σ) m)))

Sub-right : (ρ σ e : List ℕ) → Sub (ρ ++ σ) e → Sub σ e
Sub-right [] σ e s = s
Sub-right (x ∷ ρ) σ e s = Sub-right ρ σ e (λ z m. s z (mem-there z x (ρ ++ σ) m))

-- the vertices that one simplex of the list gives
without-mem : (ρ τ : List ℕ) (z : ℕ) → mem z (sort leb (without ρ τ)) ≡ (mem z τ && not (mem z ρ))
without-mem ρ τ z = sort-mem z (without ρ τ) ∙ keep-mem (λ v. not (mem v ρ)) τ z

without-rising : (ρ τ : List ℕ) → Nodup τ → rising (sort leb (without ρ τ)) ≡ true
without-rising ρ τ d = sort-rising (without ρ τ) (keep-nodup (λ v. not (mem v ρ)) τ d)

-- one simplex, and the rest
one-elim : (ρ τ : List ℕ) {σ : List ℕ} → Nodup τ → sub ρ τ ≡ true → Memᴰ σ (subsets (sort leb (without ρ τ))) → (1 ≤ length σ) × (length σ ≤ 3) × (rising σ ≡ true) × ((v : ℕ) → mem v σ ≡ true → mem v ρ ≡ false) × Sub (ρ ++ σ) τ
one-elim ρ τ {σ} d h m =
    let r = subset-elim (sort leb (without ρ τ)) (without-rising ρ τ d) m in
    let i : (v : ℕ) → mem v σ ≡ true → (mem v τ && not (mem v ρ)) ≡ true = λ v q. sym (without-mem ρ τ v) ∙ r.3 v q in (
      r.0,
      r.1,
      r.2,
      (λ v q. not-true (mem v ρ) (and-snd (mem v τ) (not (mem v ρ)) (i v q))),
      Sub-join ρ σ τ (sub-elim ρ τ h) (λ v q. and-fst (mem v τ) (not (mem v ρ)) (i v q)),
    )

-- each simplex of the link lies in it
pub link-elim : (ρ : List ℕ) {σ : List ℕ} (τs : List (List ℕ)) → Simplices τs → Memᴰ σ (link ρ τs) → InLink ρ τs σ
unfolding link
link-elim ρ [] S m = absurd (mathlib.Core.List.Memᴰ.not-nil m)
link-elim ρ {σ} (τ ∷ τs) S m =
    let later : Memᴰ σ (link ρ τs) → InLink ρ (τ ∷ τs) σ = λ k.
    let r = link-elim ρ τs (λ τ' i. S τ' (mathlib.Core.List.Memᴰ.tail i)) k in
    record { some = r.some; small = r.small; rises = r.rises; apart = r.apart; inside = or_right (sub (ρ ++ σ) τ) r.inside } in
    elim (split (sub ρ τ)) [
      | inl h ↦ elim (mathlib.Core.List.Memᴰ.append_cases (subsets (sort leb (without ρ τ))) (rw h at m)) [
        | inl k ↦
            let r = one-elim ρ τ (S τ (mathlib.Core.List.Memᴰ.head refl)).0 h k in
            record { some = r.0; small = r.1; rises = r.2; apart = r.3; inside = or_left {a = sub (ρ ++ σ) τ} (within (ρ ++ σ) τs) (sub-intro (ρ ++ σ) τ r.4) }
        | inr k ↦ later k
      ]
      | inr h ↦ later (rw h at m)
    ]

-- and each that lies in it is there
pub link-intro : (ρ σ : List ℕ) (τs : List (List ℕ)) → Simplices τs → InLink ρ τs σ → Memᴰ σ (link ρ τs)
unfolding link
link-intro ρ σ [] S r = absurd (true≢false (sym r.inside))
link-intro ρ σ (τ ∷ τs) S r =
    elim (or_cases (sub (ρ ++ σ) τ) (within (ρ ++ σ) τs) r.inside) [
      | inl h ↦
          let s = sub-elim (ρ ++ σ) τ h in
          let g : sub ρ τ ≡ true = sub-intro ρ τ (Sub-left ρ σ τ s) in
          rw g (mathlib.Core.List.Memᴰ.append_left (link ρ τs)
          (subset-intro (sort leb (without ρ τ)) σ (without-rising ρ τ (S τ (mathlib.Core.List.Memᴰ.head refl)).0) r.some r.small r.rises
          (λ v m. without-mem ρ τ v ∙ rw (Sub-right ρ σ τ s v m, r.apart v m) refl)))
      | inr h ↦
          mathlib.Core.List.Memᴰ.append_right (cond (sub ρ τ) (subsets (sort leb (without ρ τ))) [])
          (link-intro ρ σ τs (λ τ' i. S τ' (mathlib.Core.List.Memᴰ.tail i)) (record { some = r.some; small = r.small; rises = r.rises; apart = r.apart; inside = h }))
    ]

-- Lk a ∩ Lk b = Lk ab: each nonempty set of vertices without a and b lies in a simplex with a and in one with b exactly if it lies in one with both
abbrev pub LinksMeet : ℕ → ℕ → List (List ℕ) → Type 0
LinksMeet a b τs = (σ : List ℕ) → σ ≢ [] → Nodup σ → mem a σ ≡ false → mem b σ ≡ false → (within (a ∷ σ) τs && within (b ∷ σ) τs) ≡ within (a ∷ b ∷ σ) τs

-- ---- the test of links is that

-- σ lies in the link of the vertex v
vertex-link : (v : ℕ) (σ : List ℕ) (τs : List (List ℕ)) → Simplices τs → 1 ≤ length σ → rising σ ≡ true → mem v σ ≡ false → within (v ∷ σ) τs ≡ true → Memᴰ σ (link (v ∷ []) τs)
vertex-link v σ τs S l h o w =
    let r = within-elim (v ∷ σ) τs w in
    let t = S r.0 r.1 in
    let k = short (v ∷ σ) r.0 (o, rising-nodup σ h) r.2 in
    let k' = t.1 in
    link-intro (v ∷ []) σ τs S (record { some = l; small = omega arith; rises = h; apart = λ z m. nope (λ q. elim (mem-cases z v [] q) [ inl e ↦ clash (rw e at m) o | inr i ↦ mem-nil z i ]); inside = w })

lacks : (v : ℕ) (ρ σ : List ℕ) → ((z : ℕ) → mem z σ ≡ true → mem z ρ ≡ false) → mem v ρ ≡ true → mem v σ ≡ false
lacks v ρ σ f h = nope (λ m. clash h (f v m))

module _ (a b : ℕ) (τs : List (List ℕ)) (S : Simplices τs) where
  -- what lies with a and b lies with a, and with b
  pub ends : (σ : List ℕ) → within (a ∷ b ∷ σ) τs ≡ true → (within (a ∷ σ) τs && within (b ∷ σ) τs) ≡ true
  ends σ w = rw (within-mono (a ∷ σ) (a ∷ b ∷ σ) τs (Sub-both a σ (b ∷ σ) (λ z m. mem-there z b σ m)) w) (within-mono (b ∷ σ) (a ∷ b ∷ σ) τs (λ z m. mem-there z a (b ∷ σ) m) w)

  meet : links_meet a b τs ≡ true → (σ : List ℕ) → 1 ≤ length σ → rising σ ≡ true → mem a σ ≡ false → mem b σ ≡ false → within (a ∷ σ) τs ≡ true → within (b ∷ σ) τs ≡ true → within (a ∷ b ∷ σ) τs ≡ true
  unfolding links_meet
  meet h σ l r oa ob wa wb =
      let s = same_set-elim same_simplex simplex-decides (both same_simplex (link (a ∷ []) τs) (link (b ∷ []) τs)) (link (a ∷ b ∷ []) τs) h in
      let i = both-intro same_simplex simplex-decides (link (a ∷ []) τs) (link (b ∷ []) τs) (vertex-link a σ τs S l r oa wa) (vertex-link b σ τs S l r ob wb) in
      (link-elim (a ∷ b ∷ []) τs S ((s σ).0 i)).inside

  -- the test of links holds only where they meet so
  pub links_meet-sound : links_meet a b τs ≡ true → LinksMeet a b τs
  links_meet-sound h [] n d oa ob = absurd (n refl)
  links_meet-sound h (x ∷ σ) n d oa ob =
      same
      (λ w. back
      (meet h ς (filled ς (there x (mem-here x σ))) (sort-rising (x ∷ σ) d) (sort-mem a (x ∷ σ) ∙ oa) (sort-mem b (x ∷ σ) ∙ ob)
      (forth a (and-fst (within (a ∷ x ∷ σ) τs) (within (b ∷ x ∷ σ) τs) w))
      (forth b (and-snd (within (a ∷ x ∷ σ) τs) (within (b ∷ x ∷ σ) τs) w))))
      (ends (x ∷ σ))
    where
      ς : List ℕ
      ς = sort leb (x ∷ σ)

      there : Sub (x ∷ σ) ς
      there z m = sort-mem z (x ∷ σ) ∙ m

      filled : (l : List ℕ) → mem x l ≡ true → 1 ≤ length l
      filled [] m = absurd (mem-nil x m)
      filled (y ∷ l) m = omega arith

      forth : (v : ℕ) → within (v ∷ x ∷ σ) τs ≡ true → within (v ∷ ς) τs ≡ true
      forth v w = within-mono (v ∷ ς) (v ∷ x ∷ σ) τs (Sub-both v ς (x ∷ σ) (λ z m. sym (sort-mem z (x ∷ σ)) ∙ m)) w

      back : within (a ∷ b ∷ ς) τs ≡ true → within (a ∷ b ∷ x ∷ σ) τs ≡ true
      back w = within-mono (a ∷ b ∷ x ∷ σ) (a ∷ b ∷ ς) τs (Sub-both a (b ∷ x ∷ σ) (b ∷ ς) (Sub-both b (x ∷ σ) ς there)) w

  -- and wherever they do
  pub links_meet-complete : LinksMeet a b τs → links_meet a b τs ≡ true
  unfolding links_meet
  links_meet-complete f = same_set-intro same_simplex simplex-decides (both same_simplex (link (a ∷ []) τs) (link (b ∷ []) τs)) (link (a ∷ b ∷ []) τs) (λ σ. (into σ, out_of σ))
    where
      into : (σ : List ℕ) → Memᴰ σ (both same_simplex (link (a ∷ []) τs) (link (b ∷ []) τs)) → Memᴰ σ (link (a ∷ b ∷ []) τs)
      into σ m =
          let r = both-elim same_simplex simplex-decides (link (a ∷ []) τs) (link (b ∷ []) τs) m in
          let ra = link-elim (a ∷ []) τs S r.0 in
          let rb = link-elim (b ∷ []) τs S r.1 in
          let l = ra.some in
          let oa = lacks a (a ∷ []) σ ra.apart (mem-here a []) in
          let ob = lacks b (b ∷ []) σ rb.apart (mem-here b []) in
          link-intro (a ∷ b ∷ []) σ τs S (record {
            some = l;
            small = ra.small;
            rises = ra.rises;
            apart = λ z q. nope (λ i. elim (mem-cases z a (b ∷ []) i) [ inl e ↦ clash (rw e at q) oa | inr j ↦ clash j (rb.apart z q) ]);
            inside = sym (f σ (λ e. let k = ap length e in omega arith) (rising-nodup σ ra.rises) oa ob) ∙ rw (ra.inside, rb.inside) refl;
          })

      out_of : (σ : List ℕ) → Memᴰ σ (link (a ∷ b ∷ []) τs) → Memᴰ σ (both same_simplex (link (a ∷ []) τs) (link (b ∷ []) τs))
      out_of σ m =
          let r = link-elim (a ∷ b ∷ []) τs S m in
          let w = ends σ r.inside in
          both-intro same_simplex simplex-decides (link (a ∷ []) τs) (link (b ∷ []) τs)
          (vertex-link a σ τs S r.some r.rises (lacks a (a ∷ b ∷ []) σ r.apart (mem-here a (b ∷ []))) (and-fst (within (a ∷ σ) τs) (within (b ∷ σ) τs) w))
          (vertex-link b σ τs S r.some r.rises (lacks b (a ∷ b ∷ []) σ r.apart (mem-there b a (b ∷ []) (mem-here b []))) (and-snd (within (a ∷ σ) τs) (within (b ∷ σ) τs) w))
