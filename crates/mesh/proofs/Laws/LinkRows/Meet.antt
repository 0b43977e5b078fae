-- The runs of the sorted rows of some simplices pass exactly where the links of a and b meet in the edge's. Assumes nothing.
use Rattle.std.proofs.Common.{◌≡◌, ℕ, suc, ◌<◌, ◌≤◌, Bool, true, false, not, ◌&&◌, ◌||◌, eqb, leb, ◌≢◌, List, [], ◌∷◌, ◌++◌, length, get_or, take, sym, refl, ap, ◌∙◌, subst, ap₂, inl, inr, arith}
use mathlib.Core.List.{Memᴰ}
use Rattle.mesh.specs.Sort.{sort, unique}
use Rattle.mesh.specs.inside.Rows.{le_row}
use Rattle.mesh.specs.Complex.{mem, within, keep, Nodup, Sub}
use Rattle.mesh.specs.Tests.{every}
use Rattle.mesh.specs.Link.{links_meet}
use Rattle.mesh.specs.inside.Group.{runs, same_first}
use Rattle.mesh.specs.inside.LinkRows.{mark_by, mark, apex, marked, meet_run}
use Rattle.mesh.proofs.Laws.Complex.Sets.{split, clash, nope, same, and-fst, and-snd, mem-here, mem-there, mem-nil, Sub-cons, Sub-both, within-elim, within-intro, within-mono, short}
use Rattle.mesh.proofs.Laws.Rows.{eq_row-sound}
use Rattle.mesh.proofs.Laws.Manifold.RowRuns.{every-run, every-same}
use Rattle.mesh.proofs.Laws.Link.Members.{kept-elim, kept-intro, every-elim, every-intro}
use Rattle.mesh.proofs.Laws.Link.Simplices.{rising, rising-nodup, sort-mem, sort-rising}
use Rattle.mesh.proofs.Laws.Link.Links.{Simplices, LinksMeet, ends, links_meet-sound, links_meet-complete}
use Rattle.mesh.proofs.Laws.LinkRows.Marks.{marked-elim, marked-intro, marked-kept, Pads, pad-words, pad-mark, pad-key}

-- ---- marks of simplices

-- what a mark says
pub mark-both : (a b : ℕ) (τ : List ℕ) → mem a τ ≡ true → mem b τ ≡ true → mark a b τ ≡ 3
mark-both a b τ p q = rw (p, q) refl

pub mark-first : (a b : ℕ) (τ : List ℕ) → mem a τ ≡ true → mem b τ ≡ false → mark a b τ ≡ 1
mark-first a b τ p q = rw (p, q) refl

pub mark-second : (a b : ℕ) (τ : List ℕ) → mem a τ ≡ false → mem b τ ≡ true → mark a b τ ≡ 2
mark-second a b τ p q = rw (p, q) refl

pub mark-3 : (a b : ℕ) (τ : List ℕ) → mark a b τ ≡ 3 → (mem a τ ≡ true) × (mem b τ ≡ true)
mark-3 a b τ e = go (mem a τ) (mem b τ) refl refl e
  where
    go : (p q : Bool) → mem a τ ≡ p → mem b τ ≡ q → mark_by p q ≡ 3 → (mem a τ ≡ true) × (mem b τ ≡ true)
    go true true h k e = (h, k)
    go true false h k e = absurd (omega arith)
    go false true h k e = absurd (omega arith)
    go false false h k e = absurd (omega arith)

pub mark-1 : (a b : ℕ) (τ : List ℕ) → mark a b τ ≡ 1 → (mem a τ ≡ true) × (mem b τ ≡ false)
mark-1 a b τ e = go (mem a τ) (mem b τ) refl refl e
  where
    go : (p q : Bool) → mem a τ ≡ p → mem b τ ≡ q → mark_by p q ≡ 1 → (mem a τ ≡ true) × (mem b τ ≡ false)
    go true true h k e = absurd (omega arith)
    go true false h k e = (h, k)
    go false true h k e = absurd (omega arith)
    go false false h k e = absurd (omega arith)

pub mark-2 : (a b : ℕ) (τ : List ℕ) → mark a b τ ≡ 2 → (mem a τ ≡ false) × (mem b τ ≡ true)
mark-2 a b τ e = go (mem a τ) (mem b τ) refl refl e
  where
    go : (p q : Bool) → mem a τ ≡ p → mem b τ ≡ q → mark_by p q ≡ 2 → (mem a τ ≡ false) × (mem b τ ≡ true)
    go true true h k e = absurd (omega arith)
    go true false h k e = absurd (omega arith)
    go false true h k e = (h, k)
    go false false h k e = absurd (omega arith)

-- ---- runs of sorted rows

-- the runs pass where every row does, with the rows that have its key
pub runs-rows : (k : ℕ) (l : List (List ℕ)) → every (meet_run k) (runs (same_first k) (sort le_row l)) ≡ every (λ r. meet_run k (keep (same_first k r) l)) l
runs-rows k l =
    every-run k (meet_run k) l
    ∙ every-same (λ r. meet_run k (keep (same_first k r) (sort le_row l))) (λ r. meet_run k (keep (same_first k r) l)) l
    (λ r. ap₂ (λ (p : Bool) (q : Bool). p || not q) (marked-kept k 3 r l) (ap₂ (λ (p q : Bool). p && q) (marked-kept k 1 r l) (marked-kept k 2 r l)))

-- ---- rows of simplices

-- σ is a set of vertices of a simplex of the list with a or b, without its end of the edge
pub record Part (k a b : ℕ) (τs : List (List ℕ)) (τ σ : List ℕ) : Type 0 where
  pub simplex : Memᴰ τ τs
  pub about : 0 < mark a b τ
  pub some : 1 ≤ length σ
  pub small : length σ ≤ k
  pub rises : rising σ ≡ true
  pub inside : Sub σ τ
  pub without : mem (apex a b τ) σ ≡ false

-- the rows with a mark are those of such sets
pub record Listed (k : ℕ) (pad : List ℕ → List ℕ) (a b : ℕ) (τs l : List (List ℕ)) : Type 0 where
  pub there : (τ σ : List ℕ) → Part k a b τs τ σ → Memᴰ (pad σ ++ (mark a b τ ∷ [])) l
  pub back : (q : List ℕ) → Memᴰ q l → 0 < get_or q k 0 → (τ : List ℕ) × (σ : List ℕ) × Part k a b τs τ σ × (q ≡ pad σ ++ (mark a b τ ∷ []))

module _ (k : ℕ) {pad : List ℕ → List ℕ} (P : Pads k pad) (a b : ℕ) (τs l : List (List ℕ)) (L : Listed k pad a b τs l) where
  module _ (r : List ℕ) (m : ℕ) (positive : 0 < m) where
    -- a marked run comes from a simplex with that mark
    pub run-origin : marked k m (keep (same_first k r) l) ≡ true → (τ : List ℕ) × (σ : List ℕ) × Part k a b τs τ σ × (mark a b τ ≡ m) × (take k r ≡ pad σ)
    run-origin h =
        let q = marked-elim k m (keep (same_first k r) l) h in
        let i = kept-elim (same_first k r) l q.1 in
        let o = L.back q.0 i.0 (subst (λ (u : ℕ). 0 < u) (sym q.2) positive) in
        let p = o.2 in
        let e = o.3 in (
          o.0,
          o.1,
          p,
          sym (pad-mark P o.1 p.some p.small (mark a b o.0)) ∙ ap (λ (u : List ℕ). get_or u k 0) (sym e) ∙ q.2,
          eq_row-sound (take k r) (take k q.0) i.1 ∙ ap (take k) e ∙ pad-words P o.1 p.some p.small (mark a b o.0),
        )

    -- a simplex with the mark gives a marked run
    pub run-marked : (τ σ : List ℕ) → Part k a b τs τ σ → mark a b τ ≡ m → take k r ≡ pad σ → marked k m (keep (same_first k r) l) ≡ true
    run-marked τ σ p e w =
        marked-intro k m (pad σ ++ (mark a b τ ∷ [])) (keep (same_first k r) l)
        (kept-intro (same_first k r) l (L.there τ σ p) (pad-key P σ p.some p.small r (mark a b τ) w))
        (pad-mark P σ p.some p.small (mark a b τ) ∙ e)

  -- ---- the test of all runs

  module _ (few : k ≤ 3) (S : (τ : List ℕ) → Memᴰ τ τs → Nodup τ × (length τ ≤ suc k)) where
    abbrev Meets : Type 0
    Meets = (σ : List ℕ) → 1 ≤ length σ → rising σ ≡ true → mem a σ ≡ false → mem b σ ≡ false → within (a ∷ σ) τs ≡ true → within (b ∷ σ) τs ≡ true → within (a ∷ b ∷ σ) τs ≡ true

    simplices : Simplices τs
    simplices τ m = let s = S τ m in let h = s.1 in (s.0, omega arith)

    filled : (σ : List ℕ) → 1 ≤ length σ → σ ≢ []
    filled σ h e = let k = ap length e in omega arith

    sound : links_meet a b τs ≡ true → Meets
    sound h σ s r oa ob wa wb = sym (links_meet-sound a b τs simplices h σ (filled σ s) (rising-nodup σ r) oa ob) ∙ rw (wa, wb) refl

    complete : Meets → links_meet a b τs ≡ true
    complete f = links_meet-complete a b τs simplices meets
      where
        some : (x : ℕ) (σ l : List ℕ) → mem x l ≡ true → 1 ≤ length l
        some x σ [] m = absurd (mem-nil x m)
        some x σ (y ∷ l) m = omega arith

        meets : LinksMeet a b τs
        meets [] n d oa ob = absurd (n refl)
        meets (x ∷ σ) n d oa ob =
            let ς = sort leb (x ∷ σ) in
            let there : Sub (x ∷ σ) (sort leb (x ∷ σ)) = λ z m. sort-mem z (x ∷ σ) ∙ m in
            let back : Sub (sort leb (x ∷ σ)) (x ∷ σ) = λ z m. sym (sort-mem z (x ∷ σ)) ∙ m in
            let forth : (v : ℕ) → within (v ∷ x ∷ σ) τs ≡ true → within (v ∷ sort leb (x ∷ σ)) τs ≡ true = λ v w. within-mono (v ∷ ς) (v ∷ x ∷ σ) τs (Sub-both v ς (x ∷ σ) back) w in
            same
            (λ w. within-mono (a ∷ b ∷ x ∷ σ) (a ∷ b ∷ ς) τs (Sub-both a (b ∷ x ∷ σ) (b ∷ ς) (Sub-both b (x ∷ σ) ς there))
            (f ς (some x σ ς (there x (mem-here x σ))) (sort-rising (x ∷ σ) d) (sort-mem a (x ∷ σ) ∙ oa) (sort-mem b (x ∷ σ) ∙ ob)
            (forth a (and-fst (within (a ∷ x ∷ σ) τs) (within (b ∷ x ∷ σ) τs) w))
            (forth b (and-snd (within (a ∷ x ∷ σ) τs) (within (b ∷ x ∷ σ) τs) w))))
            (ends a b τs simplices (x ∷ σ))

    -- σ lies with its end in a simplex
    small-part : (v : ℕ) (σ τ : List ℕ) → Memᴰ τ τs → rising σ ≡ true → mem v σ ≡ false → Sub (v ∷ σ) τ → length σ ≤ k
    small-part v σ τ m r o s = let h = short (v ∷ σ) τ (o, rising-nodup σ r) s in let g = (S τ m).1 in omega arith

    part_of : (v : ℕ) (σ τ : List ℕ) → Memᴰ τ τs → 1 ≤ length σ → rising σ ≡ true → mem v σ ≡ false → Sub (v ∷ σ) τ → apex a b τ ≡ v → 0 < mark a b τ → Part k a b τs τ σ
    part_of v σ τ m s r o i e p = record {
      simplex = m;
      about = p;
      some = s;
      small = small-part v σ τ m r o i;
      rises = r;
      inside = λ z j. i z (mem-there z v σ j);
      without = subst (λ (u : ℕ). mem u σ ≡ false) (sym e) o;
    }

    at_first : (σ τ : List ℕ) → Memᴰ τ τs → 1 ≤ length σ → rising σ ≡ true → mem a σ ≡ false → Sub (a ∷ σ) τ → Part k a b τs τ σ
    at_first σ τ m s r o i =
        let h : mem a τ ≡ true = i a (mem-here a σ) in
        part_of a σ τ m s r o i (rw h refl) (elim (split (mem b τ)) [ inl q ↦ rw (h, q) (omega arith) | inr q ↦ rw (h, q) (omega arith) ])

    at_second : (σ τ : List ℕ) → Memᴰ τ τs → 1 ≤ length σ → rising σ ≡ true → mem b σ ≡ false → Sub (b ∷ σ) τ → mem a τ ≡ false → Part k a b τs τ σ
    at_second σ τ m s r o i n =
        let h : mem b τ ≡ true = i b (mem-here b σ) in
        part_of b σ τ m s r o i (rw n refl) (rw (n, h) (omega arith))

    abbrev passes : List ℕ → Bool
    passes r = meet_run k (keep (same_first k r) l)

    -- both ends
    with-both : (σ τ : List ℕ) → Memᴰ τ τs → mem a τ ≡ true → mem b τ ≡ true → Sub σ τ → within (a ∷ b ∷ σ) τs ≡ true
    with-both σ τ m p q i = within-intro (a ∷ b ∷ σ) m (Sub-cons a (b ∷ σ) τ p (Sub-cons b σ τ q i))

    forth : every passes l ≡ true → Meets
    forth h σ s r oa ob wa wb =
        let t = within-elim (a ∷ σ) τs wa in
        let u = within-elim (b ∷ σ) τs wb in
        let a∈ = t.2 a (mem-here a σ) in
        let b∈ = u.2 b (mem-here b σ) in
        elim (split (mem b t.0)) [
          | inl q ↦ with-both σ t.0 t.1 a∈ q (λ z j. t.2 z (mem-there z a σ j))
          | inr q ↦ elim (split (mem a u.0)) [
            | inl p ↦ with-both σ u.0 u.1 p b∈ (λ z j. u.2 z (mem-there z b σ j))
            | inr p ↦
                let x = at_first σ t.0 t.1 s r oa t.2 in
                let y = at_second σ u.0 u.1 s r ob u.2 p in
                let row = pad σ ++ (mark a b t.0 ∷ []) in
                let w : take k (pad σ ++ (mark a b t.0 ∷ [])) ≡ pad σ = pad-words P σ x.some x.small (mark a b t.0) in
                let one = run-marked row 1 (omega arith) t.0 σ x (mark-first a b t.0 a∈ q) w in
                let two = run-marked row 2 (omega arith) u.0 σ y (mark-second a b u.0 p b∈) w in
                let three : marked k 3 (keep (same_first k row) l) ≡ true = only (marked k 3 (keep (same_first k row) l)) (rw (one, two) at (every-elim passes l h (L.there t.0 σ x))) in
                let o = run-origin row 3 (omega arith) three in
                let m = mark-3 a b o.0 o.3 in
                let e : o.1 ≡ σ = sym (P.back o.1 o.2.some o.2.small o.2.rises) ∙ ap (unique eqb) (sym o.4 ∙ w) ∙ P.back σ x.some x.small r in
                with-both σ o.0 o.2.simplex m.0 m.1 (subst (λ (v : List ℕ). Sub v o.0) e o.2.inside)
          ]
        ]
      where
        only : (p : Bool) → (p || false) ≡ true → p ≡ true
        only true h = refl
        only false h = h

    back : Meets → every passes l ≡ true
    back f = every-intro passes l at
      where
        at : (r : List ℕ) → Memᴰ r l → passes r ≡ true
        at r m =
            elim (split (marked k 3 (keep (same_first k r) l))) [
              | inl h ↦ rw h refl
              | inr h ↦ rw h (ap not (nope (λ t.
                  let x = run-origin r 1 (omega arith) (and-fst (marked k 1 (keep (same_first k r) l)) (marked k 2 (keep (same_first k r) l)) t) in
                  let y = run-origin r 2 (omega arith) (and-snd (marked k 1 (keep (same_first k r) l)) (marked k 2 (keep (same_first k r) l)) t) in
                  clash (third x y) h)))
            ]
          where
            third : ((τ : List ℕ) × (σ : List ℕ) × Part k a b τs τ σ × (mark a b τ ≡ 1) × (take k r ≡ pad σ)) → ((τ : List ℕ) × (σ : List ℕ) × Part k a b τs τ σ × (mark a b τ ≡ 2) × (take k r ≡ pad σ)) → marked k 3 (keep (same_first k r) l) ≡ true
            third x y =
                let σ = x.1 in
                let p = x.2 in
                let q = y.2 in
                let s = mark-1 a b x.0 x.3 in
                let u = mark-2 a b y.0 y.3 in
                let e : y.1 ≡ x.1 = sym (P.back y.1 q.some q.small q.rises) ∙ ap (unique eqb) (sym y.4 ∙ x.4) ∙ P.back x.1 p.some p.small p.rises in
                let i : Sub x.1 y.0 = subst (λ (v : List ℕ). Sub v y.0) e q.inside in
                let oa : mem a x.1 ≡ false = nope (λ (j : mem a x.1 ≡ true). clash (i a j) u.0) in
                let ob : mem b x.1 ≡ false = nope (λ (j : mem b x.1 ≡ true). clash (p.inside b j) s.1) in
                let w = f σ p.some p.rises oa ob (within-intro (a ∷ σ) p.simplex (Sub-cons a σ x.0 s.0 p.inside)) (within-intro (b ∷ σ) q.simplex (Sub-cons b σ y.0 u.1 i)) in
                let t = within-elim (a ∷ b ∷ σ) τs w in
                let v = at_first σ t.0 t.1 p.some p.rises oa (λ z j. t.2 z (again z j)) in
                run-marked r 3 (omega arith) t.0 σ v (mark-both a b t.0 (t.2 a (mem-here a (b ∷ σ))) (t.2 b (mem-there b a (b ∷ σ) (mem-here b σ)))) x.4
              where
                again : (z : ℕ) → mem z (a ∷ x.1) ≡ true → mem z (a ∷ b ∷ x.1) ≡ true
                again = Sub-both a x.1 (b ∷ x.1) (λ z j. mem-there z b x.1 j)

    -- the runs of the sorted rows pass exactly where the links meet
    pub runs-meet : every (meet_run k) (runs (same_first k) (sort le_row l)) ≡ links_meet a b τs
    runs-meet = runs-rows k l ∙ same (λ h. complete (forth h)) (λ h. back (sound h))
