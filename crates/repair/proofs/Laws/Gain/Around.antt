-- The elements about the pairs, found by the index: the slots that have a vertex of a pair are live, and stand in the area. Assumes nothing.
use mathlib.Core.Path.{◌≡◌, refl, sym, ap, ap₂, subst, ◌∙◌}
use mathlib.Core.Logic.{inl, inr}
use mathlib.Core.Bool.{Bool, true, false, not, ◌||◌}
use mathlib.Core.List.{List, [], ◌∷◌, map}
use Prim.Native.Nat.{ℕ, zero, suc, ◌+◌, ◌*◌, ◌≤◌, ◌<◌}
use native.Mathlib.Nat.{add-zero}
use native.Mathlib.Omega.{arith}
use lib.Dec.{eqb, ltb}
use lib.ListN.{length, drop, get_or-eq_default}
use lib.Seq.{get_or-drop, drop-drop}
use borrow.Author.Tests.{eqb-true, ltb-true}
use Rattle.geometry.specs.declared.bounds.Options.{Options}
use Rattle.geometry.specs.declared.point.Point.{Point}
use Rattle.mesh.specs.declared.element.Pair.{Pair}
use Rattle.mesh.specs.declared.element.Tet.{Tet}
use Rattle.mesh.specs.declared.star.Index.{Index}
use Rattle.mesh.specs.Words.{word_at}
use Rattle.mesh.specs.Complex.{mem, keep}
use Rattle.mesh.specs.Tests.{every, nodup, under, any}
use Rattle.mesh.specs.Sets.{among}
use Rattle.mesh.specs.Element.{same_pair, tets, vertices_of}
use Rattle.mesh.specs.Intake.{well_numbered}
use Rattle.mesh.specs.inside.List.{gone}
use Rattle.mesh.specs.inside.Star.{gone_word, Complete}
use Rattle.mesh.specs.inside.About.{has_one, star_all, members, entries_of, about_list, about_in, elements_in}
use Rattle.mesh.specs.Measure.{measure}
use Rattle.mesh.proofs.Laws.Bools.{and_left, and_right}
use Rattle.mesh.proofs.Laws.Complex.Sets.{clash, nope, or_cases, or_right, mem-cases, mem-nil}
use Rattle.mesh.proofs.Laws.Link.Simplices.{every-mem}
use Rattle.mesh.proofs.Laws.List.Bad.{keep-few}
use Rattle.mesh.proofs.Laws.Star.Numbers.{any_out}
use Rattle.mesh.proofs.Laws.Star.Calls.{Answered}
use Rattle.mesh.proofs.Laws.About.Members.{entries-few}
use Rattle.mesh.proofs.Laws.About.Answer.{about-count, about-answered}
use Rattle.mesh.proofs.Laws.About.Calls.{Copied, about-elements, about-many}
use Rattle.repair.specs.Mesh.{Mesh, has}
use Rattle.repair.specs.Improve.{State, about, collapsed, gains}
use Rattle.repair.specs.inside.Layout.{Room, Stands, Pairs, Same, pairs_at, pairs_of, pairs_in, slots_in, live_in, slot_ok}
use Rattle.repair.proofs.Laws.Layout.{room-laid}
use Rattle.repair.proofs.Laws.Replace.Pairs.{pairs-few, pair-here}
use Rattle.mesh.proofs.Laws.Intake.Reads.{length-tets}
use Rattle.repair.proofs.Laws.Gain.Judging.{pairs-same}

-- ---- the vertices of pairs

-- those of each pair, its first before its second
abbrev ends : List Pair → List ℕ
ends [] = []
ends (e ∷ es) = e.a ∷ e.b ∷ ends es

members-ends : (k p : ℕ) (w : List ℕ) → members (2 * k) p 1 w ≡ ends (pairs_of k (drop p w))
unfolding members pairs_of
members-ends zero p w = refl
members-ends (suc k) p w =
    let e : 2 * suc k ≡ suc (suc (2 * k)) = omega arith in
    let f : p + 1 + 1 ≡ p + 2 = omega arith in
    rw (e, f, members-ends k (p + 2) w, get_or-drop p w 0 0, add-zero p, get_or-drop p w 1 0, drop-drop 2 p w) refl

entries-ends : (x : Index) (s : List ℕ) (es : List Pair) → entries_of x s (ends es) ≡ entries_of x s (map (λ e. e.a) es) + entries_of x s (map (λ e. e.b) es)
unfolding entries_of
entries-ends x s [] = refl
entries-ends x s (e ∷ es) = omega (arith, entries-ends x s es)

-- an element has one of them where it has a vertex of a pair
one-ends : (t : Tet) (es : List Pair) → has_one (ends es) t ≡ any (λ e. has e.a t || has e.b t) es
one-ends t [] = refl
one-ends t (e ∷ es) = rw (one-ends t es) (or_assoc (has e.a t) (has e.b t) (any (λ e. has e.a t || has e.b t) es))
  where
    or_assoc : (a b c : Bool) → (a || (b || c)) ≡ ((a || b) || c)
    or_assoc true b c = refl
    or_assoc false b c = refl

keep-ends : (es : List Pair) (ts : List Tet) → keep (has_one (ends es)) ts ≡ about es ts
keep-ends es [] = refl
keep-ends es (t ∷ ts) = rw (one-ends t es, keep-ends es ts) refl

module _ (nv : ℕ) where
  abbrev Below : List Pair → Type 0
  Below es = (e : Pair) → among same_pair e es ≡ true → (e.a < nv) × (e.b < nv)

  rest : (e : Pair) (es : List Pair) → Below (e ∷ es) → Below es
  rest e es h f m = h f (or_right (same_pair f e) m)

  ends-below : (es : List Pair) → Below es → (v : ℕ) → mem v (ends es) ≡ true → v < nv
  ends-below [] h v m = absurd (mem-nil v m)
  ends-below (e ∷ es) h v m =
      elim (mem-cases v e.a (e.b ∷ ends es) m) [
        | inl q ↦ subst (λ (y : ℕ). y < nv) (sym q) (h e (pair-here e es)).0
        | inr n ↦ elim (mem-cases v e.b (ends es) n) [
          | inl q ↦ subst (λ (y : ℕ). y < nv) (sym q) (h e (pair-here e es)).1
          | inr l ↦ ends-below es (rest e es h) v l
        ]
      ]

  firsts-below : (es : List Pair) → Below es → (v : ℕ) → mem v (map (λ e. e.a) es) ≡ true → v < nv
  firsts-below [] h v m = absurd (mem-nil v m)
  firsts-below (e ∷ es) h v m =
      elim (mem-cases v e.a (map (λ e. e.a) es) m) [
        | inl q ↦ subst (λ (y : ℕ). y < nv) (sym q) (h e (pair-here e es)).0
        | inr n ↦ firsts-below es (rest e es h) v n
      ]

  -- ---- a slot with a vertex of a pair is live

  slot-live : nv ≤ 4096 → (vs : List ℕ) → ((v : ℕ) → mem v vs ≡ true → v < nv) → (t : Tet) → slot_ok nv t ≡ true → has_one vs t ≡ true → gone t ≡ false
  unfolding slot_ok
  slot-live few vs below t ok h =
      let r = any_out (λ v. has v t) vs h in
      let b = below r.0 r.1 in
      elim (or_cases (every (eqb gone_word) (vertices_of t)) (well_numbered nv t) ok) [
        | inl g ↦ let e : gone_word ≡ r.0 = eqb-true gone_word r.0 (every-mem (eqb gone_word) (vertices_of t) g r.0 r.2) in absurd (omega arith)
        | inr g ↦
            let a : t.a < nv = ltb-true t.a nv (and_left (ltb t.a nv) (under nv (t.b ∷ t.c ∷ t.d ∷ [])) (and_left (under nv (vertices_of t)) (nodup (vertices_of t)) g)) in
            nope (λ q. let e : t.a ≡ 4294967295 = eqb-true t.a 4294967295 q in absurd (omega arith))
      ]

  keep_live : nv ≤ 4096 → (vs : List ℕ) → ((v : ℕ) → mem v vs ≡ true → v < nv) → (ts : List Tet) → every (slot_ok nv) ts ≡ true
      → keep (has_one vs) (keep (λ t. not (gone t)) ts) ≡ keep (has_one vs) ts
  keep_live few vs below [] ok = refl
  keep_live few vs below (t ∷ ts) ok = go (gone t) (has_one vs t) refl refl (keep_live few vs below ts (and_right (slot_ok nv t) (every (slot_ok nv) ts) ok))
    where
      go : (b c : Bool) → gone t ≡ b → has_one vs t ≡ c → keep (has_one vs) (keep (λ t. not (gone t)) ts) ≡ keep (has_one vs) ts
          → keep (has_one vs) (keep (λ t. not (gone t)) (t ∷ ts)) ≡ keep (has_one vs) (t ∷ ts)
      go true true e f ih = absurd (clash e (slot-live few vs below t (and_left (slot_ok nv t) (every (slot_ok nv) ts) ok) f))
      go true false e f ih = rw (e, f) ih
      go false true e f ih = rw (e, f) (ap (λ (l : List Tet). t ∷ l) ih)
      go false false e f ih = rw (e, f) ih

-- ---- after the calls

-- where the c elements about the k pairs stand in t, otherwise the same as w
pub record Around (x : Index) (n k : ℕ) (w t : List ℕ) (c : ℕ) : Type 0 where
  pub same : Same w t x.area (length w)
  pub few : c ≤ 16384
  pub fits : x.area + c + 4 * c ≤ length t
  pub room : pairs_at x + 2 * k ≤ length t
  pub pairs : pairs_in x k t ≡ pairs_in x k w
  pub elements : tets c (drop (x.area + c) t) ≡ about (pairs_in x k w) (slots_in x n w)

module _ (x : Index) (n k : ℕ) (w : List ℕ) (r : Room x n (length w)) (p : Pairs x.vertices (pairs_in x k w)) (index : Complete x w (4 * n)) where
  vs-is : members (2 * k) (pairs_at x) 1 w ≡ ends (pairs_in x k w)
  vs-is = members-ends k (pairs_at x) w

  many : k ≤ x.vertices
  many = pairs-few x.vertices k (drop (pairs_at x) w) p

  pub double : 2 * k ≤ 8192
  double = let a = r.few in omega (arith, many)

  before : (i : ℕ) → i < 2 * k → pairs_at x + 1 * i < x.area
  before i h = let a = r.slots in let b = r.nexts in let c = r.heads in let d = r.lengths in let e = r.area in omega (arith, many)

  below : (v : ℕ) → mem v (members (2 * k) (pairs_at x) 1 w) ≡ true → v < x.vertices
  below v m = ends-below x.vertices (pairs_in x k w) p.below v (subst (λ (l : List ℕ). mem v l ≡ true) vs-is m)

  entries : entries_of x w (members (2 * k) (pairs_at x) 1 w) ≤ 8 * n
  entries =
      let a = entries-few x w (4 * n) index.chains (map (λ e. e.a) (pairs_in x k w)) p.firsts in
      let b = entries-few x w (4 * n) index.chains (map (λ e. e.b) (pairs_in x k w)) p.seconds in
      omega (arith, ap (entries_of x w) vs-is, entries-ends x w (pairs_in x k w))

  area-low : x.area + 64 * n ≤ length w
  area-low = let a = r.slots in let b = r.nexts in let c = r.heads in let d = r.lengths in let e = r.area in let f = r.long in let g = r.room in omega arith

  fit : x.area + (entries_of x w (members (2 * k) (pairs_at x) 1 w) + entries_of x w (members (2 * k) (pairs_at x) 1 w)) ≤ length w
  fit = omega (arith, entries, area-low)

  pub around : (from c : ℕ) (w₁ w₂ : List ℕ) → from ≡ pairs_at x → c ≡ length (about_list x w from (2 * k) 1) → w₁ ≡ about_in x w from (2 * k) 1 → w₂ ≡ elements_in x c w₁
      → Around x n k w w₂ c
  around from c w₁ w₂ place ec e₁ e₂ =
      let l = room-laid r in
      let hn : n ≤ x.room = let a = r.room in omega arith in
      let ts = tets n (drop x.slots w) in
      let us = star_all (members (2 * k) (pairs_at x) 1 w) ts in
      let cu : c ≡ length us = ec ∙ ap (λ (i : ℕ). length (about_list x w i (2 * k) 1)) place ∙ about-count x w n l index (pairs_at x) (2 * k) 1 before below fit in
      let a = subst (λ (y : List ℕ). Answered w y x.area us) (sym (e₁ ∙ ap (λ (i : ℕ). about_in x w i (2 * k) 1) place)) (about-answered x w n l index (pairs_at x) (2 * k) 1 before below fit) in
      let kept = keep (has_one (members (2 * k) (pairs_at x) 1 w)) ts in
      let ck : c ≡ length kept = cu ∙ about-many (members (2 * k) (pairs_at x) 1 w) ts in
      let few : c ≤ n = omega (arith, ck, keep-few (has_one (members (2 * k) (pairs_at x) 1 w)) ts, length-tets n (drop x.slots w)) in
      let d : Copied w₁ (elements_in x (length us) w₁) (x.area + length us) kept =
      about-elements x w n l hn (members (2 * k) (pairs_at x) 1 w) w₁ a (omega (arith, cu, few, area-low)) in
      let d₂ : Copied w₁ w₂ (x.area + c) kept =
      subst (λ (y : List ℕ). Copied w₁ y (x.area + c) kept) (sym e₂) (subst (λ (i : ℕ). Copied w₁ (elements_in x i w₁) (x.area + i) kept) (sym cu) d) in
      let long : length w₂ ≡ length w = d₂.long ∙ a.long in
      let kept-below : (j : ℕ) → j < x.area → word_at w₂ j ≡ word_at w j = λ j h. d₂.below j (omega arith) ∙ a.below j h in
      record {
        same = record {
          long = long;
          before = kept-below;
          behind = λ j h. get_or-eq_default w₂ 0 (omega (arith, long)) ∙ sym (get_or-eq_default w 0 h);
        };
        few = let b = r.elements in omega (arith, few);
        fits = omega (arith, long, few, area-low);
        room = let b = r.long in omega (arith, long, many);
        pairs =
            pairs-same k (drop (pairs_at x) w) (drop (pairs_at x) w₂)
            (λ j h. get_or-drop (pairs_at x) w₂ j 0 ∙ kept-below (pairs_at x + j) (let b = before j h in omega arith) ∙ sym (get_or-drop (pairs_at x) w j 0));
        elements =
            ap (λ (i : ℕ). tets i (drop (x.area + c) w₂)) ck ∙ d₂.elements
            ∙ ap (λ (l : List ℕ). keep (has_one l) ts) vs-is ∙ keep-ends (pairs_in x k w) ts;
      }

  -- those of the slots are those of the state
  pub about-live : (o : Options) (m : Mesh) (s : State) → Stands o m x n w s → about (pairs_in x k w) (slots_in x n w) ≡ about (pairs_in x k w) s.elements
  unfolding live_in
  about-live o m s z =
      sym (keep-ends (pairs_in x k w) (slots_in x n w))
      ∙ sym (keep_live x.vertices r.few (ends (pairs_in x k w)) (ends-below x.vertices (pairs_in x k w) p.below) (slots_in x n w) z.proper)
      ∙ keep-ends (pairs_in x k w) (keep (λ t. not (gone t)) (slots_in x n w))
      ∙ ap (about (pairs_in x k w)) (sym z.elements)

  -- what they gain is what those of the state gain
  pub gain-is : {t : List ℕ} {c : ℕ} → Around x n k w t c → (ps : List Point) (b : Bool)
      → b ≡ gains (measure ps) (tets c (drop (x.area + c) t)) (collapsed (pairs_in x k t) (tets c (drop (x.area + c) t)))
      → (o : Options) (m : Mesh) (s : State) → m.points ≡ ps → Stands o m x n w s
      → b ≡ gains (measure m.points) (about (pairs_in x k w) s.elements) (collapsed (pairs_in x k w) (about (pairs_in x k w) s.elements))
  gain-is a ps b e o m s em z =
      let l = about (pairs_in x k w) s.elements in
      e ∙ ap₂ (λ (u : List Pair) (ts : List Tet). gains (measure ps) ts (collapsed u ts)) a.pairs (a.elements ∙ about-live o m s z)
      ∙ ap (λ (u : List Point). gains (measure u) l (collapsed (pairs_in x k w) l)) (sym em)
