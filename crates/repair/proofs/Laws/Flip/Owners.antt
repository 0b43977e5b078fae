-- The elements that own a face or an edge. Two elements with the face u v w have different apexes a and b and may be flipped to three;
-- three elements about the edge a b with three other vertices in all are those of each two of the three. Assumes nothing.
use mathlib.Core.Path.{◌≡◌, refl, sym, ap, subst, ◌∙◌}
use mathlib.Core.Logic.{◌≢◌, inl, inr}
use mathlib.Core.Bool.{Bool, true, false, not, ◌&&◌, ◌||◌}
use mathlib.Core.List.Memᴰ
use mathlib.Core.List.{List, [], ◌∷◌, ◌++◌, map, Memᴰ}
use Prim.Native.Nat.{ℕ, ◌+◌, ◌≤◌}
use native.Mathlib.Omega.{arith}
use borrow.Author.Tests.{not-true}
use lib.Dec.{eqb}
use lib.ListN.{length}
use Rattle.mesh.specs.declared.element.Tet.{Tet}
use Rattle.mesh.specs.Complex.{mem, sub, within, keep, Nodup, Sub}
use Rattle.mesh.specs.inside.Complex.{star, IsElement, Proper}
use Rattle.mesh.specs.inside.Moves.{Flippable23}
use Rattle.mesh.specs.Tests.{every}
use Rattle.mesh.specs.Element.{vertices_of, has_all}
use Rattle.mesh.specs.Link.{without}
use Rattle.mesh.proofs.Laws.Complex.Sets.{split, clash, nope, and-fst, and-snd, mem-here, mem-there, mem-cases, mem-nil, out, out-head, out-tail, Sub-cons, sub-elim, within-elim, within-intro, short, full, keep-mem, keep-nodup}
use Rattle.mesh.proofs.Laws.Complex.Lists.{keep-split}
use Rattle.mesh.proofs.Laws.Complex.Same.{proper-keep}
use Rattle.mesh.proofs.Laws.Complex.Tets.{tet-of, whole}
use Rattle.mesh.proofs.Laws.Link.Members.{kept-elim}
use Rattle.mesh.proofs.Laws.Boundary.Same.{keep-map, length-map}
use Rattle.repair.proofs.Laws.Flip.Triangles.{lose, star-none}

-- ---- vertices besides σ

pub keep-both : {A : Type 0} (p : A → Bool) (l : List A) → length (keep p l) + length (keep (λ x. not (p x)) l) ≡ length l
keep-both p [] = refl
keep-both p (x ∷ l) = let r = keep-both p l in elim (split (p x)) [ inl h ↦ rw h (omega arith) | inr h ↦ rw h (omega arith) ]

-- an element has four vertices, those of σ and the others
pub length_without : (n : ℕ) (σ e : List ℕ) → IsElement n e → Nodup σ → sub σ e ≡ true → length σ + length (without σ e) ≡ 4
length_without n σ e t d h =
    omega (
      arith,
      t.four,
      keep-both (λ x. mem x σ) e,
      short σ (keep (λ x. mem x σ) e) d (λ x m. keep-mem (λ y. mem y σ) e x ∙ rw (sub-elim σ e h x m, m) refl),
      short (keep (λ x. mem x σ) e) σ (keep-nodup (λ x. mem x σ) e t.distinct) (λ x m. and-snd (mem x e) (mem x σ) (sym (keep-mem (λ y. mem y σ) e x) ∙ m)),
    )

pub without-elim : (σ e : List ℕ) (x : ℕ) → mem x (without σ e) ≡ true → (mem x e ≡ true) × (mem x σ ≡ false)
without-elim σ e x m =
    let h = sym (keep-mem (λ y. not (mem y σ)) e x) ∙ m in
    (and-fst (mem x e) (not (mem x σ)) h, not-true (mem x σ) (and-snd (mem x e) (not (mem x σ)) h))

pub without-intro : (σ e : List ℕ) (x : ℕ) → mem x e ≡ true → mem x σ ≡ false → mem x (without σ e) ≡ true
without-intro σ e x m o = keep-mem (λ y. not (mem y σ)) e x ∙ rw (m, o) refl

-- the elements with σ, as sets of vertices
pub owners : (σ : List ℕ) (ts : List Tet) → keep (sub σ) (map vertices_of ts) ≡ map vertices_of (keep (has_all σ) ts)
owners σ ts = keep-map vertices_of (sub σ) ts

pub star-owners : (σ : List ℕ) (ts : List Tet) → star σ (map vertices_of ts) ≡ length (keep (has_all σ) ts)
unfolding star
star-owners σ ts = ap length (owners σ ts) ∙ length-map vertices_of (keep (has_all σ) ts)

vertices-member : (t : Tet) (ts : List Tet) → Memᴰ t ts → Memᴰ (vertices_of t) (map vertices_of ts)
vertices-member t [] m = absurd (Memᴰ.not-nil m)
vertices-member t (u ∷ ts) m = elim (Memᴰ.cases_cons m) [ inl e ↦ Memᴰ.head (ap vertices_of e) | inr k ↦ Memᴰ.tail (vertices-member t ts k) ]

pub element-of : (n : ℕ) (t : Tet) (ts : List Tet) → Proper n (map vertices_of ts) → Memᴰ t ts → IsElement n (vertices_of t)
element-of n t ts P m = tet-of {n = n} P (vertices-member t ts m)

-- ---- the two owners of a face

module _ (n u v w : ℕ) (ts : List Tet) (P : Proper n (map vertices_of ts)) (d : Nodup (u ∷ v ∷ w ∷ [])) (t₁ t₂ : Tet) (two : keep (has_all (u ∷ v ∷ w ∷ [])) ts ≡ t₁ ∷ t₂ ∷ [])
    (a b : ℕ) (apex_a : without (u ∷ v ∷ w ∷ []) (vertices_of t₁) ≡ a ∷ []) (apex_b : without (u ∷ v ∷ w ∷ []) (vertices_of t₂) ≡ b ∷ []) where
  abbrev face : List ℕ
  face = u ∷ v ∷ w ∷ []

  first : Memᴰ t₁ ts × (has_all face t₁ ≡ true)
  first = kept-elim (has_all face) ts (subst (Memᴰ t₁) (sym two) (Memᴰ.head refl))

  second : Memᴰ t₂ ts × (has_all face t₂ ≡ true)
  second = kept-elim (has_all face) ts (subst (Memᴰ t₂) (sym two) (Memᴰ.tail (Memᴰ.head refl)))

  in-a : (mem a (vertices_of t₁) ≡ true) × (mem a face ≡ false)
  in-a = without-elim face (vertices_of t₁) a (subst (λ l. mem a l ≡ true) (sym apex_a) (mem-here a []))

  in_b : (mem b (vertices_of t₂) ≡ true) × (mem b face ≡ false)
  in_b = without-elim face (vertices_of t₂) b (subst (λ l. mem b l ≡ true) (sym apex_b) (mem-here b []))

  -- the face and the apex
  with-apex : (e : List ℕ) (x : ℕ) → sub face e ≡ true → mem x e ≡ true → Sub (u ∷ v ∷ w ∷ x ∷ []) e
  with-apex e x h m =
      let s = sub-elim face e h in
      Sub-cons u (v ∷ w ∷ x ∷ []) e (s u (mem-here u (v ∷ w ∷ [])))
      (Sub-cons v (w ∷ x ∷ []) e (s v (mem-there v u (v ∷ w ∷ []) (mem-here v (w ∷ []))))
      (Sub-cons w (x ∷ []) e (s w (mem-there w u (v ∷ w ∷ []) (mem-there w v (w ∷ []) (mem-here w [])))) (Sub-cons x [] e m (λ z k. absurd (mem-nil z k)))))

  four-nodup : (x : ℕ) → mem x face ≡ false → Nodup (u ∷ v ∷ w ∷ x ∷ [])
  four-nodup x o = (
    nope (λ m. outside u (v ∷ w ∷ []) d.0 (λ e. out-head x u (v ∷ w ∷ []) o (sym e)) m),
    (
      nope (λ m. outside v (w ∷ []) d.1.0 (λ e. out-head x v (w ∷ []) (out-tail x u (v ∷ w ∷ []) o) (sym e)) m),
      (out w x [] (λ e. out-head x w [] (out-tail x v (w ∷ []) (out-tail x u (v ∷ w ∷ []) o)) (sym e)) refl, (refl, tt)),
    ),
  )
    where
      outside : (y : ℕ) (l : List ℕ) → mem y l ≡ false → y ≢ x → mem y (l ++ x ∷ []) ≡ true → ⊥
      outside y [] h k m = elim (mem-cases y x [] m) [ inl e ↦ k e | inr q ↦ mem-nil y q ]
      outside y (z ∷ l) h k m = elim (mem-cases y z (l ++ x ∷ []) m) [ inl e ↦ out-head y z l h e | inr q ↦ outside y l (out-tail y z l h) k q ]

  -- two elements are not the same
  a≢b : a ≢ b
  a≢b e =
      let Q : Proper n (vertices_of t₁ ∷ vertices_of t₂ ∷ []) = subst (Proper n) (owners face ts ∙ ap (map vertices_of) two) (proper-keep n (sub face) (map vertices_of ts) P) in
      let A = whole (u ∷ v ∷ w ∷ a ∷ []) Q.0 refl (four-nodup a in-a.1) (with-apex (vertices_of t₁) a first.1 in-a.0) in
      let B = whole (u ∷ v ∷ w ∷ b ∷ []) Q.2.0 refl (four-nodup b in_b.1) (with-apex (vertices_of t₂) b second.1 in_b.0) in
      Q.1 (vertices_of t₂) (Memᴰ.head refl)
      (λ z m. with-apex (vertices_of t₂) a second.1 (subst (λ x. mem x (vertices_of t₂) ≡ true) (sym e) in_b.0) z (A z m))
      (λ z m. with-apex (vertices_of t₁) b first.1 (subst (λ x. mem x (vertices_of t₁) ≡ true) e in-a.0) z (B z m))

  pub flippable23 : within (a ∷ b ∷ []) (map vertices_of ts) ≡ false → Flippable23 a b u v w (map vertices_of ts)
  flippable23 free = record {
    five = (out a b face a≢b in-a.1, (in_b.1, d));
    at_a = within-intro (u ∷ v ∷ w ∷ a ∷ []) (vertices-member t₁ ts first.0) (with-apex (vertices_of t₁) a first.1 in-a.0);
    at_b = within-intro (u ∷ v ∷ w ∷ b ∷ []) (vertices-member t₂ ts second.0) (with-apex (vertices_of t₂) b second.1 in_b.0);
    only = star-owners face ts ∙ ap length two;
    free = free;
  }

-- ---- three owners of an edge

-- at most one element has four given vertices
star-four : (n : ℕ) (τ : List ℕ) (es : List (List ℕ)) → Proper n es → length τ ≡ 4 → Nodup τ → star τ es ≤ 1
unfolding star
star-four n τ [] P l d = omega arith
star-four n τ (e ∷ es) P l d =
    elim (split (sub τ e)) [
      | inl h ↦ rw h (let z = star-none τ es (alone h) in omega arith)
      | inr h ↦ rw h (star-four n τ es P.2 l d)
    ]
  where
    alone : sub τ e ≡ true → within τ es ≡ false
    alone h = nope (λ k.
        let r = within-elim τ es k in
        let s = sub-elim τ e h in
        let there = whole τ P.0 l d s in
        let back = whole τ (tet-of {n = n} P.2 r.1) l d r.2 in
        P.1 r.0 r.1 (λ z m. r.2 z (there z m)) (λ z m. s z (back z m)))

keep-mono : (p q : List ℕ → Bool) (es : List (List ℕ)) → ((e : List ℕ) → Memᴰ e es → p e ≡ true → q e ≡ true) → length (keep p es) ≤ length (keep q es)
keep-mono p q [] h = omega arith
keep-mono p q (e ∷ es) h =
    let r = keep-mono p q es (λ f m. h f (Memᴰ.tail m)) in
    elim (split (p e)) [
      | inl k ↦ rw (k, h e (Memᴰ.head refl) k) (omega arith)
      | inr k ↦ elim (split (q e)) [ inl g ↦ rw (k, g) (omega arith) | inr g ↦ rw (k, g) (omega arith) ]
    ]

-- three elements about a b within a b x y z: one of them has x and y
pub third : (n a b x y z : ℕ) (es : List (List ℕ)) → Proper n es → star (a ∷ b ∷ []) es ≡ 3 → Nodup (a ∷ b ∷ z ∷ x ∷ []) → Nodup (a ∷ b ∷ z ∷ y ∷ [])
    → every (λ k. eqb k z || mem k (a ∷ b ∷ x ∷ y ∷ [])) (a ∷ b ∷ x ∷ y ∷ z ∷ []) ≡ true
    → every (λ k. eqb k x || mem k (a ∷ b ∷ y ∷ z ∷ [])) (a ∷ b ∷ x ∷ y ∷ z ∷ []) ≡ true
    → every (λ k. eqb k y || mem k (a ∷ b ∷ z ∷ [])) (a ∷ b ∷ y ∷ z ∷ []) ≡ true
    → ((e : List ℕ) → Memᴰ e es → sub (a ∷ b ∷ []) e ≡ true → Sub e (a ∷ b ∷ x ∷ y ∷ z ∷ [])) → within (a ∷ b ∷ x ∷ y ∷ []) es ≡ true
unfolding star
third n a b x y z es P three dx dy lose_z lose_x lose_y all = elim (split (within (a ∷ b ∷ x ∷ y ∷ []) es)) [ inl h ↦ h | inr gone ↦ absurd (never gone) ]
  where
    short-four : (e : List ℕ) → Memᴰ e es → Sub e (a ∷ b ∷ z ∷ []) → ⊥
    short-four e m s = let t = tet-of {n = n} P m in let r = short e (a ∷ b ∷ z ∷ []) t.distinct s in let l = t.four in omega arith

    has-z : within (a ∷ b ∷ x ∷ y ∷ []) es ≡ false → (e : List ℕ) → Memᴰ e es → sub (a ∷ b ∷ []) e ≡ true → mem z e ≡ true
    has-z gone e m h = elim (split (mem z e)) [
      | inl k ↦ k
      | inr o ↦
          let t = tet-of {n = n} P m in
          let s = lose e z (a ∷ b ∷ x ∷ y ∷ z ∷ []) (a ∷ b ∷ x ∷ y ∷ []) o lose_z (all e m h) in
          absurd (clash (within-intro (a ∷ b ∷ x ∷ y ∷ []) m (full e (a ∷ b ∷ x ∷ y ∷ []) t.distinct s (let l = t.four in omega arith))) gone)
    ]

    has-y : (e : List ℕ) → Memᴰ e es → sub (a ∷ b ∷ []) e ≡ true → mem x e ≡ false → mem y e ≡ true
    has-y e m h o = elim (split (mem y e)) [
      | inl k ↦ k
      | inr q ↦
          absurd (short-four e m (lose e y (a ∷ b ∷ y ∷ z ∷ []) (a ∷ b ∷ z ∷ []) q lose_y (lose e x (a ∷ b ∷ x ∷ y ∷ z ∷ []) (a ∷ b ∷ y ∷ z ∷ []) o lose_x (all e m h))))
    ]

    four-in : (e : List ℕ) (k : ℕ) → sub (a ∷ b ∷ []) e ≡ true → mem z e ≡ true → mem k e ≡ true → sub (a ∷ b ∷ z ∷ k ∷ []) e ≡ true
    four-in e k h mz mk =
        let s = sub-elim (a ∷ b ∷ []) e h in
        rw (s a (mem-here a (b ∷ [])), s b (mem-there b a (b ∷ []) (mem-here b [])), mz, mk) refl

    never : within (a ∷ b ∷ x ∷ y ∷ []) es ≡ false → ⊥
    never gone =
        omega (
          arith,
          three,
          keep-split (sub (a ∷ b ∷ [])) (mem x) es,
          keep-mono (λ e. sub (a ∷ b ∷ []) e && mem x e) (sub (a ∷ b ∷ z ∷ x ∷ [])) es
              (λ e m h. let k = and-fst (sub (a ∷ b ∷ []) e) (mem x e) h in four-in e x k (has-z gone e m k) (and-snd (sub (a ∷ b ∷ []) e) (mem x e) h)),
          keep-mono (λ e. sub (a ∷ b ∷ []) e && not (mem x e)) (sub (a ∷ b ∷ z ∷ y ∷ [])) es
              (λ e m h. let k = and-fst (sub (a ∷ b ∷ []) e) (not (mem x e)) h in four-in e y k (has-z gone e m k) (has-y e m k (not-true (mem x e) (and-snd (sub (a ∷ b ∷ []) e) (not (mem x e)) h)))),
          star-four n (a ∷ b ∷ z ∷ x ∷ []) es P refl dx,
          star-four n (a ∷ b ∷ z ∷ y ∷ []) es P refl dy,
        )
