-- The faces about an edge that lie in one element, and the boundary test of `link_ok`: those faces' links at a and at b meet in the
-- edge's, so no edge lies in both. Assumes nothing.
use Rattle.std.proofs.Common.{◌≡◌, ℕ, suc, ◌≤◌, Bool, true, false, cond, ◌||◌, eqb, ◌≢◌, ◌⊎◌, ◌↔◌, List, [], ◌∷◌, map, length, sym, refl, ap, ◌∙◌, subst, inl, inr, arith, eq-eqb, eqb-true}
use mathlib.Core.List.Memᴰ
use mathlib.Core.List.{Memᴰ, cons≢nil}
use Rattle.mesh.specs.declared.element.Tet.{Tet}
use Rattle.mesh.specs.declared.element.Triple.{Triple}
use Rattle.mesh.specs.Complex.{mem, within, keep, Nodup, Sub}
use Rattle.mesh.specs.inside.Complex.{star}
use Rattle.mesh.specs.Sets.{times}
use Rattle.mesh.specs.Element.{triple, faces_of, key_of, vertices_of, corners_of}
use Rattle.mesh.specs.Boundary.{same_triple, all_faces}
use Rattle.mesh.specs.Link.{keys_about, boundary_about, boundary_ok}
use Rattle.mesh.proofs.Laws.Complex.Sets.{split, or_left, or_right, mem-here, out, within-elim, within-intro, short, star-alike}
use Rattle.mesh.proofs.Laws.Link.Members.{Decides, kept-elim, kept-intro}
use Rattle.mesh.proofs.Laws.Link.Simplices.{rising, rising-nodup}
use Rattle.mesh.proofs.Laws.Link.Links.{Simplices, LinksMeet, links_meet-sound, links_meet-complete}
use Rattle.mesh.proofs.Laws.Link.Keys.{Fours, key-mem, key-rising, triple-decides, face-nodup, three-nodup, flip≢, times-star}

-- ---- how often a value stands in a list

module _ {A : Type 0} (alike : A → A → Bool) (d : Decides alike) where
  -- among those that pass a test: as often as before, or not at all
  pub times-keep : (p : A → Bool) (x : A) (ys : List A) → times alike x (keep p ys) ≡ cond (p x) (times alike x ys) 0
  times-keep p x [] = elim (split (p x)) [ inl h ↦ rw h refl | inr h ↦ rw h refl ]
  times-keep p x (y ∷ ys) =
      let ih = times-keep p x ys in
      elim (split (alike x y)) [
        | inl e ↦ let q : p x ≡ p y = ap p (d.equal x y e) in
            elim (split (p y)) [
              | inl h ↦ let g : p x ≡ true = q ∙ h in rw (h, e, g) (ap suc (ih ∙ rw g refl))
              | inr h ↦ let g : p x ≡ false = q ∙ h in rw (h, g) (ih ∙ rw g refl)
            ]
        | inr e ↦ elim (split (p y)) [ inl h ↦ rw (h, e) ih | inr h ↦ rw (h, e) ih ]
      ]

  -- what stands there at all is a member
  pub times-some : (x : A) (ys : List A) → 1 ≤ times alike x ys → Memᴰ x ys
  times-some x [] h = absurd (omega arith)
  times-some x (y ∷ ys) h =
      elim (split (alike x y)) [ inl e ↦ Memᴰ.head (d.equal x y e) | inr e ↦ Memᴰ.tail (times-some x ys (rw e at h)) ]

-- ---- the boundary faces about an edge

-- a key with a or b whose three vertices one element has
pub record BoundaryFace (a b : ℕ) (es : List (List ℕ)) (f : Triple) : Type 0 where
  pub rises : rising (corners_of f) ≡ true
  pub about : (mem a (corners_of f) || mem b (corners_of f)) ≡ true
  pub single : star (corners_of f) es ≡ 1

-- each face of the list is a face of an element
face-of : (f : Triple) (ts : List Tet) → Memᴰ f (all_faces ts) → (t : Tet) × Memᴰ t ts × Memᴰ f (faces_of t)
unfolding all_faces
face-of f [] m = absurd (Memᴰ.not-nil m)
face-of f (t ∷ ts) m =
    elim (Memᴰ.append_cases (faces_of t) m) [
      | inl i ↦ (t, Memᴰ.head refl, i)
      | inr i ↦ let r = face-of f ts i in (r.0, Memᴰ.tail r.1, r.2)
    ]

module _ (a b : ℕ) (ts : List Tet) (P : Fours ts) where
  all-rising : (f : Triple) → Memᴰ f (map key_of (all_faces ts)) → rising (corners_of f) ≡ true
  all-rising f m =
      let r = Memᴰ.of_map key_of (all_faces ts) m in
      let s = face-of r.0 ts r.1 in
      subst (λ u. rising (corners_of u) ≡ true) r.2 (key-rising r.0 (face-nodup s.0 r.0 (P s.0 s.1) s.2))

  -- a key with a or b stands among the keys about the edge as often as elements have its vertices
  pub keys-star : (f : Triple) → rising (corners_of f) ≡ true → (mem a (corners_of f) || mem b (corners_of f)) ≡ true → times same_triple f (keys_about a b ts) ≡ star (corners_of f) (map vertices_of ts)
  unfolding keys_about
  keys-star f h k = times-keep same_triple triple-decides (λ g. mem a (corners_of g) || mem b (corners_of g)) f (map key_of (all_faces ts)) ∙ rw k (times-star f h ts P)

  -- a face of the list is a boundary face
  pub boundary-elim : (f : Triple) → Memᴰ f (boundary_about a b ts) → BoundaryFace a b (map vertices_of ts) f
  unfolding boundary_about keys_about
  boundary-elim f m =
      let r = kept-elim (λ g. eqb (times same_triple g (keys_about a b ts)) 1) (keys_about a b ts) m in
      let k = kept-elim (λ g. mem a (corners_of g) || mem b (corners_of g)) (map key_of (all_faces ts)) r.0 in
      let h = all-rising f k.0 in
      record { rises = h; about = k.1; single = sym (keys-star f h k.1) ∙ eqb-true (times same_triple f (keys_about a b ts)) 1 r.1 }

  -- and each boundary face about the edge is in the list
  pub boundary-intro : (f : Triple) → BoundaryFace a b (map vertices_of ts) f → Memᴰ f (boundary_about a b ts)
  unfolding boundary_about
  boundary-intro f r =
      let e : times same_triple f (keys_about a b ts) ≡ 1 = keys-star f r.rises r.about ∙ r.single in
      kept-intro (λ g. eqb (times same_triple g (keys_about a b ts)) 1) (keys_about a b ts) (times-some same_triple triple-decides f (keys_about a b ts) (omega arith)) (eq-eqb (times same_triple f (keys_about a b ts)) 1 e)

  -- the boundary faces about the edge are the keys with a or b that lie in one element
  pub boundary-exact : (f : Triple) → Memᴰ f (boundary_about a b ts) ↔ BoundaryFace a b (map vertices_of ts) f
  boundary-exact f = (boundary-elim f, boundary-intro f)

  -- as simplices
  pub boundary-simplices : Simplices (map corners_of (boundary_about a b ts))
  boundary-simplices τ m =
      let r = Memᴰ.of_map corners_of (boundary_about a b ts) m in
      subst (λ u. Nodup u × (length u ≤ 4)) r.2 (rising-nodup (corners_of r.0) (boundary-elim r.0 r.1).rises, omega arith)

  -- the boundary test holds exactly where the links of a and b in those faces meet in the edge's
  pub boundary-meets : (boundary_ok a b ts ≡ true) ↔ LinksMeet a b (map corners_of (boundary_about a b ts))
  unfolding boundary_ok
  boundary-meets = (links_meet-sound a b (map corners_of (boundary_about a b ts)) boundary-simplices, links_meet-complete a b (map corners_of (boundary_about a b ts)) boundary-simplices)

  -- three vertices with a or b among them that one element has are a face of the boundary
  pub boundary-within : (v x y : ℕ) → ((v ≡ a) ⊎ (v ≡ b)) → v ≢ x → v ≢ y → x ≢ y → star (v ∷ x ∷ y ∷ []) (map vertices_of ts) ≡ 1 → within (v ∷ x ∷ y ∷ []) (map corners_of (boundary_about a b ts)) ≡ true
  boundary-within v x y w vx vy xy s =
      let f = triple v x y in
      let there : Sub (v ∷ x ∷ y ∷ []) (corners_of (key_of f)) = λ z m. key-mem f z ∙ m in
      let back : Sub (corners_of (key_of f)) (v ∷ x ∷ y ∷ []) = λ z m. sym (key-mem f z) ∙ m in
      let v∈ : mem v (corners_of (key_of f)) ≡ true = there v (mem-here v (x ∷ y ∷ [])) in
      within-intro (v ∷ x ∷ y ∷ []) {e = corners_of (key_of f)}
      (Memᴰ.map corners_of
      (boundary-intro (key_of f) (record {
        rises = key-rising f (three-nodup v x y vx vy xy);
        about = elim w [
          | inl e ↦ or_left {a = mem a (corners_of (key_of f))} (mem b (corners_of (key_of f))) (subst (λ u. mem u (corners_of (key_of f)) ≡ true) e v∈)
          | inr e ↦ or_right (mem a (corners_of (key_of f))) (subst (λ u. mem u (corners_of (key_of f)) ≡ true) e v∈)
        ];
        single = star-alike (corners_of (key_of f)) (v ∷ x ∷ y ∷ []) (map vertices_of ts) back there ∙ s;
      })))
      there

  -- where the boundary test holds, no edge x y has both faces a x y and b x y on the boundary
  pub boundary-apart : a ≢ b → boundary_ok a b ts ≡ true → (x y : ℕ) → x ≢ y → x ≢ a → x ≢ b → y ≢ a → y ≢ b → star (a ∷ x ∷ y ∷ []) (map vertices_of ts) ≡ 1 → star (b ∷ x ∷ y ∷ []) (map vertices_of ts) ≡ 1 → ⊥
  boundary-apart ab h x y xy xa xb ya yb sa sb =
      let oa = out a x (y ∷ []) (flip≢ xa) (out a y [] (flip≢ ya) refl) in
      let ob = out b x (y ∷ []) (flip≢ xb) (out b y [] (flip≢ yb) refl) in
      let d : Nodup (x ∷ y ∷ []) = (out x y [] xy refl, (refl, tt)) in
      let w : within (a ∷ b ∷ x ∷ y ∷ []) (map corners_of (boundary_about a b ts)) ≡ true =
      sym (boundary-meets.0 h (x ∷ y ∷ []) (cons≢nil) d oa ob)
      ∙ rw (boundary-within a x y (inl refl) (flip≢ xa) (flip≢ ya) xy sa, boundary-within b x y (inr refl) (flip≢ xb) (flip≢ yb) xy sb) refl in
      let r = within-elim (a ∷ b ∷ x ∷ y ∷ []) (map corners_of (boundary_about a b ts)) w in
      let c = Memᴰ.of_map corners_of (boundary_about a b ts) r.1 in
      let k = short (a ∷ b ∷ x ∷ y ∷ []) r.0 (out a b (x ∷ y ∷ []) ab oa, (ob, d)) r.2 in
      let l : length r.0 ≡ 3 = ap length (sym c.2) in
      omega arith
