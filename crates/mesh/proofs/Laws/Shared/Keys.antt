-- The keys of the runs are those of all faces; those of bad elements among them are the keys that are listed. Assumes nothing.
use Rattle.std.proofs.Common.{◌≡◌, ℕ, ◌+◌, Bool, true, false, ◌&&◌, ◌||◌, List, [], ◌∷◌, ◌++◌, map, take, sym, refl, ap, ◌∙◌, inl, inr}
use mathlib.Core.List.{map-append}
use Rattle.geometry.specs.declared.point.Point.{Point}
use Rattle.mesh.specs.declared.element.Triple.{Triple}
use Rattle.mesh.specs.declared.element.Tet.{Tet}
use Rattle.mesh.specs.Sort.{sort, unique}
use Rattle.mesh.specs.inside.Sort.{elem, before, headed, ordered}
use Rattle.mesh.specs.inside.Rows.{le_row, eq_row}
use Rattle.mesh.specs.Complex.{keep}
use Rattle.mesh.specs.Element.{faces_of, key_of, corners_of}
use Rattle.mesh.specs.Boundary.{same_triple, le_triple, all_faces}
use Rattle.mesh.specs.inside.Group.{same_first}
use Rattle.mesh.specs.inside.List.{bad_in}
use Rattle.mesh.proofs.Laws.Bools.{split, and_intro, and_left, and_right}
use Rattle.mesh.proofs.Laws.Sort.{ordered-sort, elem-sort}
use Rattle.mesh.proofs.Laws.Unique.{elem-unique, unique-rising, rising-unique, before-trans}
use Rattle.mesh.proofs.Laws.Rows.{le_row-total, le_row-take}
use Rattle.mesh.proofs.Laws.SortedRows.{sorted-rows-unique}
use Rattle.mesh.proofs.Laws.Boundary.Order.{triple-trans, triple-total, triple-anti, same_refl, same-sound, eq-corners, sort-corners}
use Rattle.mesh.proofs.Laws.Manifold.Kept.{headed-kept}
use Rattle.mesh.proofs.Laws.Group.Images.{unique-map, ordered-map, count-sort-map}
use Rattle.mesh.specs.inside.Shared.{bad_keys, owned_row, bad_mark, owned_from}
use Rattle.mesh.proofs.Laws.Shared.Rows.{elem-append}

-- ---- the keys of the runs

keys-owned : (ps : List Point) (i : ℕ) (ts : List Tet) → map (take 3) (owned_from ps i ts) ≡ map corners_of (map key_of (all_faces ts))
unfolding owned_from all_faces
keys-owned ps i [] = refl
keys-owned ps i (t ∷ ts) = ap (λ (l : List (List ℕ)). map (take 3) (map (owned_row i (bad_mark ps t)) (faces_of t)) ++ l) (keys-owned ps (i + 1) ts)

-- the keys of all faces in order, each once
abbrev pub keys_of : List Tet → List Triple
keys_of ts = unique same_triple (sort le_triple (map key_of (all_faces ts)))

pub keys-are : (ps : List Point) (ts : List Tet) → map (take 3) (unique (same_first 3) (sort le_row (owned_from ps 0 ts))) ≡ map corners_of (keys_of ts)
keys-are ps ts =
    let R = owned_from ps 0 ts in
    let ks = map key_of (all_faces ts) in
    sym (unique-map (take 3) (same_first 3) eq_row (λ a b. refl) (sort le_row R))
    ∙ ap (unique eq_row)
    (sorted-rows-unique (map (take 3) (sort le_row R)) (map (take 3) R)
    (ordered-map (take 3) le_row le_row (le_row-take 3) (sort le_row R) (ordered-sort le_row le_row-total R))
    (λ z. count-sort-map (take 3) le_row eq_row z R)
    ∙ ap (sort le_row) (keys-owned ps 0 ts) ∙ sort-corners ks)
    ∙ unique-map corners_of same_triple eq_row eq-corners (sort le_triple ks)

-- ---- those of bad elements

elem-keep : {A : Type 0} (eq : A → A → Bool) → ((a b : A) → eq a b ≡ true → a ≡ b) → (p : A → Bool) (z : A) (l : List A) → elem eq z (keep p l) ≡ (p z && elem eq z l)
unfolding elem
elem-keep eq sound p z [] = sym (none_of (p z))
  where
    none_of : (b : Bool) → (b && false) ≡ false
    none_of true = refl
    none_of false = refl
elem-keep eq sound p z (x ∷ l) =
    let ih = elem-keep eq sound p z l in
    elim (split (eq z x)) [
      | inl e ↦ (let q : p x ≡ p z = ap p (sym (sound z x e)) in elim (split (p z)) [ inl h ↦ rw (q, h, e) refl | inr h ↦ rw (q, h) (ih ∙ ap (λ (b : Bool). b && elem eq z l) h) ])
      | inr e ↦ elim (split (p x)) [ inl h ↦ rw (h, e) ih | inr h ↦ rw (h, e) ih ]
    ]

ordered-keep : {A : Type 0} (le : A → A → Bool) (trans : (a b c : A) → le a b ≡ true → le b c ≡ true → le a c ≡ true) (p : A → Bool) (l : List A) → ordered le l ≡ true → ordered le (keep p l) ≡ true
unfolding ordered headed
ordered-keep le trans p [] h = refl
ordered-keep le trans p (x ∷ []) h = elim (split (p x)) [ inl e ↦ rw e refl | inr e ↦ rw e refl ]
ordered-keep le trans p (x ∷ y ∷ l) h =
    let k = and_left (le x y) (ordered le (y ∷ l)) h in
    let o = and_right (le x y) (ordered le (y ∷ l)) h in
    let ih = ordered-keep le trans p (y ∷ l) o in
    elim (split (p x)) [ inl e ↦ rw e (and_intro (headed le x (keep p (y ∷ l))) (ordered le (keep p (y ∷ l))) (headed-kept le trans p x y l k o) ih) | inr e ↦ rw e ih ]

module _ (ps : List Point) (ts : List Tet) where
  -- has a bad element the key
  abbrev pub in_bad : Triple → Bool
  in_bad f = elem same_triple f (map key_of (all_faces (keep (bad_in ps) ts)))

  bad-among : (us : List Tet) (z : Triple) → elem same_triple z (map key_of (all_faces (keep (bad_in ps) us))) ≡ true → elem same_triple z (map key_of (all_faces us)) ≡ true
  unfolding all_faces elem
  bad-among [] z h = h
  bad-among (t ∷ us) z h =
      let fs = map key_of (faces_of t) in
      let whole = ap (elem same_triple z) (map-append key_of (faces_of t) (all_faces us)) ∙ elem-append same_triple z fs (map key_of (all_faces us)) in
      elim (split (bad_in ps t)) [
        | inl e ↦ whole ∙ either (elem same_triple z fs) (elem same_triple z (map key_of (all_faces (keep (bad_in ps) us)))) (elem same_triple z (map key_of (all_faces us))) (bad-among us z) (sym (ap (elem same_triple z) (map-append key_of (faces_of t) (all_faces (keep (bad_in ps) us))) ∙ elem-append same_triple z fs (map key_of (all_faces (keep (bad_in ps) us)))) ∙ (rw e at h))
        | inr e ↦ whole ∙ behind (elem same_triple z fs) (elem same_triple z (map key_of (all_faces us))) (bad-among us z (rw e at h))
      ]
    where
      behind : (a b : Bool) → b ≡ true → (a || b) ≡ true
      behind true b h = refl
      behind false b h = h

      either : (a b c : Bool) → (b ≡ true → c ≡ true) → (a || b) ≡ true → (a || c) ≡ true
      either true b c f h = refl
      either false b c f h = f h

  pub bad-keys : keep in_bad (keys_of ts) ≡ bad_keys ps ts
  unfolding bad_keys
  bad-keys =
      let ks = map key_of (all_faces ts) in
      let bs = map key_of (all_faces (keep (bad_in ps) ts)) in
      let rises : (l : List Triple) → ordered (before le_triple) (unique same_triple (sort le_triple l)) ≡ true =
      λ l. unique-rising same_triple same-sound same_refl le_triple triple-anti (sort le_triple l) (ordered-sort le_triple triple-total l) in
      let among : (z : Triple) (l : List Triple) → elem same_triple z (unique same_triple (sort le_triple l)) ≡ elem same_triple z l =
      λ z l. elem-unique same_triple same-sound z (sort le_triple l) ∙ elem-sort le_triple same_triple z l in
      rising-unique le_triple triple-trans triple-total same_triple same_refl same-sound (keep in_bad (keys_of ts)) (unique same_triple (sort le_triple bs))
      (ordered-keep (before le_triple) (before-trans le_triple triple-trans triple-total same_triple same_refl same-sound) in_bad (keys_of ts) (rises ks))
      (rises bs)
      (λ z. elem-keep same_triple same-sound in_bad z (keys_of ts) ∙ ap (λ (b : Bool). in_bad z && b) (among z ks) ∙ smaller (in_bad z) (elem same_triple z ks) (bad-among ts z) ∙ sym (among z bs))
    where
      smaller : (a b : Bool) → (a ≡ true → b ≡ true) → (a && b) ≡ a
      smaller true b f = f refl
      smaller false b f = refl
