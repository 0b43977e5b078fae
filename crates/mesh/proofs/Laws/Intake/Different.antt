-- Number 14: elements with four different vertices have the same vertices where their sorted vertices are equal, so two such
-- elements are neighbours among the sorted rows. Assumes nothing.
use Rattle.std.proofs.Common.{◌≡◌, ℕ, suc, Bool, true, false, cond, not, ◌&&◌, ◌||◌, eqb, leb, List, [], ◌∷◌, map, sym, refl, ap, ◌∙◌, subst, ap₂, eq-eqb, eqb-true}
use Rattle.mesh.specs.declared.element.Tet.{Tet}
use Rattle.mesh.specs.Sort.{sort}
use Rattle.mesh.specs.inside.Sort.{count, elem}
use Rattle.mesh.specs.inside.Rows.{le_row, eq_row}
use Rattle.mesh.specs.Complex.{mem, sub, Sub}
use Rattle.mesh.specs.Tests.{every, nodup, under}
use Rattle.mesh.specs.Element.{vertices_of}
use Rattle.mesh.specs.Intake.{well_numbered, same_vertices, all_different}
use Rattle.mesh.specs.inside.Intake.{vertex_row, none_twice}
use Rattle.mesh.proofs.Laws.Bools.{and_intro, and_left, and_right}
use Rattle.mesh.proofs.Laws.Sort.{sort-same}
use Rattle.mesh.proofs.Laws.Rows.{le_row-total, le_row-trans, le_row-anti, eq_row-refl, eq_row-sound}
use Rattle.mesh.proofs.Laws.Complex.Sets.{same, sub-elim, sub-intro}
use Rattle.mesh.proofs.Laws.Intake.Twice.{distinct, distinct-neighbours}
use Rattle.mesh.proofs.Laws.Numbers.{leb-trans, leb-total, leb-anti}
use Rattle.mesh.proofs.Laws.Link.Simplices.{sort-mem}

-- ---- rows

eq_row-sym : (a b : List ℕ) → eq_row a b ≡ eq_row b a
eq_row-sym a b =
    same
    (λ h. subst (λ (u : List ℕ). eq_row u a ≡ true) (eq_row-sound a b h) (eq_row-refl a))
    (λ h. subst (λ (u : List ℕ). eq_row u b ≡ true) (eq_row-sound b a h) (eq_row-refl b))

-- ---- vertices

-- a vertex stands once in a list in which none stands twice, or not at all
count-once : (z : ℕ) (l : List ℕ) → nodup l ≡ true → count eqb z l ≡ cond (mem z l) 1 0
unfolding count
count-once z [] h = refl
count-once z (y ∷ l) h = go (eqb z y) refl (count-once z l (and_right (not (mem y l)) (nodup l) h))
  where
    none : (b : Bool) → not b ≡ true → b ≡ false
    none true e = sym e
    none false e = refl

    go : (b : Bool) → eqb z y ≡ b → count eqb z l ≡ cond (mem z l) 1 0 → cond b (suc (count eqb z l)) (count eqb z l) ≡ cond (b || mem z l) 1 0
    go true e ih =
        let o : mem z l ≡ false = subst (λ (u : ℕ). mem u l ≡ false) (sym (eqb-true z y e)) (none (mem y l) (and_left (not (mem y l)) (nodup l) h)) in
        ap suc (ih ∙ ap (λ (b : Bool). cond b 1 0) o)
    go false e ih = ih

-- two lists of different vertices with the same vertices have the same sort
sort-vertices : (a b : List ℕ) → nodup a ≡ true → nodup b ≡ true → ((z : ℕ) → mem z a ≡ mem z b) → sort leb a ≡ sort leb b
sort-vertices a b h k e =
    sort-same leb leb-trans leb-total leb-anti eqb (λ x. eq-eqb x x refl) eqb-true a b
    (λ z. count-once z a h ∙ ap (λ (b : Bool). cond b 1 0) (e z) ∙ sym (count-once z b k))

-- ---- elements

four : (n : ℕ) (t : Tet) → well_numbered n t ≡ true → nodup (vertices_of t) ≡ true
four n t h = and_right (under n (vertices_of t)) (nodup (vertices_of t)) h

pub same_rows : (t u : Tet) → nodup (vertices_of t) ≡ true → nodup (vertices_of u) ≡ true → same_vertices t u ≡ eq_row (vertex_row t) (vertex_row u)
unfolding vertex_row
same_rows t u h k = same to from
  where
    a : List ℕ
    a = vertices_of t

    b : List ℕ
    b = vertices_of u

    to : (sub a b && sub b a) ≡ true → eq_row (sort leb a) (sort leb b) ≡ true
    to e =
        let f : Sub a b = sub-elim a b (and_left (sub a b) (sub b a) e) in
        let g : Sub b a = sub-elim b a (and_right (sub a b) (sub b a) e) in
        subst (λ (r : List ℕ). eq_row (sort leb a) r ≡ true) (sort-vertices a b h k (λ z. same (f z) (g z))) (eq_row-refl (sort leb a))

    from : eq_row (sort leb a) (sort leb b) ≡ true → (sub a b && sub b a) ≡ true
    from e =
        let q : (z : ℕ) → mem z a ≡ mem z b = λ z. sym (sort-mem z a) ∙ ap (mem z) (eq_row-sound (sort leb a) (sort leb b) e) ∙ sort-mem z b in
        and_intro (sub a b) (sub b a) (sub-intro a b (λ z m. sym (q z) ∙ m)) (sub-intro b a (λ z m. q z ∙ m))

-- ---- lists of elements

none-same : (n : ℕ) (t : Tet) (ts : List Tet) → well_numbered n t ≡ true → every (well_numbered n) ts ≡ true
    → every (λ u. not (same_vertices t u)) ts ≡ not (elem eq_row (vertex_row t) (map vertex_row ts))
unfolding elem
none-same n t [] h k = refl
none-same n t (u ∷ ts) h k =
    ap₂ (λ (a b : Bool). not a && b) (same_rows t u (four n t h) (four n u (and_left (well_numbered n u) (every (well_numbered n) ts) k)))
    (none-same n t ts h (and_right (well_numbered n u) (every (well_numbered n) ts) k))
    ∙ both (eq_row (vertex_row t) (vertex_row u)) (elem eq_row (vertex_row t) (map vertex_row ts))
  where
    both : (a b : Bool) → (not a && not b) ≡ not (a || b)
    both true b = refl
    both false b = refl

rows-different : (n : ℕ) (ts : List Tet) → every (well_numbered n) ts ≡ true → all_different ts ≡ distinct eq_row (map vertex_row ts)
unfolding all_different
rows-different n [] h = refl
rows-different n (t ∷ ts) h =
    let k = and_right (well_numbered n t) (every (well_numbered n) ts) h in
    ap₂ (λ (a b : Bool). a && b) (none-same n t ts (and_left (well_numbered n t) (every (well_numbered n) ts) h) k) (rows-different n ts k)

-- well numbered elements are all different where no neighbours among their sorted rows are equal
pub different-neighbours : (n : ℕ) (ts : List Tet) → every (well_numbered n) ts ≡ true → all_different ts ≡ none_twice (sort le_row (map vertex_row ts))
unfolding none_twice
different-neighbours n ts h =
    rows-different n ts h ∙ distinct-neighbours le_row eq_row eq_row-sym le_row-trans le_row-total le_row-anti eq_row-refl eq_row-sound (map vertex_row ts)
