-- The scan of faces whose keys are in order: its number is that of the first bad key, and where there is none it gathers the single
-- faces. Assumes nothing.
use Rattle.std.proofs.Common.{◌≡◌, ℕ, suc, ◌≤◌, Bool, true, false, cond, eqb, List, [], ◌∷◌, map, length, sym, refl, ap, ◌∙◌, subst, ap₂, arith, ne_eqb}
use Rattle.mesh.specs.declared.element.Triple.{Triple}
use Rattle.mesh.specs.Element.{key_of, parity_of}
use Rattle.mesh.specs.Sort.{insert, sort}
use Rattle.mesh.specs.inside.Sort.{headed, ordered}
use Rattle.mesh.specs.Complex.{keep}
use Rattle.mesh.specs.Boundary.{same_triple, le_triple, with_key, key_number, first_number, singles}
use Rattle.mesh.specs.inside.Surface.{kind, bad_run, lone}
use Rattle.mesh.proofs.Laws.Bools.{clash, fails, and_left, and_right}
use Rattle.mesh.proofs.Laws.Sort.{length-sort}
use Rattle.mesh.proofs.Laws.Boundary.Order.{triple-trans, triple-anti, same_refl, same-sound, same_at, same-other, triples-same}
use Rattle.mesh.proofs.Laws.Boundary.Same.{Same, keep_same, same-keep, same_count}
use Rattle.mesh.proofs.Laws.Boundary.Kinds.{single-bad, single-lone, couple-bad, couple-lone, bad-number}
use Rattle.mesh.proofs.Laws.Numbers.{eqb_swap}

-- two faces with the same key
abbrev pub alike : Triple → Triple → Bool
alike f g = same_triple (key_of f) (key_of g)

-- two faces of equal parity
abbrev pub level : Triple → Triple → Bool
level f g = eqb (parity_of f) (parity_of g)

-- ---- the faces of one key

pub with-head : (k f : Triple) (l : List Triple) → same_triple (key_of f) k ≡ true → with_key k (f ∷ l) ≡ f ∷ with_key k l
with-head k f l e = rw e

pub with-other : (k f : Triple) (l : List Triple) → same_triple (key_of f) k ≡ false → with_key k (f ∷ l) ≡ with_key k l
with-other k f l e = rw e

-- no face of a list has the key
pub none-head : (k f : Triple) (l : List Triple) → with_key k (f ∷ l) ≡ [] → same_triple (key_of f) k ≡ false
none-head k f l e = fails (same_triple (key_of f) k) (λ h. some (ap length (sym (with-head k f l h) ∙ e)))
  where
    some : suc (length (with_key k l)) ≡ 0 → ⊥
    some e = omega arith

pub none_tail : (k f : Triple) (l : List Triple) → with_key k (f ∷ l) ≡ [] → with_key k l ≡ []
none_tail k f l e = sym (with-other k f l (none-head k f l e)) ∙ e

-- ---- rearrangements

many : (l : List Triple) → 3 ≤ length l → key_number l ≡ 16
unfolding key_number
many [] h = absurd (few h)
  where
    few : 3 ≤ 0 → ⊥
    few h = omega arith
many (f ∷ []) h = absurd (few h)
  where
    few : 3 ≤ 1 → ⊥
    few h = omega arith
many (f ∷ g ∷ []) h = absurd (few h)
  where
    few : 3 ≤ 2 → ⊥
    few h = omega arith
many (f ∷ g ∷ h ∷ l) q = refl

number-sort : (l : List Triple) → key_number (sort le_triple l) ≡ key_number l
unfolding key_number sort insert
number-sort [] = refl
number-sort (f ∷ []) = refl
number-sort (f ∷ g ∷ []) = go (le_triple f g)
  where
    go : (t : Bool) → key_number (cond t (f ∷ g ∷ []) (g ∷ f ∷ [])) ≡ cond (eqb (parity_of f) (parity_of g)) 17 0
    go true = refl
    go false = ap (λ (t : Bool). cond t 17 0) (eqb_swap (parity_of g) (parity_of f))
number-sort (f ∷ g ∷ h ∷ l) = many (sort le_triple (f ∷ g ∷ h ∷ l)) (omega (arith, length-sort le_triple (f ∷ g ∷ h ∷ l)))

module _ (a b : List Triple) (s : Same a b) where
  number_same : key_number a ≡ key_number b
  number_same = sym (number-sort a) ∙ ap key_number (triples-same a b (λ f. same_count a b s same_triple f)) ∙ number-sort b

module _ (a b : List Triple) (s : Same a b) where
  -- the first bad key gives the same number
  pub first-same : (ks : List Triple) → first_number a ks ≡ first_number b ks
  unfolding first_number
  first-same [] = refl
  first-same (k ∷ ks) =
      ap₂ (λ (u v : ℕ). cond (eqb u 0) v u) (number_same (with_key k a) (with_key k b) (same-keep a b s (λ f. same_triple (key_of f) k))) (first-same ks)

  -- the single faces are the same
  pub singles-same : Same (singles a) (singles b)
  unfolding singles
  singles-same p =
      ap (λ (u : List Triple). length (keep p u)) (keep_same (λ f. eqb (length (with_key (key_of f) a)) 1) (λ f. eqb (length (with_key (key_of f) b)) 1) (λ f. ap (λ (n : ℕ). eqb n 1) (s (λ g. same_triple (key_of g) (key_of f)))) a)
      ∙ same-keep a b s (λ f. eqb (length (with_key (key_of f) b)) 1) p

-- ---- keys in order

-- a key below the first is that of no face
fresh-above : (k m : Triple) (l : List Triple) → ordered le_triple (m ∷ map key_of l) ≡ true → le_triple m k ≡ false → with_key k l ≡ []
unfolding ordered headed
fresh-above k m [] h e = refl
fresh-above k m (g ∷ l) h e =
    let p = and_left (le_triple m (key_of g)) (ordered le_triple (key_of g ∷ map key_of l)) h in
    let q = and_right (le_triple m (key_of g)) (ordered le_triple (key_of g ∷ map key_of l)) h in
    with-other k g l (fails (same_triple (key_of g) k) (λ u. clash (le_triple m k) (ap (le_triple m) (sym (same-sound (key_of g) k u)) ∙ p) e))
    ∙ fresh-above k (key_of g) l q (fails (le_triple (key_of g) k) (λ u. clash (le_triple m k) (triple-trans m (key_of g) k p u) e))

-- where the next face has another key, no later face has this one
fresh : (k z : Triple) (l : List Triple) → ordered le_triple (k ∷ key_of z ∷ map key_of l) ≡ true → same_triple k (key_of z) ≡ false → with_key k (z ∷ l) ≡ []
unfolding ordered headed
fresh k z l h e =
    let p = and_left (le_triple k (key_of z)) (ordered le_triple (key_of z ∷ map key_of l)) h in
    let q = and_right (le_triple k (key_of z)) (ordered le_triple (key_of z ∷ map key_of l)) h in
    with-other k z l (same-other k (key_of z) e)
    ∙ fresh-above k (key_of z) l q (fails (le_triple (key_of z) k) (λ u. clash (same_triple k (key_of z)) (same_at k (key_of z) (triple-anti k (key_of z) p u)) e))

-- the run at the front
data Front (x y : Triple) (l : List Triple) : Type 0 where
  single : kind alike level (x ∷ y ∷ l) ≡ 0 → with_key (key_of x) (y ∷ l) ≡ [] → Front x y l
  couple : kind alike level (x ∷ y ∷ l) ≡ 1 → key_of x ≡ key_of y → level x y ≡ false → with_key (key_of x) l ≡ [] → Front x y l
  equal : kind alike level (x ∷ y ∷ l) ≡ 17 → key_of x ≡ key_of y → level x y ≡ true → with_key (key_of x) l ≡ [] → Front x y l
  crowd : kind alike level (x ∷ y ∷ l) ≡ 16 → (z : Triple) (m : List Triple) → l ≡ z ∷ m → key_of x ≡ key_of y → key_of x ≡ key_of z → Front x y l

tail-ordered : (x : Triple) (l : List Triple) → ordered le_triple (map key_of (x ∷ l)) ≡ true → ordered le_triple (map key_of l) ≡ true
unfolding ordered
tail-ordered x l h = and_right (headed le_triple (key_of x) (map key_of l)) (ordered le_triple (map key_of l)) h

front : (x y : Triple) (l : List Triple) → ordered le_triple (map key_of (x ∷ y ∷ l)) ≡ true → Front x y l
unfolding kind
front x y [] h = go (alike x y) (level x y) refl refl
  where
    go : (s t : Bool) → alike x y ≡ s → level x y ≡ t → Front x y []
    go false t e f = single (rw e) (fresh (key_of x) y [] h e)
    go true true e f = equal (rw (e, f)) (same-sound (key_of x) (key_of y) e) f refl
    go true false e f = couple (rw (e, f)) (same-sound (key_of x) (key_of y) e) f refl
front x y (z ∷ l) h = go (alike x y) (alike x z) (level x y) refl refl refl
  where
    rest : key_of x ≡ key_of y → alike x z ≡ false → with_key (key_of x) (z ∷ l) ≡ []
    rest e g = fresh (key_of x) z l (subst (λ (k : Triple). ordered le_triple (k ∷ key_of z ∷ map key_of l) ≡ true) (sym e) (tail-ordered x (y ∷ z ∷ l) h)) g

    go : (s u t : Bool) → alike x y ≡ s → alike x z ≡ u → level x y ≡ t → Front x y (z ∷ l)
    go false u t e g f = single (rw e) (fresh (key_of x) y (z ∷ l) h e)
    go true true t e g f = crowd (rw (e, g)) z l refl (same-sound (key_of x) (key_of y) e) (same-sound (key_of x) (key_of z) g)
    go true false true e g f = equal (rw (e, g, f)) (same-sound (key_of x) (key_of y) e) f (rest (same-sound (key_of x) (key_of y) e) g)
    go true false false e g f = couple (rw (e, g, f)) (same-sound (key_of x) (key_of y) e) f (rest (same-sound (key_of x) (key_of y) e) g)

-- ---- the first bad key

first_good : (fs : List Triple) (k : Triple) (ks : List Triple) → key_number (with_key k fs) ≡ 0 → first_number fs (k ∷ ks) ≡ first_number fs ks
unfolding first_number
first_good fs k ks e = rw e

first-bad : (fs : List Triple) (k : Triple) (ks : List Triple) (j : ℕ) → key_number (with_key k fs) ≡ suc j → first_number fs (k ∷ ks) ≡ suc j
unfolding first_number
first-bad fs k ks j e = rw (e, ne_eqb (suc j) 0 some)
  where
    some : suc j ≡ 0 → ⊥
    some e = omega arith

-- a face whose key is none of the keys does not count
first-skip : (x : Triple) (fs l : List Triple) → with_key (key_of x) l ≡ [] → first_number (x ∷ fs) (map key_of l) ≡ first_number fs (map key_of l)
unfolding first_number
first-skip x fs [] e = refl
first-skip x fs (g ∷ l) e =
    ap₂ (λ (u : List Triple) (v : ℕ). cond (eqb (key_number u) 0) v (key_number u))
    (with-other (key_of g) x fs (same-other (key_of g) (key_of x) (none-head (key_of x) g l e)))
    (first-skip x fs l (none_tail (key_of x) g l e))

head-number : (x y : Triple) (l : List Triple) → key_of x ≡ key_of y → with_key (key_of x) l ≡ [] → with_key (key_of x) (x ∷ y ∷ l) ≡ x ∷ y ∷ []
head-number x y l e f =
    with-head (key_of x) x (y ∷ l) (same_refl (key_of x))
    ∙ ap (λ (u : List Triple). x ∷ u) (with-head (key_of x) y l (same_at (key_of y) (key_of x) (sym e)) ∙ ap (λ (u : List Triple). y ∷ u) f)

pub scan-number : (gs : List Triple) → ordered le_triple (map key_of gs) ≡ true → bad_run alike level gs ≡ first_number gs (map key_of gs)
unfolding bad_run first_number key_number
scan-number [] h = refl
scan-number (x ∷ []) h = rw (same_refl (key_of x))
scan-number (x ∷ y ∷ l) h = go (front x y l h) (scan-number (y ∷ l) (tail-ordered x (y ∷ l) h)) (scan-number l (tail-ordered y l (tail-ordered x (y ∷ l) h)))
  where
    go : Front x y l → bad_run alike level (y ∷ l) ≡ first_number (y ∷ l) (map key_of (y ∷ l)) → bad_run alike level l ≡ first_number l (map key_of l)
        → bad_run alike level (x ∷ y ∷ l) ≡ first_number (x ∷ y ∷ l) (map key_of (x ∷ y ∷ l))
    go (single k f) ih ih₂ =
        single-bad alike level x (y ∷ l) k ∙ ih ∙ sym (first-skip x (y ∷ l) (y ∷ l) f)
        ∙ sym (first_good (x ∷ y ∷ l) (key_of x) (map key_of (y ∷ l)) (ap key_number (with-head (key_of x) x (y ∷ l) (same_refl (key_of x)) ∙ ap (λ (u : List Triple). x ∷ u) f)))
    go (couple k e v f) ih ih₂ =
        let w = head-number x y l e f in
        let z : key_number (with_key (key_of x) (x ∷ y ∷ l)) ≡ 0 = ap key_number w ∙ rw v in
        couple-bad alike level x y l k ∙ ih₂ ∙ sym (first-skip y l l (ap (λ (u : Triple). with_key u l) (sym e) ∙ f)) ∙ sym (first-skip x (y ∷ l) l f)
        ∙ sym (first_good (x ∷ y ∷ l) (key_of y) (map key_of l) (ap (λ (u : Triple). key_number (with_key u (x ∷ y ∷ l))) (sym e) ∙ z))
        ∙ sym (first_good (x ∷ y ∷ l) (key_of x) (map key_of (y ∷ l)) z)
    go (equal k e v f) ih ih₂ =
        rw k (sym (first-bad (x ∷ y ∷ l) (key_of x) (map key_of (y ∷ l)) 16 (ap key_number (head-number x y l e f) ∙ rw v)))
    go (crowd k z m q e g) ih ih₂ =
        rw k (sym (first-bad (x ∷ y ∷ l) (key_of x) (map key_of (y ∷ l)) 15 (ap key_number three)))
      where
        three : with_key (key_of x) (x ∷ y ∷ l) ≡ x ∷ y ∷ z ∷ with_key (key_of x) m
        three =
            with-head (key_of x) x (y ∷ l) (same_refl (key_of x))
            ∙ ap (λ (u : List Triple). x ∷ u) (with-head (key_of x) y l (same_at (key_of y) (key_of x) (sym e))
            ∙ ap (λ (u : List Triple). y ∷ u) (ap (with_key (key_of x)) q ∙ with-head (key_of x) z m (same_at (key_of z) (key_of x) (sym g))))

-- ---- the single faces

-- whether f's key is that of one face of fs
abbrev pub lonely : List Triple → Triple → Bool
lonely fs f = eqb (length (with_key (key_of f) fs)) 1

lonely-skip : (x : Triple) (fs l : List Triple) → with_key (key_of x) l ≡ [] → keep (lonely (x ∷ fs)) l ≡ keep (lonely fs) l
lonely-skip x fs [] e = refl
lonely-skip x fs (g ∷ l) e =
    ap₂ (λ (u : List Triple) (v : List Triple). cond (eqb (length u) 1) (g ∷ v) v)
    (with-other (key_of g) x fs (same-other (key_of g) (key_of x) (none-head (key_of x) g l e)))
    (lonely-skip x fs l (none_tail (key_of x) g l e))

pub scan-lone : (gs : List Triple) → ordered le_triple (map key_of gs) ≡ true → bad_run alike level gs ≡ 0 → lone alike level gs ≡ singles gs
unfolding lone singles
scan-lone [] h b = refl
scan-lone (x ∷ []) h b = rw (same_refl (key_of x))
scan-lone (x ∷ y ∷ l) h b = go (front x y l h) (scan-lone (y ∷ l) (tail-ordered x (y ∷ l) h)) (scan-lone l (tail-ordered y l (tail-ordered x (y ∷ l) h)))
  where
    bad : (j : ℕ) → kind alike level (x ∷ y ∷ l) ≡ suc (suc j) → ⊥
    bad j k = omega (arith, b, k, bad-number alike level (x ∷ y ∷ l) (λ e. omega (arith, e, k)) (λ e. omega (arith, e, k)))

    keep-yes : (fs l : List Triple) (f : Triple) → lonely fs f ≡ true → keep (lonely fs) (f ∷ l) ≡ f ∷ keep (lonely fs) l
    keep-yes fs l f e = rw e

    keep-no : (fs l : List Triple) (f : Triple) → lonely fs f ≡ false → keep (lonely fs) (f ∷ l) ≡ keep (lonely fs) l
    keep-no fs l f e = rw e

    go : Front x y l → (bad_run alike level (y ∷ l) ≡ 0 → lone alike level (y ∷ l) ≡ singles (y ∷ l)) → (bad_run alike level l ≡ 0 → lone alike level l ≡ singles l)
        → lone alike level (x ∷ y ∷ l) ≡ singles (x ∷ y ∷ l)
    go (single k f) ih ih₂ =
        let w = with-head (key_of x) x (y ∷ l) (same_refl (key_of x)) ∙ ap (λ (u : List Triple). x ∷ u) f in
        single-lone alike level x (y ∷ l) k
        ∙ ap (λ (u : List Triple). x ∷ u) (ih (sym (single-bad alike level x (y ∷ l) k) ∙ b) ∙ sym (lonely-skip x (y ∷ l) (y ∷ l) f))
        ∙ sym (keep-yes (x ∷ y ∷ l) (y ∷ l) x (ap (λ (u : List Triple). eqb (length u) 1) w))
    go (couple k e v f) ih ih₂ =
        let w = head-number x y l e f in
        let z : lonely (x ∷ y ∷ l) x ≡ false = ap (λ (u : List Triple). eqb (length u) 1) w in
        couple-lone alike level x y l k ∙ ih₂ (sym (couple-bad alike level x y l k) ∙ b)
        ∙ sym (lonely-skip y l l (ap (λ (u : Triple). with_key u l) (sym e) ∙ f)) ∙ sym (lonely-skip x (y ∷ l) l f)
        ∙ sym (keep-no (x ∷ y ∷ l) l y (ap (λ (u : Triple). eqb (length (with_key u (x ∷ y ∷ l))) 1) (sym e) ∙ z))
        ∙ sym (keep-no (x ∷ y ∷ l) (y ∷ l) x z)
    go (equal k e v f) ih ih₂ = absurd (bad 15 k)
    go (crowd k z m q e g) ih ih₂ = absurd (bad 14 k)
