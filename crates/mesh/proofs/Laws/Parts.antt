-- Parts of lists, of any element type: what a paste, a fill and a part put back leave where. Assumes nothing.
use Rattle.std.proofs.Common.{◌≡◌, ℕ, zero, suc, ◌+◌, ◌-◌, ◌<◌, ◌≤◌, Bool, true, false, cond, ◌&&◌, ltb, leb, ◌⊎◌, List, [], ◌∷◌, ◌++◌, length, get_or, take, drop, set, sym, refl, ap, ◌∙◌, ap₂, inl, inr, ⊎_elim, append_assoc, append-nil, le_of_suc-le-suc, not-suc-le-zero, add-one, arith, length-drop, drop_of_length-le, length-take, length-take-le, get_or-drop, take_all, get_or-take, take_at, get_or-append-add, ext_get_or, drop_at, ltb-false, ltb-true, le-leb, leb-false, leb-true}
use lib.ListN.{get_or-append}
use lib.Seq.{paste, paste-suc, length-paste, length_paste_head}
use borrow.Author.Tests.{lt-leb}
use borrow.Rule.Slice.PartMut.{mid_of, post_of, put_mid, take_put}
use Rattle.mesh.specs.Words.{word_at, zero_words, inside, copied}
use Rattle.mesh.specs.inside.Rows.{Off}

-- one of two numbers is the lower
pub side : (i k : ℕ) → (i < k) ⊎ (k ≤ i)
side i k = go (ltb i k) refl
  where
    go : (b : Bool) → ltb i k ≡ b → (i < k) ⊎ (k ≤ i)
    go true e = inl (ltb-true i k e)
    go false e = inr (ltb-false i k e)

-- inside a list a read does not see its default
pub get_d_any : {A : Type 0} (l : List A) (i : ℕ) (a b : A) → i < length l → get_or l i a ≡ get_or l i b
get_d_any [] i a b h = absurd (not-suc-le-zero h)
get_d_any (x ∷ l) zero a b h = refl
get_d_any (x ∷ l) (suc i) a b h = get_d_any l i a b (le_of_suc-le-suc h)

-- ---- a paste

module _ {A : Type 0} (d x : List A) (k n : ℕ) (hd : k + n ≤ length d) (hx : n ≤ length x) where
  -- off the paste a read is as before
  pub paste-off : (j : ℕ) (z : A) → Off k n j → get_or (paste d k x n) j z ≡ get_or d j z
  paste-off j z o = ⊎_elim below past (side j k)
    where
      head : length (take k d ++ take n x) ≡ k + n
      head = length_paste_head d k x n (omega arith) hx

      below : j < k → get_or (paste d k x n) j z ≡ get_or d j z
      below l =
          get_or-append (take k d ++ take n x) (drop (k + n) d) z j (omega (arith, head))
          ∙ get_or-append (take k d) (take n x) z j (omega (arith, length-take-le k d (omega arith)))
          ∙ get_or-take k d j z l

      past : k ≤ j → get_or (paste d k x n) j z ≡ get_or d j z
      past l =
          let m = o l in
          let e : length (take k d ++ take n x) + (j - (k + n)) ≡ j = omega (arith, head) in
          let f : k + n + (j - (k + n)) ≡ j = omega arith in
          ap (λ (u : ℕ). get_or (paste d k x n) u z) (sym e)
          ∙ get_or-append-add (take k d ++ take n x) (drop (k + n) d) (j - (k + n)) z
          ∙ get_or-drop (k + n) d (j - (k + n)) z
          ∙ ap (λ (u : ℕ). get_or d u z) f

  -- what was pasted, read back
  pub paste-part : take n (drop k (paste d k x n)) ≡ take n x
  paste-part =
      rw (append_assoc (take k d) (take n x) (drop (k + n) d), drop_at (take k d) (take n x ++ drop (k + n) d) k (length-take-le k d (omega arith)))
      (take_at (take n x) (drop (k + n) d) n (length-take-le n x hx))

-- one more word of a copy inside a list, to below its source or past its end
pub copy-turn : {A : Type 0} (s : List A) (i k n p : ℕ) (z : A) → i + n ≤ length s → k + n ≤ length s → (i < k → i + n ≤ k) → p < n
    → set (paste s k (drop i s) p) (k + p) (get_or (paste s k (drop i s) p) (i + p) z) ≡ paste s k (drop i s) (p + 1)
copy-turn {A} s i k n p z hi hk h l =
    rw (add-one, paste-off s (drop i s) k p (omega arith) (omega (arith, length-drop i s)) (i + p) z (λ m. ⊎_elim (over m) (λ g. omega arith) (side i k)), ← (get_or-drop i s p z))
    (paste-suc s k (drop i s) p z (omega arith) (omega (arith, length-drop i s)))
  where
    over : k ≤ i + p → i < k → k + p ≤ i + p
    over m g = let x = h g in omega arith

-- ---- a copy from one list to another

pub within-test : (i n m : ℕ) → i ≤ m → leb n (m - i) ≡ inside i n m
unfolding inside
within-test i n m h = go (leb n (m - i)) refl
  where
    more : m - i < n → m < i + n
    more l = omega arith

    go : (b : Bool) → leb n (m - i) ≡ b → leb n (m - i) ≡ leb (i + n) m
    go true e = let l = leb-true n (m - i) e in e ∙ sym (le-leb (i + n) m (omega arith))
    go false e = e ∙ sym (lt-leb (i + n) m (more (leb-false n (m - i) e)))

pub within-is : (i n m : ℕ) → inside i n m ≡ true → i + n ≤ m
unfolding inside
within-is i n m e = leb-true (i + n) m e

pub into-is : {A : Type 0} (x d : List A) (i k n : ℕ) → inside i n (length x) ≡ true → inside k n (length d) ≡ true → paste d k (drop i x) n ≡ copied x i d k n
unfolding copied
into-is x d i k n f g = rw (f, g)

pub length-copied : {A : Type 0} (x d : List A) (i k n : ℕ) → length (copied x i d k n) ≡ length d
unfolding copied
length-copied {A} x d i k n = go (inside i n (length x)) (inside k n (length d)) refl refl
  where
    go : (a b : Bool) → inside i n (length x) ≡ a → inside k n (length d) ≡ b → length (cond (a && b) (paste d k (drop i x) n) d) ≡ length d
    go true true f g = length-paste d k (drop i x) n (within-is k n (length d) g) (omega (arith, within-is i n (length x) f, length-drop i x))
    go true false f g = refl
    go false b f g = refl

-- ---- two lists that agree on a part

pub part_same : {A : Type 0} (z : A) (s t : List A) (i n : ℕ) → length s ≡ length t
    → ((j : ℕ) → i ≤ j → j < i + n → get_or s j z ≡ get_or t j z) → take n (drop i s) ≡ take n (drop i t)
part_same {A} z s t i n e h = ext_get_or z (take n (drop i s)) (take n (drop i t)) same at
  where
    same : length (take n (drop i s)) ≡ length (take n (drop i t))
    same = simp (length-take, length-drop, e)

    at : (j : ℕ) → j < length (take n (drop i s)) → get_or (take n (drop i s)) j z ≡ get_or (take n (drop i t)) j z
    at j l =
        let m : j < n = omega (arith, length-take n (drop i s)) in
        get_or-take n (drop i s) j z m ∙ get_or-drop i s j z ∙ h (i + j) (omega arith) (omega arith)
        ∙ sym (get_or-drop i t j z) ∙ sym (get_or-take n (drop i t) j z m)

-- the rest from i on
pub rest-same : {A : Type 0} (z : A) (s t : List A) (i : ℕ) → length s ≡ length t → ((j : ℕ) → i ≤ j → get_or s j z ≡ get_or t j z) → drop i s ≡ drop i t
rest-same z s t i e h =
    sym (take_all (length s) (drop i s) (omega (arith, length-drop i s)))
    ∙ part_same z s t i (length s) e (λ j f g. h j f)
    ∙ take_all (length s) (drop i t) (omega (arith, length-drop i t))

-- ---- a part that was lent and put back

-- the part, read again
pub mid-put : {A : Type 0} (a k : ℕ) (xs ys : List A) → a ≤ length xs → length ys ≡ k → mid_of a k (put_mid a k xs ys) ≡ ys
mid-put {A} a k xs ys h e = ap (take k) (drop_at (take a xs) (ys ++ post_of a k xs) a (length-take-le a xs h)) ∙ take_at ys (post_of a k xs) k e

-- what lies behind it
pub post-put : {A : Type 0} (a k : ℕ) (xs ys : List A) → a ≤ length xs → length ys ≡ k → post_of a k (put_mid a k xs ys) ≡ post_of a k xs
post-put {A} a k xs ys h e = ap (drop k) (drop_at (take a xs) (ys ++ post_of a k xs) a (length-take-le a xs h)) ∙ drop_at ys (post_of a k xs) k e

-- a second part in place of the first
pub put-put : {A : Type 0} (a k : ℕ) (xs ys zs : List A) → a ≤ length xs → length ys ≡ k → put_mid a k (put_mid a k xs ys) zs ≡ put_mid a k xs zs
put-put {A} a k xs ys zs h e = ap₂ (λ (u v : List A). u ++ (zs ++ v)) (take_put a k xs ys h) (post-put a k xs ys h e)

-- ---- a part that reaches to the end

pub tail-mid : (a : ℕ) (s : List ℕ) → mid_of a (length s - a) s ≡ drop a s
tail-mid a s = take_all (length s - a) (drop a s) (omega (arith, length-drop a s))

pub tail-put : (a : ℕ) (s y : List ℕ) → put_mid a (length s - a) s y ≡ take a s ++ y
tail-put a s y =
    ap (λ (u : List ℕ). take a s ++ (y ++ u)) (drop_of_length-le (drop a s) {i = length s - a} (omega (arith, length-drop a s)))
    ∙ ap (λ (u : List ℕ). take a s ++ u) (append-nil y)

-- ---- zeros

-- what is read among zeros is zero
pub zero_word : (n i : ℕ) → word_at (zero_words n) i ≡ 0
zero_word zero i = refl
zero_word (suc n) zero = refl
zero_word (suc n) (suc i) = zero_word n i
