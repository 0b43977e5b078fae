-- Words written into a list: its length, what is read elsewhere, and one write after another. Assumes nothing.
use Rattle.std.proofs.Common.{◌≡◌, ℕ, ◌+◌, ◌-◌, ◌<◌, ◌≤◌, List, [], ◌∷◌, ◌++◌, length, get_or, take, drop, set, sym, refl, ap, ◌∙◌, ap₂, append_assoc, add-zero, add-one, arith, length-append, length-drop, take-append-drop, length-take-le, get_or-drop, get_or-take, drop-drop, take_at, get_or-append-add, drop_at}
use lib.ListN.{get_or-append}
use lib.Seq.{set_split}
use Rattle.mesh.specs.inside.Star.{written}

module _ (s : List ℕ) (k : ℕ) (l : List ℕ) (h : k + length l ≤ length s) where
  front : length (take k s ++ l) ≡ k + length l
  front = length-append (take k s) l ∙ ap (λ (n : ℕ). n + length l) (length-take-le k s (omega arith))

  pub length-written : length (written s k l) ≡ length s
  unfolding written
  length-written =
      omega (
        arith,
        length-append (take k s) (l ++ drop (k + length l) s),
        length-append l (drop (k + length l) s),
        length-take-le k s (omega arith),
        length-drop (k + length l) s,
      )

  -- before the words all is as it was
  pub written_below : (j : ℕ) → j < k → get_or (written s k l) j 0 ≡ get_or s j 0
  unfolding written
  written_below j g =
      get_or-append (take k s) (l ++ drop (k + length l) s) 0 j (omega (arith, length-take-le k s (omega arith))) ∙ get_or-take k s j 0 g

  take-written : take (k + length l) (written s k l) ≡ take k s ++ l
  unfolding written
  take-written =
      ap (take (k + length l)) (sym (append_assoc (take k s) l (drop (k + length l) s))) ∙ take_at (take k s ++ l) (drop (k + length l) s) (k + length l) front

  drop-written : drop (k + length l) (written s k l) ≡ drop (k + length l) s
  unfolding written
  drop-written =
      ap (drop (k + length l)) (sym (append_assoc (take k s) l (drop (k + length l) s))) ∙ drop_at (take k s ++ l) (drop (k + length l) s) (k + length l) front

  drop_past : (j : ℕ) → k + length l ≤ j → drop j (written s k l) ≡ drop j s
  drop_past j g =
      let e : k + length l + (j - (k + length l)) ≡ j = omega arith in
      let n = j - (k + length l) in
      ap (λ (u : ℕ). drop u (written s k l)) (sym e)
      ∙ sym (drop-drop n (k + length l) (written s k l))
      ∙ ap (drop n) drop-written
      ∙ drop-drop n (k + length l) s
      ∙ ap (λ (u : ℕ). drop u s) e

  -- and behind them
  pub written_behind : (j : ℕ) → k + length l ≤ j → get_or (written s k l) j 0 ≡ get_or s j 0
  written_behind j g =
      let e : j + 0 ≡ j = add-zero j in
      ap (λ (u : ℕ). get_or (written s k l) u 0) (sym e)
      ∙ sym (get_or-drop j (written s k l) 0 0)
      ∙ ap (λ (u : List ℕ). get_or u 0 0) (drop_past j g)
      ∙ get_or-drop j s 0 0
      ∙ ap (λ (u : ℕ). get_or s u 0) e

  -- the words, read one by one
  pub written_at : (j : ℕ) → j < length l → get_or (written s k l) (k + j) 0 ≡ get_or l j 0
  unfolding written
  written_at j g =
      let e : length (take k s) ≡ k = length-take-le k s (omega arith) in
      ap (λ (u : ℕ). get_or (take k s ++ (l ++ drop (k + length l) s)) (u + j) 0) (sym e)
      ∙ get_or-append-add (take k s) (l ++ drop (k + length l) s) j 0
      ∙ get_or-append l (drop (k + length l) s) 0 j g

  -- and together
  pub written-part : take (length l) (drop k (written s k l)) ≡ l
  unfolding written
  written-part =
      ap (take (length l)) (drop_at (take k s) (l ++ drop (k + length l) s) k (length-take-le k s (omega arith)))
      ∙ take_at l (drop (k + length l) s) (length l) refl

  -- the front, read back
  pub written-front : take k (written s k l) ≡ take k s
  unfolding written
  written-front = take_at (take k s) (l ++ drop (k + length l) s) k (length-take-le k s (omega arith))

  -- more words behind the first
  pub written-more : (m : List ℕ) → written (written s k l) (k + length l) m ≡ written s k (l ++ m)
  unfolding written
  written-more m =
      let e : k + length l + length m ≡ k + length (l ++ m) = omega (arith, length-append l m) in
      ap₂ (λ (u v : List ℕ). u ++ (m ++ v)) take-written (drop_past (k + length l + length m) (omega arith) ∙ ap (λ (u : ℕ). drop u s) e)
      ∙ append_assoc (take k s) l (m ++ drop (k + length (l ++ m)) s)
      ∙ ap (λ (u : List ℕ). take k s ++ u) (sym (append_assoc l m (drop (k + length (l ++ m)) s)))

  -- at least as many words over the first
  pub written_over : (m : List ℕ) → length l ≤ length m → written (written s k l) k m ≡ written s k m
  unfolding written
  written_over m g = ap₂ (λ (u v : List ℕ). u ++ (m ++ v)) written-front (drop_past (k + length m) (omega arith))

pub written_none : (s : List ℕ) (k : ℕ) → written s k [] ≡ s
unfolding written
written_none s k = rw add-zero (take-append-drop k s)

pub written_one : (s : List ℕ) (k v : ℕ) → k < length s → set s k v ≡ written s k (v ∷ [])
unfolding written
written_one s k v h = set_split s k v h ∙ ap (λ (n : ℕ). take k s ++ (v ∷ drop n s)) (sym (add-one k))
