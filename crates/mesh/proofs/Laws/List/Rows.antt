-- Rows sorted, each once, with zeros behind them; and the rows of the bad elements behind these. Assumes nothing.
use Rattle.std.proofs.Common.{◌≡◌, ℕ, ◌+◌, ◌-◌, ◌*◌, ◌<◌, ◌≤◌, true, false, ltb, leb, List, [], ◌∷◌, ◌++◌, map, length, take, drop, sym, refl, ap, ◌∙◌, ap₂, append_assoc, arith, length-append, length-drop, length-take-le, drop-drop, take_at, take-add, drop_at, lt-ltb, le-leb, leb-true}
use Rattle.mesh.specs.declared.element.Tet.{Tet}
use Rattle.mesh.specs.Words.{zero_words, numbers, flat}
use Rattle.mesh.specs.Sort.{sort, unique}
use Rattle.mesh.specs.inside.Rows.{rows, le_row, eq_row, fit_rows, sorted_area, unique_rows, unique_area}
use Rattle.mesh.specs.Complex.{keep}
use Rattle.mesh.specs.Element.{tets, vertices_of}
use Rattle.mesh.specs.inside.Manifold.{filled, KeptBelow}
use Rattle.mesh.specs.inside.Euler.{spread}
use Rattle.mesh.proofs.Laws.Bools.{and_intro, and_left, and_right}
use Rattle.mesh.proofs.Laws.Rows.{shape-rows, shape-sort, shape-unique, length-flat}
use Rattle.mesh.proofs.Laws.Keeping.{unique-is, length-unique-area, length-unique-rows}
use Rattle.mesh.proofs.Laws.Manifold.Growth.{kept-both}
use Rattle.mesh.proofs.Laws.Manifold.Fill.{fill-kept, filled-rows}
use Rattle.mesh.proofs.Laws.Manifold.Steps.{put-kept, sort-kept, sort-from-rows}
use Rattle.mesh.proofs.Laws.Euler.Areas.{tets-flat}
use Rattle.geometry.specs.declared.point.Point.{Point}
use Rattle.mesh.specs.inside.List.{bad_in, set_of, list_fits, Listing, listed_in, stacked}

-- ---- the set of the rows from a on

module _ (a n w : ℕ) (s₀ s₁ : List ℕ) (h : 0 < w) (room : a + (n + n) * w ≤ length s₀) (e₁ : s₁ ≡ take a s₀ ++ sorted_area n w (drop a s₀)) where
  kept₁ : KeptBelow a s₀ s₁
  kept₁ = sort-kept a n w s₀ s₁ (omega arith) e₁

  pub set_room : a ≤ length s₁
  set_room = omega (arith, kept₁.long)

  words : (n + n) * w ≡ n * w + n * w
  words = omega arith

  fits : fit_rows n w (length (drop a s₁)) ≡ true
  unfolding fit_rows
  fits = and_intro (ltb 0 w) (leb (n * w) (length (drop a s₁))) (lt-ltb 0 w h) (le-leb (n * w) (length (drop a s₁)) (omega (arith, words, length-drop a s₁, kept₁.long)))

  set_is : unique_rows n w (drop a s₁) ≡ set_of (rows w n (drop a s₀))
  unfolding set_of
  set_is = unique-is n w (drop a s₁) fits ∙ ap (unique eq_row) (sort-from-rows a n w s₀ s₁ (omega arith) e₁ h room)

  -- as many words as the rows have
  set_words : length (flat (set_of (rows w n (drop a s₀)))) ≡ w * length (set_of (rows w n (drop a s₀)))
  unfolding set_of
  set_words =
      length-flat (shape-unique (shape-sort (shape-rows w n (drop a s₀) (omega (arith, words, length-drop a s₀)))))
      ∙ (let q : length (unique eq_row (sort le_row (rows w n (drop a s₀)))) * w ≡ w * length (unique eq_row (sort le_row (rows w n (drop a s₀)))) = omega arith in q)

  module _ (k : ℕ) (s₂ : List ℕ) (e : k ≡ length (unique_rows n w (drop a s₁))) (e₂ : s₂ ≡ take a s₁ ++ unique_area n w (drop a s₁)) where
    pub set-number : k ≡ length (set_of (rows w n (drop a s₀)))
    set-number = e ∙ ap length set_is

    kept₂ : KeptBelow a s₀ s₂
    kept₂ = kept-both a s₀ s₁ s₂ kept₁ (put-kept a s₁ s₂ (unique_area n w (drop a s₁)) set_room (length-unique-area n w (drop a s₁) ∙ length-drop a s₁) e₂)

    pub set-few : w * k ≤ n * w
    set-few = let q = native.Mathlib.Nat.mul-le-mul_right w (length-unique-rows n w (drop a s₁)) in let m : w * k ≡ length (unique_rows n w (drop a s₁)) * w = ap (λ (u : ℕ). w * u) e ∙ (let z : w * length (unique_rows n w (drop a s₁)) ≡ length (unique_rows n w (drop a s₁)) * w = omega arith in z) in omega arith

    pub clear_room : a + w * k ≤ length s₂
    clear_room = omega (arith, set-few, words, kept₂.long)

    front : take (a + w * k) s₂ ≡ take a s₀ ++ flat (set_of (rows w n (drop a s₀)))
    unfolding unique_area
    front =
        let U = unique_rows n w (drop a s₁) in
        let d = drop (length U * w) (drop a s₁) in
        let l : length (take a s₁ ++ flat U) ≡ a + w * k =
        length-append (take a s₁) (flat U) ∙ ap₂ (λ (u v : ℕ). u + v) (length-take-le a s₁ set_room)
        (ap (λ (r : List (List ℕ)). length (flat r)) set_is ∙ set_words ∙ ap (λ (u : ℕ). w * u) (sym set-number)) in
        ap (take (a + w * k)) (e₂ ∙ sym (append_assoc (take a s₁) (flat U) d)) ∙ take_at (take a s₁ ++ flat U) d (a + w * k) l
        ∙ ap₂ (λ (u : List ℕ) (r : List (List ℕ)). u ++ flat r) kept₁.front set_is

    pub set-area : (s₃ : List ℕ) → s₃ ≡ take (a + w * k) s₂ ++ zero_words (length s₂ - (a + w * k))
        → s₃ ≡ take a s₀ ++ (flat (set_of (rows w n (drop a s₀))) ++ zero_words (length s₀ - (a + length (flat (set_of (rows w n (drop a s₀)))))))
    set-area s₃ e₃ =
        let q : w * k ≡ length (flat (set_of (rows w n (drop a s₀)))) = ap (λ (u : ℕ). w * u) set-number ∙ sym set_words in
        e₃ ∙ ap₂ (λ (u : List ℕ) (m : ℕ). u ++ zero_words m) front (ap₂ (λ (m j : ℕ). m - (a + j)) kept₂.long q)
        ∙ append_assoc (take a s₀) (flat (set_of (rows w n (drop a s₀)))) (zero_words (length s₀ - (a + length (flat (set_of (rows w n (drop a s₀)))))))

-- ---- rows of the elements gathered behind the slots

-- four words an element
pub length-vertices : (l : List Tet) → length (flat (map vertices_of l)) ≡ 4 * length l
unfolding flat
length-vertices [] = refl
length-vertices (t ∷ l) = omega (arith, length-vertices l)

-- c rows of w words an element: `row` by number, f for an element
module _ (w c : ℕ) (row : List ℕ → ℕ → List ℕ) (f : Tet → List (List ℕ)) (some : 0 < w) (wide : (i : ℕ) → (c * i + c * i) * w ≡ 24 * i)
    (size : (s : List ℕ) (j : ℕ) → length (row s j) ≡ w) (numbered : (s : List ℕ) (i : ℕ) → map (row s) (numbers 0 (c * i)) ≡ spread f (tets i s))
    (n k : ℕ) (ts : List Tet) (number : k ≡ length ts) (few : k ≤ n) (s₀ s₁ : List ℕ) (room : 32 * n ≤ length s₀) (kept : KeptBelow (4 * n) s₀ s₁)
    (e₁ : s₁ ≡ stacked (map vertices_of ts) 4 (4 * n) s₀) where
  part : drop (4 * n) s₁ ≡ flat (map vertices_of ts) ++ drop (4 * n + 4 * length (map vertices_of ts)) s₀
  unfolding stacked
  part =
      ap (drop (4 * n)) e₁
      ∙ drop_at (take (4 * n) s₀) (flat (map vertices_of ts) ++ drop (4 * n + 4 * length (map vertices_of ts)) s₀) (4 * n) (length-take-le (4 * n) s₀ (omega arith))

  long-part : length (drop (4 * n) s₁) ≡ length s₀ - 4 * n
  long-part = length-drop (4 * n) s₁ ∙ ap (λ (u : ℕ). u - 4 * n) kept.long

  pub part_room : (4 * n ≤ length s₁) × (28 * k ≤ length (drop (4 * n) s₁))
  part_room = (omega (arith, kept.long), omega (arith, long-part))

  module _ (s₂ : List ℕ) (e₂ : s₂ ≡ take (4 * n) s₁ ++ filled (row (drop (4 * n) s₁)) w (4 * k) (c * k) (drop (4 * n) s₁)) where
    words-fit : 4 * k + w * (c * k) ≤ length (drop (4 * n) s₁)
    words-fit = let q : (c * k + c * k) * w ≡ w * (c * k) + w * (c * k) = omega arith in omega (arith, wide (k), long-part)

    listed : KeptBelow (4 * k) (drop (4 * n) s₁) (filled (row (drop (4 * n) s₁)) w (4 * k) (c * k) (drop (4 * n) s₁))
    listed = fill-kept (row (drop (4 * n) s₁)) w (size (drop (4 * n) s₁)) (4 * k) (drop (4 * n) s₁) (omega (arith, part_room.1)) (c * k) _ words-fit refl

    rows-kept : KeptBelow (4 * n) s₁ s₂
    rows-kept = put-kept (4 * n) s₁ s₂ _ part_room.0 (listed.long ∙ length-drop (4 * n) s₁) e₂

    rows_long : length s₂ ≡ length s₀
    rows_long = rows-kept.long ∙ kept.long

    pub rows-room : (0 < w) × (4 * n + 4 * k + (c * k + c * k) * w ≤ length s₂)
    rows-room = (some, omega (arith, wide (k), rows_long))

    behind : drop (4 * n) s₂ ≡ filled (row (drop (4 * n) s₁)) w (4 * k) (c * k) (drop (4 * n) s₁)
    behind = ap (drop (4 * n)) e₂ ∙ drop_at (take (4 * n) s₁) _ (4 * n) (length-take-le (4 * n) s₁ part_room.0)

    rows_are : rows w (c * k) (drop (4 * n + 4 * k) s₂) ≡ spread f ts
    rows_are =
        ap (rows w (c * k)) (sym (drop-drop (4 * k) (4 * n) s₂))
        ∙ filled-rows (row (drop (4 * n) s₁)) w (size (drop (4 * n) s₁)) (4 * k) (drop (4 * n) s₁) (omega (arith, part_room.1)) (c * k) (drop (4 * n) s₂) behind
        ∙ numbered (drop (4 * n) s₁) (k)
        ∙ ap (spread f) (ap₂ tets number part ∙ tets-flat ts (drop (4 * n + 4 * length (map vertices_of ts)) s₀))

    front₂ : take (4 * n + 4 * k) s₂ ≡ take (4 * n) s₀ ++ flat (map vertices_of ts)
    front₂ =
        take-add (4 * n) (4 * k) s₂
        ∙ ap₂ (λ (u v : List ℕ). u ++ v) (rows-kept.front ∙ kept.front)
        (ap (take (4 * k)) behind ∙ listed.front ∙ ap (take (4 * k)) part
        ∙ take_at (flat (map vertices_of ts)) (drop (4 * n + 4 * length (map vertices_of ts)) s₀) (4 * k) (length-vertices ts ∙ ap (λ (u : ℕ). 4 * u) (sym number)))

    module _ (m : ℕ) (s₃ : List ℕ) (q : m ≡ length (set_of (rows w (c * k) (drop (4 * n + 4 * k) s₂))))
        (e₃ : s₃ ≡ take (4 * n + 4 * k) s₂ ++ (flat (set_of (rows w (c * k) (drop (4 * n + 4 * k) s₂)))
        ++ zero_words (length s₂ - (4 * n + 4 * k + length (flat (set_of (rows w (c * k) (drop (4 * n + 4 * k) s₂)))))))) where
      pub rows-number : m ≡ length (set_of (spread f ts))
      rows-number = q ∙ ap (λ (l : List (List ℕ)). length (set_of l)) rows_are

      pub rows-area : s₃ ≡ take (4 * n) s₀ ++ (flat (map vertices_of ts) ++ (flat (set_of (spread f ts)) ++ zero_words (length s₀ - (4 * n + length (flat (map vertices_of ts)) + length (flat (set_of (spread f ts)))))))
      rows-area =
          e₃
          ∙ ap (λ (l : List (List ℕ)). take (4 * n + 4 * k) s₂ ++ (flat (set_of l) ++ zero_words (length s₂ - (4 * n + 4 * k + length (flat (set_of l)))))) rows_are
          ∙ ap₂ (λ (u : List ℕ) (i : ℕ). u ++ (flat (set_of (spread f ts)) ++ zero_words (i - (4 * n + 4 * k + length (flat (set_of (spread f ts))))))) front₂ rows_long
          ∙ ap (λ (i : ℕ). (take (4 * n) s₀ ++ flat (map vertices_of ts)) ++ (flat (set_of (spread f ts)) ++ zero_words (length s₀ - (4 * n + i + length (flat (set_of (spread f ts))))))) (ap (λ (u : ℕ). 4 * u) number ∙ sym (length-vertices ts))
          ∙ append_assoc (take (4 * n) s₀) (flat (map vertices_of ts)) (flat (set_of (spread f ts)) ++ zero_words (length s₀ - (4 * n + length (flat (map vertices_of ts)) + length (flat (set_of (spread f ts))))))

-- ---- the whole

pub fits-is : (n m : ℕ) → list_fits n m ≡ true → (n ≤ 65536) × (32 * n ≤ m)
unfolding list_fits
fits-is n m h = (leb-true n 65536 (and_left (leb n 65536) (leb (32 * n) m) h), leb-true (32 * n) m (and_right (leb n 65536) (leb (32 * n) m) h))

pub in-no : (rs : List Tet → List (List ℕ)) (ps : List Point) (n : ℕ) (s : List ℕ) → list_fits n (length s) ≡ false
    → ◌≡◌ {A = Listing} (record { listed = record { elements = 0; rows = 0 }; area = s }) (listed_in rs ps n s)
unfolding listed_in
in-no rs ps n s e = rw e refl

pub in-yes : (rs : List Tet → List (List ℕ)) (ps : List Point) (n : ℕ) (s₀ s : List ℕ) (k m : ℕ) → list_fits n (length s₀) ≡ true
    → k ≡ length (keep (bad_in ps) (tets n s₀)) → m ≡ length (rs (tets n s₀))
    → s ≡ take (4 * n) s₀ ++ (flat (map vertices_of (keep (bad_in ps) (tets n s₀))) ++ (flat (rs (tets n s₀))
    ++ zero_words (length s₀ - (4 * n + length (flat (map vertices_of (keep (bad_in ps) (tets n s₀)))) + length (flat (rs (tets n s₀)))))))
    → ◌≡◌ {A = Listing} (record { listed = record { elements = k; rows = m }; area = s }) (listed_in rs ps n s₀)
unfolding listed_in
in-yes rs ps n s₀ s k m e p q r = rw e cc
