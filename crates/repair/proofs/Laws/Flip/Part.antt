-- A part of the work slice that begins with a copy of the elements: what is seen of it, and what is read once it is written. Assumes nothing.
use mathlib.Core.Path.{◌≡◌, sym, ap, ◌∙◌}
use mathlib.Core.List.{List, ◌++◌, append_assoc}
use Prim.Native.Nat.{ℕ, ◌+◌, ◌-◌, ◌*◌, ◌≤◌}
use native.Mathlib.Omega.{arith}
use borrow.Author.Tests.{le-leb}
use lib.ListN.{length, take, drop, length-drop}
use lib.Seq.{length-take-le, drop_at, drop-drop, get_or-take, get_or-drop}
use Rattle.mesh.specs.Words.{word_at, copied, inside, flat}
use Rattle.mesh.specs.inside.Rows.{rows}
use Rattle.mesh.specs.Element.{tets}
use Rattle.mesh.specs.inside.Star.{written}
use Rattle.mesh.proofs.Laws.Parts.{into-is}
use Rattle.mesh.proofs.Laws.Rows.{Shape, rows-flat}
use Rattle.mesh.proofs.Laws.Star.Written.{length-written, written_below, written_behind, written_at}
use Rattle.mesh.proofs.Laws.Star.Calls.{tets-same}
use Rattle.repair.specs.inside.Layout.{Same}

-- the first k words of els copied to a
pub copied_is : (els w : List ℕ) (a k : ℕ) → k ≤ length els → a + k ≤ length w → copied els 0 w a k ≡ written w a (take k els)
unfolding written inside
copied_is els w a k h g =
    sym (into-is els w 0 a k (le-leb (0 + k) (length els) (omega arith)) (le-leb (a + k) (length w) g))
    ∙ append_assoc (take a w) (take k els) (drop (a + k) w)
    ∙ ap (λ (u : ℕ). take a w ++ (take k els ++ drop (a + u) w)) (sym (length-take-le k els h))

-- w₁ has the n elements at a, and v has the words p in place of the m words from there on
module _ (els w w₁ : List ℕ) (a m n : ℕ) (long : 4 * n ≤ length els) (room : a + m ≤ length w) (wide : 4 * n ≤ m) (e₁ : w₁ ≡ copied els 0 w a (4 * n)) where
  abbrev pub part : List ℕ
  part = take (a + m - a) (drop a w₁)

  front_long : length (take (4 * n) els) ≡ 4 * n
  front_long = length-take-le (4 * n) els long

  front_fits : a + length (take (4 * n) els) ≤ length w
  front_fits = let d = front_long in omega arith

  front-is : w₁ ≡ written w a (take (4 * n) els)
  front-is = e₁ ∙ copied_is els w a (4 * n) long (omega arith)

  w₁-long : length w₁ ≡ length w
  w₁-long = ap length front-is ∙ length-written w a (take (4 * n) els) front_fits

  pub part-long : length part ≡ m
  part-long =
      let d = w₁-long in
      let b = length-drop a w₁ in
      let e : a + m - a ≡ m = omega arith in
      ap (λ (u : ℕ). length (take u (drop a w₁))) e ∙ length-take-le m (drop a w₁) (omega arith)

  pub part-elements : tets n part ≡ tets n els
  part-elements = tets-same n els part (λ j h.
      get_or-take (a + m - a) (drop a w₁) j 0 (omega arith) ∙ get_or-drop a w₁ j 0 ∙ ap (λ (u : List ℕ). word_at u (a + j)) front-is
      ∙ written_at w a (take (4 * n) els) front_fits j (let d = front_long in omega arith) ∙ get_or-take (4 * n) els j 0 h)

  module _ (p v : List ℕ) (whole : length p ≡ m) (e₂ : v ≡ take a w₁ ++ (p ++ drop (a + m - a) (drop a w₁))) where
    part-fits : a + length p ≤ length w₁
    part-fits = let d = w₁-long in omega arith

    part-is : v ≡ written w₁ a p
    unfolding written
    part-is =
        let e : a + (a + m - a) ≡ a + length p = omega arith in
        e₂ ∙ ap (λ (u : List ℕ). take a w₁ ++ (p ++ u)) (drop-drop (a + m - a) a w₁ ∙ ap (λ (k : ℕ). drop k w₁) e)

    -- the same outside the part
    pub part_same : Same w v a (a + m)
    part_same = record {
      long = ap length part-is ∙ length-written w₁ a p part-fits ∙ w₁-long;
      before = λ j h. ap (λ (u : List ℕ). word_at u j) part-is ∙ written_below w₁ a p part-fits j h ∙ ap (λ (u : List ℕ). word_at u j) front-is ∙ written_below w a (take (4 * n) els) front_fits j h;
      behind = λ j h.
          ap (λ (u : List ℕ). word_at u j) part-is ∙ written_behind w₁ a p part-fits j (omega arith)
          ∙ ap (λ (u : List ℕ). word_at u j) front-is ∙ written_behind w a (take (4 * n) els) front_fits j (let d = front_long in omega arith);
    }

    -- the rows behind the first words f of the part
    pub part-rows : {c k : ℕ} {rs : List (List ℕ)} → Shape c k rs → (f z : List ℕ) → p ≡ f ++ (flat rs ++ z) → (q : ℕ) → length f ≡ q → rows c k (drop (a + q) v) ≡ rs
    part-rows {c} {k} {rs} h f z e q l =
        let y = drop (a + m - a) (drop a w₁) in
        let d = w₁-long in
        ap (rows c k)
        (sym (drop-drop q a v)
        ∙ ap (drop q) (ap (drop a) e₂ ∙ drop_at (take a w₁) (p ++ y) a (length-take-le a w₁ (omega arith)) ∙ ap (λ (u : List ℕ). u ++ y) e ∙ append_assoc f (flat rs ++ z) y)
        ∙ drop_at f ((flat rs ++ z) ++ y) q l
        ∙ append_assoc (flat rs) z y)
        ∙ rows-flat h (z ++ y)
