-- Words outside an area stay as they were: laws of `Same`. Assumes nothing.
use mathlib.Core.Path.{◌≡◌, refl, sym, ap, ◌∙◌}
use mathlib.Core.List.{List}
use Prim.Native.Nat.{ℕ, ◌+◌, ◌-◌, ◌≤◌, ◌<◌}
use native.Mathlib.Omega.{arith}
use lib.ListN.{length, get_or-eq_default}
use lib.Seq.{get_or-take, get_or-drop}
use borrow.Rule.Slice.PartMut.{mid_of, put_mid, same_len_mid, mid_len, take_put, drop_put}
use Rattle.mesh.specs.Words.{word_at}
use Rattle.repair.specs.inside.Layout.{Same}

pub same_refl : (s : List ℕ) (a b : ℕ) → Same s s a b
same_refl s a b = record { long = refl; before = λ j h. refl; behind = λ j h. refl }

pub same-trans : {s t u : List ℕ} {a b : ℕ} → Same s t a b → Same t u a b → Same s u a b
same-trans p q = record { long = q.long ∙ p.long; before = λ j h. q.before j h ∙ p.before j h; behind = λ j h. q.behind j h ∙ p.behind j h }

-- the same outside a wider area
pub same-wider : {s t : List ℕ} {a b : ℕ} (c d : ℕ) → c ≤ a → b ≤ d → Same s t a b → Same s t c d
same-wider c d h g p = record { long = p.long; before = λ j k. p.before j (omega arith); behind = λ j k. p.behind j (omega arith) }

-- the same before a place is the same outside the words from there to the end
pub same-front : {s t : List ℕ} (a : ℕ) → length t ≡ length s → ((j : ℕ) → j < a → word_at t j ≡ word_at s j) → Same s t a (length s)
same-front {s} {t} a e h = record {
  long = e;
  before = h;
  behind = λ j g. get_or-eq_default t 0 (omega arith) ∙ sym (get_or-eq_default s 0 g);
}

-- a part put in the place of the words from a up to e
pub same-put : (a e : ℕ) (s p : List ℕ) → a ≤ e → e ≤ length s → length p ≡ length (mid_of a (e - a) s) → Same s (put_mid a (e - a) s p) a e
same-put a e s p h g l = record {
  long = same_len_mid a (e - a) s p l;
  before = λ j k.
      sym (get_or-take a (put_mid a (e - a) s p) j 0 k) ∙ ap (λ (u : List ℕ). word_at u j) (take_put a (e - a) s p (omega arith)) ∙ get_or-take a s j 0 k;
  behind = λ j k.
      let d : j ≡ e + (j - e) = omega arith in
      ap (word_at (put_mid a (e - a) s p)) d ∙ sym (get_or-drop e (put_mid a (e - a) s p) (j - e) 0)
      ∙ ap (λ (u : List ℕ). word_at u (j - e)) (drop_put a e s p h g (l ∙ mid_len a e s g)) ∙ get_or-drop e s (j - e) 0 ∙ ap (word_at s) (sym d);
}
