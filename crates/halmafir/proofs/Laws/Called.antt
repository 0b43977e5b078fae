-- What a caller gets, from what the wrapped function gives. Assumes nothing.
use Prim.Native.Nat.{ℕ}
use mathlib.Core.Path.{◌≡◌, sym, ap}
use mathlib.Core.List.{List}
use mathlib.Core.Option.{Option}
use lib.Ieee.{Float}
use lib.ListN.{length}
use Rattle.geometry.specs.declared.field.Field.{Field}
use Rattle.mesh.specs.declared.intake.Sizes.{Sizes}
use Rattle.mesh.specs.declared.intake.Settings.{Settings}
use Rattle.mesh.specs.Surface.{Outcome}
use Rattle.mesh.specs.Words.{zero_words, zero_floats}
use Rattle.mesh.specs.Intake.{refusal_of}
use Rattle.mesh.specs.Surface as surface
use Rattle.repair.specs.Step.{Answer}
use Rattle.repair.specs.Step.{State, Pass, call_of, held, step, number_of, values_of, over}
use Rattle.halmafir.specs.Called.{Returned, returned, called, Bounded, bounded}

-- a pass called with settings and fields that equal those of the contract
pub called-by : (pass : Pass) (s : Settings) (fs : List Field) (r : Option (List ℕ)) (w : List ℕ) (f p q : List Float) (m e t : List ℕ)
    {b : Settings} {gs : List Field} {x : Sizes} {a : Answer} {p₁ q₁ : List Float} {m₁ e₁ t₁ : List ℕ} {k : ℕ} {l ws : List ℕ} {xs : List Float}
    → b ≡ s → gs ≡ fs
    → ◌≡◌ {A = Answer × State} (a, held x p₁ q₁ m₁ e₁ t₁) (step (call_of pass b gs r w f) (held b.sizes p q m e t))
    → ws ≡ zero_words (length w) → xs ≡ zero_floats (length f)
    → ◌≡◌ {A = ℕ × List ℕ} (k, l) (number_of a, over (values_of a) (zero_words 4))
    → ◌≡◌ {A = Returned} (record { number = k; result = l; parameters = p₁; points = q₁; masks = m₁; elements = e₁; surface = t₁; words = ws; floats = xs })
    (called (call_of pass s fs r w f) (held s.sizes p q m e t))
called-by pass s fs r w f p q m e t h i d u v g =
    rw (sym h, sym i, ap (λ (x : ℕ × List ℕ). x.0) g, ap (λ (x : ℕ × List ℕ). x.1) g, u, v) (ap (returned (length w) (length f)) d)

-- the boundary, once its answer is known
pub bounded-by : {o : Outcome} {s w : List ℕ} {y : surface.Call} (x : Outcome)
    → ◌≡◌ {A = surface.Call} (record { answer = o; surface = s; work = w }) y
    → o ≡ x
    → ◌≡◌ {A = Bounded} (record { number = refusal_of x; triples = surface.triples_of x; surface = s; words = w }) (bounded y)
bounded-by x e h = rw (sym h) (ap bounded e)
