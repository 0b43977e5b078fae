-- `report::write::field_words` meets its contract, kind by kind. Assumes nothing.
use Rattle.std.proofs.Common.{◌≡◌, ◌∙◌, inl, inr}
use Rattle.report.specs.Write.{field_words}
use Rattle.report.proofs.write.field_words.Goals as goal

pub returns-in-Level : goal.returns-in-Level
unfolding field_words
returns-in-Level c =
    let e : c.from-kind.result ≡ 0 = rw c.in-Level.is at (c.from-kind.ensures ∙ c.kind.ensures) in
    rw (c.in-Level.is, e) (cc)

pub returns-in-Plane : goal.returns-in-Plane
unfolding field_words
returns-in-Plane c =
    elim c.in-Plane.is [
      | inl h ↦
          let e : c.from-kind.result ≡ 1 = rw h at (c.from-kind.ensures ∙ c.kind.ensures) in
          rw (h, e) (cc)
      | inr h ↦
          let e : c.from-kind.result ≡ 2 = rw h at (c.from-kind.ensures ∙ c.kind.ensures) in
          rw (h, e) (cc)
    ]
