-- `repair::improve::partners::stratum_rule` meets its contract: the strata read are those of the mesh. Assumes nothing.
use Rattle.std.proofs.Common.{◌≡◌, ℕ, Bool, true, false, ◌&&◌, ltb, length, refl, sym, ap, ◌∙◌}
use Rattle.mesh.specs.Complex.{sub}
use Rattle.mesh.specs.Feature.{bits_of, strata_in}
use Rattle.repair.specs.Mesh.{Mesh}
use Rattle.repair.specs.Improve.{stratum_rule}
use Rattle.repair.specs.declared.improve.inputs.Inputs.{Inputs}
use Rattle.repair.specs.inside.improve.Partners.{strata_of}
use Rattle.repair.specs.inside.improve.Round.{ReadsOf}
use Rattle.repair.proofs.improve.partners.stratum_rule.Goals as goal

reads-rule : (i : Inputs) (m : Mesh) → ReadsOf i m → (f : ℕ → ℕ) → f ≡ strata_of i → (u v : ℕ) → (sub (bits_of (f u)) (bits_of (f v)) && ltb (length (bits_of (f u))) 3) ≡ stratum_rule i.options m u v
reads-rule i m r f e u v = rw (r.masks, r.parameters, e) refl

and-then : (x l h : Bool) → h ≡ l → h ≡ true → x ≡ (x && l)
and-then true l h e t = sym t ∙ e
and-then false l h e t = refl

and-else : (x l h : Bool) → h ≡ l → h ≡ false → h ≡ (x && l)
and-else true l h e f = e
and-else false l h e f = f

pub returns-then-has_few : goal.returns-then-has_few
returns-then-has_few c = λ m r.
    let s = strata_in c.strata-strata.result in
    c.is_inside.ensures ∙ and-then (sub (bits_of (s c.args.e.a)) (bits_of (s c.args.e.b))) (ltb (length (bits_of (s c.args.e.a))) 3) _ (c.has_few.ensures ∙ ap (λ n. ltb (length (bits_of n)) 3) c.of.ensures.value) c.if-has_few.true
    ∙ reads-rule c.args.given.now m r s c.strata-strata.ensures c.args.e.a c.args.e.b

pub returns-else-has_few : goal.returns-else-has_few
returns-else-has_few c = λ m r.
    let s = strata_in c.strata-strata.result in
    and-else (sub (bits_of (s c.args.e.a)) (bits_of (s c.args.e.b))) (ltb (length (bits_of (s c.args.e.a))) 3) _ (c.has_few.ensures ∙ ap (λ n. ltb (length (bits_of n)) 3) c.of.ensures.value) c.if-has_few.false
    ∙ reads-rule c.args.given.now m r s c.strata-strata.ensures c.args.e.a c.args.e.b
