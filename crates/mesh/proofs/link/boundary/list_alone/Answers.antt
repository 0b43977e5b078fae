-- `mesh::link::boundary::list_alone` meets its contract. The invariant: the faces of the runs passed are put. Assumes nothing.
use Rattle.std.proofs.Common.{ℕ, List, ◌++◌, drop, sym, refl, ap, subst, ◌∙◌, arith}
use Rattle.mesh.specs.inside.LinkRows.{face_in}
use Rattle.mesh.specs.inside.LinkAreas.{AloneRows}
use Rattle.mesh.proofs.Laws.LinkRows.Alone.{put-start, put-few, put-inside, put-more, put-less, put-end}
use Rattle.mesh.proofs.link.boundary.list_alone.Goals as goal

pub loop-i-init : goal.loop-i-init
loop-i-init c =
    let x = c.args.area.now in
    let e = c.split_at_mut-front.ensures in
    let i = c.boundary_start-start.ensures in
    put-start c.args.ab.a c.args.ab.b x.n x.words.now (rw i at e.front) (rw i at e.back) (rw c.into_iter-i-iterator.ensures.into_iter_gives c.new-i-items.ensures)

pub face_in-f-requires : goal.face_in-f-requires
face_in-f-requires c =
    let x = c.args.area.now in
    rw (c.split_at_mut-front.ensures.front, c.boundary_start-start.ensures) (put-inside c.args.ab.a c.args.ab.b x.n x.words.now c.loop-i.invariant (c.in-Some.i, c.in-Some.k) c.next.new.self c.in-Some.ensures.steps)

pub overflow_mul-c : goal.overflow_mul-c
overflow_mul-c c = let x = c.args.area.now in let k = put-few c.args.ab.a c.args.ab.b x.n x.words.now c.loop-i.invariant (c.in-Some.i, c.in-Some.k) c.next.new.self c.in-Some.ensures.steps in omega (arith, x.few, k)

pub put_face-requires : goal.put_face-requires
put_face-requires c =
    let x = c.args.area.now in
    let k = put-few c.args.ab.a c.args.ab.b x.n x.words.now c.loop-i.invariant (c.in-Some.i, c.in-Some.k) c.next.new.self c.in-Some.ensures.steps in
    omega (arith, k, c.loop-i.auto.rest, c.split_at_mut-front.ensures.back_len, c.boundary_start-start.ensures, x.room)

pub loop-i-preserved-then-alone_about : goal.loop-i-preserved-then-alone_about
loop-i-preserved-then-alone_about c =
    let x = c.args.area.now in
    let f = c.face_in-f.ensures ∙ ap (λ (l : List ℕ). face_in (drop c.in-Some.i l)) (rw c.boundary_start-start.ensures at c.split_at_mut-front.ensures.front) in
    put-more c.args.ab.a c.args.ab.b x.n x.words.now c.loop-i.invariant (c.in-Some.i, c.in-Some.k) c.next.new.self c.in-Some.ensures.steps f (sym c.alone_about.ensures ∙ c.if-alone_about.true) c.put_face.new.area c.put_face.ensures

pub loop-i-preserved : goal.loop-i-preserved
loop-i-preserved c =
    let x = c.args.area.now in
    let f = c.face_in-f.ensures ∙ ap (λ (l : List ℕ). face_in (drop c.in-Some.i l)) (rw c.boundary_start-start.ensures at c.split_at_mut-front.ensures.front) in
    put-less c.args.ab.a c.args.ab.b x.n x.words.now c.loop-i.invariant (c.in-Some.i, c.in-Some.k) c.next.new.self c.in-Some.ensures.steps f (sym c.alone_about.ensures ∙ c.if-alone_about.false)

pub returns : goal.returns
returns c =
    let x = c.args.area.now in
    let k = put-end c.args.ab.a c.args.ab.b x.n x.words.now c.loop-i.invariant c.next.new.self c.in-None.ensures.steps in
    (record { lent = refl; count = refl }, subst (λ (l : List ℕ). AloneRows c.args.ab.a c.args.ab.b x.n x.words.now (l ++ c.loop-i.rest) c.loop-i.c) (sym (rw c.boundary_start-start.ensures at c.split_at_mut-front.ensures.front)) k)
