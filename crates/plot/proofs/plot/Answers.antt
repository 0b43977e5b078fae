-- What is read is the front of the reader's bytes, and what is written is the text for it.
use Rattle.std.proofs.Common.{arith, ℕ, ◌≡◌, ◌+◌, ◌<◌, ◌≤◌, List, [], ◌++◌, length, take, drop, sym, ap, subst, ◌∙◌, IfSome, IfOk, OnOk, None, Some, Ok, ⊎_elim, take_all, length-take-le, append-nil}
use Rattle.std.specs.declared.option.Option.{Option}
use Rattle.std.specs.declared.result.Result.{Result}
use Rattle.std.proofs.lemmas.Bool.{cases_lt}
use Rattle.std.proofs.lemmas.List.{length-replicate}
use Rattle.std.proofs.lemmas.List.Edits.{sets, sets-eq}
use Rattle.std.proofs.Math.Seq.{take-append_seam}
use Rattle.std.specs.Io.KnownBytes.{Appends, Consumes, IsAtEnd}
use Rattle.report.specs.Report.{report}
use Rattle.plot.proofs.plot.Goals as goal

-- a short front is all there is
short : (n m : ℕ) (front rest : List ℕ) → length front ≤ m → rest ≡ [] → take m (front ++ rest) ≡ front
short n m front rest fits none = ap (λ l. take m (front ++ l)) none ∙ ap (take m) (append-nil front) ∙ take_all m front fits

-- a front of m bytes is the first m
full : (m : ℕ) (front rest : List ℕ) → length front ≡ m → take m (front ++ rest) ≡ front
full m front rest long = ap (λ k. take k (front ++ rest)) (sym long) ∙ take-append_seam front rest

-- what a reader gave to a buffer of m bytes is the first m of what it had
first : (a b : Option (List ℕ)) (n m : ℕ) (front : List ℕ) → length front ≡ n → n ≤ m → Consumes a b front → (n < m → IsAtEnd b) → IfSome a (λ file. take m file ≡ front)
first None b n m front long fits read end = tt
first (Some x) None n m front long fits read end = absurd read
first (Some x) (Some y) n m front long fits read end =
    ap (take m) read ∙ ⊎_elim (λ less. short n m front y (omega (arith, long, fits)) (end less)) (λ more. full m front y (omega (arith, long, fits, more))) (cases_lt n m)

-- the front that holds a text is the text
front_text : (old new text : List ℕ) → new ≡ sets old 0 text → length text ≤ length old → take (length text) new ≡ text
front_text old new text set fits =
    ap (take (length text)) (set ∙ sets-eq text old 0 (omega (arith, fits))) ∙ take-append_seam text (drop (0 + length text) old)

written : (a u v : Option (List ℕ)) (m : ℕ) (front bytes : List ℕ) → IfSome a (λ file. take m file ≡ front) → bytes ≡ report front → Appends u v bytes
    → IfSome a (λ file. Appends u v (report (take m file)))
written None u v m front bytes same text wrote = tt
written (Some x) u v m front bytes same text wrote = subst (Appends u v) (text ∙ sym (ap report same)) wrote

consumed : (a b : Option (List ℕ)) (m : ℕ) (front : List ℕ) → IfSome a (λ file. take m file ≡ front) → Consumes a b front
    → IfSome a (λ file. Consumes a b (take m file))
consumed None b m front same read = tt
consumed (Some x) b m front same read = subst (Consumes (Some x) b) (sym same) read

-- what holds of the value of an Ok, and at an Ok
of_ok : {T E : Type 0} (P : T → Type 0) (r : Result T E) (x : T) → r ≡ Ok x → IfOk r P → P x
of_ok P r x e h = subst (λ s. IfOk s P) e h

at_ok : {T E : Type 0} (P : Type 0) (r : Result T E) (x : T) → r ≡ Ok x → OnOk r P → P
at_ok P r x e h = subst (λ s. OnOk s P) e h

pub returns : goal.returns
returns g c =
    let n = c.in_ok-n.n in
    let buffer = c.read_full.new.buffer in
    let bound = of_ok _ _ n c.in_ok-n.ensures c.read_full.ensures.bound in
    let bytes = of_ok _ _ n c.in_ok-n.ensures c.read_full.ensures.bytes in
    let end = of_ok _ _ n c.in_ok-n.ensures c.read_full.ensures.end in
    let room : length buffer ≡ 2561 = c.read_full.auto.buffer in
    let front = first _ _ n 2561 (take n buffer) (length-take-le n buffer bound) (omega (arith, bound, room)) bytes (λ less. end (omega (arith, less, room))) in
    let text = c.report-r.ensures in
    let old = length-replicate {A = ℕ} 50000 0 in
    let out = ap (λ k. take k c.report-r.new.out) text.value.0 ∙ front_text _ _ (report (take n buffer)) text.out_after (omega (arith, text.value.0, text.value.1, old)) in
    record {
      wrote = written _ _ _ 2561 (take n buffer) (take c.report-r.result c.report-r.new.out) front out (at_ok _ _ _ c.in_ok-context.ensures c.write_all.ensures.bytes);
      took = consumed _ _ 2561 (take n buffer) front bytes;
    }
