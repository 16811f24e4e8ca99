use Rattle.std.proofs.Common.{Bool, List, ℕ, ◌++◌, ap, sym, subst, ◌∙◌, length}
use Rattle.std.proofs.lemmas.Result.{err_from_is_err_and}
use Rattle.kmipa_ttlv.specs.Input.{came_of, taken_of, is_failed}
use Rattle.kmipa_record.specs.MarkReading.{AreGivenOf}
use Rattle.kmipa_record.proofs.MarkReadingLemmas.{start_fails}
use Rattle.kmipa_record.proofs.SealedReadingLemmas.{start_given}
use Rattle.kmipa_record.proofs.NextLemmas.{none_before}
use Rattle.kmipa_record.proofs.mark_reading.read_start.Goals as goal

pub returns-then-begun-clause-given : goal.returns-then-begun-clause-given
returns-then-begun-clause-given g c = λ marks given. subst (λ (b : Bool). AreGivenOf b c.args.head.now marks c.args.input.now) c.if-begun.true given

pub returns-in_err-header-clause-fault : goal.returns-in_err-header-clause-fault
returns-in_err-header-clause-fault g c = λ marks file given is.
    let none = subst (λ (b : Bool). AreGivenOf b c.args.head.now marks c.args.input.now) c.if-begun.false given in
    let p = err_from_is_err_and c.from_residual.result c.from_residual.ensures.1 in
    let split = is.1 ∙ none_before (came_of c.args.input.now) (came_of c.read_header.new.input) is.0 none.1 in
    rw (p.1, p.2) (start_fails file marks (taken_of c.args.input.now) (is_failed c.read_header.new.input) c.in_err-header.field-0.0 (ap length none.1)
    (c.in_err-header.ensures.fault file is.0 split is.2))

pub returns-clause-given : goal.returns-clause-given
returns-clause-given g c = λ marks given.
    let none = subst (λ (b : Bool). AreGivenOf b c.args.head.now marks c.args.input.now) c.if-begun.false given in
    let came = came_of c.read_header.new.input in
    start_given c.args.input.now c.read_header.new.input c.in_ok-header.header.label c.head_behind.result marks c.deref.result.now none.0 none.1
    (c.in_ok-header.ensures.came ∙ ap (λ (l : List ℕ). came_of c.args.input.now ++ l) (sym c.deref.ensures.value))
    (λ after. c.in_ok-header.ensures.ok (came ++ after) after (none_before (came_of c.args.input.now) came after none.1))
    c.head_behind.ensures
