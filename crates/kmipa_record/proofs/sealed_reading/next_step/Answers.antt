use Rattle.std.proofs.Common.{List, ℕ, [], ◌++◌, refl, sym, ap, subst, ◌∙◌}
use Rattle.std.specs.Io.{appended_bytes}
use Rattle.std.proofs.lemmas.List.{append-nil}
use Rattle.std.proofs.lemmas.Result.{err_from_is_err_and}
use Rattle.kmipa_ttlv.specs.Input.{came_of, taken_of, is_failed}
use Rattle.kmipa_record.specs.Files.{Tells}
use Rattle.kmipa_record.specs.Heads.{SaysThis}
use Rattle.kmipa_record.specs.MarkReading.{FaultBehind, IsRightBehind}
use Rattle.kmipa_record.specs.Reading.{TakesSaid}
use Rattle.kmipa_record.specs.declared.fault.RecordKind.TheVariants.{Entry, NoClose}
use Rattle.kmipa_record.proofs.SealedReadingLemmas.{sealed_read_fails, sealed_other_fails, misplaced_fails, unclosed_fails, run_stays, given_step}
use Rattle.kmipa_record.proofs.sealed_reading.next_step.Goals as goal

pub returns-in_err-next-clause-fault : goal.returns-in_err-next-clause-fault
returns-in_err-next-clause-fault g c = λ marks file run is.
    let p = err_from_is_err_and c.from_residual.result c.from_residual.ensures.1 in
    let new = c.read_next.new.input in
    rw (p.1, p.2) (sealed_read_fails c.args.input.now new c.args.head.now marks file is.0 (is_failed new) c.in_err-next.field-0.0 c.read_next.ensures.grows is.1
    (c.in_err-next.ensures.fault (appended_bytes (came_of c.args.input.now) (came_of new) ++ is.0) is.0 refl is.2) run)

pub returns-then-head-clause-given : goal.returns-then-head-clause-given
returns-then-head-clause-given g c = λ marks run.
    let old = c.args.input.now in let new = c.read_next.new.input in
    let x = rw c.in-End.is at (c.in_ok-next.ensures.ok (appended_bytes (came_of old) (came_of new) ++ []) [] refl) in
    let none = sym (append-nil (appended_bytes (came_of old) (came_of new))) ∙ x.0 in
    (run_stays old new c.args.head.now marks c.read_next.new.bytes.items c.in_ok-next.ensures.came c.read_next.ensures.grows none run, x.2, c.if-head.true)

pub returns-in-End-clause-fault : goal.returns-in-End-clause-fault
returns-in-End-clause-fault g c = λ marks file run is.
    let old = c.args.input.now in let new = c.read_next.new.input in
    let x = rw c.in-End.is at (c.in_ok-next.ensures.ok (appended_bytes (came_of old) (came_of new) ++ []) [] refl) in
    let none = sym (append-nil (appended_bytes (came_of old) (came_of new))) ∙ x.0 in
    subst (λ (o : ℕ). Tells (FaultBehind marks) (IsRightBehind marks) file (is_failed new) (record { offset = o; kind = NoClose })) (sym c.taken-offset.ensures)
    (unclosed_fails old new c.args.head.now marks c.read_next.new.bytes.items file is.0 (is_failed new) c.in_ok-next.ensures.came c.read_next.ensures.grows none x.1 is.1 (is.2 x.2) c.if-head.false run)

pub returns-in-Other-clause-fault : goal.returns-in-Other-clause-fault
returns-in-Other-clause-fault g c = λ marks file run is.
    let old = c.args.input.now in let new = c.read_next.new.input in
    let left = appended_bytes (came_of old) (came_of new) ++ is.0 in
    let x = rw c.in-Other.is at (c.in_ok-next.ensures.ok left is.0 refl) in
    subst (λ (o : ℕ). Tells (FaultBehind marks) (IsRightBehind marks) file (is_failed new) (record { offset = o; kind = Entry })) (sym c.taken-offset.ensures)
    (sealed_other_fails old new c.args.head.now marks c.read_next.new.bytes.items file is.0 x.0 (is_failed new) c.in_ok-next.ensures.came c.read_next.ensures.grows is.1 x.1 x.2 run)

pub returns-in-Ok-clause-given : goal.returns-in-Ok-clause-given
returns-in-Ok-clause-given g c = λ marks run.
    let old = c.args.input.now in let new = c.read_next.new.input in
    let came = c.in_ok-next.ensures.came ∙ ap (λ (l : List ℕ). came_of old ++ l) (sym c.deref.ensures.value) in
    let takes : (after : List ℕ) → TakesSaid SaysThis (appended_bytes (came_of old) (came_of new) ++ after) after (taken_of old) (taken_of new) c.in-Record.record =
    λ after. rw c.in-Record.is at (c.in_ok-next.ensures.ok (appended_bytes (came_of old) (came_of new) ++ after) after refl) in
    rw (c.step_of.ensures, c.taken-offset.ensures) (given_step old new c.args.head.now c.take.new.self marks c.deref.result.now c.in-Record.record came c.read_next.ensures.grows takes
    c.in-Ok.ensures.stands.0 c.in-Ok.ensures.stands.1 c.in-Ok.ensures.label run)

pub returns-in-Err-clause-fault : goal.returns-in-Err-clause-fault
returns-in-Err-clause-fault g c = λ marks file run is.
    let old = c.args.input.now in let new = c.read_next.new.input in
    let came = c.in_ok-next.ensures.came ∙ ap (λ (l : List ℕ). came_of old ++ l) (sym c.deref.ensures.value) in
    let takes : (after : List ℕ) → TakesSaid SaysThis (appended_bytes (came_of old) (came_of new) ++ after) after (taken_of old) (taken_of new) c.in-Record.record =
    λ after. rw c.in-Record.is at (c.in_ok-next.ensures.ok (appended_bytes (came_of old) (came_of new) ++ after) after refl) in
    rw c.taken-offset.ensures (misplaced_fails old new c.args.head.now marks c.deref.result.now file is.0 c.in-Record.record c.in-Err.kind (is_failed new) came c.read_next.ensures.grows is.1 takes
    c.in-Err.ensures.stands run)
