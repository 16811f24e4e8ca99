use Rattle.std.proofs.Common.{List, ℕ, [], ◌++◌, false, true, refl, sym, ap, subst, ◌∙◌}
use Rattle.std.specs.Io.{appended_bytes}
use Rattle.std.proofs.lemmas.List.{append-nil}
use Rattle.kmipa_ttlv.specs.Input.{came_of, taken_of}
use Rattle.kmipa_record.specs.Heads.{SaysThis}
use Rattle.kmipa_record.specs.Reading.{TakesSaid}
use Rattle.kmipa_record.specs.Torn.{GoesOn}
use Rattle.kmipa_record.specs.declared.torn.Step.{Step}
use Rattle.kmipa_record.specs.declared.torn.Torn.{Torn}
use Rattle.kmipa_record.proofs.TornLemmas.{sealed_on, torn_whole, torn_part, ends_so}
use Rattle.kmipa_record.proofs.torn.next_step.Goals as goal

pub returns-in-Ok-clause-goes : goal.returns-in-Ok-clause-goes
returns-in-Ok-clause-goes g c =
    let old = c.args.input.now in let new = c.read_next-next.new.input in
    let came = c.in-Ok-Record.ensures.came ∙ ap (λ (l : List ℕ). came_of old ++ l) (sym c.deref.ensures.value) in
    let takes : (after : List ℕ) → TakesSaid SaysThis (appended_bytes (came_of old) (came_of new) ++ after) after (taken_of old) (taken_of new) c.in-Ok-Record.record =
    λ after. rw c.in-Ok-Record.field-0-is at (c.in-Ok-Record.ensures.ok (appended_bytes (came_of old) (came_of new) ++ after) after refl) in
    sealed_on old new c.args.head.now c.take.new.self c.deref.result.now c.in-Ok-Record.record came takes c.in-Ok.ensures.stands.0 c.in-Ok.ensures.stands.1 c.in-Ok.ensures.label c.requires

pub returns-in-Ok-End-clause-goes : goal.returns-in-Ok-End-clause-goes
returns-in-Ok-End-clause-goes g c =
    let old = c.args.input.now in let new = c.read_next-next.new.input in
    let head = c.args.head.now in
    let x = rw c.in-Ok-End.field-0-is at (c.in-Ok-End.ensures.ok (appended_bytes (came_of old) (came_of new) ++ []) [] refl) in
    let none = sym (append-nil (appended_bytes (came_of old) (came_of new))) ∙ x.0 in
    let torn : Torn = record { length = c.taken-length.result; cut = false } in
    subst (λ (s : Step). GoesOn head new s) (sym c.end_of.ensures)
    (ends_so head new torn head.closed (λ e. torn_whole old new head c.read_next-next.new.bytes.items c.taken-length.result c.in-Ok-End.ensures.came none x.2 e c.taken-length.ensures c.requires))

pub returns-then-cut-clause-goes : goal.returns-then-cut-clause-goes
returns-then-cut-clause-goes g c =
    let old = c.args.input.now in let new = c.read_next-next.new.input in
    let head = c.args.head.now in
    let torn : Torn = record { length = c.taken-length.result; cut = true } in
    let cut = c.in_ok-cut-in-Err.ensures c.if-cut.true in
    subst (λ (s : Step). GoesOn head new s) (sym c.end_of-then-cut.ensures)
    (ends_so head new torn head.closed (λ e. torn_part old new head c.in-Err.fault c.taken-length.result c.read_next-next.ensures.grows cut
    (λ left after l end. c.in-Err.ensures.fault left after l end) e c.taken-length.ensures c.requires))
