use Rattle.std.proofs.Common.{Result, subst}
use Rattle.std.specs.Prelude.{IfOk}
use Rattle.kmipa_ttlv.specs.Input.{came_of, is_failed}
use Rattle.kmipa_ttlv.proofs.ReadLemmas.{itself}
use Rattle.kmipa_record.specs.TranscriptReading.{IsKnownBy}
use Rattle.kmipa_record.specs.Witnesses.{witness_of}
use Rattle.kmipa_check.specs.declared.fault.CheckFault.{CheckFault}
use Rattle.kmipa_stream.specs.Standing.{Judges, stamped_alone}
use Rattle.kmipa_stream.specs.declared.counts.Counts.{Counts}
use Rattle.kmipa_stream.specs.declared.judged.Judged.{Judged}
use Rattle.kmipa_stream.proofs.StreamLemmas.{a_declaration, these_records, judged_so, unjudged_so, accepted_so, dated_so, counted_so, tallied_so}
use Rattle.kmipa_stream.proofs.auditing.audit_opened.Goals as goal

pub returns-in-Err-clause-audits : goal.returns-in-Err-clause-audits
returns-in-Err-clause-audits g c = λ t d w tf df wf.
    c.witness_fault.ensures t d w (is_failed c.args.declaration.now) (is_failed c.read_witness.new.input) tf
    (a_declaration c.args.declaration.now d c.requires.taken.declared df (c.requires.taken.found, c.requires.ended)) (c.in-Err.ensures.fault w wf)

pub returns-in-Ok-Ok-clause-audits : goal.returns-in-Ok-Ok-clause-audits
returns-in-Ok-Ok-clause-audits g c = λ t d w tf df wf.
    let taken = c.requires.taken in
    let declared = taken.declared in
    let j = c.in-Ok-Ok.ensures.judged declared taken.named taken.held in
    let turns = witness_of c.in-Ok.witness in
    let P : Result Judged CheckFault → Type 0 = λ x. Judges j.marks declared turns (stamped_alone x) in
    let told = subst P c.in-Ok-Ok.field-0-is j.judged in
    judged_so t d w j.marks declared turns c.in-Ok-Ok.judged.verdict
    (these_records c.judge.new.transcript c.args.declaration.now c.read_witness.new.input t d w j.marks declared turns tf df wf j.transcript j.ended (taken.found, c.requires.ended) c.in-Ok.ensures.found) told.0

pub returns-in-Ok-Ok-clause-accepted : goal.returns-in-Ok-Ok-clause-accepted
returns-in-Ok-Ok-clause-accepted g c = λ yes.
    let ti = c.judge.new.transcript in
    let di = c.args.declaration.now in
    let wi = c.read_witness.new.input in
    let taken = c.requires.taken in
    let declared = taken.declared in
    let j = c.in-Ok-Ok.ensures.judged declared taken.named taken.held in
    let turns = witness_of c.in-Ok.witness in
    let P : Result Judged CheckFault → Type 0 = λ x. Judges j.marks declared turns (stamped_alone x) in
    let told = subst P c.in-Ok-Ok.field-0-is j.judged in
    accepted_so (came_of ti) (came_of di) (came_of wi) j.marks declared turns c.in-Ok-Ok.judged.verdict yes
    (these_records ti di wi (came_of ti) (came_of di) (came_of wi) j.marks declared turns (itself ti) (itself di) (itself wi) j.transcript j.ended (taken.found, c.requires.ended) c.in-Ok.ensures.found) told.0

pub returns-in-Ok-Ok-clause-dated : goal.returns-in-Ok-Ok-clause-dated
returns-in-Ok-Ok-clause-dated g c =
    let ti = c.judge.new.transcript in
    let di = c.args.declaration.now in
    let wi = c.read_witness.new.input in
    let taken = c.requires.taken in
    let declared = taken.declared in
    let j = c.in-Ok-Ok.ensures.judged declared taken.named taken.held in
    let turns = witness_of c.in-Ok.witness in
    let P : Result Judged CheckFault → Type 0 = λ x. Judges j.marks declared turns (stamped_alone x) in
    let told = subst P c.in-Ok-Ok.field-0-is j.judged in
    dated_so (came_of ti) (came_of di) (came_of wi) j.marks declared turns c.in-Ok-Ok.judged.verdict c.in-Ok-Ok.judged.stamp
    (these_records ti di wi (came_of ti) (came_of di) (came_of wi) j.marks declared turns (itself ti) (itself di) (itself wi) j.transcript j.ended (taken.found, c.requires.ended) c.in-Ok.ensures.found) told.1

-- what is counted
abbrev counts_in : Judged → Counts
counts_in judged = record { items = judged.items; tally = judged.tally }

pub returns-in-Ok-Ok-clause-counted : goal.returns-in-Ok-Ok-clause-counted
returns-in-Ok-Ok-clause-counted g c = λ yes.
    let ti = c.judge.new.transcript in
    let di = c.args.declaration.now in
    let wi = c.read_witness.new.input in
    let taken = c.requires.taken in
    let declared = taken.declared in
    let j = c.in-Ok-Ok.ensures.judged declared taken.named taken.held in
    let turns = witness_of c.in-Ok.witness in
    let P : Result Judged CheckFault → Type 0 = λ x. Judges j.marks declared turns (stamped_alone x) in
    let told = subst P c.in-Ok-Ok.field-0-is j.judged in
    counted_so (came_of ti) (came_of di) (came_of wi) j.marks declared turns c.in-Ok-Ok.judged.verdict (counts_in c.in-Ok-Ok.judged) yes
    (these_records ti di wi (came_of ti) (came_of di) (came_of wi) j.marks declared turns (itself ti) (itself di) (itself wi) j.transcript j.ended (taken.found, c.requires.ended) c.in-Ok.ensures.found) told.2

pub returns-in-Ok-Ok-clause-tallied : goal.returns-in-Ok-Ok-clause-tallied
returns-in-Ok-Ok-clause-tallied g c = λ yes.
    let ti = c.judge.new.transcript in
    let di = c.args.declaration.now in
    let wi = c.read_witness.new.input in
    let taken = c.requires.taken in
    let declared = taken.declared in
    let j = c.in-Ok-Ok.ensures.judged declared taken.named taken.held in
    let turns = witness_of c.in-Ok.witness in
    let P : Result Judged CheckFault → Type 0 = λ x. Judges j.marks declared turns (stamped_alone x) in
    let told = subst P c.in-Ok-Ok.field-0-is j.judged in
    tallied_so (came_of ti) (came_of di) (came_of wi) j.marks declared turns c.in-Ok-Ok.judged.verdict (counts_in c.in-Ok-Ok.judged) yes
    (these_records ti di wi (came_of ti) (came_of di) (came_of wi) j.marks declared turns (itself ti) (itself di) (itself wi) j.transcript j.ended (taken.found, c.requires.ended) c.in-Ok.ensures.found) told.2

pub returns-in-Ok-Ok-clause-ended : goal.returns-in-Ok-Ok-clause-ended
returns-in-Ok-Ok-clause-ended g c =
    let taken = c.requires.taken in
    let j = c.in-Ok-Ok.ensures.judged taken.declared taken.named taken.held in
    (j.ended, c.in-Ok.ensures.found.1)

pub returns-in-Ok-Err-clause-audits : goal.returns-in-Ok-Err-clause-audits
returns-in-Ok-Err-clause-audits g c = λ t d w tf df wf.
    let taken = c.requires.taken in
    let declared = taken.declared in
    let j = c.in-Ok-Err.ensures.judged declared taken.named taken.held in
    let turns = witness_of c.in-Ok.witness in
    let P : Result Judged CheckFault → Type 0 = λ x. Judges j.marks declared turns (stamped_alone x) in
    let told = subst P c.in-Ok-Err.field-0-is j.judged in
    unjudged_so t d w j.marks declared turns c.in-Ok-Err.fault
    (these_records c.judge.new.transcript c.args.declaration.now c.read_witness.new.input t d w j.marks declared turns tf df wf j.transcript j.ended (taken.found, c.requires.ended) c.in-Ok.ensures.found) told

pub returns-in-Err-judge-clause-audits : goal.returns-in-Err-judge-clause-audits
returns-in-Err-judge-clause-audits g c = λ t d w tf df wf. c.in-Err-judge.ensures.fault t tf

pub returns-in-Ok-Ok-clause-known : goal.returns-in-Ok-Ok-clause-known
returns-in-Ok-Ok-clause-known g c =
    let taken = c.requires.taken in
    let j = c.in-Ok-Ok.ensures.judged taken.declared taken.named taken.held in
    let bytes = came_of c.judge.new.transcript in
    let P : Result Judged CheckFault → Type 0 = λ x. IfOk x (λ judged. IsKnownBy bytes j.marks judged.head) in
    (j.marks, subst P c.in-Ok-Ok.field-0-is j.known)
