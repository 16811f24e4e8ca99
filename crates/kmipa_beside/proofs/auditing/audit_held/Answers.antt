use Rattle.std.proofs.Common.{Ok, Err}
use Rattle.kmipa_ttlv.specs.Input.{came_of}
use Rattle.kmipa_record.specs.Transcripts.{transcript_of}
use Rattle.kmipa_record.specs.Witnesses.{witness_of}
use Rattle.kmipa_stream.proofs.StreamLemmas.{a_transcript}
use Rattle.kmipa_beside.specs.Audits.{HidesAlone, SetsAside}
use Rattle.kmipa_beside.proofs.AuditLemmas.{hides_alone, judged_beside, judged_in_sight, sets_aside, these, under_aside, under_refused, unjudged_beside, unjudged_in_sight}
use Rattle.kmipa_beside.proofs.auditing.audit_held.Goals as goal

pub returns-in-Err-clause-beside : goal.returns-in-Err-clause-beside
returns-in-Err-clause-beside g c = λ aside t d w tf df wf. c.in-Err.ensures.fault t tf

pub returns-in-Err-clause-in_sight : goal.returns-in-Err-clause-in_sight
returns-in-Err-clause-in_sight g c = λ alone hides t d w tf df wf. c.in-Err.ensures.fault t tf

pub returns-in-Err-read_witness-clause-beside : goal.returns-in-Err-read_witness-clause-beside
returns-in-Err-read_witness-clause-beside g c = λ aside t d w tf df wf. (
  a_transcript c.read_transcript.new.input t (transcript_of c.in-Ok.transcript) tf c.in-Ok.ensures.found.0 c.in-Ok.ensures.found.1,
  c.in-Err-read_witness.ensures.fault w wf,
)

pub returns-in-Err-read_witness-clause-in_sight : goal.returns-in-Err-read_witness-clause-in_sight
returns-in-Err-read_witness-clause-in_sight g c = λ alone hides t d w tf df wf. (
  a_transcript c.read_transcript.new.input t (transcript_of c.in-Ok.transcript) tf c.in-Ok.ensures.found.0 c.in-Ok.ensures.found.1,
  c.in-Err-read_witness.ensures.fault w wf,
)

pub returns-in-Ok-check_declared-clause-beside : goal.returns-in-Ok-check_declared-clause-beside
returns-in-Ok-check_declared-clause-beside g c = λ aside t d w tf df wf.
    let ti = c.read_transcript.new.input in
    let di = c.args.declaration.now in
    let wi = c.read_witness.new.input in
    let taken = c.requires.taken in
    let marks = transcript_of c.in-Ok.transcript in
    let turns = witness_of c.in-Ok-read_witness.witness in
    let sets = sets_aside (came_of di) c.args.declared.settings c.args.declared.opening taken aside in
    let all = these SetsAside ti di wi t d w marks taken.declared turns tf df wf c.in-Ok.ensures.found.0 c.in-Ok.ensures.found.1 sets c.requires.ended c.in-Ok-read_witness.ensures.found.0 c.in-Ok-read_witness.ensures.found.1 in
    judged_beside t d w marks taken.declared turns c.in-Ok-check_declared.verdict all (under_aside taken.declared.settings.unjudged marks taken.declared turns (Ok c.in-Ok-check_declared.verdict) sets.aside (c.in-Ok-check_declared.ensures taken.declared taken.named taken.held c.in-Ok.ensures.recorded))

pub returns-in-Err-check_declared-clause-beside : goal.returns-in-Err-check_declared-clause-beside
returns-in-Err-check_declared-clause-beside g c = λ aside t d w tf df wf.
    let ti = c.read_transcript.new.input in
    let di = c.args.declaration.now in
    let wi = c.read_witness.new.input in
    let taken = c.requires.taken in
    let marks = transcript_of c.in-Ok.transcript in
    let turns = witness_of c.in-Ok-read_witness.witness in
    let sets = sets_aside (came_of di) c.args.declared.settings c.args.declared.opening taken aside in
    let all = these SetsAside ti di wi t d w marks taken.declared turns tf df wf c.in-Ok.ensures.found.0 c.in-Ok.ensures.found.1 sets c.requires.ended c.in-Ok-read_witness.ensures.found.0 c.in-Ok-read_witness.ensures.found.1 in
    let told = under_aside taken.declared.settings.unjudged marks taken.declared turns (Err c.in-Err-check_declared.fault) sets.aside (c.in-Err-check_declared.ensures taken.declared taken.named taken.held c.in-Ok.ensures.recorded) in
    (told.0, told.1, unjudged_beside t d w marks taken.declared turns told.0 all told.2)

pub returns-in-Ok-check_declared-clause-in_sight : goal.returns-in-Ok-check_declared-clause-in_sight
returns-in-Ok-check_declared-clause-in_sight g c = λ alone hides t d w tf df wf.
    let ti = c.read_transcript.new.input in
    let di = c.args.declaration.now in
    let wi = c.read_witness.new.input in
    let taken = c.requires.taken in
    let marks = transcript_of c.in-Ok.transcript in
    let turns = witness_of c.in-Ok-read_witness.witness in
    let sets = hides_alone (came_of di) c.args.declared.settings c.args.declared.opening taken alone hides in
    let all = these HidesAlone ti di wi t d w marks taken.declared turns tf df wf c.in-Ok.ensures.found.0 c.in-Ok.ensures.found.1 sets c.requires.ended c.in-Ok-read_witness.ensures.found.0 c.in-Ok-read_witness.ensures.found.1 in
    judged_in_sight t d w marks taken.declared turns c.in-Ok-check_declared.verdict all (under_refused taken.declared.settings.unjudged marks taken.declared turns (Ok c.in-Ok-check_declared.verdict) sets.aside (c.in-Ok-check_declared.ensures taken.declared taken.named taken.held c.in-Ok.ensures.recorded))

pub returns-in-Err-check_declared-clause-in_sight : goal.returns-in-Err-check_declared-clause-in_sight
returns-in-Err-check_declared-clause-in_sight g c = λ alone hides t d w tf df wf.
    let ti = c.read_transcript.new.input in
    let di = c.args.declaration.now in
    let wi = c.read_witness.new.input in
    let taken = c.requires.taken in
    let marks = transcript_of c.in-Ok.transcript in
    let turns = witness_of c.in-Ok-read_witness.witness in
    let sets = hides_alone (came_of di) c.args.declared.settings c.args.declared.opening taken alone hides in
    let all = these HidesAlone ti di wi t d w marks taken.declared turns tf df wf c.in-Ok.ensures.found.0 c.in-Ok.ensures.found.1 sets c.requires.ended c.in-Ok-read_witness.ensures.found.0 c.in-Ok-read_witness.ensures.found.1 in
    unjudged_in_sight t d w marks taken.declared turns c.in-Err-check_declared.fault all (under_refused taken.declared.settings.unjudged marks taken.declared turns (Err c.in-Err-check_declared.fault) sets.aside (c.in-Err-check_declared.ensures taken.declared taken.named taken.held c.in-Ok.ensures.recorded))
