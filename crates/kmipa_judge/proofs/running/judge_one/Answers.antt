use Rattle.std.proofs.Common.{Option, None, true, option_map, subst, sym}
use Rattle.kmipa_ttlv.specs.Input.{came_of, is_failed}
use Rattle.kmipa_json.specs.Told.{members_of}
use Rattle.kmipa_record.specs.Declarations.{AreDeclared, declaration_of}
use Rattle.kmipa_record.specs.Files.{Tells}
use Rattle.kmipa_record.specs.Transcripts.{IsTranscriptUpTo, TranscriptFault, transcript_of}
use Rattle.kmipa_record.specs.declared.head.Head.{Head}
use Rattle.kmipa_check.specs.declared.auditing.AuditFault.TheVariants as audit
use Rattle.kmipa_runs.proofs.KnowingLemmas.{knows}
use Rattle.kmipa_runs.specs.Knowing.{Known}
use Rattle.kmipa_telling.proofs.JudgingLemmas.{err_told, ok_told}
use Rattle.kmipa_judge.specs.Runs.{judged}
use Rattle.kmipa_judge.proofs.RunLemmas.{nothing_may, records_opened, told_fault, unread_knows}
use Rattle.kmipa_judge.proofs.running.judge_one.Goals as goal

pub returns-in-Err-first-clause-told : goal.returns-in-Err-first-clause-told
returns-in-Err-first-clause-told g c =
    let t = c.read_recording.new.input in
    let run = c.unread_one.result in
    told_fault (g.W.Watch.seconds c.args.watch) c.args.form t None (audit.Transcript c.in-Err-first.fault) run.status run.lines.items run.witness.items run.declaration.items
    (λ a af. err_told c.in-Ok.first c.in-Err-first.fault (Tells TranscriptFault IsTranscriptUpTo a (is_failed t)) c.in-Err-first.is (c.in-Ok.ensures.fault a af))
    c.unread_one.ensures.told c.unread_one.ensures.nothing

pub returns-in-Err-first-clause-known : goal.returns-in-Err-first-clause-known
returns-in-Err-first-clause-known g c =
    let t = c.read_recording.new.input in
    let run = c.unread_one.result in
    unread_knows c.args.form t None (audit.Transcript c.in-Err-first.fault) run.status run.lines.items (came_of t) run.head c.unread_one.ensures.told

pub judge_records-requires : goal.judge_records-requires
judge_records-requires g c =
    let first = ok_told c.in-Ok.first c.in-Ok-first.recording _ c.in-Ok-first.is c.in-Ok.ensures.found in
    record { recorded = first.0.0.recorded; declared = subst AreDeclared (sym c.nothing_known.ensures) (nothing_may c.assumed_visibility-visibility.result) }

pub returns-clause-told : goal.returns-clause-told
returns-clause-told g c =
    let t = c.read_recording.new.input in
    let recording = c.in-Ok-first.recording in
    let used = declaration_of c.nothing_known.result in
    let run = c.judge_records.result in
    let first = ok_told c.in-Ok.first recording _ c.in-Ok-first.is c.in-Ok.ensures.found in
    judged (transcript_of recording) (record { transcript = first.0.0; ended = first.1 }) recording.head first.0.1 used (c.assumed_visibility-visibility.result, c.nothing_known.ensures)
    (records_opened (g.W.Watch.seconds c.args.watch) c.args.form recording.head t None (option_map members_of c.in-Ok-open_one.opened) true (transcript_of recording) used
    run.status run.lines.items run.witness.items run.declaration.items c.in-Ok-open_one.ensures (c.judge_records.ensures.told first.0.0.recorded))

pub returns-clause-known : goal.returns-clause-known
returns-clause-known g c =
    let bytes = came_of c.read_recording.new.input in
    let first = ok_told c.in-Ok.first c.in-Ok-first.recording _ c.in-Ok-first.is c.in-Ok.ensures.found in
    let P : Option Head → Type 0 = λ h. Known bytes h in
    knows bytes c.judge_records.result.status c.judge_records.result.head (subst P (sym c.judge_records.ensures.head) first.0.1)
