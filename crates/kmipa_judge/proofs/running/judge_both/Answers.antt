use Rattle.std.proofs.Common.{Option, Some, false, option_map, subst, sym}
use Rattle.kmipa_ttlv.specs.Input.{came_of, is_failed}
use Rattle.kmipa_json.specs.Told.{members_of}
use Rattle.kmipa_record.specs.Declarations.{AreDeclared, DeclarationFaultWithin, IsDeclarationUpToWithin, declaration_of}
use Rattle.kmipa_record.specs.Files.{Tells}
use Rattle.kmipa_record.specs.Transcripts.{IsTranscriptUpTo, TranscriptFault, transcript_of}
use Rattle.kmipa_record.specs.declared.head.Head.{Head}
use Rattle.kmipa_record.specs.declared.reach.Reach.TheVariants.{Aside}
use Rattle.kmipa_check.proofs.AuditLemmas.{a_transcript}
use Rattle.kmipa_check.specs.declared.auditing.AuditFault.TheVariants as audit
use Rattle.kmipa_runs.proofs.KnowingLemmas.{knows}
use Rattle.kmipa_runs.specs.Knowing.{Known}
use Rattle.kmipa_telling.proofs.JudgingLemmas.{err_told, ok_told}
use Rattle.kmipa_judge.specs.Runs.{judged}
use Rattle.kmipa_judge.proofs.FormLemmas.{held_none}
use Rattle.kmipa_judge.proofs.RunLemmas.{judging_may, records_opened, told_fault, unread_knows}
use Rattle.kmipa_judge.proofs.running.judge_both.Goals as goal

pub unread_both-requires-clause-declaration : goal.unread_both-requires-clause-declaration
unread_both-requires-clause-declaration g c =
    held_none c.args.form c.new-held.result.declaration.items c.args.declaration.now c.new-held.ensures.declaration c.requires.declaration

pub returns-in-Err-first-clause-told : goal.returns-in-Err-first-clause-told
returns-in-Err-first-clause-told g c =
    let t = c.read_recording.new.input in
    let run = c.unread_both.result in
    told_fault (g.W.Watch.seconds c.args.watch) c.args.form t (Some c.args.declaration.now) (audit.Transcript c.in-Err-first.fault) run.status run.lines.items run.witness.items
    run.declaration.items
    (λ a b af bf. err_told c.in-Ok.first c.in-Err-first.fault (Tells TranscriptFault IsTranscriptUpTo a (is_failed t)) c.in-Err-first.is (c.in-Ok.ensures.fault a af))
    c.unread_both.ensures.told c.unread_both.ensures.nothing

pub returns-in-Err-first-clause-known : goal.returns-in-Err-first-clause-known
returns-in-Err-first-clause-known g c =
    let t = c.read_recording.new.input in
    let run = c.unread_both.result in
    unread_knows c.args.form t (Some c.args.declaration.now) (audit.Transcript c.in-Err-first.fault) run.status run.lines.items (came_of t) run.head c.unread_both.ensures.told

pub returns-in-Err-second-clause-told : goal.returns-in-Err-second-clause-told
returns-in-Err-second-clause-told g c =
    let t = c.read_recording.new.input in
    let d = c.read_given.new.input in
    let fault = c.in-Err-second.fault in
    let unread = c.unread_both-in-Err-second in
    let run = unread.result in
    let first = ok_told c.in-Ok.first c.in-Ok-first.recording _ c.in-Ok-first.is c.in-Ok.ensures.found in
    told_fault (g.W.Watch.seconds c.args.watch) c.args.form t (Some d) (audit.Declaration fault) run.status run.lines.items run.witness.items run.declaration.items (
    λ a b af bf. (
      a_transcript t a c.in-Ok-first.recording af (first.0.0, first.1),
      err_told c.in-Ok-read_given.second fault (Tells (DeclarationFaultWithin Aside) (IsDeclarationUpToWithin Aside) b (is_failed d)) c.in-Err-second.is (c.in-Ok-read_given.ensures.fault b bf),
    )
    ) unread.ensures.told unread.ensures.nothing

pub returns-in-Err-second-clause-known : goal.returns-in-Err-second-clause-known
returns-in-Err-second-clause-known g c =
    let t = c.read_recording.new.input in
    let unread = c.unread_both-in-Err-second in
    let run = unread.result in
    unread_knows c.args.form t (Some c.read_given.new.input) (audit.Declaration c.in-Err-second.fault) run.status run.lines.items (came_of t) run.head unread.ensures.told

pub judge_records-requires : goal.judge_records-requires
judge_records-requires g c =
    let given = declaration_of c.in-Ok-second.given in
    let first = ok_told c.in-Ok.first c.in-Ok-first.recording _ c.in-Ok-first.is c.in-Ok.ensures.found in
    let second = ok_told c.in-Ok-read_given.second c.in-Ok-second.given _ c.in-Ok-second.is c.in-Ok-read_given.ensures.found in
    record { recorded = first.0.0.recorded; declared = subst AreDeclared (sym c.judging_by.ensures) (judging_may given second.0.1) }

pub returns-clause-told : goal.returns-clause-told
returns-clause-told g c =
    let t = c.read_recording.new.input in
    let d = c.read_given.new.input in
    let recording = c.in-Ok-first.recording in
    let given = c.in-Ok-second.given in
    let used = declaration_of c.judging_by.result in
    let run = c.judge_records.result in
    let first = ok_told c.in-Ok.first recording _ c.in-Ok-first.is c.in-Ok.ensures.found in
    let second = ok_told c.in-Ok-read_given.second given _ c.in-Ok-second.is c.in-Ok-read_given.ensures.found in
    judged (transcript_of recording) (record { transcript = first.0.0; ended = first.1 }) recording.head first.0.1 used
    (declaration_of given, second.0.0, second.1, c.judging_by.ensures)
    (records_opened (g.W.Watch.seconds c.args.watch) c.args.form recording.head t (Some d) (option_map members_of c.in-Ok-open_both.opened) false (transcript_of recording) used
    run.status run.lines.items run.witness.items run.declaration.items c.in-Ok-open_both.ensures (c.judge_records.ensures.told first.0.0.recorded))

pub returns-clause-known : goal.returns-clause-known
returns-clause-known g c =
    let bytes = came_of c.read_recording.new.input in
    let first = ok_told c.in-Ok.first c.in-Ok-first.recording _ c.in-Ok-first.is c.in-Ok.ensures.found in
    let P : Option Head → Type 0 = λ h. Known bytes h in
    knows bytes c.judge_records.result.status c.judge_records.result.head (subst P (sym c.judge_records.ensures.head) first.0.1)
