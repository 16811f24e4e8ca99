use Rattle.std.proofs.Common.{Option, rules, subst}
use Rattle.kmipa_ttlv.specs.Input.{came_of}
use Rattle.kmipa_record.specs.TranscriptReading.{IsKnownBy}
use Rattle.kmipa_record.specs.Transcripts.{transcript_of}
use Rattle.kmipa_record.specs.declared.head.Head.{Head}
use Rattle.kmipa_check.proofs.AuditLemmas.{a_transcript}
use Rattle.kmipa_check.specs.declared.auditing.AuditFault.TheVariants as audit
use Rattle.kmipa_beside.proofs.StatusLemmas.{never_done}
use Rattle.kmipa_runs.proofs.KnowingLemmas.{knows}
use Rattle.kmipa_judge.specs.Searches.{unread}
use Rattle.kmipa_judge.proofs.FoundLemmas.{any_files}
use Rattle.kmipa_judge.proofs.seeking.search_both.Goals as goal

pub returns-in-Err-read_declaration_within-clause-told : goal.returns-in-Err-read_declaration_within-clause-told
returns-in-Err-read_declaration_within-clause-told g c =
    let run = c.unread-in-Err-read_declaration_within.result in
    let told = c.unread-in-Err-read_declaration_within.ensures in
    let fault = audit.Declaration c.in-Err-read_declaration_within.fault in
    unread (record {
      fault = fault;
      fails = λ a b af bf. (a_transcript c.read_transcript.new.input a c.in-Ok.recording af c.in-Ok.ensures.found, c.in-Err-read_declaration_within.ensures.fault b bf);
      prints = told.prints;
      unaccepted = λ done. never_done fault run.status run.lines.items told.prints done;
    }) told.nothing

pub returns-clause-told : goal.returns-clause-told
returns-clause-told g c =
    let run = c.search_any-run.result in
    any_files (g.W.Watch.seconds c.args.watch.now) c.args.words.budget c.args.words.forced c.read_transcript.new.input c.read_declaration_within.new.input c.in-Ok.recording
    c.in-Ok-read_declaration_within.given run.status run.lines.items run.witness.items c.in-Ok.ensures.found c.in-Ok-read_declaration_within.ensures.found
    (c.search_any-run.ensures c.in-Ok.ensures.found.0.recorded)

pub returns-clause-known : goal.returns-clause-known
returns-clause-known g c =
    let marks = transcript_of c.in-Ok.recording in
    let P : Option Head → Type 0 = λ h. IsKnownBy (came_of c.read_transcript.new.input) marks h in
    knows (came_of c.read_transcript.new.input) c.search_any-run.result.status c.take-head.result (marks, subst P (search rules) c.in-Ok.ensures.known)
