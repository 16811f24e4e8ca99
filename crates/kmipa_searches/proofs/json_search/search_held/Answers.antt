use Rattle.std.proofs.Common.{Err, subst, sym}
use Rattle.kmipa_ttlv.specs.Input.{is_failed}
use Rattle.kmipa_ttlv.proofs.ReadLemmas.{whole_file}
use Rattle.kmipa_record.specs.Files.{Tells}
use Rattle.kmipa_record.specs.Transcripts.{IsTranscript, TranscriptFault, IsTranscriptUpTo, transcript_of}
use Rattle.kmipa_record.specs.Declarations.{DeclarationFault, IsDeclarationUpTo}
use Rattle.kmipa_check.proofs.AuditLemmas.{a_transcript}
use Rattle.kmipa_searches.proofs.SearchLemmas.{unsearched_files}
use Rattle.kmipa_telling.specs.FaultsTold.{by_fault}
use Rattle.kmipa_searches.specs.JsonSearches.{BothEnded, DecidesInputs}
use Rattle.kmipa_telling.specs.declared.meaning.FaultTold.{FaultTold}
use Rattle.kmipa_searches.specs.declared.judged.Judged.{Judged}
use Rattle.kmipa_telling.proofs.ExplainedJsonLemmas.{where_ended}
use Rattle.kmipa_searches.proofs.GivingUpLemmas.{bare_declaration, bare_transcript, decided_files, stop_of, stop_told}
use Rattle.kmipa_telling.proofs.JudgingLemmas.{err_told, ok_told}
use Rattle.kmipa_searches.proofs.json_search.search_held.Goals as goal

pub judge_records-requires : goal.judge_records-requires
judge_records-requires g c = (ok_told c.in_ok-read-2.read c.in-Ok-read.declared _ c.in-Ok-read.is c.in_ok-read-2.ensures.found).0.1

pub fault_told-requires-clause-recorded : goal.fault_told-requires-clause-recorded
fault_told-requires-clause-recorded g c = (ok_told c.in_ok-read.read c.in-Ok.marks _ c.in-Ok.is c.in_ok-read.ensures.found).0.0.recorded

pub fault_told-requires-clause-told : goal.fault_told-requires-clause-told
fault_told-requires-clause-told g c =
    let first = ok_told c.in_ok-read.read c.in-Ok.marks _ c.in-Ok.is c.in_ok-read.ensures.found in
    stop_of (transcript_of c.in-Ok.marks) c.in-Err-judge_records.fault (c.in-Err-judge_records.ensures first.0.0.recorded)

pub returns-in-Err-clause-decides : goal.returns-in-Err-clause-decides
returns-in-Err-clause-decides g c =
    let t = c.read_held.new.input in
    let d = c.args.declaration.now in
    let P : FaultTold → Type 0 = λ told. DecidesInputs t d (g.W.Watch.seconds c.args.watch.now) c.args.asked.budget c.args.asked.forced (Err told) in
    subst P (sym c.bare.ensures) (
      λ a b af bf.
          bare_transcript a b (is_failed t) (is_failed d) (g.W.Watch.seconds c.args.watch.now) c.args.asked.budget c.args.asked.forced c.in-Err.fault
          (err_told c.in_ok-read.read c.in-Err.fault (Tells TranscriptFault IsTranscriptUpTo a (is_failed t)) c.in-Err.is (c.in_ok-read.ensures.fault a af)),
      tt,
    )

pub returns-in-Err-read-clause-decides : goal.returns-in-Err-read-clause-decides
returns-in-Err-read-clause-decides g c =
    let first = ok_told c.in_ok-read.read c.in-Ok.marks _ c.in-Ok.is c.in_ok-read.ensures.found in
    let t = c.read_held.new.input in
    let d = c.read_held-2.new.input in
    let P : FaultTold → Type 0 = λ told. DecidesInputs t d (g.W.Watch.seconds c.args.watch.now) c.args.asked.budget c.args.asked.forced (Err told) in
    subst P (sym c.bare-in-Err-read.ensures) (
      λ a b af bf. bare_declaration a b (is_failed t) (is_failed d) (g.W.Watch.seconds c.args.watch.now) c.args.asked.budget c.args.asked.forced c.in-Err-read.fault (
        a_transcript t a c.in-Ok.marks af (first.0.0, first.1),
        err_told c.in_ok-read-2.read c.in-Err-read.fault (Tells DeclarationFault IsDeclarationUpTo b (is_failed d)) c.in-Err-read.is (c.in_ok-read-2.ensures.fault b bf),
      ),
      tt,
    )

pub returns-in-Ok-judge_records-clause-decides : goal.returns-in-Ok-judge_records-clause-decides
returns-in-Ok-judge_records-clause-decides g c =
    let first = ok_told c.in_ok-read.read c.in-Ok.marks _ c.in-Ok.is c.in_ok-read.ensures.found in
    let second = ok_told c.in_ok-read-2.read c.in-Ok-read.declared _ c.in-Ok-read.is c.in_ok-read-2.ensures.found in (
      λ a b af bf.
          decided_files c.read_held.new.input c.read_held-2.new.input a b c.in-Ok.marks c.in-Ok-read.declared c.in-Ok-judge_records.judged (g.W.Watch.seconds c.args.watch.now) c.args.asked.budget c.args.asked.forced af bf (first.0.0, first.1)
          (second.0.0, second.1) c.in-Ok-judge_records.ensures,
      (first.1, second.1),
    )

pub returns-in-Err-judge_records-clause-decides : goal.returns-in-Err-judge_records-clause-decides
returns-in-Err-judge_records-clause-decides g c =
    let t = c.read_held.new.input in
    let d = c.read_held-2.new.input in
    let marks = transcript_of c.in-Ok.marks in
    let first = ok_told c.in_ok-read.read c.in-Ok.marks _ c.in-Ok.is c.in_ok-read.ensures.found in
    let second = ok_told c.in_ok-read-2.read c.in-Ok-read.declared _ c.in-Ok-read.is c.in_ok-read-2.ensures.found in (
      λ a b af bf.
          stop_told a b (is_failed t) (is_failed d) (g.W.Watch.seconds c.args.watch.now) c.args.asked.budget c.args.asked.forced marks c.in-Err-judge_records.fault c.fault_told.result
          (unsearched_files t d a b c.in-Ok.marks c.in-Ok-read.declared c.in-Err-judge_records.fault (g.W.Watch.seconds c.args.watch.now) c.args.asked.budget c.args.asked.forced af bf (first.0.0, first.1) (second.0.0, second.1) c.in-Err-judge_records.ensures)
          (whole_file a t (λ bytes. IsTranscript bytes marks) first.1 af first.0.0)
          c.fault_told.ensures,
      where_ended {T = Judged} (by_fault (Err c.fault_told.result)) (BothEnded t d) (first.1, second.1),
    )

pub returns-in-Ok-judge_records-clause-known : goal.returns-in-Ok-judge_records-clause-known
returns-in-Ok-judge_records-clause-known g c = (ok_told c.in_ok-read.read c.in-Ok.marks _ c.in-Ok.is c.in_ok-read.ensures.found).0.1
