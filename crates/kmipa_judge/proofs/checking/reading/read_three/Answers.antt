use Rattle.kmipa_ttlv.specs.Input.{is_failed}
use Rattle.kmipa_record.specs.Declarations.{DeclarationFaultWithin, IsDeclarationUpToWithin}
use Rattle.kmipa_record.specs.Files.{Tells}
use Rattle.kmipa_record.specs.Transcripts.{TranscriptFault, IsTranscriptUpTo}
use Rattle.kmipa_record.specs.Witnesses.{WitnessFault, IsWitnessUpTo}
use Rattle.kmipa_record.specs.declared.reach.Reach.TheVariants.{Aside}
use Rattle.kmipa_telling.proofs.JudgingLemmas.{err_told, ok_told}
use Rattle.kmipa_judge.proofs.CheckLemmas.{a_transcript, a_declaration}
use Rattle.kmipa_judge.proofs.checking.reading.read_three.Goals as goal

pub returns-in-Err-clause-fault : goal.returns-in-Err-clause-fault
returns-in-Err-clause-fault g c = λ a b e af bf ef.
    err_told c.in_ok-read.read c.in-Err.fault (Tells TranscriptFault IsTranscriptUpTo a (is_failed c.read_recording.new.input)) c.in-Err.is (c.in_ok-read.ensures.fault a af)

pub returns-in-Err-read-clause-fault : goal.returns-in-Err-read-clause-fault
returns-in-Err-read-clause-fault g c = λ a b e af bf ef.
    let first = ok_told c.in_ok-read.read c.in-Ok.first _ c.in-Ok.is c.in_ok-read.ensures.found in (
      a_transcript c.read_recording.new.input a c.in-Ok.first af first,
      err_told c.in_ok-read-2.read c.in-Err-read.fault (Tells (DeclarationFaultWithin Aside) (IsDeclarationUpToWithin Aside) b (is_failed c.read_given.new.input)) c.in-Err-read.is (c.in_ok-read-2.ensures.fault b bf),
    )

pub returns-in-Err-read-2-clause-fault : goal.returns-in-Err-read-2-clause-fault
returns-in-Err-read-2-clause-fault g c = λ a b e af bf ef.
    let first = ok_told c.in_ok-read.read c.in-Ok.first _ c.in-Ok.is c.in_ok-read.ensures.found in
    let second = ok_told c.in_ok-read-2.read c.in-Ok-read.second _ c.in-Ok-read.is c.in_ok-read-2.ensures.found in (
      a_transcript c.read_recording.new.input a c.in-Ok.first af first,
      a_declaration c.read_given.new.input b c.in-Ok-read.second bf second,
      err_told c.in_ok-read-3.read c.in-Err-read-2.fault (Tells WitnessFault IsWitnessUpTo e (is_failed c.read_turns.new.input)) c.in-Err-read-2.is (c.in_ok-read-3.ensures.fault e ef),
    )

pub returns-in-Ok-read-2-clause-found : goal.returns-in-Ok-read-2-clause-found
returns-in-Ok-read-2-clause-found g c =
    let first = ok_told c.in_ok-read.read c.in-Ok.first _ c.in-Ok.is c.in_ok-read.ensures.found in
    let second = ok_told c.in_ok-read-2.read c.in-Ok-read.second _ c.in-Ok-read.is c.in_ok-read-2.ensures.found in
    let third = ok_told c.in_ok-read-3.read c.in-Ok-read-2.third _ c.in-Ok-read-2.is c.in_ok-read-3.ensures.found in
    record {
      transcript = first.0.0;
      known = first.0.1;
      declaration = second.0.0;
      declared = second.0.1;
      witness = third.0;
      ended = (first.1, second.1, third.1);
    }
