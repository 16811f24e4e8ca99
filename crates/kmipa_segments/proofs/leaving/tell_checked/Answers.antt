use Rattle.std.proofs.Common.{◌∙◌}
use Rattle.std.specs.Io.{appended_bytes}
use Rattle.kmipa_record.specs.Declarations.{declaration_of}
use Rattle.kmipa_record.specs.Transcripts.{transcript_of}
use Rattle.kmipa_record.specs.Witnesses.{witness_of}
use Rattle.kmipa_segments.proofs.LeavingLemmas.{some_told}
use Rattle.kmipa_segments.proofs.leaving.tell_checked.Goals as goal

pub returns-in-Ok-clause-tells : goal.returns-in-Ok-clause-tells
returns-in-Ok-clause-tells c =
    let segment = c.args.segment.now in
    let told = c.in-Ok.ensures in
    some_told (transcript_of segment.records.transcript) (declaration_of segment.records.declaration) (witness_of segment.records.witness) segment.checked.verdict segment.checked.left c.in-Some.left told.0 c.as_str.result.now
    c.tell_left.result (appended_bytes c.args.out.now.items c.tell_left.new.out.items) (appended_bytes c.args.made.now.items c.tell_left.new.made.items)
    c.in-Some.is told.1 (c.as_str.ensures.value ∙ told.2) c.tell_left.ensures.tells
