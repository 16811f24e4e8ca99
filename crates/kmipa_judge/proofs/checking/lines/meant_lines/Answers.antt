use Rattle.std.proofs.Common.{string_bytes}
use Rattle.kmipa_record.specs.Declarations.{declaration_of}
use Rattle.kmipa_record.specs.Transcripts.{transcript_of}
use Rattle.kmipa_record.specs.Witnesses.{witness_of}
use Rattle.kmipa_beside.specs.Lines.{PrintsVerdict}
use Rattle.kmipa_judge.specs.Checks.{PrintsBehind}
use Rattle.kmipa_judge.proofs.CheckLemmas.{joined}
use Rattle.kmipa_judge.proofs.checking.lines.meant_lines.Goals as goal

pub returns : goal.returns
returns c =
    let read = c.args.read.now in
    let verdict = c.args.verdict.now in
    joined c.behind.result (PrintsVerdict verdict) (PrintsBehind (transcript_of read.records.transcript) (declaration_of read.records.declaration) (witness_of read.witness) verdict)
    c.in_ok-front.front (string_bytes c.in_ok-more.more) c.in_ok-front.ensures c.in_ok-more.ensures c.behind.ensures
