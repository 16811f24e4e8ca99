use Rattle.std.proofs.Common.{◌-◌, length}
use Rattle.kmipa_json.specs.Told.{items_of}
use Rattle.kmipa_record.specs.Declarations.{declaration_of}
use Rattle.kmipa_record.specs.Transcripts.{transcript_of}
use Rattle.kmipa_judge.specs.Parts.{IsMeaning}
use Rattle.kmipa_judge.proofs.ObjectLemmas.{AreFoundSoFar}
use Rattle.kmipa_judge.proofs.found_object.finding_list.Given as goal

-- the findings up to here stand in the list
abbrev pub invariant-findings : goal.invariant-findings
invariant-findings l = AreFoundSoFar (IsMeaning (transcript_of l.meanings.records.now.transcript) (declaration_of l.meanings.records.now.declaration) l.meanings.outcome.now)
    l.findings l.count (items_of l.list)

abbrev pub decreases-findings : goal.decreases-findings
decreases-findings l = length l.findings - l.count
