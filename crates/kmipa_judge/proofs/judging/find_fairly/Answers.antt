use Rattle.std.proofs.Common.{Bool, List, map, subst}
use Rattle.kmipa_record.specs.Declarations.{declaration_of}
use Rattle.kmipa_record.specs.Marks.{AreRecorded, mark_of}
use Rattle.kmipa_record.specs.Transcripts.{transcript_of}
use Rattle.kmipa_record.specs.declared.transcript.Mark.{Mark}
use Rattle.kmipa_judge.specs.Declaring.{is_presumed}
use Rattle.kmipa_judge.specs.Opinions.{Counts}
use Rattle.kmipa_judge.proofs.judging.find_fairly.Goals as goal

pub returns-clause-told : goal.returns-clause-told
returns-clause-told g c = λ recorded.
    let records = c.args.records.now in
    c.fair.ensures.judges (g.W.Watch.seconds c.args.paced.now.watch) (transcript_of records.transcript) (declaration_of records.declaration) (c.in_ok-outcome.ensures.told recorded)

pub returns-clause-fair : goal.returns-clause-fair
returns-clause-fair g c = λ recorded.
    let records = c.args.records.now in
    let presumed = is_presumed records.assumed records.declaration.settings.visibility in
    let C : List Mark → Type 0 = λ l. AreRecorded (map mark_of l) → Counts c.is_presumed-presumed.result (map mark_of l) c.counts_for-counts.result in
    let D : Bool → Type 0 = λ b. Counts b (transcript_of records.transcript) c.counts_for-counts.result in
    c.fair.ensures.fair presumed (transcript_of records.transcript) (subst D c.is_presumed-presumed.ensures (subst C c.deref.ensures.value c.counts_for-counts.ensures recorded))
