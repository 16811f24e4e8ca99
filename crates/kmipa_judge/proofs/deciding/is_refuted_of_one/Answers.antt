use Rattle.std.proofs.Common.{List, map, refl, subst}
use Rattle.kmipa_record.specs.Declarations.{DeclarationOf, declaration_of, nothing_declared}
use Rattle.kmipa_record.specs.Marks.{AreRecorded, mark_of}
use Rattle.kmipa_record.specs.Transcripts.{transcript_of}
use Rattle.kmipa_record.specs.declared.transcript.Mark.{Mark}
use Rattle.kmipa_findings.specs.Findings.{IsUnexplained}
use Rattle.kmipa_judge.specs.Clients.{AreOfOne}
use Rattle.kmipa_judge.specs.Unexplained.{of_one}
use Rattle.kmipa_judge.proofs.UnexplainedLemmas.{if_told}
use Rattle.kmipa_judge.proofs.deciding.is_refuted_of_one.Goals as goal

pub returns : goal.returns
returns g c = λ recorded.
    let marks = transcript_of c.args.transcript.now in
    let O : List Mark → Type 0 = λ l. AreRecorded (map mark_of l) → AreOfOne (map mark_of l) in
    let of = λ (r : AreRecorded (map mark_of c.deref.result.now)). (c.if-not-are_of_one.ensures r).0 refl in
    let U : DeclarationOf → Type 0 = λ d. IsUnexplained marks d in
    if_told c.is_refuted.result (λ never. of_one (subst O c.deref.ensures.value of recorded) (c.if-not-declares_nothing.ensures refl) (subst U c.seen_by_all-seen.ensures.is never))
    (c.is_refuted.ensures.told recorded)
