use Rattle.std.proofs.Common.{refl, sym, subst, Ok}
use Rattle.kmipa_record.specs.Declarations.{declaration_of}
use Rattle.kmipa_record.specs.Transcripts.{transcript_of}
use Rattle.kmipa_record.specs.Witnesses.{witness_of}
use Rattle.kmipa_segments.specs.SegmentSearches.{SearchesSegment}
use Rattle.kmipa_segments.specs.declared.segment_search.FoundSegment.{FoundSegment}
use Rattle.kmipa_segments.proofs.SegmentSearchLemmas.{goes_no_further, goes_on, stops}
use Rattle.kmipa_segments.proofs.segment_search.go_on.Goals as goal

pub returns-in-Err : goal.returns-in-Err
returns-in-Err c = λ seconds budget asked r forced found tallied.
    stops (transcript_of c.args.transcript.now) (declaration_of c.args.declaration.now) c.args.since (witness_of c.args.found.witness) r found.0 c.in-Err.fault (c.in-Err.ensures.checks r)

pub returns-in-Some : goal.returns-in-Some
returns-in-Some c = λ seconds budget asked r forced found tallied. (
  forced,
  goes_on (transcript_of c.args.transcript.now) (declaration_of c.args.declaration.now) c.args.since c.args.found.witness c.args.found.count seconds budget c.in-Ok.checked.verdict c.in-Ok.checked.left
      c.in-Some.left found (c.in-Ok.ensures.checks r) (c.in-Ok.ensures.leads r) c.in-Some.is,
  tallied,
)

pub returns-in-None : goal.returns-in-None
returns-in-None c = λ seconds budget asked r forced found tallied.
    let marks = transcript_of c.args.transcript.now in
    let declared = declaration_of c.args.declaration.now in
    let P : FoundSegment → Type 0 = λ s. SearchesSegment marks declared c.args.since seconds budget asked (Ok s) in
    subst P (sym c.unfound.ensures) (
      forced,
      goes_no_further marks declared c.args.since c.args.found.witness c.args.found.count seconds budget c.in-Ok.checked.verdict c.in-Ok.checked.left r found (c.in-Ok.ensures.checks r) (c.in-Ok.ensures.leads r) c.in-None.is,
      refl,
    )
