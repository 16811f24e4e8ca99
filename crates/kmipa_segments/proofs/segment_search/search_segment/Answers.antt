use Rattle.std.proofs.Common.{refl, sym, subst, Ok}
use Rattle.kmipa_record.specs.Declarations.{declaration_of}
use Rattle.kmipa_record.specs.Transcripts.{transcript_of}
use Rattle.kmipa_orders.specs.declared.found.Found.TheVariants.{Yes, GaveUp, Refuted, Impossible, OutOfTime}
use Rattle.kmipa_segments.specs.SegmentSearches.{SearchesSegment}
use Rattle.kmipa_segments.specs.declared.segment_search.FoundSegment.{FoundSegment}
use Rattle.kmipa_segments.proofs.SegmentSearchLemmas.{found_so, gives_up, never_explained, refutes, tallied_so}
use Rattle.kmipa_segments.proofs.segment_search.search_segment.Goals as goal

pub returns-in-Yes : goal.returns-in-Yes
returns-in-Yes g c = λ r.
    let marks = transcript_of c.args.transcript.now in
    let declared = declaration_of c.args.declaration.now in
    let searched = c.in-Ok.ensures r in
    c.go_on.ensures (g.W.Watch.seconds c.args.watch.now) c.args.asked.search.budget c.args.asked.search.forced r searched.0
    (found_so marks declared (g.W.Watch.seconds c.args.watch.now) c.args.asked.search.budget c.in-Ok.searched.found (Yes c.in-Yes.witness c.in-Yes.count) c.in-Yes.is searched.1)
    (tallied_so marks declared c.in-Ok.searched.found (Yes c.in-Yes.witness c.in-Yes.count) c.in-Ok.searched.tally c.in-Yes.is searched.2)

pub returns-in-GaveUp : goal.returns-in-GaveUp
returns-in-GaveUp g c = λ r.
    let marks = transcript_of c.args.transcript.now in
    let declared = declaration_of c.args.declaration.now in
    let searched = c.in-Ok.ensures r in
    let P : FoundSegment → Type 0 = λ s. SearchesSegment marks declared c.args.asked.segment.since (g.W.Watch.seconds c.args.watch.now) c.args.asked.search.budget c.args.asked.search.forced (Ok s) in
    subst P (sym c.unfound.ensures) (
      searched.0,
      gives_up marks declared c.args.asked.segment.since c.in-GaveUp.count (g.W.Watch.seconds c.args.watch.now) c.args.asked.search.budget r
          (found_so marks declared (g.W.Watch.seconds c.args.watch.now) c.args.asked.search.budget c.in-Ok.searched.found (GaveUp c.in-GaveUp.count) c.in-GaveUp.is searched.1),
      refl,
    )

pub returns-in-Refuted : goal.returns-in-Refuted
returns-in-Refuted g c = λ r.
    let marks = transcript_of c.args.transcript.now in
    let declared = declaration_of c.args.declaration.now in
    let searched = c.in-Ok.ensures r in
    let P : FoundSegment → Type 0 = λ s. SearchesSegment marks declared c.args.asked.segment.since (g.W.Watch.seconds c.args.watch.now) c.args.asked.search.budget c.args.asked.search.forced (Ok s) in
    subst P (sym c.unfound-in-Refuted.ensures) (
      searched.0,
      refutes marks declared c.args.asked.segment.since c.in-Refuted.count (g.W.Watch.seconds c.args.watch.now) c.args.asked.search.budget c.in-Refuted.objects
          (found_so marks declared (g.W.Watch.seconds c.args.watch.now) c.args.asked.search.budget c.in-Ok.searched.found (Refuted c.in-Refuted.count c.in-Refuted.objects) c.in-Refuted.is searched.1),
      refl,
    )

pub returns-in-Impossible : goal.returns-in-Impossible
returns-in-Impossible g c = λ r.
    let marks = transcript_of c.args.transcript.now in
    let declared = declaration_of c.args.declaration.now in
    let searched = c.in-Ok.ensures r in
    let P : FoundSegment → Type 0 = λ s. SearchesSegment marks declared c.args.asked.segment.since (g.W.Watch.seconds c.args.watch.now) c.args.asked.search.budget c.args.asked.search.forced (Ok s) in
    subst P (sym c.unfound-in-Impossible.ensures) (
      searched.0,
      never_explained marks declared c.args.asked.segment.since c.in-Impossible.count (g.W.Watch.seconds c.args.watch.now) c.args.asked.search.budget c.in-Impossible.call
          (found_so marks declared (g.W.Watch.seconds c.args.watch.now) c.args.asked.search.budget c.in-Ok.searched.found (Impossible c.in-Impossible.count c.in-Impossible.call) c.in-Impossible.is searched.1),
      refl,
    )

pub returns-in-OutOfTime : goal.returns-in-OutOfTime
returns-in-OutOfTime g c = λ r.
    let marks = transcript_of c.args.transcript.now in
    let declared = declaration_of c.args.declaration.now in
    let searched = c.in-Ok.ensures r in
    let P : FoundSegment → Type 0 = λ s. SearchesSegment marks declared c.args.asked.segment.since (g.W.Watch.seconds c.args.watch.now) c.args.asked.search.budget c.args.asked.search.forced (Ok s) in
    subst P (sym c.unfound-in-OutOfTime.ensures) (
      searched.0,
      found_so marks declared (g.W.Watch.seconds c.args.watch.now) c.args.asked.search.budget c.in-Ok.searched.found (OutOfTime c.in-OutOfTime.count c.in-OutOfTime.after) c.in-OutOfTime.is searched.1,
      refl,
    )
