use Rattle.std.proofs.Common.{List, map, sym, subst}
use Rattle.std.proofs.lemmas.Result.{err_from_is_err_and, IfErr-weaker}
use Rattle.kmipa_ttlv.specs.Tree.{Tree}
use Rattle.kmipa_ttlv.specs.Written.{Legal}
use Rattle.kmipa_record.specs.Marks.{mark_of, mark_item}
use Rattle.kmipa_record.specs.Transcripts.{transcript_header}
use Rattle.kmipa_record.specs.Writing.{Adds, AddsAll}
use Rattle.kmipa_record.proofs.WritingLemmas.{adds_behind, behind_starts, starts_on, refused_map, on_ok_map, mapped_twice}
use Rattle.kmipa_record.proofs.WrittenTranscriptLemmas.{header_legal, legal_all}
use Rattle.kmipa_record.proofs.transcript_writing.put_transcript.Goals as goal

pub returns-in_err-append-clause-refused : goal.returns-in_err-append-clause-refused
returns-in_err-append-clause-refused c =
    let p = err_from_is_err_and c.from_residual-in_err-append.result c.from_residual-in_err-append.ensures.1 in
    rw (p.1, p.2) (refused_map c.in_err-append.field-0.0 (λ able. subst (Legal 16) (sym c.in_ok-write_transcript_header.ensures) header_legal) c.in_err-append.ensures.err)

pub returns-clause-put : goal.returns-clause-put
returns-clause-put c =
    let marks = c.args.marks.now in
    let old = c.args.out.now.items in let mid = c.append.new.out.items in let new = c.append_all.new.out.items in
    let header : Adds transcript_header old mid = subst (λ (t : Tree). Adds t old mid) c.in_ok-write_transcript_header.ensures c.in_ok-append.ensures.ok in
    on_ok_map c.append_all.result _ _ (λ s. (
      adds_behind transcript_header (map mark_item (map mark_of marks)) old mid new header (subst (λ (l : List Tree). AddsAll l mid new) (mapped_twice mark_of mark_item marks) s),
      c.in_ok-test_marks.ensures.recorded,
    )) c.append_all.ensures.put

pub returns-clause-refused : goal.returns-clause-refused
returns-clause-refused c = IfErr-weaker c.append_all.result _ _ (λ kind r. refused_map kind (λ able. legal_all c.args.marks.now able) r) c.append_all.ensures.refused

pub returns-clause-grows : goal.returns-clause-grows
returns-clause-grows c = starts_on c.args.out.now.items c.append.new.out.items c.append_all.new.out.items (behind_starts c.args.out.now.items c.append.new.out.items _ c.in_ok-append.ensures.ok.after) c.append_all.ensures.grows
