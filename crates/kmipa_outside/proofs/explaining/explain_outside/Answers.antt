use Rattle.std.proofs.Common.{rules, ℤ, ℕ, List, map, subst, sym}
use Rattle.std.proofs.lemmas.Int.{to_z-of_z}
use Rattle.std.specs.String.{string_bytes}
use mir.Val.{SFits, to_z, of_z}
use mir.Syntax.{w32}
use Rattle.kmipa_record.specs.Marks.{mark_of}
use Rattle.kmipa_record.specs.Transcripts.{transcript_of}
use Rattle.kmipa_record.specs.declared.transcript.Mark.{Mark}
use Rattle.kmipa_check.specs.Calls.{HasBegin, IsOutsideOn}
use Rattle.kmipa_check.proofs.RecordedLemmas.{same_begin}
use Rattle.kmipa_outside.specs.Explaining.{HasNoBegin, IsBeginOf}
use Rattle.kmipa_outside.proofs.explaining.explain_outside.Goals as goal

pub explained-requires-clause-outside : goal.explained-requires-clause-outside
explained-requires-clause-outside c =
    let n = c.args.number in
    let fits : SFits w32 n = search rules in
    let marks = transcript_of c.args.transcript.now in
    let begin = c.in-Some.begin.now in
    let side = c.args.side in
    let item = c.args.outside.item in
    let kind = c.args.outside.kind in
    let first = c.requires.outside in
    let B : List Mark → Type 0 = λ ms. IsBeginOf (map mark_of ms) (to_z w32 (of_z w32 n)) begin in
    let Z : ℤ → Type 0 = λ z. IsBeginOf marks z begin in
    let b : IsBeginOf marks n begin = subst Z (to_z-of_z w32 n fits) (subst B c.deref.ensures.value c.in-Some.ensures) in
    let has : HasBegin marks n b.0 begin.message.items = record { client = string_bytes begin.client; there = b.1 } in
    let same = (same_begin marks n first.begin b.0 first.asked begin.message.items c.requires.recorded first.carried has).1 in
    let A : List ℕ → Type 0 = λ asked. IsOutsideOn marks n side asked item kind in
    let N : ℤ → Type 0 = λ z. IsOutsideOn marks z side begin.message.items item kind in
    let M : List Mark → Type 0 = λ ms. IsOutsideOn (map mark_of ms) (to_z w32 (of_z w32 n)) side begin.message.items item kind in
    subst M (sym c.deref-in-Some.ensures.value) (subst N (sym (to_z-of_z w32 n fits)) (subst A same first.outside))

pub returns-in-None-clause-memory : goal.returns-in-None-clause-memory
returns-in-None-clause-memory c =
    let n = c.args.number in
    let fits : SFits w32 n = search rules in
    let marks = transcript_of c.args.transcript.now in
    let first = c.requires.outside in
    let B : List Mark → Type 0 = λ ms. HasNoBegin (map mark_of ms) (to_z w32 (of_z w32 n)) in
    let Z : ℤ → Type 0 = λ z. HasNoBegin marks z in
    let none : HasNoBegin marks n = subst Z (to_z-of_z w32 n fits) (subst B c.deref.ensures.value c.in-None.ensures) in
    absurd (none first.begin first.asked first.carried)
