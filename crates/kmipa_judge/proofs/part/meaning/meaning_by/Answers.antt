use Rattle.std.proofs.Common.{◌≡◌, ◌∙◌, ℕ, List, Option, ap, length, map, rules, subst, sym, vec_len}
use Rattle.std.specs.Prelude.{IfSome}
use Rattle.kmipa_record.specs.Declarations.{declaration_of}
use Rattle.kmipa_record.specs.Marks.{AreRecorded, MarkOf}
use Rattle.kmipa_record.specs.Transcripts.{transcript_of}
use Rattle.kmipa_record.specs.Witnesses.{turn_of, witness_of}
use Rattle.kmipa_record.specs.declared.turn.Turn.{Turn}
use Rattle.kmipa_check.specs.Numbers.{Indexes}
use Rattle.kmipa_explain.specs.declared.explanation.Explanation.{Explanation}
use Rattle.kmipa_findings.specs.Told.{finding_of}
use Rattle.kmipa_judge.specs.Parts.{AreTurnsOf, ExplainsSame, keeps, turn_by, turns_kept, with_tried}
use Rattle.kmipa_judge.proofs.NumberingLemmas.{numbers, turns_numbered}
use Rattle.kmipa_judge.proofs.PartLemmas.{finding_told, part_recorded}
use Rattle.kmipa_judge.proofs.part.meaning.meaning_by.Goals as goal

pub explained_same-requires-clause-recorded : goal.explained_same-requires-clause-recorded
explained_same-requires-clause-recorded c =
    let marks : List MarkOf = transcript_of c.args.records.now.transcript in
    subst AreRecorded (sym c.in_ok-part.ensures) (part_recorded (keeps c.in_ok-places.places c.args.turns.now) marks c.requires.recorded)

pub returns-in-Some : goal.returns-in-Some
returns-in-Some c =
    let records = c.args.records.now in
    let K = keeps c.in_ok-places.places c.args.turns.now in
    let f = finding_of c.args.finding.now in
    let turns : List Turn = c.args.witness.now.turns.items in
    let E : Option Explanation → Type 0 = λ o. IfSome o (ExplainsSame (transcript_of c.in_ok-part.part) (declaration_of records.declaration) (witness_of c.in_ok-taken.taken) f.refused) in
    let I : List Turn → Type 0 = λ l. Indexes (numbers l) c.in_ok-places.places in
    let N : ℕ → Type 0 = λ n. AreTurnsOf (map turn_of turns) (turn_by c.in_ok-places.places n) in
    let long : length turns ≡ vec_len c.args.witness.now.turns = search rules in
    finding_told (transcript_of records.transcript) (transcript_of c.in_ok-part.part) (declaration_of records.declaration) (witness_of c.args.witness.now) (witness_of c.in_ok-taken.taken) f K
    c.in-Some.claims c.renumbered.result (turn_by c.in_ok-places.places c.len.result) c.in_ok-part.ensures
    (c.in_ok-taken.ensures ∙ ap (λ (l : List Turn). turns_kept K (with_tried (map turn_of l) f)) c.deref-2.ensures.value)
    (subst E c.in-Some.is c.in_ok-claims.ensures)
    (subst N (sym c.len.ensures) (subst N long (turns_numbered turns c.in_ok-places.places (subst I c.deref.ensures.value c.in_ok-places.ensures))))
    c.renumbered.ensures
