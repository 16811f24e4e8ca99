use Rattle.std.proofs.Common.{List, map, refl, sym, subst}
use Rattle.kmipa_record.specs.Declarations.{declaration_of}
use Rattle.kmipa_record.specs.Transcripts.{transcript_of}
use Rattle.kmipa_record.specs.Witnesses.{TurnOf, turn_of}
use Rattle.kmipa_record.specs.declared.turn.Turn.{Turn}
use Rattle.kmipa_check.specs.Grants.{GrantsOf, grants_declared, grants_of}
use Rattle.kmipa_turns.specs.Recorded.{AreRecorded, recorded_of}
use Rattle.kmipa_turns.specs.Steps.{step_of}
use Rattle.kmipa_turns.specs.declared.recorded.Recorded.{Recorded}
use Rattle.kmipa_turns.specs.declared.step.Step.{Step}
use Rattle.kmipa_trail.specs.Orders.{IsOrder}
use Rattle.kmipa_trail.proofs.CheckLemmas.{calls_numbered, calls_once}
use Rattle.kmipa_findings.specs.Choices.{AreAllApart, HaveEnded, HaveOrder, bare_of}
use Rattle.kmipa_findings.proofs.forced.is_plain_and.Goals as goal

pub returns-in-Ok : goal.returns-in-Ok
returns-in-Ok c = λ recorded yes.
    let marks = transcript_of c.args.transcript.now in
    let declared = declaration_of c.args.declaration.now in
    let calls : List Recorded = c.in_ok-calls.calls.items in
    let turns : List Turn = c.in_ok-turns.turns.items in
    let steps : List Step = c.in-Ok.steps.items in
    let lent : List Recorded = c.deref-3.result.now in
    let are = c.in_ok-calls.ensures.recorded recorded in
    let A : List Recorded → Type 0 = λ cs. AreRecorded marks (map recorded_of cs) in
    let are_lent = subst A (sym c.deref-3.ensures.value) are in
    let o = c.in-Ok.ensures.ordered (calls_numbered marks lent recorded are_lent) (calls_once marks (map recorded_of lent) recorded are_lent) in
    let Q : List Turn → Type 0 = λ ts. IsOrder (grants_of c.of-grants.result) (map recorded_of lent) (map turn_of ts) (map step_of steps) in
    let R : List Recorded → Type 0 = λ cs. IsOrder (grants_of c.of-grants.result) (map recorded_of cs) (map turn_of turns) (map step_of steps) in
    let G : GrantsOf → Type 0 = λ x. IsOrder x (map recorded_of calls) (map turn_of turns) (map step_of steps) in
    let order = subst G c.of-grants.ensures (subst R c.deref-3.ensures.value (subst Q c.deref-4.ensures.value o)) in
    let T : List TurnOf → Type 0 = λ ts. IsOrder (grants_declared declared) (map recorded_of calls) ts (map step_of steps) in
    let B : List Recorded → Type 0 = λ cs. IsOrder (grants_declared declared) (map recorded_of calls) (map bare_of (map recorded_of cs)) (map step_of steps) in
    let bare = subst B c.deref.ensures.value (subst T c.in_ok-turns.ensures order) in
    let E : List Recorded → Type 0 = λ cs. HaveEnded (map recorded_of cs) in
    let H : List Step → Type 0 = λ ss. HaveOrder (map step_of ss) in
    let P : List Step → Type 0 = λ ss. AreAllApart declared.settings.tolerance (map step_of ss) in
    record {
      plain = record {
        calls = map recorded_of calls;
        are = are;
        ended = subst E c.deref-2.ensures.value (c.if-not-have_ended.ensures refl);
        steps = map step_of steps;
        bare = bare;
        ordered = subst H c.deref-in-Ok.ensures.value (c.are_ordered.ensures.ordered yes);
      };
      apart = λ asked. subst P c.deref-in-Ok.ensures.value (c.are_ordered.ensures.apart yes asked);
    }
