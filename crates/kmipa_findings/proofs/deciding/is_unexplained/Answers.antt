use Rattle.std.proofs.Common.{List, map, refl, sym, subst}
use Rattle.kmipa_record.specs.Declarations.{declaration_of}
use Rattle.kmipa_record.specs.Transcripts.{transcript_of}
use Rattle.kmipa_record.specs.Witnesses.{turn_of, witness_of}
use Rattle.kmipa_record.specs.declared.turn.Turn.{Turn}
use Rattle.kmipa_check.specs.Grants.{GrantsOf, grants_of}
use Rattle.kmipa_turns.specs.Recorded.{AreRecorded, recorded_of}
use Rattle.kmipa_turns.specs.Steps.{step_of}
use Rattle.kmipa_turns.specs.declared.recorded.Recorded.{Recorded}
use Rattle.kmipa_turns.specs.declared.step.Step.{Step}
use Rattle.kmipa_trail.specs.Orders.{IsOrder}
use Rattle.kmipa_trail.proofs.CheckLemmas.{calls_numbered, calls_once}
use Rattle.kmipa_findings.specs.Forced.{IsForced}
use Rattle.kmipa_findings.proofs.UnexplainedLemmas.{unexplained}
use Rattle.kmipa_findings.proofs.deciding.is_unexplained.Goals as goal

pub returns-in-Ok : goal.returns-in-Ok
returns-in-Ok c = λ stamp recorded told yes.
    let marks = transcript_of c.args.transcript.now in
    let declared = declaration_of c.args.declaration.now in
    let lent : List Recorded = c.deref.result.now in
    let calls : List Recorded = c.in_ok-calls.calls.items in
    let turns : List Turn = c.args.left.now.turns.items in
    let steps : List Step = c.in-Ok.steps.items in
    let count = c.args.refused.turn in
    let are = c.in_ok-calls.ensures.recorded recorded in
    let A : List Recorded → Type 0 = λ cs. AreRecorded marks (map recorded_of cs) in
    let are_lent = subst A (sym c.deref.ensures.value) are in
    let o = c.in-Ok.ensures.ordered (calls_numbered marks lent recorded are_lent) (calls_once marks (map recorded_of lent) recorded are_lent) in
    let Q : List Turn → Type 0 = λ ts. IsOrder (grants_of c.of-grants.result) (map recorded_of lent) (map turn_of ts) (map step_of steps) in
    let R : List Recorded → Type 0 = λ cs. IsOrder (grants_of c.of-grants.result) (map recorded_of cs) (map turn_of turns) (map step_of steps) in
    let G : GrantsOf → Type 0 = λ x. IsOrder x (map recorded_of calls) (map turn_of turns) (map step_of steps) in
    let order = subst G c.of-grants.ensures (subst R c.deref.ensures.value (subst Q c.deref-2.ensures.value o)) in
    let X : List Recorded → Type 0 = λ cs. IsForced (map recorded_of cs) (map turn_of c.deref-in-Ok-2.result.now) (map step_of c.deref-in-Ok-3.result.now) count in
    let Y : List Turn → Type 0 = λ ts. IsForced (map recorded_of calls) (map turn_of ts) (map step_of c.deref-in-Ok-3.result.now) count in
    let Z : List Step → Type 0 = λ ss. IsForced (map recorded_of calls) (map turn_of turns) (map step_of ss) count in
    let forced = subst Z c.deref-in-Ok-3.ensures.value (subst Y c.deref-in-Ok-2.ensures.value (subst X c.deref-in-Ok.ensures.value (c.is_forced.ensures yes))) in
    unexplained marks declared (witness_of c.args.left.now) c.args.refused stamp (map recorded_of calls) (map step_of steps) recorded are (c.if-not-grants_nothing.ensures refl) (c.if-is_late.ensures refl) order forced told
