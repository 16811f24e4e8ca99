use Rattle.std.proofs.Common.{◌∙◌, ap, sym, subst, List, map, length}
use Rattle.kmipa_record.specs.Declarations.{declaration_of}
use Rattle.kmipa_record.specs.Transcripts.{transcript_of}
use Rattle.kmipa_record.specs.Witnesses.{turn_of}
use Rattle.kmipa_record.specs.declared.turn.Turn.{Turn}
use Rattle.kmipa_check.specs.Grants.{GrantsOf, grants_of}
use Rattle.kmipa_turns.specs.Recorded.{AreRecorded, recorded_of}
use Rattle.kmipa_turns.specs.Steps.{step_of}
use Rattle.kmipa_turns.specs.declared.recorded.Recorded.{Recorded}
use Rattle.kmipa_turns.specs.declared.step.Step.{Step}
use Rattle.kmipa_trail.specs.Orders.{IsOrder}
use Rattle.kmipa_trail.specs.Owners.{in_sight}
use Rattle.kmipa_trail.specs.Replays.{AllTakable}
use Rattle.kmipa_trail.proofs.CheckLemmas.{calls_numbered, calls_once, steps_takable}
use Rattle.kmipa_unjudged.specs.Asides.{AreAside}
use Rattle.kmipa_unjudged.specs.Passing.{passed_along}
use Rattle.kmipa_unjudged.specs.Ranking.{ranks}
use Rattle.kmipa_unjudged.specs.Told.{named_of}
use Rattle.kmipa_unjudged.proofs.unjudged.unjudged_of.Goals as goal

pub asides_along-requires-clause-takable : goal.asides_along-requires-clause-takable
asides_along-requires-clause-takable c =
    let calls : List Recorded = c.deref.result.now in
    let turns : List Turn = c.deref-2.result.now in
    let steps : List Step = c.in_ok-steps.steps.items in
    let R : List Step → Type 0 = λ ss. AllTakable (map step_of ss) in
    subst R (sym c.deref-5.ensures.value)
    (steps_takable (grants_of c.of-grants.result) (map recorded_of calls) (map turn_of turns) (length turns) (map step_of steps) c.step_is_takable.ensures c.in_ok-steps.ensures.formed)

pub returns : goal.returns
returns c = λ recorded.
    let marks = transcript_of c.args.transcript.now in
    let declared = declaration_of c.args.declaration.now in
    let lent : List Recorded = c.deref.result.now in
    let calls : List Recorded = c.in_ok-calls.calls.items in
    let turns : List Turn = c.args.witness.now.turns.items in
    let steps : List Step = c.in_ok-steps.steps.items in
    let are = c.in_ok-calls.ensures.recorded recorded in
    let A : List Recorded → Type 0 = λ cs. AreRecorded marks (map recorded_of cs) in
    let are_lent = subst A (sym c.deref.ensures.value) are in
    let o = c.in_ok-steps.ensures.ordered (calls_numbered marks lent recorded are_lent) (calls_once marks (map recorded_of lent) recorded are_lent) in
    let Q : List Turn → Type 0 = λ ts. IsOrder (grants_of c.of-grants.result) (map recorded_of lent) (map turn_of ts) (map step_of steps) in
    let R : List Recorded → Type 0 = λ cs. IsOrder (grants_of c.of-grants.result) (map recorded_of cs) (map turn_of turns) (map step_of steps) in
    let G : GrantsOf → Type 0 = λ x. IsOrder x (map recorded_of calls) (map turn_of turns) (map step_of steps) in
    let S : List Step → Type 0 = λ ss. AreAside declared (in_sight declared (map step_of ss)) (map named_of c.in_ok-aside.aside.items) in
    record {
      calls = map recorded_of calls;
      are = are;
      steps = map step_of steps;
      order = subst G c.of-grants.ensures (subst R c.deref.ensures.value (subst Q c.deref-2.ensures.value o));
      passes = c.in_ok-passed.ensures ∙ ap ranks (c.deref-4.ensures.value ∙ c.in_ok-numbers.ensures ∙ ap (λ (ss : List Step). passed_along (map step_of ss)) c.deref-3.ensures.value);
      asides = subst S c.deref-5.ensures.value c.in_ok-aside.ensures;
    }
