use Rattle.std.proofs.Common.{◌≡◌, List, map, subst}
use Rattle.kmipa_record.specs.Declarations.{declaration_of}
use Rattle.kmipa_record.specs.Witnesses.{turn_of}
use Rattle.kmipa_check.specs.Calls.{call_of}
use Rattle.kmipa_check.specs.Grants.{GrantsOf, grants_declared}
use Rattle.kmipa_check.specs.Orders.{IsOrder}
use Rattle.kmipa_check.specs.Steps.{step_of}
use Rattle.kmipa_record.specs.declared.call.Call.{Call}
use Rattle.kmipa_check.specs.declared.step.Step.{Step}
use Rattle.kmipa_check.proofs.CheckLemmas.{calls_numbered, calls_once}
use Rattle.kmipa_stream.specs.Counting.{AreTallied, tally_of}
use Rattle.kmipa_stream.proofs.counting.tally_of_turns.Goals as goal

pub returns-in-Ok : goal.returns-in-Ok
returns-in-Ok c = λ marks recorded are.
    let declared = declaration_of c.args.declaration.now in
    let calls : List Call = c.args.calls.now in
    let turns = map turn_of c.args.turns.now in
    let steps : List Step = c.in-Ok.steps.items in
    let o = c.in-Ok.ensures.ordered (calls_numbered marks calls recorded are) (calls_once marks (map call_of calls) recorded are) in
    let G : GrantsOf → Type 0 = λ g. IsOrder g (map call_of calls) turns (map step_of steps) in
    let order : IsOrder (grants_declared declared) (map call_of calls) turns (map step_of steps) = subst G c.of.ensures o in
    let T : List Step → Type 0 = λ ss. c.tally_of_steps.result ≡ tally_of (map step_of ss) in
    let tallied = subst T c.deref.ensures.value c.tally_of_steps.ensures in
    let told : AreTallied marks declared turns c.tally_of_steps.result = record { calls = map call_of calls; are = are; steps = map step_of steps; order = order; tallied = tallied } in
    (c.sets_aside.ensures.0 c.if-not-sets_aside.false, told)
