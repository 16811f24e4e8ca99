use Rattle.std.proofs.Common.{◌≤◌, map, length, List, Option, Vec, Bor, IfSome, sym, subst, arith}
use Rattle.std.specs.declared.alloc.Global.{Global}
use Rattle.std.proofs.lemmas.List.{length-map}
use Rattle.kmipa_record.specs.Declarations.{declaration_of}
use Rattle.kmipa_record.specs.Transcripts.{transcript_of}
use Rattle.kmipa_record.specs.Witnesses.{turn_of}
use Rattle.kmipa_record.specs.declared.turn.Turn.{Turn}
use Rattle.kmipa_check.specs.Calls.{call_of}
use Rattle.kmipa_record.specs.declared.call.Call.{Call}
use Rattle.kmipa_orders.specs.Guessing.{AreAllRecorded}
use Rattle.kmipa_orders.proofs.AnswerLemmas.{in_time, over_in_time, tried}
use Rattle.kmipa_orders.proofs.DescentLemmas.{all_recorded}
use Rattle.kmipa_search.proofs.open_searching.search_other.Goals as goal

pub find_turns-requires-clause-recorded : goal.find_turns-requires-clause-recorded
find_turns-requires-clause-recorded g c =
    let P : Bor (List Call) → Type 0 = λ b. AreAllRecorded b.now in
    subst P (sym c.in_ok-tables.ensures) (all_recorded (transcript_of c.args.transcript.now) c.args.calls.now c.requires.each)

pub returns-in-Some-turns : goal.returns-in-Some-turns
returns-in-Some-turns g c = λ r are not.
    let steps = c.in-Ok.guessed.steps in
    let P : Option (Vec Turn Global) → Type 0 = λ o. IfSome o (λ turns. length turns.items ≤ steps) in
    let paid : length c.in-Some-turns.turns.items ≤ steps = subst P c.in-Some-turns.is c.in-Ok.ensures.bounded.1 in
    in_time (g.W.Watch.seconds c.args.watch.now) (transcript_of c.args.transcript.now) (declaration_of c.args.declaration.now) c.args.budget c.try_witness.result
    (tried (transcript_of c.args.transcript.now) (declaration_of c.args.declaration.now) (map call_of c.args.calls.now) c.args.budget steps (record { turns = c.in-Some-turns.turns }) c.try_witness.result c.check_laws.ensures r are not
    c.in-Ok.ensures.bounded.0 (omega (arith, paid, length-map c.in-Some-turns.turns.items turn_of)) (c.try_witness.ensures r))

pub returns-in-Some : goal.returns-in-Some
returns-in-Some g c = λ r are not.
    over_in_time (g.W.Watch.seconds c.args.watch.now) (transcript_of c.args.transcript.now) (declaration_of c.args.declaration.now) (map call_of c.args.calls.now) c.args.budget c.in-Ok.guessed.steps c.in-Some.after c.in-Ok.guessed.over
    are c.in-Ok.ensures.bounded.0 c.in-Ok.ensures.over c.in-Some.is
