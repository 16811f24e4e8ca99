use Rattle.std.proofs.Common.{◌≡◌, ◌≤◌, ◌∙◌, ℕ, List, map, length, Option, Vec, IfSome, ap, subst, arith}
use Rattle.std.specs.declared.alloc.Global.{Global}
use Rattle.std.proofs.lemmas.List.{length-map}
use Rattle.kmipa_record.specs.Declarations.{declaration_of}
use Rattle.kmipa_record.specs.Transcripts.{transcript_of}
use Rattle.kmipa_record.specs.Witnesses.{bare_turn, witness_of}
use Rattle.kmipa_orders.specs.Candidates.{candidate_step}
use Rattle.kmipa_orders.specs.Confirming.{turns_at}
use Rattle.kmipa_orders.specs.Taken.{step_at}
use Rattle.kmipa_orders.proofs.AnswerLemmas.{in_time, over_in_time, tried}
use Rattle.kmipa_search.proofs.searching.search_ended.Goals as goal

pub returns-in-Some-order : goal.returns-in-Some-order
returns-in-Some-order g c = λ calls r are not.
    let steps = c.in-Ok.tried.steps in
    let ended = map candidate_step c.args.ended.now in
    let witness = c.in_ok-witness-in-Some-order.witness in
    let P : Option (Vec ℕ Global) → Type 0 = λ o. IfSome o (λ order. length order.items ≤ steps) in
    let paid : length c.in-Some-order.order.items ≤ steps = subst P c.in-Some-order.is c.in-Ok.ensures.bounded.1 in
    let W : List ℕ → Type 0 = λ places. witness_of c.in_ok-witness-in-Some-order.witness ≡ turns_at (map candidate_step c.args.ended.now) places in
    let turns : length (witness_of witness) ≡ length c.in-Some-order.order.items =
    ap length (subst W c.deref.ensures.value c.in_ok-witness-in-Some-order.ensures) ∙ length-map c.in-Some-order.order.items (λ (place : ℕ). bare_turn (step_at ended place).number) in
    in_time (g.W.Watch.seconds c.args.watch.now) (transcript_of c.args.transcript.now) (declaration_of c.args.declaration.now) c.args.budget c.try_witness.result
    (tried (transcript_of c.args.transcript.now) (declaration_of c.args.declaration.now) calls c.args.budget steps witness c.try_witness.result c.check_laws.ensures r are not c.in-Ok.ensures.bounded.0
    (omega (arith, paid, turns)) (c.try_witness.ensures r))

pub returns-in-Some : goal.returns-in-Some
returns-in-Some g c = λ calls r are not.
    over_in_time (g.W.Watch.seconds c.args.watch.now) (transcript_of c.args.transcript.now) (declaration_of c.args.declaration.now) calls c.args.budget c.in-Ok.tried.steps c.in-Some.after c.in-Ok.tried.over
    are c.in-Ok.ensures.bounded.0 c.in-Ok.ensures.over c.in-Some.is
