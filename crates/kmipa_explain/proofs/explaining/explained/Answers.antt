use Rattle.std.proofs.Common.{rules, ◌∙◌, ◌-◌, FitsSigned, w64, map, option_map, sym, ap, subst, arith}
use Rattle.std.proofs.lemmas.Int.{to_z-of_z}
use Rattle.std.specs.String.{string_bytes}
use Rattle.kmipa_record.specs.Declarations.{declaration_of}
use Rattle.kmipa_record.specs.Marks.{mark_of}
use Rattle.kmipa_check.specs.Steps.{StepOf}
use Rattle.kmipa_explain.specs.Explainable.{IsBegun}
use Rattle.kmipa_explain.specs.Explanations.{IsClient, operation_at}
use Rattle.kmipa_explain.specs.Reading.{seen_subject}
use Rattle.kmipa_explain.proofs.RefusedLemmas.{its_call, stands, turn_within}
use Rattle.kmipa_explain.proofs.explaining.explained.Goals as goal

pub client_of-requires : goal.client_of-requires
client_of-requires c =
    let marks = map mark_of c.args.marks.now in
    let declared = declaration_of c.args.declaration.now in
    let P : StepOf → Type 0 = λ s. IsBegun marks s in
    subst P (its_call marks declared c.args.steps.now c.args.refused c.requires.explainable c.index-steps-turn.result c.index-steps-turn.is) c.requires.explainable.begun

pub overlapping_calls-requires : goal.overlapping_calls-requires
overlapping_calls-requires c = turn_within (map mark_of c.args.marks.now) (declaration_of c.args.declaration.now) c.args.steps.now c.args.refused c.requires.explainable

pub returns-clause-explains : goal.returns-clause-explains
returns-clause-explains c =
    let marks = map mark_of c.args.marks.now in
    let declared = declaration_of c.args.declaration.now in
    let call = c.requires.explainable.call in
    let its = its_call marks declared c.args.steps.now c.args.refused c.requires.explainable c.index-steps-turn.result c.index-steps-turn.is in
    let at = stands marks declared c.args.steps.now c.args.refused c.requires.explainable in
    let fits : FitsSigned w64 c.moment.result = search rules in
    let P : StepOf → Type 0 = λ s. IsClient marks s (string_bytes c.in_ok-client.client) in
    record {
      turn = c.args.refused.turn - 1;
      reported = omega (arith, c.requires.explainable.reported);
      call = call;
      there = at;
      client = subst P (sym its) c.in_ok-client.ensures;
      stamp = to_z-of_z w64 c.moment.result fits ∙ c.moment.ensures ∙ ap (λ (s : StepOf). s.response.stamp) (sym its);
      operation = c.operation_at.ensures ∙ ap (λ (s : StepOf). operation_at s c.args.refused.item) (sym its);
      overlapping = c.in_ok-overlapping.ensures call at;
      cause = c.in_ok-rest.ensures.tells call at;
      whence = record {
        subject = option_map seen_subject c.in_ok-rest.rest.subject;
        is = c.in_ok-rest.ensures.subject call at;
        sources = c.in_ok-whence_of.ensures;
      };
      story = c.in_ok-story.ensures;
    }
