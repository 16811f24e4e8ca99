use Rattle.std.proofs.Common.{◌<◌, ℕ, All, map, sym, subst}
use Rattle.std.proofs.lemmas.List.{length-map}
use Rattle.kmipa_record.specs.Declarations.{declaration_of}
use Rattle.kmipa_record.specs.Witnesses.{witness_of}
use Rattle.kmipa_check.specs.Calls.{call_of}
use Rattle.kmipa_check.specs.Verdicts.{TellsVerdict}
use Rattle.kmipa_check.specs.declared.verdict.Verdict.{Verdict}
use Rattle.kmipa_orders.specs.Candidates.{candidate_step}
use Rattle.kmipa_orders.proofs.AnswerLemmas.{found_at_once}
use Rattle.kmipa_search.proofs.accepted.accepted_order.Goals as goal

pub returns-in-Ok-Yes-clause-finds : goal.returns-in-Ok-Yes-clause-finds
returns-in-Ok-Yes-clause-finds c = λ marks budget r are plain few.
    let calls = map call_of c.args.calls.now in
    let declared = declaration_of c.args.declaration.now in
    let steps = map candidate_step c.args.own.now in
    let places = c.args.order.now in
    let witness = c.in_ok-witness.witness in
    let N : ℕ → Type 0 = λ n. All (λ p. p < n) places in
    let V : Verdict → Type 0 = λ v. TellsVerdict marks declared (witness_of witness) v in
    found_at_once marks declared calls steps c.check_laws.ensures r are plain places (subst N (sym (length-map c.args.own.now candidate_step)) c.requires.within)
    budget c.args.steps witness c.in_ok-witness.ensures c.requires.paid few
    (subst V c.in-Ok-Yes.field-0-is (c.in-Ok-Yes.ensures marks r are))
