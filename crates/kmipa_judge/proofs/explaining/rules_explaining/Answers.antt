use Rattle.std.proofs.Common.{sym, ◌∙◌}
use Rattle.std.proofs.lemmas.Result.{IfOk-weaker}
use Rattle.kmipa_record.specs.Declarations.{declaration_of}
use Rattle.kmipa_record.specs.Transcripts.{transcript_of}
use Rattle.kmipa_judge.proofs.RuleLemmas.{no_rules, some_rules}
use Rattle.kmipa_judge.proofs.explaining.rules_explaining.Goals as goal

pub returns-then-not-are_tried : goal.returns-then-not-are_tried
returns-then-not-are_tried g c = λ recorded.
    let records = c.args.records.now in
    no_rules records.assumed (transcript_of records.transcript) (declaration_of records.declaration) c.args.outcome.now c.new.result.items c.new.ensures.items

pub returns : goal.returns
returns g c = λ recorded.
    let records = c.args.records.now in
    let tried = sym c.are_tried.ensures ∙ c.if-not-are_tried.false in
    IfOk-weaker c.rules_of.result _ _
    (λ rules each. some_rules records.assumed (transcript_of records.transcript) (declaration_of records.declaration) c.args.outcome.now rules.items tried each)
    (c.rules_of.ensures recorded)
