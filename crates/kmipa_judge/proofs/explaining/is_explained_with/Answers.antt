use Rattle.std.proofs.Common.{subst, sym}
use Rattle.std.proofs.lemmas.Result.{IfOk-weaker}
use Rattle.kmipa_record.specs.Declarations.{AreDeclared, DeclarationOf}
use Rattle.kmipa_record.specs.Transcripts.{transcript_of}
use Rattle.kmipa_judge.specs.Rules.{IsExplainedBy}
use Rattle.kmipa_judge.proofs.RuleLemmas.{rule_declared}
use Rattle.kmipa_judge.proofs.explaining.is_explained_with.Goals as goal

pub is_explained_by-requires : goal.is_explained_by-requires
is_explained_by-requires g c = subst AreDeclared (sym c.in_ok-declaration.ensures) (rule_declared c.args.trial.settings c.args.rule)

pub returns : goal.returns
returns g c = λ recorded.
    let P : DeclarationOf → Type 0 = λ d. IsExplainedBy (transcript_of c.args.trial.transcript.now) d in
    IfOk-weaker c.is_explained_by.result _ _ (λ explained is e. subst P c.in_ok-declaration.ensures (is e)) (c.is_explained_by.ensures recorded)
