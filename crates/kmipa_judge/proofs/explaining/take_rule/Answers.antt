use Rattle.std.proofs.Common.{All, List, subst, sym}
use Rattle.std.proofs.lemmas.List.Elements.{All-push}
use Rattle.kmipa_record.specs.Transcripts.{transcript_of}
use Rattle.kmipa_judge.specs.Rules.{IsExplainedWith}
use Rattle.kmipa_judge.specs.declared.rule.Rule.{Rule}
use Rattle.kmipa_judge.proofs.explaining.take_rule.Goals as goal

pub returns-then-not-is_explained : goal.returns-then-not-is_explained
returns-then-not-is_explained g c = λ recorded each. each

pub returns : goal.returns
returns g c = λ recorded each.
    let P : Rule → Type 0 = IsExplainedWith (transcript_of c.args.trial.transcript.now) c.args.trial.settings in
    let Q : List Rule → Type 0 = λ rules. All P rules in
    subst Q (sym c.in_ok-push.ensures.items) (All-push P c.args.explaining.now.items c.args.rule each (c.in_ok-is_explained.ensures recorded c.if-not-is_explained.false))
