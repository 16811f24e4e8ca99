use Rattle.std.proofs.Common.{List, Bool, true, ◌≡◌, ap, sym, ◌∙◌}
use Rattle.std.specs.List.{list_all}
use Rattle.kmipa_record.specs.Witnesses.{turn_of}
use Rattle.kmipa_record.specs.declared.turn.Turn.{Turn}
use Rattle.kmipa_judge.specs.Rules.{sets_none}
use Rattle.kmipa_judge.proofs.RuleLemmas.{explained_along}
use Rattle.kmipa_judge.proofs.explaining.is_whole.Goals as goal

pub returns-in-Judged : goal.returns-in-Judged
returns-in-Judged c = λ marks declared judges whole.
    explained_along c.in-Judged.judged c.args.outcome.now marks declared c.in-Judged.is judges
    (ap (λ (l : List Turn). list_all (λ (t : Turn). sets_none (turn_of t)) l) (sym c.as_slice.ensures.value) ∙ sym c.set_nothing_aside.ensures ∙ whole)
