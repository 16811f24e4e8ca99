use Rattle.std.proofs.Common.{◌∙◌, ap, slice_set}
use Rattle.std.proofs.lemmas.List.{map-set}
use Rattle.kmipa_record.specs.Witnesses.{TurnOf, witness_of, turn_of}
use Rattle.kmipa_findings.proofs.confirming.leave_out.Goals as goal

pub returns : goal.returns
returns c = λ done.
    map-set turn_of c.args.witness.now.turns.items c.args.finding.now.place c.in_ok-tried.tried
    ∙ ap (λ (t : TurnOf). slice_set (witness_of c.args.witness.now) c.args.finding.now.place t) c.in_ok-tried.ensures
