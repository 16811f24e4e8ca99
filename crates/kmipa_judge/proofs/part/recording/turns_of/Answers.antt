use Rattle.std.proofs.Common.{◌∙◌, ◌+◌, ◌++◌, List, ap, map}
use Rattle.kmipa_record.specs.Witnesses.{turn_of}
use Rattle.kmipa_record.specs.declared.turn.Turn.{Turn}
use Rattle.kmipa_findings.specs.Told.{finding_of}
use Rattle.kmipa_judge.specs.Parts.{keeps, turns_kept}
use Rattle.kmipa_judge.proofs.PartLemmas.{rest_whole, turns_told}
use Rattle.kmipa_judge.proofs.part.recording.turns_of.Goals as goal

pub returns : goal.returns
returns c =
    let K = keeps c.args.kept.places.now c.args.kept.turns.now in
    let turns = c.args.turns.now in
    turns_told K turns (finding_of c.args.finding.now) (map turn_of c.new-taken.result.items)
    (map turn_of c.keep_turns.new.taken.items) (map turn_of c.keep_turn.new.taken.items) (map turn_of c.keep_turns-2.new.taken.items)
    (ap (λ (l : List Turn). map turn_of l) c.new-taken.ensures.items) c.in_ok-keep_turns.ensures c.in_ok-keep_turn.ensures
    (c.in_ok-keep_turns-2.ensures
    ∙ ap (λ (l : List Turn). map turn_of c.keep_turn.new.taken.items ++ turns_kept K (map turn_of l)) (rest_whole turns (c.args.finding.now.place + 1)))
