use Rattle.kmipa_stream.proofs.auditor.Auditor.catch_up.Goals as goal

pub turns-preserved : goal.turns-preserved
turns-preserved c =
    let k = c.turns.invariant.known in
    record {
      known = record { marks = k.marks; turns = k.turns; declared = k.declared; stands = c.in_ok-take_turn.ensures.stands k.marks k.turns k.declared k.stands };
      stands = λ marks turns declared s. c.in_ok-take_turn.ensures.stands marks turns declared (c.turns.invariant.stands marks turns declared s);
    }
