use Rattle.std.proofs.Common.{length, refl}
use Rattle.std.proofs.lemmas.Option.{slice_get_read}
use Rattle.kmipa_findings.proofs.ScanLemmas.{forced_at}
use Rattle.kmipa_findings.proofs.deciding.is_forced_at.Goals as goal

pub returns : goal.returns
returns c = λ yes behind.
    let calls = c.args.calls.now in
    let turns = c.args.turns.now in
    let steps = c.args.steps.now in
    let place = c.args.place in
    let call = c.in-Some.call.now in
    let turn = c.in-Some-get.turn.now in
    let step = c.in-Some-get-2.step.now in
    forced_at calls turns steps place c.args.least call turn step
    (slice_get_read calls (length calls) place call refl c.in-Some.ensures.lookup.3.0 c.in-Some.ensures.lookup.1)
    (slice_get_read turns (length turns) place turn refl c.in-Some-get.ensures.lookup.3.0 c.in-Some-get.ensures.lookup.1)
    (slice_get_read steps (length steps) place step refl c.in-Some-get-2.ensures.lookup.3.0 c.in-Some-get-2.ensures.lookup.1)
    (c.takes_alone.ensures.same yes) (c.takes_alone.ensures.one_way yes) (c.takes_alone.ensures.ahead yes) (c.takes_alone.ensures.unaside yes) (c.takes_alone.ensures.unfilled yes) behind
