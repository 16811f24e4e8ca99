use Rattle.std.proofs.Common.{◌<◌, length, refl, arith}
use Rattle.std.proofs.lemmas.Option.{slice_get_read}
use Rattle.kmipa_check.proofs.PlaceLemmas.{contains_at}
use Rattle.kmipa_search.proofs.by_turns.turns_along.Goals as goal

pub take_turn-requires-clause-recorded : goal.take_turn-requires-clause-recorded
take_turn-requires-clause-recorded g c =
    let calls = c.args.by.sources.calls.now in
    let place = c.proposed-item.result.call in
    let within : place < length calls = omega (arith, c.if-proposed-calls.false) in
    c.requires.recorded c.index-calls-proposed.result
    (contains_at calls place c.index-calls-proposed.result
    (slice_get_read calls (length calls) place c.index-calls-proposed.result refl within c.index-calls-proposed.is))
