use Rattle.std.proofs.Common.{◌≡◌, Some, None, rules}
use Rattle.kmipa_check.specs.Numbers.{place_in}
use Rattle.kmipa_stream.proofs.WaitingLemmas.{passed_decided}
use Rattle.kmipa_stream.proofs.naming.is_passed.Goals as goal

pub returns-in-Some : goal.returns-in-Some
returns-in-Some c = λ turns names.
    let noted : Some c.in-Some.place ≡ place_in c.args.named.now c.args.number = search rules in
    passed_decided turns c.args.named.now names c.args.number c.args.count (Some c.in-Some.place) noted

pub returns-in-None : goal.returns-in-None
returns-in-None c = λ turns names.
    let noted : None ≡ place_in c.args.named.now c.args.number = search rules in
    passed_decided turns c.args.named.now names c.args.number c.args.count None noted
