use Rattle.std.proofs.Common.{◌≡◌, rules}
use Rattle.kmipa_check.specs.Numbers.{place_in}
use Rattle.kmipa_stream.proofs.WaitingLemmas.{named_decided}
use Rattle.kmipa_stream.proofs.naming.is_named.Goals as goal

pub returns : goal.returns
returns c = λ turns names.
    let noted : c.place.result ≡ place_in c.args.named.now c.args.number = search rules in
    let h = named_decided turns c.args.named.now names c.args.number c.place.result noted in
    rw c.is_some.ensures h
