use Rattle.std.proofs.Common.{◌≡◌, length, map, vec_len, rules, arith}
use Rattle.std.proofs.lemmas.List.{length-map}
use Rattle.kmipa_msgs.specs.Messages.{ask_of, request_of, response_of}
use Rattle.kmipa_record.specs.Witnesses.{fill_of}
use Rattle.kmipa_check.proofs.FillingLemmas.{have_all}
use Rattle.kmipa_check.proofs.filling.none_missing.Goals as goal

pub returns : goal.returns
returns c =
    let len : vec_len c.args.request.now.items ≡ length c.args.request.now.items.items = search rules in
    have_all (request_of c.args.request.now) (response_of c.args.response.now) (map fill_of c.args.fills.now) c.items.place c.items.invariant
    (omega (arith, c.items-test.false, c.len.ensures, len, length-map c.args.request.now.items.items ask_of))
