use Rattle.std.proofs.Common.{◌≡◌, length, vec_len, rules, arith}
use Rattle.std.proofs.lemmas.List.{length-map}
use Rattle.kmipa_msgs.specs.Messages.{ask_of, request_of, response_of}
use Rattle.kmipa_check.proofs.FillingLemmas.{none_wanted_more, none_wanted_all}
use Rattle.kmipa_check.proofs.filling.needs_fill.Goals as goal

pub items-preserved : goal.items-preserved
items-preserved c = none_wanted_more (request_of c.args.request.now) (response_of c.args.response.now) c.items.place c.if-is_wanted_at.ensures c.items.invariant

pub returns : goal.returns
returns c =
    let len : vec_len c.args.request.now.items ≡ length c.args.request.now.items.items = search rules in
    none_wanted_all (request_of c.args.request.now) (response_of c.args.response.now) c.items.place c.items.invariant
    (omega (arith, c.items-test.false, c.len.ensures, len, length-map c.args.request.now.items.items ask_of))
