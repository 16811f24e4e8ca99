use Rattle.std.proofs.Common.{◌≡◌, length, vec_len, rules, arith, refl}
use Rattle.std.proofs.lemmas.List.{length-map}
use Rattle.kmipa_msgs.specs.Messages.{ask_of, request_of, response_of}
use Rattle.kmipa_orders.proofs.LoneLemmas.{steady_past, steady_more}
use Rattle.kmipa_orders.proofs.settled.is_steady.Goals as goal

pub items-init : goal.items-init
items-init c =
    let len : vec_len c.args.request.now.items ≡ length c.args.request.now.items.items = search rules in
    steady_past (request_of c.args.request.now) (response_of c.args.response.now) c.len-place.result (omega (arith, c.len-place.ensures, len, length-map c.args.request.now.items.items ask_of))

pub items-preserved : goal.items-preserved
items-preserved c =
    steady_more (request_of c.args.request.now) (response_of c.args.response.now) c.items.place c.items-test.true (c.if-not-is_steady_at.ensures refl) c.items.invariant
