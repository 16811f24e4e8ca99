use Rattle.std.proofs.Common.{◌≡◌, ◌∙◌, sym, ap, subst}
use Rattle.std.specs.Option.{option_map}
use Rattle.kmipa_places.specs.Calls.{CallOf, IsCall, message_of, read, read_of, unread}
use Rattle.kmipa_places.specs.Readings.{call_by, call_in}
use Rattle.kmipa_places.specs.Unread.{left}
use Rattle.kmipa_places.proofs.CallLemmas.{is_call}
use Rattle.kmipa_places.proofs.reading.read_call.Goals as goal

pub returns-in-Some : goal.returns-in-Some
returns-in-Some c =
    let request = message_of c.args.request in
    let response = message_of c.args.response in
    let P : CallOf → Type 0 = IsCall request response c.args.asides.now in
    let e : call_in request response c.args.asides.now ≡ read (read_of c.in-Some.call) =
    ap (λ o. call_by o (left request response)) (sym c.in_ok-call.ensures ∙ ap (option_map read_of) c.in-Some.is) in
    subst P e (is_call request response c.args.asides.now)

pub returns-in_ok-left-in-None : goal.returns-in_ok-left-in-None
returns-in_ok-left-in-None c =
    let request = message_of c.args.request in
    let response = message_of c.args.response in
    let P : CallOf → Type 0 = IsCall request response c.args.asides.now in
    let e = ap (λ o. call_by o (left request response)) (sym c.in_ok-call.ensures ∙ ap (option_map read_of) c.in-None.is) ∙ ap unread (sym c.in_ok-left-in-None.ensures) in
    subst P e (is_call request response c.args.asides.now)
