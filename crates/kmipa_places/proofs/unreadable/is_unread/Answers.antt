use Rattle.std.proofs.Common.{◌∙◌, sym}
use Rattle.kmipa_places.specs.Calls.{message_of}
use Rattle.kmipa_places.proofs.UnreadableLemmas.{unread_reported, without_request}
use Rattle.kmipa_places.proofs.unreadable.is_unread.Goals as goal

pub returns-in-Some : goal.returns-in-Some
returns-in-Some c =
    unread_reported (message_of c.args.request) (message_of c.args.response) c.order_of.result c.is_response_unread.result c.order_of.ensures
    (λ e. (let bad = sym c.in-Some.is ∙ e in cc)) c.is_response_unread.ensures

pub returns-in-None : goal.returns-in-None
returns-in-None c = without_request (message_of c.args.request) (message_of c.args.response) c.order_of.result c.order_of.ensures c.in-None.is
