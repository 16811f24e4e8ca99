use Rattle.std.proofs.Common.{◌↔◌, IsTrue, true, Option, sym, ap, subst}
use Rattle.kmipa_ttlv.specs.Tree.{Tree}
use Rattle.kmipa_ttlv.specs.ViewTree.{view_tree}
use Rattle.kmipa_places.specs.Calls.{message_of}
use Rattle.kmipa_places.specs.Openings.{IsResponseUnread}
use Rattle.kmipa_places.proofs.UnreadableLemmas.{opened_response_reported, unopened_response}
use Rattle.kmipa_places.proofs.unreadable.is_response_unread.Goals as goal

pub returns-in-Some-open_response : goal.returns-in-Some-open_response
returns-in-Some-open_response c =
    let P : Option Tree → Type 0 = λ r. IsTrue c.some_unread.result ↔ IsResponseUnread r in
    subst P (sym (ap message_of c.in-Some.is))
    (opened_response_reported (view_tree c.in-Some.response.now) c.in-Some-open_response.answered c.some_unread.result c.in-Some-open_response.ensures c.some_unread.ensures)

pub returns-in-None : goal.returns-in-None
returns-in-None c =
    let P : Option Tree → Type 0 = λ r. IsTrue true ↔ IsResponseUnread r in
    subst P (sym (ap message_of c.in-Some.is)) (unopened_response (view_tree c.in-Some.response.now) c.in-None.ensures)
