use Rattle.std.proofs.Common.{◌≡◌, ◌∙◌, ℕ, nat_lt, map, length, ap, sym}
use Rattle.std.proofs.lemmas.List.{length-map}
use Rattle.kmipa_msgs.specs.Messages.{ask_of, request_of, response_of}
use Rattle.kmipa_batch.specs.Fits.{fits}
use Rattle.kmipa_batch.proofs.ShapeLemmas.{shape_reported}
use Rattle.kmipa_batch.proofs.shape.is_shaped_at.Goals as goal

pub returns : goal.returns
returns c =
    let asks : c.len.result ≡ length (map ask_of c.args.request.now.items.items) = c.len.ensures ∙ c.args.request.now.items.ok.0 ∙ sym (length-map c.args.request.now.items.items ask_of) in
    shape_reported (request_of c.args.request.now) (response_of c.args.response.now) c.args.place c.args.failed c.status_at-status.result c.has_shape.result c.requires c.status_at-status.ensures
    (c.has_shape.ensures ∙ ap (λ (n : ℕ). fits c.args.request.now.option c.args.failed c.args.place (nat_lt c.args.place n) c.status_at-status.result) asks)
