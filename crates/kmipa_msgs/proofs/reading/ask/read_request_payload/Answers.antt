use Rattle.std.proofs.Common.{◌∙◌, ap, rules}
use Rattle.kmipa_ttlv.specs.ViewTree.{view_trees}
use Rattle.kmipa_attrs.specs.Fields.{in_field}
use Rattle.kmipa_msgs.specs.Messages.{asked_of}
use Rattle.kmipa_msgs.specs.Asks.{asked_in, form_in, payload_asked}
use Rattle.kmipa_msgs.proofs.AskLemmas.{asked_view, seen_asked}
use Rattle.kmipa_msgs.proofs.YieldsLemmas.{yields_both, yields_err}
use Rattle.kmipa_msgs.proofs.reading.ask.read_request_payload.Goals as goal

pub returns-in_err-asked : goal.returns-in_err-asked
returns-in_err-asked c =
    let operation = c.args.operation in
    let ts = view_trees c.args.children in
    let us = view_trees c.children_in.result in
    let form = c.payload_shape-shape.ensures ∙ ap (form_in operation) c.structure_at-payload.ensures in
    let inner = c.children_in.ensures ∙ ap in_field c.structure_at-payload.ensures in
    let read =
    yields_both asked_of asked_view c.payload_shape-shape.result c.read_asked-asked.result c.both_read.result (asked_in operation us) (payload_asked operation ts) c.both_read.ensures c.read_asked-asked.ensures
    (λ part g rows e. seen_asked operation ts us c.payload_shape-shape.result part rows e form inner g) in
    yields_err asked_view asked_of c.both_read.result c.in_err-asked.field-0.0 c.from_residual.result (payload_asked operation ts) read c.in_err-asked.was (search rules)
