use Rattle.std.proofs.Common.{Err}
use Rattle.std.proofs.lemmas.Result.{err_from_is_err_and}
use Rattle.kmipa_ttlv.specs.ViewTree.{view_trees}
use Rattle.kmipa_msgs.specs.declared.kind.OutsideKind.TheVariants.{Version, Count}
use Rattle.kmipa_msgs.specs.Kinds.{kind_number}
use Rattle.kmipa_msgs.specs.Headers.{is_version, is_count}
use Rattle.kmipa_msgs.proofs.ViewLemmas.{joined, test_row}
use Rattle.kmipa_msgs.proofs.RequestLemmas.{seen_order}
use Rattle.kmipa_msgs.proofs.reading.request.request_header.Goals as goal

pub returns-in_err-said : goal.returns-in_err-said
returns-in_err-said c =
    let hs = view_trees c.args.header in
    let version = test_row c.is_version.result (is_version hs) Version c.passing-version.result c.passing-version.ensures c.is_version.ensures in
    let count = test_row c.is_count.result (is_count hs c.args.items) Count c.passing-count.result c.passing-count.ensures c.is_count.ensures in
    let plain = joined kind_number _ _ c.both-plain.result _ _ c.both-plain.ensures version count in
    let said = joined kind_number _ _ c.both-said.result _ _ c.both-said.ensures c.batch_option.ensures c.ordered.ensures in
    let p = err_from_is_err_and c.from_residual.result c.from_residual.ensures.1 in
    rw (p.1, p.2) (seen_order hs c.args.items (Err c.in_err-said.field-0.0) (joined kind_number _ _ _ _ _ c.in_err-said.ensures plain said))
