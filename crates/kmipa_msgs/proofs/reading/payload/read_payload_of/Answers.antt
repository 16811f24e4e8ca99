use Rattle.std.proofs.Common.{◌∙◌, Result, ap, subst, sym}
use Rattle.std.proofs.lemmas.Result.{err_from_is_err_and}
use Rattle.std.specs.Option.{option_map}
use Rattle.kmipa_ttlv.specs.ViewTree.{view_tree, view_trees}
use Rattle.kmipa_msgs.specs.declared.kind.OutsideKind.{OutsideKind}
use Rattle.kmipa_msgs.specs.declared.kind.OutsideKind.TheVariants.{Missing}
use Rattle.kmipa_msgs.specs.Messages.{PayloadOf, payload_of}
use Rattle.kmipa_msgs.specs.Yields.{Yields}
use Rattle.kmipa_msgs.proofs.PayloadLemmas.{payload_inside, no_payload}
use Rattle.kmipa_msgs.proofs.YieldsLemmas.{kind_left}
use Rattle.kmipa_msgs.proofs.reading.payload.read_payload_of.Goals as goal

pub returns-in_err-children : goal.returns-in_err-children
returns-in_err-children c =
    let t = view_tree c.args.payload.now in
    let none = sym (ap (option_map view_trees) c.in_err-children.ensures.ok_part) ∙ c.as_structure.ensures in
    let kind = kind_left c.as_structure.result Missing c.in_err-children.field-0.0 c.in_err-children.ensures.value in
    let p = err_from_is_err_and c.from_residual.result c.from_residual.ensures.1 in
    rw (p.1, p.2, kind) (no_payload c.args.operation t none)

pub returns : goal.returns
returns c =
    let P : Result PayloadOf OutsideKind → Type 0 = λ q. Yields payload_of c.read_done.result q in
    subst P (payload_inside c.args.operation (view_tree c.args.payload.now) (view_trees c.in_ok-children.children) (sym (ap (option_map view_trees) c.in_ok-children.ensures.ok_part) ∙ c.as_structure.ensures)) c.read_done.ensures
