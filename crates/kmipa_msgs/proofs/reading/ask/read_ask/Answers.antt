use Rattle.std.proofs.Common.{◌∙◌, ap, sym}
use Rattle.std.proofs.lemmas.Result.{err_from_is_err_and}
use Rattle.std.specs.Option.{option_map}
use Rattle.kmipa_ttlv.specs.ViewTree.{view_tree, view_trees}
use Rattle.kmipa_msgs.specs.declared.kind.OutsideKind.TheVariants.{Missing}
use Rattle.kmipa_msgs.proofs.AskLemmas.{no_ask}
use Rattle.kmipa_msgs.proofs.YieldsLemmas.{kind_left}
use Rattle.kmipa_msgs.proofs.reading.ask.read_ask.Goals as goal

pub returns-in_err-children : goal.returns-in_err-children
returns-in_err-children c =
    let t = view_tree c.args.view.now in
    let none = sym (ap (option_map view_trees) c.in_err-children.ensures.ok_part) ∙ c.as_structure.ensures in
    let kind = kind_left c.as_structure.result Missing c.in_err-children.field-0.0 c.in_err-children.ensures.value in
    let p = err_from_is_err_and c.from_residual.result c.from_residual.ensures.1 in
    rw (p.1, p.2, kind) (no_ask t none)
