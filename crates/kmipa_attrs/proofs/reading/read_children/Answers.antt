use Rattle.std.proofs.Common.{◌≡◌, ◌∙◌, ap, Err, rules}
use Rattle.kmipa_ttlv.specs.ViewTree.{view_trees}
use Rattle.kmipa_attrs.specs.Sets.{names_of, attributes_of}
use Rattle.kmipa_attrs.specs.Readings.{map_ok, both}
use Rattle.kmipa_attrs.specs.Attributes.{set_at, attr_number, description_in, stages_in, ends_in, attributes_in}
use Rattle.kmipa_attrs.proofs.AttrLemmas.{wrong_names, gives_fault, with_rest}
use Rattle.kmipa_attrs.proofs.reading.read_children.Goals as goal

pub returns-in_err-names : goal.returns-in_err-names
returns-in_err-names c =
    let e : c.from_residual.result ≡ Err c.in_err-names.field-0.0 = search rules in
    let whole = attributes_in c.args.side (view_trees c.args.children) in
    rw e (wrong_names c.args.side (view_trees c.args.children) names_of c.in_err-names.field-0.0 c.in_err-names.ensures)

pub returns-in_err-object_type : goal.returns-in_err-object_type
returns-in_err-object_type c =
    let ts = view_trees c.args.children in
    let e : c.from_residual-in_err-object_type.result ≡ Err c.in_err-object_type.field-0.0 = search rules in
    let rest : c.both-rest.result ≡ both attr_number (description_in ts) (both attr_number (stages_in c.args.side ts) (ends_in c.args.side ts)) = cc in
    let read : attributes_in c.args.side ts ≡ Err c.in_err-object_type.field-0.0 = with_rest c.args.side ts (names_of c.in_ok-names.names) c.both-rest.result c.in_ok-names.ensures rest ∙ ap (map_ok (λ r. set_at (names_of c.in_ok-names.names, r))) c.in_err-object_type.was in
    rw e (gives_fault attributes_of c.in_err-object_type.field-0.0 (attributes_in c.args.side ts) read)

pub returns : goal.returns
returns c =
    let ts = view_trees c.args.children in
    let rest : c.both-rest.result ≡ both attr_number (description_in ts) (both attr_number (stages_in c.args.side ts) (ends_in c.args.side ts)) = cc in
    with_rest c.args.side ts (names_of c.in_ok-names.names) c.both-rest.result c.in_ok-names.ensures rest ∙ ap (map_ok (λ r. set_at (names_of c.in_ok-names.names, r))) c.in_ok-object_type.was
