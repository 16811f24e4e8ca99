use Rattle.std.proofs.Common.{◌≡◌, ◌∙◌, ap, map, Err, rules}
use Rattle.kmipa_ttlv.specs.ViewTree.{view_tree, view_trees}
use Rattle.kmipa_attrs.specs.Tags.{name_tag}
use Rattle.kmipa_attrs.specs.Sets.{name_of, names_of}
use Rattle.kmipa_attrs.specs.Names.{as_name, with_names}
use Rattle.kmipa_attrs.specs.Readings.{map_ok}
use Rattle.kmipa_attrs.specs.Attributes.{each, all_named, names_in}
use Rattle.kmipa_attrs.proofs.ViewLemmas.{each_next, each_none}
use Rattle.kmipa_attrs.proofs.NameLemmas.{named_some, names_begin, names_more, names_wrong}
use Rattle.kmipa_attrs.proofs.names.read_names.Goals as goal

pub children-init : goal.children-init
children-init c = names_begin (each as_name name_tag (view_trees c.args.children)) (names_of c.new-names.result) (ap (map name_of) c.new-names.ensures.items)

pub returns-in_err-name : goal.returns-in_err-name
returns-in_err-name c =
    let ts = view_trees c.children.left in
    let us = view_trees c.next_of.new.self in
    let t = view_tree c.in-Some.child in
    let seen = names_of c.children.names in
    let e : c.from_residual.result ≡ Err c.in_err-name.field-0.0 = search rules in
    let whole = c.children.invariant ∙ ap (λ held. map_ok (with_names seen) (all_named held)) (each_next as_name name_tag ts us t c.in-Some.ensures.next) in
    rw e (names_wrong name_of seen (as_name t) (each as_name name_tag us) (names_in (view_trees c.args.children)) c.in_err-name.field-0.0 c.in_err-name.ensures whole)

pub children-preserved : goal.children-preserved
children-preserved c =
    let ts = view_trees c.children.left in
    let us = view_trees c.next_of.new.self in
    let t = view_tree c.in-Some.child in
    let seen = names_of c.children.names in
    c.children.invariant
    ∙ ap (λ held. map_ok (with_names seen) (all_named held)) (each_next as_name name_tag ts us t c.in-Some.ensures.next)
    ∙ names_more seen (names_of c.add_name.new.names) (as_name t) (name_of c.in_ok-name.name) (each as_name name_tag us)
    (named_some (as_name t) (name_of c.in_ok-name.name) c.in_ok-name.ensures) c.in_ok-add_name.ensures

pub returns : goal.returns
returns c = c.children.invariant ∙ ap (λ held. map_ok (with_names (names_of c.children.names)) (all_named held)) (each_none as_name name_tag (view_trees c.children.left) c.in_default.ensures.next)
