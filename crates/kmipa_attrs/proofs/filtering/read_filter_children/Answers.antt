use Rattle.std.proofs.Common.{◌≡◌, ◌∙◌, ap, Err, rules}
use Rattle.kmipa_ttlv.specs.ViewTree.{view_trees}
use Rattle.kmipa_attrs.specs.Sets.{names_of}
use Rattle.kmipa_attrs.specs.Readings.{map_ok, both}
use Rattle.kmipa_attrs.specs.Attributes.{attr_number}
use Rattle.kmipa_attrs.specs.Filters.{filter_of, filter_at, filter_in, is_loosened, judged_in, types_in}
use Rattle.kmipa_attrs.proofs.AttrLemmas.{gives_fault}
use Rattle.kmipa_attrs.proofs.FilterLemmas.{wrong_filter_names, filter_with_rest, filter_seen}
use Rattle.kmipa_attrs.proofs.filtering.read_filter_children.Goals as goal

pub returns-in_err-names : goal.returns-in_err-names
returns-in_err-names c =
    let e : c.from_residual.result ≡ Err c.in_err-names.field-0.0 = search rules in
    rw e (wrong_filter_names c.args.maximum c.args.is_unknown (view_trees c.args.children) names_of c.in_err-names.field-0.0 c.in_err-names.ensures)

pub returns-in_err-found : goal.returns-in_err-found
returns-in_err-found c =
    let ts = view_trees c.args.children in
    let most = c.args.maximum in
    let is_unknown = c.args.is_unknown in
    let e : c.from_residual-in_err-found.result ≡ Err c.in_err-found.field-0.0 = search rules in
    let rest : c.both-rest.result ≡ both attr_number (judged_in ts) (types_in ts) = cc in
    let read : filter_in most is_unknown ts ≡ Err c.in_err-found.field-0.0 = filter_with_rest most is_unknown ts (names_of c.in_ok-names.names) c.both-rest.result c.in_ok-names.ensures rest ∙ ap (map_ok (λ r. filter_at most (is_loosened most is_unknown ts) (names_of c.in_ok-names.names, r))) c.in_err-found.was in
    rw e (gives_fault filter_of c.in_err-found.field-0.0 (filter_in most is_unknown ts) read)

pub returns : goal.returns
returns c =
    let ts = view_trees c.args.children in
    let rest : c.both-rest.result ≡ both attr_number (judged_in ts) (types_in ts) = cc in
    filter_seen c.args.maximum c.args.is_unknown ts (names_of c.in_ok-names.names) c.both-rest.result c.in_ok-found.found c.in_ok-found.field-0-1 c.maximum_of.result c.is_loose.result
    c.in_ok-names.ensures rest c.in_ok-found.was c.maximum_of.ensures c.is_loose.ensures
