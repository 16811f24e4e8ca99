use Rattle.std.proofs.Common.{◌∙◌, length, map, refl, ap, arith}
use Rattle.std.proofs.lemmas.Option.{slice_get_read}
use Rattle.kmipa_attrs.specs.Sets.{name_of}
use Rattle.kmipa_attrs.specs.declared.name.Name.{Name}
use Rattle.kmipa_explain.specs.Values.{is_stranger}
use Rattle.kmipa_explain.proofs.KeptLemmas.{kept_all, kept_more, kept_none}
use Rattle.kmipa_explain.proofs.ValueLemmas.{filter_map}
use Rattle.kmipa_explain.proofs.strangers.strangers.Goals as goal

pub names-init : goal.names-init
names-init c = kept_none (λ (n : Name). is_stranger (map name_of c.args.known.now) (name_of n)) name_of c.args.names.now 0 (map name_of c.new-found.result.items) (ap (map name_of) c.new-found.ensures.items)

pub names-preserved : goal.names-preserved
names-preserved c =
    let name = c.index-names-place.result in
    let known = map name_of c.args.known.now in
    kept_more (λ (n : Name). is_stranger known (name_of n)) name_of c.args.names.now 0 c.names.place name (map name_of c.names.found.items) (map name_of c.note.new.found.items)
    (is_stranger known (name_of name)) (slice_get_read c.args.names.now (length c.args.names.now) c.names.place name refl c.names-test.true c.index-names-place.is) refl c.in_ok-note.ensures c.names.invariant

pub returns : goal.returns
returns c =
    let known = map name_of c.args.known.now in
    kept_all (λ (n : Name). is_stranger known (name_of n)) name_of c.args.names.now 0 c.names.place (map name_of c.names.found.items) (omega (arith, c.names-test.false)) c.names.invariant
    ∙ filter_map name_of (is_stranger known) c.args.names.now
