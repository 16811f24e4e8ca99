use Rattle.std.proofs.Common.{◌∙◌, map, sym, arith}
use Rattle.std.proofs.lemmas.List.{length-map}
use Rattle.kmipa_attrs.specs.Sets.{NameOf, name_of}
use Rattle.kmipa_attrs.proofs.NameLemmas.{has, has_of}
use Rattle.kmipa_check.proofs.PlaceLemmas.{mapped_at}
use Rattle.kmipa_explain.proofs.KeptLemmas.{sought_found, sought_more, sought_none}
use Rattle.kmipa_explain.proofs.taken.first_shared.Goals as goal

pub names-preserved : goal.names-preserved
names-preserved c =
    let name = c.index-names-place.result in
    sought_more (λ (n : NameOf). has (map name_of c.args.others.now) n) (map name_of c.args.names.now) 0 c.names.place (name_of name)
    (mapped_at name_of c.args.names.now c.names.place name c.names-test.true c.index-names-place.is)
    (sym c.if-contains.false ∙ c.contains.ensures.value ∙ has_of c.args.others.now name) c.names.invariant

pub returns-then-contains : goal.returns-then-contains
returns-then-contains c =
    let name = c.index-names-place.result in
    sym (sought_found (λ (n : NameOf). has (map name_of c.args.others.now) n) (map name_of c.args.names.now) 0 c.names.place (name_of name)
    (mapped_at name_of c.args.names.now c.names.place name c.names-test.true c.index-names-place.is)
    (sym c.if-contains.true ∙ c.contains.ensures.value ∙ has_of c.args.others.now name) c.names.invariant)

pub returns : goal.returns
returns c =
    sym (sought_none (λ (n : NameOf). has (map name_of c.args.others.now) n) (map name_of c.args.names.now) 0 c.names.place
    (omega (arith, c.names-test.false, length-map c.args.names.now name_of)) c.names.invariant)
