use Rattle.std.proofs.Common.{◌∙◌, ap}
use Rattle.std.specs.List.{list_any}
use Rattle.kmipa_attrs.specs.Sets.{name_of}
use Rattle.kmipa_attrs.specs.declared.name.Name.{Name}
use Rattle.kmipa_store.specs.Queries.{is_name}
use Rattle.kmipa_store.proofs.QueryLemmas.{named_among}
use Rattle.kmipa_store.proofs.objects.has_name.Goals as goal

pub returns : goal.returns
returns c =
    c.is_among.ensures
    ∙ ap (list_any (λ (n : Name). is_name c.args.value.now c.args.kind (name_of n))) c.as_slice.ensures
    ∙ named_among c.args.value.now c.args.kind c.args.object.now.given.names.items
