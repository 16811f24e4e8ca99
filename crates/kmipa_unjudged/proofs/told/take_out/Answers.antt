use Rattle.std.proofs.Common.{◌∙◌, ap, filter, sym, subst, map, List}
use Rattle.kmipa_unjudged.specs.Asides.{is_of_another}
use Rattle.kmipa_unjudged.specs.Known.{AreIds}
use Rattle.kmipa_unjudged.specs.Told.{NamedOf, named_of}
use Rattle.kmipa_unjudged.specs.declared.named.Named.{Named}
use Rattle.kmipa_unjudged.proofs.KnownLemmas.{ids_less}
use Rattle.kmipa_unjudged.proofs.told.take_out.Goals as goal

pub returns-clause-ids : goal.returns-clause-ids
returns-clause-ids c =
    let old = c.args.told.now in
    let id = c.args.id.now in
    let P : List NamedOf → Type 0 = λ ns. AreIds ns c.remove.new.self in
    subst P (sym (c.in_ok-told.ensures ∙ ap (λ (l : List Named). filter (is_of_another id) (map named_of l)) c.deref.ensures.value))
    (ids_less (map named_of old.list.items) id old.ids c.remove.new.self c.requires c.remove.ensures.updates.0)
