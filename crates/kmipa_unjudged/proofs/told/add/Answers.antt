use Rattle.std.proofs.Common.{◌≡◌, ◌∙◌, ◌++◌, ap, sym, subst, map, List, [], ◌∷◌}
use Rattle.kmipa_object.proofs.ListLemmas.{map-push}
use Rattle.kmipa_unjudged.specs.Known.{AreIds}
use Rattle.kmipa_unjudged.specs.Told.{NamedOf, named_of}
use Rattle.kmipa_unjudged.proofs.KnownLemmas.{ids_more}
use Rattle.kmipa_unjudged.proofs.told.add.Goals as goal

pub returns-clause-ids : goal.returns-clause-ids
returns-clause-ids c =
    let old = c.args.told.now in
    let told = map named_of old.list.items in
    let one = named_of c.args.named in
    let new : map named_of c.push.new.self.items ≡ told ++ one ∷ [] = ap (map named_of) c.in_ok-push.ensures.items ∙ map-push named_of old.list.items c.args.named in
    let P : List NamedOf → Type 0 = λ ns. AreIds ns c.insert.new.self in
    subst P (sym new) (ids_more told one old.ids c.insert.new.self c.requires c.in_ok-insert.ensures.updates.0)
