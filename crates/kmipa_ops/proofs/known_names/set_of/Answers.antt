use Rattle.std.proofs.Common.{◌≡◌, ◌∙◌, ◌+◌, ◌++◌, ◌∷◌, [], map, take, subst, List, sym, ap}
use Rattle.std.proofs.lemmas.List.{take_all}
use Rattle.kmipa_attrs.specs.Sets.{NameOf, name_of}
use Rattle.kmipa_attrs.specs.declared.name.Name.{Name}
use Rattle.kmipa_ops.specs.KnownNames.{HasNames}
use Rattle.kmipa_ops.proofs.KnownLemmas.{known_none, known_more, take_more}
use Rattle.kmipa_ops.proofs.known_names.set_of.Goals as goal

pub loop-name-init : goal.loop-name-init
loop-name-init c = known_none c.new-set.result c.new-set.ensures.empty

pub loop-name-preserved : goal.loop-name-preserved
loop-name-preserved c =
    let ns : List Name = c.args.names.now in
    let i = c.loop-name.name-index in
    let grown : map name_of (take (i + 1) ns) ≡ map name_of (take i ns) ++ name_of c.name-item.result ∷ [] =
    take_more name_of ns i c.name-item.result c.loop-name-test.true ∙ ap (λ n. map name_of (take i ns) ++ name_of n ∷ []) (sym c.name-item.is) in
    subst (λ (names : List NameOf). HasNames names c.insert.new.self) (sym grown)
    (known_more (map name_of (take i ns)) (name_of c.name-item.result) c.of.result c.loop-name.set c.insert.new.self c.of.ensures c.in_ok-_is_new.ensures.keys c.loop-name.invariant)

pub returns : goal.returns
returns c =
    let ns : List Name = c.args.names.now in
    subst (λ (names : List NameOf). HasNames names c.loop-name.set) (ap (map name_of) (take_all c.loop-name.name-index ns c.loop-name-test.false)) c.loop-name.invariant
