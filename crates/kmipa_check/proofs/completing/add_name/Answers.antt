use Rattle.std.proofs.Common.{◌≡◌, ◌∙◌, ◌++◌, ◌∷◌, [], sym, ap, map, cond, Bool, true, false}
use Rattle.std.proofs.lemmas.List.{map-append}
use Rattle.kmipa_attrs.specs.Sets.{name_of, names_of}
use Rattle.kmipa_attrs.proofs.NameLemmas.{has, has_of}
use Rattle.kmipa_check.proofs.completing.add_name.Goals as goal

pub returns-in_ok-push : goal.returns-in_ok-push
returns-in_ok-push c =
    let seen = names_of c.args.names.now in
    let n = name_of c.args.name in
    let h : has seen n ≡ false = sym (has_of c.args.names.now.items c.args.name) ∙ rw c.as_slice.ensures at (sym c.contains.ensures.value) ∙ c.if-not-contains.true in
    ap (map name_of) c.in_ok-push.ensures.ok ∙ map-append name_of c.args.names.now.items (c.args.name ∷ []) ∙ sym (ap (λ (b : Bool). cond b seen (seen ++ n ∷ [])) h)

pub returns-else-not-contains : goal.returns-else-not-contains
returns-else-not-contains c =
    let seen = names_of c.args.names.now in
    let n = name_of c.args.name in
    let h : has seen n ≡ true = sym (has_of c.args.names.now.items c.args.name) ∙ rw c.as_slice.ensures at (sym c.contains.ensures.value) ∙ c.if-not-contains.false in
    sym (ap (λ (b : Bool). cond b seen (seen ++ n ∷ [])) h)
