use Rattle.std.proofs.Common.{◌≡◌, ◌∙◌, ◌++◌, Bool, true, false, not, [], ◌∷◌, map, sym, ap}
use Rattle.std.proofs.lemmas.List.{append-nil, map-append}
use Rattle.kmipa_attrs.specs.Sets.{NameOf, name_of}
use Rattle.kmipa_explain.specs.Kept.{one_if}
use Rattle.kmipa_explain.specs.Values.{is_stranger}
use Rattle.kmipa_explain.proofs.ValueLemmas.{stranger_is}
use Rattle.kmipa_explain.proofs.strangers.note.Goals as goal

pub returns-in_ok-push : goal.returns-in_ok-push
returns-in_ok-push c =
    let name = name_of c.args.name.now in
    let found = c.args.found.now.items in
    let is : is_stranger (map name_of c.args.known.now) name ≡ true = sym (stranger_is c.args.known.now name c.is_among.result c.is_among.ensures) ∙ ap not c.if-not-is_among.true in
    ap (map name_of) c.in_ok-push.ensures.items ∙ map-append name_of found (c.in_ok-copy.field-0 ∷ [])
    ∙ ap (λ (n : NameOf). map name_of found ++ n ∷ []) c.in_ok-copy.ensures ∙ ap (λ (b : Bool). map name_of found ++ one_if name b) (sym is)

pub returns-else-not-is_among : goal.returns-else-not-is_among
returns-else-not-is_among c =
    let name = name_of c.args.name.now in
    let found = c.args.found.now.items in
    let is : is_stranger (map name_of c.args.known.now) name ≡ false = sym (stranger_is c.args.known.now name c.is_among.result c.is_among.ensures) ∙ ap not c.if-not-is_among.false in
    sym (append-nil (map name_of found)) ∙ ap (λ (b : Bool). map name_of found ++ one_if name b) (sym is)
