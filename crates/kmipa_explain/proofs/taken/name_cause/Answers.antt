use Rattle.std.proofs.Common.{◌≡◌, ◌∙◌, ℕ, List, find, map, Some, None, sym, ap, subst}
use Rattle.kmipa_attrs.specs.Sets.{NameOf, name_of}
use Rattle.kmipa_attrs.specs.declared.name.Name.{Name}
use Rattle.kmipa_msgs.specs.Messages.{ask_of}
use Rattle.kmipa_record.specs.Declarations.{declaration_of}
use Rattle.kmipa_record.specs.Entries.{EntryOf, entry_of}
use Rattle.kmipa_record.specs.declared.entry.Entry.{Entry}
use Rattle.kmipa_explain.specs.Taken.{IsBorne, bears, names_asked, shared}
use Rattle.kmipa_explain.proofs.TakenLemmas.{bearer_missed, borne, name_missed}
use Rattle.kmipa_explain.proofs.taken.name_cause.Goals as goal

pub returns-in_default : goal.returns-in_default
returns-in_default c =
    let held = declaration_of c.args.held.now in
    let asked = (ask_of c.args.ask.now).asked in
    let Entries : List Entry → List EntryOf = map entry_of in
    let none : find (bears (names_asked asked)) held.entries ≡ None =
    ap (λ (es : List Entry). find (bears (names_asked asked)) (Entries es)) (sym c.deref.ensures.value)
    ∙ ap (λ (ns : List NameOf). find (bears ns) (Entries c.deref.result.now)) (sym c.names_asked-names.ensures) ∙ sym c.in_default.ensures in
    bearer_missed held asked c.requires.0 c.requires.1 c.requires.2 none

pub returns-in_default-first_shared : goal.returns-in_default-first_shared
returns-in_default-first_shared c =
    let held = declaration_of c.args.held.now in
    let asked = (ask_of c.args.ask.now).asked in
    let e = entry_of c.in-Some.bearer.now in
    let Entries : List Entry → List EntryOf = map entry_of in
    let Names : List Name → List NameOf = map name_of in
    let found : find (bears (names_asked asked)) held.entries ≡ Some e =
    ap (λ (es : List Entry). find (bears (names_asked asked)) (Entries es)) (sym c.deref.ensures.value)
    ∙ ap (λ (ns : List NameOf). find (bears ns) (Entries c.deref.result.now)) (sym c.names_asked-names.ensures) ∙ sym c.in-Some.ensures in
    let none : shared (names_asked asked) e.attributes.names ≡ None =
    ap (λ (ns : List Name). shared (names_asked asked) (Names ns)) (sym c.as_slice.ensures)
    ∙ ap (λ (ns : List NameOf). shared ns (Names c.as_slice.result.now)) (sym c.names_asked-names.ensures) ∙ sym c.in_default-first_shared.ensures in
    name_missed (names_asked asked) held.entries e found none

pub returns : goal.returns
returns c =
    let held = declaration_of c.args.held.now in
    let asked = (ask_of c.args.ask.now).asked in
    let e = entry_of c.in-Some.bearer.now in
    let name = name_of c.in-Some-first_shared.name.now in
    let Entries : List Entry → List EntryOf = map entry_of in
    let Names : List Name → List NameOf = map name_of in
    let found : find (bears (names_asked asked)) held.entries ≡ Some e =
    ap (λ (es : List Entry). find (bears (names_asked asked)) (Entries es)) (sym c.deref.ensures.value)
    ∙ ap (λ (ns : List NameOf). find (bears ns) (Entries c.deref.result.now)) (sym c.names_asked-names.ensures) ∙ sym c.in-Some.ensures in
    let one : shared (names_asked asked) e.attributes.names ≡ Some name =
    ap (λ (ns : List Name). shared (names_asked asked) (Names ns)) (sym c.as_slice.ensures)
    ∙ ap (λ (ns : List NameOf). shared ns (Names c.as_slice.result.now)) (sym c.names_asked-names.ensures) ∙ sym c.in-Some-first_shared.ensures in
    let N : NameOf → Type 0 = λ n. IsBorne held asked n e.id in
    let B : List ℕ → Type 0 = λ id. IsBorne held asked (name_of c.in_ok-copy.field-0) id in
    subst B (sym (c.in_ok-from_str.ensures.ok ∙ c.as_str.ensures.value)) (subst N (sym c.in_ok-copy.ensures) (borne held asked e name c.requires.2.unique found one))
