use Rattle.std.proofs.Common.{rules, ◌≡◌, ◌∙◌, ℕ, ℤ, List, Option, Some, Bor, FitsSigned, w64, bytes_eq, find, map, option_map, sym, ap}
use Rattle.std.proofs.lemmas.Int.{to_z-of_z}
use Rattle.kmipa_msgs.specs.Messages.{maybe_lent}
use Rattle.kmipa_record.specs.Declarations.{declaration_of}
use Rattle.kmipa_record.specs.Entries.{EntryOf, entry_of}
use Rattle.kmipa_record.specs.declared.entry.Entry.{Entry}
use Rattle.kmipa_explain.specs.Meant.{object_held, text_of}
use Rattle.kmipa_explain.specs.Whence.{id_of_cause, subject_at}
use Rattle.kmipa_explain.proofs.subject.subject_held.Goals as goal

pub returns-in_ok-subject_at-in-Some-entry_named : goal.returns-in_ok-subject_at-in-Some-entry_named
returns-in_ok-subject_at-in-Some-entry_named c =
    let fits : FitsSigned w64 c.args.t = search rules in
    let held = declaration_of c.args.held.now in
    let id : List ℕ = c.in-Some.id.now in
    let entry = entry_of c.in-Some-entry_named.entry.now in
    let named : Some id ≡ id_of_cause c.args.cause.now (text_of c.args.meant.now) = ap maybe_lent (sym c.in-Some.is) ∙ c.id_of_cause.ensures in
    let found : Some entry ≡ find (λ (e : EntryOf). bytes_eq id e.id) (map entry_of c.deref.result.now) =
    ap (option_map (λ (e : Bor Entry). entry_of e.now)) (sym c.in-Some-entry_named.is) ∙ c.entry_named.ensures in
    let there : Some entry ≡ object_held held (Some id) = found ∙ ap (λ (es : List Entry). find (λ (e : EntryOf). bytes_eq id e.id) (map entry_of es)) c.deref.ensures.value in
    ap Some (c.in_ok-subject_at-in-Some-entry_named.ensures ∙ ap (λ (t : ℤ). subject_at t entry) (to_z-of_z w64 c.args.t fits))
    ∙ ap (option_map (subject_at c.args.t)) there
    ∙ ap (λ (o : Option (List ℕ)). option_map (subject_at c.args.t) (object_held held o)) named
