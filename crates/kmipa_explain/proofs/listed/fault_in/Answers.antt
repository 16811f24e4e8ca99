use Rattle.std.proofs.Common.{rules, FitsSigned, ◌≡◌, ◌∙◌, ℤ, Bool, cond, find, bytes_eq, List, Some, w64, map, sym, ap, subst}
use Rattle.std.proofs.lemmas.Int.{to_z-of_z}
use Rattle.kmipa_attrs.specs.Filters.{filter_of}
use Rattle.kmipa_record.specs.Declarations.{declaration_of}
use Rattle.kmipa_record.specs.Entries.{EntryOf, entry_of}
use Rattle.kmipa_record.specs.declared.entry.Entry.{Entry}
use Rattle.kmipa_explain.specs.Listed.{object_fault}
use Rattle.kmipa_explain.specs.Meant.{object_held}
use Rattle.kmipa_explain.specs.declared.held.ListFault.TheVariants as fault
use Rattle.kmipa_explain.proofs.listed.fault_in.Goals as goal

pub returns-in-Some : goal.returns-in-Some
returns-in-Some c =
    let fits : FitsSigned w64 c.args.t = search rules in
    let q = filter_of c.args.filter.now in
    let held = declaration_of c.args.held.now in
    let entry = entry_of c.in-Some.entry.now in
    let id = c.args.id.now in
    let F : List Entry → Type 0 = λ es. Some entry ≡ find (λ (e : EntryOf). bytes_eq id e.id) (map entry_of es) in
    c.misfit_of.ensures
    ∙ ap (λ (z : ℤ). object_fault z q (Some entry)) (to_z-of_z w64 c.args.t fits)
    ∙ ap (object_fault c.args.t q) (subst F c.deref.ensures.value c.in-Some.ensures)
    ∙ ap (λ (b : Bool). cond b (object_fault c.args.t q (object_held held (Some id))) (Some fault.Again)) (sym c.if-not-is_new.false)
