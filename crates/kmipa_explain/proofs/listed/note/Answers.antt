use Rattle.std.proofs.Common.{Option, refl, sym, subst}
use Rattle.kmipa_explain.specs.Listed.{NotesFault}
use Rattle.kmipa_explain.specs.declared.held.ListFault.{ListFault}
use Rattle.kmipa_explain.proofs.listed.note.Goals as goal

pub returns : goal.returns
returns c =
    let P : Option ListFault → Type 0 = λ o. NotesFault c.args.id.now o c.args.wrong.now.items c.push.new.self.items in
    subst P (sym c.in-Some.is) (record { identifier = c.in_ok-from_str.field-0; fault = c.in-Some.fault }, c.in_ok-push.ensures.items, c.in_ok-from_str.ensures.ok, refl)
