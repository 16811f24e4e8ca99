use Rattle.std.proofs.Common.{rules, FitsSigned, ℤ, List, w64, map, sym, subst}
use Rattle.std.proofs.lemmas.Int.{to_z-of_z}
use Rattle.kmipa_attrs.specs.Filters.{filter_of}
use Rattle.kmipa_msgs.specs.Messages.{answer_of, ask_of, located_of}
use Rattle.kmipa_record.specs.Declarations.{declaration_of}
use Rattle.kmipa_record.specs.Entries.{entry_of}
use Rattle.kmipa_record.specs.declared.entry.Entry.{Entry}
use Rattle.kmipa_explain.specs.LeftOut.{TellsLeftOuts}
use Rattle.kmipa_explain.proofs.LeftOutLemmas.{are_left_out}
use Rattle.kmipa_explain.proofs.left_out.left_out_cause.Goals as goal

pub returns : goal.returns
returns c =
    let fits : FitsSigned w64 c.args.t = search rules in
    let q = filter_of c.in-Some.filter.now in
    let ids = located_of c.in-Some-located_in.located.now in
    let told = c.in_ok-objects.objects.items in
    let P : ℤ → Type 0 = λ z. TellsLeftOuts z q ids (map entry_of c.deref.result.now) told in
    let E : List Entry → Type 0 = λ es. TellsLeftOuts c.args.t q ids (map entry_of es) told in
    are_left_out (declaration_of c.args.held.now) c.args.t (ask_of c.args.ask.now) (answer_of c.args.answer.now) told q ids c.requires (sym c.in-Some.ensures) (sym c.in-Some-located_in.ensures)
    (subst E c.deref.ensures.value (subst P (to_z-of_z w64 c.args.t fits) c.in_ok-objects.ensures))
