use Rattle.std.proofs.Common.{rules, FitsSigned, ◌≡◌, ◌∙◌, w64, not, find, Some, None, ap, subst}
use Rattle.std.proofs.lemmas.Int.{to_z-of_z}
use Rattle.kmipa_attrs.specs.Filters.{filter_of}
use Rattle.kmipa_object.specs.Life.{state}
use Rattle.kmipa_object.specs.declared.state.State.{State}
use Rattle.kmipa_record.specs.Entries.{entry_of}
use Rattle.kmipa_check.specs.Described.{card_declared, dates_in}
use Rattle.kmipa_explain.specs.Filters.{filters, refuses}
use Rattle.kmipa_explain.proofs.FilterLemmas.{must_is}
use Rattle.kmipa_explain.proofs.filters.must_fit.Goals as goal

pub returns-in-Some : goal.returns-in-Some
returns-in-Some c =
    let fits : FitsSigned w64 c.args.t = search rules in
    let q = filter_of c.args.filter.now in
    let e = entry_of c.args.entry.now in
    let P : State → Type 0 = λ s. Some c.in-Some.field-0 ≡ find (refuses q s (card_declared e)) filters in
    must_is q (state (dates_in e.attributes) c.args.t) (card_declared e) (Some c.in-Some.field-0) (subst P (c.state_of.ensures ∙ ap (state (dates_in e.attributes)) (to_z-of_z w64 c.args.t fits)) c.in-Some.ensures)

pub returns-in-None : goal.returns-in-None
returns-in-None c =
    let fits : FitsSigned w64 c.args.t = search rules in
    let q = filter_of c.args.filter.now in
    let e = entry_of c.args.entry.now in
    let P : State → Type 0 = λ s. None ≡ find (refuses q s (card_declared e)) filters in
    ap not c.is_doubtful.ensures ∙ must_is q (state (dates_in e.attributes) c.args.t) (card_declared e) None (subst P (c.state_of.ensures ∙ ap (state (dates_in e.attributes)) (to_z-of_z w64 c.args.t fits)) c.in-None.ensures)
