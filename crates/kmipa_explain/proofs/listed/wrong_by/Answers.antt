use Rattle.std.proofs.Common.{rules, FitsSigned, ℤ, w64, to_z, of_z, map, subst, arith}
use Rattle.std.proofs.lemmas.Int.{to_z-of_z}
use Rattle.std.proofs.lemmas.List.{length-map}
use Rattle.kmipa_attrs.specs.Filters.{filter_of}
use Rattle.kmipa_msgs.specs.Messages.{lent}
use Rattle.kmipa_record.specs.Declarations.{declaration_of}
use Rattle.kmipa_explain.specs.Listed.{IsRight, TellsWrong, TellsWrongs}
use Rattle.kmipa_explain.proofs.IdLemmas.{ids_next}
use Rattle.kmipa_explain.proofs.KeptLemmas.{read_at}
use Rattle.kmipa_explain.proofs.ListedLemmas.{noted}
use Rattle.kmipa_explain.proofs.ToldLemmas.{told_all, told_more, told_none}
use Rattle.kmipa_explain.proofs.listed.wrong_by.Goals as goal

pub ids-init : goal.ids-init
ids-init c =
    let ids = map lent c.args.ids.now in
    let held = declaration_of c.args.held.now in
    let t = to_z w64 (of_z w64 c.args.t) in
    let q = filter_of c.args.filter.now in
    record { seen = c.new-seen.ensures; told = told_none (TellsWrong held t q ids) (IsRight held t q ids) ids c.new-wrong.result.items c.new-wrong.ensures.items }

pub ids-preserved : goal.ids-preserved
ids-preserved c =
    let ids = map lent c.args.ids.now in
    let held = declaration_of c.args.held.now in
    let t = to_z w64 (of_z w64 c.args.t) in
    let q = filter_of c.args.filter.now in
    record {
      seen = ids_next ids c.ids.place _ c.ids.seen c.add.new.self (read_at lent c.args.ids.now c.ids.place _ c.ids-test.true) c.ids.invariant.seen c.in_ok-is_new.ensures.added;
      told = told_more (TellsWrong held t q ids) (IsRight held t q ids) ids c.ids.place _ c.ids.wrong.items c.note.new.wrong.items
          (read_at lent c.args.ids.now c.ids.place _ c.ids-test.true)
          (noted held t q ids c.ids.place _ c.ids.seen c.ids.invariant.seen c.in_ok-is_new.is_new c.fault_in-fault.result c.ids.wrong.items c.note.new.wrong.items
          c.in_ok-is_new.ensures.new c.fault_in-fault.ensures c.in_ok-note.ensures)
          c.ids.invariant.told;
    }

pub returns : goal.returns
returns c =
    let fits : FitsSigned w64 c.args.t = search rules in
    let ids = map lent c.args.ids.now in
    let held = declaration_of c.args.held.now in
    let t = to_z w64 (of_z w64 c.args.t) in
    let q = filter_of c.args.filter.now in
    let P : ℤ → Type 0 = λ z. TellsWrongs held z q ids c.ids.wrong.items in
    subst P (to_z-of_z w64 c.args.t fits)
    (told_all (TellsWrong held t q ids) (IsRight held t q ids) ids c.ids.place c.ids.wrong.items (omega (arith, c.ids-test.false, length-map c.args.ids.now lent)) c.ids.invariant.told)
