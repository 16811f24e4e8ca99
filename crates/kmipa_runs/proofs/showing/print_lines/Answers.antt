use Rattle.std.proofs.Common.{◌++◌, arith, refl}
use Rattle.kmipa_ttlv.specs.ViewTree.{view_trees}
use Rattle.kmipa_runs.proofs.PrintLemmas.{few_in_place, shown_in_pieces, starts_empty}
use Rattle.kmipa_runs.proofs.showing.print_lines.Goals as goal

pub push_items-requires : goal.push_items-requires
push_items-requires g c =
    let few = few_in_place c.args.bytes.now (view_trees c.spelled.result) c.requires.items c.spelled.ensures in
    record { level = omega (arith, few); room = λ _. omega (arith, few) }

pub returns-clause-shows : goal.returns-clause-shows
returns-clause-shows g c =
    let printed = g.P.Printer.printed in
    let old = c.args.pieces.now in
    let pushed = c.push_items.new.out in
    let new = c.finish.new.self in (
      refl,
      shown_in_pieces c.args.options c.args.bytes.now (view_trees c.spelled.result) (printed old.printer) (printed old.printer ++ old.held.items) old.held.items
          (printed pushed.printer ++ pushed.held.items) (printed new.printer) c.requires.items c.spelled.ensures c.requires.empty refl c.in_ok-finish.ensures.prints c.in_ok-push_items.ensures.shows,
    )

pub returns-clause-appends : goal.returns-clause-appends
returns-clause-appends g c =
    let printed = g.P.Printer.printed in
    let old = c.args.pieces.now in
    let pushed = c.push_items.new.out in
    starts_empty (printed old.printer) (printed old.printer ++ old.held.items) old.held.items (printed pushed.printer ++ pushed.held.items) (printed c.finish.new.self.printer)
    c.requires.empty refl c.in_ok-finish.ensures.prints c.in_ok-push_items.ensures.appends
