use Rattle.std.proofs.Common.{◌≡◌, ◌++◌, ℕ, List, [], refl, sym, ap, subst, ◌∙◌, append_assoc, arith, rules, IsTrue, true, false}
use Rattle.std.specs.Prelude.{codes}
use Rattle.std.specs.Io.{appended_bytes}
use Rattle.std.proofs.lemmas.List.{append-nil}
use Rattle.std.proofs.lemmas.Result.{on_ok_weaker}
use Rattle.kmipa_ttlv.specs.Tree.{Tree, Trees, structure, scalar, none, more, byte_string}
use Rattle.kmipa_ttlv.specs.ViewTree.{view_value_tree, view_tree, view_trees}
use Rattle.kmipa_ttlv.specs.Written.{depth, depths}
use Rattle.kmipa_runs.specs.Shown.{head, ShowsItem, ShowsItems, ShowsLine}
use Rattle.kmipa_runs.proofs.AppendLemmas.{split, starts, onto, starts_on, on_both}
use Rattle.kmipa_runs.proofs.InputLemmas.{levels}
use Rattle.kmipa_runs.proofs.ShownLemmas.{line_alone, head_of}
use Rattle.kmipa_runs.proofs.shown.+showing.Goals as goal

pub push_item-push_items-requires : goal.push_item-push_items-requires
push_item-push_items-requires g t c =
    let tag = c.args.item.now.tag.number in
    let e : view_tree c.args.item.now ≡ structure tag (view_trees c.in-Structure.children) = ap (view_value_tree tag) c.in-Structure.is in
    λ κs outlives. (
      omega (arith, c.requires.level, ap depth e, c.decreases),
      (outlives, (omega (arith, c.requires.level, ap depth e), λ asked. let fits = c.requires.room asked in omega (arith, fits, ap depth e))),
    )

pub push_item-returns-in_ok-print-in-Structure-clause-shows : goal.push_item-returns-in_ok-print-in-Structure-clause-shows
push_item-returns-in_ok-print-in-Structure-clause-shows g t c =
    let printed = g.P.Printer.printed in
    let tag = c.args.item.now.tag.number in
    let old = printed c.args.out.now in
    let lined = printed c.print.new.self in
    let new = printed c.push_items.new.out in
    let first = head c.args.level tag (codes "Structure") in
    let e : view_tree c.args.item.now ≡ structure tag (view_trees c.in-Structure.children) = ap (view_value_tree tag) c.in-Structure.is in
    let line : lined ≡ old ++ (first ++ codes "\n")
    = c.in_ok-print-in-Structure.ensures.prints ∙ ap (λ (l : List ℕ). l ++ codes " Structure\n") c.in_ok-push_head-in-Structure.ensures.pushes
    ∙ head_of old c.args.level tag (codes "Structure") (codes "\n") in
    let P : Tree → Type 0 = λ tr. ShowsItem c.args.options c.args.level tr (appended_bytes old new) in
    on_both c.push_items.result
    (λ below appends. subst P (sym e) (appended_bytes lined new, below, onto old lined new (first ++ codes "\n") line appends))
    c.push_items.ensures.shows c.push_items.ensures.appends

pub push_items-push_item-requires : goal.push_items-push_item-requires
push_items-push_item-requires g t c =
    let e = c.in-Some.ensures in
    λ κs outlives. (
      omega (arith, c.decreases),
      (outlives, (omega (arith, c.items.invariant.levels, ap depths e), λ asked. let fits = c.items.invariant.room asked in omega (arith, fits, ap depths e))),
    )

pub push_items-items-preserved : goal.push_items-items-preserved
push_items-items-preserved g t c =
    let printed = g.P.Printer.printed in
    let initial = printed c.args.out.now in
    let old = printed c.items.out in
    let new = printed c.push_item.new.out in
    let inv = c.items.invariant in
    let e : view_trees c.items.left ≡ more (view_tree c.in-Some.item) (view_trees c.next.new.self) = c.in-Some.ensures in
    let P : Trees → List ℕ → Type 0 = λ ts lines. ShowsItems c.args.options c.args.level ts lines in
    record {
      levels = omega (arith, inv.levels, ap depths e);
      room = λ asked. let fits = inv.room asked in omega (arith, fits, ap depths e);
      shown = λ others rest.
          let lines = appended_bytes old new ++ others in
          let joined : appended_bytes initial new ++ others ≡ appended_bytes initial old ++ lines
          = ap (λ (l : List ℕ). l ++ others) (onto initial old new (appended_bytes initial old) (split initial old inv.appends) c.in_ok-push_item.ensures.appends)
          ∙ append_assoc (appended_bytes initial old) (appended_bytes old new) others in
          let step = subst (λ (ts : Trees). P ts lines) (sym e) (appended_bytes old new, others, c.in_ok-push_item.ensures.shows, rest, refl) in
          subst (P (view_trees c.args.items)) (sym joined) (inv.shown lines step);
      appends = starts_on initial old new inv.appends c.in_ok-push_item.ensures.appends;
    }

pub push_items-returns-clause-shows : goal.push_items-returns-clause-shows
push_items-returns-clause-shows g t c =
    let printed = g.P.Printer.printed in
    let initial = printed c.args.out.now in
    let last = printed c.items.out in
    let none : view_trees c.items.left ≡ none = search rules in
    let P : Trees → Type 0 = λ ts. ShowsItems c.args.options c.args.level ts [] in
    let Q : List ℕ → Type 0 = λ lines. ShowsItems c.args.options c.args.level (view_trees c.args.items) lines in
    subst Q (append-nil (appended_bytes initial last)) (c.items.invariant.shown [] (subst P (sym none) refl))

pub push_item-returns-in_ok-push_line-in-Bytes-clause-shows : goal.push_item-returns-in_ok-push_line-in-Bytes-clause-shows
push_item-returns-in_ok-push_line-in-Bytes-clause-shows g t c =
    let printed = g.P.Printer.printed in
    let tag = c.args.item.now.tag.number in
    let options = c.args.options in
    let level = c.args.level in
    let old = printed c.args.out.now in
    let lined = printed c.push_line.new.out in
    let new = printed c.push_below.new.out in
    let line = appended_bytes old lined in
    let below = appended_bytes lined new in
    let e : view_tree c.args.item.now ≡ scalar tag (byte_string c.in-Bytes.bytes.now) = ap (view_value_tree tag) c.in-Bytes.is in
    let L : Tree → Type 0 = λ tr. ShowsLine options.notes level tr line in
    let P : Tree → Type 0 = λ tr. ShowsItem options level tr (appended_bytes old new) in
    let before = split old lined c.in_ok-push_line-in-Bytes.ensures.appends in
    on_both c.push_below.result
    (λ shows appends. subst P (sym e) (line, below, subst L e c.in_ok-push_line-in-Bytes.ensures.shows, shows, onto old lined new line before appends))
    c.push_below.ensures.shows c.push_below.ensures.appends

pub push_item-returns-in_default-clause-shows : goal.push_item-returns-in_default-clause-shows
push_item-returns-in_default-clause-shows g t c =
    let printed = g.P.Printer.printed in
    let item = c.args.item.now in
    let old = printed c.args.out.now in
    let new = printed c.push_line-in_default.new.out in
    on_ok_weaker c.push_line-in_default.result
    (λ shows. line_alone c.args.options.messages c.args.options.notes c.args.level item.tag.number item.value (appended_bytes old new) c.in_default.not-Bytes shows)
    c.push_line-in_default.ensures.shows

pub push_below-push_item-requires : goal.push_below-push_item-requires
push_below-push_item-requires g t c =
    let found = rw c.in-Some.is at c.message_of.ensures in
    let few = levels 16 (view_tree c.in-Some.message) c.args.bytes.now found.spelled.stands in
    let asked : IsTrue c.args.options.messages = search (rules, c.if-not-options.false) in
    let here = c.requires asked in
    λ κs outlives. (omega (arith, here, few, c.decreases), (outlives, (omega (arith, here, few), λ no. let clash : false ≡ true = no in absurd cc)))

pub push_item-returns-in_ok-print-in-Structure-clause-appends : goal.push_item-returns-in_ok-print-in-Structure-clause-appends
push_item-returns-in_ok-print-in-Structure-clause-appends g t c =
    let printed = g.P.Printer.printed in
    let old = printed c.args.out.now in
    let headed = printed c.push_head.new.out in
    let lined = printed c.print.new.self in
    let started = starts_on old headed lined (starts old _ headed c.in_ok-push_head-in-Structure.ensures.pushes) (starts headed _ lined c.in_ok-print-in-Structure.ensures.prints) in
    on_ok_weaker c.push_items.result (λ appends. starts_on old lined (printed c.push_items.new.out) started appends) c.push_items.ensures.appends

pub push_item-returns-in_ok-push_line-in-Bytes-clause-appends : goal.push_item-returns-in_ok-push_line-in-Bytes-clause-appends
push_item-returns-in_ok-push_line-in-Bytes-clause-appends g t c =
    let printed = g.P.Printer.printed in
    on_ok_weaker c.push_below.result
    (λ appends. starts_on (printed c.args.out.now) (printed c.push_line.new.out) (printed c.push_below.new.out) c.in_ok-push_line-in-Bytes.ensures.appends appends)
    c.push_below.ensures.appends
