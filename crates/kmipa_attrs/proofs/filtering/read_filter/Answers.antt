use Rattle.std.proofs.Common.{ap, subst}
use Rattle.std.specs.Option.{option_map}
use Rattle.kmipa_ttlv.specs.Tree.{Trees}
use Rattle.kmipa_ttlv.specs.ViewTree.{view_tree}
use Rattle.kmipa_ttlv.specs.declared.view.View.{View}
use Rattle.kmipa_attrs.specs.Filters.{GivesFilter, filter_in}
use Rattle.kmipa_attrs.proofs.FilterLemmas.{absent_filter, present_filter}
use Rattle.kmipa_attrs.proofs.filtering.read_filter.Goals as goal
use denote.Bor.{Bor}

pub returns-in-Some : goal.returns-in-Some
returns-in-Some c = present_filter (option_map (λ (v : Bor View). view_tree v.now) c.args.attributes) (view_tree c.in-Some.item.now) c.args.maximum c.args.is_unknown c.read_filter_item.result (ap (option_map (λ (v : Bor View). view_tree v.now)) c.in-Some.is) c.read_filter_item.ensures

pub returns-in-None : goal.returns-in-None
returns-in-None c =
    let h = subst (λ (ts : Trees). GivesFilter c.read_filter_children.result (filter_in c.args.maximum c.args.is_unknown ts)) c.none.ensures c.read_filter_children.ensures in
    absent_filter (option_map (λ (v : Bor View). view_tree v.now) c.args.attributes) c.args.maximum c.args.is_unknown c.read_filter_children.result (ap (option_map (λ (v : Bor View). view_tree v.now)) c.in-None.is) h
