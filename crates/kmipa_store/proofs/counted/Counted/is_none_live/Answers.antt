use Rattle.std.proofs.Common.{ap, ◌∙◌, sym, List}
use Rattle.kmipa_store.specs.Ledger.{Held}
use Rattle.kmipa_store.specs.Queries.{any_live_named}
use Rattle.kmipa_store.proofs.TallyLemmas.{none_counted}
use Rattle.kmipa_store.proofs.counted.Counted.is_none_live.Goals as goal

pub returns : goal.returns
returns c = λ e.
    ap (λ (hs : List Held). any_live_named c.args.value.now c.args.kind hs) (sym c.self.view_is)
    ∙ none_counted c.self.inside.tally c.self.inside.objects c.args.value.now c.args.kind c.self.invariant.0 (c.is_none.ensures.exact e) (c.is_none.ensures.none e)
