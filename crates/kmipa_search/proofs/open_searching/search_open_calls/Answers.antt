use Rattle.kmipa_search.proofs.open_searching.search_open_calls.Goals as goal

pub returns : goal.returns
returns g c = λ r are. c.or_at_moments.ensures (g.W.Watch.seconds c.args.watch.now) c.kept_steps-kept.result r c.kept_steps-kept.ensures (c.search_stamped-answered.ensures r are)
