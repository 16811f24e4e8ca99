use Rattle.kmipa_ttlv.specs.Input.{is_failed}
use Rattle.kmipa_segments.proofs.ChainLemmas.{unread_search}
use Rattle.kmipa_segments.proofs.next.search_next_input.Goals as goal

pub returns-in-Err-clause-searches : goal.returns-in-Err-clause-searches
returns-in-Err-clause-searches g c = λ t tf.
    unread_search c.args.chain.now c.read_linked.new.links c.args.next.name.now t (is_failed c.read_linked.new.transcript) (g.W.Watch.seconds c.args.watch.now) c.args.next.budget c.in-Err.unjudged (c.in-Err.ensures.unread t tf)
