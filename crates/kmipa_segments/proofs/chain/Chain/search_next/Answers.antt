use Rattle.std.proofs.Common.{Ok, Err, refl, sym, subst}
use Rattle.kmipa_ttlv.specs.Input.{came_of, is_failed}
use Rattle.kmipa_ttlv.proofs.ReadLemmas.{itself}
use Rattle.kmipa_links.specs.declared.links.Links.{Links}
use Rattle.kmipa_segments.specs.Chains.{SearchesNext}
use Rattle.kmipa_segments.proofs.ChainLemmas.{goes_on_somehow, leaves_where_found}
use Rattle.kmipa_segments.proofs.chain.Chain.search_next.Goals as goal

pub take_found-requires-clause-leaves : goal.take_found-requires-clause-leaves
take_found-requires-clause-leaves g c =
    let t = c.search_next_input.new.transcript in
    leaves_where_found c.args.self.now c.search_next_input.new.chain.links c.args.next.name.now c.in-Ok.segment (came_of t) (g.W.Watch.seconds c.args.watch.now) c.args.next.budget (c.in-Ok.ensures.searches (came_of t) (itself t))

pub returns-in-Ok-clause-prints : goal.returns-in-Ok-clause-prints
returns-in-Ok-clause-prints g c =
    let ft = is_failed c.search_next_input.new.transcript in (
      Ok c.in-Ok.segment,
      λ t it.
          let L : Links → Type 0 = λ l. SearchesNext c.args.self.now l c.args.next.name.now t ft (g.W.Watch.seconds c.args.watch.now) c.args.next.budget (Ok c.in-Ok.segment) in
          subst L (sym c.take_found.ensures.links) (c.in-Ok.ensures.searches t it),
      c.take_found.ensures.prints,
    )

pub returns-in-Err-clause-prints : goal.returns-in-Err-clause-prints
returns-in-Err-clause-prints g c = (Err c.in-Err.unjudged, c.in-Err.ensures.searches, refl)

pub returns-in-Ok-clause-goes_on : goal.returns-in-Ok-clause-goes_on
returns-in-Ok-clause-goes_on g c = λ done.
    let t = c.search_next_input.new.transcript in
    let searched = c.in-Ok.ensures.searches (came_of t) (itself t) in (
      goes_on_somehow c.args.self.now c.search_next_input.new.chain.links c.args.next.name.now c.in-Ok.segment (came_of t) (g.W.Watch.seconds c.args.watch.now) c.args.next.budget searched c.take_found.new.self (c.take_found.ensures.taken cc).0
          (c.take_found.ensures.taken cc).1
          c.take_found.ensures.links,
      c.in-Ok.ensures.ended,
    )
