use Rattle.std.proofs.Common.{◌≡◌, List, ℕ, Ok, rules}
use Rattle.kmipa_ttlv.specs.Input.{came_of}
use Rattle.kmipa_jobs.specs.declared.status.Status.{Status}
use Rattle.kmipa_segments.specs.Chains.{TellsSearched}
use Rattle.kmipa_segments.specs.declared.segment_search.FoundSegment.{FoundSegment}
use Rattle.kmipa_segments.proofs.ChainingLemmas.{judged_printed, kept_next_somehow, next_somehow, unjudged_printed, was_done}
use Rattle.kmipa_segments.proofs.chaining.chain_search.Goals as goal

pub returns-in-Ok-clause-prints : goal.returns-in-Ok-clause-prints
returns-in-Ok-clause-prints g c =
    let same : c.deref.result.now ≡ c.search_next.new.out.items = search rules in
    let p = c.search_next.ensures.prints in
    let T : FoundSegment → Status → List ℕ → Type 0 = λ segment said lines. TellsSearched segment said lines in (
      p.0,
      p.1,
      judged_printed T c.args.next.name.now p.0 c.search_next.result c.append_named.result _ c.in-Ok.status c.deref.result.now c.new-told.result.items c.search_next.new.out.items c.in-Ok.is
          c.new-told.ensures.items same p.2 c.append_named.ensures.named,
    )

pub returns-clause-prints : goal.returns-clause-prints
returns-clause-prints g c =
    let p = c.search_next.ensures.prints in
    let T : FoundSegment → Status → List ℕ → Type 0 = λ segment said lines. TellsSearched segment said lines in
    (p.0, p.1, unjudged_printed T c.args.next.name.now p.0 c.search_next.result c.tell_unjudged.result _ c.in-Err.unjudged _ c.in-Err.is p.2 c.tell_unjudged.ensures.tells)

pub returns-in-Ok-clause-goes_on : goal.returns-in-Ok-clause-goes_on
returns-in-Ok-clause-goes_on g c = λ done.
    let judged = was_done c.args.next.name.now _ c.in-Ok.status _ _ c.append_named.ensures.named done in
    let went = c.search_next.ensures.goes_on cc in (
      next_somehow c.args.chain.now c.search_next.new.self c.args.next.name.now (came_of c.search_next.new.transcript) went.0,
      went.1,
    )

pub returns-in-Ok-clause-kept : goal.returns-in-Ok-clause-kept
returns-in-Ok-clause-kept g c = λ done.
    let judged = was_done c.args.next.name.now _ c.in-Ok.status _ _ c.append_named.ensures.named done in
    let went = c.search_next.ensures.goes_on cc in
    kept_next_somehow c.args.chain.now c.search_next.new.self c.args.next.name.now (came_of c.search_next.new.transcript) went.0
