use Rattle.std.proofs.Common.{refl, ◌∙◌}
use Rattle.kmipa_stream.proofs.StandingLemmas.{released_more}
use Rattle.kmipa_stream.proofs.auditor.Auditor.read_rest.Goals as goal

pub calls-preserved : goal.calls-preserved
calls-preserved c = record {
  stands = λ marks turns declared s. c.in_ok-read.ensures.stands marks turns declared (c.calls.invariant.stands marks turns declared s);
  below = released_more c.calls.self.seen.calls.items c.read.new.self.seen.calls.items c.calls.place (c.in_ok-read.ensures.let_go refl) c.calls.invariant.below;
  replay = c.in_ok-read.ensures.replay ∙ c.calls.invariant.replay;
  lowest = λ none. c.calls.invariant.lowest (c.in_ok-read.ensures.lowest none);
}
