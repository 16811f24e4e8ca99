use Rattle.std.proofs.Common.{◌≤◌, ◌-◌, length, map}
use Rattle.std.specs.Prelude.{vec_len}
use Rattle.kmipa_check.specs.Grants.{grants_of}
use Rattle.kmipa_turns.specs.Recorded.{recorded_of}
use Rattle.kmipa_findings.specs.Seeking.{AreTakableTrials}
use Rattle.kmipa_findings.proofs.TriedLemmas.{AreTriedUpTo}
use Rattle.kmipa_findings.proofs.trial.trials_of.Given as goal

abbrev pub invariant-calls : goal.invariant-calls
invariant-calls l = record {
  takable : AreTakableTrials l.trials.items;
  within : vec_len l.trials ≤ length l.calls;
  tried : AreTriedUpTo (grants_of l.grants) (map recorded_of l.calls) l.trials.items;
}

abbrev pub decreases-calls : goal.decreases-calls
decreases-calls l = length l.calls - vec_len l.trials
