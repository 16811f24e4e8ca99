use Rattle.std.proofs.Common.{◌≡◌, map, take}
use Rattle.kmipa_record.specs.Transcripts.{transcript_of}
use Rattle.kmipa_check.specs.Steps as ever
use Rattle.kmipa_turns.specs.Steps.{step_of}
use Rattle.kmipa_trail.specs.Whole.{whole_step}
use Rattle.kmipa_trail.proofs.whole.whole_steps.Given as goal

abbrev pub invariant-loop-step : goal.invariant-loop-step
invariant-loop-step l = map step_of l.whole.items ≡ map (whole_step (transcript_of l.transcript)) (map ever.step_of (take l.step-index l.steps))
