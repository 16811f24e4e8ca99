-- The verdict on a turn that isn't taken. Not promised: `Verdicts` says what a no tells.
use Rattle.std.specs.Prelude.{ℕ, ◌+◌, Result, Ok, Err}
use Rattle.kmipa_ops.specs.declared.why.Why.{Why}
use Rattle.kmipa_batch.specs.declared.refusal.CallRefusal.{CallRefusal}
use Rattle.kmipa_batch.specs.declared.refusal.CallRefusal.TheVariants as refusal
use Rattle.kmipa_turns.specs.Steps.{StepOf}
use Rattle.kmipa_trail.specs.declared.fault.Fault.{Fault}
use Rattle.kmipa_trail.specs.declared.fault.Fault.TheVariants.{Memory}
use Rattle.kmipa_trail.specs.declared.verdict.Verdict.{Verdict}
use Rattle.kmipa_trail.specs.declared.verdict.Verdict.TheVariants.{No}

-- the turn of this step, counted from 0, is impossible at this item
abbrev pub refused_at : ℕ → StepOf → ℕ → Why → Verdict
refused_at turn s item why = No (record { turn = turn + 1; call = s.number; item = item; why = why }) s.stamp

abbrev pub refused_by : ℕ → StepOf → CallRefusal → Result Verdict Fault
refused_by turn s (refusal.Impossible item why) = Ok (refused_at turn s item why)
refused_by turn s refusal.Memory = Err Memory
