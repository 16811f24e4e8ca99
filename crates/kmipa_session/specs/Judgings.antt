-- In which form a judging is told.
use Rattle.std.specs.Prelude.{ℕ, Bool, true, false, Option}
use Rattle.kmipa_judge.specs.declared.form.JudgeForm.{JudgeForm}
use Rattle.kmipa_judge.specs.declared.form.JudgeForm.TheVariants as form
use Rattle.kmipa_session.specs.declared.voice.Voice.{Voice}
use Rattle.kmipa_session.specs.declared.voice.Voice.TheVariants as voice

-- by whether an object is asked for
abbrev pub judge_voice : Bool → Voice
judge_voice true = voice.Object
judge_voice false = voice.Lines

-- of a torn transcript so many bytes are its own
abbrev pub judge_form : Bool → Option ℕ → JudgeForm
judge_form true torn = form.Object torn
judge_form false torn = form.Lines
