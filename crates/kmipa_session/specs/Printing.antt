-- What is printed of a run, and the status that is left of its own.
use Rattle.std.specs.Prelude.{◌≡◌, ◌≢◌, ◌⊎◌, ◌++◌, ℕ, List, [], Bool, true, false, IsTrue, codes}
use Rattle.kmipa_jobs.specs.declared.status.Status.{Status}
use Rattle.kmipa_jobs.specs.declared.status.Status.TheVariants as status
use Rattle.kmipa_jobs.specs.declared.job.Form.{Form}
use Rattle.kmipa_jobs.specs.declared.job.Form.TheVariants as form
use Rattle.kmipa_session.specs.declared.voice.Voice.{Voice}
use Rattle.kmipa_session.specs.declared.voice.Voice.TheVariants.{Lines, Object}

-- whether a form has lines, or an object
abbrev pub voice_of : Form → Voice
voice_of form.Lines = Lines
voice_of form.Explained = Lines
voice_of form.Json = Object
voice_of form.ExplainedJson = Object

-- the object of a device that failed, or of memory that ran out, as its line
abbrev pub failure_line : List ℕ → List ℕ
failure_line name = codes "{\"auditor\":\"0.1.0\",\"verdict\":\"" ++ (name ++ codes "\"}\n")

-- what is printed where memory ran out
abbrev pub memory_text : Voice → List ℕ
memory_text Lines = codes "memory\n"
memory_text Object = failure_line (codes "memory")

-- and where a file can't be opened, read or written
abbrev pub device_text : Voice → List ℕ
device_text Lines = codes "device\n"
device_text Object = failure_line (codes "device")

-- the text of lines: none with `Failed` say that memory ran out
abbrev pub text_of : Voice → List ℕ → Status → List ℕ
text_of voice [] status.Failed = memory_text voice
text_of voice lines said = lines

-- these lines of a status are printed behind what was printed before, and it is left; or a print failed
abbrev pub TellsLines : Voice → List ℕ → Status → List ℕ → List ℕ → Bool → Status → Type 0
TellsLines voice lines said before after failed left = ((left ≡ said) × (after ≡ before ++ text_of voice lines said)) ⊎ ((left ≡ status.Failed) × IsTrue failed)

-- the line of what was refused: for want of memory, or else since a file can't be opened, read or written
abbrev pub trouble_text : Voice → Bool → List ℕ
trouble_text voice true = memory_text voice
trouble_text voice false = device_text voice

-- it is printed
abbrev pub TellsTrouble : Voice → Bool → List ℕ → List ℕ → Bool → Status → Type 0
TellsTrouble voice lacked before after failed left = TellsLines voice (trouble_text voice lacked) status.Failed before after failed left

-- behind the lines of a run that printed by itself: nothing, or, where nothing was printed, that memory ran out
abbrev pub TellsRest : Status → List ℕ → List ℕ → Bool → Status → Type 0
TellsRest said before after failed left = ((left ≡ said) × (after ≡ before))
    ⊎ ((said ≡ status.Failed) × (before ≡ []) × TellsLines Lines [] status.Failed before after failed left)
