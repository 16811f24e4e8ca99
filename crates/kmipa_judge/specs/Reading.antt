-- What is read of files.
use Rattle.std.specs.Prelude.{ℕ, List}
use Rattle.kmipa_record.specs.Declarations.{AreDeclared, IsDeclarationWithin, declaration_of}
use Rattle.kmipa_record.specs.Transcripts.{IsTranscript, transcript_of}
use Rattle.kmipa_record.specs.declared.declaration.Declaration.{Declaration}
use Rattle.kmipa_record.specs.declared.reach.Reach.TheVariants.{Aside}
use Rattle.kmipa_record.specs.declared.transcript.Transcript.{Transcript}
use Rattle.kmipa_runs.specs.Knowing.{Known}

-- the bytes are this transcript, and it is known by its head
abbrev pub IsRecording : List ℕ → Transcript → Type 0
IsRecording bytes t = IsTranscript bytes (transcript_of t) × Known bytes t.head

-- the bytes are this declaration, within reach of what is set aside
abbrev pub IsGiven : List ℕ → Declaration → Type 0
IsGiven bytes d = IsDeclarationWithin Aside bytes (declaration_of d) × AreDeclared (declaration_of d)
