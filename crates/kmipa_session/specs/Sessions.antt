-- What a session did in a world, and what it printed of it.
use Rattle.std.specs.Prelude.{◌≡◌, ◌≢◌, ◌⊎◌, ◌++◌, ℕ, ℤ, List, [], Bool, true, false, IsTrue, is_some, option_map, Option, Some, None, Result, Ok, Err}
use denote.Bor.{Bor}
use Rattle.kmipa_ttlv.specs.Input.{came_of, is_failed}
use Rattle.kmipa_judge.specs.Runs.{JudgesFiles}
use Rattle.kmipa_runs.specs.Inputs.{Writes}
use Rattle.kmipa_jobs.specs.declared.options.ShowOptions.{ShowOptions}
use Rattle.kmipa_jobs.specs.declared.status.Status.{Status}
use Rattle.kmipa_jobs.specs.declared.status.Status.TheVariants as status
use Rattle.kmipa_session.specs.Checks.{Checks, ChecksInSegment}
use Rattle.kmipa_jobs.specs.Jobs.{asked_of}
use Rattle.kmipa_session.specs.Judgings.{judge_form, judge_voice}
use Rattle.kmipa_session.specs.Since.{IsNoMoment, IsSince}
use Rattle.kmipa_session.specs.Printing.{trouble_text, TellsLines, TellsRest, TellsTrouble, voice_of}
use Rattle.kmipa_session.specs.Sealing.{IsExpected, IsNoSeal, IsOpenedAs, SaysOf, is_verdict, own_length}
use Rattle.kmipa_session.specs.Searches.{Searches, SearchesInSegment, Shows}
use Rattle.kmipa_session.specs.Timing.{SaysInTime}
use Rattle.kmipa_session.specs.Worlds.{input_of, name_of, torn_of}
use Rattle.kmipa_session.specs.declared.did.Did.{Did}
use Rattle.kmipa_session.specs.declared.did.Did.TheVariants as did
use Rattle.kmipa_session.specs.declared.did.Said.{Said}
use Rattle.kmipa_jobs.specs.declared.job.AnswerWords.{AnswerWords}
use Rattle.kmipa_jobs.specs.declared.job.Asked.{Asked}
use Rattle.kmipa_jobs.specs.declared.job.Asked.TheVariants as asked
use Rattle.kmipa_jobs.specs.declared.job.CheckFiles.{CheckFiles}
use Rattle.kmipa_jobs.specs.declared.job.Form.{Form}
use Rattle.kmipa_jobs.specs.declared.job.Job.{Job}
use Rattle.kmipa_jobs.specs.declared.job.Job.TheVariants.{Chain, Check, Judge, Search, Show, Write}
use Rattle.kmipa_jobs.specs.declared.job.JudgeFiles.{JudgeFiles}
use Rattle.kmipa_jobs.specs.declared.job.JudgeWords.{JudgeWords}
use Rattle.kmipa_jobs.specs.declared.job.SealWords.{SealWords}
use Rattle.kmipa_jobs.specs.declared.job.SearchFiles.{SearchFiles}
use Rattle.kmipa_jobs.specs.declared.job.SearchWords.{SearchWords}
use Rattle.kmipa_jobs.specs.declared.job.SegmentWords.{SegmentWords}
use Rattle.kmipa_session.specs.declared.named.Named.{Named}
use Rattle.kmipa_session.specs.declared.voice.Voice.{Voice}
use Rattle.kmipa_session.specs.declared.voice.Voice.TheVariants as voice

-- ---- files that were read and made, where F are files that were opened, M files that were made, and E refusals

-- this file was made under this name, of these bytes, if the status is `Done`; else none is told as made
abbrev pub IsMade : {M : Type 0} → (M → List ℕ × List ℕ) → List ℕ → List ℕ → Status → Option M → Type 0
IsMade made name bytes said None = said ≢ status.Done
IsMade made name bytes said (Some file) = (said ≡ status.Done) × (made file ≡ (name, bytes))

-- so it is where the file is asked for; else none is told as made
abbrev pub IsMadeAsAsked : {M : Type 0} → (M → List ℕ × List ℕ) → Option (Bor (List ℕ)) → List ℕ → Status → Option M → Type 0
IsMadeAsAsked made None bytes said file = file ≡ None
IsMadeAsAsked made (Some name) bytes said file = IsMade made name.now bytes said file

-- This file was made under this name, of these bytes, where a verdict is said and there are any; else none is told as made.
abbrev pub IsLeft : {M : Type 0} → (M → List ℕ × List ℕ) → List ℕ → List ℕ → Status → Option M → Type 0
IsLeft made name bytes said None = (is_verdict said ≡ false) ⊎ (bytes ≡ [])
IsLeft made name bytes said (Some file) = (is_verdict said ≡ true) × (bytes ≢ []) × (made file ≡ (name, bytes))

-- so it is where the file is asked for; else none is told as made
abbrev pub IsLeftAsAsked : {M : Type 0} → (M → List ℕ × List ℕ) → Option (Bor (List ℕ)) → List ℕ → Status → Option M → Type 0
IsLeftAsAsked made None bytes said file = file ≡ None
IsLeftAsAsked made (Some name) bytes said file = IsLeft made name.now bytes said file

-- this file was opened by this name, or there is no name and none was opened
abbrev pub IsOpenedBy : {F : Type 0} → Option (Bor (List ℕ)) → Option (Named F) → Type 0
IsOpenedBy None None = Unit {0}
IsOpenedBy None (Some file) = ⊥
IsOpenedBy (Some name) None = ⊥
IsOpenedBy (Some name) (Some file) = name_of file ≡ name.now

-- nothing was done, since a word is no moment
abbrev pub IsUntold : {F M E : Type 0} → SegmentWords → Did F M E → Status → List ℕ → Type 0
IsUntold segment did.Nothing said lines = IsNoMoment segment.not_before × (said ≡ status.Usage) × (lines ≡ [])
IsUntold segment other said lines = ⊥

-- Nothing is printed, and the status is that of a mistake in the words; or that it is told was refused.
abbrev pub TellsMistake : {F M E : Type 0} → Did F M E → List ℕ → List ℕ → Status → Type 0
TellsMistake did.Nothing before after left = (after ≡ before) × (left ≡ status.Usage)
TellsMistake (did.Refused e) before after left = (after ≡ before) × (left ≡ status.Failed)
TellsMistake other before after left = ⊥

-- What is asked for is done, where the head's word spells the seal that is expected, or there is none; or the options don't go together, or the word
-- spells no seal, and that mistake is told.
abbrev pub RunsAsAsked : Option Asked → Option (Bor (List ℕ)) → (Option (List ℕ) → Asked → Type 0) → Type 0 → Type 0
RunsAsAsked None head Runs Mistake = Mistake
RunsAsAsked (Some asked) head Runs Mistake = (IsNoSeal head × Mistake) ⊎ ((expected : Option (List ℕ)) × IsExpected head expected × Runs expected asked)

-- `made` tells the name and the bytes of a file that was made, and `lacked` whether something was refused for want of memory.
module _ {F M E : Type 0} (made : M → List ℕ × List ℕ) (lacked : E → Bool) where
  -- nothing was done, since something was refused: a file was to be read and made, or there was trouble
  abbrev pub IsRefused : Voice → Did F M E → Status → List ℕ → Type 0
  IsRefused voice (did.Refused e) said lines = ((said ≡ status.Usage) × (lines ≡ [])) ⊎ ((said ≡ status.Failed) × (lines ≡ trouble_text voice (lacked e)))
  IsRefused voice other said lines = ⊥

  -- ---- what was done, with this status and these lines

  -- Files with these names were read for a check, the transcript with a close behind it where it was torn and might be, and this is what it says of them, and of the transcript's seals, where this head is
  -- expected, if one is; or that the seconds that it was given are over.
  abbrev pub HasChecked : CheckFiles → Bool → ℕ → Form → Option (List ℕ) → Did F M E → Status → List ℕ → Type 0
  HasChecked files torn seconds form expected (did.Checked ft fd fw) said lines = (name_of ft ≡ files.transcript.now) × IsOpenedAs torn ft × (name_of fd ≡ files.declaration.now)
      × (name_of fw ≡ files.witness.now)
      × SaysInTime (voice_of form) seconds expected ft fd fw (λ ran told. Checks form (own_length (torn_of ft)) (input_of ft) (input_of fd) (input_of fw) ran told) said lines
  HasChecked files torn seconds form expected other said lines = ⊥

  -- for the check of a segment, and what it leaves was made, where that is asked for
  abbrev pub HasCheckedSegment : CheckFiles → Bool → ℕ → SegmentWords → Option (List ℕ) → Did F M E → Status → List ℕ → Type 0
  HasCheckedSegment files torn seconds segment expected (did.CheckedSegment ft fd fw file) said lines = (name_of ft ≡ files.transcript.now) × IsOpenedAs torn ft
      × (name_of fd ≡ files.declaration.now) × (name_of fw ≡ files.witness.now)
      × ((since : Option ℤ) × IsSince segment.not_before since × ((bytes : List ℕ)
      × SaysInTime voice.Lines seconds expected ft fd fw
      (λ ran told. ChecksInSegment (is_some segment.leaves) since (input_of ft) (input_of fd) (input_of fw) ran told bytes) said lines
      × IsMadeAsAsked made segment.leaves bytes said file))
  HasCheckedSegment files torn seconds segment expected other said lines = ⊥

  -- for a search, and the witness that it found was made, if it found one
  abbrev pub HasSearched : SearchFiles → Bool → Form → SearchWords → Option (List ℕ) → Did F M E → Status → List ℕ → Type 0
  HasSearched files torn form words expected (did.Searched ft fd file) said lines = (name_of ft ≡ files.transcript.now) × IsOpenedAs torn ft × (name_of fd ≡ files.declaration.now)
      × ((bytes : List ℕ)
      × SaysOf (voice_of form) expected ft (λ ran told. Searches words.seconds form words (own_length (torn_of ft)) (input_of ft) (input_of fd) ran told bytes) said lines
      × IsMade made files.out.now bytes said file)
  HasSearched files torn form words expected other said lines = ⊥

  -- for the search of a segment, and what the witness leaves was made too, where that is asked for
  abbrev pub HasSearchedSegment : SearchFiles → Bool → SearchWords → SegmentWords → Option (List ℕ) → Did F M E → Status → List ℕ → Type 0
  HasSearchedSegment files torn words segment expected (did.SearchedSegment ft fd file left) said lines = (name_of ft ≡ files.transcript.now) × IsOpenedAs torn ft
      × (name_of fd ≡ files.declaration.now)
      × ((since : Option ℤ) × IsSince segment.not_before since × ((bytes more : List ℕ)
      × SaysOf voice.Lines expected ft
      (λ ran told. SearchesInSegment words.seconds words (is_some segment.leaves) since (input_of ft) (input_of fd) ran told bytes more) said lines
      × IsMade made files.out.now bytes said file × IsMadeAsAsked made segment.leaves more said left))
  HasSearchedSegment files torn words segment expected other said lines = ⊥

  -- A transcript with this name was judged, the transcript with a close behind it where it was torn and might be, by a declaration with this name, where one is
  -- given; and of what was made of it, at each verdict, these files were made that are asked for.
  abbrev pub HasJudged : JudgeFiles → Bool → JudgeWords → Option (List ℕ) → Did F M E → Status → List ℕ → Type 0
  HasJudged files torn words expected (did.Judged ft fd fw fu) said lines = (name_of ft ≡ files.transcript.now) × IsOpenedAs torn ft × IsOpenedBy files.declaration fd
      × ((witness used : List ℕ)
      × SaysOf (judge_voice words.json) expected ft
      (λ ran told. JudgesFiles words.seconds (judge_form words.json (own_length (torn_of ft))) (input_of ft) (option_map input_of fd) ran told witness used) said lines
      × IsLeftAsAsked made files.witness witness said fw × IsLeftAsAsked made files.used used said fu)
  HasJudged files torn words expected other said lines = ⊥

  -- A file with this name was read for its digits, and the items were made that they spell, if they do.
  abbrev pub HasWritten : List ℕ → List ℕ → Did F M E → Status → List ℕ → Type 0
  HasWritten hex out (did.Written f file) said lines = (name_of f ≡ hex)
      × ((bytes : List ℕ) × Writes (came_of (input_of f)) (is_failed (input_of f)) said lines bytes × IsMade made out bytes said file)
  HasWritten hex out other said lines = ⊥

  -- ---- and what was printed

  -- This was done, or it was refused, and its lines are printed.
  abbrev pub TellsWhat : Voice → (Did F M E → Status → List ℕ → Type 0) → Did F M E → List ℕ → List ℕ → Bool → Status → Type 0
  TellsWhat voice Has done before after failed left = (said : Status) × (lines : List ℕ)
      × (Has done said lines ⊎ IsRefused voice done said lines) × TellsLines voice lines said before after failed left

  -- what was done, or a refusal, is told
  abbrev pub TellsDone : Voice → Result (Said × Did F M E) E → Did F M E → List ℕ → List ℕ → Bool → Status → Type 0
  TellsDone voice (Ok it) done before after failed left = (done ≡ it.1) × TellsLines voice it.0.lines.items it.0.status before after failed left
  TellsDone voice (Err e) done before after failed left = (done ≡ did.Refused e) × TellsTrouble voice (lacked e) before after failed left

  -- a check of these files, where this head is expected, if one is
  abbrev pub RunsAskedCheck : CheckFiles → Bool → ℕ → SegmentWords → Option (List ℕ) → Asked → Did F M E → List ℕ → List ℕ → Bool → Status → Type 0
  RunsAskedCheck files torn seconds segment expected (asked.Files form) done before after failed left =
      TellsWhat (voice_of form) (HasChecked files torn seconds form expected) done before after failed left
  RunsAskedCheck files torn seconds segment expected asked.Segment done before after failed left =
      TellsWhat voice.Lines (λ what said lines. HasCheckedSegment files torn seconds segment expected what said lines ⊎ IsUntold segment what said lines) done before after failed left

  abbrev pub RunsCheck : CheckFiles → ℕ → AnswerWords → Did F M E → List ℕ → List ℕ → Bool → Status → Type 0
  RunsCheck files seconds words done before after failed left = RunsAsAsked (asked_of words.form words.segment) words.seals.head
      (λ expected asked. RunsAskedCheck files words.seals.torn seconds words.segment expected asked done before after failed left) (TellsMistake done before after left)

  abbrev pub RunsAskedSearch : SearchFiles → Bool → SearchWords → SegmentWords → Option (List ℕ) → Asked → Did F M E → List ℕ → List ℕ → Bool → Status → Type 0
  RunsAskedSearch files torn words segment expected (asked.Files form) done before after failed left =
      TellsWhat (voice_of form) (HasSearched files torn form words expected) done before after failed left
  RunsAskedSearch files torn words segment expected asked.Segment done before after failed left =
      TellsWhat voice.Lines (λ what said lines. HasSearchedSegment files torn words segment expected what said lines ⊎ IsUntold segment what said lines) done before after failed left

  abbrev pub RunsSearch : SearchFiles → SearchWords → AnswerWords → Did F M E → List ℕ → List ℕ → Bool → Status → Type 0
  RunsSearch files search words done before after failed left = RunsAsAsked (asked_of words.form words.segment) words.seals.head
      (λ expected asked. RunsAskedSearch files words.seals.torn search words.segment expected asked done before after failed left) (TellsMistake done before after left)

  -- A judging is done, where the head's word spells the seal that is expected, or there is none; or it spells no seal, and that mistake is told.
  abbrev pub RunsJudge : JudgeFiles → JudgeWords → SealWords → Did F M E → List ℕ → List ℕ → Bool → Status → Type 0
  RunsJudge files words seals done before after failed left = (IsNoSeal seals.head × TellsMistake done before after left)
      ⊎ ((expected : Option (List ℕ)) × IsExpected seals.head expected
      × TellsWhat (judge_voice words.json) (HasJudged files seals.torn words expected) done before after failed left)

  -- The items of a file with this name are shown, and printed as far as they could be; or it is refused.
  abbrev pub RunsShow : List ℕ → ShowOptions → Did F M E → List ℕ → List ℕ → Bool → Status → Type 0
  RunsShow name options (did.Shown f) before after failed left = (name_of f ≡ name)
      × (((said : Status) × (lines : List ℕ) × Shows options (input_of f) said lines × TellsRest said (before ++ lines) after failed left)
      ⊎ ((left ≡ status.Failed) × IsTrue failed))
  RunsShow name options (did.Refused e) before after failed left = TellsTrouble voice.Lines (lacked e) before after failed left
  RunsShow name options other before after failed left = ⊥

  abbrev pub RunsWrite : List ℕ → List ℕ → Did F M E → List ℕ → List ℕ → Bool → Status → Type 0
  RunsWrite hex out done before after failed left = TellsWhat voice.Lines (HasWritten hex out) done before after failed left

  -- A job is done. Of a chain nothing is claimed here.
  abbrev pub RunsJob : Job → Did F M E → List ℕ → List ℕ → Bool → Status → Type 0
  RunsJob (Check files seconds words) done before after failed left = RunsCheck files seconds words done before after failed left
  RunsJob (Search files search words) done before after failed left = RunsSearch files search words done before after failed left
  RunsJob (Judge files judging seals) done before after failed left = RunsJudge files judging seals done before after failed left
  RunsJob (Chain folder budget seconds quiet leaves witnesses) done before after failed left = Unit {0}
  RunsJob (Show file options) done before after failed left = RunsShow file.now options done before after failed left
  RunsJob (Write hex out) done before after failed left = RunsWrite hex.now out.now done before after failed left
