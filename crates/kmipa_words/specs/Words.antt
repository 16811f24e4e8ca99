-- The command line: which words name which job, and what is reported where they name none.
use Rattle.std.specs.Prelude.{◌≡◌, ◌⊎◌, ℕ, List, [], ◌∷◌, codes, option_map, string_bytes, Bool, true, false, Option, Some, None}
use Rattle.std.specs.Str.Parse.{IsNumeral, digits_value, without_leading_plus}
use denote.Bor.{Bor}
use Rattle.clap.specs.Words.{App, Row, Rule, Text, Kinds, IsAmong, new_app, new_rule, with_rule, with_subcommand, first_of, one_of}
use Rattle.clap.specs.declared.builder.action.ArgAction.TheVariants.{Set, SetTrue}
use Rattle.clap.specs.declared.builder.value_parser.ValueParser.TheVariants.{Unsigned}
use Rattle.clap.specs.declared.error.kind.ErrorKind.{ErrorKind}
use Rattle.clap.specs.declared.error.kind.ErrorKind.TheVariants.{DisplayHelp, DisplayHelpOnMissingArgumentOrSubcommand, DisplayVersion, OutOfMemory}
use Rattle.kmipa_jobs.specs.declared.status.Status.{Status}
use Rattle.kmipa_jobs.specs.declared.status.Status.TheVariants.{Done, Failed, Usage as Mistake}
use Rattle.kmipa_jobs.specs.Statuses.{IsSilent}
use Rattle.kmipa_jobs.specs.declared.job.AnswerWords.{AnswerWords}
use Rattle.kmipa_jobs.specs.declared.job.FormWords.{FormWords}
use Rattle.kmipa_jobs.specs.declared.job.Job.{Job}
use Rattle.kmipa_jobs.specs.declared.job.Job.TheVariants.{Chain, Check, Judge, Search, Show, Write}
use Rattle.kmipa_jobs.specs.declared.job.SealWords.{SealWords}
use Rattle.kmipa_jobs.specs.declared.job.SegmentWords.{SegmentWords}
use Rattle.kmipa_words.specs.declared.words.Usage.{Usage}

-- a file that has to be named
abbrev pub file_rule : Text → Rule
file_rule name = record (new_rule name) { action = Some Set; required = true }

-- a file that may be named
abbrev pub maybe_file_rule : Text → Rule
maybe_file_rule name = record (new_rule name) { action = Some Set }

-- an option without a value
abbrev pub flag_rule : Text → Rule
flag_rule name = record (new_rule name) { long = Some name; action = Some SetTrue }

-- an option that has a value
abbrev pub option_rule : Text → Rule
option_rule name = record (new_rule name) { long = Some name; value_names = 1 }

-- `--budget N`, from 0 to 1,000,000,000; 1,000,000 where it isn't given
abbrev pub budget_rule : Rule
budget_rule = record (new_rule (codes "budget")) {
  long = Some (codes "budget");
  value_names = 1;
  defaults = codes "1000000" ∷ [];
  parser = Some (Unsigned 0 1_000_000_000);
}

-- `--seconds N`, from 0 to 1,000,000,000; 0 where it isn't given
abbrev pub seconds_rule : Rule
seconds_rule = record (new_rule (codes "seconds")) {
  long = Some (codes "seconds");
  value_names = 1;
  defaults = codes "0" ∷ [];
  parser = Some (Unsigned 0 1_000_000_000);
}

-- `check TRANSCRIPT DECLARATION WITNESS`
abbrev pub check_files_app : App
check_files_app = with_rule (with_rule (with_rule (new_app (codes "check")) (file_rule (codes "TRANSCRIPT")))
    (file_rule (codes "DECLARATION"))) (file_rule (codes "WITNESS"))

-- and after it `[--seconds N]`
abbrev pub check_limits_app : App
check_limits_app = with_rule check_files_app seconds_rule

-- and after it `[--explain] [--json]`
abbrev pub check_texts_app : App
check_texts_app = with_rule (with_rule check_limits_app (flag_rule (codes "explain"))) (flag_rule (codes "json"))

-- and after that `[--leaves OUT] [--not-before DATE]`
abbrev pub check_segment_app : App
check_segment_app = with_rule (with_rule check_texts_app (option_rule (codes "leaves"))) (option_rule (codes "not-before"))

-- and after that `[--head HEX] [--torn]`
abbrev pub check_app : App
check_app = with_rule (with_rule check_segment_app (option_rule (codes "head"))) (flag_rule (codes "torn"))

-- `search TRANSCRIPT DECLARATION OUT`
abbrev pub search_files_app : App
search_files_app = with_rule (with_rule (with_rule (new_app (codes "search")) (file_rule (codes "TRANSCRIPT")))
    (file_rule (codes "DECLARATION"))) (file_rule (codes "OUT"))

-- and after it `[--budget N] [--seconds N]`
abbrev pub search_limits_app : App
search_limits_app = with_rule (with_rule search_files_app budget_rule) seconds_rule

-- and after it `[--forced] [--open] [--quiet]`
abbrev pub search_steps_app : App
search_steps_app = with_rule (with_rule (with_rule search_limits_app (flag_rule (codes "forced"))) (flag_rule (codes "open"))) (flag_rule (codes "quiet"))

-- and after that `[--explain] [--json]`
abbrev pub search_texts_app : App
search_texts_app = with_rule (with_rule search_steps_app (flag_rule (codes "explain"))) (flag_rule (codes "json"))

-- and after that `[--leaves LEFT] [--not-before DATE]`
abbrev pub search_segment_app : App
search_segment_app = with_rule (with_rule search_texts_app (option_rule (codes "leaves"))) (option_rule (codes "not-before"))

-- and after that `[--head HEX] [--torn]`
abbrev pub search_app : App
search_app = with_rule (with_rule search_segment_app (option_rule (codes "head"))) (flag_rule (codes "torn"))

-- `judge TRANSCRIPT [DECLARATION]`
abbrev pub judge_files_app : App
judge_files_app = with_rule (with_rule (new_app (codes "judge")) (file_rule (codes "TRANSCRIPT"))) (maybe_file_rule (codes "DECLARATION"))

-- and after it `[--witness OUT] [--declaration OUT]`
abbrev pub judge_made_app : App
judge_made_app = with_rule (with_rule judge_files_app (option_rule (codes "witness"))) (option_rule (codes "declaration"))

-- and after that `[--budget N] [--seconds N] [--quiet] [--json]`
abbrev pub judge_steps_app : App
judge_steps_app = with_rule (with_rule (with_rule (with_rule judge_made_app budget_rule) seconds_rule) (flag_rule (codes "quiet"))) (flag_rule (codes "json"))

-- and after that `[--head HEX] [--torn]`
abbrev pub judge_app : App
judge_app = with_rule (with_rule judge_steps_app (option_rule (codes "head"))) (flag_rule (codes "torn"))

-- `chain DIR`
abbrev pub chain_folder_app : App
chain_folder_app = with_rule (new_app (codes "chain")) (file_rule (codes "DIR"))

-- and after it `[--budget N] [--seconds N] [--quiet]`
abbrev pub chain_steps_app : App
chain_steps_app = with_rule (with_rule (with_rule chain_folder_app budget_rule) seconds_rule) (flag_rule (codes "quiet"))

-- and after that `[--leaves OUT] [--witnesses FOLDER]`
abbrev pub chain_app : App
chain_app = with_rule (with_rule chain_steps_app (option_rule (codes "leaves"))) (option_rule (codes "witnesses"))

-- `show FILE [--messages] [--notes]`
abbrev pub show_app : App
show_app = with_rule (with_rule (with_rule (new_app (codes "show")) (file_rule (codes "FILE"))) (flag_rule (codes "messages"))) (flag_rule (codes "notes"))

-- `write HEX OUT`
abbrev pub write_app : App
write_app = with_rule (with_rule (new_app (codes "write")) (file_rule (codes "HEX"))) (file_rule (codes "OUT"))

-- it has a version, one of its subcommands has to be named, and nothing at all asks for help
abbrev pub with_settings : App → App
with_settings app = record app { top = record app.top { has_version = true; subcommand_required = true; arg_required_else_help = true } }

abbrev pub program_app : App
program_app = with_subcommand (with_subcommand (with_subcommand (with_subcommand (with_subcommand (with_subcommand (with_settings (new_app (codes "kmip_audit"))) check_app.top)
    search_app.top) judge_app.top) chain_app.top) show_app.top) write_app.top

-- the option is given or it isn't
pub record IsFlag (name : Text) (rows : List Row) (given : Bool) : Type 0 where
  pub set : one_of name rows ≡ Some (codes "true") → given ≡ true
  pub unset : one_of name rows ≡ Some (codes "false") → given ≡ false
  pub absent : one_of name rows ≡ None → given ≡ false

-- the number in decimal digits that the option has
pub record IsNumber (name : Text) (rows : List Row) (number : ℕ) : Type 0 where
  pub text : Text
  pub is : one_of name rows ≡ Some text
  pub numeral : IsNumeral 10 (without_leading_plus text)
  pub reads : number ≡ digits_value 10 (without_leading_plus text)

-- the text that the option has, where it is given
abbrev pub IsText : Text → List Row → Option (Bor Text) → Type 0
IsText name rows given = option_map (λ text. text.now) given ≡ first_of name rows

-- these values ask this of a segment
abbrev pub IsSegment : SegmentWords → List Row → Type 0
IsSegment segment rows = IsText (codes "leaves") rows segment.leaves × IsText (codes "not-before") rows segment.not_before

-- these values ask for this form
abbrev pub IsForm : FormWords → List Row → Type 0
IsForm form rows = IsFlag (codes "json") rows form.json × IsFlag (codes "explain") rows form.explain

-- these values ask this of the seals
abbrev pub IsSealed : SealWords → List Row → Type 0
IsSealed seals rows = IsText (codes "head") rows seals.head × IsFlag (codes "torn") rows seals.torn

-- these values ask for this answer
abbrev pub IsAnswer : AnswerWords → List Row → Type 0
IsAnswer words rows = IsForm words.form rows × IsSegment words.segment rows × IsSealed words.seals rows

-- these values are of this check
abbrev pub IsCheck : Job → List Row → Type 0
IsCheck (Check files seconds words) rows = (first_of (codes "TRANSCRIPT") rows ≡ Some files.transcript.now)
    × (first_of (codes "DECLARATION") rows ≡ Some files.declaration.now) × (first_of (codes "WITNESS") rows ≡ Some files.witness.now)
    × IsNumber (codes "seconds") rows seconds × IsAnswer words rows
IsCheck job rows = ⊥

-- these values are of this search
abbrev pub IsSearch : Job → List Row → Type 0
IsSearch (Search files search words) rows = (first_of (codes "TRANSCRIPT") rows ≡ Some files.transcript.now)
    × (first_of (codes "DECLARATION") rows ≡ Some files.declaration.now) × (first_of (codes "OUT") rows ≡ Some files.out.now)
    × IsNumber (codes "budget") rows search.budget × IsNumber (codes "seconds") rows search.seconds × IsFlag (codes "forced") rows search.forced × IsFlag (codes "open") rows search.open
    × IsFlag (codes "quiet") rows search.quiet × IsAnswer words rows
IsSearch job rows = ⊥

-- these values are of this judging
abbrev pub IsJudge : Job → List Row → Type 0
IsJudge (Judge files judging seals) rows = (first_of (codes "TRANSCRIPT") rows ≡ Some files.transcript.now) × IsText (codes "DECLARATION") rows files.declaration
    × IsText (codes "witness") rows files.witness × IsText (codes "declaration") rows files.used × IsNumber (codes "budget") rows judging.budget
    × IsNumber (codes "seconds") rows judging.seconds × IsFlag (codes "quiet") rows judging.quiet × IsFlag (codes "json") rows judging.json × IsSealed seals rows
IsJudge job rows = ⊥

-- these values are of this chain
abbrev pub IsChain : Job → List Row → Type 0
IsChain (Chain folder budget seconds quiet leaves witnesses) rows = (first_of (codes "DIR") rows ≡ Some folder.now) × IsNumber (codes "budget") rows budget × IsNumber (codes "seconds") rows seconds
    × IsFlag (codes "quiet") rows quiet × IsText (codes "leaves") rows leaves × IsText (codes "witnesses") rows witnesses
IsChain job rows = ⊥

-- the subcommand with this name and these values is this job
abbrev pub IsJob : Job → Option (Text × List Row) → Type 0
IsJob job None = ⊥
IsJob (Check files seconds words) (Some found) = (found.0 ≡ codes "check") × IsCheck (Check files seconds words) found.1
IsJob (Search files search words) (Some found) = (found.0 ≡ codes "search") × IsSearch (Search files search words) found.1
IsJob (Judge files judging seals) (Some found) = (found.0 ≡ codes "judge") × IsJudge (Judge files judging seals) found.1
IsJob (Chain folder budget seconds quiet leaves witnesses) (Some found) = (found.0 ≡ codes "chain") × IsChain (Chain folder budget seconds quiet leaves witnesses) found.1
IsJob (Show file options) (Some found) = (found.0 ≡ codes "show") × (first_of (codes "FILE") found.1 ≡ Some file.now)
    × IsFlag (codes "messages") found.1 options.messages × IsFlag (codes "notes") found.1 options.notes
IsJob (Write hex out) (Some found) = (found.0 ≡ codes "write") × (first_of (codes "HEX") found.1 ≡ Some hex.now) × (first_of (codes "OUT") found.1 ≡ Some out.now)

-- help and the version end well, and every other kind of mistake as a mistake
abbrev pub status_of : ErrorKind → Status
status_of DisplayHelp = Done
status_of DisplayHelpOnMissingArgumentOrSubcommand = Done
status_of DisplayVersion = Done
status_of OutOfMemory = Failed
status_of kind = Mistake

-- Help, or what is wrong with the words; or nothing, where memory ran out.
abbrev pub IsTold : Kinds → Usage → Type 0
IsTold kinds usage = IsSilent usage.status (string_bytes usage.text) ⊎ ((kind : ErrorKind) × IsAmong kind kinds × (usage.status ≡ status_of kind))
