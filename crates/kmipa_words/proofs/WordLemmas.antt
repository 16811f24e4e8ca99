-- From what the parser says of its matches and errors to the words of the program.
use Rattle.std.proofs.Common.{refl, ◌≡◌, ◌⊎◌, List, [], ℕ, Some, None, Option, inl, inr, Bool, true, false, subst, ap, sym, ◌∙◌}
use Rattle.std.specs.Prelude.{codes, option_map, string_bytes, IfOk, IfSome, OnOk, Result, Ok, Err}
use Rattle.std.specs.Str.Parse.{IsNumeral, digits_value, without_leading_plus}
use Rattle.clap.specs.Words.{HasMatchesOf, Row, Text, Kinds, first_value, first_of, rows_of, kind_of, is_simple, is_simple_and_free, fault_of, subcommand_name_of, subcommand_of, subcommand_rows, subcommand_rows_of}
use Rattle.clap.specs.declared.parser.matches.ArgMatches.{ArgMatches}
use Rattle.clap.specs.declared.parser.matches.ArgMatches.TheViews.{out-ArgMatches, out-SubCommand}
use Rattle.std.specs.Box.{box_value}
use Rattle.std.specs.Result.{result_ok}
use Rattle.clap.specs.Kinds.{HasKind}
use Rattle.clap.proofs.WalkLemmas.{first_value-rows, one_text-rows}
use Rattle.clap.specs.Matches.{one_text}
use Rattle.clap.specs.declared.parser.matches.Found.{Found}
use Rattle.clap.specs.declared.error.Error.{Error}
use Rattle.clap.specs.declared.error.kind.ErrorKind.TheVariants.{OutOfMemory}
use Rattle.kmipa_jobs.specs.Statuses.{IsSilent}
use Rattle.kmipa_jobs.specs.declared.options.ShowOptions.{ShowOptions}
use Rattle.kmipa_words.specs.Words.{IsCheck, IsChain, IsFlag, IsJob, IsJudge, IsNumber, IsSearch, IsText, IsTold, status_of, program_app, with_settings, check_app, search_app, judge_app, chain_app, show_app, write_app}
use Rattle.kmipa_jobs.specs.declared.job.Job.{Job}
use Rattle.kmipa_jobs.specs.declared.job.Job.TheVariants.{Chain, Check, Judge, Search, Show, Write}
use Rattle.kmipa_words.specs.declared.words.Usage.{Usage}
use Rattle.clap.specs.Simple.{App, app_of_fields, new_app, with_subcommand}
use Rattle.clap.specs.declared.builder.command.Command.{Command}
use Rattle.clap.specs.declared.builder.command.Command.TheOpen.{Command-F}
use denote.Bor.{Bor}

-- a value that a getter found stands first in its row
pub at_row : (f : Found) (id v : Text) → Some v ≡ first_value f id → first_of id (rows_of f) ≡ Some v
at_row f id v e = sym (first_value-rows f id) ∙ sym e

-- the name that was found stands before the values
pub names : (m : ArgMatches) → subcommand_name_of m ≡ option_map (λ (p : Text × List Row). p.0) (subcommand_rows_of m)
names m = elim (out-ArgMatches m).subcommand as (λ o. option_map (λ b. (out-SubCommand (box_value b)).name.now) o ≡ option_map (λ (p : Text × List Row). p.0) (subcommand_rows o)) [
  | None ↦ refl
  | Some b ↦ refl
]

pub named : (m : ArgMatches) (name word : List ℕ) → name ≡ word → Some name ≡ subcommand_name_of m → Some word ≡ option_map (λ (p : Text × List Row). p.0) (subcommand_rows_of m)
named m name word is e = ap (λ (t : List ℕ). Some t) (sym is) ∙ e ∙ names m

-- what a getter found of an option is what its row has
pub text_found : (f : Found) (id : Text) (given : Option (Bor (List ℕ))) → option_map (λ t. t.now) given ≡ first_value f id → IsText id (rows_of f) given
text_found f id given e = e ∙ first_value-rows f id

-- the values that the getters found are those of the subcommand with this name
pub check_found : (f : Found) (job : Job) (o : Option (Text × List Row))
    → Some (codes "check") ≡ option_map (λ p. p.0) o → Some (rows_of f) ≡ option_map (λ p. p.1) o → IsCheck job (rows_of f) → IsJob job o
check_found f (Check files seconds words) None n e is = cc
check_found f (Check files seconds words) (Some found) n e is =
    let name : codes "check" ≡ found.0 = cc in
    let rows : rows_of f ≡ found.1 = cc in
    let P : List Row → Type 0 = λ r. IsCheck (Check files seconds words) r in
    (sym name, subst P rows is)
check_found f (Search files search words) o n e is = absurd is
check_found f (Chain folder budget seconds quiet leaves witnesses) o n e is = absurd is
check_found f (Judge files judging seals) o n e is = absurd is
check_found f (Show file options) o n e is = absurd is
check_found f (Write hex out) o n e is = absurd is

pub check_found_some : (f : Found) (found : Option Job) (o : Option (Text × List Row))
    → Some (codes "check") ≡ option_map (λ p. p.0) o → Some (rows_of f) ≡ option_map (λ p. p.1) o → IfSome found (λ job. IsCheck job (rows_of f)) → IfSome found (λ job. IsJob job o)
check_found_some f None o n e is = tt
check_found_some f (Some job) o n e is = check_found f job o n e is

-- a flag that a getter found
pub flag_found : (f : Found) (id : Text) (given : Bool) → (one_text f id ≡ None → given ≡ false) → (one_text f id ≡ Some (codes "true") → given ≡ true)
    → (one_text f id ≡ Some (codes "false") → given ≡ false) → IsFlag id (rows_of f) given
flag_found f id given none on off = record {
  set = λ e. on (one_text-rows f id ∙ e);
  unset = λ e. off (one_text-rows f id ∙ e);
  absent = λ e. none (one_text-rows f id ∙ e);
}

-- a number that a getter found
pub number_found : (f : Found) (id : Text) (n : ℕ) → (one_text f id ≡ None → Some n ≡ None)
    → ((t : Text) → one_text f id ≡ Some t → (IsNumeral 10 (without_leading_plus t)) × (n ≡ digits_value 10 (without_leading_plus t))) → IsNumber id (rows_of f) n
number_found f id n none value = go (one_text f id) refl
  where
    go : (o : Option Text) → one_text f id ≡ o → IsNumber id (rows_of f) n
    go None e = let clash : Some n ≡ None = none e in absurd cc
    go (Some t) e = record { text = t; is = sym (one_text-rows f id) ∙ e; numeral = (value t e).0; reads = (value t e).1 }

pub search_found : (f : Found) (job : Job) (o : Option (Text × List Row))
    → Some (codes "search") ≡ option_map (λ p. p.0) o → Some (rows_of f) ≡ option_map (λ p. p.1) o → IsSearch job (rows_of f) → IsJob job o
search_found f (Search files search words) None n e is = cc
search_found f (Search files search words) (Some found) n e is =
    let name : codes "search" ≡ found.0 = cc in
    let rows : rows_of f ≡ found.1 = cc in
    let P : List Row → Type 0 = λ r. IsSearch (Search files search words) r in
    (sym name, subst P rows is)
search_found f (Check files seconds words) o n e is = absurd is
search_found f (Chain folder budget seconds quiet leaves witnesses) o n e is = absurd is
search_found f (Judge files judging seals) o n e is = absurd is
search_found f (Show file options) o n e is = absurd is
search_found f (Write hex out) o n e is = absurd is

pub search_found_some : (f : Found) (found : Option Job) (o : Option (Text × List Row))
    → Some (codes "search") ≡ option_map (λ p. p.0) o → Some (rows_of f) ≡ option_map (λ p. p.1) o → IfSome found (λ job. IsSearch job (rows_of f)) → IfSome found (λ job. IsJob job o)
search_found_some f None o n e is = tt
search_found_some f (Some job) o n e is = search_found f job o n e is

pub judge_found : (f : Found) (job : Job) (o : Option (Text × List Row))
    → Some (codes "judge") ≡ option_map (λ p. p.0) o → Some (rows_of f) ≡ option_map (λ p. p.1) o → IsJudge job (rows_of f) → IsJob job o
judge_found f (Judge files judging seals) None n e is = cc
judge_found f (Judge files judging seals) (Some found) n e is =
    let name : codes "judge" ≡ found.0 = cc in
    let rows : rows_of f ≡ found.1 = cc in
    let P : List Row → Type 0 = λ r. IsJudge (Judge files judging seals) r in
    (sym name, subst P rows is)
judge_found f (Check files seconds words) o n e is = absurd is
judge_found f (Search files search words) o n e is = absurd is
judge_found f (Chain folder budget seconds quiet leaves witnesses) o n e is = absurd is
judge_found f (Show file options) o n e is = absurd is
judge_found f (Write hex out) o n e is = absurd is

pub judge_found_some : (f : Found) (found : Option Job) (o : Option (Text × List Row))
    → Some (codes "judge") ≡ option_map (λ p. p.0) o → Some (rows_of f) ≡ option_map (λ p. p.1) o → IfSome found (λ job. IsJudge job (rows_of f)) → IfSome found (λ job. IsJob job o)
judge_found_some f None o n e is = tt
judge_found_some f (Some job) o n e is = judge_found f job o n e is

pub chain_found : (f : Found) (job : Job) (o : Option (Text × List Row))
    → Some (codes "chain") ≡ option_map (λ p. p.0) o → Some (rows_of f) ≡ option_map (λ p. p.1) o → IsChain job (rows_of f) → IsJob job o
chain_found f (Chain folder budget seconds quiet leaves witnesses) None n e is = cc
chain_found f (Chain folder budget seconds quiet leaves witnesses) (Some found) n e is =
    let name : codes "chain" ≡ found.0 = cc in
    let rows : rows_of f ≡ found.1 = cc in
    let P : List Row → Type 0 = λ r. IsChain (Chain folder budget seconds quiet leaves witnesses) r in
    (sym name, subst P rows is)
chain_found f (Check files seconds words) o n e is = absurd is
chain_found f (Search files search words) o n e is = absurd is
chain_found f (Judge files judging seals) o n e is = absurd is
chain_found f (Show file options) o n e is = absurd is
chain_found f (Write hex out) o n e is = absurd is

pub chain_found_some : (f : Found) (found : Option Job) (o : Option (Text × List Row))
    → Some (codes "chain") ≡ option_map (λ p. p.0) o → Some (rows_of f) ≡ option_map (λ p. p.1) o → IfSome found (λ job. IsChain job (rows_of f)) → IfSome found (λ job. IsJob job o)
chain_found_some f None o n e is = tt
chain_found_some f (Some job) o n e is = chain_found f job o n e is

pub show_found : (f : Found) (file : Bor (List ℕ)) (options : ShowOptions) (o : Option (Text × List Row))
    → Some (codes "show") ≡ option_map (λ p. p.0) o → Some (rows_of f) ≡ option_map (λ p. p.1) o → Some file.now ≡ first_value f (codes "FILE")
    → IsFlag (codes "messages") (rows_of f) options.messages → IsFlag (codes "notes") (rows_of f) options.notes → IsJob (Show file options) o
show_found f file options None n e ef em en = cc
show_found f file options (Some found) n e ef em en =
    let name : codes "show" ≡ found.0 = cc in
    let rows : rows_of f ≡ found.1 = cc in
    let M : List Row → Type 0 = λ r. IsFlag (codes "messages") r options.messages in
    let N : List Row → Type 0 = λ r. IsFlag (codes "notes") r options.notes in
    (sym name, ap (first_of (codes "FILE")) (sym rows) ∙ at_row f (codes "FILE") file.now ef, subst M rows em, subst N rows en)

pub write_found : (f : Found) (hex out : Bor (List ℕ)) (o : Option (Text × List Row))
    → Some (codes "write") ≡ option_map (λ p. p.0) o → Some (rows_of f) ≡ option_map (λ p. p.1) o
    → Some hex.now ≡ first_value f (codes "HEX") → Some out.now ≡ first_value f (codes "OUT") → IsJob (Write hex out) o
write_found f hex out None n e eh eo = cc
write_found f hex out (Some found) n e eh eo =
    let name : codes "write" ≡ found.0 = cc in
    let rows : rows_of f ≡ found.1 = cc in (
      sym name,
      ap (first_of (codes "HEX")) (sym rows) ∙ at_row f (codes "HEX") hex.now eh,
      ap (first_of (codes "OUT")) (sym rows) ∙ at_row f (codes "OUT") out.now eo,
    )

-- what is reported of an error that a parse may have
pub reported : (kinds : Kinds) (e : Error) (u : Usage) → HasKind kinds e
    → IsSilent u.status (string_bytes u.text) ⊎ ((kind_of e ≡ OutOfMemory → ⊥) × (u.status ≡ status_of (kind_of e))) → IsTold kinds u
reported kinds e u has (inl silent) = inl silent
reported kinds e u (inl memory) (inr said) = absurd (said.0 memory)
reported kinds e u (inr among) (inr said) = inr (kind_of e, among, said.1)

-- what the settings make of a command
pub settings : (about version examples : Bor (List ℕ)) (bare reported versioned explained named helped : Command-F Command) → reported ≡ record bare { about = Some about }
    → versioned ≡ record reported { version = Some version } → explained ≡ record versioned { after_help = Some examples }
    → named ≡ record explained { subcommand_required = true } → helped ≡ record named { arg_required_else_help = true }
    → app_of_fields helped ≡ with_settings (app_of_fields bare)
settings about version examples bare reported versioned explained named helped et ev ex en eh =
    ap app_of_fields (eh ∙ ap (λ (f : Command-F Command). record f { arg_required_else_help = true })
    (en ∙ ap (λ (f : Command-F Command). record f { subcommand_required = true })
    (ex ∙ ap (λ (f : Command-F Command). record f { after_help = Some examples }) (ev ∙ ap (λ (f : Command-F Command). record f { version = Some version }) et))))

-- the whole command line, from its settings and its subcommands
pub whole : (bare check search judge chain show write one two three four five app : App) → bare ≡ new_app (codes "kmip_audit") → check ≡ check_app → search ≡ search_app
    → judge ≡ judge_app → chain ≡ chain_app → show ≡ show_app → write ≡ write_app → one ≡ with_subcommand (with_settings bare) check.top → two ≡ with_subcommand one search.top
    → three ≡ with_subcommand two judge.top → four ≡ with_subcommand three chain.top → five ≡ with_subcommand four show.top → app ≡ with_subcommand five write.top
    → app ≡ program_app
whole bare check search judge chain show write one two three four five app eb ec es ej en eh ew e1 e2 e3 e4 e5 e6 =
    let set = with_settings (new_app (codes "kmip_audit")) in
    let checks = with_subcommand set check_app.top in
    let searches = with_subcommand checks search_app.top in
    let judges = with_subcommand searches judge_app.top in
    let chains = with_subcommand judges chain_app.top in
    let shows = with_subcommand chains show_app.top in
    let first : one ≡ checks
    = e1 ∙ ap (λ (a : App). with_subcommand (with_settings a) check.top) eb ∙ ap (λ (a : App). with_subcommand set a.top) ec in
    let second : two ≡ searches
    = e2 ∙ ap (λ (a : App). with_subcommand a search.top) first ∙ ap (λ (a : App). with_subcommand checks a.top) es in
    let third : three ≡ judges
    = e3 ∙ ap (λ (a : App). with_subcommand a judge.top) second ∙ ap (λ (a : App). with_subcommand searches a.top) ej in
    let fourth : four ≡ chains
    = e4 ∙ ap (λ (a : App). with_subcommand a chain.top) third ∙ ap (λ (a : App). with_subcommand judges a.top) en in
    let fifth : five ≡ shows
    = e5 ∙ ap (λ (a : App). with_subcommand a show.top) fourth ∙ ap (λ (a : App). with_subcommand chains a.top) eh in
    e6 ∙ ap (λ (a : App). with_subcommand a write.top) fifth ∙ ap (λ (a : App). with_subcommand shows a.top) ew

-- a parse of the command line that succeeds has no fault
pub fits : {T E : Type 0} (r : Result T E) (app : App) (words : List Text) → app ≡ program_app → (is_simple_and_free app ≡ true → fault_of app words ≡ [])
    → OnOk r (fault_of program_app words ≡ [])
fits (Err e) app words is none = tt
fits (Ok x) app words is none =
    let P : App → Type 0 = λ a. fault_of a words ≡ [] in
    subst P is (none (ap is_simple_and_free is))

-- the job of a parse of the command line that succeeds is that of the words
pub parsed : {E : Type 0} (found : Option Job) (r : Result Job E) (app : App) (words : List Text) (m : ArgMatches) → app ≡ program_app → HasMatchesOf app words m
    → IfSome found (λ job. IsJob job (subcommand_rows_of m)) → found ≡ result_ok r → IfOk r (λ job. IsJob job (subcommand_of program_app words))
parsed found (Err e) app words m is has job ok = tt
parsed None (Ok x) app words m is has job ok = absurd cc
parsed (Some j) (Ok x) app words m is has job ok =
    let same : j ≡ x = cc in
    let P : Job → Type 0 = λ y. IsJob y (subcommand_rows_of m) in
    let R : Option (Text × List Row) → Type 0 = λ rows. IsJob x rows in
    subst R ((has (ap is_simple is)).1 ∙ ap (λ (a : App). subcommand_of a words) is) (subst P same job)

-- the kinds of a parse of the command line that failed
pub has_kind : (app : App) (words : List Text) (e : Error) → app ≡ program_app
    → (is_simple_and_free app ≡ true → HasKind (fault_of app words) e) → HasKind (fault_of program_app words) e
has_kind app words e is kinds =
    let P : App → Type 0 = λ a. HasKind (fault_of a words) e in
    subst P is (kinds (ap is_simple_and_free is))
