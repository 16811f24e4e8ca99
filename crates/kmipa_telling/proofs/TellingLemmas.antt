-- What is told in JSON of a verdict.
use Rattle.std.proofs.Common.{◌≡◌, ℤ, List, Option, codes, refl, sym, ap, ◌∙◌, subst}
use Rattle.kmipa_record.specs.Declarations.{DeclarationOf}
use Rattle.kmipa_record.specs.Marks.{MarkOf}
use Rattle.kmipa_record.specs.Witnesses.{TurnOf}
use Rattle.kmipa_check.specs.Stamps.{TellsStamp}
use Rattle.kmipa_check.specs.declared.verdict.Refused.{Refused}
use Rattle.kmipa_check.specs.declared.verdict.Verdict.{Verdict}
use Rattle.kmipa_check.specs.declared.verdict.Verdict.TheVariants as verdict
use Rattle.kmipa_stream.specs.declared.tally.Tally.{Tally}
use Rattle.kmipa_runs.specs.Lines.{TalliesRecorded}
use Rattle.kmipa_jobs.specs.declared.status.Status.TheVariants as status
use Rattle.kmipa_telling.specs.Telling.{TellsDate, TellsVerdict, refused_members, told_tally, verdict_named}
use Rattle.serde_json.specs.Data.{Members}

pub told_no : (marks : List MarkOf) (declared : DeclarationOf) (turns : List TurnOf) (v : Verdict) (refused : Refused) (number : ℤ) (stamp : Option ℤ) (before mid after : Members) → v ≡ verdict.No refused
    → number ≡ refused.call → TellsStamp marks turns number stamp → mid ≡ refused_members refused before → TellsDate stamp mid after → TellsVerdict marks declared turns v status.No before after
told_no marks declared turns v refused number stamp before mid after is same reported told dated =
    let P : Verdict → Type 0 = λ x. TellsVerdict marks declared turns x status.No before after in
    let Q : ℤ → Type 0 = λ n. TellsStamp marks turns n stamp in
    let R : Members → Type 0 = λ m. TellsDate stamp m after in
    subst P (sym is) (refl, (stamp, subst Q same reported, subst R told dated))

pub told_yes : (marks : List MarkOf) (declared : DeclarationOf) (turns : List TurnOf) (v : Verdict) (tally : Option Tally) (before mid after : Members) → v ≡ verdict.Yes
    → TalliesRecorded marks declared turns tally → mid ≡ verdict_named (codes "yes") before → after ≡ told_tally tally mid → TellsVerdict marks declared turns v status.Done before after
told_yes marks declared turns v tally before mid after is tallied named told =
    let P : Verdict → Type 0 = λ x. TellsVerdict marks declared turns x status.Done before after in
    subst P (sym is) (refl, (tally, tallied, told ∙ ap (told_tally tally) named))
