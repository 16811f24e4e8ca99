-- What the three files and the check come to together.
use Rattle.std.proofs.Common.{◌≡◌, ◌≢◌, List, ℕ, IsTrue, Result, Err, refl, subst, sym, ap, ◌∙◌}
use Rattle.kmipa_ttlv.specs.Input.{came_of, is_ended, IsFileOf}
use Rattle.kmipa_ttlv.specs.declared.input.Input.{Input}
use Rattle.kmipa_ttlv.proofs.ReadLemmas.{whole_file}
use Rattle.kmipa_msgs.specs.declared.rules.Unjudged.{Unjudged}
use Rattle.kmipa_msgs.specs.declared.rules.Unjudged.TheVariants.{Refused, SetAside, Unknown}
use Rattle.kmipa_msgs.specs.declared.rules.Visibility.TheVariants.{Everyone}
use Rattle.kmipa_record.specs.Declarations.{DeclarationOf, IsDeclarationWithin}
use Rattle.kmipa_record.specs.Marks.{MarkOf}
use Rattle.kmipa_record.specs.Taking.{HasTaken}
use Rattle.kmipa_record.specs.Transcripts.{IsTranscript}
use Rattle.kmipa_record.specs.Witnesses.{TurnOf, IsWitness}
use Rattle.kmipa_record.specs.declared.reach.Reach.TheVariants.{Aside}
use Rattle.kmipa_record.specs.declared.settings.Settings.{Settings}
use Rattle.kmipa_stream.specs.Opening.{Opens}
use Rattle.kmipa_stream.specs.declared.opening.Opening.{Opening}
use Rattle.kmipa_check.specs.declared.fault.CheckFault.{CheckFault}
use Rattle.kmipa_trail.specs.Ending.{ChecksInSight, TellsInSight}
use Rattle.kmipa_trail.specs.Verdicts.{Checks, TellsVerdict}
use Rattle.kmipa_trail.specs.declared.fault.Fault.{Fault}
use Rattle.kmipa_trail.specs.declared.verdict.Verdict.{Verdict}
use Rattle.kmipa_beside.specs.Audits.{AreJudgedBeside, AreJudgedInSight, AreUnjudgedBeside, AreUnjudgedInSight, ChecksAside, ChecksUnder, HidesAlone, SetsAside, SetsNothingAside}

-- the records of the three files, of which the declaration is such a one
pub record AreThese (Is : List ℕ → DeclarationOf → Type 0) (t d w : List ℕ) (marks : List MarkOf) (declared : DeclarationOf) (turns : List TurnOf) : Type 0 where
  pub transcript : IsTranscript t marks
  pub declaration : Is d declared
  pub witness : IsWitness w turns

pub sets_aside : (d : List ℕ) (settings : Settings) (o : Opening) (taken : HasTaken Aside Opens settings d o) → settings.unjudged ≢ Refused → SetsAside d taken.declared
sets_aside d settings o taken aside = record { declaration = taken.found; aside = λ same. aside (ap (λ (s : Settings). s.unjudged) (sym taken.named) ∙ same) }

pub sets_nothing_aside : (d : List ℕ) (settings : Settings) (o : Opening) (taken : HasTaken Aside Opens settings d o) → settings.unjudged ≡ Refused → settings.visibility ≡ Everyone
    → SetsNothingAside d taken.declared
sets_nothing_aside d settings o taken aside seen = record {
  declaration = taken.found;
  aside = ap (λ (s : Settings). s.unjudged) taken.named ∙ aside;
  seen = ap (λ (s : Settings). s.visibility) taken.named ∙ seen;
}

pub hides_alone : (d : List ℕ) (settings : Settings) (o : Opening) (taken : HasTaken Aside Opens settings d o) → settings.unjudged ≡ Refused → settings.visibility ≢ Everyone → HidesAlone d taken.declared
hides_alone d settings o taken aside hides = record {
  declaration = taken.found;
  aside = ap (λ (s : Settings). s.unjudged) taken.named ∙ aside;
  hides = λ same. hides (ap (λ (s : Settings). s.visibility) (sym taken.named) ∙ same);
}

pub these : {R : Type 0} (Is : List ℕ → DeclarationOf → Type 0) (ti di wi : Input R) (t d w : List ℕ) (marks : List MarkOf) (declared : DeclarationOf) (turns : List TurnOf)
    → IsFileOf t ti → IsFileOf d di → IsFileOf w wi → IsTranscript (came_of ti) marks → IsTrue (is_ended ti) → Is (came_of di) declared → IsTrue (is_ended di)
    → IsWitness (came_of wi) turns → IsTrue (is_ended wi) → AreThese Is t d w marks declared turns
these Is ti di wi t d w marks declared turns tf df wf p ended q dended s wended = record {
  transcript = whole_file t ti (λ bytes. IsTranscript bytes marks) ended tf p;
  declaration = whole_file d di (λ bytes. Is bytes declared) dended df q;
  witness = whole_file w wi (λ bytes. IsWitness bytes turns) wended wf s;
}

-- ---- what a check tells, by what becomes of what isn't judged

pub under_aside : (u : Unjudged) (marks : List MarkOf) (declared : DeclarationOf) (turns : List TurnOf) (result : Result Verdict CheckFault) → u ≢ Refused → ChecksUnder u marks declared turns result
    → ChecksAside marks declared turns result
under_aside Refused marks declared turns result aside h = absurd (aside refl)
under_aside SetAside marks declared turns result aside h = h
under_aside Unknown marks declared turns result aside h = h

pub under_refused : (u : Unjudged) (marks : List MarkOf) (declared : DeclarationOf) (turns : List TurnOf) (result : Result Verdict CheckFault) → u ≡ Refused → ChecksUnder u marks declared turns result
    → ChecksInSight marks declared turns result
under_refused u marks declared turns result is h = subst (λ (v : Unjudged). ChecksUnder v marks declared turns result) is h

pub opened_told : (marks : List MarkOf) (declared : DeclarationOf) (turns : List TurnOf) (u : Unjudged) → u ≢ Refused → (result : Result Verdict CheckFault) → ChecksAside marks declared turns result
    → ChecksUnder u marks declared turns result
opened_told marks declared turns Refused aside result h = absurd (aside refl)
opened_told marks declared turns SetAside aside result h = h
opened_told marks declared turns Unknown aside result h = h

-- ---- the verdict, or the fault, of the three

module _ (t d w : List ℕ) (marks : List MarkOf) (declared : DeclarationOf) (turns : List TurnOf) where
  pub judged_beside : (verdict : Verdict) → AreThese SetsAside t d w marks declared turns → TellsVerdict marks declared turns verdict → AreJudgedBeside t d w verdict
  judged_beside verdict r told =
      record { marks = marks; transcript = r.transcript; declared = declared; declaration = r.declaration; turns = turns; witness = r.witness; told = told }

  pub unjudged_beside : (fault : Fault) → AreThese SetsAside t d w marks declared turns → Checks marks declared turns (Err fault) → AreUnjudgedBeside t d w fault
  unjudged_beside fault r told =
      record { marks = marks; transcript = r.transcript; declared = declared; declaration = r.declaration; turns = turns; witness = r.witness; told = told }

  pub judged_in_sight : (verdict : Verdict) → AreThese HidesAlone t d w marks declared turns → TellsInSight marks declared turns verdict → AreJudgedInSight t d w verdict
  judged_in_sight verdict r told =
      record { marks = marks; transcript = r.transcript; declared = declared; declaration = r.declaration; turns = turns; witness = r.witness; told = told }

  pub unjudged_in_sight : (fault : CheckFault) → AreThese HidesAlone t d w marks declared turns → ChecksInSight marks declared turns (Err fault) → AreUnjudgedInSight t d w fault
  unjudged_in_sight fault r told =
      record { marks = marks; transcript = r.transcript; declared = declared; declaration = r.declaration; turns = turns; witness = r.witness; told = told }
