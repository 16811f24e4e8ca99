-- A declaration that sets nothing aside, and by which each client sees every object, is one by which calls are judged where nothing is set aside.
use Rattle.std.proofs.Common.{◌≡◌, ◌≢◌, ℕ, List, [], ◌∷◌, ◌++◌, refl, sym, ap, ◌∙◌, subst}
use Rattle.kmipa_ttlv.specs.Tree.{Tree}
use Rattle.kmipa_msgs.specs.declared.rules.Unjudged.TheVariants.{Unknown}
use Rattle.kmipa_msgs.specs.declared.rules.Visibility.TheVariants.{Everyone}
use Rattle.kmipa_record.specs.DeclarationRecords.{RecordOf, row, allow, own, entry, aside}
use Rattle.kmipa_record.specs.Declarations.{Admits, DeclarationOf, Follow, IsDeclarationWithin, IsHeader, IsRecordUnder, SayDeclaration, nothing_declared, with_record}
use Rattle.kmipa_record.specs.declared.declaration_header.DeclarationHeader.{DeclarationHeader}
use Rattle.kmipa_record.specs.declared.reach.Reach.{Reach}
use Rattle.kmipa_record.specs.declared.reach.Reach.TheVariants.{Aside, Judged}
use Rattle.kmipa_record.specs.declared.settings.Settings.{Settings}
use Rattle.kmipa_judge.specs.Declaring.{IsPlain}

-- records change no setting
settings_stay : (reach : Reach) (h : DeclarationHeader) (ahead : DeclarationOf) (items : List Tree) (declared : DeclarationOf) → Follow reach h ahead items declared
    → declared.settings ≡ ahead.settings
settings_stay reach h ahead [] declared follow = ap (λ (d : DeclarationOf). d.settings) (sym follow)
settings_stay reach h ahead (item ∷ items) declared follow = settings_stay reach h (with_record ahead follow.0) items declared follow.3

some_behind : (xs : List (List ℕ)) (id : List ℕ) → xs ++ id ∷ [] ≡ [] → ⊥
some_behind [] id e = cc
some_behind (x ∷ xs) id e = cc

module _ (h : DeclarationHeader) where
  record_asides : (ahead : DeclarationOf) (r : RecordOf) → (with_record ahead r).asides ≡ [] → ahead.asides ≡ []
  record_asides ahead (row r) e = e
  record_asides ahead (allow l) e = e
  record_asides ahead (own o) e = e
  record_asides ahead (entry x) e = e
  record_asides ahead (aside id) e = absurd (some_behind ahead.asides id e)

  admits_plain : (ahead : DeclarationOf) (r : RecordOf) → (with_record ahead r).asides ≡ [] → Admits Aside h r → Admits Judged h r
  admits_plain ahead (row r) e a = a
  admits_plain ahead (allow l) e a = a
  admits_plain ahead (own o) e a = a
  admits_plain ahead (entry x) e a = a
  admits_plain ahead (aside id) e a = absurd (some_behind ahead.asides id e)

  -- where nothing is set aside at the end, nothing is ahead
  none_ahead : (ahead : DeclarationOf) (items : List Tree) (declared : DeclarationOf) → Follow Aside h ahead items declared → declared.asides ≡ [] → ahead.asides ≡ []
  none_ahead ahead [] declared follow none = ap (λ (d : DeclarationOf). d.asides) follow ∙ none
  none_ahead ahead (item ∷ items) declared follow none = record_asides ahead follow.0 (none_ahead (with_record ahead follow.0) items declared follow.3 none)

  follow_plain : (ahead : DeclarationOf) (items : List Tree) (declared : DeclarationOf) → declared.asides ≡ [] → Follow Aside h ahead items declared → Follow Judged h ahead items declared
  follow_plain ahead [] declared none follow = follow
  follow_plain ahead (item ∷ items) declared none follow =
      let rest = none_ahead (with_record ahead follow.0) items declared follow.3 none in
      let under : IsRecordUnder Judged h item follow.0 = record { says = follow.1.says; fit = follow.1.fit; admitted = admits_plain ahead follow.0 rest follow.1.admitted } in
      (follow.0, under, follow.2, follow_plain (with_record ahead follow.0) items declared none follow.3)

pub within_plain : (bytes : List ℕ) (declared : DeclarationOf) → IsPlain declared → IsDeclarationWithin Aside bytes declared → IsDeclarationWithin Judged bytes declared
within_plain bytes declared plain w =
    let s = w.say in
    let same : declared.settings ≡ s.given.settings = settings_stay Aside s.given (nothing_declared s.given.settings) w.records declared s.follow in
    let P : Settings → Type 0 = λ x. (x.unjudged ≢ Unknown) × (x.visibility ≡ Everyone) in
    record {
      header = w.header;
      records = w.records;
      spelled = w.spelled;
      say = record {
        given = s.given;
        header_is = record { is = s.header_is.is; may = s.header_is.may; reached = subst P same (plain.known, plain.seen) };
        follow = follow_plain s.given (nothing_declared s.given.settings) w.records declared plain.none s.follow;
      };
    }
