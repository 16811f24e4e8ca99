-- A declaration that sets nothing aside, and by which clients see every object, read as far as the others are.
use Rattle.std.proofs.Common.{◌≡◌, ℕ, List, [], ◌∷◌, sym, ap, ◌∙◌}
use Rattle.kmipa_ttlv.specs.Tree.{Tree}
use Rattle.kmipa_msgs.specs.declared.rules.Unjudged.TheVariants.{Refused, Unknown}
use Rattle.kmipa_msgs.specs.declared.rules.Visibility.TheVariants.{Everyone}
use Rattle.kmipa_record.specs.DeclarationRecords.{RecordOf, row, allow, own, entry, aside}
use Rattle.kmipa_record.specs.Declarations.{Admits, DeclarationOf, Follow, IsDeclarationWithin, IsHeader, IsRecordUnder, SayDeclaration, nothing_declared, with_record}
use Rattle.kmipa_record.specs.Taking.{HasTaken}
use Rattle.kmipa_record.specs.declared.declaration_header.DeclarationHeader.{DeclarationHeader}
use Rattle.kmipa_record.specs.declared.reach.Reach.{Reach}
use Rattle.kmipa_record.specs.declared.reach.Reach.TheVariants.{Aside, Judged}
use Rattle.kmipa_record.specs.declared.settings.Settings.{Settings}
use Rattle.kmipa_stream.specs.Opening.{Opens}
use Rattle.kmipa_stream.specs.declared.opening.Opening.{Opening}

-- records change no setting
settings_stay : (reach : Reach) (h : DeclarationHeader) (ahead : DeclarationOf) (items : List Tree) (declared : DeclarationOf) → Follow reach h ahead items declared
    → declared.settings ≡ ahead.settings
settings_stay reach h ahead [] declared follow = ap (λ (d : DeclarationOf). d.settings) (sym follow)
settings_stay reach h ahead (item ∷ items) declared follow = settings_stay reach h (with_record ahead follow.0) items declared follow.3

module _ (h : DeclarationHeader) (refused : h.settings.unjudged ≡ Refused) (seen : h.settings.visibility ≡ Everyone) where
  admits_less : (r : RecordOf) → Admits Aside h r → Admits Judged h r
  admits_less (row r) a = a
  admits_less (allow l) a = a
  admits_less (own o) a = a
  admits_less (entry e) a = a
  admits_less (aside id) a = absurd (a refused)

  record_less : (item : Tree) (r : RecordOf) → IsRecordUnder Aside h item r → IsRecordUnder Judged h item r
  record_less item r u = record { says = u.says; fit = u.fit; admitted = admits_less r u.admitted }

  follow_less : (ahead : DeclarationOf) (items : List Tree) (declared : DeclarationOf) → Follow Aside h ahead items declared → Follow Judged h ahead items declared
  follow_less ahead [] declared follow = follow
  follow_less ahead (item ∷ items) declared follow =
      (follow.0, record_less item follow.0 follow.1, follow.2, follow_less (with_record ahead follow.0) items declared follow.3)

  header_less : (item : Tree) → IsHeader Aside item h → IsHeader Judged item h
  header_less item i = record { is = i.is; may = i.may; reached = (λ same. let clash : Refused ≡ Unknown = sym refused ∙ same in absurd cc, seen) }

pub within_less : (bytes : List ℕ) (declared : DeclarationOf) → declared.settings.unjudged ≡ Refused → declared.settings.visibility ≡ Everyone → IsDeclarationWithin Aside bytes declared
    → IsDeclarationWithin Judged bytes declared
within_less bytes declared refused seen w =
    let s = w.say in
    let same = settings_stay Aside s.given (nothing_declared s.given.settings) w.records declared s.follow in
    let none : s.given.settings.unjudged ≡ Refused = ap (λ (x : Settings). x.unjudged) (sym same) ∙ refused in
    let all : s.given.settings.visibility ≡ Everyone = ap (λ (x : Settings). x.visibility) (sym same) ∙ seen in
    record {
      header = w.header;
      records = w.records;
      spelled = w.spelled;
      say = record {
        given = s.given;
        header_is = header_less s.given none all w.header s.header_is;
        follow = follow_less s.given none all (nothing_declared s.given.settings) w.records declared s.follow;
      };
    }

-- so it is taken as one by which nothing is set aside
pub taken_less : (settings : Settings) (bytes : List ℕ) (o : Opening) → settings.unjudged ≡ Refused → settings.visibility ≡ Everyone → HasTaken Aside Opens settings bytes o
    → HasTaken Judged Opens settings bytes o
taken_less settings bytes o refused seen t = record {
  declared = t.declared;
  named = t.named;
  found = within_less bytes t.declared (ap (λ (s : Settings). s.unjudged) t.named ∙ refused) (ap (λ (s : Settings). s.visibility) t.named ∙ seen) t.found;
  may = t.may;
  held = t.held;
}
