-- The meaning of a journal: what its changes lead back to at each mark.
use Rattle.std.specs.Prelude.{◌-◌, ℕ, List, [], ◌∷◌, map, length, take, reverse}
use Rattle.kmipa_store.specs.Aside.{AsideOf, Entry}
use Rattle.kmipa_store.specs.AsideIds.{aside_unmade}
use Rattle.kmipa_store.specs.Ledger.{Known, Meaning, LedgerState}
use Rattle.kmipa_store.specs.Present.{Dated, dated_unmade}
use Rattle.kmipa_store.specs.Secrets.{forgotten}
use Rattle.kmipa_store.specs.Histories.{history}
use Rattle.kmipa_store.specs.declared.changes.AsideChange.{AsideChange}
use Rattle.kmipa_store.specs.declared.changes.Place.{Place}
use Rattle.kmipa_store.specs.declared.changes.ObjectChange.{ObjectChange}
use Rattle.kmipa_store.specs.declared.changes.SecretChange.{SecretChange}
use Rattle.kmipa_store.specs.declared.changes.SecretChange.TheVariants.{Made, Learned}

-- a change of the secrets, taken back
abbrev pub secret_unmade : List Known → SecretChange → List Known
secret_unmade ks Made = take (length ks - 1) ks
secret_unmade ks (Learned number) = forgotten ks number

-- how many changes there were at each mark, the newest first
abbrev pub object_places : List Place → List ℕ
object_places places = map (λ (p : Place). p.objects) (reverse places)

abbrev pub secret_places : List Place → List ℕ
secret_places places = map (λ (p : Place). p.secrets) (reverse places)

abbrev pub aside_places : List Place → List ℕ
aside_places places = map (λ (p : Place). p.asides) (reverse places)

abbrev pub dated_at_marks : Dated → List ObjectChange → List Place → List Dated
dated_at_marks present changes places = history dated_unmade present (reverse changes) (object_places places)

abbrev pub secrets_at_marks : List Known → List SecretChange → List Place → List (List Known)
secrets_at_marks secrets changes places = history secret_unmade secrets (reverse changes) (secret_places places)

-- what is set aside, and the changes that led to its entries
pub record Asides : Type 0 where
  pub aside : AsideOf
  pub changes : List AsideChange

-- entries at marks, with what each mark knows of the rest
abbrev pub at_places : List (List Entry) → List Place → List AsideOf
at_places [] places = []
at_places (es ∷ entries) [] = []
at_places (es ∷ entries) (p ∷ places) = record { ids = es; rest = p.rest; over = p.over } ∷ at_places entries places

abbrev pub aside_at_marks : Asides → List Place → List AsideOf
aside_at_marks asides places = at_places (history aside_unmade asides.aside.ids (reverse asides.changes) (aside_places places)) (reverse places)

-- objects, secrets and what was set aside at the same marks
abbrev pub paired : List Dated → List (List Known) → List AsideOf → List Meaning
paired [] secrets asides = []
paired (d ∷ ds) [] asides = []
paired (d ∷ ds) (ks ∷ secrets) [] = []
paired (d ∷ ds) (ks ∷ secrets) (a ∷ asides) = record { objects = d.objects; secrets = ks; aside = a } ∷ paired ds secrets asides

abbrev pub journal_state : Dated → List ObjectChange → List Known → List SecretChange → Asides → List Place → LedgerState
journal_state present object_changes secrets secret_changes asides places = record {
  now = record { objects = present.objects; secrets = secrets; aside = asides.aside };
  marks = paired (dated_at_marks present object_changes places) (secrets_at_marks secrets secret_changes places) (aside_at_marks asides places);
}
