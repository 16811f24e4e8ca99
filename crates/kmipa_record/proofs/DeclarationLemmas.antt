-- A declaration that is read record by record.
use Rattle.std.proofs.Common.{◌≡◌, ◌≢◌, ℕ, List, [], ◌∷◌, ◌++◌, length, Bool, inl, inr, refl, sym, ap, subst, ◌∙◌, arith}
use Rattle.std.proofs.lemmas.List.{append-nil}
use Rattle.std.proofs.lemmas.List.Elements.{All-push}
use Rattle.std.proofs.lemmas.List.Quantifiers.{all_pairs_push}
use Rattle.std.specs.Io.{StartsWith, appended_bytes}
use Rattle.kmipa_ttlv.specs.Tree.{Tree}
use Rattle.kmipa_record.specs.DeclarationReading.{SaysFit, IsRecord, IsRefused, inadmissible, behind, IsReadSoFar, HasRead}
use Rattle.kmipa_record.specs.DeclarationRecords.{RecordOf, row, allow, own, entry, aside, IsFit, row_item, aside_item}
use Rattle.kmipa_record.specs.Declarations.{Admits, DeclarationOf, AreDeclared, nothing_declared, with_record, MayFollow, IsHeader, IsRecordUnder, Follow, SayDeclaration, IsDeclarationWithin, AreRightInDeclaration, RecordItemFault, no_record, misplaced, misplaced_kind, DeclarationItemFault, DeclarationEndFault, DeclarationFaultWithin, IsDeclarationUpToWithin}
use Rattle.kmipa_record.specs.Entries.{EntryOf, SaysEntry, IsDeclarable}
use Rattle.kmipa_record.specs.Lines.{allow_line_item, own_line_item, IsMovable}
use Rattle.kmipa_msgs.specs.Messages.{RowOf}
use Rattle.kmipa_object.specs.declared.allow.AllowLine.{AllowLine}
use Rattle.kmipa_record.specs.declared.own_attribute.OwnAttribute.{OwnAttribute}
use Rattle.kmipa_record.specs.Files.{Tells}
use Rattle.kmipa_record.specs.Reaches.{ReachesSettings}
use Rattle.kmipa_record.specs.Reading.{Takes, ReadFails, other, HeaderFails}
use Rattle.kmipa_record.specs.Settings.{declaration_header, MayHave}
use Rattle.kmipa_record.specs.Taking.{HasTaken}
use Rattle.kmipa_record.specs.declared.declaration_header.DeclarationHeader.{DeclarationHeader}
use Rattle.kmipa_record.specs.declared.fault.RecordFault.{RecordFault}
use Rattle.kmipa_record.specs.declared.fault.RecordKind.{RecordKind}
use Rattle.kmipa_record.specs.declared.fault.RecordKind.TheVariants.{Header, Entry, Memory}
use Rattle.kmipa_record.specs.declared.reach.Reach.{Reach}
use Rattle.kmipa_record.specs.declared.reach.Reach.TheVariants.{Whole}
use Rattle.kmipa_record.specs.declared.settings.Settings.{Settings}
use Rattle.kmipa_record.proofs.DeclarationLawLemmas.{header_once, record_once, line_once}
use Rattle.kmipa_record.proofs.FileLemmas.{goes_on, ends_here, starts, Stands, tells_read, item_reported, right_here, tells_header}
use Rattle.kmipa_record.proofs.NextLemmas.{regrouped}

-- ---- what may be declared

-- no objects are declared
pub none_may : (s : Settings) → AreDeclared (nothing_declared s)
none_may s = record { each = λ k d lt. absurd (omega (arith, lt)); distinct = λ i j d before lt. absurd (omega (arith, lt)) }

-- what is declared with one more record
pub one_more : (d : DeclarationOf) (r : RecordOf) → AreDeclared d → IsFit r → MayFollow d r → AreDeclared (with_record d r)
one_more d (row r) are fit may = record { each = are.each; distinct = are.distinct }
one_more d (allow l) are fit may = record { each = are.each; distinct = are.distinct }
one_more d (own a) are fit may = record { each = are.each; distinct = are.distinct }
one_more d (entry e) are fit may =
    record { each = All-push IsDeclarable d.entries e are.each fit; distinct = all_pairs_push (λ (a b : EntryOf). a.id ≢ b.id) d.entries e are.distinct may.0 }
one_more d (aside id) are fit may = record { each = are.each; distinct = are.distinct }

module _ (reach : Reach) where
  abbrev Told : List ℕ → Bool → RecordFault → Type 0
  Told = Tells (DeclarationFaultWithin reach) (IsDeclarationUpToWithin reach)

  -- ---- the header

  -- the item is some header within reach
  abbrev pub IsSomeHeader : Tree → Type 0
  IsSomeHeader item = (h : DeclarationHeader) × IsHeader reach item h

  abbrev pub IsAnyHeader : Tree → Type 0
  IsAnyHeader item = (h : DeclarationHeader) × (item ≡ declaration_header h) × MayHave h.version h.settings

  told_header : (file : List ℕ) (place : ℕ) (failed : Bool) (f : RecordFault) → place ≡ 0 → HeaderFails IsSomeHeader place file failed f → Told file failed f
  told_header file place failed f zero h =
      tells_header (AreRightInDeclaration reach) (DeclarationItemFault reach) DeclarationEndFault IsSomeHeader tt (λ item kind differs k. (λ g i. differs (g, i), k)) (λ file offset kind o k. (o, k)) file place failed f zero h

  pub header_fails : (file : List ℕ) (place : ℕ) (failed : Bool) (f : RecordFault) → place ≡ 0 → HeaderFails IsAnyHeader place file failed f → Told file failed f
  header_fails file place failed f zero h =
      tells_header (AreRightInDeclaration reach) (DeclarationItemFault reach) DeclarationEndFault IsAnyHeader tt (λ item kind differs k. (λ g i. differs (g, i.is, i.may), k)) (λ file offset kind o k. (o, k)) file place failed f zero h

  -- a header that is out of reach
  pub header_unreached : (file left : List ℕ) (item : Tree) (h : DeclarationHeader) (place place' : ℕ) (failed : Bool) → place ≡ 0 → Takes item file left place place'
      → item ≡ declaration_header h → MayHave h.version h.settings → ¬ (ReachesSettings reach h.settings) → Told file failed (record { offset = place; kind = Header })
  header_unreached file left item h place place' failed zero t is may far =
      told_header file place failed (record { offset = place; kind = Header }) zero
      (other item t.front left t.consumed t.spelled (λ x. far (reached x.0 x.1)) refl refl)
    where
      reached : (g : DeclarationHeader) → IsHeader reach item g → ReachesSettings reach h.settings
      reached g i =
          let one = header_once Whole item g h (record { is = i.is; may = i.may; reached = tt }) (record { is = is; may = may; reached = tt }) in
          subst (λ (x : DeclarationHeader). ReachesSettings reach x.settings) one i.reached

  pub header_read : (file left : List ℕ) (item : Tree) (h : DeclarationHeader) (place place' : ℕ) → place ≡ 0 → Takes item file left place place' → item ≡ declaration_header h → MayHave h.version h.settings
      → ReachesSettings reach h.settings → IsReadSoFar reach h file (nothing_declared h.settings) left place'
  header_read file left item h place place' zero t is may near = record {
    header = record { is = refl; may = may; reached = near };
    items = [];
    reading = goes_on file [] (declaration_header h) file left place place' (subst (λ (i : Tree). Takes i file left place place') is t) (starts file place zero);
    follow = refl;
  }

  module _ (h : DeclarationHeader) where
    abbrev items_of : List Tree → List Tree
    items_of items = declaration_header h ∷ items

    say : (file : List ℕ) (declared : DeclarationOf) (left : List ℕ) (place : ℕ) → (s : IsReadSoFar reach h file declared left place) → SayDeclaration reach (declaration_header h) s.items declared
    say file declared left place s = record { given = h; header_is = s.header; follow = s.follow }

    stands : (file : List ℕ) (declared : DeclarationOf) (left : List ℕ) (place : ℕ) → (s : IsReadSoFar reach h file declared left place)
        → Stands (AreRightInDeclaration reach) file (items_of s.items) left place
    stands file declared left place s = record { right = (declared, say file declared left place s); reading = s.reading }

    -- ---- a record

    pub read_fails : (file : List ℕ) (declared : DeclarationOf) (left : List ℕ) (place : ℕ) (failed : Bool) (f : RecordFault)
        → IsReadSoFar reach h file declared left place → ReadFails place left failed f → Told file failed f
    read_fails file declared left place failed f s fails =
        tells_read (AreRightInDeclaration reach) (DeclarationItemFault reach) DeclarationEndFault file (items_of s.items) left place failed f (stands file declared left place s) fails

    record_reported : (file : List ℕ) (declared : DeclarationOf) (item : Tree) (left after : List ℕ) (place place' : ℕ) (kind : RecordKind)
        → IsReadSoFar reach h file declared left place → Takes item left after place place' → RecordItemFault reach h declared item kind → DeclarationFaultWithin reach file place kind
    unfolding say stands
    record_reported file declared item left after place place' kind s t wrong =
        item_reported (AreRightInDeclaration reach) (DeclarationItemFault reach) DeclarationEndFault file (items_of s.items) item left after place place' kind (stands file declared left place s) t
        (declared, say file declared left place s, wrong)

    pub no_record_reported : (file : List ℕ) (declared : DeclarationOf) (item : Tree) (left after : List ℕ) (place place' : ℕ) (failed : Bool)
        → IsReadSoFar reach h file declared left place → Takes item left after place place' → ¬ (IsRecord item) → Told file failed (record { offset = place; kind = Entry })
    no_record_reported file declared item left after place place' failed s t none =
        record_reported file declared item left after place place' Entry s t (no_record (λ r u. none (r, record { says = u.says; fit = u.fit })) refl)

    told_as : (file : List ℕ) (failed : Bool) (place : ℕ) (kind j : RecordKind) → kind ≡ j → Told file failed (record { offset = place; kind = j }) → Told file failed (record { offset = place; kind = kind })
    told_as file failed place kind j e told = subst (λ (k : RecordKind). Told file failed (record { offset = place; kind = k })) (sym e) told

    told_misplaced : (file : List ℕ) (failed : Bool) (place : ℕ) (r : RecordOf) → DeclarationFaultWithin reach file place (misplaced_kind r) → Told file failed (record { offset = place; kind = misplaced_kind r })
    told_misplaced file failed place (row r) f = f
    told_misplaced file failed place (allow l) f = f
    told_misplaced file failed place (own a) f = f
    told_misplaced file failed place (entry e) f = f
    told_misplaced file failed place (aside id) f = f

    -- a record that isn't handed over, or is refused
    pub refused_reported : (file : List ℕ) (declared : DeclarationOf) (r : RecordOf) (item : Tree) (left after : List ℕ) (place place' : ℕ) (failed : Bool) (kind : RecordKind)
        → IsReadSoFar reach h file declared left place → Takes item left after place place' → SaysFit item r → IsRefused reach h declared r kind
        → Told file failed (record { offset = place; kind = kind })
    refused_reported file declared r item left after place place' failed kind s t says (inadmissible far k) =
        told_as file failed place kind Entry k (record_reported file declared item left after place place' Entry s t (no_record none refl))
      where
        none : (q : RecordOf) → ¬ (IsRecordUnder reach h item q)
        none q u = far (subst (Admits reach h) (record_once item q r u.says says.says) u.admitted)
    refused_reported file declared r item left after place place' failed kind s t says (behind near (inl m)) =
        told_as file failed place kind Memory m (right_here (AreRightInDeclaration reach) file (items_of s.items) left place (stands file declared left place s))
    refused_reported file declared r item left after place place' failed kind s t says (behind near (inr x)) =
        told_as file failed place kind (misplaced_kind r) x.0 (told_misplaced file failed place r (record_reported file declared item left after place place' (misplaced_kind r) s t
        (misplaced r (record { says = says.says; fit = says.fit; admitted = near }) x.1 refl)))

    -- one more record
    follow_more : (items : List Tree) (item : Tree) (r : RecordOf) (ahead declared : DeclarationOf) → Follow reach h ahead items declared → IsRecordUnder reach h item r → MayFollow declared r
        → Follow reach h ahead (items ++ item ∷ []) (with_record declared r)
    follow_more [] item r ahead declared f u may =
        (r, u, subst (λ (d : DeclarationOf). MayFollow d r) (sym f) may, ap (λ (d : DeclarationOf). with_record d r) f)
    follow_more (i ∷ items) item r ahead declared f u may = (f.0, f.1, f.2, follow_more items item r (with_record ahead f.0) declared f.3 u may)

    pub record_taken : (file : List ℕ) (d : DeclarationOf) (r : RecordOf) (item : Tree) (left after : List ℕ) (place place' : ℕ) → Takes item left after place place'
        → SaysFit item r → Admits reach h r → MayFollow d r → IsReadSoFar reach h file d left place → IsReadSoFar reach h file (with_record d r) after place'
    record_taken file d r item left after place place' t says near may s = record {
      header = s.header;
      items = s.items ++ item ∷ [];
      reading = goes_on file (items_of s.items) item left after place place' t s.reading;
      follow = follow_more s.items item r (nothing_declared h.settings) d s.follow (record { says = says.says; fit = says.fit; admitted = near }) may;
    }

    -- ---- what came

    -- what was read of each file that begins with what came then, of one that begins with what came since
    pub read_since : (old new : List ℕ) (d : DeclarationOf) → StartsWith new old → ((after : List ℕ) → IsReadSoFar reach h (old ++ after) d after (length old))
        → (file after : List ℕ) → file ≡ new ++ after → IsReadSoFar reach h file d (appended_bytes old new ++ after) (length old)
    read_since old new d s is file after e =
        subst (λ (l : List ℕ). IsReadSoFar reach h l d (appended_bytes old new ++ after) (length old)) (sym (e ∙ regrouped old new after s)) (is (appended_bytes old new ++ after))

    -- ---- the end

    pub whole : (file : List ℕ) (declared : DeclarationOf) (place : ℕ) → IsReadSoFar reach h file declared [] place → IsDeclarationWithin reach file declared
    whole file declared place s =
        record { header = declaration_header h; records = s.items; spelled = ends_here file (items_of s.items) [] place refl s.reading; say = say file declared [] place s }

    -- ---- what took the records

    stays : (file : List ℕ) (d : DeclarationOf) (left after : List ℕ) (place place' : ℕ) → left ≡ after → place' ≡ place → IsReadSoFar reach h file d left place → IsReadSoFar reach h file d after place'
    stays file d left after place place' e same s = rw (sym e, same) s

    module _ {T : Type 0} (holds : T → DeclarationOf → Type 0) (old new : List ℕ) where
      -- nothing came
      pub read_none : (taker : T) → HasRead reach h holds old taker → StartsWith new old
          → ((left after : List ℕ) → left ≡ appended_bytes old new ++ after → (left ≡ after) × (length new ≡ length old)) → HasRead reach h holds new taker
      read_none taker has grows none = record {
        declared = has.declared;
        named = has.named;
        may = has.may;
        held = has.held;
        read = λ after.
            let x = none (appended_bytes old new ++ after) after refl in
            stays (new ++ after) has.declared (appended_bytes old new ++ after) after (length old) (length new) x.0 x.1 (read_since old new has.declared grows has.read (new ++ after) after refl);
      }

      -- one record more
      pub read_more : (taker : T) (r : RecordOf) → (has : HasRead reach h holds old taker) → StartsWith new old
          → ((left after : List ℕ) → left ≡ appended_bytes old new ++ after → (item : Tree) × Takes item left after (length old) (length new) × SaysFit item r)
          → (taker' : T) → Admits reach h r → MayFollow has.declared r → holds taker' (with_record has.declared r) → HasRead reach h holds new taker'
      read_more taker r has grows one taker' near follows held = record {
        declared = with_record has.declared r;
        named = has.named;
        may = one_more has.declared r has.may (one (appended_bytes old new ++ []) [] refl).2.fit follows;
        held = held;
        read = λ after.
            let x = one (appended_bytes old new ++ after) after refl in
            record_taken (new ++ after) has.declared r x.0 (appended_bytes old new ++ after) after (length old) (length new) x.1 x.2 near follows
            (read_since old new has.declared grows has.read (new ++ after) after refl);
      }

    -- all came
    pub all_taken : {T : Type 0} (holds : T → DeclarationOf → Type 0) (came : List ℕ) (taker : T) → HasRead reach h holds came taker → HasTaken reach holds h.settings came taker
    all_taken holds came taker has =
        let P : List ℕ → Type 0 = λ l. IsReadSoFar reach h l has.declared [] (length came) in
        record { declared = has.declared; named = has.named; found = whole came has.declared (length came) (subst P (append-nil came) (has.read [])); may = has.may; held = has.held }

-- ---- an item that is no record

pub no_record_there : (item : Tree) → ((r : RowOf) → item ≡ row_item r → ⊥) → ((e : EntryOf) → SaysEntry item e → ¬ (IsDeclarable e))
    → ((l : AllowLine) → IsMovable l → item ≡ allow_line_item l → ⊥) × ((a : OwnAttribute) → item ≡ own_line_item a → ⊥) × ((id : List ℕ) → item ≡ aside_item id → ⊥) → ¬ (IsRecord item)
no_record_there item no_row no_entry others (row r, s) = no_row r s.says
no_record_there item no_row no_entry others (entry e, s) = no_entry e s.says s.fit
no_record_there item no_row no_entry others (allow l, s) = others.0 l s.fit s.says
no_record_there item no_row no_entry others (own a, s) = others.1 a s.says
no_record_there item no_row no_entry others (aside id, s) = others.2 id s.says

pub unmovable : (item : Tree) (line : AllowLine) → item ≡ allow_line_item line → ¬ (IsMovable line) → (l : AllowLine) → IsMovable l → item ≡ allow_line_item l → ⊥
unmovable item line is not l movable same = not (subst IsMovable (line_once l line (sym same ∙ is)) movable)
