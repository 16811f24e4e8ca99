-- The ledger that a declaration opens while it is read.
use Rattle.std.proofs.Common.{◌≡◌, ◌≢◌, ◌<◌, ◌≤◌, ℕ, List, [], ◌∷◌, ◌++◌, map, length, take, get_or, true, false, bytes_eq, is_some, ℤ, Bool, not, nat_lt, ◌||◌, refl, Ok, Option, Some, None, option_map, String, string_bytes, slice_get, sym, ap, ◌∙◌, subst, arith}
use Rattle.std.specs.Global.{Global}
use Rattle.std.specs.Prelude.{All, Any}
use Rattle.std.proofs.lemmas.Bool.{ltb-false, ltb-true, or_parts}
use Rattle.std.proofs.lemmas.List.{length-map, take_all}
use Rattle.std.proofs.lemmas.Option.{get_or_from_slice_get, slice_get-get_or, slice_get_within}
use Rattle.std.proofs.lemmas.Slice.Eq.{bytes_eq-Decides}
use Rattle.kmipa_msgs.specs.Messages.{RowOf, RulesOf, row_of}
use Rattle.kmipa_object.specs.Inventory.{Card, place_of}
use Rattle.kmipa_store.specs.Aside.{AsideOf, Entry, is_any_aside, is_any_named, is_named_aside, said_aside, says}
use Rattle.kmipa_store.specs.Calls.{SetsAside}
use Rattle.kmipa_store.specs.Ledger.{Held, LedgerState, Meaning, cards_of, changed}
use Rattle.kmipa_store.specs.States.{state_of_journal}
use Rattle.kmipa_store.proofs.InventoryLemmas.{place_found, place_none}
use Rattle.kmipa_store.proofs.SoundLemmas.{sound_aside}
use Rattle.kmipa_record.specs.DeclarationRecords.{row, allow, own, entry, aside}
use Rattle.kmipa_record.specs.Declarations.{DeclarationOf, HasNoObjects, IsNewIdentifier, MayFollow, with_record}
use Rattle.kmipa_record.specs.Entries.{EntryOf, IsDeclarable}
use Rattle.kmipa_object.specs.declared.allow.AllowLine.{AllowLine}
use Rattle.kmipa_record.specs.declared.settings.Settings.{Settings}
use Rattle.kmipa_check.specs.Deciding.{Decided}
use Rattle.kmipa_check.specs.Described.{card_declared, each_aside}
use Rattle.kmipa_check.specs.Opening.{Opened, Declares, with_declared_at}
use Rattle.kmipa_check.specs.Runs.{rows_declared, rules_declared}
use Rattle.kmipa_check.specs.Verdicts.{AreKnown}
use Rattle.kmipa_check.proofs.OpeningLemmas.{opened_known, opened_more}
use Rattle.kmipa_check.proofs.PlaceLemmas.{mapped_at, mapped_from}
use Rattle.kmipa_record.specs.Taking.{TakesAll}
use Rattle.kmipa_record.specs.declared.reach.Reach.{Reach}
use Rattle.kmipa_stream.specs.Opening.{Opens, IsOpened, has_objects, is_used, owners_of}
use Rattle.kmipa_stream.proofs.EachAsideLemmas.{each_aside_more, none_said, said_at, said_from}
use Rattle.kmipa_stream.specs.declared.opening.Opening.{Opening}

module _ (es : List EntryOf) (m : Meaning) (o : Opened es m) where
  -- the identifier that an object has is that of an entry
  pub used_before : (id : List ℕ) (found : Option ℕ) → found ≡ place_of id (cards_of m.objects) → is_some found ≡ true → Any (λ (other : EntryOf). other.id ≡ id) es
  used_before id None at some = absurd cc
  used_before id (Some place) at some =
      let there = place_found (cards_of m.objects) id place (sym at) in
      let e = mapped_from card_declared es place there.0 (ap (λ (cs : List Card). slice_get cs place) (sym o.cards) ∙ there.1) in
      let same : id ≡ there.0.id = (bytes_eq-Decides id there.0.id).0 there.2 in
      (place, e.0, slice_get_within es place e.0 e.1, get_or_from_slice_get es place e.0 e.0 e.1, ap (λ (c : Card). c.id) e.2 ∙ sym same)

  -- no entry has one that no object has
  unused_before : (id : List ℕ) → place_of id (cards_of m.objects) ≡ None → All (λ (other : EntryOf). other.id ≢ id) es
  unused_before id none k d lt same =
      let e = get_or es k d in
      let at : slice_get (cards_of m.objects) k ≡ Some (card_declared e) =
      ap (λ (cs : List Card). slice_get cs k) o.cards ∙ mapped_at card_declared es k e lt (sym (get_or_from_slice_get es k e e (slice_get-get_or es k d lt))) in
      let differs : bytes_eq id e.id ≡ false = place_none (cards_of m.objects) id none k (card_declared e) at in
      let clash : true ≡ false = sym ((bytes_eq-Decides id e.id).1 (sym same)) ∙ differs in
      absurd cc

  -- it is what is known before the first turn
  pub all_known : (declared : DeclarationOf) → declared.entries ≡ es → AreKnown declared [] m
  all_known declared same =
      let all : take (length es) declared.entries ≡ es = ap (take (length es)) same ∙ take_all (length es) es (omega arith) in
      let P : List EntryOf → Type 0 = λ l. Opened l m in
      opened_known declared (length es) m (omega (arith, ap length same)) (subst P (sym all) o)

no_place : (found place : Option ℕ) → found ≡ place → is_some found ≡ false → place ≡ None
no_place None place at none = sym at
no_place (Some p) place at none = absurd cc

-- the identifier was not found
pub not_found : (id : List ℕ) (found : Option ℕ) (m : Meaning) → found ≡ place_of id (cards_of m.objects) → is_some found ≡ false → place_of id (cards_of m.objects) ≡ None
not_found id found m at none = no_place found (place_of id (cards_of m.objects)) at none

none_from : {A : Type 0} (xs : List A) → nat_lt 0 (length xs) ≡ false → length xs ≡ 0
none_from xs none = let least : length xs ≤ 0 = ltb-false 0 (length xs) none in omega (arith, least)

empty_from : {A : Type 0} (xs : List A) → length xs ≡ 0 → xs ≡ []
empty_from [] none = refl
empty_from (x ∷ xs) none = absurd (omega (arith, none))

some_from : {A : Type 0} (xs : List A) → nat_lt 0 (length xs) ≡ true → xs ≡ [] → ⊥
some_from xs some none = let more : 0 < length xs = ltb-true 0 (length xs) some in omega (arith, more, ap length none)

left_from : (a b : Bool) → (a || b) ≡ true → b ≡ false → a ≡ true
left_from true b some none = refl
left_from false b some none = absurd cc

abbrev card_in : Held → Card
card_in h = h.card

-- ---- identifiers that are used

module _ (o : Opening) (d : DeclarationOf) (opens : Opens o d) where
  abbrev m : Meaning
  m = (state_of_journal o.ledger).now

  -- what is set aside by its name is one of those that are declared so
  by_name : (id : List ℕ) → is_named_aside m.aside id ≡ says (each_aside d.asides []) id
  by_name id = ap (λ (a : AsideOf). says a.ids id) opens.aside

  -- an identifier that is used isn't new
  used_named : (id : List ℕ) → is_named_aside m.aside id ≡ true → ¬ (IsNewIdentifier d id)
  used_named id named new =
      let at = said_from id d.asides [] (sym (by_name id) ∙ named) refl in
      new.1 at.0 id at.1 (at.2 id)

  used_one : (id : List ℕ) (found : Option ℕ) → found ≡ place_of id (cards_of m.objects) → is_some found || is_named_aside m.aside id ≡ true → ¬ (IsNewIdentifier d id)
  used_one id None at used new = used_named id used new
  used_one id (Some place) at used new =
      let any = used_before d.entries m opens.opened id (Some place) at refl in
      new.0 any.0 any.1 any.2 (subst (λ (x : EntryOf). x.id ≡ id) (sym any.3) any.4)

  pub used_not_new : (id : List ℕ) → is_used m id ≡ true → ¬ (IsNewIdentifier d id)
  used_not_new id used = used_one id (place_of id (cards_of m.objects)) refl used

  -- one that isn't used is
  unnamed_new : (id : List ℕ) → is_named_aside m.aside id ≡ false → All (λ (other : List ℕ). other ≢ id) d.asides
  unnamed_new id unnamed k x lt same =
      let said : says (each_aside d.asides []) id ≡ true = subst (λ (y : List ℕ). says (each_aside d.asides []) y ≡ true) same (said_at d.asides k x [] lt) in
      let clash : true ≡ false = sym said ∙ (sym (by_name id) ∙ unnamed) in
      absurd cc

  pub unused_new : (id : List ℕ) → is_used m id ≡ false → (place_of id (cards_of m.objects) ≡ None) × IsNewIdentifier d id
  unused_new id unused =
      let parts = or_parts (is_some (place_of id (cards_of m.objects))) (is_named_aside m.aside id) unused in
      let free = no_place (place_of id (cards_of m.objects)) (place_of id (cards_of m.objects)) refl parts.0 in
      (free, (unused_before d.entries m opens.opened id free, unnamed_new id parts.1))

  -- ---- whether there is anything

  no_entries : nat_lt 0 (length m.objects) ≡ false → d.entries ≡ []
  no_entries none = empty_from d.entries (sym (length-map d.entries card_declared) ∙ sym (ap length opens.opened.cards) ∙ length-map m.objects card_in ∙ none_from m.objects none)

  pub nothing_there : has_objects m ≡ false → HasNoObjects d
  nothing_there none =
      let parts = or_parts (nat_lt 0 (length m.objects)) (is_any_aside m.aside) none in
      (no_entries parts.0, none_said d.asides (or_parts (is_any_named (each_aside d.asides [])) false (sym (ap is_any_aside opens.aside) ∙ parts.1)).0)

  pub something_there : has_objects m ≡ true → ¬ (HasNoObjects d)
  something_there some none =
      let aside : is_any_aside m.aside ≡ false = ap is_any_aside opens.aside ∙ ap (λ (ids : List (List ℕ)). is_any_aside (record { ids = each_aside ids []; rest = false; over = false })) none.1 in
      let objects : nat_lt 0 (length m.objects) ≡ true = left_from (nat_lt 0 (length m.objects)) (is_any_aside m.aside) some aside in
      some_from m.objects objects (empty_from m.objects (sym (length-map m.objects card_in) ∙ ap length opens.opened.cards ∙ length-map d.entries card_declared ∙ ap length none.0))

  pub decides_none : (b : Bool) → b ≡ has_objects m → Decided (not b) (HasNoObjects d)
  decides_none true is = something_there (sym is)
  decides_none false is = nothing_there (sym is)

-- it takes each record that a declaration may have
pub opens_all : (reach : Reach) → TakesAll reach IsOpened
opens_all reach h r m s a = tt

-- what is set aside is no matter of what was opened
opened_aside : (es : List EntryOf) (m : Meaning) (a : AsideOf) → Opened es m → Opened es (record { objects = m.objects; secrets = m.secrets; aside = a })
opened_aside es m a o = record {
  sound = sound_aside m a o.sound;
  cards = o.cards;
  described = o.described;
  all = o.all;
  reported = o.reported;
  ascends = o.ascends;
}

-- an object that is declared sets nothing aside
declared_aside : (destroyed : Option ℤ) (m : Meaning) (e : EntryOf) → (with_declared_at destroyed m e).aside ≡ m.aside
declared_aside None m e = refl
declared_aside (Some date) m e = refl

-- whose the object of an entry is, is no matter of whether it may be declared, nor of what it opens
abbrev pub ownerless : EntryOf → EntryOf
ownerless e = record { id = e.id; kind = e.kind; attributes = e.attributes; bytes = e.bytes; owner = None }

pub ownerless_may : (e : EntryOf) → IsDeclarable e → IsDeclarable (ownerless e)
ownerless_may e may = record { gone = may.gone; whole = may.whole; fitting = may.fitting; small = may.small }

declared_ownerless : (destroyed : Option ℤ) (m : Meaning) (e : EntryOf) → with_declared_at destroyed m (ownerless e) ≡ with_declared_at destroyed m e
declared_ownerless None m e = refl
declared_ownerless (Some date) m e = refl

declares_ownerless : (s : LedgerState) (e : EntryOf) (t : LedgerState) → Declares s (ownerless e) (Ok tt) t → Declares s e (Ok tt) t
declares_ownerless s e t declares = declares ∙ ap (λ (m : Meaning). changed s m) (declared_ownerless e.attributes.destroy s.now e)

owners_more : (es : List EntryOf) (e : EntryOf) → owners_of (es ++ e ∷ []) ≡ owners_of es ++ e.owner ∷ []
owners_more [] e = refl
owners_more (x ∷ es) e = ap (λ (l : List (Option (List ℕ))). x.owner ∷ l) (owners_more es e)

owner_pushed : (os : List (Option (String Global))) (o : Option (String Global)) → map (option_map string_bytes) (os ++ o ∷ []) ≡ map (option_map string_bytes) os ++ option_map string_bytes o ∷ []
owner_pushed [] o = refl
owner_pushed (x ∷ os) o = ap (λ (l : List (Option (List ℕ))). option_map string_bytes x ∷ l) (owner_pushed os o)

-- one entry more
pub opens_entry : (old new : Opening) (d : DeclarationOf) (e : EntryOf) → Opens old d → IsDeclarable e → is_used (state_of_journal old.ledger).now e.id ≡ false → new.rows.items ≡ old.rows.items
    → new.allow_lines.items ≡ old.allow_lines.items → new.own_attributes.items ≡ old.own_attributes.items → (owner : Option (String Global)) → option_map string_bytes owner ≡ e.owner → new.owners.items ≡ old.owners.items ++ owner ∷ []
    → Declares (state_of_journal old.ledger) (ownerless e) (Ok tt) (state_of_journal new.ledger) → MayFollow d (entry e) × Opens new (with_record d (entry e))
opens_entry old new d e o may unused rows lines attributes owner told owners ownerless_declares =
    let s = state_of_journal old.ledger in
    let declares = declares_ownerless s e (state_of_journal new.ledger) ownerless_declares in
    let free = unused_new old d o e.id unused in
    let P : LedgerState → Type 0 = λ t. Opened (d.entries ++ e ∷ []) t.now in (
      free.1,
      record {
        opened = subst P (sym declares) (opened_more d.entries e s.now o.opened may free.0);
        aside = ap (λ (t : LedgerState). t.now.aside) declares ∙ declared_aside e.attributes.destroy s.now e ∙ o.aside;
        rows = ap (map row_of) rows ∙ o.rows;
        lines = lines ∙ o.lines;
        own = attributes ∙ o.own;
        owners =
            ap (map (option_map string_bytes)) owners ∙ owner_pushed old.owners.items owner ∙ ap (λ (l : List (Option (List ℕ))). l ++ option_map string_bytes owner ∷ []) o.owners
            ∙ ap (λ (x : Option (List ℕ)). owners_of d.entries ++ x ∷ []) told ∙ sym (owners_more d.entries e);
      },
    )

-- one identifier more that is set aside
pub opens_aside : (old new : Opening) (d : DeclarationOf) (id : List ℕ) → Opens old d → is_used (state_of_journal old.ledger).now id ≡ false → new.rows.items ≡ old.rows.items
    → new.allow_lines.items ≡ old.allow_lines.items → new.own_attributes.items ≡ old.own_attributes.items → new.owners.items ≡ old.owners.items → SetsAside (state_of_journal old.ledger) id (Ok tt) (state_of_journal new.ledger) → MayFollow d (aside id) × Opens new (with_record d (aside id))
opens_aside old new d id o unused rows lines attributes owners sets =
    let s = state_of_journal old.ledger in
    let P : LedgerState → Type 0 = λ t. Opened d.entries t.now in
    let more : AsideOf → AsideOf = λ a. record { ids = said_aside a.ids id; rest = a.rest; over = a.over } in (
      (unused_new old d o id unused).1,
      record {
        opened = subst P (sym sets) (opened_aside d.entries s.now (more s.now.aside) o.opened);
        aside = ap (λ (t : LedgerState). t.now.aside) sets ∙ ap more o.aside ∙ ap (λ (es : List Entry). record { ids = es; rest = false; over = false }) (sym (each_aside_more d.asides id []));
        rows = ap (map row_of) rows ∙ o.rows;
        lines = lines ∙ o.lines;
        own = attributes ∙ o.own;
        owners = ap (map (option_map string_bytes)) owners ∙ o.owners;
      },
    )

-- the rules of what was declared
pub rules_opened : (o : Opening) (d : DeclarationOf) (s : Settings) (rules : RulesOf) → d.settings ≡ s → Opens o d
    → rules ≡ record { unique_names = s.unique_names; rows = rows_declared (map row_of o.rows.items); allow_lines = o.allow_lines.items; visibility = s.visibility } → rules ≡ rules_declared d
rules_opened o d s rules named opens is =
    let P : Settings → Type 0 = λ x. rules ≡ record { unique_names = x.unique_names; rows = rows_declared (map row_of o.rows.items); allow_lines = o.allow_lines.items; visibility = x.visibility } in
    let Q : List RowOf → Type 0 = λ l. rules ≡ record { unique_names = d.settings.unique_names; rows = rows_declared l; allow_lines = o.allow_lines.items; visibility = d.settings.visibility } in
    let R : List AllowLine → Type 0 = λ l. rules ≡ record { unique_names = d.settings.unique_names; rows = rows_declared d.rows; allow_lines = l; visibility = d.settings.visibility } in
    subst R opens.lines (subst Q opens.rows (subst P (sym named) is))
