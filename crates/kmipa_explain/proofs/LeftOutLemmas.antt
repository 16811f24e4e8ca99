-- The objects that a Locate has to list, and doesn't.
use Rattle.std.proofs.Common.{◌≡◌, ◌≢◌, ℕ, ℤ, true, false, not, List, [], map, bytes_eq, Option, Some, None, refl, sym, ap, ◌∙◌, subst}
use Rattle.std.specs.Prelude.{option_and_then}
use Rattle.std.specs.List.{Contains, list_any}
use Rattle.std.proofs.lemmas.Bool.{and_parts, and_from}
use Rattle.kmipa_attrs.specs.Filters.{FilterOf}
use Rattle.kmipa_object.specs.Inventory.{Card}
use Rattle.kmipa_object.specs.Life.{state}
use Rattle.kmipa_store.specs.Ledger.{Meaning, cards_of}
use Rattle.kmipa_msgs.specs.Messages.{RulesOf, RegisteredOf, GotOf, GotAttributesOf, AskedOf, AskOf, PayloadOf, AnswerOf, creates, registers, locates, gets, gets_attributes, activates, revokes, destroys, idles, does_other}
use Rattle.kmipa_msgs.specs.declared.response.Status.{Status}
use Rattle.kmipa_msgs.specs.declared.response.Status.TheVariants.{Success, Failed, Undone}
use Rattle.kmipa_record.specs.Declarations.{DeclarationOf}
use Rattle.kmipa_record.specs.Entries.{EntryOf}
use Rattle.kmipa_ops.specs.Create.{seen_created, CreateReason}
use Rattle.kmipa_ops.specs.Get.{seen_got, GetReason}
use Rattle.kmipa_ops.specs.GetAttributes.{seen_attributes, GetAttributesReason}
use Rattle.kmipa_ops.specs.Locate.{Must, must_fit, seen_located, LocateReason, LeavesOut}
use Rattle.kmipa_ops.specs.Objects.{meant}
use Rattle.kmipa_ops.specs.Reasons.{DoneReason, OutcomeReason}
use Rattle.kmipa_ops.specs.Register.{seen_registered, RegisterReason}
use Rattle.kmipa_ops.specs.declared.why.Why.TheVariants.{ListedTooFew}
use Rattle.kmipa_check.specs.Described.{card_declared, dates_in}
use Rattle.kmipa_check.specs.Left.{declaration_left}
use Rattle.kmipa_check.proofs.PlaceLemmas.{at_contains, mapped_from}
use Rattle.kmipa_explain.specs.Ids.{HasIds, has_id}
use Rattle.kmipa_explain.specs.LeftOut.{IsLeftOut, IsLocate, LeavesSomeOut, TellsLeftOut, TellsLeftOuts, AreLeftOut, filter_in, is_left_out}
use Rattle.kmipa_explain.specs.declared.held.LeftOutHeld.{LeftOutHeld}
use Rattle.kmipa_explain.specs.declared.id_set.IdSet.{IdSet}
use Rattle.kmipa_explain.proofs.CardLemmas.{cards_left}
use Rattle.kmipa_explain.proofs.FilterLemmas.{must_decides}
use Rattle.kmipa_explain.proofs.IdLemmas.{id_decides}
use Rattle.kmipa_explain.proofs.TestLemmas.{both_ways, false_if, not_true}
use Rattle.kmipa_explain.proofs.ToldLemmas.{all_pass}

-- ---- the reason

module _ (rules : RulesOf) (m : Meaning) (p : Option (List ℕ)) (t : ℤ) where
  created : (a : _) (x : Option RegisteredOf) → CreateReason rules (cards_of m.objects) a x ListedTooFew → ⊥
  created a None r = r
  created a (Some x) r = r

  registered : (a : _) (x : Option RegisteredOf) → RegisterReason rules (cards_of m.objects) a x ListedTooFew → ⊥
  registered a None r = r
  registered a (Some x) r = r

  got : (about : Option (List ℕ)) (x : Option GotOf) → GetReason rules m about t x ListedTooFew → ⊥
  got about None r = r
  got about (Some x) r = r

  told : (about : Option (List ℕ)) (g : _) (x : Option GotAttributesOf) → GetAttributesReason rules (cards_of m.objects) about t g x ListedTooFew → ⊥
  told about g None r = r
  told about g (Some x) r = r

  -- it speaks against a Locate that lists something
  abbrev LeavesOver : AskedOf → Option PayloadOf → Type 0
  LeavesOver asked payload =
      (q : FilterOf) × (listed : List (List ℕ)) × (filter_in asked ≡ Some q) × (option_and_then seen_located payload ≡ Some listed) × LeavesOut (cards_of m.objects) t q listed

  located : (q : FilterOf) (payload : Option PayloadOf) (x : Option (List (List ℕ))) → option_and_then seen_located payload ≡ x → LocateReason (cards_of m.objects) t q x ListedTooFew
      → LeavesOver (locates q) payload
  located q payload None is r = absurd r
  located q payload (Some listed) is r = (q, listed, refl, is, r)

  done : (asked : AskedOf) (payload : Option PayloadOf) → DoneReason rules m p t asked payload ListedTooFew → LeavesOver asked payload
  done (creates a) payload r = absurd (created a (option_and_then seen_created payload) r)
  done (registers a) payload r = absurd (registered a (option_and_then seen_registered payload) r)
  done (locates q) payload r = located q payload (option_and_then seen_located payload) refl r
  done (gets id) payload r = absurd (got (meant id p) (option_and_then seen_got payload) r)
  done (gets_attributes g) payload r = absurd (told (meant g.id p) g (option_and_then seen_attributes payload) r)
  done (activates id) payload r = absurd r
  done (revokes a) payload r = absurd r
  done (destroys id) payload r = absurd r
  done (idles number) payload r = absurd r
  done (does_other number) payload r = absurd r

  over : (status : Status) (asked : AskedOf) (reason : Option ℕ) (payload : Option PayloadOf) → OutcomeReason status rules m p t asked reason payload ListedTooFew → LeavesOver asked payload
  over Success asked reason payload r = done asked payload r
  over Undone asked reason payload r = done asked payload r
  over Failed asked reason payload r = absurd r

  pub leaves_some : (declared : DeclarationOf) (ask : AskOf) (answer : AnswerOf) → OutcomeReason answer.status rules m p t ask.asked answer.reason answer.payload ListedTooFew
      → LeavesSomeOut (declaration_left declared m) t ask answer
  leaves_some declared ask answer r =
      let o = over answer.status ask.asked answer.reason answer.payload r in
      let P : List Card → Type 0 = λ cs. LeavesOut cs t o.0 o.1 in
      record { filter = o.0; listed = o.1; locate = record { asks = o.2; lists = o.3 }; leaves = subst P (sym (cards_left declared m)) o.4 }

-- ---- one object

module _ (t : ℤ) (q : FilterOf) (listed : List (List ℕ)) (set : IdSet) (e : EntryOf) (has : HasIds listed set) where
  pub out_if : is_left_out t q set e ≡ true → IsLeftOut t q listed e
  out_if h =
      let w = and_parts (must_fit q (state (dates_in e.attributes) t) (card_declared e)) (not (has_id set e.id)) h in
      record {
        must = (must_decides q (state (dates_in e.attributes) t) (card_declared e)).0 w.0;
        unlisted = λ at. both_ways (has_id set e.id) (has e.id ∙ (id_decides listed e.id).1 at) (not_true (has_id set e.id) w.1);
      }

  pub out_not : is_left_out t q set e ≡ false → IsLeftOut t q listed e → ⊥
  out_not h o =
      let unlisted : has_id set e.id ≡ false = has e.id ∙ false_if (list_any (bytes_eq e.id) listed) (λ at. o.unlisted ((id_decides listed e.id).0 at)) in
      both_ways (is_left_out t q set e)
      (and_from (must_fit q (state (dates_in e.attributes) t) (card_declared e)) (not (has_id set e.id)) ((must_decides q (state (dates_in e.attributes) t) (card_declared e)).1 o.must) (ap not unlisted)) h

-- ---- all

-- the filter of a Locate is the one that is asked for
pub the_filter : (ask : AskOf) (answer : AnswerOf) (p q : FilterOf) (ids : List (List ℕ)) → IsLocate ask answer p ids → filter_in ask.asked ≡ Some q → p ≡ q
the_filter ask answer p q ids is asks = let a : Some p ≡ Some q = sym is.asks ∙ asks in cc

-- where an object is left out some are told
some_told : (t : ℤ) (q : FilterOf) (listed : List (List ℕ)) (entries : List EntryOf) (told : List LeftOutHeld) → LeavesOut (map card_declared entries) t q listed
    → TellsLeftOuts t q listed entries told → told ≢ []
some_told t q listed entries told leaves tells none =
    let place = at_contains (map card_declared entries) leaves.1 leaves.2 in
    let entry = mapped_from card_declared entries place.0 leaves.1 place.1 in
    let T : List LeftOutHeld → Type 0 = TellsLeftOuts t q listed entries in
    let M : Card → Type 0 = λ c. Must q (state c.dates t) c in
    let U : Card → Type 0 = λ c. Contains listed c.id → ⊥ in
    all_pass (λ place e l. TellsLeftOut t q listed e l) (λ place e. IsLeftOut t q listed e → ⊥) 0 entries (subst T none tells) place.0 entry.0 entry.1
    (record { must = subst M (sym entry.2) leaves.3; unlisted = subst U (sym entry.2) leaves.4 })

pub are_left_out : (held : DeclarationOf) (t : ℤ) (ask : AskOf) (answer : AnswerOf) (told : List LeftOutHeld) (q : FilterOf) (listed : List (List ℕ)) → LeavesSomeOut held t ask answer
    → filter_in ask.asked ≡ Some q → option_and_then seen_located answer.payload ≡ Some listed → TellsLeftOuts t q listed held.entries told → AreLeftOut held t ask answer told
are_left_out held t ask answer told q listed some asks lists tells =
    let same_filter : some.filter ≡ q = the_filter ask answer some.filter q some.listed some.locate asks in
    let same_list : some.listed ≡ listed = (let a = some.locate.lists in cc) in
    let F : FilterOf → Type 0 = λ f. LeavesOut (map card_declared held.entries) t f some.listed in
    let L : List (List ℕ) → Type 0 = λ l. LeavesOut (map card_declared held.entries) t q l in
    record {
      filter = q;
      listed = listed;
      locate = record { asks = asks; lists = lists };
      exactly = tells;
      some = some_told t q listed held.entries told (subst L same_list (subst F same_filter some.leaves)) tells;
    }
