-- What a reason that speaks over a ledger says of the ledger's declaration.
use Rattle.std.proofs.Common.{◌≡◌, ◌≢◌, ◌⊎◌, inl, inr, ℕ, ◌+◌, suc, ℤ, Bool, cond, List, [], ◌∷◌, map, find, bytes_eq, slice_get, Option, Some, None, option_map, length, ◌<◌, ◌≤◌, refl, sym, ap, ◌∙◌, subst, arith}
use Rattle.std.specs.Prelude.{option_and_then, unwrap_or}
use Rattle.std.specs.List.{position_from}
use Rattle.kmipa_object.specs.Inventory.{Card}
use Rattle.kmipa_object.specs.Life.{Dates, state}
use Rattle.kmipa_object.specs.Table.{revoke_act}
use Rattle.kmipa_object.specs.Allowances.{allows}
use Rattle.kmipa_object.specs.declared.allow.Act.{Act}
use Rattle.kmipa_object.specs.declared.allow.Act.TheVariants as act
use Rattle.kmipa_object.specs.declared.allow.Allow.TheVariants.{Not}
use Rattle.kmipa_object.specs.declared.life.Material.{Material}
use Rattle.kmipa_object.specs.declared.life.Material.TheVariants.{Gone, Secret}
use Rattle.kmipa_store.specs.Choices.{IsSound}
use Rattle.kmipa_store.specs.Ledger.{Held, Known, Meaning, cards_of}
use Rattle.kmipa_msgs.specs.Messages.{RulesOf, AskedOf, AskOf, PayloadOf, GotOf, GotAttributesOf, RegisteredOf, AnswerOf, creates, registers, locates, gets, gets_attributes, activates, revokes, destroys, idles, does_other}
use Rattle.kmipa_msgs.specs.Messages
use Rattle.kmipa_msgs.specs.declared.response.Status.{Status}
use Rattle.kmipa_msgs.specs.declared.response.Status.TheVariants.{Success, Failed, Undone}
use Rattle.kmipa_record.specs.Declarations.{DeclarationOf}
use Rattle.kmipa_record.specs.Entries.{EntryOf}
use Rattle.kmipa_ops.specs.Allowance.{allowance}
use Rattle.kmipa_ops.specs.Create.{seen_created, CreateReason}
use Rattle.kmipa_ops.specs.Get.{seen_got, GetReason}
use Rattle.kmipa_ops.specs.GetAttributes.{seen_attributes, GetAttributesReason}
use Rattle.kmipa_ops.specs.Locate.{seen_located, LocateReason}
use Rattle.kmipa_ops.specs.Meant.{object_meant, secret_at, IsExcluded}
use Rattle.kmipa_ops.specs.Objects.{card_meant, meant}
use Rattle.kmipa_ops.specs.Reasons.{DoneReason, OutcomeReason, Reason, ReasonsAreDecided}
use Rattle.kmipa_ops.specs.Register.{seen_registered, RegisterReason}
use Rattle.kmipa_ops.specs.declared.why.Why.{Why}
use Rattle.kmipa_ops.specs.declared.why.Why.TheVariants.{NoSuchObject, WrongState, IdentifierTaken, NameTaken, BytesDiffer, LengthImpossible, AttributeDiffers, AttributeMissing, ListedWrongly, ListedTooFew, ReasonUnfounded, EchoDiffers}
use Rattle.kmipa_check.specs.Described.{dates_in}
use Rattle.kmipa_check.proofs.PlaceLemmas.{below_suc}
use Rattle.kmipa_check.specs.Left.{bytes_left, declaration_left, entry_left}
use Rattle.kmipa_check.specs.Runs.{rules_declared}
use Rattle.kmipa_check.specs.Steps.{StepOf}
use Rattle.kmipa_explain.specs.Holding.{IsExcludedBy, act_asked, bytes_held, dates_told, object_held}
use Rattle.kmipa_explain.specs.Items.{about}
use Rattle.kmipa_explain.specs.Reasoned.{HeldReason, IsExcludedThere, IsReasoned, KnowsOtherBytes}
use Rattle.kmipa_explain.specs.Replaying.{IsStanding}
use Rattle.kmipa_explain.specs.Unfounded.{TellsObject}
use Rattle.kmipa_explain.specs.declared.held.StateHeld.{StateHeld}
use Rattle.kmipa_explain.proofs.EchoLemmas.{echo_differs}
use Rattle.kmipa_explain.proofs.LengthLemmas.{length_impossible}
use Rattle.kmipa_explain.proofs.TakenLemmas.{identifier_taken, name_taken}
use Rattle.kmipa_explain.proofs.ValueLemmas.{foreign, held_meant, lacks}
use Rattle.kmipa_explain.proofs.FindLemmas.{find_map, find_place}
use Rattle.kmipa_explain.proofs.LeftOutLemmas.{leaves_some}
use Rattle.kmipa_explain.proofs.ListedLemmas.{listed_wrongly}
use Rattle.kmipa_explain.proofs.UnfoundedLemmas.{fails_for}

-- ---- the object of an identifier

from_map : {X Y : Type 0} (f : X → Y) (test : Y → Bool) (xs : List X) (n : ℕ) → position_from test n (map f xs) ≡ position_from (λ (x : X). test (f x)) n xs
from_map f test [] n = refl
from_map f test (x ∷ xs) n = ap (cond (test (f x)) (Some n)) (from_map f test xs (n + 1))

map_none : {X Y : Type 0} (f : X → Y) (o : Option X) → option_map f o ≡ None → o ≡ None
map_none f None e = refl
map_none f (Some x) e = absurd cc

module _ (declared : DeclarationOf) (m : Meaning) where
  abbrev made : DeclarationOf
  made = declaration_left declared m

  -- the entry of the object that is meant
  held_there : (about : Option (List ℕ)) → object_held made about ≡ option_map (entry_left m.secrets) (object_meant m.objects about)
  held_there None = refl
  held_there (Some id) =
      find_map (entry_left m.secrets) (λ (e : EntryOf). bytes_eq id e.id) m.objects
      ∙ ap (option_map (entry_left m.secrets)) (find_place (λ (h : Held). bytes_eq id h.card.id) m.objects
      ∙ ap (option_and_then (slice_get m.objects)) (sym (from_map (λ (h : Held). h.card) (λ (c : Card). bytes_eq id c.id) m.objects 0)))

  held_at : (about : Option (List ℕ)) (h : Held) → object_meant m.objects about ≡ Some h → object_held made about ≡ Some (entry_left m.secrets h)
  held_at about h is = held_there about ∙ ap (option_map (entry_left m.secrets)) is

  held_nowhere : (about : Option (List ℕ)) → object_meant m.objects about ≡ None → object_held made about ≡ None
  held_nowhere about none = held_there about ∙ ap (option_map (entry_left m.secrets)) none

  card_nowhere : (about : Option (List ℕ)) → card_meant (cards_of m.objects) about ≡ None → object_held made about ≡ None
  card_nowhere None none = refl
  card_nowhere (Some id) none =
      let test : Held → Bool = λ h. bytes_eq id h.card.id in
      let cards = find_place (λ (c : Card). bytes_eq id c.id) (cards_of m.objects) in
      let found = find_map (λ (h : Held). h.card) (λ (c : Card). bytes_eq id c.id) m.objects in
      let empty = map_none (λ (h : Held). h.card) (find test m.objects) (sym found ∙ cards ∙ none) in
      find_map (entry_left m.secrets) (λ (e : EntryOf). bytes_eq id e.id) m.objects ∙ ap (option_map (entry_left m.secrets)) empty

  -- the bytes that a secret knows
  known_left : (material : Material) (secret : Known) → secret_at m.secrets material ≡ Some secret → bytes_left m.secrets material ≡ secret.bytes
  known_left Gone secret at = absurd cc
  known_left (Secret s) secret at = ap (λ (o : Option Known). unwrap_or (option_map (λ (k : Known). k.bytes) o) None) at

  known_there : (about : Option (List ℕ)) (o : Option Held) → object_meant m.objects about ≡ o → (secret : Known) (known : List ℕ)
      → option_and_then (λ (h : Held). secret_at m.secrets h.material) o ≡ Some secret → secret.bytes ≡ Some known → bytes_held made about ≡ Some known
  known_there about None is secret known at has = absurd cc
  known_there about (Some h) is secret known at has =
      ap (option_and_then (λ (e : EntryOf). e.bytes)) (held_at about h is) ∙ known_left h.material secret at ∙ has

  -- ---- NoSuchObject

  module _ (sound : IsSound m) (p : Option (List ℕ)) (t : ℤ) where
    abbrev rules : RulesOf
    rules = rules_declared declared

    created_absent : (a : _) (x : Option RegisteredOf) → CreateReason rules (cards_of m.objects) a x NoSuchObject → ⊥
    created_absent a None r = r
    created_absent a (Some x) r = r

    registered_absent : (a : _) (x : Option RegisteredOf) → RegisterReason rules (cards_of m.objects) a x NoSuchObject → ⊥
    registered_absent a None r = r
    registered_absent a (Some x) r = r

    located_absent : (q : _) (x : Option (List (List ℕ))) → LocateReason (cards_of m.objects) t q x NoSuchObject → ⊥
    located_absent q None r = r
    located_absent q (Some x) r = r

    got_absent : (about : Option (List ℕ)) (x : Option GotOf) → GetReason rules m about t x NoSuchObject → object_held made about ≡ None
    got_absent about None r = held_nowhere about r
    got_absent about (Some x) r = held_nowhere about r

    told_absent : (about : Option (List ℕ)) (g : _) (x : Option GotAttributesOf) → GetAttributesReason rules (cards_of m.objects) about t g x NoSuchObject → object_held made about ≡ None
    told_absent about g None r = card_nowhere about r
    told_absent about g (Some x) r = card_nowhere about r

    done_absent : (asked : AskedOf) (payload : Option PayloadOf) → DoneReason rules m p t asked payload NoSuchObject → object_held made (about p asked payload) ≡ None
    done_absent (creates a) payload r = absurd (created_absent a (option_and_then seen_created payload) r)
    done_absent (registers a) payload r = absurd (registered_absent a (option_and_then seen_registered payload) r)
    done_absent (locates q) payload r = absurd (located_absent q (option_and_then seen_located payload) r)
    done_absent (gets id) payload r = got_absent (meant id p) (option_and_then seen_got payload) r
    done_absent (gets_attributes g) payload r = told_absent (meant g.id p) g (option_and_then seen_attributes payload) r
    done_absent (activates id) payload r = held_nowhere (meant id p) r
    done_absent (revokes a) payload r = held_nowhere (meant a.id p) r
    done_absent (destroys id) payload r = held_nowhere (meant id p) r
    done_absent (idles number) payload r = absurd r
    done_absent (does_other number) payload r = absurd r

    -- ---- WrongState

    excluded_there : (about : Option (List ℕ)) (asked : AskedOf) (act : _) → act_asked asked ≡ Some act → IsExcluded rules m.objects about t act → IsExcludedThere made about t asked
    excluded_there about asked act judged r = record {
      dates = r.0.card.dates;
      had = ap (option_map (λ (e : EntryOf). dates_in e.attributes)) (held_at about r.0 r.1);
      act = act;
      judged = judged;
      excluded = r.2;
    }

    created_excluded : (a : _) (x : Option RegisteredOf) → CreateReason rules (cards_of m.objects) a x WrongState → ⊥
    created_excluded a None r = r
    created_excluded a (Some x) r = r

    registered_excluded : (a : _) (x : Option RegisteredOf) → RegisterReason rules (cards_of m.objects) a x WrongState → ⊥
    registered_excluded a None r = r
    registered_excluded a (Some x) r = r

    located_excluded : (q : _) (x : Option (List (List ℕ))) → LocateReason (cards_of m.objects) t q x WrongState → ⊥
    located_excluded q None r = r
    located_excluded q (Some x) r = r

    got_excluded : (about : Option (List ℕ)) (x : Option GotOf) → GetReason rules m about t x WrongState → IsExcluded rules m.objects about t act.Get
    got_excluded about None r = r
    got_excluded about (Some x) r = r

    held_excluded : (about : Option (List ℕ)) → (c : Card) × (card_meant (cards_of m.objects) about ≡ Some c) × (allowance rules act.GetAttributes t c ≡ Not) → IsExcluded rules m.objects about t act.GetAttributes
    held_excluded about r =
        let h = held_meant m.objects about r.0 r.1 in
        (h.0, h.1, ap (λ (c : Card). allowance rules act.GetAttributes t c) h.2 ∙ r.2)

    told_excluded : (about : Option (List ℕ)) (g : _) (x : Option GotAttributesOf) → GetAttributesReason rules (cards_of m.objects) about t g x WrongState → IsExcluded rules m.objects about t act.GetAttributes
    told_excluded about g None r = held_excluded about r
    told_excluded about g (Some x) r = held_excluded about r

    done_excluded : (asked : AskedOf) (payload : Option PayloadOf) → DoneReason rules m p t asked payload WrongState → IsExcludedThere made (about p asked payload) t asked
    done_excluded (creates a) payload r = absurd (created_excluded a (option_and_then seen_created payload) r)
    done_excluded (registers a) payload r = absurd (registered_excluded a (option_and_then seen_registered payload) r)
    done_excluded (locates q) payload r = absurd (located_excluded q (option_and_then seen_located payload) r)
    done_excluded (gets id) payload r = excluded_there (meant id p) (gets id) act.Get refl (got_excluded (meant id p) (option_and_then seen_got payload) r)
    done_excluded (gets_attributes g) payload r =
        excluded_there (meant g.id p) (gets_attributes g) act.GetAttributes refl (told_excluded (meant g.id p) g (option_and_then seen_attributes payload) r)
    done_excluded (activates id) payload r = excluded_there (meant id p) (activates id) act.Activate refl r
    done_excluded (revokes a) payload r = excluded_there (meant a.id p) (revokes a) (revoke_act a.code) refl r
    done_excluded (destroys id) payload r = excluded_there (meant id p) (destroys id) act.Destroy refl r
    done_excluded (idles number) payload r = absurd r
    done_excluded (does_other number) payload r = absurd r

    -- ---- BytesDiffer

    created_other : (a : _) (x : Option RegisteredOf) → CreateReason rules (cards_of m.objects) a x BytesDiffer → ⊥
    created_other a None r = r
    created_other a (Some x) r = r

    registered_other : (a : _) (x : Option RegisteredOf) → RegisterReason rules (cards_of m.objects) a x BytesDiffer → ⊥
    registered_other a None r = r
    registered_other a (Some x) r = r

    located_other : (q : _) (x : Option (List (List ℕ))) → LocateReason (cards_of m.objects) t q x BytesDiffer → ⊥
    located_other q None r = r
    located_other q (Some x) r = r

    told_other : (about : Option (List ℕ)) (g : _) (x : Option GotAttributesOf) → GetAttributesReason rules (cards_of m.objects) about t g x BytesDiffer → ⊥
    told_other about g None r = r
    told_other about g (Some x) r = r

    other_bytes : (about : Option (List ℕ)) (payload : Option PayloadOf) → GetReason rules m about t (option_and_then seen_got payload) BytesDiffer → KnowsOtherBytes made about payload
    other_bytes about None r = absurd r
    other_bytes about (Some (Messages.created x)) r = absurd r
    other_bytes about (Some (Messages.registered x)) r = absurd r
    other_bytes about (Some (Messages.located x)) r = absurd r
    other_bytes about (Some (Messages.got a)) r = record {
      known = r.2.0;
      are_known = known_there about (object_meant m.objects about) refl r.0 r.2.0 r.1 r.2.1;
      shown = a.block.material;
      are_shown = refl;
      apart = r.2.2;
    }
    other_bytes about (Some (Messages.got_attributes x)) r = absurd r
    other_bytes about (Some (Messages.changed x)) r = absurd r

    done_other : (asked : AskedOf) (payload : Option PayloadOf) → DoneReason rules m p t asked payload BytesDiffer → KnowsOtherBytes made (about p asked payload) payload
    done_other (creates a) payload r = absurd (created_other a (option_and_then seen_created payload) r)
    done_other (registers a) payload r = absurd (registered_other a (option_and_then seen_registered payload) r)
    done_other (locates q) payload r = absurd (located_other q (option_and_then seen_located payload) r)
    done_other (gets id) payload r = other_bytes (meant id p) payload r
    done_other (gets_attributes g) payload r = absurd (told_other (meant g.id p) g (option_and_then seen_attributes payload) r)
    done_other (activates id) payload r = absurd r
    done_other (revokes a) payload r = absurd r
    done_other (destroys id) payload r = absurd r
    done_other (idles number) payload r = absurd r
    done_other (does_other number) payload r = absurd r

    -- ---- of any answer

    absent : (status : Status) (asked : AskedOf) (reason : Option ℕ) (payload : Option PayloadOf) → OutcomeReason status rules m p t asked reason payload NoSuchObject → object_held made (about p asked payload) ≡ None
    absent Success asked reason payload r = done_absent asked payload r
    absent Undone asked reason payload r = done_absent asked payload r
    absent Failed asked reason payload r = absurd r

    excluded : (status : Status) (asked : AskedOf) (reason : Option ℕ) (payload : Option PayloadOf) → OutcomeReason status rules m p t asked reason payload WrongState → IsExcludedThere made (about p asked payload) t asked
    excluded Success asked reason payload r = done_excluded asked payload r
    excluded Undone asked reason payload r = done_excluded asked payload r
    excluded Failed asked reason payload r = absurd r

    others : (status : Status) (asked : AskedOf) (reason : Option ℕ) (payload : Option PayloadOf) → OutcomeReason status rules m p t asked reason payload BytesDiffer → KnowsOtherBytes made (about p asked payload) payload
    others Success asked reason payload r = done_other asked payload r
    others Undone asked reason payload r = done_other asked payload r
    others Failed asked reason payload r = absurd r

    pub held_reason : (why : Why) (ask : AskOf) (answer : AnswerOf) → Reason rules m p t ask answer why → HeldReason why made (about p ask.asked answer.payload) t ask answer
    held_reason NoSuchObject ask answer (inl r) = absurd r
    held_reason NoSuchObject ask answer (inr r) = absent answer.status ask.asked answer.reason answer.payload r
    held_reason WrongState ask answer (inl r) = absurd r
    held_reason WrongState ask answer (inr r) = excluded answer.status ask.asked answer.reason answer.payload r
    held_reason IdentifierTaken ask answer (inl r) = absurd r
    held_reason IdentifierTaken ask answer (inr r) = identifier_taken declared m p t answer.status ask.asked answer.reason answer.payload r
    held_reason NameTaken ask answer (inl r) = absurd r
    held_reason NameTaken ask answer (inr r) = name_taken declared m p t answer.status ask.asked answer.reason answer.payload r
    held_reason BytesDiffer ask answer (inl r) = absurd r
    held_reason BytesDiffer ask answer (inr r) = others answer.status ask.asked answer.reason answer.payload r
    held_reason LengthImpossible ask answer (inl r) = absurd r
    held_reason LengthImpossible ask answer (inr r) = length_impossible m sound rules p t declared held_there answer.status ask.asked answer.reason answer.payload r
    held_reason EchoDiffers ask answer r = echo_differs rules m p t ask answer r
    held_reason AttributeDiffers ask answer (inl r) = absurd r
    held_reason AttributeDiffers ask answer (inr r) = foreign m rules p t (object_held made) held_at answer.status ask.asked answer.reason answer.payload r
    held_reason AttributeMissing ask answer (inl r) = absurd r
    held_reason AttributeMissing ask answer (inr r) = lacks m rules p t (object_held made) held_at answer.status ask.asked answer.reason answer.payload r
    held_reason ListedWrongly ask answer (inl r) = absurd r
    held_reason ListedWrongly ask answer (inr r) = listed_wrongly rules m p t declared ask answer r
    held_reason ListedTooFew ask answer (inl r) = absurd r
    held_reason ListedTooFew ask answer (inr r) = leaves_some rules m p t declared ask answer r
    held_reason ReasonUnfounded ask answer (inl r) = absurd r
    held_reason ReasonUnfounded ask answer (inr r) = fails_for rules m p t ask.asked answer r
    held_reason why ask answer r = tt

-- so the reason for which an item is refused
pub reasoned : (declared : DeclarationOf) (order : List StepOf) (turn : ℕ) (c : StepOf) (item : ℕ) (why : Why) (held : DeclarationOf) (placeholder : Option (List ℕ)) → ReasonsAreDecided
    → IsStanding declared order turn c item why held placeholder → IsReasoned held placeholder c item why
reasoned declared order turn c item why held placeholder law s =
    let o = s.over in
    let r = (law (rules_declared declared) s.ledger placeholder c.response.stamp o.ask o.answer why).0 o.speaks in
    let P : DeclarationOf → Type 0 = λ d. HeldReason why d (about placeholder o.ask.asked o.answer.payload) c.response.stamp o.ask o.answer in
    record {
      ask = o.ask;
      answer = o.answer;
      there = o.there;
      reason = subst P (sym s.is) (held_reason declared s.ledger o.sound placeholder c.response.stamp why o.ask o.answer r);
    }

-- ---- the object that the rules exclude

-- it is told as it is judged
pub excluded_told : (held : DeclarationOf) (meant_id : Option (List ℕ)) (t : ℤ) (asked : AskedOf) (s : StateHeld) → IsExcludedThere held meant_id t asked → TellsObject held meant_id t asked (Some s) → IsExcludedBy held meant_id t asked s
excluded_told held meant_id t asked s e told =
    let acts : Some e.act ≡ Some s.act = sym e.judged ∙ told.act in
    let act : e.act ≡ s.act = cc in
    let both : Some e.dates ≡ Some (dates_told s.dates) = sym e.had ∙ told.dates in
    let dates : e.dates ≡ dates_told s.dates = cc in
    let lines = (rules_declared held).allow_lines in
    record {
      judged = told;
      excluded = told.allow ∙ ap (allows lines s.act) told.state ∙ sym (ap (λ (d : Dates). allows lines s.act (state d t)) dates) ∙ sym (ap (λ (a : Act). allows lines a (state e.dates t)) act) ∙ e.excluded;
    }

-- and it is there
pub excluded_there_is : (held : DeclarationOf) (meant_id : Option (List ℕ)) (t : ℤ) (asked : AskedOf) → IsExcludedThere held meant_id t asked → TellsObject held meant_id t asked None → ⊥
excluded_there_is held meant_id t asked e (inl none) = let clash : Some e.act ≡ None = sym e.judged ∙ none in absurd cc
excluded_there_is held meant_id t asked e (inr none) = let clash : Some e.dates ≡ None = sym e.had ∙ none in absurd cc

-- ---- the first place where two lists differ

-- up to a place they don't
abbrev pub AgreeBelow : List ℕ → List ℕ → ℕ → Type 0
AgreeBelow xs ys place = (earlier : ℕ) → earlier < place → slice_get xs earlier ≡ slice_get ys earlier

pub agree_none : (xs ys : List ℕ) → AgreeBelow xs ys 0
agree_none xs ys earlier below = absurd (omega (arith, below))

pub agree_more : (xs ys : List ℕ) (place : ℕ) → slice_get xs place ≡ slice_get ys place → AgreeBelow xs ys place → AgreeBelow xs ys (place + 1)
agree_more xs ys place here before earlier below = by (below_suc earlier place (omega (arith, below)))
  where
    by : (earlier < place) ⊎ (earlier ≡ place) → slice_get xs earlier ≡ slice_get ys earlier
    by (inl lower) = before earlier lower
    by (inr same) = let P : ℕ → Type 0 = λ n. slice_get xs n ≡ slice_get ys n in subst P (sym same) here

-- where all of one agrees with the other, and they aren't the same, the other goes on
pub goes_on : (xs ys : List ℕ) → AgreeBelow xs ys (length xs) → slice_get xs (length xs) ≡ slice_get ys (length xs) → xs ≡ ys
goes_on [] [] agree end = refl
goes_on [] (y ∷ ys) agree end = absurd cc
goes_on (x ∷ xs) [] agree end = let first = agree 0 (omega arith) in absurd cc
goes_on (x ∷ xs) (y ∷ ys) agree end =
    let first = agree 0 (omega arith) in
    let same : x ≡ y = cc in
    ap (λ (z : ℕ). z ∷ xs) same ∙ ap (λ (zs : List ℕ). y ∷ zs) (goes_on xs ys (λ earlier below. agree (suc earlier) (omega (arith, below))) end)

pub ends_differ : (xs ys : List ℕ) (place : ℕ) → length xs ≤ place → place ≤ length xs → xs ≢ ys → AgreeBelow xs ys place → slice_get xs place ≢ slice_get ys place
ends_differ xs ys place from upto apart agree here =
    let P : ℕ → Type 0 = λ n. AgreeBelow xs ys n in
    let Q : ℕ → Type 0 = λ n. slice_get xs n ≡ slice_get ys n in
    let e : place ≡ length xs = omega (arith, from, upto) in
    apart (goes_on xs ys (subst P e agree) (subst Q e here))
