-- Items are judged as ever where nothing is set aside.
use Rattle.std.proofs.Common.{◌≡◌, ◌≢◌, ◌∙◌, ◌||◌, ◌&&◌, not, if◌then◌else◌, is_some, slice_get, refl, ap, sym, subst, ℕ, Bool, true, false, List, [], ◌∷◌, Option, Some, None, bytes_eq}
use Rattle.std.proofs.lemmas.Bool.{or_parts}
use Rattle.kmipa_msgs.specs.Messages.{RulesOf, AskOf, AskedOf, AnswerOf, PayloadOf, locates, located}
use Rattle.kmipa_msgs.specs.declared.response.Status.{Status}
use Rattle.kmipa_msgs.specs.declared.response.Status.TheVariants.{Success, Failed, Undone}
use Rattle.kmipa_store.specs.Aside.{AsideOf, Entry, says, is_any_named, is_any_aside, is_named_aside}
use Rattle.kmipa_ops.specs.Row.{SubjectOf, on_object, on_names, on_nothing}
use Rattle.kmipa_ops.specs.Rows.{subject_asked}
use Rattle.kmipa_passed.specs.Leaving.{HeldOf, empty, holds, unknown}
use Rattle.kmipa_aside.specs.Aims.{aim, aim_by, id_shown}
use Rattle.kmipa_aside.specs.Cases.{case_of, is_failed, is_for_names, says_taken}
use Rattle.kmipa_aside.specs.Does.{is_as_ever}
use Rattle.kmipa_aside.specs.Ever.{id_born, is_plain, judged_by, known, taken_in}
use Rattle.kmipa_object.specs.Inventory.{place_of}
use Rattle.kmipa_aside.specs.Graves.{body_at, body_of, grave, is_dead, new_by}
use Rattle.kmipa_aside.specs.Lists.{lists_aside, touched_by}
use Rattle.kmipa_aside.proofs.PlainLemmas.{taken_same}
use Rattle.kmipa_aside.specs.Identifiers.{AsEverWithoutAsides, PlainWithoutAsides}
use Rattle.kmipa_aside.specs.Worlds.{WorldOf, stand}
use Rattle.kmipa_ops.specs.Completes.{DoesSome}
use Rattle.kmipa_object.specs.Inventory.{Thing}
use Rattle.std.specs.List.{list_any}
use Rattle.kmipa_aside.specs.Standing.{StandOf, has, is_aside}
use Rattle.kmipa_aside.specs.declared.case.Case.{Case}
use Rattle.kmipa_aside.specs.declared.case.Case.TheVariants.{Over, AboutAside, NameMayBeTaken, AsEver}

unnamed : (es : List Entry) (id : List ℕ) → is_any_named es ≡ false → says es id ≡ false
unnamed [] id none = refl
unnamed (e ∷ es) id none =
    let p = or_parts e.1 (is_any_named es) none in
    elim (bytes_eq id e.0) as (λ b. (if b then e.1 else says es id) ≡ false) [ true ↦ p.0 | false ↦ unnamed es id p.1 ]

module _ (rules : RulesOf) (s : StandOf) (ask : AskOf) (answer : AnswerOf) (none : is_any_aside s.aside ≡ false) where
  parts : (is_any_named s.aside.ids ≡ false) × ((s.aside.rest ≡ false) × (s.aside.over ≡ false))
  parts = let p = or_parts (is_any_named s.aside.ids) (s.aside.rest || s.aside.over) none in (p.0, or_parts s.aside.rest s.aside.over p.1)

  none_aside : (id : List ℕ) → is_aside s id ≡ false
  none_aside id =
      ap (λ (b : Bool). b || is_named_aside s.aside id || (s.aside.rest && not (has s id))) parts.1.1
      ∙ ap (λ (b : Bool). b || (s.aside.rest && not (has s id))) (unnamed s.aside.ids id parts.0) ∙ ap (λ (b : Bool). b && not (has s id)) parts.1.0

  not_taken : (a b c : Bool) → (a && b && is_any_aside s.aside && c) ≡ false
  not_taken true true c = ap (λ (x : Bool). x && c) none
  not_taken true false c = refl
  not_taken false b c = refl

  by_aim : (h : HeldOf) → h ≢ unknown → case_of rules s ask answer h ≡ AsEver
  by_aim empty apart = ap (λ (b : Bool). if b then NameMayBeTaken else AsEver) (not_taken (is_failed answer.status) (is_for_names (subject_asked ask.asked)) (says_taken rules.rows answer.reason))
  by_aim (holds id) apart = ap (λ (b : Bool). if b then AboutAside else AsEver) (none_aside id)
  by_aim unknown apart = absurd (apart refl)

aims_known : (subject : SubjectOf) (before : HeldOf) (shown : Option (List ℕ)) → before ≢ unknown → aim_by subject before shown ≢ unknown
aims_known (on_object (Some id) act unjudged) before shown apart = λ e. cc
aims_known (on_object None act unjudged) empty shown apart = λ e. cc
aims_known (on_object None act unjudged) (holds id) shown apart = λ e. cc
aims_known (on_object None act unjudged) unknown shown apart = absurd (apart refl)
aims_known (on_names names) before shown apart = λ e. cc
aims_known on_nothing before shown apart = λ e. cc

pub as_ever_without_asides : AsEverWithoutAsides
as_ever_without_asides rules s before ask answer none apart =
    let h : HeldOf = aim before ask answer in
    let over : s.aside.over ≡ false = (parts rules s ask answer none).1.1 in
    ap (λ (b : Bool). if b then Over else case_of rules s ask answer h) over
    ∙ by_aim rules s ask answer none h (aims_known (subject_asked ask.asked) before (id_shown answer.status answer.payload) apart)

-- ---- what an item does

any_none : {X : Type 0} (p : X → Bool) → ((x : X) → p x ≡ false) → (xs : List X) → list_any p xs ≡ false
any_none p none [] = refl
any_none {X} p none (x ∷ xs) = ap (λ (b : Bool). b || list_any p xs) (none x) ∙ any_none p none xs

module _ (s : StandOf) (none : (id : List ℕ) → is_aside s id ≡ false) where
  unlisted : (asked : AskedOf) (payload : Option PayloadOf) → lists_aside s asked payload ≡ false
  unlisted (locates q) (Some (located ids)) = any_none (λ (id : List ℕ). is_aside s id) none ids
  unlisted asked payload = refl

  untouched : (status : Status) (asked : AskedOf) (payload : Option PayloadOf) → touched_by status s asked payload ≡ false
  untouched Success asked payload = unlisted asked payload
  untouched Undone asked payload = unlisted asked payload
  untouched Failed asked payload = refl

judged_known : (before : HeldOf) (answer : AnswerOf) → before ≢ unknown → judged_by before answer ≡ known before
judged_known empty answer apart = refl
judged_known (holds id) answer apart = refl
judged_known unknown answer apart = absurd (apart refl)

-- nothing is taken in
none_taken : (a : AsideOf) (o : Option (List ℕ)) → ((id : List ℕ) → is_named_aside a id ≡ false) → taken_in o a ≡ a
none_taken a None none = refl
none_taken a (Some id) none = taken_same a id (none id)

pub none_touched : (rules : RulesOf) (ask : AskOf) (answer : AnswerOf) (w : WorldOf) → is_any_aside w.aside ≡ false → touched_by answer.status (stand w) ask.asked answer.payload ≡ false
none_touched rules ask answer w none = untouched (stand w) (λ id. none_aside rules (stand w) ask answer none id) answer.status ask.asked answer.payload

-- and no object is a body
no_body : (s : StandOf) → ((id : List ℕ) → is_aside s id ≡ false) → (id : List ℕ) (o : Option ℕ) → body_at s id o ≡ None
no_body s none id None = refl
no_body s none id (Some place) = ap (λ (b : Bool). if b && is_dead (slice_get s.cards place) then Some place else None) (none id)

none_buried : (s : StandOf) → ((id : List ℕ) → is_aside s id ≡ false) → (o : Option (List ℕ)) → body_of s o ≡ None
none_buried s none None = refl
none_buried s none (Some id) = no_body s none id (place_of id s.cards)

pub none_dead : (rules : RulesOf) (ask : AskOf) (answer : AnswerOf) (w : WorldOf) → is_any_aside w.aside ≡ false → is_some (grave (stand w) ask answer) ≡ false
none_dead rules ask answer w none =
    ap (λ (o : Option ℕ). is_some o) (none_buried (stand w) (λ id. none_aside rules (stand w) ask answer none id) (new_by answer.status ask.asked answer.payload))

pub plain_without_asides : PlainWithoutAsides
plain_without_asides rules t ask answer w before w' after none apart =
    let same = judged_known before answer apart in
    let free : touched_by answer.status (stand w) ask.asked answer.payload ≡ false = none_touched rules ask answer w none in
    let dug : Bool = is_some (grave (stand w) ask answer) in
    let plain : is_plain rules (stand w) before ask answer ≡ true =
    ap (λ (c : Case). is_as_ever c && not (touched_by answer.status (stand w) ask.asked answer.payload || dug)) (as_ever_without_asides rules (stand w) before ask answer none apart)
    ∙ ap (λ (b : Bool). not (b || dug)) free ∙ ap not (none_dead rules ask answer w none) in
    let stays : taken_in (id_born answer.status answer.payload) w.aside ≡ w.aside =
    none_taken w.aside (id_born answer.status answer.payload) (λ id. unnamed w.aside.ids id (parts rules (stand w) ask answer none).0) in
    let W : List Thing → AsideOf → WorldOf = λ V a. record { things = V; aside = a } in
    let P : List Thing → Option (List ℕ) → Option (List ℕ) → Type 0 = λ V held p. DoesSome rules w.things p t ask answer V held in (
      λ d. (d.things, d.held, subst (P d.things d.held) same d.does, d.world ∙ ap (W d.things) stays, d.placeholder),
      λ r. record { plain = plain; things = r.0; held = r.1; does = subst (P r.0 r.1) (sym same) r.2; world = r.3 ∙ ap (W r.0) (sym stays); placeholder = r.4 },
    )
