-- A new object that takes the place of a body, taken.
use Rattle.std.proofs.Common.{◌≡◌, ◌∙◌, ◌||◌, ◌&&◌, ◌==◌, not, cond, inl, inr, refl, ap, sym, subst, ℕ, zero, suc, ℤ, Bool, true, false, if◌then◌else◌, is_some, List, [], ◌∷◌, ◌++◌, length, Option, Some, None, slice_get, option_map, Err, bytes_eq, arith}
use Rattle.std.proofs.lemmas.Slice.Eq.{bytes_eq-Decides}
use Rattle.kmipa_attrs.specs.ObjectTypes.{type_number}
use Rattle.kmipa_object.specs.Inventory.{Card, Thing, given_of, live, place_of, rule_for, rule_of}
use Rattle.kmipa_object.specs.Lists.{updated}
use Rattle.kmipa_object.specs.declared.life.Material.TheVariants.{Secret}
use Rattle.kmipa_object.specs.declared.life.SecretNo.{SecretNo}
use Rattle.kmipa_object.proofs.ListLemmas.{get-append_last, map-updated}
use Rattle.kmipa_store.specs.Ledger.{Held, Known, LedgerState, Meaning, cards_of, changed, id_at, with_aside}
use Rattle.kmipa_store.specs.Choices.{Choice, IsSound, inv, thing}
use Rattle.kmipa_store.specs.Soundness.{Fits}
use Rattle.kmipa_store.proofs.ChoiceLemmas.{extends_push}
use Rattle.kmipa_store.proofs.InventoryLemmas.{inv-append, inv-same, place_found}
use Rattle.kmipa_store.proofs.SoundLemmas.{InRange-extends, number_below, sound_aside, sound_renewed, updated_from}
use Rattle.kmipa_msgs.specs.Messages.{RulesOf, AskedOf, AskOf, AnswerOf, PayloadOf, created, creates, operation_asked, registered, registers}
use Rattle.kmipa_msgs.specs.Operations.{operation_number}
use Rattle.kmipa_msgs.specs.declared.response.Status.{Status}
use Rattle.kmipa_msgs.specs.declared.response.Status.TheVariants.{Success, Failed, Undone}
use Rattle.kmipa_ops.specs.Adding.{name_taken, with_own}
use Rattle.kmipa_ops.specs.After.{after, placeholder_after}
use Rattle.kmipa_ops.specs.Blame.{lowest}
use Rattle.kmipa_ops.specs.Completes.{DoesSome}
use Rattle.kmipa_ops.specs.Explains as item
use Rattle.kmipa_ops.specs.Objects.{clash, is_other}
use Rattle.kmipa_ops.specs.declared.why.Why.{Why}
use Rattle.kmipa_ops.specs.declared.why.Why.TheVariants.{OperationDiffers, IdentifierTaken, NameTaken, LengthImpossible, EchoDiffers}
use Rattle.kmipa_ops.specs.declared.why.Refusal.TheVariants.{Impossible}
use Rattle.kmipa_ops.proofs.ExplainLemmas as told
use Rattle.kmipa_passed.specs.Leaving.{HeldOf, holds}
use Rattle.kmipa_aside.specs.Becoming.{stand_in}
use Rattle.kmipa_object.specs.declared.rule.Rule.{Rule}
use Rattle.kmipa_aside.specs.declared.birth.Birth.{Birth}
use Rattle.kmipa_aside.specs.declared.case.Case.{Case}
use Rattle.kmipa_aside.specs.Births.{BirthOf, attributes_born, why_born, birth_by, birth_of, bytes_born, card_born, has_bytes, object_born, with_reborn}
use Rattle.kmipa_aside.specs.Cases.{case}
use Rattle.kmipa_aside.specs.Does.{is_as_ever}
use Rattle.kmipa_aside.specs.Ever.{held_by, id_born, judged_by, taken_in}
use Rattle.kmipa_aside.specs.Explains.{Refutes, SecretsApart, Took, world}
use Rattle.kmipa_aside.specs.Graves.{body_at, body_of, grave, is_dead, lacking, new_by, without}
use Rattle.kmipa_aside.specs.Reborn.{DoesReborn, is_reborn, lowest_beside}
use Rattle.kmipa_aside.specs.Standing.{StandOf, is_aside}
use Rattle.kmipa_aside.specs.Taking.{TakenReborn, Tells}
use Rattle.kmipa_aside.specs.Worlds.{WorldOf, stand}
use Rattle.kmipa_aside.proofs.NearLemmas.{stand_world}
use Rattle.kmipa_aside.proofs.WithoutLemmas.{free_without, last_same, map_without, names_without, sound_without}

-- ---- what a birth comes to, whichever operation it is of

abbrev eq : ℕ → ℕ → Bool
eq x y = x == y

abbrev first_why : Bool → Bool → Bool → Bool → Bool → Option Why
first_why other taken named has echo =
    cond other (Some OperationDiffers) (cond taken (Some IdentifierTaken) (cond named (Some NameTaken) (cond (not has) (Some LengthImpossible) (cond echo (Some EchoDiffers) None))))

record Facts (rules : RulesOf) (m : Meaning) (before : HeldOf) (p : Option (List ℕ)) (t : ℤ) (ask : AskOf) (answer : AnswerOf) (b : BirthOf) : Type 0 where
  leaves : after answer.status m p t ask.asked answer.payload ≡ with_own m (card_born t b) (bytes_born b.new)
  new : new_by answer.status ask.asked answer.payload ≡ Some b.answered.id
  id : id_born answer.status answer.payload ≡ Some b.answered.id
  held : held_by answer.status before answer.payload ≡ holds b.answered.id
  bytes : item.AreBytes (bytes_born b.new) → item.TellsBytes ask answer
  why : lowest rules m p t ask answer
      ≡ first_why (is_other eq answer.operation (operation_number (operation_asked ask.asked)) || false) (is_some (place_of b.answered.id (cards_of m.objects)))
      (name_taken rules (cards_of m.objects) b.new.attributes.names) (has_bytes (rule_for b.new.kind (given_of (attributes_born b.new))) (bytes_born b.new))
      (clash bytes_eq answer.batch_id ask.batch_id || is_other eq b.answered.object_type (type_number b.new.kind))

abbrev FactsOf : RulesOf → Meaning → HeldOf → Option (List ℕ) → ℤ → AskOf → AnswerOf → Option BirthOf → Type 0
FactsOf rules m before p t ask answer None = Unit {0}
FactsOf rules m before p t ask answer (Some b) = Facts rules m before p t ask answer b

facts : (rules : RulesOf) (m : Meaning) (before : HeldOf) (p : Option (List ℕ)) (t : ℤ) (batch_id : Option (List ℕ)) (asked : AskedOf) (operation : Option ℕ) (answered : Option (List ℕ))
    (status : Status) (reason : Option ℕ) (payload : Option PayloadOf)
    → FactsOf rules m before p t (record { batch_id = batch_id; asked = asked })
    (record { operation = operation; batch_id = answered; status = status; reason = reason; payload = payload }) (birth_by status asked payload)
facts rules m before p t i (creates a) o j Success r (Some (created x)) = record { leaves = refl; new = refl; id = refl; held = refl; bytes = λ h. (h, tt); why = refl }
facts rules m before p t i (creates a) o j Undone r (Some (created x)) = record { leaves = refl; new = refl; id = refl; held = refl; bytes = λ h. (h, tt); why = refl }
facts rules m before p t i (registers q) o j Success r (Some (registered x)) = record { leaves = refl; new = refl; id = refl; held = refl; bytes = λ h. (h, tt); why = refl }
facts rules m before p t i (registers q) o j Undone r (Some (registered x)) = record { leaves = refl; new = refl; id = refl; held = refl; bytes = λ h. (h, tt); why = refl }
facts rules m before p t i asked o j Success r payload = tt
facts rules m before p t i asked o j Undone r payload = tt
facts rules m before p t i asked o j Failed r payload = tt

facts_of : (rules : RulesOf) (m : Meaning) (before : HeldOf) (p : Option (List ℕ)) (t : ℤ) (ask : AskOf) (answer : AnswerOf) (b : BirthOf)
    → birth_by answer.status ask.asked answer.payload ≡ Some b → Facts rules m before p t ask answer b
facts_of rules m before p t ask answer b e =
    subst (FactsOf rules m before p t ask answer) e (facts rules m before p t ask.batch_id ask.asked answer.operation answer.batch_id answer.status answer.reason answer.payload)

-- ---- the body

both : (a b c : Bool) (place q : ℕ) → (if a && b then Some q else None) ≡ Some place → (b ≡ true) × (q ≡ place)
both true true c place q e = (refl, cc)
both true false c place q e = let bad : ⊥ = cc in absurd bad
both false b c place q e = let bad : ⊥ = cc in absurd bad

record Body (s : StandOf) (id : List ℕ) (place : ℕ) : Type 0 where
  found : place_of id s.cards ≡ Some place
  dead : is_dead (slice_get s.cards place) ≡ true

body_parts : (s : StandOf) (id : List ℕ) (place : ℕ) (o : Option ℕ) → place_of id s.cards ≡ o → body_at s id o ≡ Some place → Body s id place
body_parts s id place None here e = let bad : ⊥ = cc in absurd bad
body_parts s id place (Some q) here e =
    let r = both (is_aside s id) (is_dead (slice_get s.cards q)) true place q e in
    record { found = here ∙ ap (λ (n : ℕ). Some n) r.1; dead = ap (λ (n : ℕ). is_dead (slice_get s.cards n)) (sym r.1) ∙ r.0 }

found_object : (hs : List Held) (p : ℕ) (c : Card) → slice_get (cards_of hs) p ≡ Some c → (g : Held) × (slice_get hs p ≡ Some g) × (g.card ≡ c)
found_object [] p c e = let bad : ⊥ = cc in absurd bad
found_object (g ∷ hs) zero c e = (g, refl, cc)
found_object (g ∷ hs) (suc p) c e = found_object hs p c e

not_not : (b : Bool) → not b ≡ true → b ≡ false
not_not true e = let bad : ⊥ = cc in absurd bad
not_not false e = refl

record Buried (m : Meaning) (id : List ℕ) (place : ℕ) : Type 0 where
  object : Held
  at : slice_get m.objects place ≡ Some object
  same : id ≡ object.card.id
  dead : live object.card ≡ false

buried : (m : Meaning) (id : List ℕ) (place : ℕ) → body_of (stand_in m) (Some id) ≡ Some place → Buried m id place
buried m id place e =
    let b = body_parts (stand_in m) id place (place_of id (cards_of m.objects)) refl e in
    let f = place_found (cards_of m.objects) id place b.found in
    let o = found_object m.objects place f.0 f.1 in
    record {
      object = o.0;
      at = o.1;
      same = (bytes_eq-Decides id f.0.id).0 f.2 ∙ ap (λ (c : Card). c.id) (sym o.2);
      dead = ap live o.2 ∙ not_not (live f.0) (ap is_dead (sym f.1) ∙ b.dead);
    }

inv_without : (c : Choice) (n : ℕ) (hs : List Held) → inv c (without n hs) ≡ without n (inv c hs)
inv_without c n hs = map_without (thing c) n hs

inv_reborn : (c : Choice) (hs : List Held) (n : ℕ) (g : Held) → inv c (updated hs n (λ (body : Held). g)) ≡ updated (inv c hs) n (λ (body : Thing). thing c g)
inv_reborn c hs n g = map-updated (thing c) (λ (body : Held). g) (λ (body : Thing). thing c g) hs n (λ x. refl)

some_same : (x y : ℕ) (o : Option ℕ) → o ≡ Some x → o ≡ Some y → x ≡ y
some_same x y o e f = let both : Some x ≡ Some y = sym e ∙ f in cc

in_order : (op named has echo : Bool)
    → first_why (op || false) false named has echo
    ≡ (if op then Some OperationDiffers else (if named then Some NameTaken else (if not has then Some LengthImpossible else (if echo then Some EchoDiffers else None))))
in_order true named has echo = refl
in_order false named has echo = refl

-- an item without a birth has no new identifier
pub new_is : (status : Status) (asked : AskedOf) (payload : Option PayloadOf) → new_by status asked payload ≡ option_map (λ (b : BirthOf). b.answered.id) (birth_by status asked payload)
new_is Success (creates a) (Some (created x)) = refl
new_is Success (registers r) (Some (registered x)) = refl
new_is Undone (creates a) (Some (created x)) = refl
new_is Undone (registers r) (Some (registered x)) = refl
new_is status asked payload = refl

-- as the program finds it
pub born_is : (answer : AnswerOf) (ask : AskOf) (o : Option Birth) (b : Birth) → option_map birth_of o ≡ birth_by answer.status ask.asked answer.payload → o ≡ Some b
    → birth_by answer.status ask.asked answer.payload ≡ Some (birth_of b)
born_is answer ask o b is some = sym is ∙ ap (option_map birth_of) some

pub ever_is : (rules : RulesOf) (m : Meaning) (before : HeldOf) (ask : AskOf) (answer : AnswerOf) (k : Case) (r : Bool) → k ≡ case rules (stand_in m) before ask answer → r ≡ is_as_ever k → r ≡ true
    → is_as_ever (case rules (stand_in m) before ask answer) ≡ true
ever_is rules m before ask answer k r is e h = sym (ap is_as_ever is) ∙ sym e ∙ h

pub grave_found : (s : StandOf) (ask : AskOf) (answer : AnswerOf) (b : BirthOf) (place : ℕ) → birth_by answer.status ask.asked answer.payload ≡ Some b → body_of s (Some b.answered.id) ≡ Some place
    → grave s ask answer ≡ Some place
grave_found s ask answer b place born found =
    ap (body_of s) (new_is answer.status ask.asked answer.payload ∙ ap (option_map (λ (x : BirthOf). x.answered.id)) born) ∙ found

pub id_found : (m : Meaning) (id : List ℕ) (place : ℕ) → body_of (stand_in m) (Some id) ≡ Some place → id_at m.objects place ≡ Some id
id_found m id place e =
    let b = buried m id place e in
    ap (option_map (λ (h : Held). h.card.id)) b.at ∙ ap (λ (x : List ℕ). Some x) (sym b.same)

-- ---- a birth in the place of a body

module _ (rules : RulesOf) (t : ℤ) (ask : AskOf) (answer : AnswerOf) (s : LedgerState) (before : HeldOf) (b : BirthOf) (place : ℕ) (sound : IsSound s.now)
    (born : birth_by answer.status ask.asked answer.payload ≡ Some b) (ever : is_as_ever (case rules (stand_in s.now) before ask answer) ≡ true)
    (body : grave (stand_in s.now) ask answer ≡ Some place) where
  abbrev D : WorldOf → HeldOf → WorldOf → HeldOf → Type 0
  D = DoesReborn rules t ask answer

  abbrev by : Option (List ℕ)
  by = judged_by before answer

  -- the ledger without the body
  abbrev less : Meaning
  less = lacking place s.now

  abbrev card : Card
  card = card_born t b

  abbrev known : Option (List ℕ)
  known = bytes_born b.new

  abbrev object : Held
  object = object_born s.now card

  abbrev made : Known
  made = record { rule = rule_of card; bytes = known }

  fact : Facts rules less before by t ask answer b
  fact = facts_of rules less before by t ask answer b born

  grave_is : Buried s.now b.answered.id place
  grave_is = buried s.now b.answered.id place (ap (body_of (stand_in s.now)) (sym fact.new) ∙ body)

  less_sound : IsSound less
  less_sound = sound_without s.now place grave_is.object sound grave_is.at

  reborn_here : is_reborn rules (stand_in s.now) before ask answer ≡ true
  reborn_here = ap (λ (x : Bool). x && is_some (grave (stand_in s.now) ask answer)) ever ∙ ap is_some body

  reborn_in : (c : Choice) → is_reborn rules (stand (world c s.now)) before ask answer ≡ true
  reborn_in c = ap (λ (x : StandOf). is_reborn rules x before ask answer) (stand_world c s.now) ∙ reborn_here

  body_in : (c : Choice) → grave (stand (world c s.now)) ask answer ≡ Some place
  body_in c = ap (λ (x : StandOf). grave x ask answer) (stand_world c s.now) ∙ body

  -- the reasons, where the body isn't there
  pub why_is : lowest rules less by t ask answer ≡ why_born rules s.now ask answer b
  why_is =
      let op : Bool = is_other eq answer.operation (operation_number (operation_asked ask.asked)) in
      let has : Bool = has_bytes (rule_for b.new.kind (given_of (attributes_born b.new))) known in
      let echo : Bool = clash bytes_eq answer.batch_id ask.batch_id || is_other eq b.answered.object_type (type_number b.new.kind) in
      let named : Bool = name_taken rules (cards_of less.objects) b.new.attributes.names in
      let free : place_of b.answered.id (cards_of less.objects) ≡ None =
      free_without s.now place grave_is.object sound grave_is.at b.answered.id grave_is.same (place_of b.answered.id (cards_of less.objects)) refl in
      fact.why ∙ ap (λ (o : Option ℕ). first_why (op || false) (is_some o) named has echo) free
      ∙ ap (λ (x : Bool). first_why (op || false) false x has echo) (names_without rules s.now.objects place grave_is.object b.new.attributes.names grave_is.at grave_is.dead)
      ∙ in_order op (name_taken rules (cards_of s.now.objects) b.new.attributes.names) has echo

  pub reborn_refutes : (w : Why) → lowest rules less by t ask answer ≡ Some w → Refutes D s.now before
  reborn_refutes w e = record {
    never = λ c h x y d.
        let same : d.place ≡ place = some_same d.place place (grave (stand (world c s.now)) ask answer) d.body (body_in c) in
        let things : without d.place (inv c s.now.objects) ≡ inv c less.objects = ap (λ (n : ℕ). without n (inv c s.now.objects)) same ∙ sym (inv_without c place s.now.objects) in
        let P : List Thing → Type 0 = λ V. DoesSome rules V by t ask answer (V ++ d.object ∷ []) d.held in
        (told.refuted rules less by t ask answer w e).never c h (inv c less.objects ++ d.object ∷ []) d.held (subst P things d.does);
  }

  pub reborn_refused : (w : Why) → why_born rules s.now ask answer b ≡ Some w → TakenReborn rules s before t ask answer (Err (Impossible w)) s
  reborn_refused w e =
      let told_of : Option ℕ → Option Why = lowest_beside rules s.now before t ask answer in
      (reborn_here, ap told_of body ∙ why_is ∙ e, reborn_refutes w (why_is ∙ e), refl)

  module _ (readable : item.is_readable ask answer ≡ true) (are : item.AreBytes known) (unopposed : why_born rules s.now ask answer b ≡ None) where
    none : lowest rules less by t ask answer ≡ None
    none = why_is ∙ unopposed

    abbrev start : LedgerState
    start = record { now = less; marks = s.marks }

    taken : item.Took rules start by t ask answer (changed start (after answer.status less by t ask.asked answer.payload)) (placeholder_after answer.status by ask.asked answer.payload)
    taken = told.took rules start by t ask answer _ _ less_sound readable (fact.bytes are) none refl refl

    abbrev grown : Meaning
    grown = with_own less card known

    takes : item.Took rules start by t ask answer (changed start grown) (placeholder_after answer.status by ask.asked answer.payload)
    takes =
        let P : Meaning → Type 0 = λ n. item.Took rules start by t ask answer (changed start n) (placeholder_after answer.status by ask.asked answer.payload) in
        subst P fact.leaves taken

    abbrev n : Meaning
    n = with_reborn s.now place card known

    n_sound : IsSound n
    n_sound =
        let m : Meaning = record { objects = s.now.objects; secrets = n.secrets; aside = s.now.aside } in
        let more : IsSound m = record {
          in_range = InRange-extends s.now.objects s.now.secrets n.secrets sound.in_range (extends_push s.now.secrets made);
          gone = sound.gone;
          distinct = sound.distinct;
          choice = takes.sound.choice;
        } in
        let fits : Fits object n.secrets = record {
          gone = tt;
          there = λ number mat.
              let is : number ≡ record { number = length s.now.secrets } = cc in
              (known, ap (λ (k : SecretNo). slice_get n.secrets k.number) is ∙ get-append_last s.now.secrets made);
        } in
        sound_renewed m place grave_is.object object more grave_is.at (sym grave_is.same) fits

    -- its secret is none of the others'
    new_apart : (q : ℕ) (h : Held) (x y : SecretNo) → slice_get s.now.objects q ≡ Some h → object.material ≡ Secret x → h.material ≡ Secret y → x.number ≡ y.number → ⊥
    new_apart q h x y at mat own same =
        let is : record { number = length s.now.secrets } ≡ x = cc in
        omega (arith, ap (λ (k : SecretNo). k.number) is, same, number_below s.now q h y sound at own)

    apart_reborn : SecretsApart s.now.objects → SecretsApart n.objects
    apart_reborn a = record {
      apart = λ i j f g x y at of mine own same.
          let r = updated_from s.now.objects place i (λ (z : Held). object) f at in
          let k = updated_from s.now.objects place j (λ (z : Held). object) g of in
          elim r.2 [
            | inl e ↦ elim k.2 [
              | inl d ↦ a.apart i j r.0 k.0 x y r.1 k.1 (ap (λ (z : Held). z.material) (sym e) ∙ mine) (ap (λ (z : Held). z.material) (sym d) ∙ own) same
              | inr d ↦
                  absurd
                  (new_apart i r.0 y x r.1 (ap (λ (z : Held). z.material) (sym d.1) ∙ own) (ap (λ (z : Held). z.material) (sym e) ∙ mine) (sym same))
            ]
            | inr e ↦ elim k.2 [
              | inl d ↦
                  absurd
                  (new_apart j k.0 x y k.1 (ap (λ (z : Held). z.material) (sym e.1) ∙ mine) (ap (λ (z : Held). z.material) (sym d) ∙ own) same)
              | inr d ↦ e.0 ∙ sym d.0
            ]
          ];
    }

    abbrev W : List Thing → WorldOf
    W V = record { things = V; aside = taken_in (id_born answer.status answer.payload) s.now.aside }

    pub reborn_took : (after_it : HeldOf) (u v : LedgerState) → after_it ≡ holds b.answered.id → u ≡ changed s n → v ≡ with_aside u (taken_in (Some b.answered.id) u.now.aside)
        → Took D (Tells ask answer) s before v after_it
    reborn_took after_it u v held is last =
        let end : LedgerState = with_aside (changed s n) (taken_in (id_born answer.status answer.payload) s.now.aside) in
        let ends : v ≡ end =
        last ∙ ap (λ (x : LedgerState). with_aside x (taken_in (Some b.answered.id) x.now.aside)) is
        ∙ ap (λ (o : Option (List ℕ)). with_aside (changed s n) (taken_in o s.now.aside)) (sym fact.id) in
        let behind : after_it ≡ held_by answer.status before answer.payload = held ∙ sym fact.held in
        let P : LedgerState → Type 0 = λ x. Took D (Tells ask answer) s before x after_it in
        subst P (sym ends)
        (record {
          explains = record {
            sound = λ c h.
                let r = takes.explains.sound c h in
                let Q : List Thing → List Thing → Type 0 = λ V V'. DoesSome rules V by t ask answer V' r.1.1 in
                let did : DoesSome rules (inv c less.objects) by t ask answer (inv c less.objects ++ thing c object ∷ []) r.1.1 =
                subst (Q (inv c less.objects)) (sym r.1.3.0 ∙ inv-append c less.objects object) r.1.2 in
                let R : List Thing → Type 0 = λ V. Q V (V ++ thing c object ∷ []) in (
                  r.0,
                  record {
                    reborn = reborn_in c;
                    place = place;
                    body = body_in c;
                    object = thing c object;
                    held = r.1.1;
                    does = subst R (inv_without c place s.now.objects) did;
                    world = ap W (inv_reborn c s.now.objects place object);
                    placeholder = behind;
                  },
                );
            complete = λ c h x y d.
                let same : d.place ≡ place = some_same d.place place (grave (stand (world c s.now)) ask answer) d.body (body_in c) in
                let V : List Thing = inv c less.objects ++ d.object ∷ [] in
                let things : without d.place (inv c s.now.objects) ≡ inv c less.objects = ap (λ (k : ℕ). without k (inv c s.now.objects)) same ∙ sym (inv_without c place s.now.objects) in
                let Q : List Thing → Type 0 = λ X. DoesSome rules X by t ask answer (X ++ d.object ∷ []) d.held in
                let r = takes.explains.complete c h V d.held (V, d.held, subst Q things d.does, (refl, refl)) in
                let old : inv r.0 less.objects ≡ inv c less.objects = inv-same less.objects less.secrets c r.0 less_sound.in_range r.2 in
                let all : inv r.0 s.now.objects ≡ inv c s.now.objects = inv-same s.now.objects s.now.secrets c r.0 sound.in_range r.2 in
                let one : d.object ≡ thing r.0 object =
                last_same (inv c less.objects) d.object (thing r.0 object) (r.3 ∙ inv-append r.0 less.objects object ∙ ap (λ (X : List Thing). X ++ thing r.0 object ∷ []) old) in
                let put : ℕ → Thing → WorldOf = λ k o. W (updated (inv c s.now.objects) k (λ (z : Thing). o)) in (
                  r.0,
                  r.1,
                  r.2,
                  d.world ∙ ap (λ (k : ℕ). put k d.object) same ∙ ap (put place) one
                      ∙ ap (λ (X : List Thing). W (updated X place (λ (z : Thing). thing r.0 object))) (sym all) ∙ ap W (sym (inv_reborn r.0 s.now.objects place object)),
                  d.placeholder ∙ sym behind,
                );
            learns = λ number bytes e. takes.explains.learns number bytes e;
            grows = takes.explains.grows;
            extends = takes.explains.extends;
            apart = apart_reborn;
          };
          sound = sound_aside n (taken_in (id_born answer.status answer.payload) s.now.aside) n_sound;
          marks = refl;
        })
