-- Get Attributes: the reasons speak exactly where the answer isn't possible, of inventories and of ledgers; it keeps the laws of operations.
use Rattle.std.proofs.Common.{◌≡◌, ◌&&◌, ◌||◌, ◌==◌, ℕ, ℤ, Bool, true, false, not, List, slice_get, is_none, is_some, bytes_eq, option_map, Option, Some, None, refl, ap, sym, ◌∙◌, subst, IfSome, IsUtf8, find, inl, cond, inr}
use Rattle.std.specs.Option.{option_and_then}
use Rattle.std.specs.Ordering.{int_eq}
use Rattle.std.proofs.lemmas.Bool.{and_parts, or_parts, not-true}
use Rattle.std.proofs.lemmas.Bool.Decides.{Decides-eqb, Decides-int_eq}
use Rattle.std.proofs.lemmas.Option.{slice_get-map}
use Rattle.std.proofs.lemmas.Slice.Eq.{bytes_eq-Decides}
use Rattle.kmipa_attrs.specs.Sets.{Attributes}
use Rattle.kmipa_attrs.specs.ObjectTypes.{type_number}
use Rattle.kmipa_object.specs.Allowances.{allows}
use Rattle.kmipa_object.specs.Inventory.{Card, Thing, cards, place_of, live}
use Rattle.kmipa_object.specs.Life.{state, state_number}
use Rattle.kmipa_object.specs.declared.allow.Act.TheVariants as act
use Rattle.kmipa_object.specs.declared.allow.Allow.TheVariants.{Not}
use Rattle.kmipa_store.specs.Ledger.{Meaning, cards_of, Held}
use Rattle.kmipa_store.specs.Choices.{Choice, inv, IsSound}
use Rattle.kmipa_store.proofs.InventoryLemmas.{cards-inv}
use Rattle.kmipa_msgs.specs.Messages.{RulesOf, GetAttributesOf, GotAttributesOf, got_attributes}
use Rattle.kmipa_ops.specs.declared.judged.Judged.TheVariants.{Name, ObjectType, CryptographicAlgorithm, CryptographicLength, CryptographicUsageMask, State, InitialDate, ActivationDate, DeactivationDate, DestroyDate, CompromiseDate}
use Rattle.kmipa_ops.specs.declared.why.Why.{Why}
use Rattle.kmipa_ops.specs.declared.why.Why.TheVariants.{NoSuchObject, WrongState, AttributeDiffers, AttributeMissing, EchoDiffers}
use Rattle.kmipa_ops.specs.Allowance.{allowance}
use Rattle.kmipa_ops.specs.Objects.{meant, HasObject, card_meant, Agree, is_other_id, clash}
use Rattle.kmipa_ops.specs.GetAttributes.{AttributesAreDecided, IsHad, IsOwnAt, ShowsAsked, HasRequired, GetsAttributes, has_stranger, is_foreign_date, asks_for, leaves_out, shows_other_value, shows_other_date, shows_foreign, shows_foreign_of, lacks_name, lacks_value, lacks_date, lacks_asked, lacks_required, lacks_required_of, excludes_attributes, get_attributes_speaks, SaysAttributes, get_attributes_deed, get_attributes_judging, attributes_speak, GetAttributesReason}
use Rattle.kmipa_ops.proofs.NameLemmas.{strangers_if, strangers_not}
use Rattle.kmipa_ops.proofs.TestLemmas.{false_if, five_parts, five_cases, three_cases, not_false, not_none, echoes_if, echoes_not, agree_if, agree_not, true_not, refuted}
use Rattle.kmipa_ops.proofs.StepLemmas.{Step, still_step}
use Rattle.kmipa_ops.proofs.DeedLaws.{outer_whys, IsDeed}
use Rattle.kmipa_ops.specs.Whys.{whys}
use Rattle.kmipa_object.specs.declared.state.State.{State as StateOf}
use Rattle.kmipa_store.specs.Queries.{state_of_place}
use Rattle.kmipa_ops.specs.Meant.{is_not, place_meant}
use Rattle.kmipa_ops.proofs.MeantLemmas.{card_there, card_nowhere, in_state, state_there}
use Rattle.std.specs.Bool.{Decides}
use Rattle.kmipa_ops.proofs.ConditionLemmas.{never_decides, is_not_decides, none_decides, id_decides}
use Rattle.kmipa_msgs.specs.GetsAttributes.{AnswersGetAttributes}
use Rattle.kmipa_msgs.specs.Sayable.{SaysOwn}

-- asked for, there, and not shown
out_if : (asked own shown : Bool) → (asked && own && not shown) ≡ false → asked ≡ true → own ≡ true → shown ≡ true
out_if asked own true h a o = refl
out_if true true false h a o = cc
out_if true false false h a o = cc
out_if false own false h a o = cc

out_not : (asked own shown : Bool) → (asked && own && not shown) ≡ true → (asked ≡ true → own ≡ true → shown ≡ true) → ⊥
out_not true true true h f = cc
out_not true true false h f = let bad : false ≡ true = f refl refl in cc
out_not true false shown h f = cc
out_not false own shown h f = cc

and_false : (asked b : Bool) → (asked && b) ≡ false → asked ≡ true → b ≡ false
and_false true b h a = h
and_false false b h a = cc

lacking_if : (alive others lacks : Bool) → (alive && not others && lacks) ≡ false → alive ≡ true → others ≡ false → lacks ≡ false
lacking_if true false lacks h a o = h
lacking_if true true lacks h a o = cc
lacking_if false others lacks h a o = cc

-- WHAT MAY BE SHOWN

had_if : (shown own : Option ℤ) → is_foreign_date shown own ≡ false → IsHad shown own
had_if None own h = tt
had_if (Some x) None h = cc
had_if (Some x) (Some y) h = ap Some (sym ((Decides-int_eq x y).0 (not_false (int_eq x y) h)))

had_not : (shown own : Option ℤ) → is_foreign_date shown own ≡ true → IsHad shown own → ⊥
had_not None own h e = cc
had_not (Some x) None h e = cc
had_not (Some x) (Some y) h e =
    let same : y ≡ x = cc in
    let f : not (int_eq x y) ≡ false = ap not ((Decides-int_eq x y).1 (sym same)) in
    cc

own_if : (c : Card) (t : ℤ) (s : Attributes) → shows_foreign c (state c.dates t) s ≡ false → IsOwnAt c t s
own_if c t s h =
    let w = or_parts (has_stranger c.given.names s.names || shows_other_value c (state c.dates t) s) (shows_other_date c.dates s) h in
    let n = or_parts (has_stranger c.given.names s.names) (shows_other_value c (state c.dates t) s) w.0 in
    let v = five_parts _ _ _ _ (clash int_eq s.mask c.given.mask) n.1 in
    let d = five_parts _ _ _ _ (is_foreign_date s.compromise c.dates.compromise) w.1 in
    record {
      names = strangers_if c.given.names s.names n.0;
      object_type = echoes_if (λ (i j : ℕ). i == j) Decides-eqb s.object_type (type_number c.kind) v.0;
      state = echoes_if (λ (i j : ℕ). i == j) Decides-eqb s.state (state_number (state c.dates t)) v.1;
      algorithm = agree_if (λ (i j : ℕ). i == j) Decides-eqb s.algorithm c.given.algorithm v.2;
      length = agree_if int_eq Decides-int_eq s.length c.given.length v.3;
      mask = agree_if int_eq Decides-int_eq s.mask c.given.mask v.4;
      initial = agree_if int_eq Decides-int_eq s.initial c.dates.initial d.0;
      activation = had_if s.activation c.dates.activation d.1;
      deactivation = had_if s.deactivation c.dates.deactivation d.2;
      destroy = had_if s.destroy c.dates.destroy d.3;
      compromise = had_if s.compromise c.dates.compromise d.4;
    }

value_not : (c : Card) (t : ℤ) (s : Attributes) → IsOwnAt c t s → shows_other_value c (state c.dates t) s ≡ true → ⊥
value_not c t s own h =
    five_cases _ _ _ _ (clash int_eq s.mask c.given.mask) h
    (λ q. echoes_not (λ (i j : ℕ). i == j) Decides-eqb s.object_type (type_number c.kind) q own.object_type)
    (λ q. echoes_not (λ (i j : ℕ). i == j) Decides-eqb s.state (state_number (state c.dates t)) q own.state)
    (λ q. agree_not (λ (i j : ℕ). i == j) Decides-eqb s.algorithm c.given.algorithm q own.algorithm)
    (λ q. agree_not int_eq Decides-int_eq s.length c.given.length q own.length)
    (λ q. agree_not int_eq Decides-int_eq s.mask c.given.mask q own.mask)

date_not : (c : Card) (t : ℤ) (s : Attributes) → IsOwnAt c t s → shows_other_date c.dates s ≡ true → ⊥
date_not c t s own h =
    five_cases _ _ _ _ (is_foreign_date s.compromise c.dates.compromise) h
    (λ q. agree_not int_eq Decides-int_eq s.initial c.dates.initial q own.initial)
    (λ q. had_not s.activation c.dates.activation q own.activation)
    (λ q. had_not s.deactivation c.dates.deactivation q own.deactivation)
    (λ q. had_not s.destroy c.dates.destroy q own.destroy)
    (λ q. had_not s.compromise c.dates.compromise q own.compromise)

own_not : (c : Card) (t : ℤ) (s : Attributes) → shows_foreign c (state c.dates t) s ≡ true → IsOwnAt c t s → ⊥
own_not c t s h own =
    three_cases (has_stranger c.given.names s.names) (shows_other_value c (state c.dates t) s) (shows_other_date c.dates s) h
    (λ q. strangers_not c.given.names s.names q own.names) (value_not c t s own) (date_not c t s own)

-- WHAT IS REQUIRED

asked_if : (g : GetAttributesOf) (c : Card) (s : Attributes) → lacks_asked g c s ≡ false → ShowsAsked g c s
asked_if g c s h =
    let w = or_parts (lacks_name g c s || lacks_value g c s) (lacks_date g c.dates s) h in
    let n = or_parts (lacks_name g c s) (lacks_value g c s) w.0 in
    let v = five_parts _ _ _ _ (leaves_out g CryptographicUsageMask (is_some c.given.mask) (is_some s.mask)) n.1 in
    let d = five_parts _ _ _ _ (leaves_out g CompromiseDate (is_some c.dates.compromise) (is_some s.compromise)) w.1 in
    record {
      names = λ a. strangers_if s.names c.given.names (and_false (asks_for g Name) (has_stranger s.names c.given.names) n.0 a);
      object_type = λ a. out_if (asks_for g ObjectType) true (is_some s.object_type) v.0 a refl;
      state = λ a. out_if (asks_for g State) true (is_some s.state) v.1 a refl;
      algorithm = λ a o. out_if (asks_for g CryptographicAlgorithm) (is_some c.given.algorithm) (is_some s.algorithm) v.2 a o;
      length = λ a o. out_if (asks_for g CryptographicLength) (is_some c.given.length) (is_some s.length) v.3 a o;
      mask = λ a o. out_if (asks_for g CryptographicUsageMask) (is_some c.given.mask) (is_some s.mask) v.4 a o;
      initial = λ a o. out_if (asks_for g InitialDate) (is_some c.dates.initial) (is_some s.initial) d.0 a o;
      activation = λ a o. out_if (asks_for g ActivationDate) (is_some c.dates.activation) (is_some s.activation) d.1 a o;
      deactivation = λ a o. out_if (asks_for g DeactivationDate) (is_some c.dates.deactivation) (is_some s.deactivation) d.2 a o;
      destroy = λ a o. out_if (asks_for g DestroyDate) (is_some c.dates.destroy) (is_some s.destroy) d.3 a o;
      compromise = λ a o. out_if (asks_for g CompromiseDate) (is_some c.dates.compromise) (is_some s.compromise) d.4 a o;
    }

lacked_name_not : (g : GetAttributesOf) (c : Card) (s : Attributes) → ShowsAsked g c s → lacks_name g c s ≡ true → ⊥
lacked_name_not g c s all h =
    let w = and_parts (asks_for g Name) (has_stranger s.names c.given.names) h in
    strangers_not s.names c.given.names w.1 (all.names w.0)

lacked_value_not : (g : GetAttributesOf) (c : Card) (s : Attributes) → ShowsAsked g c s → lacks_value g c s ≡ true → ⊥
lacked_value_not g c s all h =
    five_cases _ _ _ _ (leaves_out g CryptographicUsageMask (is_some c.given.mask) (is_some s.mask)) h
    (λ q. out_not (asks_for g ObjectType) true (is_some s.object_type) q (λ a o. all.object_type a))
    (λ q. out_not (asks_for g State) true (is_some s.state) q (λ a o. all.state a))
    (λ q. out_not (asks_for g CryptographicAlgorithm) (is_some c.given.algorithm) (is_some s.algorithm) q all.algorithm)
    (λ q. out_not (asks_for g CryptographicLength) (is_some c.given.length) (is_some s.length) q all.length)
    (λ q. out_not (asks_for g CryptographicUsageMask) (is_some c.given.mask) (is_some s.mask) q all.mask)

lacked_date_not : (g : GetAttributesOf) (c : Card) (s : Attributes) → ShowsAsked g c s → lacks_date g c.dates s ≡ true → ⊥
lacked_date_not g c s all h =
    five_cases _ _ _ _ (leaves_out g CompromiseDate (is_some c.dates.compromise) (is_some s.compromise)) h
    (λ q. out_not (asks_for g InitialDate) (is_some c.dates.initial) (is_some s.initial) q all.initial)
    (λ q. out_not (asks_for g ActivationDate) (is_some c.dates.activation) (is_some s.activation) q all.activation)
    (λ q. out_not (asks_for g DeactivationDate) (is_some c.dates.deactivation) (is_some s.deactivation) q all.deactivation)
    (λ q. out_not (asks_for g DestroyDate) (is_some c.dates.destroy) (is_some s.destroy) q all.destroy)
    (λ q. out_not (asks_for g CompromiseDate) (is_some c.dates.compromise) (is_some s.compromise) q all.compromise)

required_if : (g : GetAttributesOf) (c : Card) (s : Attributes) → lacks_required g c s ≡ false → HasRequired g c s
required_if g c s h alive plain = asked_if g c s (lacking_if (live c) g.has_others (lacks_asked g c s) h alive plain)

required_not : (g : GetAttributesOf) (c : Card) (s : Attributes) → lacks_required g c s ≡ true → HasRequired g c s → ⊥
required_not g c s h has =
    let w = and_parts (live c && not g.has_others) (lacks_asked g c s) h in
    let u = and_parts (live c) (not g.has_others) w.0 in
    let all = has u.0 (not-true g.has_others u.1) in
    three_cases (lacks_name g c s) (lacks_value g c s) (lacks_date g c.dates s) w.1 (lacked_name_not g c s all) (lacked_value_not g c s all) (lacked_date_not g c s all)

pub attributes_are_decided : AttributesAreDecided
attributes_are_decided = (
  λ c t s. (own_if c t s, λ own. false_if (shows_foreign c (state c.dates t) s) (λ h. own_not c t s h own)),
  λ g c s. (required_if g c s, λ has. false_if (lacks_required g c s) (λ h. required_not g c s h has)),
)

-- THE OBJECT THAT IS MEANT

thing_at : (o : Option Thing) (c : Card) → option_map (λ (x : Thing). x.card) o ≡ Some c → (x : Thing) × (o ≡ Some x) × (x.card ≡ c)
thing_at None c e = let bad : ⊥ = cc in absurd bad
thing_at (Some x) c e = (x, refl, cc)

card_at : (V : List Thing) (o : Option ℕ) (c : Card) → option_and_then (slice_get (cards V)) o ≡ Some c → (p : ℕ) × (o ≡ Some p) × (x : Thing) × (slice_get V p ≡ Some x) × (x.card ≡ c)
card_at V None c e = let bad : ⊥ = cc in absurd bad
card_at V (Some p) c e =
    let x = thing_at (slice_get V p) c (sym (slice_get-map (λ (y : Thing). y.card) V p) ∙ e) in
    (p, refl, x.0, x.1, x.2)

-- the object of a card
record Stands (V : List Thing) (about : Option (List ℕ)) (c : Card) : Type 0 where
  id : List ℕ
  place : ℕ
  object : Thing
  about_is : about ≡ Some id
  there : HasObject V id place object
  card_is : object.card ≡ c

stands_if : (V : List Thing) (about : Option (List ℕ)) (c : Card) → card_meant (cards V) about ≡ Some c → Stands V about c
stands_if V None c e = let bad : ⊥ = cc in absurd bad
stands_if V (Some id) c e =
    let x = card_at V (place_of id (cards V)) c e in
    record { id = id; place = x.0; object = x.2; about_is = refl; there = record { named = x.1; stands = x.3 }; card_is = x.4 }

meant_in : (V : List Thing) (about : Option (List ℕ)) (id : List ℕ) (place : ℕ) (object : Thing) → about ≡ Some id → HasObject V id place object → card_meant (cards V) about ≡ Some object.card
meant_in V about id place object e h =
    ap (card_meant (cards V)) e ∙ ap (option_and_then (slice_get (cards V))) h.named ∙ slice_get-map (λ (x : Thing). x.card) V place ∙ ap (option_map (λ (x : Thing). x.card)) h.stands

-- all attributes of an object at a moment
abbrev own_attributes : Card → ℤ → Attributes
own_attributes c t = record {
  names = c.given.names;
  object_type = Some (type_number c.kind);
  algorithm = c.given.algorithm;
  length = c.given.length;
  mask = c.given.mask;
  state = Some (state_number (state c.dates t));
  initial = c.dates.initial;
  activation = c.dates.activation;
  deactivation = c.dates.deactivation;
  destroy = c.dates.destroy;
  compromise = c.dates.compromise;
}

agrees_self : {A : Type 0} (o : Option A) → Agree o o
agrees_self None = tt
agrees_self (Some x) = refl

had_self : {A : Type 0} (o : Option A) → IsHad o o
had_self None = tt
had_self (Some x) = refl

own_is_own : (c : Card) (t : ℤ) → IsOwnAt c t (own_attributes c t)
own_is_own c t = record {
  names = λ n h. h;
  object_type = refl;
  state = refl;
  algorithm = agrees_self c.given.algorithm;
  length = agrees_self c.given.length;
  mask = agrees_self c.given.mask;
  initial = agrees_self c.dates.initial;
  activation = had_self c.dates.activation;
  deactivation = had_self c.dates.deactivation;
  destroy = had_self c.dates.destroy;
  compromise = had_self c.dates.compromise;
}

own_has_required : (g : GetAttributesOf) (c : Card) (t : ℤ) → HasRequired g c (own_attributes c t)
own_has_required g c t alive plain = record {
  names = λ a n h. h;
  object_type = λ a. refl;
  state = λ a. refl;
  algorithm = λ a o. o;
  length = λ a o. o;
  mask = λ a o. o;
  initial = λ a o. o;
  activation = λ a o. o;
  deactivation = λ a o. o;
  destroy = λ a o. o;
  compromise = λ a o. o;
}

-- INVENTORIES

module _ (rules : RulesOf) (V : List Thing) (before : Option (List ℕ)) (t : ℤ) (asked : GetAttributesOf) where
  abbrev about : Option (List ℕ)
  about = meant asked.id before

  -- an answer of the object of a card
  gets_of : (c : Card) (a : GotAttributesOf) → Stands V about c → excludes_attributes rules t (Some c) ≡ false → IsOwnAt c t a.attributes → HasRequired asked c a.attributes → is_other_id a.id about ≡ false → GetsAttributes rules V before t asked a V before
  gets_of c a x may own required echo =
      let P : Card → Type 0 = λ y. IsOwnAt y t a.attributes in
      let Q : Card → Type 0 = λ y. HasRequired asked y a.attributes in
      record {
        id = x.id;
        place = x.place;
        object = x.object;
        about = x.about_is;
        there = x.there;
        may = λ e. let bad : true ≡ false = sym (ap is_not e) ∙ ap (λ (y : Card). is_not (allowance rules act.GetAttributes t y)) x.card_is ∙ may in cc;
        own = subst P (sym x.card_is) own;
        required = subst Q (sym x.card_is) required;
        echo = echoes_if bytes_eq bytes_eq-Decides a.id x.id (ap (is_other_id a.id) (sym x.about_is) ∙ echo);
        leaves = refl;
        placeholder = refl;
      }

  -- an answer against which nothing speaks
  pub gets_if : (a : GotAttributesOf) → ((w : Why) → get_attributes_speaks rules (cards V) about t asked (Some a) w ≡ false) → GetsAttributes rules V before t asked a V before
  gets_if a silent =
      let c = not_none (card_meant (cards V) about) (silent NoSuchObject) in
      gets_of c.0 a (stands_if V about c.0 c.1) (ap (excludes_attributes rules t) (sym c.1) ∙ silent WrongState)
      (own_if c.0 t a.attributes (ap (λ (o : Option Card). shows_foreign_of o t a.attributes) (sym c.1) ∙ silent AttributeDiffers))
      (required_if asked c.0 a.attributes (ap (λ (o : Option Card). lacks_required_of asked o a.attributes) (sym c.1) ∙ silent AttributeMissing))
      (silent EchoDiffers)

  -- where nothing speaks against an answer without payload, one that shows all of the object's attributes
  pub gets_hidden : ((w : Why) → get_attributes_speaks rules (cards V) about t asked None w ≡ false)
      → (a : GotAttributesOf) × (a.id ≡ None) × GetsAttributes rules V before t asked a V before
  gets_hidden silent =
      let c = not_none (card_meant (cards V) about) (silent NoSuchObject) in
      let x = stands_if V about c.0 c.1 in
      let a : GotAttributesOf = record { id = None; attributes = own_attributes c.0 t } in
      (a, refl, gets_of c.0 a x (ap (excludes_attributes rules t) (sym c.1) ∙ silent WrongState) (own_is_own c.0 t) (own_has_required asked c.0 t) (ap (is_other_id None) x.about_is))

  -- an answer against which something speaks
  pub gets_not : (a : GotAttributesOf) (w : Why) → get_attributes_speaks rules (cards V) about t asked (Some a) w ≡ true
      → (V' : List Thing) (p : Option (List ℕ)) → GetsAttributes rules V before t asked a V' p → ⊥
  gets_not a NoSuchObject h V' p x =
      let e : is_none (card_meant (cards V) about) ≡ false = ap is_none (meant_in V about x.id x.place x.object x.about x.there) in
      cc
  gets_not a WrongState h V' p x =
      x.may ((is_not_decides (allowance rules act.GetAttributes t x.object.card)).0 (ap (excludes_attributes rules t) (sym (meant_in V about x.id x.place x.object x.about x.there)) ∙ h))
  gets_not a AttributeDiffers h V' p x =
      own_not x.object.card t a.attributes
      (ap (λ (o : Option Card). shows_foreign_of o t a.attributes) (sym (meant_in V about x.id x.place x.object x.about x.there)) ∙ h) x.own
  gets_not a AttributeMissing h V' p x =
      required_not asked x.object.card a.attributes
      (ap (λ (o : Option Card). lacks_required_of asked o a.attributes) (sym (meant_in V about x.id x.place x.object x.about x.there)) ∙ h) x.required
  gets_not a EchoDiffers h V' p x = echoes_not bytes_eq bytes_eq-Decides a.id x.id (ap (is_other_id a.id) (sym x.about) ∙ h) x.echo
  gets_not a w h V' p x = cc

  -- against an answer without payload only what speaks against each with one
  pub hidden_speaks : (a : GotAttributesOf) (w : Why) → get_attributes_speaks rules (cards V) about t asked None w ≡ true → get_attributes_speaks rules (cards V) about t asked (Some a) w ≡ true
  hidden_speaks a NoSuchObject h = h
  hidden_speaks a WrongState h = h
  hidden_speaks a w h = cc

-- LEDGERS

module _ (rules : RulesOf) (m : Meaning) (before : Option (List ℕ)) (t : ℤ) (asked : GetAttributesOf) where
  -- a reason speaks of the ledger as of each of its inventories
  speaks_of : (c : Choice) (shown : Option GotAttributesOf) (w : Why)
      → get_attributes_speaks rules (cards (inv c m.objects)) (meant asked.id before) t asked shown w ≡ get_attributes_speaks rules (cards_of m.objects) (meant asked.id before) t asked shown w
  speaks_of c shown w = ap (λ (cs : List Card). get_attributes_speaks rules cs (meant asked.id before) t asked shown w) (cards-inv c m.objects)

  pub attributes_step : (a : GotAttributesOf) → IsSound m → ((w : Why) → get_attributes_speaks rules (cards_of m.objects) (meant asked.id before) t asked (Some a) w ≡ false)
      → Step (λ V V' p. GetsAttributes rules V before t asked a V' p) m m before
  attributes_step a sound silent =
      still_step (λ V V' p. GetsAttributes rules V before t asked a V' p) m before sound
      (λ c ch. gets_if rules (inv c m.objects) before t asked a (λ w. speaks_of c (Some a) w ∙ silent w))
      (λ V V' p x. (x.leaves, x.placeholder))

  pub attributes_never : (a : GotAttributesOf) (w : Why) → get_attributes_speaks rules (cards_of m.objects) (meant asked.id before) t asked (Some a) w ≡ true
      → (c : Choice) (V : List Thing) (p : Option (List ℕ)) → GetsAttributes rules (inv c m.objects) before t asked a V p → ⊥
  attributes_never a w h c V p x = gets_not rules (inv c m.objects) before t asked a w (speaks_of c (Some a) w ∙ h) V p x

  -- an answer without payload
  pub hidden_attributes : ((w : Why) → get_attributes_speaks rules (cards_of m.objects) (meant asked.id before) t asked None w ≡ false)
      → (c : Choice) → (a : GotAttributesOf) × (a.id ≡ None) × GetsAttributes rules (inv c m.objects) before t asked a (inv c m.objects) before
  hidden_attributes silent c = gets_hidden rules (inv c m.objects) before t asked (λ w. speaks_of c None w ∙ silent w)

  pub hidden_attributes_never : (a : GotAttributesOf) (w : Why) → get_attributes_speaks rules (cards_of m.objects) (meant asked.id before) t asked None w ≡ true
      → (c : Choice) (V : List Thing) (p : Option (List ℕ)) → GetsAttributes rules (inv c m.objects) before t asked a V p → ⊥
  hidden_attributes_never a w h c V p x =
      gets_not rules (inv c m.objects) before t asked a w (hidden_speaks rules (inv c m.objects) before t asked a w (speaks_of c None w ∙ h)) V p x

quiet_attributes : (rules : RulesOf) (cs : List Card) (about : Option (List ℕ)) (t : ℤ) (g : GetAttributesOf) (shown : Option GotAttributesOf) → find (get_attributes_speaks rules cs about t g shown) outer_whys ≡ None
quiet_attributes rules cs meant_id t g None = refl
quiet_attributes rules cs meant_id t g (Some a) = refl

covers_attributes : (rules : RulesOf) (cs : List Card) (about : Option (List ℕ)) (t : ℤ) (g : GetAttributesOf) (a : GotAttributesOf) (w : Why) → get_attributes_speaks rules cs about t g None w ≡ true
    → get_attributes_speaks rules cs about t g (Some a) w ≡ true
covers_attributes rules cs about t g a NoSuchObject h = h
covers_attributes rules cs about t g a WrongState h = h
covers_attributes rules cs about t g a w h = cc

-- an answer without payload: the object's attributes complete it
hidden_of : (rules : RulesOf) (m : Meaning) (before : Option (List ℕ)) (t : ℤ) (g : GetAttributesOf) → IsSound m → ((w : Why) → get_attributes_speaks rules (cards_of m.objects) (meant g.id before) t g None w ≡ false)
    → Step (λ V V' p. (a : GotAttributesOf) × SaysAttributes a × GetsAttributes rules V before t g a V' p) m m before
hidden_of rules m before t g sound silent =
    let P : Option (List ℕ) → Type 0 = λ o. IfSome o (λ (id : List ℕ). IsUtf8 id) in
    still_step (λ V V' p. (a : GotAttributesOf) × SaysAttributes a × GetsAttributes rules V before t g a V' p) m before sound
    (λ c ch. let h = hidden_attributes rules m before t g silent c in (h.0, subst P (sym h.1) tt, h.2))
    (λ V V' p x. (x.2.leaves, x.2.placeholder))

-- of an object that may be there, a test that fails exactly where something holds
card_refuted : (test : Card → Bool) (P : Card → Type 0) → ((c : Card) → Decides (test c) (P c → ⊥)) → (of : Option Card → Bool) → of None ≡ false → ((c : Card) → of (Some c) ≡ test c)
    → (o : Option Card) → Decides (of o) ((c : Card) × (o ≡ Some c) × (P c → ⊥))
card_refuted test P dec of nowhere there None = (
  λ h. absurd (true_not (of None) h nowhere),
  λ x. let e : None ≡ Some x.0 = x.1 in let bad : ⊥ = cc in absurd bad,
)
card_refuted test P dec of nowhere there (Some c) = (
  λ h. (c, refl, (dec c).0 (sym (there c) ∙ h)),
  λ x.
      let e : Some c ≡ Some x.0 = x.1 in
      let is : x.0 ≡ c = cc in
      there c ∙ (dec c).1 (subst (λ (d : Card). P d → ⊥) is x.2),
)

-- the rules exclude it in the object's state, or not
barred_decides : (rules : RulesOf) (t : ℤ) (o : Option Card) → Decides (excludes_attributes rules t o) ((c : Card) × (o ≡ Some c) × (allowance rules act.GetAttributes t c ≡ Not))
barred_decides rules t None = (λ h. let bad : ⊥ = cc in absurd bad, λ x. let e : None ≡ Some x.0 = x.1 in let bad : ⊥ = cc in absurd bad)
barred_decides rules t (Some c) = (
  λ h. (c, refl, (is_not_decides (allowance rules act.GetAttributes t c)).0 h),
  λ x.
      let e : Some c ≡ Some x.0 = x.1 in
      let is : c ≡ x.0 = cc in
      ap (λ (d : Card). is_not (allowance rules act.GetAttributes t d)) is ∙ ap is_not x.2,
)

-- its test says what its reasons mean
get_attributes_decides : (rules : RulesOf) (cs : List Card) (meant_id : Option (List ℕ)) (t : ℤ) (g : GetAttributesOf) (shown : Option GotAttributesOf) (why : Why)
    → Decides (get_attributes_speaks rules cs meant_id t g shown why) (GetAttributesReason rules cs meant_id t g shown why)
get_attributes_decides rules cs meant_id t g None NoSuchObject = none_decides (card_meant cs meant_id)
get_attributes_decides rules cs meant_id t g None WrongState = barred_decides rules t (card_meant cs meant_id)
get_attributes_decides rules cs meant_id t g None why = never_decides
get_attributes_decides rules cs meant_id t g (Some a) NoSuchObject = none_decides (card_meant cs meant_id)
get_attributes_decides rules cs meant_id t g (Some a) WrongState = barred_decides rules t (card_meant cs meant_id)
get_attributes_decides rules cs meant_id t g (Some a) AttributeDiffers =
    card_refuted (λ c. shows_foreign c (state c.dates t) a.attributes) (λ c. IsOwnAt c t a.attributes)
    (λ c. let d = attributes_are_decided.0 c t a.attributes in refuted (shows_foreign c (state c.dates t) a.attributes) d.0 d.1)
    (λ o. shows_foreign_of o t a.attributes) refl (λ c. refl) (card_meant cs meant_id)
get_attributes_decides rules cs meant_id t g (Some a) AttributeMissing =
    card_refuted (λ c. lacks_required g c a.attributes) (λ c. HasRequired g c a.attributes)
    (λ c. let d = attributes_are_decided.1 g c a.attributes in refuted (lacks_required g c a.attributes) d.0 d.1)
    (λ o. lacks_required_of g o a.attributes) refl (λ c. refl) (card_meant cs meant_id)
get_attributes_decides rules cs meant_id t g (Some a) EchoDiffers = id_decides a.id meant_id
get_attributes_decides rules cs meant_id t g (Some a) why = never_decides

pub is_get_attributes : (g : GetAttributesOf) → IsDeed (get_attributes_deed g) (get_attributes_judging g) AnswersGetAttributes SaysOwn
is_get_attributes g = record {
  back = λ a. refl;
  each = elim [ got_attributes x ↦ inl (x, refl) | _ ↦ inr (refl, λ ts s. s) ];
  carries = λ x. (λ h. h, λ h. h);
  quiet = λ rules m before t shown. quiet_attributes rules (cards_of m.objects) (meant g.id before) t g shown;
  covers = λ rules m before t a w h. covers_attributes rules (cards_of m.objects) (meant g.id before) t g a w h;
  step = λ rules m before t a sound brought shown silent. attributes_step rules m before t g a sound silent;
  never = λ rules m before t a w h c ch V p x. attributes_never rules m before t g a w h c V p x;
  hidden = λ rules m before t may sound silent. hidden_of rules m before t g sound silent;
  learns = λ m before t shown number bytes e. inl e;
  decides = λ rules m before t shown w. get_attributes_decides rules (cards_of m.objects) (meant g.id before) t g shown w;
  same = λ rules m n same before t shown w. ap (λ (cs : List Card). get_attributes_speaks rules cs (meant g.id before) t g shown w) same.0;
}

-- AS THE PROGRAM LOOKS AT IT

module _ (rules : RulesOf) (hs : List Held) (about : Option (List ℕ)) (t : ℤ) (g : GetAttributesOf) where
  abbrev whys_behind : Option GotAttributesOf → Option Card → Option Why
  whys_behind None c = None
  whys_behind (Some a) c =
      cond (shows_foreign_of c t a.attributes) (Some AttributeDiffers)
      (cond (lacks_required_of g c a.attributes) (Some AttributeMissing) (cond (is_other_id a.id about) (Some EchoDiffers) None))

  abbrev whys_of : Option GotAttributesOf → Option Card → Option Why
  whys_of shown c = cond (is_none c) (Some NoSuchObject) (cond (excludes_attributes rules t c) (Some WrongState) (whys_behind shown c))

  whys_are : (shown : Option GotAttributesOf) → find (get_attributes_speaks rules (cards_of hs) about t g shown) whys ≡ whys_of shown (card_meant (cards_of hs) about)
  whys_are None = refl
  whys_are (Some a) = refl

  speak_is : (shown : Option GotAttributesOf) (c : Card) → attributes_speak c (state c.dates t) about g shown ≡ whys_behind shown (Some c)
  speak_is None c = refl
  speak_is (Some a) c = refl

  -- there is no object
  pub why_nowhere : (o : Option ℕ) (shown : Option GotAttributesOf) → o ≡ None → o ≡ place_meant hs about → Some NoSuchObject ≡ find (get_attributes_speaks rules (cards_of hs) about t g shown) whys
  why_nowhere o shown none place = ap (whys_of shown) (sym (card_nowhere hs about o none place)) ∙ sym (whys_are shown)

  module _ (p : ℕ) (o : Option ℕ) (shown : Option GotAttributesOf) (s : StateOf) (here : o ≡ Some p) (place : o ≡ place_meant hs about) (is : state_of_place hs p t ≡ Some s) where
    -- the rules exclude it in the object's state
    pub why_barred : is_not (allows rules.allow_lines act.GetAttributes s) ≡ true → Some WrongState ≡ find (get_attributes_speaks rules (cards_of hs) about t g shown) whys
    why_barred out =
        let x = in_state hs p t s is in
        let excluded : is_not (allowance rules act.GetAttributes t x.0.card) ≡ true = ap (λ (z : StateOf). is_not (allows rules.allow_lines act.GetAttributes z)) x.2 ∙ out in
        ap (λ (b : Bool). cond b (Some WrongState) (whys_behind shown (Some x.0.card))) (sym excluded)
        ∙ ap (whys_of shown) (sym (card_there hs about o p x.0 here place x.1)) ∙ sym (whys_are shown)

    -- or they don't, and the answer is looked at
    pub why_there : (h : Held) (id : Option (List ℕ)) (a : Option GotAttributesOf) (why : Option Why) → slice_get hs p ≡ Some h → is_not (allows rules.allow_lines act.GetAttributes s) ≡ false
        → id ≡ about → a ≡ shown → why ≡ attributes_speak h.card s id g a → why ≡ find (get_attributes_speaks rules (cards_of hs) about t g shown) whys
    why_there h id a why at may is_meant is_shown w =
        let in_it : state h.card.dates t ≡ s = state_there hs p t s h at is in
        let allowed : is_not (allowance rules act.GetAttributes t h.card) ≡ false = ap (λ (z : StateOf). is_not (allows rules.allow_lines act.GetAttributes z)) in_it ∙ may in
        w ∙ ap (λ (x : Option (List ℕ)). attributes_speak h.card s x g a) is_meant ∙ ap (λ (x : Option GotAttributesOf). attributes_speak h.card s about g x) is_shown
        ∙ ap (λ (z : StateOf). attributes_speak h.card z about g shown) (sym in_it) ∙ speak_is shown h.card
        ∙ ap (λ (b : Bool). cond b (Some WrongState) (whys_behind shown (Some h.card))) (sym allowed)
        ∙ ap (whys_of shown) (sym (card_there hs about o p h here place at)) ∙ sym (whys_are shown)
