-- A reason that speaks of echoes says that one of three is repeated otherwise.
use Rattle.std.proofs.Common.{◌≡◌, ◌⊎◌, inl, inr, ℕ, ℤ, List, Option, Some, None, refl, sym}
use Rattle.std.specs.Prelude.{option_and_then, option_map}
use Rattle.kmipa_attrs.specs.ObjectTypes.{type_number}
use Rattle.kmipa_attrs.specs.Sets.{Attributes}
use Rattle.kmipa_store.specs.Ledger.{Meaning, cards_of}
use Rattle.kmipa_msgs.specs.Messages.{RulesOf, AskedOf, AskOf, AnswerOf, PayloadOf, RegisterOf, creates, registers, locates, gets, gets_attributes, activates, revokes, destroys, idles, does_other, created, registered, located, got, got_attributes, changed}
use Rattle.kmipa_msgs.specs.declared.response.Status.{Status}
use Rattle.kmipa_msgs.specs.declared.response.Status.TheVariants.{Success, Failed, Undone}
use Rattle.kmipa_ops.specs.Changes.{id_in, seen_changed}
use Rattle.kmipa_ops.specs.Create.{seen_created, CreateReason}
use Rattle.kmipa_ops.specs.Get.{seen_got, GetReason}
use Rattle.kmipa_ops.specs.GetAttributes.{seen_attributes, GetAttributesReason}
use Rattle.kmipa_ops.specs.Locate.{seen_located, LocateReason}
use Rattle.kmipa_ops.specs.Objects.{meant, Clashes}
use Rattle.kmipa_ops.specs.Reasons.{DoneReason, OutcomeReason, Reason}
use Rattle.kmipa_ops.specs.Register.{seen_registered, RegisterReason}
use Rattle.kmipa_ops.specs.declared.why.Why.TheVariants.{EchoDiffers}
use Rattle.kmipa_explain.specs.Items.{about}
use Rattle.kmipa_explain.specs.Echoes.{Differs, DiffersSomehow, id_repeated, type_asked, type_repeated}

-- two fields that clash differ
clash_differs : {X : Type 0} (repeated asked : Option X) → Clashes repeated asked → Differs asked repeated
clash_differs repeated asked r = (r.0, r.2.0, record { is_asked = r.1; is_repeated = r.2.1; apart = λ e. r.2.2 (sym e) })

-- the type of a new object, or the identifier of an object
abbrev DiffersWithin : Option (List ℕ) → AskedOf → Option PayloadOf → Type 0
DiffersWithin about asked payload = Differs about (id_repeated payload) ⊎ Differs (option_map type_number (type_asked asked)) (type_repeated payload)

module _ (rules : RulesOf) (m : Meaning) (p : Option (List ℕ)) (t : ℤ) where
  created_echo : (a : Attributes) (payload : Option PayloadOf) → CreateReason rules (cards_of m.objects) a (option_and_then seen_created payload) EchoDiffers
      → Differs (option_map type_number (type_asked (creates a))) (type_repeated payload)
  created_echo a None r = absurd r
  created_echo a (Some (created x)) r = (2, r.0, record { is_asked = refl; is_repeated = r.1; apart = λ e. r.2 (sym e) })
  created_echo a (Some (registered x)) r = absurd r
  created_echo a (Some (located x)) r = absurd r
  created_echo a (Some (got x)) r = absurd r
  created_echo a (Some (got_attributes x)) r = absurd r
  created_echo a (Some (changed x)) r = absurd r

  registered_echo : (a : RegisterOf) (payload : Option PayloadOf) → RegisterReason rules (cards_of m.objects) a (option_and_then seen_registered payload) EchoDiffers
      → Differs (option_map type_number (type_asked (registers a))) (type_repeated payload)
  registered_echo a None r = absurd r
  registered_echo a (Some (created x)) r = absurd r
  registered_echo a (Some (registered x)) r = (type_number a.object_type, r.0, record { is_asked = refl; is_repeated = r.1; apart = λ e. r.2 (sym e) })
  registered_echo a (Some (located x)) r = absurd r
  registered_echo a (Some (got x)) r = absurd r
  registered_echo a (Some (got_attributes x)) r = absurd r
  registered_echo a (Some (changed x)) r = absurd r

  located_echo : (q : _) (x : Option (List (List ℕ))) → LocateReason (cards_of m.objects) t q x EchoDiffers → ⊥
  located_echo q None r = r
  located_echo q (Some x) r = r

  got_echo : (id : Option (List ℕ)) (payload : Option PayloadOf) → GetReason rules m id t (option_and_then seen_got payload) EchoDiffers → Differs id (id_repeated payload)
  got_echo id None r = absurd r
  got_echo id (Some (created x)) r = absurd r
  got_echo id (Some (registered x)) r = absurd r
  got_echo id (Some (located x)) r = absurd r
  got_echo id (Some (got a)) r = clash_differs a.id id r
  got_echo id (Some (got_attributes x)) r = absurd r
  got_echo id (Some (changed x)) r = absurd r

  told_echo : (id : Option (List ℕ)) (g : _) (payload : Option PayloadOf) → GetAttributesReason rules (cards_of m.objects) id t g (option_and_then seen_attributes payload) EchoDiffers
      → Differs id (id_repeated payload)
  told_echo id g None r = absurd r
  told_echo id g (Some (created x)) r = absurd r
  told_echo id g (Some (registered x)) r = absurd r
  told_echo id g (Some (located x)) r = absurd r
  told_echo id g (Some (got x)) r = absurd r
  told_echo id g (Some (got_attributes a)) r = clash_differs a.id id r
  told_echo id g (Some (changed x)) r = absurd r

  -- of a change
  changed_echo : (id : Option (List ℕ)) (payload : Option PayloadOf) → Clashes (id_in (option_and_then seen_changed payload)) id → Differs id (id_repeated payload)
  changed_echo id None r = let bad : None ≡ Some r.2.0 = r.2.1 in absurd cc
  changed_echo id (Some (created x)) r = let bad : None ≡ Some r.2.0 = r.2.1 in absurd cc
  changed_echo id (Some (registered x)) r = let bad : None ≡ Some r.2.0 = r.2.1 in absurd cc
  changed_echo id (Some (located x)) r = let bad : None ≡ Some r.2.0 = r.2.1 in absurd cc
  changed_echo id (Some (got x)) r = let bad : None ≡ Some r.2.0 = r.2.1 in absurd cc
  changed_echo id (Some (got_attributes x)) r = let bad : None ≡ Some r.2.0 = r.2.1 in absurd cc
  changed_echo id (Some (changed x)) r = clash_differs x id r

  done_echo : (asked : AskedOf) (payload : Option PayloadOf) → DoneReason rules m p t asked payload EchoDiffers → DiffersWithin (about p asked payload) asked payload
  done_echo (creates a) payload r = inr (created_echo a payload r)
  done_echo (registers a) payload r = inr (registered_echo a payload r)
  done_echo (locates q) payload r = absurd (located_echo q (option_and_then seen_located payload) r)
  done_echo (gets id) payload r = inl (got_echo (meant id p) payload r)
  done_echo (gets_attributes g) payload r = inl (told_echo (meant g.id p) g payload r)
  done_echo (activates id) payload r = inl (changed_echo (meant id p) payload r)
  done_echo (revokes a) payload r = inl (changed_echo (meant a.id p) payload r)
  done_echo (destroys id) payload r = inl (changed_echo (meant id p) payload r)
  done_echo (idles number) payload r = absurd r
  done_echo (does_other number) payload r = absurd r

  outcome_echo : (status : Status) (asked : AskedOf) (reason : Option ℕ) (payload : Option PayloadOf) → OutcomeReason status rules m p t asked reason payload EchoDiffers
      → DiffersWithin (about p asked payload) asked payload
  outcome_echo Success asked reason payload r = done_echo asked payload r
  outcome_echo Undone asked reason payload r = done_echo asked payload r
  outcome_echo Failed asked reason payload r = absurd r

  pub echo_differs : (ask : AskOf) (answer : AnswerOf) → Reason rules m p t ask answer EchoDiffers → DiffersSomehow (about p ask.asked answer.payload) ask answer
  echo_differs ask answer (inl r) = inl (clash_differs answer.batch_id ask.batch_id r)
  echo_differs ask answer (inr r) = inr (outcome_echo answer.status ask.asked answer.reason answer.payload r)

-- where none of the three is repeated otherwise
pub none_differs : (id : Option (List ℕ)) (ask : AskOf) (answer : AnswerOf) → (Differs ask.batch_id answer.batch_id → ⊥) → (Differs id (id_repeated answer.payload) → ⊥)
    → (Differs (option_map type_number (type_asked ask.asked)) (type_repeated answer.payload) → ⊥) → DiffersSomehow id ask answer → ⊥
none_differs id ask answer f g h (inl d) = f d
none_differs id ask answer f g h (inr (inl d)) = g d
none_differs id ask answer f g h (inr (inr d)) = h d
