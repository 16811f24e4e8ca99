-- A reason that speaks of lengths says what of the ledger's declaration the bytes can't be the key of.
use Rattle.std.proofs.Common.{◌≡◌, ◌≢◌, ℕ, ℤ, true, List, length, slice_get, Option, Some, None, option_map, refl, sym, ap, subst}
use Rattle.std.specs.Prelude.{option_and_then}
use Rattle.kmipa_attrs.specs.Sets.{Attributes}
use Rattle.kmipa_attrs.specs.declared.object_type.ObjectType.TheVariants.{SymmetricKey}
use Rattle.kmipa_object.specs.Inventory.{admits, rule_of}
use Rattle.kmipa_object.specs.declared.life.Material.{Material}
use Rattle.kmipa_object.specs.declared.life.Material.TheVariants.{Gone, Secret}
use Rattle.kmipa_object.specs.declared.rule.Rule.{Rule}
use Rattle.kmipa_store.specs.Choices.{IsSound}
use Rattle.kmipa_store.specs.Ledger.{Held, Known, Meaning, cards_of}
use Rattle.kmipa_msgs.specs.Messages.{RulesOf, AskedOf, BlockOf, PayloadOf, RegisterOf, RegisteredOf, GotAttributesOf, creates, registers, locates, gets, gets_attributes, activates, revokes, destroys, idles, does_other, created, registered, located, got, got_attributes, changed}
use Rattle.kmipa_msgs.specs.declared.response.Status.{Status}
use Rattle.kmipa_msgs.specs.declared.response.Status.TheVariants.{Success, Failed, Undone}
use Rattle.kmipa_record.specs.Declarations.{DeclarationOf}
use Rattle.kmipa_record.specs.Entries.{EntryOf}
use Rattle.kmipa_ops.specs.Create.{seen_created, CreateReason}
use Rattle.kmipa_ops.specs.Get.{seen_got, GetReason}
use Rattle.kmipa_ops.specs.GetAttributes.{seen_attributes, GetAttributesReason}
use Rattle.kmipa_ops.specs.Locate.{seen_located, LocateReason}
use Rattle.kmipa_ops.specs.Meant.{object_meant, place_meant, secret_at}
use Rattle.kmipa_ops.specs.Objects.{meant}
use Rattle.kmipa_ops.specs.Reasons.{DoneReason, OutcomeReason}
use Rattle.kmipa_ops.specs.Register.{brought, seen_registered, RegisterReason}
use Rattle.kmipa_ops.specs.declared.why.Why.TheVariants.{LengthImpossible}
use Rattle.kmipa_check.specs.Left.{declaration_left, entry_left}
use Rattle.kmipa_explain.specs.Holding.{object_held}
use Rattle.kmipa_explain.specs.Items.{about}
use Rattle.kmipa_ops.specs.Effects.{NewOf, makes}
use Rattle.kmipa_explain.specs.Lengths.{IsImpossible, IsImpossibleBy, new_length}
use Rattle.kmipa_explain.specs.declared.held.LengthHeld.{LengthHeld}

placed : (objects : List Held) (place : Option ℕ) (h : Held) → option_and_then (slice_get objects) place ≡ Some h → (n : ℕ) × (slice_get objects n ≡ Some h)
placed objects None h e = absurd cc
placed objects (Some n) h e = (n, e)

module _ (m : Meaning) (sound : IsSound m) where
  -- a secret has the rule of its object
  rule_at : (h : Held) (place : ℕ) (material : Material) (secret : Known) → slice_get m.objects place ≡ Some h → h.material ≡ material → secret_at m.secrets material ≡ Some secret
      → secret.rule ≡ rule_of h.card
  rule_at h place Gone secret at is e = absurd cc
  rule_at h place (Secret s) secret at is e =
      let known = sound.in_range.there place h s at is in
      let same : secret ≡ record { rule = rule_of h.card; bytes = known.0 } = cc in
      ap (λ (k : Known). k.rule) same

  shown_there : (o : Option Held) (id : Option (List ℕ)) → object_meant m.objects id ≡ o → (secret : Known) (bytes : List ℕ)
      → option_and_then (λ (h : Held). secret_at m.secrets h.material) o ≡ Some secret → admits secret.rule bytes ≢ true
      → (h : Held) × (o ≡ Some h) × (admits (rule_of h.card) bytes ≢ true)
  shown_there None id is secret bytes e ruled_out = absurd cc
  shown_there (Some h) id is secret bytes e ruled_out =
      let at = placed m.objects (place_meant m.objects id) h is in
      let P : Rule → Type 0 = λ rule. admits rule bytes ≢ true in
      (h, refl, subst P (rule_at h at.0 h.material secret at.1 refl e) ruled_out)

  abbrev entry_meant : Option (List ℕ) → Option EntryOf
  entry_meant id = option_map (entry_left m.secrets) (object_meant m.objects id)

  module _ (rules : RulesOf) (p : Option (List ℕ)) (t : ℤ) where
    abbrev Tells : Option (List ℕ) → AskedOf → Option PayloadOf → Type 0
    Tells id asked payload = (l : LengthHeld) × IsImpossible (entry_meant id) asked payload l

    created_length : (a : Attributes) (payload : Option PayloadOf) (x : Option RegisteredOf) → CreateReason rules (cards_of m.objects) a x LengthImpossible
        → (id : Option (List ℕ)) → Tells id (creates a) payload
    created_length a payload None r id = absurd r
    created_length a payload (Some x) r id = (
      record { object_type = SymmetricKey; algorithm = a.algorithm; length = a.length; bytes = None },
      record { object_type = refl; algorithm = refl; bits = refl; count = refl; ruled_out = λ bytes admitted. r (bytes, admitted) },
    )

    registered_length : (a : RegisterOf) (payload : Option PayloadOf) (x : Option RegisteredOf) → RegisterReason rules (cards_of m.objects) a x LengthImpossible
        → (id : Option (List ℕ)) → Tells id (registers a) payload
    registered_length a payload None r id = absurd r
    registered_length a payload (Some x) r id = (
      record { object_type = a.object_type; algorithm = (brought a).algorithm; length = (brought a).length; bytes = Some (length a.block.material) },
      record { object_type = refl; algorithm = refl; bits = refl; count = refl; ruled_out = r },
    )

    located_length : (q : _) (x : Option (List (List ℕ))) → LocateReason (cards_of m.objects) t q x LengthImpossible → ⊥
    located_length q None r = r
    located_length q (Some x) r = r

    told_length : (id : Option (List ℕ)) (g : _) (x : Option GotAttributesOf) → GetAttributesReason rules (cards_of m.objects) id t g x LengthImpossible → ⊥
    told_length id g None r = r
    told_length id g (Some x) r = r

    got_length : (asked id : Option (List ℕ)) (payload : Option PayloadOf) → GetReason rules m id t (option_and_then seen_got payload) LengthImpossible → Tells id (gets asked) payload
    got_length asked id None r = absurd r
    got_length asked id (Some (created x)) r = absurd r
    got_length asked id (Some (registered x)) r = absurd r
    got_length asked id (Some (located x)) r = absurd r
    got_length asked id (Some (got a)) r =
        let h = shown_there (object_meant m.objects id) id refl r.0 a.block.material r.1 r.3 in (
          record { object_type = h.0.card.kind; algorithm = h.0.card.given.algorithm; length = h.0.card.given.length; bytes = Some (length a.block.material) },
          record {
            entry = entry_left m.secrets h.0;
            is_meant = ap (option_map (entry_left m.secrets)) h.1;
            shown = a.block.material;
            are_shown = refl;
            no_key = record { object_type = refl; algorithm = refl; bits = refl; count = refl; ruled_out = h.2 };
          },
        )
    got_length asked id (Some (got_attributes x)) r = absurd r
    got_length asked id (Some (changed x)) r = absurd r

    done_length : (asked : AskedOf) (payload : Option PayloadOf) → DoneReason rules m p t asked payload LengthImpossible → Tells (about p asked payload) asked payload
    done_length (creates a) payload r = created_length a payload (option_and_then seen_created payload) r (about p (creates a) payload)
    done_length (registers a) payload r = registered_length a payload (option_and_then seen_registered payload) r (about p (registers a) payload)
    done_length (locates q) payload r = absurd (located_length q (option_and_then seen_located payload) r)
    done_length (gets id) payload r = got_length id (meant id p) payload r
    done_length (gets_attributes g) payload r = absurd (told_length (meant g.id p) g (option_and_then seen_attributes payload) r)
    done_length (activates id) payload r = absurd r
    done_length (revokes a) payload r = absurd r
    done_length (destroys id) payload r = absurd r
    done_length (idles number) payload r = absurd r
    done_length (does_other number) payload r = absurd r

    outcome_length : (status : Status) (asked : AskedOf) (reason : Option ℕ) (payload : Option PayloadOf) → OutcomeReason status rules m p t asked reason payload LengthImpossible
        → Tells (about p asked payload) asked payload
    outcome_length Success asked reason payload r = done_length asked payload r
    outcome_length Undone asked reason payload r = done_length asked payload r
    outcome_length Failed asked reason payload r = absurd r

    -- where the declaration has the object that is meant as the ledger has it
    pub length_impossible : (declared : DeclarationOf) → ((id : Option (List ℕ)) → object_held (declaration_left declared m) id ≡ entry_meant id)
        → (status : Status) (asked : AskedOf) (reason : Option ℕ) (payload : Option PayloadOf) → OutcomeReason status rules m p t asked reason payload LengthImpossible
        → (l : LengthHeld) × IsImpossible (object_held (declaration_left declared m) (about p asked payload)) asked payload l
    length_impossible declared there status asked reason payload r =
        let P : Option EntryOf → Type 0 = λ o. (l : LengthHeld) × IsImpossible o asked payload l in
        subst P (sym (there (about p asked payload))) (outcome_length status asked reason payload r)

-- what is told of a new object is of that object, where it can have no key
pub new_no_key : (new : NewOf) (l : LengthHeld) (object : Option EntryOf) (payload : Option PayloadOf) → l ≡ new_length new
    → ((k : LengthHeld) × IsImpossibleBy (makes new) object payload k) → IsImpossibleBy (makes new) object payload l
new_no_key new l object payload is ruled =
    let P : LengthHeld → Type 0 = λ k. IsImpossibleBy (makes new) object payload k in
    subst P (sym is) (record { object_type = refl; algorithm = refl; bits = refl; count = counted new.block; ruled_out = ruled.1.ruled_out })
  where
    counted : (block : Option BlockOf) → option_map (λ (b : BlockOf). length b.material) block ≡ option_map length (option_map (λ (b : BlockOf). b.material) block)
    counted None = refl
    counted (Some b) = refl
