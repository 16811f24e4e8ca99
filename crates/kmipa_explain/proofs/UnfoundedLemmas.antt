-- A reason that is unfounded over a ledger is the reason of a failed answer.
use Rattle.std.proofs.Common.{◌≡◌, ℕ, ℤ, List, Option, Some, None, refl}
use Rattle.std.specs.Prelude.{option_and_then}
use Rattle.kmipa_store.specs.Ledger.{Meaning, cards_of}
use Rattle.kmipa_msgs.specs.Messages.{RulesOf, RegisteredOf, GotOf, GotAttributesOf, AskedOf, PayloadOf, AnswerOf, creates, registers, locates, gets, gets_attributes, activates, revokes, destroys, idles, does_other}
use Rattle.kmipa_msgs.specs.declared.response.Status.{Status}
use Rattle.kmipa_msgs.specs.declared.response.Status.TheVariants.{Success, Failed, Undone}
use Rattle.kmipa_ops.specs.Create.{seen_created, CreateReason}
use Rattle.kmipa_ops.specs.Founded.{Founded, unsaid}
use Rattle.kmipa_ops.specs.Get.{seen_got, GetReason}
use Rattle.kmipa_ops.specs.GetAttributes.{seen_attributes, GetAttributesReason}
use Rattle.kmipa_ops.specs.Locate.{seen_located, LocateReason}
use Rattle.kmipa_ops.specs.Objects.{meant}
use Rattle.kmipa_ops.specs.Reasons.{DoneReason, OutcomeReason}
use Rattle.kmipa_ops.specs.Register.{seen_registered, RegisterReason}
use Rattle.kmipa_ops.specs.declared.why.Why.TheVariants.{ReasonUnfounded}
use Rattle.kmipa_explain.specs.Unfounded.{FailsFor}

module _ (rules : RulesOf) (m : Meaning) (p : Option (List ℕ)) (t : ℤ) where
  created : (a : _) (x : Option RegisteredOf) → CreateReason rules (cards_of m.objects) a x ReasonUnfounded → ⊥
  created a None r = r
  created a (Some x) r = r

  registered : (a : _) (x : Option RegisteredOf) → RegisterReason rules (cards_of m.objects) a x ReasonUnfounded → ⊥
  registered a None r = r
  registered a (Some x) r = r

  located : (q : _) (x : Option (List (List ℕ))) → LocateReason (cards_of m.objects) t q x ReasonUnfounded → ⊥
  located q None r = r
  located q (Some x) r = r

  got : (about : Option (List ℕ)) (x : Option GotOf) → GetReason rules m about t x ReasonUnfounded → ⊥
  got about None r = r
  got about (Some x) r = r

  told : (about : Option (List ℕ)) (g : _) (x : Option GotAttributesOf) → GetAttributesReason rules (cards_of m.objects) about t g x ReasonUnfounded → ⊥
  told about g None r = r
  told about g (Some x) r = r

  -- it isn't one against an answer that is done
  done : (asked : AskedOf) (payload : Option PayloadOf) → DoneReason rules m p t asked payload ReasonUnfounded → ⊥
  done (creates a) payload r = created a (option_and_then seen_created payload) r
  done (registers a) payload r = registered a (option_and_then seen_registered payload) r
  done (locates q) payload r = located q (option_and_then seen_located payload) r
  done (gets id) payload r = got (meant id p) (option_and_then seen_got payload) r
  done (gets_attributes g) payload r = told (meant g.id p) g (option_and_then seen_attributes payload) r
  done (activates id) payload r = r
  done (revokes a) payload r = r
  done (destroys id) payload r = r
  done (idles number) payload r = r
  done (does_other number) payload r = r

  -- a failure without a reason is founded
  said : (asked : AskedOf) (reason : Option ℕ) → (Founded rules (cards_of m.objects) p t asked reason → ⊥) → (number : ℕ) × (reason ≡ Some number)
  said asked None unfounded = absurd (unfounded (unsaid refl))
  said asked (Some number) unfounded = (number, refl)

  pub fails_for : (asked : AskedOf) (answer : AnswerOf) → OutcomeReason answer.status rules m p t asked answer.reason answer.payload ReasonUnfounded
      → (number : ℕ) × FailsFor answer number
  fails_for asked answer r = by answer.status refl r
    where
      by : (status : Status) → answer.status ≡ status → OutcomeReason status rules m p t asked answer.reason answer.payload ReasonUnfounded
          → (number : ℕ) × FailsFor answer number
      by Success is h = absurd (done asked answer.payload h)
      by Undone is h = absurd (done asked answer.payload h)
      by Failed is h = let s = said asked answer.reason h in (s.0, record { failed = is; reason = s.1 })
