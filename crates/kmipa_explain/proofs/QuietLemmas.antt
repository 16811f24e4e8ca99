-- No item is refused for a stamp: that reason is one of turns.
use Rattle.std.proofs.Common.{◌≡◌, ℕ, ℤ, Bool, true, false, List, [], ◌∷◌, find, Option, Some, None, refl, sym, ap, ◌∙◌}
use Rattle.kmipa_store.specs.Ledger.{Meaning}
use Rattle.kmipa_msgs.specs.Messages.{RulesOf, AskedOf, AskOf, PayloadOf, AnswerOf, creates, registers, locates, gets, gets_attributes, activates, revokes, destroys, idles, does_other}
use Rattle.kmipa_msgs.specs.declared.response.Status.{Status}
use Rattle.kmipa_msgs.specs.declared.response.Status.TheVariants.{Success, Failed, Undone}
use Rattle.kmipa_ops.specs.Row.{Deed, seen_in}
use Rattle.kmipa_ops.specs.Blame.{done_speaks, outcome_speaks, speaks, lowest}
use Rattle.kmipa_ops.specs.Whys.{whys}
use Rattle.kmipa_ops.specs.declared.why.Why.{Why}
use Rattle.kmipa_ops.specs.declared.why.Why.TheVariants.{StampRunsBack}
use Rattle.kmipa_ops.specs.Create.{create_deed, create_judging}
use Rattle.kmipa_ops.specs.Register.{register_deed, register_judging}
use Rattle.kmipa_ops.specs.Locate.{locate_deed, locate_judging}
use Rattle.kmipa_ops.specs.Get.{get_deed, get_judging}
use Rattle.kmipa_ops.specs.GetAttributes.{get_attributes_deed, get_attributes_judging}
use Rattle.kmipa_ops.specs.Changes.{change_judging}
use Rattle.kmipa_ops.specs.Judging.{Judging}
use Rattle.kmipa_ops.specs.declared.change.Change.TheVariants.{Activate, Revoke, Destroy}
use Rattle.kmipa_ops.specs.Activate.{activate_deed}
use Rattle.kmipa_ops.specs.Revoke.{revoke_deed}
use Rattle.kmipa_ops.specs.Destroy.{destroy_deed}

-- what is found passes
pub found_passes : {X : Type 0} (p : X → Bool) (xs : List X) (x : X) → find p xs ≡ Some x → p x ≡ true
found_passes p [] x e = absurd cc
found_passes {X} p (y ∷ xs) x e = by (p y) refl (λ (rest : find p xs ≡ Some x). found_passes p xs x rest)
  where
    by : (b : Bool) → p y ≡ b → (find p xs ≡ Some x → p x ≡ true) → p x ≡ true
    by true is further = let same : y ≡ x = (let here : find p (y ∷ xs) ≡ Some y = rw is refl in cc) in ap p (sym same) ∙ is
    by false is further = further (let here : find p (y ∷ xs) ≡ find p xs = rw is refl in sym here ∙ e)

abbrev IsQuiet : (d : Deed) → Judging d → Type 0
IsQuiet d j = (rules : RulesOf) (m : Meaning) (before : Option (List ℕ)) (t : ℤ) (shown : Option d.Shown) → j.speaks rules m before t shown StampRunsBack ≡ false

quiet_create : (a : _) → IsQuiet (create_deed a) (create_judging a)
quiet_create a rules m before t None = refl
quiet_create a rules m before t (Some x) = refl

quiet_register : (r : _) → IsQuiet (register_deed r) (register_judging r)
quiet_register r rules m before t None = refl
quiet_register r rules m before t (Some x) = refl

quiet_locate : (q : _) → IsQuiet (locate_deed q) (locate_judging q)
quiet_locate q rules m before t None = refl
quiet_locate q rules m before t (Some x) = refl

quiet_get : (id : Option (List ℕ)) → IsQuiet (get_deed id) (get_judging id)
quiet_get id rules m before t None = refl
quiet_get id rules m before t (Some x) = refl

quiet_get_attributes : (g : _) → IsQuiet (get_attributes_deed g) (get_attributes_judging g)
quiet_get_attributes g rules m before t None = refl
quiet_get_attributes g rules m before t (Some x) = refl

quiet_activate : (id : Option (List ℕ)) → IsQuiet (activate_deed id) (change_judging id Activate)
quiet_activate id rules m before t shown = refl

quiet_revoke : (r : _) → IsQuiet (revoke_deed r) (change_judging r.id (Revoke r.code))
quiet_revoke r rules m before t shown = refl

quiet_destroy : (id : Option (List ℕ)) → IsQuiet (destroy_deed id) (change_judging id Destroy)
quiet_destroy id rules m before t shown = refl

quiet_done : (rules : RulesOf) (m : Meaning) (before : Option (List ℕ)) (t : ℤ) (asked : AskedOf) (payload : Option PayloadOf) → done_speaks rules m before t asked payload StampRunsBack ≡ false
quiet_done rules m before t (creates a) payload = quiet_create a rules m before t (seen_in (create_deed a) payload)
quiet_done rules m before t (registers r) payload = quiet_register r rules m before t (seen_in (register_deed r) payload)
quiet_done rules m before t (locates q) payload = quiet_locate q rules m before t (seen_in (locate_deed q) payload)
quiet_done rules m before t (gets id) payload = quiet_get id rules m before t (seen_in (get_deed id) payload)
quiet_done rules m before t (gets_attributes g) payload = quiet_get_attributes g rules m before t (seen_in (get_attributes_deed g) payload)
quiet_done rules m before t (activates id) payload = quiet_activate id rules m before t (seen_in (activate_deed id) payload)
quiet_done rules m before t (revokes r) payload = quiet_revoke r rules m before t (seen_in (revoke_deed r) payload)
quiet_done rules m before t (destroys id) payload = quiet_destroy id rules m before t (seen_in (destroy_deed id) payload)
quiet_done rules m before t (idles number) payload = refl
quiet_done rules m before t (does_other number) payload = refl

quiet_outcome : (status : Status) (rules : RulesOf) (m : Meaning) (before : Option (List ℕ)) (t : ℤ) (asked : AskedOf) (reason : Option ℕ) (payload : Option PayloadOf)
    → outcome_speaks status rules m before t asked reason payload StampRunsBack ≡ false
quiet_outcome Success rules m before t asked reason payload = quiet_done rules m before t asked payload
quiet_outcome Undone rules m before t asked reason payload = quiet_done rules m before t asked payload
quiet_outcome Failed rules m before t asked reason payload = refl

pub no_stamp : (rules : RulesOf) (m : Meaning) (before : Option (List ℕ)) (t : ℤ) (ask : AskOf) (answer : AnswerOf) → lowest rules m before t ask answer ≡ Some StampRunsBack → ⊥
no_stamp rules m before t ask answer named =
    let loud : speaks rules m before t ask answer StampRunsBack ≡ true = found_passes (λ (why : Why). speaks rules m before t ask answer why) whys StampRunsBack named in
    let quiet : speaks rules m before t ask answer StampRunsBack ≡ false = quiet_outcome answer.status rules m before t ask.asked answer.reason answer.payload in
    absurd cc
