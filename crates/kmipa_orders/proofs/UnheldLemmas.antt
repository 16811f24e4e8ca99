-- Items that were done on an object that they don't name, while the ID Placeholder was empty.
use Rattle.std.proofs.Common.{◌≡◌, ◌≢◌, ◌⊎◌, inl, inr, ℕ, zero, suc, ◌+◌, ℤ, Bool, true, false, not, List, [], ◌∷◌, length, slice_get, Option, Some, None, refl, sym, ap, ◌∙◌, subst, arith}
use Rattle.std.specs.Prelude.{MatchOption, drop, ◌&&◌, nat_lt}
use Rattle.std.specs.List.{zip}
use Rattle.kmipa_object.specs.Inventory.{Thing}
use Rattle.kmipa_object.specs.declared.allow.Act.{Act}
use Rattle.kmipa_object.specs.declared.allow.Act.TheVariants.{Get, GetAttributes}
use Rattle.kmipa_attrs.specs.Sets.{Attributes}
use Rattle.kmipa_msgs.specs.declared.response.Status.{Status}
use Rattle.kmipa_msgs.specs.declared.response.Status.TheVariants.{Success, Failed, Undone}
use Rattle.kmipa_msgs.specs.Messages.{RulesOf, AskedOf, creates, registers, locates, gets, gets_attributes, activates, revokes, destroys, idles, does_other, AskOf, RequestOf, PayloadOf, GotOf, GotAttributesOf, AnswerOf, ResponseOf}
use Rattle.kmipa_ops.specs.declared.change.Change.{Change}
use Rattle.kmipa_ops.specs.declared.change.Change.TheVariants.{Activate, Revoke, Destroy}
use Rattle.kmipa_ops.specs.Changes.{ChangesObject, act_of, change_deed}
use Rattle.kmipa_ops.specs.Get.{Gets, get_deed}
use Rattle.kmipa_ops.specs.GetAttributes.{GetsAttributes, get_attributes_deed}
use Rattle.kmipa_ops.specs.Objects.{meant}
use Rattle.kmipa_ops.specs.Row.{on_object, seen_in}
use Rattle.kmipa_ops.specs.Does.{Outcome, Succeeds}
use Rattle.kmipa_ops.specs.Completes.{Fills, DoesSome}
use Rattle.kmipa_ops.specs.Chains.{ChainSome}
use Rattle.kmipa_parts.specs.Parts.{held_after}
use Rattle.kmipa_parts.proofs.ItemLemmas.{held_outcome}
use Rattle.kmipa_record.specs.Witnesses.{BirthOf, FillOf, TurnOf}
use Rattle.kmipa_msgs.specs.Messages.{request_of, response_of}
use Rattle.kmipa_batch.specs.Calls.{RefusesMessage, MayTake, CallSomeAlong}
use Rattle.kmipa_batch.specs.Orders.{order_given}
use Rattle.kmipa_batch.proofs.CompletionLemmas.{BatchSome, batch_of_call}
use Rattle.kmipa_check.specs.Births.{born_with, asked_with, IsBornAt, as_asked, completed, IsBorn}
use Rattle.kmipa_check.specs.Calls.{CallOf}
use Rattle.kmipa_check.specs.Fills.{IsFilled, IsFilledAt, stays, put_in}
use Rattle.kmipa_check.specs.Grants.{GrantsOf}
use Rattle.kmipa_check.specs.Moments.{at_moment}
use Rattle.kmipa_check.specs.Places.{MayBeTaken}
use Rattle.kmipa_check.specs.Steps.{StepOf, IsStep, IsAnswered, recorded, given, order_of}
use Rattle.kmipa_check.proofs.PlacesLemmas.{may_take, refused_at, step_taken}
use Rattle.kmipa_orders.specs.Candidates.{candidate_call}
use Rattle.kmipa_orders.specs.Hopeless.{IsHopeless}
use Rattle.kmipa_orders.specs.declared.candidate.Candidate.{Candidate}
use Rattle.kmipa_orders.proofs.HopelessLemmas.{never_taken, refused_before}
use Rattle.kmipa_orders.specs.Unheld.{is_of_none, is_unnamed, is_whole, IsUnheld, IsUnheldAmong, IsUnheldCall}

-- ---- what was done on an object means one

matched : {X : Type 0} (o : Option X) (P : X → Type 0) → MatchOption o ⊥ P → ((x : X) → P x → ⊥) → ⊥
matched None P m never = m
matched (Some x) P m never = never x m

-- an operation on an object that it doesn't name means none where the ID Placeholder is empty
unnamed_meant : (named : Option (List ℕ)) (act : Act) (unjudged : Bool) (id : List ℕ) → is_of_none (on_object named act unjudged) ≡ true → meant named None ≡ Some id → ⊥
unnamed_meant None act unjudged id e m = cc
unnamed_meant (Some x) act unjudged id e m = cc

module _ (rules : RulesOf) (t : ℤ) (V W : List Thing) (left : Option (List ℕ)) where
  no_change : (named : Option (List ℕ)) (change : Change) (payload : Option PayloadOf) → is_of_none (on_object named (act_of change) false) ≡ true
      → MatchOption (seen_in (change_deed named change) payload) ⊥ (λ (shown : Option (List ℕ)). ChangesObject rules V None t named change shown W left) → ⊥
  no_change named change payload e h =
      matched (seen_in (change_deed named change) payload) (λ (shown : Option (List ℕ)). ChangesObject rules V None t named change shown W left) h
      (λ x m. unnamed_meant named (act_of change) false m.id e m.about)

  none_succeeds : (asked : AskedOf) (payload : Option PayloadOf) → is_unnamed asked ≡ true → Succeeds rules V None t asked payload W left → ⊥
  none_succeeds (creates a) payload e h = cc
  none_succeeds (registers r) payload e h = cc
  none_succeeds (locates q) payload e h = cc
  none_succeeds (gets named) payload e h =
      matched (seen_in (get_deed named) payload) (λ (a : GotOf). Gets rules V None t named a W left) h (λ x m. unnamed_meant named Get false m.id e m.about)
  none_succeeds (gets_attributes g) payload e h =
      matched (seen_in (get_attributes_deed g) payload) (λ (a : GotAttributesOf). GetsAttributes rules V None t g a W left) h
      (λ x m. unnamed_meant g.id GetAttributes g.is_selective m.id e m.about)
  none_succeeds (activates named) payload e h = no_change named Activate payload e h
  none_succeeds (revokes r) payload e h = no_change r.id (Revoke r.code) payload e h
  none_succeeds (destroys named) payload e h = no_change named Destroy payload e h
  none_succeeds (idles number) payload e h = cc
  none_succeeds (does_other number) payload e h = cc

  none_done : (status : Status) (asked : AskedOf) (reason : Option ℕ) (payload : Option PayloadOf) → status ≢ Failed → is_unnamed asked ≡ true
      → Outcome status rules V None t asked reason payload W left → ⊥
  none_done Success asked reason payload done e o = none_succeeds asked payload e o
  none_done Undone asked reason payload done e o = none_succeeds asked payload e o
  none_done Failed asked reason payload done e o = done refl

-- ---- along a call

filled_whole : (asked : AskedOf) (status : Status) (payload filled : Option PayloadOf) → is_whole status payload ≡ true → Fills asked status payload filled → filled ≡ payload
filled_whole asked Success payload filled e f = f
filled_whole asked Failed payload filled e f = f
filled_whole asked Undone None filled e f = cc
filled_whole asked Undone (Some p) filled e f = f

module _ (rules : RulesOf) (t : ℤ) (V W : List Thing) (before left : Option (List ℕ)) (ask : AskOf) (answer : AnswerOf) (d : DoesSome rules V before t ask answer W left) where
  outcome : Outcome answer.status rules V before t ask.asked d.full.reason d.full.payload W left
  outcome = let P : Status → Type 0 = λ s. Outcome s rules V before t ask.asked d.full.reason d.full.payload W left in subst P d.completes.status d.does.outcome

  -- what the ID Placeholder holds behind an item that left no payload out
  held_whole : is_whole answer.status answer.payload ≡ true → left ≡ held_after before ask.asked answer.status answer.payload
  held_whole e =
      held_outcome rules t V before W left answer.status ask.asked d.full.reason d.full.payload outcome
      ∙ ap (held_after before ask.asked answer.status) (filled_whole ask.asked answer.status answer.payload d.full.payload e d.completes.payload)

  unheld_never : IsUnheld before ask answer → ⊥
  unheld_never u =
      let P : Option (List ℕ) → Type 0 = λ b. Outcome answer.status rules V b t ask.asked d.full.reason d.full.payload W left in
      none_done rules t V W left answer.status ask.asked d.full.reason d.full.payload u.done u.unnamed (subst P u.empty outcome)

-- no chain of items goes through one
pub chain_never : (rules : RulesOf) (t : ℤ) (V : List Thing) (before : Option (List ℕ)) (asks : List AskOf) (answers : List AnswerOf) (W : List Thing) (left : Option (List ℕ))
    → ChainSome rules t V before (zip asks answers) W left → IsUnheldAmong before asks answers → ⊥
chain_never rules t V before [] answers W left c u = absurd u
chain_never rules t V before (ask ∷ asks) [] W left c u = absurd u
chain_never rules t V before (ask ∷ asks) (answer ∷ answers) W left c (inl u) = unheld_never rules t V c.0 before c.1 ask answer c.2 u
chain_never rules t V before (ask ∷ asks) (answer ∷ answers) W left c (inr u) =
    let P : Option (List ℕ) → Type 0 = λ b. ChainSome rules t c.0 b (zip asks answers) W left in
    chain_never rules t c.0 (held_after before ask.asked answer.status answer.payload) asks answers W left
    (subst P (held_whole rules t V c.0 before c.1 ask answer c.2 u.0) c.3) u.1

-- ---- what a step takes of the recorded call

-- two asks name an object or none alike, and leave the ID Placeholder alike
record AreAlike (a b : AskedOf) : Type 0 where
  unnamed : is_unnamed b ≡ is_unnamed a
  held : (before : Option (List ℕ)) (status : Status) (payload : Option PayloadOf) → held_after before b status payload ≡ held_after before a status payload

born_alike : (a : AskedOf) (birth : Attributes) → AreAlike a (asked_with a birth)
born_alike (creates a) birth = record { unnamed = refl; held = held }
  where
    held : (before : Option (List ℕ)) (status : Status) (payload : Option PayloadOf)
        → held_after before (creates (born_with a birth)) status payload ≡ held_after before (creates a) status payload
    held before Success payload = refl
    held before Undone payload = refl
    held before Failed payload = refl
born_alike (registers r) birth = record { unnamed = refl; held = held }
  where
    held : (before : Option (List ℕ)) (status : Status) (payload : Option PayloadOf)
        → held_after before (registers (record r { attributes = born_with r.attributes birth })) status payload ≡ held_after before (registers r) status payload
    held before Success payload = refl
    held before Undone payload = refl
    held before Failed payload = refl
born_alike (locates q) birth = record { unnamed = refl; held = λ before status payload. refl }
born_alike (gets id) birth = record { unnamed = refl; held = λ before status payload. refl }
born_alike (gets_attributes g) birth = record { unnamed = refl; held = λ before status payload. refl }
born_alike (activates id) birth = record { unnamed = refl; held = λ before status payload. refl }
born_alike (revokes r) birth = record { unnamed = refl; held = λ before status payload. refl }
born_alike (destroys id) birth = record { unnamed = refl; held = λ before status payload. refl }
born_alike (idles number) birth = record { unnamed = refl; held = λ before status payload. refl }
born_alike (does_other number) birth = record { unnamed = refl; held = λ before status payload. refl }

alike_there : (g : GrantsOf) (births : List BirthOf) (place : ℕ) (ask born : AskOf) → IsBornAt g births place ask born → AreAlike ask.asked born.asked
alike_there g births place ask born (as_asked none is) =
    let P : AskOf → Type 0 = λ x. AreAlike ask.asked x.asked in
    subst P (sym is) (record { unnamed = refl; held = λ before status payload. refl })
alike_there g births place ask born (completed birth one its attributes of is) =
    let P : AskOf → Type 0 = λ x. AreAlike ask.asked x.asked in
    subst P (sym is) (born_alike ask.asked attributes)

-- an answer has its status, and one that left no payload out is the answer itself
record IsKept (answer filled : AnswerOf) : Type 0 where
  status : filled.status ≡ answer.status
  whole : is_whole answer.status answer.payload ≡ true → filled ≡ answer

left_out : (status : Status) (payload : Option PayloadOf) → status ≡ Undone → payload ≡ None → is_whole status payload ≡ true → ⊥
left_out Success payload undone absent e = cc
left_out Failed payload undone absent e = cc
left_out Undone None undone absent e = cc
left_out Undone (Some p) undone absent e = cc

kept_there : (request : RequestOf) (response : ResponseOf) (fills : List FillOf) (place : ℕ) (answer filled : AnswerOf) → IsFilledAt request response fills place answer filled → IsKept answer filled
kept_there request response fills place answer filled (stays none is) = record { status = ap (λ (x : AnswerOf). x.status) is; whole = λ e. is }
kept_there request response fills place answer filled (put_in ask w fill one its p says is) = record {
  status = ap (λ (x : AnswerOf). x.status) is;
  whole = λ e. absurd (left_out answer.status answer.payload w.wanted.undone w.wanted.absent e);
}

cons_long : {A : Type 0} (x : A) (xs : List A) (y : A) (ys : List A) → length (y ∷ ys) ≡ length (x ∷ xs) → length ys ≡ length xs
cons_long x xs y ys e = cc

moved : (before : Option (List ℕ)) (asks : List AskOf) (borns : List AskOf) (answers : List AnswerOf) (fulls : List AnswerOf) → length borns ≡ length asks → length fulls ≡ length answers
    → ((i : ℕ) (x y : AskOf) → slice_get asks i ≡ Some x → slice_get borns i ≡ Some y → AreAlike x.asked y.asked)
    → ((i : ℕ) (x y : AnswerOf) → slice_get answers i ≡ Some x → slice_get fulls i ≡ Some y → IsKept x y)
    → IsUnheldAmong before asks answers → IsUnheldAmong before borns fulls
moved before [] borns answers fulls m n f g u = absurd u
moved before (x ∷ xs) borns [] fulls m n f g u = absurd u
moved before (x ∷ xs) [] (a ∷ us) fulls m n f g u = absurd cc
moved before (x ∷ xs) (y ∷ ys) (a ∷ us) [] m n f g u = absurd cc
moved before (x ∷ xs) (y ∷ ys) (a ∷ us) (b ∷ vs) m n f g (inl u) =
    let same = f 0 x y refl refl in
    inl (record { empty = u.empty; done = λ e. u.done (sym (g 0 a b refl refl).status ∙ e); unnamed = same.unnamed ∙ u.unnamed })
moved before (x ∷ xs) (y ∷ ys) (a ∷ us) (b ∷ vs) m n f g (inr u) =
    let same : b ≡ a = (g 0 a b refl refl).whole u.0 in
    let rest = moved (held_after before x.asked a.status a.payload) xs ys us vs (cons_long x xs y ys m) (cons_long a us b vs n) (λ i v w s t. f (suc i) v w s t) (λ i v w s t. g (suc i) v w s t) u.1 in
    let P : AnswerOf → Type 0 = λ z. (is_whole z.status z.payload ≡ true) × IsUnheldAmong (held_after before y.asked z.status z.payload) ys vs in
    let Q : Option (List ℕ) → Type 0 = λ h. IsUnheldAmong h ys vs in
    inr (subst P (sym same) (u.0, subst Q (sym ((f 0 x y refl refl).held before a.status a.payload)) rest))

-- ---- a call that has one

module _ (c : CallOf) (response : ResponseOf) (unrefused : RefusesMessage response → ⊥) (g : GrantsOf) (t : TurnOf) (full : ResponseOf) (f : IsFilled c.request response t.fills full)
    (asked : RequestOf) (b : IsBorn g c.request response t.births asked) (moment : ℤ) (rules : RulesOf) (V W : List Thing) where
  items_never : (order : Option (List ℕ)) → MayTake asked (at_moment full moment) order → BatchSome rules V asked (at_moment full moment) order W → IsUnheldCall c.request response → ⊥
  items_never None may batch u =
      chain_never rules moment V None asked.items full.items batch.last batch.placeholder batch.chain
      (moved None c.request.items asked.items response.items full.items b.counted f.counted
      (λ i x y s k. alike_there g t.births i x y (b.each i x y s k)) (λ i x y s k. kept_there c.request response t.fills i x y (f.each i x y s k)) u.items)
  items_never (Some order) may batch u =
      let P : Bool → Type 0 = λ o. (not o && nat_lt 1 (length asked.items)) ≡ true in
      let bad : false ≡ true = subst P (b.ordered ∙ u.ordered) may.0 in
      cc

  call_never : (order : Option (List ℕ)) → MayTake asked (at_moment full moment) order → CallSomeAlong rules V asked (at_moment full moment) order W → IsUnheldCall c.request response → ⊥
  call_never order may call u =
      items_never order may
      (batch_of_call rules V asked (at_moment full moment) order W (λ r. unrefused (refused_before c.request response t.fills full f (refused_at full moment r))) call) u

unheld_call : (c : CallOf) (end : ℕ) (response : ResponseOf) → c.end ≡ Some end → c.response ≡ Some response → (RefusesMessage response → ⊥) → IsUnheldCall c.request response → IsHopeless c
unheld_call c end response ended said unrefused u =
    never_taken c end response ended said (λ g t full f asked born moment order may rules V W call.
    call_never c response unrefused g t full f asked born moment rules V W order may call u)

pub unheld_of : (c : CallOf) (own : Candidate) (reported : Bool) → candidate_call own ≡ c → (RefusesMessage (response_of own.response.now) → ⊥)
    → (reported ≡ true → IsUnheldCall (request_of own.request.now) (response_of own.response.now)) → reported ≡ true → IsHopeless c
unheld_of c own reported same unrefused h e =
    subst (λ (x : CallOf). IsHopeless x) same (unheld_call (candidate_call own) own.end (response_of own.response.now) refl refl unrefused (h e))

-- ---- the loop over the items of a call

cons_at : {A : Type 0} (xs : List A) (place : ℕ) (x : A) → slice_get xs place ≡ Some x → drop place xs ≡ x ∷ drop (suc place) xs
cons_at [] zero x at = cc
cons_at [] (suc place) x at = cc
cons_at (y ∷ ys) zero x at = let same : y ≡ x = cc in ap (λ z. z ∷ ys) same
cons_at (y ∷ ys) (suc place) x at = cons_at ys place x at

next : (place : ℕ) → place + 1 ≡ suc place
next place = omega (arith)

-- the item at a place is one, or those behind it are
pub among_from : (before : Option (List ℕ)) (asks : List AskOf) (answers : List AnswerOf) (place : ℕ) (ask : AskOf) (answer : AnswerOf) → slice_get asks place ≡ Some ask
    → slice_get answers place ≡ Some answer
    → IsUnheld before ask answer
    ⊎ ((is_whole answer.status answer.payload ≡ true) × IsUnheldAmong (held_after before ask.asked answer.status answer.payload) (drop (place + 1) asks) (drop (place + 1) answers))
    → IsUnheldAmong before (drop place asks) (drop place answers)
among_from before asks answers place ask answer asked said u =
    let T : ℕ → Type 0 = λ n.
    IsUnheld before ask answer
    ⊎ ((is_whole answer.status answer.payload ≡ true) × IsUnheldAmong (held_after before ask.asked answer.status answer.payload) (drop n asks) (drop n answers)) in
    let Q : List AskOf → Type 0 = λ xs. IsUnheldAmong before xs (drop place answers) in
    let R : List AnswerOf → Type 0 = λ ys. IsUnheldAmong before (ask ∷ drop (suc place) asks) ys in
    subst Q (sym (cons_at asks place ask asked)) (subst R (sym (cons_at answers place answer said)) (subst T (next place) u))
