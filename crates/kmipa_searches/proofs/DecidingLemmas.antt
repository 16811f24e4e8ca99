-- Calls that are plain, those that aren't, and what giving up says of them.
use Rattle.std.proofs.Common.{◌≡◌, inl, inr, ℕ, ℤ, pos, Bool, true, false, List, [], ◌∷◌, ◌++◌, Option, Some, None, Result, Ok, Err, IfOk, ◌<◌, ◌≤◌, length, refl, sym, ap, subst, ◌∙◌}
use Rattle.std.specs.Prelude.{map, not, is_some, String, Vec}
use Rattle.std.specs.String.{string_bytes}
use Rattle.std.specs.declared.alloc.Global.{Global}
use Rattle.kmipa_record.specs.Marks.{AreRecorded, MarkOf}
use Rattle.kmipa_record.specs.Declarations.{DeclarationOf}
use Rattle.kmipa_msgs.specs.Messages.{ResponseOf}
use Rattle.kmipa_batch.specs.Orders.{is_unordered}
use Rattle.kmipa_check.specs.Calls.{CallOf, AreCalls}
use Rattle.kmipa_check.specs.Deciding.{Decided}
use Rattle.kmipa_check.specs.Grants.{GrantsOf, grants_declared}
use Rattle.kmipa_check.specs.declared.fault.CheckFault.{CheckFault}
use Rattle.kmipa_check.specs.declared.fault.CheckFault.TheVariants.{Memory}
use Rattle.kmipa_check.specs.Steps.{StepOf, NeedsFill, step_with}
use Rattle.kmipa_check.proofs.RecordedLemmas.{same_calls}
use Rattle.kmipa_orders.specs.Forced.{TellsForced}
use Rattle.kmipa_orders.specs.Found.{Finds, FindsIn, HasDecided, stopped, enough, one_by_one}
use Rattle.kmipa_orders.specs.Plain.{ArePlain, IsForced}
use Rattle.kmipa_orders.specs.declared.found.Found.{Found}
use Rattle.kmipa_orders.specs.Reached.{HaveSteps, TellsReached}
use Rattle.kmipa_orders.specs.declared.found.Found.TheVariants.{Yes, GaveUp, Refuted, Impossible, OutOfTime}
use Rattle.kmipa_orders.specs.declared.stuck.Reached.{Reached}
use Rattle.kmipa_searches.specs.Searches.{SearchStops, SearchesRecords}
use Rattle.kmipa_searches.specs.declared.searched.Searched.{Searched}
use Rattle.kmipa_searches.specs.Deciding.{AreUnplain, DecidesOf, DecidesRecords, IsDecidedUnder, IsPlain, IsOfPlain, IsRefuted, IsSaid, TellsDecided, TellsDecision, TellsGivingUp, TellsObjects, TellsPlace, given_up_steps}
use Rattle.kmipa_searches.specs.declared.judged.Decision.{Decision}
use Rattle.kmipa_searches.specs.declared.judged.Decision.TheVariants as decision

-- ---- one call

plain_with : (c : CallOf) (r : ResponseOf) (end : ℕ) (needs : Bool) → c.response ≡ Some r → c.end ≡ Some end → is_unordered c.request ≡ false
    → Decided needs (NeedsFill c.request r) → Decided (not needs) (IsPlain c)
plain_with c r end true given ended ordered needed = λ p.
    let from = p.1.given in
    let same : r ≡ p.0 = cc in
    let P : ResponseOf → Type 0 = λ x. NeedsFill c.request x in
    p.1.complete (subst P same needed)
plain_with c r end false given ended ordered never = (r, record { end = end; ended = ended; given = given; ordered = ordered; complete = never })

some_end : (o : Option ℕ) → is_some o ≡ true → (end : ℕ) × (o ≡ Some end)
some_end None h = absurd cc
some_end (Some end) h = (end, refl)

pub plain_if : (c : CallOf) (r : ResponseOf) (needs : Bool) → c.response ≡ Some r → is_some c.end ≡ true → is_unordered c.request ≡ false
    → Decided needs (NeedsFill c.request r) → Decided (not needs) (IsPlain c)
plain_if c r needs given ended ordered decided = let e = some_end c.end ended in plain_with c r e.0 needs given e.1 ordered decided

-- ---- one call more

pub one_plain : (calls : List CallOf) (c : CallOf) (numbers : List ℤ) → IsPlain c → AreUnplain calls numbers → AreUnplain (calls ++ c ∷ []) numbers
one_plain [] c numbers plain none = inl (plain, none)
one_plain (d ∷ calls) c numbers plain (inl p) = inl (p.0, one_plain calls c numbers plain p.1)
one_plain (d ∷ calls) c numbers plain (inr p) = inr (p.0, (p.1.0, one_plain calls c p.1.0 plain p.1.1, p.1.2))

one_unplain : (calls : List CallOf) (c : CallOf) (numbers new : List ℤ) → ¬ (IsPlain c) → new ≡ numbers ++ c.number ∷ [] → AreUnplain calls numbers
    → AreUnplain (calls ++ c ∷ []) new
one_unplain [] c numbers new never is none = inr (never, ([], refl, is ∙ ap (λ (ns : List ℤ). ns ++ c.number ∷ []) none))
one_unplain (d ∷ calls) c numbers new never is (inl p) = inl (p.0, one_unplain calls c numbers new never is p.1)
one_unplain (d ∷ calls) c numbers new never is (inr p) =
    inr (p.0, (p.1.0 ++ c.number ∷ [], one_unplain calls c p.1.0 (p.1.0 ++ c.number ∷ []) never refl p.1.1, is ∙ ap (λ (ns : List ℤ). ns ++ c.number ∷ []) p.1.2))

pub unplain_pushed : (calls : List CallOf) (c : CallOf) (numbers new : List ℤ) (number : ℤ) → ¬ (IsPlain c) → number ≡ c.number → new ≡ numbers ++ number ∷ []
    → AreUnplain calls numbers → AreUnplain (calls ++ c ∷ []) new
unplain_pushed calls c numbers new number never is pushed unplain =
    one_unplain calls c numbers new never (pushed ∙ ap (λ (n : ℤ). numbers ++ n ∷ []) is) unplain

-- ---- all calls

-- where none isn't, all are
pub all_plain : (calls : List CallOf) (numbers : List ℤ) → numbers ≡ [] → AreUnplain calls numbers → (steps : List StepOf) × ArePlain calls steps
all_plain [] numbers none u = ([], tt)
all_plain (c ∷ calls) numbers none (inl p) =
    let more = all_plain calls numbers none p.1 in
    (step_with c p.0.0 ∷ more.0, (record { response = p.0.0; plain = p.0.1; is = refl }, more.1))
all_plain (c ∷ calls) numbers none (inr p) = let clash : c.number ∷ p.1.0 ≡ [] = sym p.1.2 ∙ none in absurd cc

-- ---- what giving up says

-- of plain calls
decided_said : (g : GrantsOf) (calls : List CallOf) (budget count : ℕ) (said : Decision) → IsDecidedUnder g said → HasDecided calls budget count → IsSaid g calls budget count said
decided_said g calls budget count decision.Decided under decided = (decided, under)
decided_said g calls budget count (decision.Tolerant seconds) under decided = (decided, under)
decided_said g calls budget count decision.Births under decided = (decided, under)
decided_said g calls budget count (decision.UsedUp steps) under decided = absurd under
decided_said g calls budget count (decision.NotPlain numbers) under decided = absurd under
decided_said g calls budget count (decision.Objects objects) under decided = absurd under
decided_said g calls budget count decision.Impossible under decided = absurd under
decided_said g calls budget count (decision.OutOfTime seconds) under decided = absurd under

module _ (marks : List MarkOf) (g : GrantsOf) (calls : List CallOf) (budget count : ℕ) (are : AreCalls marks calls) (plain : (steps : List StepOf) × ArePlain calls steps) where
  pub early_decides : (said : Decision) → IsDecidedUnder g said → count < budget → TellsDecision marks g budget count (Ok said)
  early_decides said under left = (calls, are, decided_said g calls budget count said under (stopped plain.0 plain.1 left))

  pub forced_decides : (said : Decision) → IsDecidedUnder g said → AreRecorded marks → length calls ≤ budget → TellsForced marks (pos 0) (Ok true) → TellsDecision marks g budget count (Ok said)
  forced_decides said under recorded few told =
      (calls, are, decided_said g calls budget count said under (one_by_one (subst (IsForced (pos 0)) (same_calls marks told.0 calls recorded told.1 are) told.2) few))

  pub unforced_undecided : AreRecorded marks → budget ≤ count → TellsForced marks (pos 0) (Ok false) → TellsDecision marks g budget count (Ok (decision.UsedUp budget))
  unforced_undecided recorded spent told =
      let same = same_calls marks calls told.0 recorded are told.1 in
      (calls, are, (plain, spent, λ f. absurd (told.2 (subst (IsForced (pos 0)) same f)), refl))

-- what is said of plain calls is said of steps
decided_steps : (calls : List CallOf) (budget count : ℕ) → HasDecided calls budget count → (steps : List StepOf) × ArePlain calls steps
decided_steps calls budget count decided = elim decided [ stopped s plain less ↦ (s, plain) | enough s plain less ↦ (s, plain) | one_by_one f few ↦ (f.steps, f.plain) ]

pub decided_have_steps : (marks : List MarkOf) (g : GrantsOf) (budget count : ℕ) → TellsDecision marks g budget count (Ok decision.Decided) → HaveSteps marks
decided_have_steps marks g budget count tells = (tells.0, tells.1, decided_steps tells.0 budget count tells.2.0)

pub tolerant_have_steps : (marks : List MarkOf) (g : GrantsOf) (budget count : ℕ) (seconds : ℤ) → TellsDecision marks g budget count (Ok (decision.Tolerant seconds)) → HaveSteps marks
tolerant_have_steps marks g budget count seconds tells = (tells.0, tells.1, decided_steps tells.0 budget count tells.2.0)

pub births_have_steps : (marks : List MarkOf) (g : GrantsOf) (budget count : ℕ) → TellsDecision marks g budget count (Ok decision.Births) → HaveSteps marks
births_have_steps marks g budget count tells = (tells.0, tells.1, decided_steps tells.0 budget count tells.2.0)

pub spent_have_steps : (marks : List MarkOf) (g : GrantsOf) (budget count steps : ℕ) → TellsDecision marks g budget count (Ok (decision.UsedUp steps)) → HaveSteps marks
spent_have_steps marks g budget count steps tells = (tells.0, tells.1, tells.2.0)

-- where it is said to be decided, no order explains the transcript
decided_means : (marks : List MarkOf) (declared : DeclarationOf) (budget count : ℕ) (said : Decision) → AreRecorded marks → Finds marks declared budget (GaveUp count)
    → TellsDecision marks (grants_declared declared) budget count (Ok said) → TellsGivingUp marks declared budget (GaveUp count) (Some said)
decided_means marks declared budget count said recorded finds tells = (
  tells,
  λ e.
      let S : Decision → Type 0 = λ s. IsSaid (grants_declared declared) tells.0 budget count s in
      let D : List CallOf → Type 0 = λ cs. HasDecided cs budget count in
      let decided = subst S e tells.2 in
      finds.1.2 decided.1 (subst D (same_calls marks tells.0 finds.1.0 recorded tells.1 finds.1.1) decided.0),
)

-- of a giving up
pub decided_refutes : (marks : List MarkOf) (declared : DeclarationOf) (seconds budget count : ℕ) → AreRecorded marks → FindsIn seconds marks declared budget (GaveUp count)
    → TellsDecided marks (grants_declared declared) budget count → IsRefuted marks declared
decided_refutes marks declared seconds budget count recorded finds tells =
    ((tells.0, tells.1), (decided_means marks declared budget count decision.Decided recorded finds tells).1 refl)

-- what holds where a truth is told holds still, where more does
pub if_told : {E : Type 0} {P Q : Type 0} (r : Result Bool E) → (P → Q) → IfOk r (λ b. b ≡ true → P) → IfOk r (λ b. b ≡ true → Q)
if_told (Ok b) f p = λ yes. f (p yes)
if_told (Err e) f p = tt

-- ---- what is searched

-- want of memory stops a search
pub memory_stops : (marks : List MarkOf) (fault : CheckFault) → fault ≡ Memory → SearchStops marks fault
memory_stops marks fault is = let P : CheckFault → Type 0 = λ f. SearchStops marks f in subst P (sym is) tt

given_up_told : (marks : List MarkOf) (declared : DeclarationOf) (seconds budget : ℕ) (asked : Bool) (searched : Searched) → SearchesRecords marks declared seconds budget asked (Ok searched)
    → (count : ℕ) (said : Decision) (place : Option Reached) → AreRecorded marks → searched.found ≡ GaveUp count → TellsDecision marks (grants_declared declared) budget count (Ok said)
    → TellsPlace marks declared (Some said) place
    → DecidesRecords marks declared seconds budget asked (Ok (record { searched = searched; decision = Some said; reached = place }))
given_up_told marks declared seconds budget asked searched searches count said place recorded is tells stuck =
    let F : Found → Type 0 = λ f. FindsIn seconds marks declared budget f in
    let T : Found → Type 0 = λ f. TellsGivingUp marks declared budget f (Some said) in
    (searches, subst T (sym is) (decided_means marks declared budget count said recorded (subst F is searches.1) tells), stuck)

-- ---- one object

-- of plain calls none isn't
no_unplain : (calls : List CallOf) (steps : List StepOf) (numbers : List ℤ) → ArePlain calls steps → AreUnplain calls numbers → numbers ≡ []
no_unplain [] steps numbers plain u = u
no_unplain (c ∷ calls) [] numbers plain u = absurd plain
no_unplain (c ∷ calls) (s ∷ steps) numbers plain (inl p) = no_unplain calls steps numbers plain.1 p.1
no_unplain (c ∷ calls) (s ∷ steps) numbers plain (inr p) = absurd (p.0 (plain.0.response, plain.0.plain))

-- the deepest place is told where the calls are plain
abbrev TellsPlainPlace : List MarkOf → DeclarationOf → Option Reached → Type 0
TellsPlainPlace marks declared (Some reached) = HaveSteps marks × TellsReached marks declared reached
TellsPlainPlace marks declared None = HaveSteps marks → ⊥

plain_place : (marks : List MarkOf) (declared : DeclarationOf) (budget count : ℕ) (said : Decision) (place : Option Reached) → AreRecorded marks → TellsDecision marks (grants_declared declared) budget count (Ok said)
    → TellsPlace marks declared (Some said) place → TellsPlainPlace marks declared place
plain_place marks declared budget count decision.Decided (Some reached) recorded tells p = (decided_have_steps marks (grants_declared declared) budget count tells, p.1)
plain_place marks declared budget count decision.Decided None recorded tells p = absurd (p tt)
plain_place marks declared budget count (decision.Tolerant seconds) (Some reached) recorded tells p = (tolerant_have_steps marks (grants_declared declared) budget count seconds tells, p.1)
plain_place marks declared budget count (decision.Tolerant seconds) None recorded tells p = absurd (p tt)
plain_place marks declared budget count decision.Births (Some reached) recorded tells p = (births_have_steps marks (grants_declared declared) budget count tells, p.1)
plain_place marks declared budget count decision.Births None recorded tells p = absurd (p tt)
plain_place marks declared budget count (decision.UsedUp steps) (Some reached) recorded tells p = (spent_have_steps marks (grants_declared declared) budget count steps tells, p.1)
plain_place marks declared budget count (decision.UsedUp steps) None recorded tells p = absurd (p tt)
plain_place marks declared budget count (decision.NotPlain numbers) (Some reached) recorded tells p = absurd p.0
plain_place marks declared budget count (decision.NotPlain numbers) None recorded tells p = λ have.
    let P : List CallOf → Type 0 = λ cs. ArePlain cs have.2.0 in
    tells.2.1 (no_unplain tells.0 have.2.0 numbers.items (subst P (same_calls marks have.0 tells.0 recorded have.1 tells.1) have.2.1) tells.2.0)
plain_place marks declared budget count (decision.Objects others) place recorded tells p = absurd tells.2
plain_place marks declared budget count decision.Impossible place recorded tells p = absurd tells.2
plain_place marks declared budget count (decision.OutOfTime seconds) place recorded tells p = absurd tells.2

objects_place : (marks : List MarkOf) (declared : DeclarationOf) (objects : Vec (String Global) Global) (place : Option Reached) → TellsPlainPlace marks declared place
    → TellsPlace marks declared (Some (decision.Objects objects)) place
objects_place marks declared objects (Some reached) p = p
objects_place marks declared objects None p = p

time_place : (marks : List MarkOf) (declared : DeclarationOf) (after : ℕ) (place : Option Reached) → TellsPlainPlace marks declared place
    → TellsPlace marks declared (Some (decision.OutOfTime after)) place
time_place marks declared after (Some reached) p = p
time_place marks declared after None p = p

refuted_told : (marks : List MarkOf) (declared : DeclarationOf) (seconds budget : ℕ) (asked : Bool) (searched : Searched) → SearchesRecords marks declared seconds budget asked (Ok searched)
    → (count : ℕ) (objects named : Vec (String Global) Global) (said : Decision) (place : Option Reached) → AreRecorded marks → searched.found ≡ Refuted count objects → map string_bytes named.items ≡ map string_bytes objects.items
    → TellsDecision marks (grants_declared declared) budget count (Ok said) → TellsPlace marks declared (Some said) place
    → DecidesRecords marks declared seconds budget asked (Ok (record { searched = searched; decision = Some (decision.Objects named); reached = place }))
refuted_told marks declared seconds budget asked searched searches count objects named said place recorded is copied tells stuck =
    let F : Found → Type 0 = λ f. FindsIn seconds marks declared budget f in
    let T : Found → Type 0 = λ f. TellsGivingUp marks declared budget f (Some (decision.Objects named)) in
    (searches, subst T (sym is) (copied, (subst F is searches.1).2), objects_place marks declared named place (plain_place marks declared budget count said place recorded tells stuck))

call_place : (marks : List MarkOf) (declared : DeclarationOf) (place : Option Reached) → TellsPlainPlace marks declared place → TellsPlace marks declared (Some decision.Impossible) place
call_place marks declared (Some reached) p = p
call_place marks declared None p = p

impossible_told : (marks : List MarkOf) (declared : DeclarationOf) (seconds budget : ℕ) (asked : Bool) (searched : Searched) → SearchesRecords marks declared seconds budget asked (Ok searched)
    → (count call : ℕ) (said : Decision) (place : Option Reached) → AreRecorded marks → searched.found ≡ Impossible count call
    → TellsDecision marks (grants_declared declared) budget count (Ok said) → TellsPlace marks declared (Some said) place
    → DecidesRecords marks declared seconds budget asked (Ok (record { searched = searched; decision = Some decision.Impossible; reached = place }))
impossible_told marks declared seconds budget asked searched searches count call said place recorded is tells stuck =
    let F : Found → Type 0 = λ f. FindsIn seconds marks declared budget f in
    let T : Found → Type 0 = λ f. TellsGivingUp marks declared budget f (Some decision.Impossible) in
    (searches, subst T (sym is) (refl, (subst F is searches.1).2), call_place marks declared place (plain_place marks declared budget count said place recorded tells stuck))

-- ---- the seconds of a search

time_told : (marks : List MarkOf) (declared : DeclarationOf) (seconds budget : ℕ) (asked : Bool) (searched : Searched) → SearchesRecords marks declared seconds budget asked (Ok searched)
    → (count after : ℕ) (said : Decision) (place : Option Reached) → AreRecorded marks → searched.found ≡ OutOfTime count after
    → TellsDecision marks (grants_declared declared) budget count (Ok said) → TellsPlace marks declared (Some said) place
    → DecidesRecords marks declared seconds budget asked (Ok (record { searched = searched; decision = Some (decision.OutOfTime after); reached = place }))
time_told marks declared seconds budget asked searched searches count after said place recorded is tells stuck =
    let T : Found → Type 0 = λ f. TellsGivingUp marks declared budget f (Some (decision.OutOfTime after)) in
    (searches, subst T (sym is) refl, time_place marks declared after place (plain_place marks declared budget count said place recorded tells stuck))

-- ---- any giving up

-- what is decided of it is told
module _ (marks : List MarkOf) (declared : DeclarationOf) (seconds budget : ℕ) (asked : Bool) (searched : Searched) (searches : SearchesRecords marks declared seconds budget asked (Ok searched))
    (count : ℕ) (said : Decision) (place : Option Reached) (recorded : AreRecorded marks) (tells : TellsDecision marks (grants_declared declared) budget count (Ok said)) (stuck : TellsPlace marks declared (Some said) place) where
  abbrev ToldSo : Decision → Type 0
  ToldSo verdict = DecidesRecords marks declared seconds budget asked (Ok (record { searched = searched; decision = Some verdict; reached = place }))

  said_at : (n : ℕ) → Some n ≡ Some count → TellsDecision marks (grants_declared declared) budget n (Ok said)
  said_at n is =
      let e : count ≡ n = cc in
      let D : ℕ → Type 0 = λ k. TellsDecision marks (grants_declared declared) budget k (Ok said) in
      subst D e tells

  objects_told : (n : ℕ) (objects : Vec (String Global) Global) (verdict : Decision) → searched.found ≡ Refuted n objects → Some n ≡ Some count → TellsObjects objects.items (Some verdict) → ToldSo verdict
  objects_told n objects decision.Decided is steps named = absurd named
  objects_told n objects (decision.UsedUp spent) is steps named = absurd named
  objects_told n objects (decision.NotPlain numbers) is steps named = absurd named
  objects_told n objects (decision.Tolerant after) is steps named = absurd named
  objects_told n objects decision.Births is steps named = absurd named
  objects_told n objects decision.Impossible is steps named = absurd named
  objects_told n objects (decision.OutOfTime after) is steps named = absurd named
  objects_told n objects (decision.Objects others) is steps named =
      refuted_told marks declared seconds budget asked searched searches n objects others said place recorded is named (said_at n steps) stuck

  told_by : (found : Found) (verdict : Decision) → searched.found ≡ found → given_up_steps found ≡ Some count → DecidesOf found said verdict → ToldSo verdict
  told_by (Yes witness n) verdict is steps decides = absurd cc
  told_by (GaveUp n) verdict is steps decides =
      subst ToldSo (sym decides) (given_up_told marks declared seconds budget asked searched searches n said place recorded is (said_at n steps) stuck)
  told_by (Refuted n objects) verdict is steps decides = objects_told n objects verdict is steps decides
  told_by (Impossible n call) verdict is steps decides =
      subst ToldSo (sym decides) (impossible_told marks declared seconds budget asked searched searches n call said place recorded is (said_at n steps) stuck)
  told_by (OutOfTime n after) verdict is steps decides =
      subst ToldSo (sym decides) (time_told marks declared seconds budget asked searched searches n after said place recorded is (said_at n steps) stuck)

  pub judged_told : (verdict : Decision) → given_up_steps searched.found ≡ Some count → DecidesOf searched.found said verdict → ToldSo verdict
  judged_told verdict steps decides = told_by searched.found verdict refl steps decides
