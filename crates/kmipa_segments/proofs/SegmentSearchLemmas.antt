-- What is found, made and printed of a segment that is searched.
use Rattle.std.proofs.Common.{◌≡◌, ◌≢◌, ◌⊎◌, inl, inr, ◌≤◌, ◌≤ℤ◌, ℕ, ℤ, List, [], ◌++◌, Bool, true, false, IsTrue, Contains, map, length, take, Option, Some, None, Result, Ok, Err, OnOk, refl, sym, ap, ◌∙◌, subst}
use Rattle.std.specs.Prelude.{String, Vec}
use Rattle.std.specs.declared.alloc.Global.{Global}
use Rattle.std.specs.Result.{is_err}
use Rattle.std.specs.Int.Signed.{clash_ℤ}
use Rattle.std.specs.Io.{StartsWith, appended_bytes}
use Rattle.kmipa_ttlv.specs.Input.{came_of, is_ended, IsFileOf}
use Rattle.kmipa_ttlv.specs.declared.input.Input.{Input}
use Rattle.kmipa_ttlv.proofs.ReadLemmas.{whole_file}
use Rattle.kmipa_record.specs.Marks.{MarkOf, AreRecorded}
use Rattle.kmipa_record.specs.Transcripts.{transcript_of, IsTranscript}
use Rattle.kmipa_record.specs.Declarations.{DeclarationOf, declaration_of, IsDeclaration}
use Rattle.kmipa_record.specs.Witnesses.{TurnOf, witness_of, IsWitness}
use Rattle.kmipa_record.specs.declared.declaration.Declaration.{Declaration}
use Rattle.kmipa_record.specs.declared.transcript.Transcript.{Transcript}
use Rattle.kmipa_record.specs.declared.witness.Witness.{Witness}
use Rattle.kmipa_msgs.specs.Messages.{ResponseOf}
use Rattle.kmipa_check.specs.Calls.{CallOf, AreCalls}
use Rattle.kmipa_check.specs.Grants.{GrantsNothing, GrantsOf, grants_declared}
use Rattle.kmipa_check.specs.Left.{LeavesAtYes}
use Rattle.kmipa_check.specs.Runs.{IsAccepted, IsOfCalls, TakeEachOnce}
use Rattle.kmipa_check.specs.Segments.{Leads}
use Rattle.kmipa_check.specs.Since.{AreSince, ChecksSince, IsAcceptedSince}
use Rattle.kmipa_check.specs.Steps.{StepOf, IsAnswered, IsStep, recorded, given}
use Rattle.kmipa_check.specs.Verdicts.{Checks}
use Rattle.kmipa_check.specs.declared.fault.CheckFault.{CheckFault}
use Rattle.kmipa_check.specs.declared.fault.CheckFault.TheVariants as check
use Rattle.kmipa_check.specs.declared.segment.Left.{Left}
use Rattle.kmipa_check.specs.declared.verdict.Verdict.{Verdict}
use Rattle.kmipa_check.specs.declared.verdict.Verdict.TheVariants as verdict
use Rattle.kmipa_check.proofs.AcceptedLemmas.{accepted_is_yes_lem}
use Rattle.kmipa_check.proofs.CheckLemmas.{calls_once}
use Rattle.kmipa_check.proofs.OnceLemmas.{IsOnce, once_pairs}
use Rattle.kmipa_check.proofs.PlaceLemmas.{at_contains}
use Rattle.kmipa_check.proofs.PlainLemmas.{its_moment, plain_call_has_one_step_lem}
use Rattle.kmipa_check.proofs.RecordedLemmas.{same_calls}
use Rattle.kmipa_check.proofs.SegmentLemmas.{accepted_since_lem}
use Rattle.kmipa_check.proofs.WholeOrderLemmas.{number_of, same_call}
use Rattle.kmipa_orders.specs.Found.{Finds, FindsIn, HasDecided, stopped, enough, one_by_one}
use Rattle.kmipa_orders.specs.Plain.{ArePlain, IsPlainStep}
use Rattle.kmipa_orders.specs.declared.found.Found.{Found}
use Rattle.kmipa_orders.specs.declared.found.Found.TheVariants.{Yes, GaveUp, Refuted, Impossible, OutOfTime}
use Rattle.kmipa_orders.proofs.PlainLemmas.{one_plain_step, plain_from}
use Rattle.kmipa_stream.specs.declared.tally.Tally.{Tally}
use Rattle.kmipa_searches.specs.Searches.{found_status, AreUnsearched, Makes, PrintsSearch, SearchStops, TalliesFound, searched_text}
use Rattle.kmipa_jobs.specs.Statuses.{IsSilent}
use Rattle.kmipa_searches.specs.declared.searched.Searched.{Searched}
use Rattle.kmipa_jobs.specs.declared.status.Status.{Status}
use Rattle.kmipa_jobs.specs.declared.status.Status.TheVariants as status
use Rattle.kmipa_segments.specs.Leaving.{Lead, LeadsAsAsked, TellsLeft, if_asked}
use Rattle.kmipa_segments.specs.SegmentSearches.{AreSearchedSince, FindsSince, HasDecidedSince, HasEndedBelow, by_search, ended_below, IsExplainedSince, MakesWhenDone, SearchesSegment, TellsBoth, TellsFound}
use Rattle.kmipa_segments.specs.declared.segment_search.FoundSegment.{FoundSegment}
use Rattle.kmipa_segments.proofs.LeavingLemmas.{handed_at_yes, handed_out, made_of, nothing_appended, yes_hands_out}

-- ---- a call below the moment

decided_plain : (calls : List CallOf) (budget count : ℕ) → HasDecided calls budget count → (steps : List StepOf) × ArePlain calls steps
decided_plain calls budget count (stopped steps plain left) = (steps, plain)
decided_plain calls budget count (enough steps plain weighs) = (steps, plain)
decided_plain calls budget count (one_by_one forced some) = (forced.steps, forced.plain)

-- the one step of a plain call, as it is taken
record IsPlainOf (calls : List CallOf) (s : StepOf) : Type 0 where
  call : CallOf
  known : Contains calls call
  plain : IsPlainStep call s

plain_of : (g : GrantsOf) → GrantsNothing g → (calls : List CallOf) (steps : List StepOf) → ArePlain calls steps → (s : StepOf) → IsOfCalls g calls s → IsPlainOf calls s
plain_of g nothing calls steps plain s of =
    let c = of.0 in
    let at = at_contains calls c of.2 in
    let p = plain_from calls steps at.0 c plain at.1 in
    let step = p.2 in
    record { call = c; known = of.2; plain = record { response = step.response; plain = step.plain; is = plain_call_has_one_step_lem g c step.response of.1 s nothing step.plain of.3 } }

-- where nothing is granted, the moment of a step of a call that has ended is the Time Stamp of its response
recorded_stamp : (g : GrantsOf) → GrantsNothing g → (c : CallOf) (t : TurnOf) (s : StepOf) (response : ResponseOf) → IsStep g c t s → c.response ≡ Some response → s.response.stamp ≡ response.stamp
recorded_stamp g nothing c t s response step has = by step.answered
  where
    by : IsAnswered c t step.response → s.response.stamp ≡ response.stamp
    by (recorded is bare) =
        let same : step.response ≡ response = cc in
        ap (λ (x : StepOf). x.response.stamp) step.is ∙ its_moment g step.response.stamp t.moment step.moment nothing step.timed ∙ ap (λ (x : ResponseOf). x.stamp) same
    by (given bytes none said says) = let clash : None ≡ Some response = sym none ∙ has in absurd cc

-- two calls of one number are one
one_call : (calls : List CallOf) → IsOnce (map number_of calls) → (a b : CallOf) → Contains calls a → Contains calls b → a.number ≡ b.number → a ≡ b
one_call calls once a b p q e =
    let i = at_contains calls a p in
    let j = at_contains calls b q in
    same_call calls once i.0 j.0 a b i.1 j.1 e

step_number : (g : GrantsOf) (c : CallOf) (t : TurnOf) (s : StepOf) → IsStep g c t s → s.number ≡ c.number
step_number g c t s step = ap (λ (x : StepOf). x.number) step.is

-- Of plain calls each run takes the same steps: where those of one aren't below the moment, those of the other aren't.
module _ (g : GrantsOf) (nothing : GrantsNothing g) (calls : List CallOf) (once : IsOnce (map number_of calls)) (steps : List StepOf) (plain : ArePlain calls steps) where
  same_step : (s other : StepOf) → IsPlainOf calls s → IsPlainOf calls other → s.number ≡ other.number → s ≡ other
  same_step s other p q e =
      let numbers : p.call.number ≡ q.call.number = sym (ap (λ (x : StepOf). x.number) p.plain.is) ∙ e ∙ ap (λ (x : StepOf). x.number) q.plain.is in
      let same = one_call calls once p.call q.call p.known q.known numbers in
      let P : CallOf → Type 0 = λ c. IsPlainStep c s in
      one_plain_step q.call s other (subst P same p.plain) q.plain

  also_since : (since : Option ℤ) (declared : DeclarationOf) (run other : List StepOf) → TakeEachOnce g calls run → TakeEachOnce g calls other → AreSince since run → AreSince since other
  also_since None declared run other a b h = tt
  also_since (Some moment) declared run other a b h = λ s in_other.
      let p = plain_of g nothing calls steps plain s (b.of_calls s in_other) in
      let t = a.all p.call p.plain.plain.end p.known p.plain.plain.ended in
      let q = plain_of g nothing calls steps plain t.0 (a.of_calls t.0 t.1) in
      let same = same_step t.0 s q p (t.2 ∙ sym (ap (λ (x : StepOf). x.number) p.plain.is)) in
      let P : StepOf → Type 0 = λ x. moment ≤ℤ x.response.stamp in
      subst P same (h t.0 t.1)

-- where a call has ended below the moment, no run is since then
below_since : (g : GrantsOf) → GrantsNothing g → (calls : List CallOf) → IsOnce (map number_of calls) → (since : Option ℤ) (run : List StepOf) → HasEndedBelow calls since → TakeEachOnce g calls run → AreSince since run → ⊥
below_since g nothing calls once since run e takes h =
    let t = takes.all e.call e.end e.known e.ended in
    let of = takes.of_calls t.0 t.1 in
    let same = one_call calls once of.0 e.call of.2 e.known (sym (step_number g of.0 of.1 t.0 of.3) ∙ t.2) in
    let P : CallOf → Type 0 = λ c. IsStep g c of.1 t.0 in
    let stamp = recorded_stamp g nothing e.call of.1 t.0 e.response (subst P same of.3) e.given in
    let Q : Option ℤ → Type 0 = λ o. AreSince o run in
    let B : ℤ → Type 0 = λ z. e.moment ≤ℤ z in
    clash_ℤ e.below (subst B stamp (subst Q e.is h t.0 t.1))

never_below : (marks : List MarkOf) (declared : DeclarationOf) → GrantsNothing (grants_declared declared) → (since : Option ℤ) (calls : List CallOf) → AreRecorded marks → AreCalls marks calls → HasEndedBelow calls since
    → IsExplainedSince marks declared since → ⊥
never_below marks declared nothing since calls r are below e =
    let P : List CallOf → Type 0 = λ cs. TakeEachOnce (grants_declared declared) cs e.explained.steps in
    let takes = subst P (same_calls marks e.explained.calls calls r e.explained.are are) e.explained.run.once in
    below_since (grants_declared declared) nothing calls (once_pairs (map number_of calls) (calls_once marks calls r are)) since e.explained.steps below takes e.since_then

module _ (marks : List MarkOf) (declared : DeclarationOf) (since : Option ℤ) (turns : List TurnOf) (r : AreRecorded marks) (a : IsAccepted marks declared turns) where
  -- a witness of plain calls is accepted since the moment where some order is
  since_then : GrantsNothing (grants_declared declared) → (steps : List StepOf) → ArePlain a.calls steps → IsExplainedSince marks declared since → AreSince since a.steps
  since_then nothing steps plain e =
      let same = same_calls marks e.explained.calls a.calls r e.explained.are a.are in
      let P : List CallOf → Type 0 = λ calls. TakeEachOnce (grants_declared declared) calls e.explained.steps in
      also_since (grants_declared declared) nothing a.calls (once_pairs (map number_of a.calls) (calls_once marks a.calls r a.are)) steps plain since declared e.explained.steps a.steps (subst P same e.explained.run.once) a.run.once e.since_then

  -- so a no since the moment tells that none is
  pub none_since : (v : Verdict) (refused : _) → v ≡ verdict.No refused → ChecksSince marks declared since turns (Ok v) → GrantsNothing (grants_declared declared) → (budget count : ℕ)
      → HasDecidedSince a.calls since budget count
      → IsExplainedSince marks declared since → ⊥
  none_since v refused is checks nothing budget count (ended_below below) e = never_below marks declared nothing since a.calls r a.are below e
  none_since v refused is checks nothing budget count (by_search decided) e =
      let plain = decided_plain a.calls budget count decided in
      let accepted : IsAcceptedSince marks declared since turns = record { accepted = a; since_then = since_then nothing plain.0 plain.1 e } in
      elim (accepted_since_lem marks declared since turns r accepted (Ok v) checks) [
        | inl said ↦ absurd cc
        | inr memory ↦ absurd cc
      ]

  -- a check of it has no fault but want of memory
  pub stops : (fault : CheckFault) → Checks marks declared turns (Err fault) → SearchStops marks fault
  stops (check.Outside number side o) h = h
  stops (check.Witness f) h = elim (accepted_is_yes_lem marks declared turns r a (Err (check.Witness f)) h) [
    | inl said ↦ absurd cc
    | inr memory ↦ absurd cc
  ]
  stops check.Memory h = tt

-- ---- what is found

module _ (marks : List MarkOf) (declared : DeclarationOf) (since : Option ℤ) (witness : Witness) (count seconds budget : ℕ) (v : Verdict) (handed : Option Left) where
  abbrev pub LeadsFrom : Left → Type 0
  LeadsFrom left = Leads declared since marks (witness_of witness) (declaration_of left.declaration) left.until

  -- a witness that is accepted from the moment on
  pub goes_on : (left : Left) → Finds marks declared budget (Yes witness count) → ChecksSince marks declared since (witness_of witness) (Ok v)
      → LeavesAtYes v handed (λ (l : Left). LeadsFrom l) → handed ≡ Some left → FindsSince marks declared since seconds budget (Yes witness count) (Some left)
  goes_on left found checks leads is =
      let H : Left → Type 0 = λ l. LeadsFrom l in
      let P : Verdict → Type 0 = λ x. ChecksSince marks declared since (witness_of witness) (Ok x) in
      (found, subst P (handed_at_yes v handed left H is leads) checks, handed_out v handed left H is leads)

  -- and one that isn't
  pub goes_no_further : AreRecorded marks → Finds marks declared budget (Yes witness count) → ChecksSince marks declared since (witness_of witness) (Ok v)
      → LeavesAtYes v handed (λ (l : Left). LeadsFrom l) → handed ≡ None → FindsSince marks declared since seconds budget (GaveUp count) None
  goes_no_further r found checks leads none = by v refl
    where
      by : (x : Verdict) → v ≡ x → FindsSince marks declared since seconds budget (GaveUp count) None
      by verdict.Yes is = absurd (yes_hands_out v handed (λ l. LeadsFrom l) is none leads)
      by (verdict.No refused) is =
          (found.2, (found.0.calls, found.0.are, λ nothing decided e. none_since marks declared since (witness_of witness) r found.0 v refused is checks nothing budget count decided e))

-- the same of what was found
pub found_so : (marks : List MarkOf) (declared : DeclarationOf) (seconds budget : ℕ) (found so : Found) → found ≡ so → FindsIn seconds marks declared budget found
    → FindsIn seconds marks declared budget so
found_so marks declared seconds budget found so is finds = let P : Found → Type 0 = λ f. FindsIn seconds marks declared budget f in subst P is finds

-- and of what became of the items
pub tallied_so : (marks : List MarkOf) (declared : DeclarationOf) (found so : Found) (tally : Option Tally) → found ≡ so → TalliesFound marks declared found tally → TalliesFound marks declared so tally
tallied_so marks declared found so tally is told = let P : Found → Type 0 = λ f. TalliesFound marks declared f tally in subst P is told

-- a search that gives up says so of every moment
pub gives_up : (marks : List MarkOf) (declared : DeclarationOf) (since : Option ℤ) (count seconds budget : ℕ) → AreRecorded marks → Finds marks declared budget (GaveUp count)
    → FindsSince marks declared since seconds budget (GaveUp count) None
gives_up marks declared since count seconds budget r found = (found.0, (found.1.0, found.1.1, λ nothing decided e. by nothing decided e))
  where
    by : GrantsNothing (grants_declared declared) → HasDecidedSince found.1.0 since budget count → IsExplainedSince marks declared since → ⊥
    by nothing (by_search decided) e = found.1.2 nothing decided e.explained
    by nothing (ended_below below) e = never_below marks declared nothing since found.1.0 r found.1.1 below e

-- and so does one that finds objects which refute them
pub refutes : (marks : List MarkOf) (declared : DeclarationOf) (since : Option ℤ) (count seconds budget : ℕ) (objects : Vec (String Global) Global) → Finds marks declared budget (Refuted count objects)
    → FindsSince marks declared since seconds budget (Refuted count objects) None
refutes marks declared since count seconds budget objects found = (found.0, λ e. found.2 e.explained)

-- or a call whose answer is impossible over every inventory
pub never_explained : (marks : List MarkOf) (declared : DeclarationOf) (since : Option ℤ) (count seconds budget call : ℕ) → Finds marks declared budget (Impossible count call)
    → FindsSince marks declared since seconds budget (Impossible count call) None
never_explained marks declared since count seconds budget call found = (found.0, λ e. found.2 e.explained)

-- ---- what is made

-- what was appended is cut off
pub cut_back : (old new cut : List ℕ) (kept : ℕ) → StartsWith new old → kept ≡ length old → cut ≡ take kept new → appended_bytes old cut ≡ []
cut_back old new cut kept starts same is = nothing_appended old cut (is ∙ ap (λ (n : ℕ). take n new) same ∙ starts)

-- what holds of a success, where that was no error
pub on_success : {T E P : Type 0} (r : Result T E) (failed : Bool) → OnOk r P → failed ≡ is_err r → failed ≡ false → P
on_success (Ok u) failed p is none = p
on_success (Err u) failed p is none = absurd cc

-- nothing is reported or made, since memory ran out
abbrev pub IsAllSilent : Status → List ℕ → List ℕ → List ℕ → Type 0
IsAllSilent said lines made left_made = IsSilent said lines × (made ≡ []) × (left_made ≡ [])

pub both_done : (searched : Searched) (next : Left) (text lines made left_made : List ℕ) → text ≡ searched_text searched → Makes searched.found made
    → TellsLeft text next status.Done lines left_made ⊎ (IsSilent status.Done lines × (left_made ≡ []))
    → TellsBoth searched next status.Done lines made left_made ⊎ IsAllSilent status.Done lines made left_made
both_done searched next text lines made left_made reads makes (inl tells) =
    let P : List ℕ → Type 0 = λ t. TellsLeft t next status.Done lines left_made in
    inl (subst P reads tells, record { found_made = λ done. makes; nothing = λ other. absurd (other refl) })
both_done searched next text lines made left_made reads makes (inr silent) = let clash : status.Done ≡ status.Failed = silent.0.0 in absurd cc

pub both_not : (searched : Searched) (next : Left) (said : Status) (text lines made left_made : List ℕ) → text ≡ searched_text searched
    → said ≢ status.Done → made ≡ [] → TellsLeft text next said lines left_made ⊎ (IsSilent said lines × (left_made ≡ []))
    → TellsBoth searched next said lines made left_made ⊎ IsAllSilent said lines made left_made
both_not searched next said text lines made left_made reads other nothing (inl tells) =
    let P : List ℕ → Type 0 = λ t. TellsLeft t next said lines left_made in
    inl (subst P reads tells, record { found_made = λ done. absurd (other done); nothing = λ still. nothing })
both_not searched next said text lines made left_made reads other nothing (inr silent) = inr (silent.0, nothing, silent.1)

-- ---- what is told

pub some_found : (segment : FoundSegment) (left : Left) (said : Status) (lines made left_made : List ℕ) → segment.left ≡ Some left
    → TellsBoth segment.searched left said lines made left_made ⊎ IsAllSilent said lines made left_made
    → TellsFound segment segment.left said lines made left_made ⊎ IsAllSilent said lines made left_made
some_found segment left said lines made left_made is tells =
    let P : Option Left → Type 0 = λ o. TellsFound segment o said lines made left_made ⊎ IsAllSilent said lines made left_made in
    subst P (sym is) tells

pub none_found : (segment : FoundSegment) (said : Status) (lines made left_made : List ℕ) → segment.left ≡ None
    → PrintsSearch (Ok segment.searched) said lines made ⊎ (IsSilent said lines × (made ≡ [])) → left_made ≡ []
    → TellsFound segment segment.left said lines made left_made ⊎ IsAllSilent said lines made left_made
none_found segment said lines made left_made is (inl prints) nothing =
    let P : Option Left → Type 0 = λ o. TellsFound segment o said lines made left_made in
    inl (subst P (sym is) (prints, nothing))
none_found segment said lines made left_made is (inr silent) nothing = inr (silent.0, silent.1, nothing)

pub asked_found : (leaves : Bool) (segment : FoundSegment) (said : Status) (lines made left_made : List ℕ) → leaves ≡ true
    → TellsFound segment segment.left said lines made left_made ⊎ IsAllSilent said lines made left_made
    → TellsFound segment (if_asked leaves segment.left) said lines made left_made ⊎ IsAllSilent said lines made left_made
asked_found true segment said lines made left_made is tells = tells
asked_found false segment said lines made left_made is tells = absurd cc

pub unasked_found : (leaves : Bool) (segment : FoundSegment) (said : Status) (lines made left_made : List ℕ) → leaves ≡ false
    → PrintsSearch (Ok segment.searched) said lines made ⊎ (IsSilent said lines × (made ≡ [])) → left_made ≡ []
    → TellsFound segment (if_asked leaves segment.left) said lines made left_made ⊎ IsAllSilent said lines made left_made
unasked_found true segment said lines made left_made is prints nothing = absurd cc
unasked_found false segment said lines made left_made is (inl prints) nothing = inl (prints, nothing)
unasked_found false segment said lines made left_made is (inr silent) nothing = inr (silent.0, silent.1, nothing)

-- ---- status 0

module _ (segment : FoundSegment) (t d : List ℕ) (since : Option ℤ) (seconds budget : ℕ) (asked : Bool) (said : Status) (lines made left_made : List ℕ)
    (a : AreSearchedSince segment t d since seconds budget asked) (done : said ≡ status.Done) where
  -- the witness and what is left, where both were found
  leads_to : (witness : Witness) (count : ℕ) (left : Left) → segment.searched.found ≡ Yes witness count → segment.left ≡ Some left → IsWitness made (witness_of witness)
      → Lead t d made since (declaration_of left.declaration)
  leads_to witness count left found is written =
      let P : Found → Type 0 = λ f. FindsSince a.marks a.declared since seconds budget f segment.left in
      let Q : Option Left → Type 0 = λ o. FindsSince a.marks a.declared since seconds budget (Yes witness count) o in
      let finds = subst Q is (subst P found a.found.1) in
      record {
        marks = a.marks;
        transcript = a.transcript;
        declared = a.declared;
        declaration = a.declaration;
        turns = witness_of witness;
        witness = written;
        accepted = finds.1;
        until = left.until;
        leads = finds.2;
      }

  never : (f : Found) (o : Option Left) → segment.searched.found ≡ f → segment.left ≡ o → (FindsSince a.marks a.declared since seconds budget f o → ⊥) → ⊥
  never f o found is none =
      let P : Found → Type 0 = λ x. FindsSince a.marks a.declared since seconds budget x segment.left in
      let Q : Option Left → Type 0 = λ x. FindsSince a.marks a.declared since seconds budget f x in
      none (subst Q is (subst P found a.found.1))

  made_at : (witness : Witness) (count : ℕ) → segment.searched.found ≡ Yes witness count → Makes segment.searched.found made → IsWitness made (witness_of witness)
  made_at witness count found makes = let P : Found → Type 0 = λ f. Makes f made in subst P found makes

  leads_at : (leaves : Bool) (f : Found) (o : Option Left) → segment.searched.found ≡ f → segment.left ≡ o → TellsFound segment (if_asked leaves o) said lines made left_made
      → LeadsAsAsked leaves t d made since left_made
  leads_at true (Yes witness count) (Some left) found is tells =
      (declaration_of left.declaration, leads_to witness count left found is (made_at witness count found (tells.1.found_made done)), made_of _ left said lines left_made done tells.0)
  leads_at false (Yes witness count) (Some left) found is tells =
      (declaration_of left.declaration, leads_to witness count left found is (made_at witness count found tells.0.2), tells.1)
  leads_at leaves (Yes witness count) None found is tells = absurd (never (Yes witness count) None found is (λ h. h))
  leads_at leaves (GaveUp count) (Some left) found is tells = absurd (never (GaveUp count) (Some left) found is (λ h. h))
  leads_at true (GaveUp count) None found is tells = let clash : status.GaveUp ≡ status.Done = sym (ap found_status found) ∙ sym tells.0.0 ∙ done in absurd cc
  leads_at false (GaveUp count) None found is tells = let clash : status.GaveUp ≡ status.Done = sym (ap found_status found) ∙ sym tells.0.0 ∙ done in absurd cc
  leads_at leaves (OutOfTime count after) (Some left) found is tells = absurd (never (OutOfTime count after) (Some left) found is (λ h. h))
  leads_at true (OutOfTime count after) None found is tells = let clash : status.GaveUp ≡ status.Done = sym (ap found_status found) ∙ sym tells.0.0 ∙ done in absurd cc
  leads_at false (OutOfTime count after) None found is tells = let clash : status.GaveUp ≡ status.Done = sym (ap found_status found) ∙ sym tells.0.0 ∙ done in absurd cc
  leads_at leaves (Refuted count object) (Some left) found is tells = absurd (never (Refuted count object) (Some left) found is (λ h. h))
  leads_at leaves (Impossible count number) (Some left) found is tells = absurd (never (Impossible count number) (Some left) found is (λ h. h))
  leads_at true (Refuted count object) None found is tells = let clash : status.GaveUp ≡ status.Done = sym (ap found_status found) ∙ sym tells.0.0 ∙ done in absurd cc
  leads_at true (Impossible count number) None found is tells = let clash : status.GaveUp ≡ status.Done = sym (ap found_status found) ∙ sym tells.0.0 ∙ done in absurd cc
  leads_at false (Refuted count object) None found is tells = let clash : status.GaveUp ≡ status.Done = sym (ap found_status found) ∙ sym tells.0.0 ∙ done in absurd cc
  leads_at false (Impossible count number) None found is tells = let clash : status.GaveUp ≡ status.Done = sym (ap found_status found) ∙ sym tells.0.0 ∙ done in absurd cc

  -- status 0 is reported where a witness was found, and what it leads to is made where it is asked for
  pub done_found : (leaves : Bool) → TellsFound segment (if_asked leaves segment.left) said lines made left_made ⊎ IsAllSilent said lines made left_made
      → LeadsAsAsked leaves t d made since left_made
  done_found leaves (inl tells) = leads_at leaves segment.searched.found segment.left refl refl tells
  done_found leaves (inr silent) = let clash : status.Failed ≡ status.Done = sym silent.0.0 ∙ done in absurd cc

-- ---- the inputs

pub segment_files : {R : Type 0} (ti di : Input R) (t d : List ℕ) (transcript : Transcript) (declaration : Declaration) (segment : FoundSegment) (since : Option ℤ) (seconds budget : ℕ) (asked : Bool)
    → IsFileOf t ti → IsFileOf d di → IsTranscript (came_of ti) (transcript_of transcript) × IsTrue (is_ended ti)
    → IsDeclaration (came_of di) (declaration_of declaration) × IsTrue (is_ended di)
    → (AreRecorded (transcript_of transcript) → SearchesSegment (transcript_of transcript) (declaration_of declaration) since seconds budget asked (Ok segment))
    → AreSearchedSince segment t d since seconds budget asked
segment_files ti di t d transcript declaration segment since seconds budget asked tf df p q searches = record {
  marks = transcript_of transcript;
  transcript = whole_file t ti (λ bytes. IsTranscript bytes (transcript_of transcript)) p.1 tf p.0;
  declared = declaration_of declaration;
  declaration = whole_file d di (λ bytes. IsDeclaration bytes (declaration_of declaration)) q.1 df q.0;
  found = searches p.0.recorded;
}

pub unsearched_segment : {R : Type 0} (ti di : Input R) (t d : List ℕ) (transcript : Transcript) (declaration : Declaration) (fault : CheckFault) (since : Option ℤ) (seconds budget : ℕ) (asked : Bool)
    → IsFileOf t ti → IsFileOf d di → IsTranscript (came_of ti) (transcript_of transcript) × IsTrue (is_ended ti)
    → IsDeclaration (came_of di) (declaration_of declaration) × IsTrue (is_ended di)
    → (AreRecorded (transcript_of transcript) → SearchesSegment (transcript_of transcript) (declaration_of declaration) since seconds budget asked (Err fault))
    → AreUnsearched fault t d
unsearched_segment ti di t d transcript declaration fault since seconds budget asked tf df p q searches = record {
  marks = transcript_of transcript;
  transcript = whole_file t ti (λ bytes. IsTranscript bytes (transcript_of transcript)) p.1 tf p.0;
  declared = declaration_of declaration;
  declaration = whole_file d di (λ bytes. IsDeclaration bytes (declaration_of declaration)) q.1 df q.0;
  stops = searches p.0.recorded;
}
