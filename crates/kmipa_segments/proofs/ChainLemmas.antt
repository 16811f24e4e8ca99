-- Segments that are judged one after the other, each from what those before it leave.
use Rattle.std.proofs.Common.{◌≡◌, ◌⊎◌, inl, inr, ℕ, ℤ, List, [], ◌++◌, Bool, false, IsTrue, Option, Some, None, Result, Ok, Err, refl, sym, ap, ◌∙◌, subst, arith}
use Rattle.std.specs.Prelude.{IfOk}
use Rattle.kmipa_ttlv.specs.Input.{came_of, is_ended, IsFileOf}
use Rattle.kmipa_ttlv.specs.declared.input.Input.{Input}
use Rattle.kmipa_ttlv.proofs.ReadLemmas.{whole_file}
use Rattle.kmipa_record.specs.Marks.{MarkOf, AreRecorded}
use Rattle.kmipa_record.specs.Transcripts.{transcript_of, IsTranscript}
use Rattle.kmipa_record.specs.Declarations.{AreDeclared, DeclarationOf, declaration_of}
use Rattle.kmipa_record.specs.Witnesses.{TurnOf, witness_of, IsWitness}
use Rattle.kmipa_record.specs.declared.transcript.Transcript.{Transcript}
use Rattle.kmipa_record.specs.declared.witness.Witness.{Witness}
use Rattle.kmipa_check.specs.Grants.{GrantsOf, grants_declared}
use Rattle.kmipa_check.specs.Calls.{AreCalls}
use Rattle.kmipa_check.specs.Described.{Describes}
use Rattle.kmipa_check.specs.Left.{IsLeft, LeavesDeclaration, LeavesAtYes}
use Rattle.kmipa_check.specs.Orders.{IsOrder}
use Rattle.kmipa_check.specs.Runs.{IsPlaced}
use Rattle.kmipa_check.specs.Segments.{AreApart, HaveBegun, Leads}
use Rattle.kmipa_check.specs.Since.{ChecksSince, IsAcceptedSince}
use Rattle.kmipa_check.specs.Verdicts.{Checks}
use Rattle.kmipa_check.specs.declared.fault.CheckFault.{CheckFault}
use Rattle.kmipa_check.specs.declared.segment.Checked.{Checked}
use Rattle.kmipa_check.specs.declared.segment.Left.{Left}
use Rattle.kmipa_check.specs.declared.verdict.Verdict.{Verdict}
use Rattle.kmipa_check.specs.declared.verdict.Verdict.TheVariants as verdict
use Rattle.kmipa_check.proofs.JoinLemmas.{joined_begun_lem, recorded_begun_lem}
use Rattle.kmipa_check.proofs.SegmentLemmas.{accepted_behind_lem, segments_join_lem}
use Rattle.kmipa_orders.specs.declared.found.Found.{Found}
use Rattle.kmipa_orders.specs.declared.found.Found.TheVariants.{Yes, GaveUp, Refuted, Impossible, OutOfTime}
use Rattle.kmipa_runs.specs.Lines.{PrintsVerdict}
use Rattle.kmipa_searches.specs.Searches.{found_status, SearchStops}
use Rattle.kmipa_jobs.specs.Statuses.{IsSilent}
use Rattle.kmipa_jobs.specs.declared.status.Status.{Status}
use Rattle.kmipa_jobs.specs.declared.status.Status.TheVariants as status
use Rattle.kmipa_runs.proofs.LineLemmas.{done_is_yes}
use Rattle.kmipa_links.specs.declared.links.Links.{Links}
use Rattle.kmipa_segments.specs.Chains.{AreChained, AreCheckedNext, AreReadNext, AreSearchedNext, AreUncheckedNext, AreUnsearchedNext, found_witness, GoesOn, GoesOnBy, GoesOnSomehow, IsJoined, IsSomeDeclared, IsUnreadNext, LeavesWhereFound, NextFails, SearchesNext}
use Rattle.kmipa_segments.specs.SegmentSearches.{FindsSince, SearchesSegment}
use Rattle.kmipa_check.specs.declared.auditing.AuditFault.TheVariants as audit
use Rattle.kmipa_segments.specs.declared.chain.Chain.{Chain}
use Rattle.kmipa_segments.specs.declared.next.NextSegment.{NextSegment}
use Rattle.kmipa_segments.specs.declared.next.Unjudged.{Unjudged}
use Rattle.kmipa_segments.specs.declared.next.Unjudged.TheVariants.{Fault, Gap}
use Rattle.kmipa_segments.specs.declared.segment_search.FoundSegment.{FoundSegment}
use Rattle.kmipa_segments.proofs.LeavingLemmas.{handed_at_yes, handed_out, yes_hands_out}

-- ---- the chain of no segments

nothing_begun : HaveBegun []
nothing_begun number end answered h = absurd cc

no_order : (g : GrantsOf) → IsOrder g [] [] []
no_order g = record {
  counted = refl;
  formed = λ place s h. absurd cc;
  all = λ c end known ended. absurd (omega (arith, known.1));
}

no_steps : IsPlaced []
no_steps = record {
  kept = λ i j d less within. absurd (omega (arith, within));
  stamped = λ i j d less within. absurd (omega (arith, within));
}

no_calls : AreCalls [] []
no_calls = record { numbers = refl; recorded = λ k d below. absurd (omega (arith, below)) }

-- where nothing is done, a declaration is what is left of it
nothing_done : (declared : DeclarationOf) → AreDeclared declared → IsLeft declared [] declared
nothing_done declared a = record {
  objects = a;
  rules = refl;
  grants = refl;
  exactly = λ last. (
    λ described. (last, described, refl),
    λ ends. subst (Describes declared) (sym ends.2) ends.1,
  );
}

pub begins : (held : Left) → AreDeclared (declaration_of held.declaration) → held.until ≡ None → AreChained (declaration_of held.declaration) None [] [] held
begins held a never = record {
  begun = nothing_begun;
  leads = record {
    run = record { calls = []; are = no_calls; steps = []; order = no_order (grants_declared (declaration_of held.declaration)); placed = no_steps; leaves = nothing_done (declaration_of held.declaration) a };
    since_then = tt;
    last = never;
  };
}

-- ---- one segment more

module _ (held next : Left) (marks : List MarkOf) (turns : List TurnOf) (r : AreRecorded marks) (a : IsAcceptedSince marks (declaration_of held.declaration) held.until turns)
    (l : Leads (declaration_of held.declaration) held.until marks turns (declaration_of next.declaration) next.until) where
  joins : IsJoined held next marks turns
  joins first since before taken chained apart =
      let begun = recorded_begun_lem marks r in
      let middle = declaration_of held.declaration in (
        record {
          begun = joined_begun_lem before marks chained.begun begun;
          leads = segments_join_lem before marks taken turns first middle since held.until chained.begun begun apart chained.leads (declaration_of next.declaration) next.until l;
        },
        accepted_behind_lem before marks taken turns first middle since held.until chained.begun begun apart chained.leads a,
      )

  goes_on : GoesOn held next marks turns
  goes_on = record { accepted = a; leads = l; joined = joins }

-- ---- a segment that is read and linked

-- its bytes are those of the file, where its end was seen
pub read_whole : {R : Type 0} (t : List ℕ) (input : Input R) (links next : Links) (name : List ℕ) (marks : List MarkOf) → IsTrue (is_ended input) → IsFileOf t input
    → AreReadNext links next name (came_of input) marks → AreReadNext links next name t marks
read_whole t input links next name marks ended is r = let P : List ℕ → Type 0 = λ b. AreReadNext links next name b marks in whole_file t input P ended is r

-- why it isn't read, where it is to be checked, or searched
pub unread_check : (chain : Chain) (name t w : List ℕ) (failed_t failed_w : Bool) (u : Unjudged) → IsUnreadNext chain.links name t failed_t u → NextFails chain name t w failed_t failed_w u
unread_check chain name t w failed_t failed_w (Fault (audit.Transcript f)) h = h
unread_check chain name t w failed_t failed_w (Fault (audit.Declaration f)) h = absurd h
unread_check chain name t w failed_t failed_w (Fault (audit.Witness f)) h = absurd h
unread_check chain name t w failed_t failed_w (Fault (audit.Check f)) h = absurd h
unread_check chain name t w failed_t failed_w (Gap gap) h = h

pub unread_search : (chain : Chain) (next : Links) (name t : List ℕ) (failed_t : Bool) (seconds budget : ℕ) (u : Unjudged) → IsUnreadNext chain.links name t failed_t u
    → SearchesNext chain next name t failed_t seconds budget (Err u)
unread_search chain next name t failed_t seconds budget (Fault (audit.Transcript f)) h = h
unread_search chain next name t failed_t seconds budget (Fault (audit.Declaration f)) h = absurd h
unread_search chain next name t failed_t seconds budget (Fault (audit.Witness f)) h = absurd h
unread_search chain next name t failed_t seconds budget (Fault (audit.Check f)) h = absurd h
unread_search chain next name t failed_t seconds budget (Gap gap) h = h

-- ---- what is checked

module _ (chain : Chain) (links : Links) (name : List ℕ) (segment : NextSegment) (t w : List ℕ) (c : AreCheckedNext chain links name segment t w) where
  abbrev LeadsTo : Left → Type 0
  LeadsTo left = Leads (declaration_of chain.held.declaration) chain.held.until (transcript_of segment.transcript) (witness_of segment.witness) (declaration_of left.declaration) left.until

  pub goes_on_by : (next : Chain) → segment.checked.left ≡ Some next.held → next.witness ≡ Some segment.witness → next.links ≡ links → GoesOnBy chain next name t w
  goes_on_by next is holds same =
      let H : Left → Type 0 = λ left. LeadsTo left in
      let P : Verdict → Type 0 = λ v. ChecksSince (transcript_of segment.transcript) (declaration_of chain.held.declaration) chain.held.until (witness_of segment.witness) (Ok v) in
      let L : Links → Type 0 = λ l. AreReadNext chain.links l name t (transcript_of segment.transcript) in
      record {
        marks = transcript_of segment.transcript;
        read = subst L (sym same) c.read;
        turns = witness_of segment.witness;
        witness = c.witness;
        goes_on = goes_on chain.held next.held (transcript_of segment.transcript) (witness_of segment.witness) c.read.transcript.recorded
            (subst P (handed_at_yes segment.checked.verdict segment.checked.left next.held H is c.leads) c.verdict)
            (handed_out segment.checked.verdict segment.checked.left next.held H is c.leads);
        keeps = record { witness = segment.witness; held = holds; is = refl };
      }

  -- what is left may be declared
  declared_at : (v : Verdict) (handed : Option Left) → LeavesAtYes v handed (λ (left : Left). LeadsTo left) → LeavesAtYes v handed (λ (left : Left). AreDeclared (declaration_of left.declaration))
  declared_at verdict.Yes (Some left) h = h.run.leaves.objects
  declared_at verdict.Yes None h = h
  declared_at (verdict.No refused) (Some left) h = h
  declared_at (verdict.No refused) None h = h

  pub leaves_declared : LeavesAtYes segment.checked.verdict segment.checked.left (λ (left : Left). AreDeclared (declaration_of left.declaration))
  leaves_declared = declared_at segment.checked.verdict segment.checked.left c.leads

-- ---- what is searched

module _ (marks : List MarkOf) (declared : DeclarationOf) (since : Option ℤ) (seconds budget : ℕ) where
  -- what leads to what is left, where a witness was found
  record IsFoundTo (found : Found) (left : Left) : Type 0 where
    witness : Witness
    is : found_witness found ≡ Some witness
    accepted : IsAcceptedSince marks declared since (witness_of witness)
    leads : Leads declared since marks (witness_of witness) (declaration_of left.declaration) left.until

  found_to : (found : Found) (handed : Option Left) (left : Left) → handed ≡ Some left → FindsSince marks declared since seconds budget found handed → IsFoundTo found left
  found_to (Yes witness count) (Some other) left is finds =
      let same : other ≡ left = cc in
      let P : Left → Type 0 = λ x. Leads declared since marks (witness_of witness) (declaration_of x.declaration) x.until in
      record { witness = witness; is = refl; accepted = finds.1; leads = subst P same finds.2 }
  found_to (Yes witness count) None left is finds = absurd finds
  found_to (GaveUp count) (Some other) left is finds = absurd finds
  found_to (GaveUp count) None left is finds = absurd cc
  found_to (Refuted count object) (Some other) left is finds = absurd finds
  found_to (Impossible count number) (Some other) left is finds = absurd finds
  found_to (Refuted count object) None left is finds = absurd cc
  found_to (Impossible count number) None left is finds = absurd cc
  found_to (OutOfTime count after) (Some other) left is finds = absurd finds
  found_to (OutOfTime count after) None left is finds = absurd cc

  declared_where : (found : Found) (handed : Option Left) → FindsSince marks declared since seconds budget found handed
      → LeavesWhereFound found handed (λ (left : Left). AreDeclared (declaration_of left.declaration))
  declared_where (Yes witness count) (Some left) finds = finds.2.run.leaves.objects
  declared_where (Yes witness count) None finds = finds
  declared_where (GaveUp count) (Some left) finds = finds
  declared_where (GaveUp count) None finds = tt
  declared_where (Refuted count object) (Some left) finds = finds
  declared_where (Impossible count number) (Some left) finds = finds
  declared_where (Refuted count object) None finds = tt
  declared_where (Impossible count number) None finds = tt
  declared_where (OutOfTime count after) (Some left) finds = finds
  declared_where (OutOfTime count after) None finds = tt

module _ (chain : Chain) (links : Links) (name : List ℕ) (segment : FoundSegment) (t : List ℕ) (seconds budget : ℕ) (s : AreSearchedNext chain links name segment t seconds budget) where
  pub goes_on_somehow : (next : Chain) → segment.left ≡ Some next.held → next.witness ≡ found_witness segment.searched.found → next.links ≡ links → GoesOnSomehow chain next name t
  goes_on_somehow next is holds same =
      let f = found_to s.marks (declaration_of chain.held.declaration) chain.held.until seconds budget segment.searched.found segment.left next.held is s.found.1 in
      let L : Links → Type 0 = λ l. AreReadNext chain.links l name t s.marks in
      record {
        marks = s.marks;
        read = subst L (sym same) s.read;
        turns = witness_of f.witness;
        goes_on = goes_on chain.held next.held s.marks (witness_of f.witness) s.read.transcript.recorded f.accepted f.leads;
        keeps = record { witness = f.witness; held = holds ∙ f.is; is = refl };
      }

  pub leaves_where_found : LeavesWhereFound segment.searched.found segment.left (λ (left : Left). AreDeclared (declaration_of left.declaration))
  leaves_where_found = declared_where s.marks (declaration_of chain.held.declaration) chain.held.until seconds budget segment.searched.found segment.left s.found.1
