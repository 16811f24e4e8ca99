-- Segments of one recording join, and what is accepted together is accepted one by one.
use Rattle.std.proofs.Common.{◌≡◌, ◌⊎◌, inl, inr, ℤ, Option, Some, List, ◌++◌, map, length, refl, sym, ◌∙◌, subst, Result, Ok, Err}
use Rattle.std.specs.Prelude.{IfOk}
use Rattle.std.specs.Int.Signed.{clash_ℤ}
use Rattle.kmipa_record.specs.Marks.{MarkOf, AreRecorded}
use Rattle.kmipa_record.specs.Declarations.{DeclarationOf, declaration_of}
use Rattle.kmipa_record.specs.Witnesses.{TurnOf}
use Rattle.kmipa_msgs.specs.Messages.{RulesOf}
use Rattle.kmipa_check.specs.Calls.{CallOf, AreCalls}
use Rattle.kmipa_check.specs.Grants.{GrantsOf, grants_declared}
use Rattle.kmipa_check.specs.Steps.{StepOf}
use Rattle.kmipa_check.specs.Orders.{IsOrder}
use Rattle.kmipa_check.specs.Runs.{Linked, rules_declared}
use Rattle.kmipa_check.specs.Left.{LeavesAtYes}
use Rattle.kmipa_check.specs.Replays.{TellsRun}
use Rattle.kmipa_check.specs.Since.{AreSince, last_stamp, IsAcceptedSince, at_first, as_ever, IsRefusedFirst, IsRefusedSince, ChecksSince}
use Rattle.kmipa_check.specs.Segments.{Leads, AreApart, HaveBegun, NameOnly}
use Rattle.kmipa_check.specs.SegmentReplays.{IsLeftSince, TellsSegment}
use Rattle.kmipa_check.specs.declared.segment.Checked.{Checked}
use Rattle.kmipa_check.specs.declared.segment.Left.{Left}
use Rattle.kmipa_check.specs.declared.fault.CheckFault.{CheckFault}
use Rattle.kmipa_check.specs.declared.fault.CheckFault.TheVariants.{Outside, Witness, Memory}
use Rattle.kmipa_check.specs.declared.verdict.Refused.{Refused}
use Rattle.kmipa_check.specs.declared.verdict.Verdict.{Verdict}
use Rattle.kmipa_check.specs.declared.verdict.Verdict.TheVariants.{Yes, No}
use Rattle.kmipa_check.proofs.PlaceLemmas.{contains_at}
use Rattle.kmipa_check.proofs.RunLemmas.{linked_join}
use Rattle.kmipa_check.proofs.ReplayLemmas.{replayed_run}
use Rattle.kmipa_check.proofs.WholeOrderLemmas.{number_of, order_takes, one_order_lem}
use Rattle.kmipa_check.proofs.OnceLemmas.{once_pairs}
use Rattle.kmipa_check.proofs.CheckLemmas.{calls_once}
use Rattle.kmipa_check.proofs.RecordedLemmas.{same_calls}
use Rattle.kmipa_check.proofs.AcceptedLemmas.{accepted_is_yes_lem}
use Rattle.kmipa_check.proofs.LeftLemmas.{replayed_leaves, at_yes_map}
use Rattle.kmipa_check.proofs.JoinLemmas.{Ordered, ordered, moved, step_moved, calls_join, order_join, placed_join, left_join, linked_moved}
use Rattle.kmipa_check.proofs.SplitLemmas as split
use Rattle.kmipa_check.proofs.SinceLemmas.{Rises, last_join, last_moved, since_join, since_moved, since_back, since_behind, rise_across}

-- ---- segments

module _ (first second : List MarkOf) (turns more : List TurnOf) (declared between : DeclarationOf) (since middle : Option ℤ) (rf : HaveBegun first) (rs : HaveBegun second) (apart : AreApart first second)
    (l : Leads declared since first turns between middle) where
  -- what goes on from its last stamp
  from_last : (ss : List StepOf) → AreSince middle ss → AreSince (last_stamp since l.run.steps) ss
  from_last ss h = let P : Option ℤ → Type 0 = λ o. AreSince o ss in subst P l.last h

  joined_since : (ss : List StepOf) → AreSince middle ss → AreSince since (l.run.steps ++ map (step_moved (length first)) ss)
  joined_since ss h = since_join since l.run.steps (map (step_moved (length first)) ss) l.since_then (since_moved (length first) (last_stamp since l.run.steps) ss (from_last ss h))

  pub segments_join_lem : (left : DeclarationOf) (until : Option ℤ) → Leads between middle second more left until → Leads declared since (first ++ second) (turns ++ more) left until
  segments_join_lem left until k =
      let moved_steps = map (step_moved (length first)) k.run.steps in
      let P : Option ℤ → Type 0 = λ o. last_stamp middle k.run.steps ≡ last_stamp o k.run.steps in
      let G : GrantsOf → Type 0 = λ x. IsOrder x k.run.calls more k.run.steps in
      let own : IsOrder (grants_declared declared) k.run.calls more k.run.steps = subst G l.run.leaves.grants k.run.order in
      record {
        run = record {
          calls = l.run.calls ++ map (moved (length first)) k.run.calls;
          are = calls_join first second rf rs apart l.run.calls k.run.calls l.run.are k.run.are;
          steps = l.run.steps ++ map (step_moved (length first)) k.run.steps;
          order = order_join first second rf rs apart (grants_declared declared) l.run.calls k.run.calls turns more l.run.steps k.run.steps l.run.are k.run.are l.run.order own;
          placed = placed_join first second rf rs apart (grants_declared declared) l.run.calls k.run.calls turns more l.run.steps k.run.steps l.run.are k.run.are l.run.order own l.run.placed k.run.placed
              (rise_across since l.run.steps k.run.steps (ordered Rises l.run.steps l.run.placed.stamped) (from_last k.run.steps k.since_then));
          leaves = left_join (length first) declared between left l.run.steps k.run.steps l.run.leaves k.run.leaves;
        };
        since_then = joined_since k.run.steps k.since_then;
        last = k.last ∙ subst P l.last refl ∙ sym (last_moved (length first) (last_stamp since l.run.steps) k.run.steps) ∙ sym (last_join since l.run.steps moved_steps);
      }

  pub accepted_behind_lem : IsAcceptedSince second between middle more → IsAcceptedSince (first ++ second) declared since (turns ++ more)
  accepted_behind_lem b =
      let k = b.accepted in
      let calls = l.run.calls ++ map (moved (length first)) k.calls in
      let G : GrantsOf → Type 0 = λ x. IsOrder x k.calls more k.steps in
      let own : IsOrder (grants_declared declared) k.calls more k.steps = subst G l.run.leaves.grants k.order in
      let order = order_join first second rf rs apart (grants_declared declared) l.run.calls k.calls turns more l.run.steps k.steps l.run.are k.are l.run.order own in
      let e = (l.run.leaves.exactly k.start).0 k.described in
      let P : RulesOf → Type 0 = λ r. Linked r k.start k.steps k.run.last in
      record {
        accepted = record {
          calls = calls;
          are = calls_join first second rf rs apart l.run.calls k.calls l.run.are k.are;
          steps = l.run.steps ++ map (step_moved (length first)) k.steps;
          order = order;
          start = e.0;
          described = e.1;
          run = record {
            once = order_takes (grants_declared declared) calls (turns ++ more) (l.run.steps ++ map (step_moved (length first)) k.steps) order;
            placed = placed_join first second rf rs apart (grants_declared declared) l.run.calls k.calls turns more l.run.steps k.steps l.run.are k.are l.run.order own l.run.placed k.run.placed
                (rise_across since l.run.steps k.steps (ordered Rises l.run.steps l.run.placed.stamped) (from_last k.steps b.since_then));
            last = k.run.last;
            linked = linked_join (rules_declared declared) e.0 l.run.steps (map (step_moved (length first)) k.steps) k.start k.run.last e.2
                (linked_moved (rules_declared declared) (length first) k.start k.steps k.run.last (subst P l.run.leaves.rules k.run.linked));
          };
        };
        since_then = joined_since k.steps b.since_then;
      }

module _ (first second : List MarkOf) (turns more : List TurnOf) (declared between : DeclarationOf) (since middle : Option ℤ) (rf : AreRecorded first) (rs : AreRecorded second) (apart : AreApart first second)
    (l : Leads declared since first turns between middle) where
  pub accepted_together_lem : IsAcceptedSince (first ++ second) declared since (turns ++ more) → NameOnly second more → IsAcceptedSince second between middle more
  accepted_together_lem b only =
      let a = b.accepted in
      let own = split.together_lem first second rf rs apart turns more declared between l.run a only in
      let before = split.before first second rf rs apart turns more declared between l.run a only in
      let behind = split.behind first second rf rs apart turns more declared between l.run a only in
      let whole = split.whole first second rf rs apart turns more declared between l.run a only in
      let same = split.before_same first second rf rs apart turns more declared between l.run a only in
      let O : List StepOf → Type 0 = λ ss. Ordered Rises ss in
      let S : List StepOf → Type 0 = λ ss. AreSince since ss in
      let B : List StepOf → Type 0 = λ ss. AreSince (last_stamp since ss) behind in
      let M : Option ℤ → Type 0 = λ o. AreSince o behind in
      let E : List StepOf → Type 0 = λ ss. AreSince middle ss in
      let h : AreSince (last_stamp since before) behind = since_behind since before behind (subst O (sym whole) (ordered Rises a.steps a.run.placed.stamped)) (subst S (sym whole) b.since_then) in
      record { accepted = own.0; since_then = subst E (sym own.1) (since_back (length first) middle behind (subst M (sym l.last) (subst B same h))) }

-- ---- what a check tells

-- a fault of a replay is one behind a moment
pub fault_told : (declared : DeclarationOf) (since : Option ℤ) (order : List StepOf) (f : CheckFault) → TellsRun declared order (Err f) → TellsSegment declared since order (Err f)
fault_told declared since order Memory h = tt
fault_told declared since order (Outside number side at) h = absurd h
fault_told declared since order (Witness f) h = absurd h

module _ (marks : List MarkOf) (declared : DeclarationOf) (since : Option ℤ) (turns : List TurnOf) where
  pub segment_reported : (calls : List CallOf) (order : List StepOf) (result : Result Verdict CheckFault) → AreCalls marks calls → IsOrder (grants_declared declared) calls turns order → TellsSegment declared since order result
      → ChecksSince marks declared since turns result
  segment_reported calls order (Ok Yes) are o h =
      let a = replayed_run marks declared turns calls order h.ledger are o (order_takes (grants_declared declared) calls turns order o) h.replayed in
      let P : List StepOf → Type 0 = λ ss. AreSince since ss in
      record { accepted = a.0; since_then = subst P (sym a.1) h.since_then }
  segment_reported calls order (Ok (No refused)) are o h = (calls, are, (order, o, h))
  segment_reported calls order (Err Memory) are o h = tt
  segment_reported calls order (Err (Outside number side at)) are o h = absurd h
  segment_reported calls order (Err (Witness f)) are o h = absurd h

  leads : (calls : List CallOf) (order : List StepOf) (left : DeclarationOf) (until : Option ℤ) → AreCalls marks calls → IsOrder (grants_declared declared) calls turns order → IsLeftSince declared since order left until
      → Leads declared since marks turns left until
  leads calls order left until are o h =
      let l = replayed_leaves marks declared turns calls order h.behind.ledger left are o h.behind.replayed h.behind.is in
      let P : List StepOf → Type 0 = λ ss. AreSince since ss in
      let Q : List StepOf → Type 0 = λ ss. until ≡ last_stamp since ss in
      record { run = l.0; since_then = subst P (sym l.1) h.since_then; last = subst Q (sym l.1) h.last }

  -- what is told of what is left
  abbrev pub LeftTold : List StepOf → Result Checked CheckFault → Type 0
  LeftTold order result = IfOk result (λ checked. LeavesAtYes checked.verdict checked.left (λ left. IsLeftSince declared since order (declaration_of left.declaration) left.until))

  pub left_reported : (calls : List CallOf) (order : List StepOf) (result : Result Checked CheckFault) → AreCalls marks calls → IsOrder (grants_declared declared) calls turns order → LeftTold order result
      → IfOk result (λ checked. LeavesAtYes checked.verdict checked.left (λ left. Leads declared since marks turns (declaration_of left.declaration) left.until))
  left_reported calls order (Err fault) are o h = tt
  left_reported calls order (Ok checked) are o h =
      at_yes_map (λ (left : Left). IsLeftSince declared since order (declaration_of left.declaration) left.until) (λ (left : Left). Leads declared since marks turns (declaration_of left.declaration) left.until)
      checked.verdict checked.left (λ left p. leads calls order (declaration_of left.declaration) left.until are o p) h

  -- ---- it is yes exactly where it may be

  module _ (r : AreRecorded marks) (a : IsAcceptedSince marks declared since turns) where
    not_first : (order : List StepOf) (v : Refused) → order ≡ a.accepted.steps → IsRefusedFirst since order v → ⊥
    not_first order v same h =
        let b = h.begins in
        let P : List StepOf → Type 0 = λ ss. AreSince since ss in
        let Q : Option ℤ → Type 0 = λ o. AreSince o order in
        let since_then : AreSince (Some b.moment) order = subst Q b.is (subst P (sym same) a.since_then) in
        clash_ℤ b.below (since_then h.first (contains_at order 0 h.first b.there))

    refused_since : (v : Refused) (order : List StepOf) (calls : List CallOf) → AreCalls marks calls → IsOrder (grants_declared declared) calls turns order → order ≡ a.accepted.steps → IsRefusedSince declared since order v → ⊥
    refused_since v order calls are o same (at_first h) = not_first order v same h
    refused_since v order calls are o same (as_ever within h) =
        elim (accepted_is_yes_lem marks declared turns r a.accepted (Ok (No v)) (calls, are, (order, o, h))) [
          | inl e ↦ absurd cc
          | inr e ↦ absurd cc
        ]

    pub accepted_since_lem : (result : Result Verdict CheckFault) → ChecksSince marks declared since turns result → (result ≡ Ok Yes) ⊎ (result ≡ Err Memory)
    accepted_since_lem (Ok Yes) h = inl refl
    accepted_since_lem (Err fault) h = accepted_is_yes_lem marks declared turns r a.accepted (Err fault) h
    accepted_since_lem (Ok (No v)) h =
        let e : h.0 ≡ a.accepted.calls = same_calls marks h.0 a.accepted.calls r h.1 a.accepted.are in
        let P : List CallOf → Type 0 = λ calls. IsOrder (grants_declared declared) calls turns h.2.0 in
        let same = one_order_lem (grants_declared declared) a.accepted.calls turns h.2.0 a.accepted.steps (once_pairs (map number_of a.accepted.calls) (calls_once marks a.accepted.calls r a.accepted.are)) (subst P e h.2.1) a.accepted.order in
        absurd (refused_since v h.2.0 h.0 h.1 h.2.1 same h.2.2)
