-- What ordering and replaying the calls come to together, where what isn't judged ends the audit.
use Rattle.std.proofs.Common.{◌≡◌, List, map, Ok, ap, subst}
use Rattle.kmipa_msgs.specs.Messages.{RulesOf}
use Rattle.kmipa_msgs.specs.declared.rules.Visibility.{Visibility}
use Rattle.kmipa_record.specs.Declarations.{DeclarationOf}
use Rattle.kmipa_record.specs.Marks.{MarkOf}
use Rattle.kmipa_record.specs.Witnesses.{TurnOf}
use Rattle.kmipa_aside.specs.Sights.{OwnedOf}
use Rattle.kmipa_check.specs.Calls.{CallOf, AreCalls}
use Rattle.kmipa_check.specs.Grants.{grants_declared}
use Rattle.kmipa_check.specs.Orders.{IsOrder}
use Rattle.kmipa_check.specs.Runs.{rules_declared}
use Rattle.kmipa_check.specs.Steps as ever
use Rattle.kmipa_turns.specs.Steps.{StepOf}
use Rattle.kmipa_trail.specs.Ending.{TellsInSight, steps_in_sight}
use Rattle.kmipa_trail.specs.Owners.{owners_at_first, steps_seen}
use Rattle.kmipa_trail.specs.Replays.{TellsRun}
use Rattle.kmipa_trail.specs.Whole.{whole_step}
use Rattle.kmipa_trail.specs.declared.verdict.Verdict.{Verdict}
use Rattle.kmipa_trail.specs.declared.verdict.Verdict.TheVariants.{Yes, No}

run_told : (marks : List MarkOf) (declared : DeclarationOf) (turns : List TurnOf) (calls : List CallOf) (steps : List ever.StepOf) (verdict : Verdict) → AreCalls marks calls
    → IsOrder (grants_declared declared) calls turns steps → TellsRun declared (steps_in_sight marks declared steps) (Ok verdict) → TellsInSight marks declared turns verdict
run_told marks declared turns calls steps (Yes tally) are o h =
    record { calls = calls; are = are; steps = steps; order = o; placed = h.placed; start = h.start; described = h.described; last = h.last; linked = h.linked }
run_told marks declared turns calls steps (No r stamp) are o h = (calls, are, (steps, o, h))

-- by the rules and the owners that a replay has
pub run_in_sight : (marks : List MarkOf) (declared : DeclarationOf) (turns : List TurnOf) (calls : List CallOf) (steps : List ever.StepOf) (verdict : Verdict) → AreCalls marks calls
    → IsOrder (grants_declared declared) calls turns steps → (rules : RulesOf) → rules ≡ rules_declared declared → (owners : List OwnedOf)
    → owners ≡ owners_at_first declared.settings.visibility declared.entries → (whole : List StepOf) → whole ≡ map (whole_step marks) steps
    → TellsRun declared (steps_seen rules.visibility owners whole) (Ok verdict) → TellsInSight marks declared turns verdict
run_in_sight marks declared turns calls steps verdict are o rules is owners owned whole all told =
    let told_by : Visibility → List OwnedOf → List StepOf → Type 0 = λ v os ss. TellsRun declared (steps_seen v os ss) (Ok verdict) in
    let V : Visibility → Type 0 = λ v. told_by v owners whole in
    let O : List OwnedOf → Type 0 = λ os. told_by declared.settings.visibility os whole in
    let S : List StepOf → Type 0 = λ ss. told_by declared.settings.visibility (owners_at_first declared.settings.visibility declared.entries) ss in
    run_told marks declared turns calls steps verdict are o (subst S all (subst O owned (subst V (ap (λ (r : RulesOf). r.visibility) is) told)))
