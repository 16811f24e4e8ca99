use Rattle.std.proofs.Common.{◌≡◌, ◌∙◌, ap, subst, List, map}
use Rattle.std.specs.Prelude.{IfOk}
use Rattle.kmipa_msgs.specs.Messages.{RulesOf}
use Rattle.kmipa_msgs.specs.declared.rules.Visibility.{Visibility}
use Rattle.kmipa_record.specs.Declarations.{declaration_of}
use Rattle.kmipa_record.specs.Entries.{entry_of}
use Rattle.kmipa_record.specs.declared.entry.Entry.{Entry}
use Rattle.kmipa_aside.specs.Sights.{OwnedOf, owned_of}
use Rattle.kmipa_turns.specs.Steps.{StepOf, step_of}
use Rattle.kmipa_trail.specs.Owners.{in_sight, owners_at_first, steps_seen}
use Rattle.kmipa_unjudged.specs.Asides.{AreAside}
use Rattle.kmipa_unjudged.specs.Told.{named_of}
use Rattle.kmipa_unjudged.proofs.following.asides_along.Goals as goal

pub returns : goal.returns
returns c =
    let declared = declaration_of c.args.declaration.now in
    let steps = map step_of c.args.steps.now in
    let rules = c.in_ok-rules.rules in
    let owners = map owned_of c.in_ok-owners.owners.items in
    let sees : rules.visibility ≡ declared.settings.visibility = ap (λ (r : RulesOf). r.visibility) c.in_ok-rules.ensures in
    let owned : owners ≡ owners_at_first rules.visibility declared.entries = c.in_ok-owners.ensures ∙ ap (λ (es : List Entry). owners_at_first rules.visibility (map entry_of es)) c.deref.ensures.value in
    let same : steps_seen rules.visibility owners steps ≡ in_sight declared steps =
    ap (λ (os : List OwnedOf). steps_seen rules.visibility os steps) owned ∙ ap (λ (v : Visibility). steps_seen v (owners_at_first v declared.entries) steps) sees in
    let P : List StepOf → Type 0 = λ ss. IfOk c.follow.result (λ told. AreAside declared ss (map named_of told.items)) in
    subst P same (c.follow.ensures declared c.in_ok-rules.ensures c.in_ok-ledger.ensures.known)
