use Rattle.std.proofs.Common.{◌≡◌, ◌∙◌, ap, map, List}
use Rattle.kmipa_msgs.specs.Messages.{RulesOf, rules_of}
use Rattle.kmipa_msgs.specs.declared.rules.Visibility.{Visibility}
use Rattle.kmipa_record.specs.Declarations.{declaration_of}
use Rattle.kmipa_record.specs.Entries.{entry_of}
use Rattle.kmipa_record.specs.declared.entry.Entry.{Entry}
use Rattle.kmipa_aside.specs.Sights.{owned_of}
use Rattle.kmipa_check.specs.Runs.{rules_declared}
use Rattle.kmipa_trail.specs.Owners.{owners_at_first}
use Rattle.kmipa_judge.proofs.checking.in_sight.check_sighted.Goals as goal

pub returns : goal.returns
returns c = λ recorded.
    let declared = declaration_of c.args.declaration.now in
    let rules : rules_of c.in_ok-rules.rules ≡ rules_declared declared = c.in_ok-rules.ensures in
    let owned : map owned_of c.in_ok-owners.owners.items ≡ owners_at_first declared.settings.visibility declared.entries =
    c.in_ok-owners.ensures ∙ ap (λ (v : Visibility). owners_at_first v (map entry_of c.deref.result.now)) (ap (λ (r : RulesOf). r.visibility) rules)
    ∙ ap (λ (es : List Entry). owners_at_first declared.settings.visibility (map entry_of es)) c.deref.ensures.value in
    c.check_in_sight.ensures declared rules c.of-grants.ensures owned c.in-Ok.ensures.known recorded
