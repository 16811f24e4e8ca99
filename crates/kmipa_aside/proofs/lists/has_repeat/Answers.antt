use Rattle.std.proofs.Common.{◌-◌, map, refl, sym}
use Rattle.kmipa_msgs.specs.Messages.{lent}
use Rattle.kmipa_aside.proofs.RepeatLemmas.{behind_found, behind_more, is_new, is_old, less_one}
use Rattle.kmipa_aside.proofs.SettingLemmas.{mapped_at}
use Rattle.kmipa_aside.proofs.lists.has_repeat.Goals as goal

pub returns-then-not-branch : goal.returns-then-not-branch
returns-then-not-branch c =
    let ids = map lent c.args.ids.now in
    let one = less_one ids c.ids.place c.ids.behind c.ids.invariant c.ids-test.true in
    sym (behind_found ids c.ids.place (c.ids.place - 1) _ c.ids.behind c.ids.invariant one.0 (mapped_at lent c.args.ids.now (c.ids.place - 1) _ (one.1 c.args.ids.now refl))
    (is_old _ c.in_ok-insert.field-0 c.in_ok-insert.ensures.added c.if-not-branch.true))

pub ids-preserved : goal.ids-preserved
ids-preserved c =
    let ids = map lent c.args.ids.now in
    let one = less_one ids c.ids.place c.ids.behind c.ids.invariant c.ids-test.true in
    behind_more ids c.ids.place (c.ids.place - 1) _ c.ids.behind c.ids.invariant one.0 (mapped_at lent c.args.ids.now (c.ids.place - 1) _ (one.1 c.args.ids.now refl)) c.insert.new.self
    (is_new _ c.in_ok-insert.field-0 c.in_ok-insert.ensures.added c.if-not-branch.false) c.in_ok-insert.ensures.updates.0
