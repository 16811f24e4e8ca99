use Rattle.kmipa_orders.proofs.NotedLemmas.{added_none, added_last}
use Rattle.kmipa_orders.proofs.ends.Ends.add.Goals as goal

pub returns-in_err-push : goal.returns-in_err-push
returns-in_err-push c = added_none c.args.self.now.ends.items c.push.new.self.items c.args.set c.args.objects c.in_err-push.ensures.items

pub returns : goal.returns
returns c =
    added_last c.args.self.now.ends.items c.push.new.self.items (record { set = c.args.set; objects = c.args.objects; hash = c.args.hash })
    c.in_ok-push.ensures.items
