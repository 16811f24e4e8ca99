use Rattle.std.proofs.Common.{◌≡◌, ◌++◌, map, drop}
use Rattle.kmipa_msgs.specs.Messages.{lent}
use Rattle.kmipa_unjudged.specs.Naming.{named_by}
use Rattle.kmipa_unjudged.specs.Told.{named_of}
use Rattle.kmipa_unjudged.proofs.naming.push_ids.Given as goal

-- those so far, and those that are left, are all
abbrev pub invariant-ids : goal.invariant-ids
invariant-ids l =
    map named_of l.named.items ++ map (named_by l.origin) (map lent (drop l.id-index l.ids)) ≡ map named_of l.fn.named.items ++ map (named_by l.origin) (map lent l.ids)
