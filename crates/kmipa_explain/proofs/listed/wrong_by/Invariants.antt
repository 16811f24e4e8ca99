use Rattle.std.proofs.Common.{◌-◌, length, map, take}
use Rattle.kmipa_attrs.specs.Filters.{filter_of}
use Rattle.kmipa_msgs.specs.Messages.{lent}
use Rattle.kmipa_record.specs.Declarations.{declaration_of}
use Rattle.kmipa_explain.specs.Ids.{HasIds}
use Rattle.kmipa_explain.specs.Listed.{IsRight, TellsWrong}
use Rattle.kmipa_explain.proofs.ToldLemmas.{ToldUpTo}
use Rattle.kmipa_explain.proofs.listed.wrong_by.Given as goal

abbrev pub invariant-ids : goal.invariant-ids
invariant-ids l =
    let ids = map lent l.ids in
    let held = declaration_of l.held in
    let q = filter_of l.filter in
    record {
      seen : HasIds (take l.place ids) l.seen;
      told : ToldUpTo (TellsWrong held l.t q ids) (IsRight held l.t q ids) ids l.place l.wrong.items;
    }

abbrev pub decreases-ids : goal.decreases-ids
decreases-ids l = length l.ids - l.place
