use Rattle.std.proofs.Common.{◌≡◌, ◌+◌, ap, rules}
use Rattle.std.specs.Vec.{with_item}
use Rattle.kmipa_object.proofs.ListLemmas.{get-at}
use Rattle.kmipa_store.specs.Sought.{asked_by}
use Rattle.kmipa_store.specs.declared.sought.Wanted.{Wanted}
use Rattle.kmipa_store.proofs.ClockLemmas.{set_is}
use Rattle.kmipa_store.proofs.SoughtLemmas.{read_at, sought_listed}
use Rattle.kmipa_store.proofs.sought.Sought.list.Goals as goal

pub returns : goal.returns
returns c = λ objects knows.
    let old = c.args.self.now in
    let n = c.args.number in
    let w : Wanted = c.index.result.now in
    let v : Wanted = record { filter = c.index_mut.result.now.filter; end = c.in-Some.end } in
    let at = get-at old.wanted.items n w c.requires c.index.ensures in
    let also : c.index_mut.result.now ≡ w = read_at old.wanted.items n c.index_mut.result.now w c.requires c.index_mut.ensures.value at in
    let is : w.end ≡ c.args.place = search rules in
    let end : c.in-Some.end ≡ c.args.place + 1 = search rules in
    sought_listed old (record old { wanted = with_item old.wanted n v; by_number = c.insert.new.self }) n w v at (set_is old.wanted.items n v c.requires) (ap asked_by also) objects knows c.args.place c.in_default-insert.ensures.keys is end
