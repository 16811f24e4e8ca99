use Rattle.std.proofs.Common.{◌≡◌, ◌≤◌, ap, refl, arith}
use Rattle.std.specs.Vec.{with_item}
use Rattle.kmipa_store.specs.Sought.{asked_by}
use Rattle.kmipa_store.specs.declared.sought.Wanted.{Wanted}
use Rattle.kmipa_store.proofs.ClockLemmas.{set_is}
use Rattle.kmipa_store.proofs.SoughtLemmas.{read_at, sought_extended}
use Rattle.kmipa_store.proofs.sought.Sought.extend.Goals as goal

pub returns : goal.returns
returns c = λ w objects at long lack knows.
    let old = c.args.self.now in
    let n = c.args.number in
    let v : Wanted = record { filter = c.index_mut.result.now.filter; end = c.args.to } in
    let is : c.index.result.now ≡ w = read_at old.wanted.items n c.index.result.now w c.requires c.index.ensures at in
    let also : c.index_mut.result.now ≡ w = read_at old.wanted.items n c.index_mut.result.now w c.requires c.index_mut.ensures.value at in
    let le : c.args.from ≤ w.end = let h = c.if-end-from.false in let e = ap (λ (x : Wanted). x.end) is in omega (arith, h, e) in
    sought_extended old (record old { wanted = with_item old.wanted n v }) n w v at (set_is old.wanted.items n v c.requires) (ap asked_by also) objects knows c.args.from refl le long lack
