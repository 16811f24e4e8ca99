use Rattle.std.proofs.Common.{◌≡◌, ◌∙◌, None, length, refl, sym}
use Rattle.std.specs.Vec.{with_item}
use Rattle.kmipa_store.specs.Slots.{holder}
use Rattle.kmipa_store.proofs.SlotLemmas.{Puts, itself_not_before, none_before, put_keeps, puts_at, remove_keeps, stands_at}
use Rattle.kmipa_store.proofs.slots.Slots.forget.Goals as goal

pub returns-else-stands_there : goal.returns-else-stands_there
returns-else-stands_there c = remove_keeps c.args.self.now (record c.args.self.now { by_hash = c.remove.new.self }) c.id_hash.result c.args.place refl c.remove.ensures.keys

pub returns-then-stands_there : goal.returns-then-stands_there
returns-then-stands_there c =
    let old = c.args.self.now in
    let id = c.args.id.now in
    let slot = c.slot_of-slot in
    let new = record old { places = with_item old.places slot.result None } in
    let long : c.len.result ≡ length old.places.items = c.len.ensures ∙ old.places.ok.0 in
    let stands : holder old id ≡ c.index.result.now = stands_at old id slot.result c.len.result c.index.result.now long slot.ensures.slot slot.ensures.within c.index.ensures in
    let puts : Puts old id None new = puts_at old new id slot.result c.len.result None long slot.ensures.slot refl refl in
    put_keeps old new id c.args.place None puts
    (none_before c.index.result.now c.args.place (itself_not_before c.index.result.now c.args.place (c.stands_there.ensures.0 c.if-stands_there.true)) old id (sym stands))
