use Rattle.std.proofs.Common.{◌≡◌, ◌<◌, ◌∙◌, ℕ, Some, length, ap, refl, sym, arith}
use Rattle.std.specs.Vec.{with_item}
use Rattle.kmipa_store.specs.Slots.{holder}
use Rattle.kmipa_store.proofs.SlotLemmas.{Puts, before_is, insert_keeps, none_before, noted_by_hash, noted_in_slot, put_keeps, put_stands, puts_at, stands_at}
use Rattle.kmipa_store.proofs.slots.Slots.note.Goals as goal

pub returns-then-is_before : goal.returns-then-is_before
returns-then-is_before c =
    let old = c.args.self.now in
    let new = record old { by_hash = c.insert.new.self } in
    let id = c.args.id.now in
    let slot = c.slot_of-slot in
    let stands : holder old id ≡ c.index.result.now = stands_at old id slot.result c.len.result c.index.result.now (c.len.ensures ∙ old.places.ok.0) slot.ensures.slot slot.ensures.within c.index.ensures in
    let first = before_is c.index.result.now c.args.place (sym c.is_before.ensures ∙ c.if-is_before.true) in (
      insert_keeps old new c.id_hash.result c.args.place refl c.in_ok-insert.ensures.keys,
      noted_by_hash old new id c.id_hash.result c.args.place first.0 (stands ∙ first.1) first.2 c.id_hash.ensures refl c.in_ok-insert.ensures.keys,
    )

pub returns : goal.returns
returns c =
    let old = c.args.self.now in
    let id = c.args.id.now in
    let slot = c.slot_of-slot in
    let place = c.args.place in
    let short = c.in-Ok.short in
    let same : short ≡ place = c.in-Ok.ensures.1 in
    let new = record old { places = with_item old.places slot.result (Some short) } in
    let long : c.len.result ≡ length old.places.items = c.len.ensures ∙ old.places.ok.0 in
    let within : slot.result < c.len.result = slot.ensures.within in
    let stands : holder old id ≡ c.index.result.now = stands_at old id slot.result c.len.result c.index.result.now long slot.ensures.slot within c.index.ensures in
    let puts : Puts old id (Some short) new = puts_at old new id slot.result c.len.result (Some short) long slot.ensures.slot refl refl in
    let put : holder new id ≡ Some short = put_stands old new id (Some short) (omega (arith, within, long)) puts in (
      put_keeps old new id place (Some short) puts (none_before c.index.result.now place (sym c.is_before.ensures ∙ c.if-is_before.false) old id (sym stands)),
      noted_in_slot new id place (put ∙ ap (λ (n : ℕ). Some n) same),
    )
