use Rattle.std.proofs.Common.{List, ℕ, ◌∙◌, map, option_map, ap, arith}
use Rattle.kmipa_attrs.specs.Sets.{name_of}
use Rattle.kmipa_object.proofs.ListLemmas.{get-at, get-map}
use Rattle.kmipa_store.specs.Hashes.{name_hash}
use Rattle.kmipa_store.proofs.NameLemmas.{length-map, listing_all, listing_more}
use Rattle.kmipa_store.proofs.names.Names.note.Goals as goal

pub loop-slot-preserved : goal.loop-slot-preserved
loop-slot-preserved c =
    let name = c.index-names-slot.result in
    listing_more c.args.self.now c.loop-slot.self _ c.args.place (map name_of c.args.names.now) c.loop-slot.slot c.name_hash-hash.result (name_of name) c.loop-slot.invariant
    (get-map name_of c.args.names.now c.loop-slot.slot ∙ ap (option_map name_of) (get-at c.args.names.now c.loop-slot.slot name c.loop-slot-test.true c.index-names-slot.is))
    (c.name_hash-hash.ensures ∙ ap (λ (v : List ℕ). name_hash v name.kind) c.as_str.ensures.value) c.in_ok-insert.ensures.keys

pub returns : goal.returns
returns c =
    listing_all c.args.self.now c.loop-slot.self c.args.place (map name_of c.args.names.now) c.loop-slot.slot c.loop-slot.invariant (omega (arith, length-map name_of c.args.names.now, c.loop-slot-test.false))
