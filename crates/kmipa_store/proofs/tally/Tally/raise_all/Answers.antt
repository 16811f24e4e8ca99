use Rattle.std.proofs.Common.{List, ℕ, map, option_map, ap, sym, ◌∙◌, subst, add-one}
use Rattle.kmipa_attrs.specs.Sets.{name_of}
use Rattle.kmipa_object.proofs.ListLemmas.{get-at, get-map}
use Rattle.kmipa_store.specs.Hashes.{name_hash}
use Rattle.kmipa_store.proofs.TallyLemmas.{Raising, raising_on}
use Rattle.kmipa_store.proofs.tally.Tally.raise_all.Goals as goal

pub loop-i-preserved : goal.loop-i-preserved
loop-i-preserved c =
    let l = c.loop-i in
    let name = c.index-names-i.result in
    let ns = map name_of c.args.names.now in
    subst (λ (n : ℕ). Raising c.args.self.now ns n c.raise.new.self) (sym (add-one l.i))
    (raising_on c.args.self.now l.self c.raise.new.self ns l.i c.name_hash-hash.result (name_of name)
    (get-map name_of c.args.names.now l.i ∙ ap (option_map name_of) (get-at c.args.names.now l.i name c.loop-i-test.true c.index-names-i.is))
    (c.name_hash-hash.ensures ∙ ap (λ (v : List ℕ). name_hash v name.kind) c.as_str.ensures.value) l.invariant c.raise.ensures)
