use Rattle.std.proofs.Common.{◌∙◌, ap, refl, Some, List}
use Rattle.kmipa_object.proofs.ListLemmas.{map-set}
use Rattle.kmipa_store.specs.Ledger.{Known, told}
use Rattle.kmipa_store.specs.Secrets.{known_of}
use Rattle.kmipa_store.proofs.secrets.Secrets.tell.Goals as goal

pub returns : goal.returns
returns c =
    let s = c.index_mut-secret.result.now in
    map-set known_of (λ (k : Known). record { rule = k.rule; bytes = Some c.args.bytes.items }) c.self.inside.by_number.items c.args.number s (record { rule = s.rule; bytes = Some c.args.bytes }) c.index_mut-secret.ensures.value refl
    ∙ ap (λ (ks : List Known). told ks c.args.number c.args.bytes.items) c.self.view_is
