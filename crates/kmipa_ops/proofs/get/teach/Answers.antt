use Rattle.std.proofs.Common.{◌∙◌, Some, ap, option_map}
use Rattle.kmipa_store.specs.Ledger.{held}
use Rattle.kmipa_store.proofs.SoundLemmas.{number_below}
use Rattle.kmipa_ops.proofs.MeantLemmas.{taught_known}
use Rattle.kmipa_ops.proofs.get.teach.Goals as goal

pub secret-requires : goal.secret-requires
secret-requires g c = number_below (g.L.Ledger.state c.args.ledger.now).now c.in-Some.place (held c.at.result.now) c.in-Secret.secret c.requires.sound c.at.ensures c.in-Secret.is

pub learn-requires : goal.learn-requires
learn-requires g c = number_below (g.L.Ledger.state c.args.ledger.now).now c.in-Some.place (held c.at.result.now) c.in-Secret.secret c.requires.sound c.at.ensures c.in-Secret.is

pub returns-in-Some-secret : goal.returns-in-Some-secret
returns-in-Some-secret g c =
    taught_known (g.L.Ledger.state c.args.ledger.now) c.args.place c.in-Some.place (held c.at.result.now) c.in-Secret.secret c.args.bytes.now c.in-Some-secret._known.now c.in-Some.is c.at.ensures c.in-Secret.is
    (c.secret.ensures ∙ ap (λ k. Some (option_map (λ bytes. bytes.now) k)) c.in-Some-secret.is) c.requires.same
