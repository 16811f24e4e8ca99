use Rattle.std.proofs.Common.{◌∙◌, ap}
use Rattle.kmipa_store.specs.Secrets.{forgotten}
use Rattle.kmipa_store.specs.Histories.{while_marked}
use Rattle.kmipa_store.specs.declared.changes.SecretChange.TheVariants.{Learned}
use Rattle.kmipa_store.proofs.ChangeLemmas.{told_back}
use Rattle.kmipa_store.proofs.changes.tell_secret.Goals as goal

pub returns : goal.returns
returns c = (
  c.tell.ensures,
  record {
    change = Learned c.args.number;
    written = c.forget_unmarked.ensures ∙ ap (while_marked c.args.places.now.items) c.in_ok-push.ensures.items;
    back = ap (λ ks. forgotten ks c.args.number) c.tell.ensures ∙ told_back c.args.secrets.now c.args.number c.args.bytes.items c.requires.unknown;
  },
)
