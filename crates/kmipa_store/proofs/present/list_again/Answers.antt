use Rattle.kmipa_store.proofs.present.list_again.Goals as goal

pub returns-in-Ok : goal.returns-in-Ok
returns-in-Ok c = λ e. (e, c.in-Ok.ensures.0, c.in-Ok.ensures.1)
