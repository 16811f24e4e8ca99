use Rattle.kmipa_store.proofs.SoundLemmas.{inventory_of}
use Rattle.kmipa_store.proofs.laws.every_choice_gives_an_inventory.Goals as goal

pub returns : goal.returns
returns c = inventory_of
