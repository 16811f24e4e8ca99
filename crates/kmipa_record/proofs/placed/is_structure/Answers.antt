use Rattle.kmipa_record.proofs.WritingLemmas.{other_structure}
use Rattle.kmipa_record.proofs.placed.is_structure.Goals as goal

pub returns-then-item-tag : goal.returns-then-item-tag
returns-then-item-tag c = (λ t. absurd cc, λ s. absurd (other_structure c.args.item.now c.args.tag c.if-item-tag.true s))
