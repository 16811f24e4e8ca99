use Rattle.std.proofs.Common.{◌∙◌}
use Rattle.kmipa_attrs.specs.Readings.{both}
use Rattle.kmipa_attrs.specs.Attributes.{attr_number}
use Rattle.kmipa_attrs.proofs.filtering.judged.Goals as goal

pub returns : goal.returns
returns c =
    c.both-3.ensures
    ∙ (λ i. both attr_number
    ((c.both.ensures ∙ (λ j. both attr_number (c.first_of.ensures j) (c.first_of-2.ensures j))) i)
    ((c.both-2.ensures ∙ (λ j. both attr_number (c.first_of-3.ensures j) (c.first_of-4.ensures j))) i))
