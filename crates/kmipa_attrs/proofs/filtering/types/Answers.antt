use Rattle.std.proofs.Common.{◌∙◌}
use Rattle.kmipa_attrs.specs.Readings.{both}
use Rattle.kmipa_attrs.specs.Attributes.{attr_number}
use Rattle.kmipa_attrs.proofs.filtering.types.Goals as goal

pub returns : goal.returns
returns c =
    c.both-5.ensures
    ∙ (λ i. both attr_number
    ((c.both.ensures ∙ (λ j. both attr_number (c.types_of.ensures j) (c.types_of-2.ensures j))) i)
    ((c.both-4.ensures ∙ (λ k. both attr_number
    ((c.both-2.ensures ∙ (λ j. both attr_number (c.types_of-3.ensures j) (c.types_of-4.ensures j))) k)
    ((c.both-3.ensures ∙ (λ j. both attr_number (c.types_of-5.ensures j) (c.types_of-6.ensures j))) k))) i))
