use Rattle.std.proofs.Common.{◌∙◌, List, ap}
use Rattle.kmipa_record.specs.Declarations.{declaration_of}
use Rattle.kmipa_explain.specs.Items.{ItemOf}
use Rattle.kmipa_explain.specs.Reading.{seen_item, seen_subject}
use Rattle.kmipa_explain.specs.Sources.{whence_among}
use Rattle.kmipa_explain.proofs.AheadLemmas.{map_take}
use Rattle.kmipa_explain.proofs.sources.whence_in.Goals as goal

pub returns : goal.returns
returns c =
    c.whence_among.ensures
    ∙ ap (λ (xs : List ItemOf). whence_among (declaration_of c.args.declaration.now) c.args.refused.turn xs (seen_subject c.args.subject.now))
    (map_take seen_item c.count_ahead.result c.args.items.now ∙ c.count_ahead.ensures.ahead)
