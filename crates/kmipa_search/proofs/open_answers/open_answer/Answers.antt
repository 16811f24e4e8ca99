use Rattle.std.proofs.Common.{◌∙◌, ap, sym, length}
use Rattle.kmipa_search.proofs.open_answers.open_answer.Goals as goal

pub back-requires : goal.back-requires
back-requires g c = c.in-Ok.ensures.meaning.0 ∙ ap length (sym c.sights_of-seen.ensures.marks)
