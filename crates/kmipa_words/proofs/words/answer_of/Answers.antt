use Rattle.kmipa_words.proofs.words.answer_of.Goals as goal

pub returns : goal.returns
returns c = (c.form_of.ensures, c.segment_of.ensures, c.seals_of.ensures)
