use Rattle.kmipa_check.proofs.LeftLemmas.{is_left_lem}
use Rattle.kmipa_check.proofs.laws.ledger_is_left.Goals as goal

pub returns : goal.returns
returns c = λ declared steps m sound known. is_left_lem declared m sound steps known
