use Rattle.std.proofs.Common.{map}
use Rattle.kmipa_check.proofs.CheckLemmas.{calls_once}
use Rattle.kmipa_check.proofs.OnceLemmas.{once_pairs}
use Rattle.kmipa_check.proofs.WholeOrderLemmas.{number_of, one_order_lem}
use Rattle.kmipa_check.proofs.laws.one_order.Goals as goal

pub returns : goal.returns
returns c = λ g marks calls turns steps others r are o p. one_order_lem g calls turns steps others (once_pairs (map number_of calls) (calls_once marks calls r are)) o p
