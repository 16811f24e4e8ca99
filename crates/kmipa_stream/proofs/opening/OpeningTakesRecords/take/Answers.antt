use Rattle.std.proofs.Common.{Result, sym, ap, ◌∙◌, subst}
use Rattle.std.specs.Result.{MatchResult}
use Rattle.kmipa_record.specs.DeclarationRecords.{RecordOf, aside}
use Rattle.kmipa_record.specs.Declarations.{DeclarationOf, MayFollow, with_record}
use Rattle.kmipa_record.specs.Taking.{Refuses, record_of}
use Rattle.kmipa_stream.specs.Opening.{Opens}
use Rattle.kmipa_stream.proofs.opening.OpeningTakesRecords.take.Goals as goal

pub returns-in-Aside : goal.returns-in-Aside
returns-in-Aside c =
    let P : RecordOf → Type 0 = λ r. (declared : DeclarationOf) → Opens c.args.self.now declared
    → MatchResult c.take_aside.result (λ x. MayFollow declared r × Opens c.take_aside.new.self (with_record declared r)) (Refuses declared r) in
    subst P (ap aside c.as_str.ensures.value ∙ sym (ap record_of c.in-Aside.is)) c.take_aside.ensures
