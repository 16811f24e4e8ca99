use Rattle.kmipa_record.specs.Declarations.{declaration_of}
use Rattle.kmipa_record.specs.Witnesses.{witness_of}
use Rattle.kmipa_orders.proofs.AnswerLemmas.{not_refused, reported_memory}
use Rattle.kmipa_search.proofs.searching.confirm.Goals as goal

pub returns-in-Ok-No : goal.returns-in-Ok-No
returns-in-Ok-No c = λ marks r are a.
    not_refused marks (declaration_of c.args.declaration.now) (witness_of c.args.witness) c.check_calls.result c.check_laws.ensures r a (c.check_calls.ensures marks r are)
    (λ e. let x = c.in-Ok-No.is in let y = c.in-Ok-No.field-0-is in cc) (λ e. let x = c.in-Ok-No.is in cc)

pub returns-in-Err : goal.returns-in-Err
returns-in-Err c = λ marks r are a.
    reported_memory marks (declaration_of c.args.declaration.now) (witness_of c.args.witness) c.check_calls.result c.in-Err.fault c.args.witness c.args.steps c.unconfirmed.result
    c.check_laws.ensures r a (c.check_calls.ensures marks r are) c.in-Err.is c.unconfirmed.ensures.memory
