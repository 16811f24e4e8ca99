use Rattle.std.proofs.Common.{List, ℕ, length, sym, subst, arith, take_all}
use Rattle.kmipa_ttlv.specs.Spelling.{Spells}
use Rattle.kmipa_runs.proofs.message.message_of.Goals as goal

pub returns-in-Err : goal.returns-in-Err
returns-in-Err c = λ m are.
    let bytes : List ℕ = c.args.bytes.now in
    c.in-Err.ensures.only m (length bytes) (omega arith) (subst (Spells m) (sym (take_all (length bytes) bytes (omega arith))) are.spelled)
