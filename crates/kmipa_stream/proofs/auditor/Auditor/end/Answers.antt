use Rattle.std.proofs.Common.{◌∷◌, ◌++◌, []}
use Rattle.kmipa_record.specs.Marks.{ends}
use Rattle.kmipa_stream.proofs.auditor.Auditor.end.Goals as goal

pub catch_up-requires : goal.catch_up-requires
catch_up-requires c =
    let k = c.requires in
    record {
      marks = k.marks ++ ends c.args.end.call c.args.end.message.items ∷ [];
      turns = k.turns;
      declared = k.declared;
      stands = c.in_ok-note_end.ensures k.marks k.turns k.declared k.stands k.recorded;
    }

pub returns-then-is_some : goal.returns-then-is_some
returns-then-is_some c = λ marks turns declared s r.
    c.in_ok-catch_up.ensures.stands (marks ++ ends c.args.end.call c.args.end.message.items ∷ []) turns declared (c.in_ok-note_end.ensures marks turns declared s r)

pub returns-in_ok-read-in-Some : goal.returns-in_ok-read-in-Some
returns-in_ok-read-in-Some c = λ marks turns declared s r.
    c.in_ok-read-in-Some.ensures.stands (marks ++ ends c.args.end.call c.args.end.message.items ∷ []) turns declared
    (c.in_ok-catch_up.ensures.stands (marks ++ ends c.args.end.call c.args.end.message.items ∷ []) turns declared (c.in_ok-note_end.ensures marks turns declared s r))

pub returns-in-None : goal.returns-in-None
returns-in-None c = λ marks turns declared s r.
    c.in_ok-catch_up.ensures.stands (marks ++ ends c.args.end.call c.args.end.message.items ∷ []) turns declared (c.in_ok-note_end.ensures marks turns declared s r)
