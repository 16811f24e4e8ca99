use Rattle.std.proofs.Common.{ℤ, ◌∷◌, ◌++◌, [], refl, subst, ◌∙◌, rules}
use mir.Val.{SFits}
use mir.Syntax.{w32}
use Rattle.std.proofs.lemmas.Int.{to_z-of_z}
use Rattle.kmipa_record.specs.Marks.{ends}
use Rattle.kmipa_stream.specs.Waiting.{Wait}
use Rattle.kmipa_stream.proofs.StandingLemmas.{stands_on}
use Rattle.kmipa_stream.proofs.auditor.Auditor.note_end.Goals as goal

pub returns : goal.returns
returns c = λ marks turns declared s r.
    let a = c.args.self.now in
    let fits : SFits w32 c.args.end.call = search rules in
    let P : ℤ → Type 0 = λ z. Wait (marks ++ ends z c.args.end.message.items ∷ []) turns a.replay.formed c.push.new.self in
    stands_on marks (ends c.args.end.call c.args.end.message.items) turns declared a _ s (c.in_ok-end.ensures.seen marks s.seen r) c.in_ok-end.ensures.kept
    (subst P (to_z-of_z w32 c.args.end.call fits) (c.in_ok-push.ensures marks turns a.replay.formed c.args.end.message.items s.ends (c.count.ensures ∙ s.seen.count))) refl refl
