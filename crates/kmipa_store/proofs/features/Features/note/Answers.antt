-- proofs/features/Features/note/Answers.antt
use Rattle.std.proofs.Common.{rules, ◌≡◌, true}
use Rattle.kmipa_store.proofs.FeatureLemmas.{noted_put}
use Rattle.kmipa_store.proofs.features.Features.note.Goals as goal

pub returns-in_default : goal.returns-in_default
returns-in_default c =
    let known : c.args.self.now.is_known ≡ true = search rules in
    noted_put c.args.self.now _ c.code.result c.args.place c.args.feature c.code.ensures known c.in_default.ensures.keys
