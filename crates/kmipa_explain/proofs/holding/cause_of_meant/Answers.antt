use Rattle.std.proofs.Common.{subst, sym}
use Rattle.kmipa_msgs.specs.Messages.{answer_of, ask_of}
use Rattle.kmipa_record.specs.Declarations.{declaration_of}
use Rattle.kmipa_ops.specs.declared.why.Why.{Why}
use Rattle.kmipa_explain.specs.Holding.{TellsHeld}
use Rattle.kmipa_explain.specs.Meant.{text_of}
use Rattle.kmipa_explain.specs.Reasoned.{HeldReason}
use Rattle.kmipa_explain.proofs.holding.cause_of_meant.Goals as goal

pub returns-in-IdentifierTaken : goal.returns-in-IdentifierTaken
returns-in-IdentifierTaken c =
    let held = declaration_of c.args.held.now in
    let ask = ask_of c.args.refused.ask.now in
    let answer = answer_of c.args.refused.answer.now in
    let P : Why → Type 0 = λ why. HeldReason why held (text_of c.args.meant) c.args.refused.t ask answer in
    let Q : Why → Type 0 = λ why. TellsHeld why held (text_of c.args.meant) c.args.refused.t ask answer c.identifier_cause.result in
    let r = subst P c.in-IdentifierTaken.is c.requires in
    subst Q (sym c.in-IdentifierTaken.is) (c.identifier_cause.ensures held ask.asked r.0 r.1)
