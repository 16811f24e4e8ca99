use Rattle.std.specs.Prelude.{MatchOption}
use Rattle.std.proofs.Common.{Option, subst}
use Rattle.kmipa_msgs.specs.Messages.{answer_of, ask_of}
use Rattle.kmipa_explain.specs.Echoes.{Differs, IsEcho, id_repeated}
use Rattle.kmipa_explain.specs.Meant.{text_of}
use Rattle.kmipa_explain.specs.declared.held.EchoHeld.{EchoHeld}
use Rattle.kmipa_explain.proofs.EchoLemmas.{none_differs}
use Rattle.kmipa_explain.proofs.echoes.echo_cause.Goals as goal

pub returns-in-Some : goal.returns-in-Some
returns-in-Some c =
    let meant = text_of c.args.meant.now in
    let ask = ask_of c.args.ask.now in
    let answer = answer_of c.args.answer.now in
    let P : Option EchoHeld → Type 0 = λ o. MatchOption o (Differs ask.batch_id answer.batch_id → ⊥) (IsEcho meant ask answer) in
    subst P c.in-Some.is (c.in_ok-echo.ensures meant)

pub returns-in-Some-2 : goal.returns-in-Some-2
returns-in-Some-2 c =
    let meant = text_of c.args.meant.now in
    let ask = ask_of c.args.ask.now in
    let answer = answer_of c.args.answer.now in
    let P : Option EchoHeld → Type 0 = λ o. MatchOption o (Differs meant (id_repeated answer.payload) → ⊥) (IsEcho meant ask answer) in
    subst P c.in-Some-2.is (c.in_ok-echo-2.ensures ask)

pub returns-in-None : goal.returns-in-None
returns-in-None c =
    let meant = text_of c.args.meant.now in
    let ask = ask_of c.args.ask.now in
    let answer = answer_of c.args.answer.now in
    let P : Option EchoHeld → Type 0 = λ o. MatchOption o (Differs ask.batch_id answer.batch_id → ⊥) (IsEcho meant ask answer) in
    let Q : Option EchoHeld → Type 0 = λ o. MatchOption o (Differs meant (id_repeated answer.payload) → ⊥) (IsEcho meant ask answer) in
    none_differs meant ask answer (subst P c.in_default.is (c.in_ok-echo.ensures meant)) (subst Q c.in_default-2.is (c.in_ok-echo-2.ensures ask)) (c.in-None.ensures meant) c.requires
