use Rattle.std.proofs.Common.{Option, OnOk, sym, subst}
use Rattle.std.proofs.lemmas.Result.{on_ok_weaker}
use Rattle.kmipa_json.specs.Told.{members_of}
use Rattle.kmipa_explain.specs.declared.explanation.Explanation.{Explanation}
use Rattle.kmipa_telling.specs.Claims.{TellsMeaning}
use Rattle.kmipa_telling.proofs.claims.tell_meaning.Goals as goal

pub returns-in_ok-claims_object-in-Some : goal.returns-in_ok-claims_object-in-Some
returns-in_ok-claims_object-in-Some c =
    let inner = members_of c.in_ok-claims_object-in-Some.field-0 in
    let P : Option Explanation → Type 0 = λ e. OnOk c.put_object.result (TellsMeaning e (members_of c.args.told.now) (members_of c.put_object.new.self)) in
    subst P (sym c.in-Some.is) (on_ok_weaker c.put_object.result (λ e. (inner, c.in_ok-claims_object-in-Some.ensures, e)) c.put_object.ensures.ok)
