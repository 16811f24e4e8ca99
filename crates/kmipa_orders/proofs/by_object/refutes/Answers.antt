use Rattle.std.proofs.Common.{ℕ, IfSome, List, Option, Vec, map, sym, subst}
use Rattle.std.specs.declared.alloc.Global.{Global}
use Rattle.kmipa_check.specs.Calls.{call_of}
use Rattle.kmipa_record.specs.Declarations.{declaration_of}
use Rattle.kmipa_msgs.specs.Messages.{lent}
use Rattle.kmipa_parts.specs.Parts.{is_among}
use Rattle.kmipa_orders.specs.ByObject.{AreCallParts, RefutesCalls, part_step}
use Rattle.kmipa_orders.specs.declared.by_object.CallPart.{CallPart}
use Rattle.kmipa_orders.proofs.RefutedLemmas.{orderly_call_parts}
use Rattle.kmipa_orders.proofs.by_object.refutes.Goals as goal

pub returns-then-looked : goal.returns-then-looked
returns-then-looked c = λ marks r are.
    let own = is_among (map lent c.args.ids.now) in
    let calls = map call_of c.args.calls.now in
    let parts = map part_step c.deref.result.now in
    let P : List CallPart → Type 0 = λ ps. AreCallParts own calls (map part_step ps) in
    let M : Option (Vec CallPart Global) → Type 0 = λ o. IfSome o (λ v. AreCallParts own calls (map part_step v.items)) in
    let R : List (List ℕ) → Type 0 = λ ids. RefutesCalls (declaration_of c.args.declaration.now) calls ids in
    let a : AreCallParts own calls parts = subst P (sym c.deref.ensures.value) (subst M c.in-Some.is c.in_ok-parts.ensures) in
    subst R (sym c.in_ok-copied.ensures) (record {
      parts = parts;
      of_calls = a;
      none = c.in_ok-looked.ensures (orderly_call_parts own calls parts (c.check_laws.ensures.timed marks calls r are) a) c.if-looked.true;
    })
