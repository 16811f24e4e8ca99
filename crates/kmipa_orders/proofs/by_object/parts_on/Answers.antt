use Rattle.std.proofs.Common.{◌+◌, IfSome, Option, Some, Vec, map, take, refl, sym, subst, arith}
use Rattle.std.specs.declared.alloc.Global.{Global}
use Rattle.kmipa_check.specs.Calls.{call_of}
use Rattle.kmipa_msgs.specs.Messages.{lent}
use Rattle.kmipa_parts.specs.Parts.{is_among}
use Rattle.kmipa_orders.specs.ByObject.{AreCallParts, IsCallPart, part_step}
use Rattle.kmipa_orders.specs.declared.by_object.CallPart.{CallPart}
use Rattle.kmipa_orders.proofs.RefutedLemmas.{part_so_far, passed_so_far}
use Rattle.kmipa_orders.proofs.by_object.parts_on.Goals as goal
use Rattle.kmipa_orders.proofs.by_object.parts_on.Goals.{then-next-places+then-places-next+in_ok-part+in-Some+in_ok-push, else-next-places+else-not-is_elsewhere}

pub calls-preserved : goal.calls-preserved
calls-preserved c =
    let own = is_among (map lent c.args.ids.now) in
    let calls = c.args.calls.now in
    let at = c.calls.at in
    let call = c.index-calls-at.result in
    let P : Vec CallPart Global → Type 0 = λ v. AreCallParts own (map call_of (take (at + 1) calls)) (map part_step v.items) in
    let M : Option CallPart → Type 0 = λ o. IfSome o (λ p. IsCallPart own (call_of call) (Some (part_step p))) in (
      omega (arith, c.calls-test.true),
      elim c.if-next-places.branch [
        | then-next-places+then-places-next+in_ok-part+in-Some+in_ok-push w ↦
            subst P (sym w.parts-is)
            (part_so_far own calls at call c.calls-test.true c.index-calls-at.is c.calls.parts.items w.push.new.self.items w.in-Some.part w.in_ok-push.ensures.items c.calls.invariant.1 (subst M w.in-Some.is w.in_ok-part.ensures))
        | else-next-places+else-not-is_elsewhere w ↦
            subst P (sym w.parts-is)
            (passed_so_far own calls at call c.calls-test.true c.index-calls-at.is (map part_step c.calls.parts.items) c.calls.invariant.1 (w.if-not-is_elsewhere.ensures refl))
      ],
    )
