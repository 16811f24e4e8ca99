use Rattle.std.proofs.Common.{inr, ℤ, List, None, refl, ap, subst, rules}
use mir.Val.{SFits}
use mir.Syntax.{w32}
use Rattle.std.proofs.lemmas.Int.{to_z-of_z}
use Rattle.kmipa_msgs.specs.Messages.{lent}
use Rattle.kmipa_passed.specs.Leaving.{aside_of}
use Rattle.kmipa_places.specs.Calls.{unread}
use Rattle.kmipa_places.specs.Counting.{unread_counts_of}
use Rattle.kmipa_turns.specs.Steps.{MaySetAside, leaves}
use Rattle.kmipa_turns.proofs.StepLemmas.{made}
use Rattle.kmipa_turns.proofs.unreadable.unread_step.Goals as goal

pub returns-then-not-may_set_aside : goal.returns-then-not-may_set_aside
returns-then-not-may_set_aside c =
    let call = unread (aside_of c.args.left) in
    let A : List ℤ → Type 0 = λ zs. MaySetAside call zs → ⊥ in
    inr (c.in_default.ensures, subst A c.deref.ensures.value (c.if-not-may_set_aside.ensures call refl), refl)

pub returns : goal.returns
returns c =
    let call = unread (aside_of c.args.left) in
    let number : SFits w32 c.args.call.now.number = search rules in
    let A : List ℤ → Type 0 = λ zs. MaySetAside call zs in
    record {
      nothing = c.in_default.ensures;
      aside = subst A c.deref.ensures.value (c.if-not-may_set_aside.ensures call refl);
      counts = unread_counts_of c.in_ok-counts.counts;
      counted = c.in_ok-counts.ensures;
      excepted = c.in_ok-excepted.excepted;
      is_excepted = c.in_ok-excepted.ensures;
      is = ap (λ (n : ℤ). made n (lent c.args.call.now.client) c.args.call.now.begin c.args.call.now.end None (leaves (aside_of c.args.left) (unread_counts_of c.in_ok-counts.counts)) c.in_ok-excepted.excepted)
          (to_z-of_z w32 c.args.call.now.number number);
    }
