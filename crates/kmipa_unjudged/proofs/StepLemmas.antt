-- What following a step comes to, by what taking its call does.
use Rattle.std.proofs.Common.{◌≡◌, ℕ, pos, List, Option}
use Rattle.kmipa_store.specs.Ledger.{LedgerState}
use Rattle.kmipa_msgs.specs.Messages.{RulesOf}
use Rattle.kmipa_passed.specs.Leaving.{AsideOf as LeftOf, empty}
use Rattle.kmipa_aside.specs.Explains.{Took}
use Rattle.kmipa_aside.specs.Passed.{DoesUnread}
use Rattle.kmipa_aside.specs.Taking.{NoBytes}
use Rattle.kmipa_bundle.specs.Bundles.{DoesRead}
use Rattle.kmipa_bundle.specs.Composing.{DoesDeed, TellsDeed, call, unread}
use Rattle.kmipa_bundle.specs.Deeds.{TellsSome}
use Rattle.kmipa_bundle.specs.Refusals.{TellsPlace}
use Rattle.kmipa_places.specs.Calls.{ReadOf}

-- what is left by a call that can't be read
pub took_left : (rules : RulesOf) (s u : LedgerState) (left : LeftOf) → Took (DoesUnread (pos 0) left) NoBytes s empty u empty
    → Took (DoesDeed rules (unread (pos 0) left)) (TellsDeed (unread (pos 0) left)) s empty u empty
took_left rules s u left t = record {
  explains = record {
    sound = t.explains.sound;
    complete = t.explains.complete;
    learns = t.explains.learns;
    grows = t.explains.grows;
    extends = t.explains.extends;
    apart = t.explains.apart;
  };
  sound = t.sound;
  marks = t.marks;
}

-- what a call does that can be read
pub took_read : (rules : RulesOf) (s u : LedgerState) (c : ReadOf) (order : Option (List ℕ)) → Took (DoesRead rules c order) (TellsSome TellsPlace c.places) s empty u empty
    → Took (DoesDeed rules (call c order)) (TellsDeed (call c order)) s empty u empty
took_read rules s u c order t = record {
  explains = record {
    sound = t.explains.sound;
    complete = t.explains.complete;
    learns = t.explains.learns;
    grows = t.explains.grows;
    extends = t.explains.extends;
    apart = t.explains.apart;
  };
  sound = t.sound;
  marks = t.marks;
}
