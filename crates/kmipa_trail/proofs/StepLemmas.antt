-- What taking a step comes to, by what taking its call does.
use Rattle.std.proofs.Common.{◌≡◌, ◌∙◌, ℕ, pos, Bool, true, false, List, Option, Result, Ok, Err, refl, sym, ap}
use Rattle.kmipa_object.specs.Inventory.{Card}
use Rattle.kmipa_store.specs.Ledger.{Meaning, LedgerState}
use Rattle.kmipa_store.specs.Choices.{Choice, Chooses}
use Rattle.kmipa_store.proofs.InventoryLemmas.{cards-inv}
use Rattle.kmipa_msgs.specs.Messages.{RulesOf}
use Rattle.kmipa_batch.specs.Orders.{order_given}
use Rattle.kmipa_batch.specs.declared.refusal.CallRefusal.{CallRefusal}
use Rattle.kmipa_batch.specs.declared.refusal.CallRefusal.TheVariants as refusal
use Rattle.kmipa_passed.specs.Leaving.{AsideOf as LeftOf, HeldOf, empty}
use Rattle.kmipa_aside.specs.Explains.{Took, world}
use Rattle.kmipa_aside.specs.Passed.{DoesUnread}
use Rattle.kmipa_aside.specs.Becoming.{stand_in}
use Rattle.kmipa_aside.specs.Standing.{StandOf}
use Rattle.kmipa_aside.specs.Taking.{NoBytes}
use Rattle.kmipa_aside.specs.Worlds.{stand}
use Rattle.kmipa_bundle.specs.Bundles.{DoesRead}
use Rattle.kmipa_bundle.specs.Composing.{DoesDeed, TellsDeed, call, unread}
use Rattle.kmipa_bundle.specs.Counts.{CallCounted, CountsBy, CountsOf, counts_first, counts_of}
use Rattle.kmipa_bundle.specs.Deeds.{TellsSome}
use Rattle.kmipa_bundle.specs.Refusals.{CallTaken, TellsPlace}
use Rattle.kmipa_bundle.specs.declared.counts.Counts.{Counts}
use Rattle.kmipa_places.specs.Calls.{ReadOf}
use Rattle.kmipa_places.specs.Counting.{UnreadCountsOf}
use Rattle.kmipa_turns.specs.Steps.{leaves, takes}
use Rattle.kmipa_trail.specs.Replays.{StepTaken}
use Rattle.kmipa_trail.specs.Tallies.{CountsRead, counts_unread}

-- what is left by a call that can't be read
took_left : (rules : RulesOf) (s u : LedgerState) (left : LeftOf) → Took (DoesUnread (pos 0) left) NoBytes s empty u empty
    → Took (DoesDeed rules (unread (pos 0) left)) (TellsDeed (unread (pos 0) left)) s empty u empty
took_left rules s u left t = record {
  explains = record {
    sound = t.explains.sound;
    complete = t.explains.complete;
    learns = t.explains.learns;
    grows = t.explains.grows;
    extends = t.explains.extends;
    apart = t.explains.apart;
  };
  sound = t.sound;
  marks = t.marks;
}

pub left_taken : (rules : RulesOf) (s u : LedgerState) (left : LeftOf) (n : UnreadCountsOf) (k : Counts) → ((before : HeldOf) → Took (DoesUnread (pos 0) left) NoBytes s before u before) → counts_of k ≡ counts_unread n
    → StepTaken rules s (leaves left n) (Ok k) u
left_taken rules s u left n k t is = (took_left rules s u left (t empty), λ c h. is)

-- what a call does that can be read
took_read : (rules : RulesOf) (s u : LedgerState) (c : ReadOf) (order : Option (List ℕ)) → Took (DoesRead rules c order) (TellsSome TellsPlace c.places) s empty u empty
    → Took (DoesDeed rules (call c order)) (TellsDeed (call c order)) s empty u empty
took_read rules s u c order t = record {
  explains = record {
    sound = t.explains.sound;
    complete = t.explains.complete;
    learns = t.explains.learns;
    grows = t.explains.grows;
    extends = t.explains.extends;
    apart = t.explains.apart;
  };
  sound = t.sound;
  marks = t.marks;
}

-- what is seen of a ledger is seen of each world
stand_world : (c : Choice) (m : Meaning) → stand (world c m) ≡ stand_in m
stand_world c m = ap (λ (cs : List Card). let s : StandOf = record { cards = cs; aside = m.aside } in s) (cards-inv c m.objects)

-- and how its items count in each world
counted_read : (rules : RulesOf) (s u : LedgerState) (c : ReadOf) (order : Option (List ℕ)) (k : CountsOf) (refused : Bool) → CountsBy refused rules s c order k u
    → (d : Choice) → Chooses u.now.secrets d → CountsRead refused rules (world d s.now) c order k
counted_read rules s u c order k true h d chosen = h ∙ ap (λ (x : StandOf). counts_first rules x c.places) (sym (stand_world d s.now))
counted_read rules s u c order k false h d chosen = h d chosen

pub read_taken : (rules : RulesOf) (s u : LedgerState) (c : ReadOf) (places : Option (List ℕ)) (r : Result Counts CallRefusal) → CallTaken rules s c (order_given places) r u
    → CallCounted rules s c (order_given places) r u → StepTaken rules s (takes c places) r u
read_taken rules s u c places (Ok k) t n = (took_read rules s u c (order_given places) (t empty), counted_read rules s u c (order_given places) (counts_of k) c.refused n)
read_taken rules s u c places (Err (refusal.Impossible item why)) t n = (c, places, refl, t.0)
read_taken rules s u c places (Err refusal.Memory) t n = tt

-- the marks of a ledger stay, whatever a call comes to
pub read_marks : {A : Type 0} (rules : RulesOf) (s : LedgerState) (c : ReadOf) (order : Option (List ℕ)) (r : Result A CallRefusal) (u : LedgerState) → CallTaken rules s c order r u → u.marks ≡ s.marks
read_marks rules s c order (Ok counts) u t = (t empty).marks
read_marks rules s c order (Err (refusal.Impossible item why)) u t = ap (λ (x : LedgerState). x.marks) t.1
read_marks rules s c order (Err refusal.Memory) u t = ap (λ (x : LedgerState). x.marks) t
