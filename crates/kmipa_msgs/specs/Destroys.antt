-- Destroy: the request { Unique Identifier? } and its answer { Unique Identifier? } (KMIP 2.1, section 6.1).
use Rattle.std.specs.Prelude.{true}
use Rattle.kmipa_ttlv.specs.Tree.{Trees}
use Rattle.kmipa_attrs.specs.Readings.{map_ok}
use Rattle.kmipa_msgs.specs.Messages.{AskedOf, destroys}
use Rattle.kmipa_msgs.specs.Identifiers.{SaysIdentifier, IdentifierFault, identifier_in, SaysChanged, changed_in}
use Rattle.kmipa_msgs.specs.Row.{Row}

abbrev pub AsksDestroy : Trees → AskedOf → Type 0
AsksDestroy ts (destroys x) = SaysIdentifier ts x
AsksDestroy ts _ = ⊥

abbrev pub destroy_row : Row
destroy_row = record {
  SaysAsked = AsksDestroy;
  AskedFault = λ ts k. IdentifierFault ts k;
  asked_in = λ ts. map_ok destroys (identifier_in ts);
  SaysDone = SaysChanged;
  DoneFault = λ ts k. IdentifierFault ts k;
  done_in = changed_in;
  may_be_bare = true;
  NeedsPayload = ⊥;
}
