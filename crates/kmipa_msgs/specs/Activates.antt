-- Activate: the request { Unique Identifier? } and its answer { Unique Identifier? } (KMIP 2.1, section 6.1).
use Rattle.std.specs.Prelude.{true}
use Rattle.kmipa_ttlv.specs.Tree.{Trees}
use Rattle.kmipa_attrs.specs.Readings.{map_ok}
use Rattle.kmipa_msgs.specs.Messages.{AskedOf, activates}
use Rattle.kmipa_msgs.specs.Identifiers.{SaysIdentifier, IdentifierFault, identifier_in, SaysChanged, changed_in}
use Rattle.kmipa_msgs.specs.Row.{Row}

abbrev pub AsksActivate : Trees → AskedOf → Type 0
AsksActivate ts (activates x) = SaysIdentifier ts x
AsksActivate ts _ = ⊥

abbrev pub activate_row : Row
activate_row = record {
  SaysAsked = AsksActivate;
  AskedFault = λ ts k. IdentifierFault ts k;
  asked_in = λ ts. map_ok activates (identifier_in ts);
  SaysDone = SaysChanged;
  DoneFault = λ ts k. IdentifierFault ts k;
  done_in = changed_in;
  may_be_bare = true;
  NeedsPayload = ⊥;
}
