-- What the program reads of items. Not promised.
use Rattle.std.specs.Prelude.{◌≡◌, ℕ, ◌+◌, ◌==◌, ◌&&◌, Bool, List, map, take, drop, filter, find, Option, is_some, option_map, option_and_then}
use Rattle.std.specs.String.{string_bytes}
use Rattle.kmipa_msgs.specs.Messages.{PayloadOf}
use Rattle.kmipa_ops.specs.Locate.{seen_located}
use Rattle.kmipa_record.specs.Declarations.{DeclarationOf}
use Rattle.kmipa_check.specs.declared.verdict.Refused.{Refused}
use Rattle.kmipa_explain.specs.Items.{ItemOf}
use Rattle.kmipa_explain.specs.Meant.{dates_told, text_of}
use Rattle.kmipa_explain.specs.Sources.{StartOf, SubjectOf, is_either, made, set_date, taught}
use Rattle.kmipa_explain.specs.Stories.{event_of, happens_to, is_declared, makes_it}
use Rattle.kmipa_explain.specs.declared.explanation.Story.{Story}
use Rattle.kmipa_explain.specs.declared.item.Item.{Item}
use Rattle.kmipa_explain.specs.declared.sought.Sought.{Sought}
use Rattle.kmipa_explain.specs.declared.sought.Sought.TheVariants.{Birth, Date, Bytes, Either}
use Rattle.kmipa_explain.specs.declared.sources.Start.{Start}
use Rattle.kmipa_explain.specs.declared.subject.Subject.{Subject}

-- the item that a value of the program is
abbrev pub seen_item : Item → ItemOf
seen_item i = record { turn = i.turn; call = i.call; item = i.item; stamp = i.stamp; operation = i.operation; status = i.status; makes = i.makes; sets = dates_told i.sets; teaches = i.teaches; about = text_of i.about }

-- the object that a value of the program is
abbrev pub seen_subject : Subject → SubjectOf
seen_subject s = record { id = string_bytes s.identifier; dates = dates_told s.dates; state = s.state; bytes = s.bytes }

-- what a value of the program says of an object at the start
abbrev pub seen_start : Start → StartOf
seen_start s = record { declared = s.declared; dates = dates_told s.dates; bytes = s.bytes }

-- the test of what is sought of the object of this identifier, at this turn
abbrev pub test_of : ℕ → List ℕ → Sought → ItemOf → Bool
test_of now id Birth = made now id
test_of now id (Date date second) = set_date now id date second
test_of now id (Bytes first) = taught first id
test_of now id (Either e f) = is_either e f

-- the identifiers that a payload lists as the answer of a Locate
abbrev pub listed_in : Option PayloadOf → Option (List (List ℕ))
listed_in payload = option_and_then seen_located payload

-- the item is the refused one, and is about an identifier
abbrev pub is_that : Refused → ItemOf → Bool
is_that r i = (i.turn == r.turn) && (i.item == r.item) && is_some i.about

-- the story of the object of this identifier, where the refused item stands at this place
pub record IsStoryAt (declared : DeclarationOf) (items : List ItemOf) (place : ℕ) (id : List ℕ) (s : Story) : Type 0 where
  pub identifier : string_bytes s.identifier ≡ id
  pub at_start : s.declared ≡ is_declared declared id
  pub events : s.events.items ≡ map event_of (filter (happens_to id) (take place items))
  pub born_later : s.born_later ≡ option_map event_of (find (makes_it id) (drop (place + 1) items))
