-- A CALL AS IT WAS RECORDED: the bytes of its messages, whatever they say (profile).
use Rattle.std.specs.Prelude.{◌≡◌, ℕ, ℤ, List, map, All, slice_get, Option, Some, None}
use Rattle.kmipa_ttlv.specs.Tree.{Tree}
use Rattle.kmipa_ttlv.specs.Spelling.{Spells}
use Rattle.kmipa_record.specs.Marks.{MarkOf, begins, ends, begun}
use Rattle.kmipa_msgs.specs.Messages.{lent, maybe_lent}
use Rattle.kmipa_turns.specs.declared.recorded.Recorded.{Recorded}

-- its number, its client, the place of its begin mark among the marks, that of its end mark where it has one, and its messages
pub record RecordedOf : Type 0 where
  pub number : ℤ
  pub client : List ℕ
  pub begin : ℕ
  pub end : Option ℕ
  pub request : List ℕ
  pub response : Option (List ℕ)

-- what a call of the program means
abbrev pub recorded_of : Recorded → RecordedOf
recorded_of c = record {
  number = c.number;
  client = lent c.client;
  begin = c.begin;
  end = c.end;
  request = lent c.request;
  response = maybe_lent c.response;
}

-- how it ended: its end mark carries its response; or it is open, and has neither
pub data IsEnded (marks : List MarkOf) (c : RecordedOf) : Type 0 where
  has_ended : (end : ℕ) (response : List ℕ) → slice_get marks end ≡ Some (ends c.number response) → c.end ≡ Some end → c.response ≡ Some response → IsEnded marks c
  is_open : ((end : ℕ) (response : List ℕ) → slice_get marks end ≡ Some (ends c.number response) → ⊥) → c.end ≡ None → c.response ≡ None → IsEnded marks c

-- the marks record it so
pub record IsRecorded (marks : List MarkOf) (c : RecordedOf) : Type 0 where
  pub begun : slice_get marks c.begin ≡ Some (begins c.number c.client c.request)
  pub ended : IsEnded marks c

-- these are all calls of a transcript, in the order of their begin marks
pub record AreRecorded (marks : List MarkOf) (calls : List RecordedOf) : Type 0 where
  pub numbers : map (λ (c : RecordedOf). c.number) calls ≡ begun marks
  pub recorded : All (IsRecorded marks) calls

-- the item that the bytes spell, all of them; none where they spell none
abbrev pub IsItem : List ℕ → Option Tree → Type 0
IsItem bytes None = (t : Tree) → Spells t bytes → ⊥
IsItem bytes (Some t) = Spells t bytes
