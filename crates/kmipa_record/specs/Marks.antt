-- The marks of a transcript: calls begin and end.
use Rattle.std.specs.Prelude.{◌≡◌, ◌≢◌, ◌≤◌, ℕ, ℤ, pos, ◌≤ℤ◌, ◌<ℤ◌, List, [], ◌∷◌, ◌++◌, length, All, AllPairs, Contains}
use Rattle.kmipa_ttlv.specs.Tree.{Tree, Trees, structure, scalar, none, more, integer, text, byte_string}
use Rattle.kmipa_record.specs.Tags.{begin_mark_tag, call_tag, client_tag, message_tag, end_mark_tag}
use Rattle.kmipa_record.specs.declared.fault.RecordKind.{RecordKind}
use Rattle.kmipa_record.specs.declared.fault.RecordKind.TheVariants.{Number, EndWithoutBegin, SecondEnd, Calls}
use Rattle.kmipa_record.specs.declared.transcript.Mark.{Mark}
use Rattle.kmipa_record.specs.declared.transcript.Mark.TheVariants.{Begin, End}
use Rattle.std.specs.String.{string_bytes}

pub data MarkOf : Type 0 where
  begins : (call : ℤ) → (client message : List ℕ) → MarkOf
  ends : (call : ℤ) → (message : List ℕ) → MarkOf

-- the mark that a value of the program is
abbrev pub mark_of : Mark → MarkOf
mark_of (Begin b) = begins b.call (string_bytes b.client) b.message.items
mark_of (End e) = ends e.call e.message.items

abbrev pub begin_fields : ℤ → List ℕ → List ℕ → Trees
begin_fields call client message = more (scalar call_tag (integer call)) (more (scalar client_tag (text client)) (more (scalar message_tag (byte_string message)) none))

abbrev pub end_fields : ℤ → List ℕ → Trees
end_fields call message = more (scalar call_tag (integer call)) (more (scalar message_tag (byte_string message)) none)

-- the item that is the mark's record: exactly these children, in this order
abbrev pub mark_item : MarkOf → Tree
mark_item (begins call client message) = structure begin_mark_tag (begin_fields call client message)
mark_item (ends call message) = structure end_mark_tag (end_fields call message)

abbrev pub call_of : MarkOf → ℤ
call_of (begins call client message) = call
call_of (ends call message) = call

-- the numbers of the begin marks, in order
abbrev pub begun : List MarkOf → List ℤ
begun [] = []
begun (begins call client message ∷ marks) = call ∷ begun marks
begun (ends call message ∷ marks) = begun marks

-- the numbers of the end marks, in order
abbrev pub ended : List MarkOf → List ℤ
ended [] = []
ended (begins call client message ∷ marks) = ended marks
ended (ends call message ∷ marks) = call ∷ ended marks

-- a number that a call may have
pub record IsCallNumber (call : ℤ) : Type 0 where
  pub least : pos 1 ≤ℤ call
  pub greatest : call ≤ℤ pos 2_147_483_647

-- The marks of a transcript: calls have numbers, each begin mark another one, there are 100,000 begin marks at most, and each
-- end mark is the first of a call that was begun before it. A call that has no end mark is open.
pub record AreRecorded (marks : List MarkOf) : Type 0 where
  pub numbered : All (λ mark. IsCallNumber (call_of mark)) marks
  pub once : AllPairs (λ call other. call ≢ other) (begun marks)
  pub few : length (begun marks) ≤ 100_000
  pub answered : (before after : List MarkOf) (call : ℤ) (message : List ℕ) → marks ≡ before ++ ends call message ∷ after
      → Contains (begun before) call × ¬ (Contains (ended before) call)

-- the first test that a begin mark fails after these marks
pub data BeginFault (before : List MarkOf) (call : ℤ) (kind : RecordKind) : Type 0 where
  below_one : call <ℤ pos 1 → kind ≡ Number → BeginFault before call kind
  used : Contains (begun before) call → kind ≡ Number → BeginFault before call kind
  one_too_many : pos 1 ≤ℤ call → ¬ (Contains (begun before) call) → 100_000 ≤ length (begun before) → kind ≡ Calls → BeginFault before call kind

-- the first test that an end mark fails after these marks
pub data EndFault (before : List MarkOf) (call : ℤ) (kind : RecordKind) : Type 0 where
  end_below_one : call <ℤ pos 1 → kind ≡ Number → EndFault before call kind
  not_begun : pos 1 ≤ℤ call → ¬ (Contains (begun before) call) → kind ≡ EndWithoutBegin → EndFault before call kind
  ended_before : pos 1 ≤ℤ call → Contains (begun before) call → Contains (ended before) call → kind ≡ SecondEnd → EndFault before call kind

abbrev pub MarkFault : List MarkOf → MarkOf → RecordKind → Type 0
MarkFault before (begins call client message) kind = BeginFault before call kind
MarkFault before (ends call message) kind = EndFault before call kind
