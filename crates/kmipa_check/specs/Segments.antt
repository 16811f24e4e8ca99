-- Segments of one recording (profile): what one leaves, the next goes on from.
use Rattle.std.specs.Prelude.{◌≡◌, ℕ, ℤ, List, ◌++◌, Contains, Option}
use Rattle.kmipa_record.specs.Marks.{MarkOf, AreRecorded, begun}
use Rattle.kmipa_record.specs.Declarations.{DeclarationOf}
use Rattle.kmipa_record.specs.Witnesses.{TurnOf}
use Rattle.kmipa_check.specs.Calls.{HasEnd}
use Rattle.kmipa_check.specs.Left.{LeavesDeclaration}
use Rattle.kmipa_check.specs.Since.{AreSince, last_stamp, IsAcceptedSince}

-- The witness takes the calls of these marks, none at a moment below the first, and leaves the other declaration; the next segment goes on
-- from the later moment, that of its last turn.
pub record Leads (declared : DeclarationOf) (since : Option ℤ) (marks : List MarkOf) (turns : List TurnOf) (left : DeclarationOf) (until : Option ℤ) : Type 0 where
  pub run : LeavesDeclaration marks declared turns left
  pub since_then : AreSince since run.steps
  pub last : until ≡ last_stamp since run.steps

-- Each call that has ended has begun among these marks. So it is in a transcript; and in the marks of any number of segments, one after the
-- other, which may have more calls than a transcript.
abbrev pub HaveBegun : List MarkOf → Type 0
HaveBegun marks = (number : ℤ) (end : ℕ) (answered : List ℕ) → HasEnd marks number end answered → Contains (begun marks) number

abbrev pub RecordedHaveBegun : Type 0
RecordedHaveBegun = (marks : List MarkOf) → AreRecorded marks → HaveBegun marks

abbrev pub JoinedHaveBegun : Type 0
JoinedHaveBegun = (first second : List MarkOf) → HaveBegun first → HaveBegun second → HaveBegun (first ++ second)

-- no call number stands in both
abbrev pub AreApart : List MarkOf → List MarkOf → Type 0
AreApart first second = (number : ℤ) → Contains (begun first) number → Contains (begun second) number → ⊥

-- Segments join: what leads from the first declaration to the second, and from there to the third, leads from the first to the third, the marks
-- of the one behind those of the other, and the turns too.
abbrev pub SegmentsJoin : Type 0
SegmentsJoin = (first second : List MarkOf) (turns more : List TurnOf) (declared between left : DeclarationOf) (since middle until : Option ℤ)
    → HaveBegun first → HaveBegun second → AreApart first second
    → Leads declared since first turns between middle → Leads between middle second more left until
    → Leads declared since (first ++ second) (turns ++ more) left until

-- So a segment that is accepted from what the one before it leaves, and from its last moment on, is accepted with it.
abbrev pub AcceptedBehindIsAccepted : Type 0
AcceptedBehindIsAccepted = (first second : List MarkOf) (turns more : List TurnOf) (declared between : DeclarationOf) (since middle : Option ℤ)
    → HaveBegun first → HaveBegun second → AreApart first second
    → Leads declared since first turns between middle → IsAcceptedSince second between middle more
    → IsAcceptedSince (first ++ second) declared since (turns ++ more)

-- these turns name calls of these marks alone
abbrev pub NameOnly : List MarkOf → List TurnOf → Type 0
NameOnly marks turns = (t : TurnOf) → Contains turns t → Contains (begun marks) t.call

-- And where both together are accepted, the turns behind naming calls of the second segment alone, the second is accepted from what the first
-- leaves, and from its last moment on.
abbrev pub AcceptedTogetherIsAccepted : Type 0
AcceptedTogetherIsAccepted = (first second : List MarkOf) (turns more : List TurnOf) (declared between : DeclarationOf) (since middle : Option ℤ)
    → AreRecorded first → AreRecorded second → AreApart first second
    → Leads declared since first turns between middle → IsAcceptedSince (first ++ second) declared since (turns ++ more) → NameOnly second more
    → IsAcceptedSince second between middle more
