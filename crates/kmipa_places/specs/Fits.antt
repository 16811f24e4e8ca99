-- WHETHER AN ANSWER THAT IS MADE UP FITS ITS REQUEST (profile).
use Rattle.std.specs.Prelude.{◌≡◌, ℕ, List, [], ◌∷◌, Option, Some, None}
use Rattle.kmipa_ttlv.specs.Tree.{Tree}
use Rattle.kmipa_attrs.specs.declared.fields.Field.{Field}
use Rattle.kmipa_attrs.specs.declared.fields.Field.TheVariants.{Absent, Wrong, There}
use Rattle.kmipa_msgs.specs.declared.kind.OutsideKind.{OutsideKind}
use Rattle.kmipa_msgs.specs.declared.kind.OutsideKind.TheVariants.{Operation}
use Rattle.kmipa_msgs.specs.Headers.{batch}
use Rattle.kmipa_msgs.specs.Messages.{AskOf, operation_asked}
use Rattle.kmipa_msgs.specs.Operations.{operation_number}
use Rattle.kmipa_msgs.specs.Replies.{AnswerFault}
use Rattle.kmipa_places.specs.Places.{operation_at}
use Rattle.kmipa_places.specs.Unread.{IsUnread}

-- some item that asks for the operation of this number has such an answer with a condition of this kind; where none can be told, only what stands outside of
-- its payload counts
abbrev pub AnswerKind : Field ℕ → Tree → OutsideKind → Type 0
AnswerKind Absent u k = AnswerFault None u k
AnswerKind Wrong u k = AnswerFault None u k
AnswerKind (There n) u k = (ask : AskOf) × (operation_number (operation_asked ask.asked) ≡ n) × AnswerFault (Some ask) u k

-- only that its operation isn't judged may hold
abbrev pub FitsAt : Field ℕ → Tree → Type 0
FitsAt operation u = (k : OutsideKind) → AnswerKind operation u k → k ≡ Operation

-- the answers, each at the place of an item of the request, or behind all
abbrev pub AreFit : List Tree → List Tree → Type 0
AreFit ts [] = Unit {0}
AreFit [] (u ∷ us) = FitsAt Absent u × AreFit [] us
AreFit (t ∷ ts) (u ∷ us) = FitsAt (operation_at t) u × AreFit ts us

-- THE DEFINITION: both can be read, and no condition holds at an answer but that its operation isn't judged
abbrev pub IsFitAnswer : Option Tree → Option Tree → Type 0
IsFitAnswer (Some t) (Some u) = (IsUnread (Some t) (Some u) [] → ⊥) × AreFit (batch t) (batch u)
IsFitAnswer request response = ⊥
