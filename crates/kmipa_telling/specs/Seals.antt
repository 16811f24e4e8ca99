-- What is told in JSON of the seals of a transcript.
use Rattle.std.specs.Prelude.{◌≡◌, ℕ, List, true, codes, Option, Some, None, Result, Ok, Err}
use Rattle.std.specs.String.{string_bytes}
use Rattle.hex.specs.Hex.{encode_lower}
use Rattle.serde_json.specs.Data.{Members, boolean, no_members, object, string, put}
use Rattle.kmipa_json.specs.Told.{integer}
use Rattle.kmipa_record.specs.declared.head.Head.{Head}
use Rattle.kmipa_record.specs.declared.label.Label.{Label}
use Rattle.kmipa_runs.specs.Knowing.{Known}

-- the recording, which of its segments it is, and a seal, in hexadecimal digits
abbrev pub head_members : List ℕ → Label → Members
head_members seal label = put (codes "segment") (integer label.segment) (put (codes "recording") (string (string_bytes label.recording))
    (put (codes "head") (string (encode_lower seal)) no_members))

-- The last seal; or, of a torn transcript, of which so many bytes are its own, the one ahead of the close that was put behind them, and that it is torn.
abbrev pub seal_members : Option ℕ → Head → Members
seal_members None h = head_members h.seal h.label
seal_members (Some length) h = put (codes "torn") (boolean true) (head_members h.ahead h.label)

-- these beside what else is told of the file; a transcript without seals has no such member
abbrev pub sealed_members : Option ℕ → Option Head → Members → Members
sealed_members torn None told = told
sealed_members torn (Some head) told = put (codes "seal") (object (seal_members torn head)) told

-- Behind a verdict that is told which is known of the bytes: their head, up to which all their seals are right, or that they bear none.
-- Behind a fault nothing is told of seals.
abbrev pub KnowsJudged : {T E : Type 0} → Result T E → List ℕ → Option Head → Type 0
KnowsJudged (Ok judged) bytes known = Known bytes known
KnowsJudged (Err fault) bytes known = known ≡ None
