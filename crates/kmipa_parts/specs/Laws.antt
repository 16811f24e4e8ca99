-- Laws of parts.
use Rattle.std.specs.Prelude.{ℕ, List, Contains}
use Rattle.kmipa_object.specs.Inventory.{Thing}
use Rattle.kmipa_msgs.specs.Messages.{RulesOf}
use Rattle.kmipa_batch.specs.Readable.{IsReadableCall}
use Rattle.kmipa_check.specs.Steps.{StepOf}
use Rattle.kmipa_check.specs.Runs.{IsPlaced, Linked}
use Rattle.kmipa_parts.specs.Parts.{OwnOf, cut, AreParts}

-- each of these calls can be judged
abbrev pub AreReadableCalls : List StepOf → Type 0
AreReadableCalls calls = (c : StepOf) → Contains calls c → IsReadableCall c.request c.response

-- A run projects: what calls lead from one inventory to another, the parts of these calls on some objects, in the same order, lead from the
-- first cut to those objects to the last cut to them. Those are left out that leave these objects as they are.
abbrev pub RunProjects : Type 0
RunProjects =
    (rules : RulesOf) (own : OwnOf) (V W : List Thing) (calls parts : List StepOf)
    → AreReadableCalls calls → AreParts own calls parts → Linked rules V calls W → Linked rules (cut own V) parts (cut own W)

-- and where no call stands after one that it is before, and stamps never fall, so it is with the parts
abbrev pub PartsArePlaced : Type 0
PartsArePlaced = (own : OwnOf) (calls parts : List StepOf) → AreParts own calls parts → IsPlaced calls → IsPlaced parts
