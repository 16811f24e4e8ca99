-- What is told in JSON of the deepest place of a search that gave up: as of the lines, but all calls.
use Rattle.std.specs.Prelude.{true, false, codes, Option, Some, None}
use Rattle.serde_json.specs.Data.{Members, no_members, object, array, boolean, put}
use Rattle.kmipa_json.specs.Told.{count, integer}
use Rattle.kmipa_check.specs.declared.verdict.Refused.{Refused}
use Rattle.kmipa_ops.specs.Whys.{why_number, why_name}
use Rattle.kmipa_orders.specs.declared.stuck.NextCall.{NextCall}
use Rattle.kmipa_orders.specs.declared.stuck.Reached.{Reached}
use Rattle.kmipa_telling.specs.Claims.{call_items}
use Rattle.kmipa_telling.specs.Lists.{objects}
use Rattle.kmipa_telling.specs.Telling.{named_under}

-- whether a call is possible; if not, the item that isn't, and the reason
abbrev pub against_members : Option Refused → Members → Members
against_members None told = put (codes "possible") (boolean true) told
against_members (Some r) told = named_under (codes "why") (why_number r.why) (why_name r.why)
    (put (codes "item") (count r.item) (put (codes "possible") (boolean false) told))

-- a call that may be next
abbrev pub next_members : NextCall → Members
next_members next = against_members next.refused (put (codes "call") (integer next.call) no_members)

-- the calls that were taken, and those that may be next
abbrev pub reached_members : Reached → Members
reached_members reached = put (codes "next") (array (objects next_members reached.next.items))
    (put (codes "taken") (array (call_items reached.taken.items)) no_members)

-- the deepest place under one name, where it is told
abbrev pub told_reached : Option Reached → Members → Members
told_reached None told = told
told_reached (Some reached) told = put (codes "deepest") (object (reached_members reached)) told
