-- What is told in JSON of why a witness doesn't fit its transcript.
use Rattle.std.specs.Prelude.{ℕ, pos, List, true, false, codes, Option, Some, None}
use Rattle.kmipa_explain.specs.Meant.{text_of}
use Rattle.serde_json.specs.Data.{Members, array, boolean, no_members, object, string, put}
use Rattle.kmipa_json.specs.Told.{count, integer}
use Rattle.kmipa_msgs.specs.Kinds.{kind_name, kind_number}
use Rattle.kmipa_msgs.specs.declared.fault.Outside.{Outside}
use Rattle.kmipa_msgs.specs.declared.kind.OutsideKind.{OutsideKind}
use Rattle.kmipa_telling.specs.Causes.{status_text}
use Rattle.kmipa_telling.specs.Claims.{call_items}
use Rattle.kmipa_telling.specs.EventClaims.{operation_members}
use Rattle.kmipa_telling.specs.Lists.{objects}
use Rattle.kmipa_telling.specs.NamingClaims.{number_members}
use Rattle.kmipa_telling.specs.UnfitPhrases.{wanted_text}
use Rattle.kmipa_unfit.specs.declared.explanation.Disorder.{Disorder}
use Rattle.kmipa_unfit.specs.declared.explanation.FarMoment.{FarMoment}
use Rattle.kmipa_unfit.specs.declared.explanation.OrderTold.{OrderTold}
use Rattle.kmipa_unfit.specs.declared.explanation.OrderTold.TheVariants.{Refused, Few, InOrder}
use Rattle.kmipa_unfit.specs.declared.explanation.Ordered.{Ordered}
use Rattle.kmipa_unfit.specs.declared.explanation.Unfit.{Unfit}
use Rattle.kmipa_unfit.specs.declared.explanation.Unfit.TheVariants as unfit
use Rattle.kmipa_unfit.specs.declared.explanation.Unwanted.{Unwanted}
use Rattle.kmipa_unfit.specs.declared.explanation.Unwanted.TheVariants as unwanted
use Rattle.kmipa_unfit.specs.declared.explanation.WitnessExplanation.{WitnessExplanation}
use Rattle.kmipa_unfit.specs.declared.explanation.Wrong.{Wrong}
use Rattle.kmipa_unfit.specs.declared.explanation.Wrong.TheVariants as wrong

-- the client, where there is one
abbrev pub client_told : Option (List ℕ) → Members → Members
client_told None before = before
client_told (Some client) before = put (codes "client") (string client) before

-- the turn, where one is faulty
abbrev pub turn_told : Option ℕ → Members → Members
turn_told None before = before
turn_told (Some turn) before = put (codes "turn") (count turn) before

-- the client, the turn and its call
abbrev pub place_members : WitnessExplanation → Members
place_members e = put (codes "call") (integer e.call) (turn_told e.turn (client_told (text_of e.client) no_members))

-- a kind of what is outside
abbrev pub kind_members : OutsideKind → Members
kind_members kind = number_members (pos (kind_number kind)) (Some (kind_name kind))

-- where an answer is outside
abbrev pub answer_members : Outside → Members
answer_members o = put (codes "kind") (object (kind_members o.kind)) (put (codes "item") (count o.item) no_members)

abbrev pub answer_told : Outside → Members → Members
answer_told o before = put (codes "answer") (object (answer_members o)) before

-- ---- places

-- why none are wanted
abbrev pub order_told : OrderTold → Members → Members
order_told Refused before = put (codes "message_refused") (boolean true) before
order_told (Few items) before = put (codes "items") (count items) before
order_told InOrder before = put (codes "in_order") (boolean true) before

abbrev pub ordered_told : Ordered → Members → Members
ordered_told o before = order_told o.why (put (codes "places") (array (call_items o.places.items)) before)

-- what is wrong with them
abbrev pub wrong_members : Wrong → Members
wrong_members (wrong.Unanswered place) = put (codes "unanswered") (integer place) no_members
wrong_members (wrong.Twice place) = put (codes "twice") (integer place) no_members
wrong_members (wrong.LeftOut item) = put (codes "left_out") (count item) no_members
wrong_members (wrong.NotLast item) = put (codes "not_last") (count item) no_members

abbrev pub disordered_told : Disorder → Members → Members
disordered_told d before = put (codes "wrong") (object (wrong_members d.wrong)) (put (codes "answered") (count d.answered)
    (put (codes "places") (array (call_items d.places.items)) before))

-- ---- fills

-- why a fill or a birth isn't wanted
abbrev pub unwanted_told : Unwanted → Members → Members
unwanted_told (unwanted.Unanswered answered) before = put (codes "answered") (count answered) before
unwanted_told (unwanted.Status status) before = put (codes "status") (string (status_text status)) before
unwanted_told unwanted.Present before = put (codes "payload_there") (boolean true) before
unwanted_told (unwanted.Needless number) before = put (codes "operation") (object (operation_members number)) before
unwanted_told (unwanted.Operations asked answered) before = put (codes "named") (object (operation_members answered)) (put (codes "asked") (object (operation_members asked)) before)
unwanted_told (unwanted.Second number) before = put (codes "named_before") (count number) before

-- a birth, or what is set aside
abbrev pub birth_told : Unfit → Members → Members
birth_told (unfit.BirthUnwanted u) before = unwanted_told u.why (put (codes "item") (integer u.item) (put (codes "birth") (count u.number) before))
birth_told (unfit.BirthFormless f) before = put (codes "item") (integer f.item) (put (codes "birth") (count f.birth) before)
birth_told (unfit.Aside item) before = put (codes "set_aside") (integer item) before
birth_told other before = before

-- a fill, or an item without one
abbrev pub fill_told : Unfit → Members → Members
fill_told (unfit.FillUnwanted u) before = unwanted_told u.why (put (codes "item") (integer u.item) (put (codes "fill") (count u.number) before))
fill_told (unfit.FillMissing m) before = put (codes "operation") (object (operation_members m.operation)) (put (codes "item") (count m.item) before)
fill_told (unfit.FillFormless f) before = put (codes "payload") (object (kind_members f.kind)) (put (codes "operation") (object (operation_members f.operation))
    (put (codes "item") (count f.item) (put (codes "fill") (count f.fill) before)))
fill_told other before = birth_told other before

-- ---- the whole

-- a moment, the Time Stamp, and how far they may be apart
abbrev pub moment_told : FarMoment → Members → Members
moment_told m before = put (codes "tolerance") (integer m.tolerance) (put (codes "stamp") (integer m.stamp) (put (codes "moment") (integer m.moment) before))

-- what a turn gives to its call
abbrev pub given_told : Unfit → Members → Members
given_told unfit.Ended before = put (codes "ended") (boolean true) before
given_told unfit.Open before = put (codes "ended") (boolean false) before
given_told (unfit.Answer o) before = answer_told o before
given_told (unfit.Untimely m) before = moment_told m before
given_told (unfit.Ordered o) before = ordered_told o before
given_told (unfit.Disordered d) before = disordered_told d before
given_told other before = fill_told other before

-- what stands there
abbrev pub stands_told : Unfit → Members → Members
stands_told (unfit.Unknown calls) before = put (codes "calls") (count calls) before
stands_told (unfit.Twice turn) before = put (codes "named_before") (count turn) before
stands_told (unfit.LeftOut operations) before = put (codes "operations") (array (objects operation_members operations.items)) before
stands_told other before = given_told other before

-- the client, the turn and its call, what stands there, and what is wanted
abbrev pub unfit_members : WitnessExplanation → Members
unfit_members e = put (codes "wanted") (string (wanted_text e.unfit)) (stands_told e.unfit (place_members e))
