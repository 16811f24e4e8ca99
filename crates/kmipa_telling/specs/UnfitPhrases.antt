-- What is printed of what a turn gives that doesn't fit its call, and of what is wanted.
use Rattle.std.specs.Prelude.{ℕ, zero, suc, ℤ, List, [], ◌∷◌, ◌++◌, codes, flat_map, length, take}
use Rattle.std.specs.Fmt.{decimal, signed_decimal}
use Rattle.kmipa_msgs.specs.Kinds.{kind_name, kind_number}
use Rattle.kmipa_msgs.specs.declared.fault.Outside.{Outside}
use Rattle.kmipa_runs.specs.Lines.{line}
use Rattle.kmipa_telling.specs.Causes.{status_text}
use Rattle.kmipa_telling.specs.Phrases.{more_text, numbered, operation_text}
use Rattle.kmipa_unfit.specs.declared.explanation.Disorder.{Disorder}
use Rattle.kmipa_unfit.specs.declared.explanation.FarMoment.{FarMoment}
use Rattle.kmipa_unfit.specs.declared.explanation.FormlessFill.{FormlessFill}
use Rattle.kmipa_unfit.specs.declared.explanation.OrderTold.{OrderTold}
use Rattle.kmipa_unfit.specs.declared.explanation.OrderTold.TheVariants.{Refused, Few, InOrder}
use Rattle.kmipa_unfit.specs.declared.explanation.Ordered.{Ordered}
use Rattle.kmipa_unfit.specs.declared.explanation.Part.{Part}
use Rattle.kmipa_unfit.specs.declared.explanation.Part.TheVariants as part
use Rattle.kmipa_unfit.specs.declared.explanation.Unfit.{Unfit}
use Rattle.kmipa_unfit.specs.declared.explanation.Unfit.TheVariants as unfit
use Rattle.kmipa_unfit.specs.declared.explanation.Unwanted.{Unwanted}
use Rattle.kmipa_unfit.specs.declared.explanation.Unwanted.TheVariants as unwanted
use Rattle.kmipa_unfit.specs.declared.explanation.Wrong.{Wrong}
use Rattle.kmipa_unfit.specs.declared.explanation.Wrong.TheVariants as wrong

-- where an answer is outside
abbrev pub answer_line : Outside → List ℕ
answer_line o = line (codes "answer: outside at item " ∷ decimal o.item ∷ codes " kind " ∷ decimal (kind_number o.kind) ∷ codes " " ∷ kind_name o.kind ∷ [])

-- ---- places

-- the places, at most twenty, and how many more there are
abbrev pub places_line : List ℤ → List ℕ
places_line numbers = line (codes "places:" ∷ flat_map numbered (take 20 numbers) ∷ more_text (length numbers) ∷ [])

-- why none are wanted
abbrev pub order_why_line : OrderTold → List ℕ
order_why_line Refused = line (codes "answered: the whole message is refused" ∷ [])
order_why_line (Few items) = line (codes "items: " ∷ decimal items ∷ [])
order_why_line InOrder = line (codes "Batch Order Option: not False" ∷ [])

abbrev pub order_lines : Ordered → List ℕ
order_lines o = places_line o.places.items ++ order_why_line o.why

-- which items are answered: those from 1 to this one
abbrev pub answered_line : ℕ → List ℕ
answered_line zero = line (codes "answered: no item" ∷ [])
answered_line (suc zero) = line (codes "answered: item 1" ∷ [])
answered_line (suc (suc n)) = line (codes "answered: items 1 to " ∷ decimal (suc (suc n)) ∷ [])

-- what is wrong with places
abbrev pub wrong_line : Wrong → List ℕ
wrong_line (wrong.Unanswered place) = line (codes "wrong: place " ∷ signed_decimal place ∷ codes ", of no answered item" ∷ [])
wrong_line (wrong.Twice place) = line (codes "wrong: place " ∷ signed_decimal place ∷ codes ", twice" ∷ [])
wrong_line (wrong.LeftOut item) = line (codes "wrong: item " ∷ decimal item ∷ codes ", left out" ∷ [])
wrong_line (wrong.NotLast item) = line (codes "wrong: item " ∷ decimal item ∷ codes ", the first that failed, not last" ∷ [])

abbrev pub disorder_lines : Disorder → List ℕ
disorder_lines d = places_line d.places.items ++ (answered_line d.answered ++ wrong_line d.wrong)

-- ---- moments

abbrev pub moment_line : ℤ → List ℕ
moment_line moment = line (codes "moment: " ∷ signed_decimal moment ∷ codes " seconds since 1970" ∷ [])

abbrev pub stamp_line : ℤ → List ℕ
stamp_line stamp = line (codes "Time Stamp: " ∷ signed_decimal stamp ∷ codes " seconds since 1970" ∷ [])

abbrev pub tolerance_line : ℤ → List ℕ
tolerance_line tolerance = line (codes "tolerance: " ∷ signed_decimal tolerance ∷ codes " seconds" ∷ [])

-- a moment, the Time Stamp, and how far they may be apart
abbrev pub moment_lines : FarMoment → List ℕ
moment_lines m = moment_line m.moment ++ (stamp_line m.stamp ++ tolerance_line m.tolerance)

-- ---- fills and births

abbrev pub part_name : Part → List ℕ
part_name part.Fill = codes "fill"
part_name part.Birth = codes "birth"

-- which fill or birth it is, and for which item
abbrev pub part_line : Part → ℕ → ℤ → List ℕ
part_line which number item = line (part_name which ∷ codes ": " ∷ decimal number ∷ codes ", for item " ∷ signed_decimal item ∷ [])

-- what an operation doesn't do whose item needs none
abbrev pub needless_text : Part → List ℕ
needless_text part.Fill = codes "whose payload is never wanted"
needless_text part.Birth = codes "which makes no object"

-- which item has none
abbrev pub item_line : ℕ → List ℕ
item_line item = line (codes "item: " ∷ decimal item ∷ [])

-- why it isn't wanted
abbrev pub unwanted_lines : Part → Unwanted → List ℕ
unwanted_lines which (unwanted.Unanswered answered) = answered_line answered
unwanted_lines which (unwanted.Status status) = line (codes "status: " ∷ status_text status ∷ [])
unwanted_lines which unwanted.Present = line (codes "payload: there" ∷ [])
unwanted_lines which (unwanted.Needless number) = line (codes "operation: " ∷ operation_text number ∷ codes ", " ∷ needless_text which ∷ [])
unwanted_lines which (unwanted.Operations asked answered) = line (codes "asked: " ∷ operation_text asked ∷ codes "\nanswered: " ∷ operation_text answered ∷ [])
unwanted_lines which (unwanted.Second number) = line (codes "named before: " ∷ part_name which ∷ codes " " ∷ decimal number ∷ [])

-- which isn't of its form, and why
abbrev pub formless_lines : FormlessFill → List ℕ
formless_lines f = line (codes "fill: " ∷ decimal f.fill ∷ codes ", for item " ∷ decimal f.item ∷ codes "\noperation: " ∷ operation_text f.operation ∷ codes "\npayload: outside kind "
    ∷ decimal (kind_number f.kind) ∷ codes " " ∷ kind_name f.kind ∷ [])

-- ---- what is wanted

abbrev pub order_wanted_text : Wrong → List ℕ
order_wanted_text (wrong.Unanswered place) = codes "each answered item once"
order_wanted_text (wrong.Twice place) = codes "each answered item once"
order_wanted_text (wrong.LeftOut item) = codes "each answered item once"
order_wanted_text (wrong.NotLast item) = codes "the first failed item last"

abbrev pub fill_wanted_text : Unwanted → List ℕ
fill_wanted_text (unwanted.Unanswered answered) = codes "no fill for this item"
fill_wanted_text (unwanted.Status status) = codes "no fill for this item"
fill_wanted_text unwanted.Present = codes "no fill for this item"
fill_wanted_text (unwanted.Needless number) = codes "no fill for this item"
fill_wanted_text (unwanted.Operations asked answered) = codes "no fill for this item"
fill_wanted_text (unwanted.Second fill) = codes "one fill for an item"

abbrev pub birth_wanted_text : Unwanted → List ℕ
birth_wanted_text (unwanted.Unanswered answered) = codes "no birth for this item"
birth_wanted_text (unwanted.Status status) = codes "no birth for this item"
birth_wanted_text unwanted.Present = codes "no birth for this item"
birth_wanted_text (unwanted.Needless number) = codes "no birth for this item"
birth_wanted_text (unwanted.Operations asked answered) = codes "no birth for this item"
birth_wanted_text (unwanted.Second number) = codes "one birth for an item"

abbrev pub wanted_text : Unfit → List ℕ
wanted_text (unfit.Unknown count) = codes "the number of a call of the transcript"
wanted_text (unfit.Twice turn) = codes "one turn for a call"
wanted_text (unfit.LeftOut operations) = codes "a turn, since the call has ended"
wanted_text unfit.Ended = codes "no answer, since the call has ended"
wanted_text unfit.Open = codes "an answer, since the call has not ended"
wanted_text (unfit.Answer o) = codes "an answer that is not outside"
wanted_text (unfit.Ordered o) = codes "no places"
wanted_text (unfit.Disordered d) = order_wanted_text d.wrong
wanted_text (unfit.FillUnwanted u) = fill_wanted_text u.why
wanted_text (unfit.FillMissing m) = codes "a fill with the item's Response Payload"
wanted_text (unfit.FillFormless f) = codes "a Response Payload of this operation"
wanted_text (unfit.Untimely m) = codes "a moment within the tolerance"
wanted_text (unfit.BirthUnwanted u) = birth_wanted_text u.why
wanted_text (unfit.BirthFormless f) = codes "a birth of attributes that the server itself may give"
wanted_text (unfit.Aside item) = codes "no item that is set aside"
