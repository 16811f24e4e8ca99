-- The stamp of the one call of a number.
use Rattle.std.proofs.Common.{◌≡◌, ◌≢◌, ◌<◌, inl, inr, ℕ, ℤ, List, length, map, get_or, Contains, Option, Some, None, slice_get, option_map, Result, Ok, Err, refl, sym, ap, ◌∙◌, subst, arith}
use denote.Bor.{Bor}
use Rattle.std.specs.Prelude.{AllPairs, MatchOption}
use Rattle.std.specs.String.{string_bytes}
use Rattle.std.proofs.lemmas.Option.{get_or_from_slice_get, slice_get-get_or}
use Rattle.kmipa_record.specs.Marks.{MarkOf, begins, ends, AreRecorded, mark_of}
use Rattle.kmipa_record.specs.declared.transcript.Mark
use Rattle.kmipa_record.specs.declared.transcript.Mark.{Mark}
use Rattle.kmipa_record.specs.declared.transcript.Begin.{Begin}
use Rattle.kmipa_record.specs.declared.transcript.End.{End}
use Rattle.kmipa_record.specs.declared.turn.Turn.{Turn}
use Rattle.kmipa_record.specs.Declarations.{DeclarationOf}
use Rattle.kmipa_record.specs.Witnesses.{TurnOf, turn_of}
use Rattle.kmipa_msgs.specs.Messages.{RequestOf, ResponseOf, response_of}
use Rattle.kmipa_msgs.specs.Requests.{SaysRequest, RequestFault}
use Rattle.kmipa_msgs.specs.Responses.{SaysResponse, ResponseFault}
use Rattle.kmipa_msgs.specs.declared.response.Response.{Response}
use Rattle.kmipa_check.specs.Steps.{StepOf, IsAnswered, recorded, given}
use Rattle.kmipa_check.specs.Calls.{CallOf, AreRequest, AreResponse, HasBegin, HasEnd, IsEnded, has_ended, is_open, IsRecorded}
use Rattle.kmipa_check.specs.CallReading.{RequestRead, AnswerRead}
use Rattle.kmipa_check.specs.Stamps.{IsAnsweredAt, by_mark, by_turn, TellsStamp, BeginsAt, EndsAt, AnswersAt, IsMessage, of_mark, of_turn, ResponseSaid}
use Rattle.kmipa_check.specs.declared.fault.StepFault.{StepFault}
use Rattle.kmipa_check.specs.declared.fault.StepFault.TheVariants.{Unfit, Memory}
use Rattle.kmipa_check.specs.declared.fault.WitnessKind.{WitnessKind}
use Rattle.kmipa_msgs.specs.declared.fault.Outside as Message
use Rattle.kmipa_check.specs.declared.fault.CheckFault.{CheckFault}
use Rattle.kmipa_check.specs.declared.fault.CheckFault.TheVariants.{Outside}
use Rattle.kmipa_check.specs.declared.fault.Side.{Side}
use Rattle.kmipa_check.specs.declared.verdict.Refused.{Refused}
use Rattle.kmipa_check.specs.declared.verdict.Verdict.TheVariants.{No}
use Rattle.kmipa_check.specs.Grants.{GrantsOf, grants_declared}
use Rattle.kmipa_check.specs.Orders.{IsOrder}
use Rattle.kmipa_check.specs.Verdicts.{TellsVerdict}
use Rattle.kmipa_check.proofs.PlaceLemmas.{apart, mapped_at, contains_at, at_contains, at_within, some_at}
use Rattle.kmipa_check.proofs.MessageLemmas.{not_outside, same_message}
use Rattle.kmipa_check.proofs.RecordedLemmas.{same_begin, same_end}

-- ---- the mark at a place

pub begins_here : (marks : List Mark) (place : ℕ) (mark : Mark) (number : ℤ) (asked : List ℕ) → place < length marks → mark ≡ get_or marks place mark
    → BeginsAt (map mark_of marks) number asked place → (b : Begin) × (mark ≡ Mark.TheVariants.Begin b) × (b.call ≡ number)
begins_here marks place (Mark.TheVariants.Begin b) number asked below is at =
    let same : Some (begins b.call (string_bytes b.client) b.message.items) ≡ Some (begins number at.client asked) = sym (mapped_at mark_of marks place (Mark.TheVariants.Begin b) below is) ∙ at.there in
    let numbers : b.call ≡ number = cc in
    (b, refl, numbers)
begins_here marks place (Mark.TheVariants.End e) number asked below is at =
    let clash : Some (ends e.call e.message.items) ≡ Some (begins number at.client asked) = sym (mapped_at mark_of marks place (Mark.TheVariants.End e) below is) ∙ at.there in
    absurd cc

pub ends_here : (marks : List Mark) (place : ℕ) (mark : Mark) (number : ℤ) (answered : List ℕ) → place < length marks → mark ≡ get_or marks place mark
    → EndsAt (map mark_of marks) number answered place → (e : End) × (mark ≡ Mark.TheVariants.End e) × (e.call ≡ number)
ends_here marks place (Mark.TheVariants.Begin b) number answered below is at =
    let clash : Some (begins b.call (string_bytes b.client) b.message.items) ≡ Some (ends number answered) = sym (mapped_at mark_of marks place (Mark.TheVariants.Begin b) below is) ∙ at in
    absurd cc
ends_here marks place (Mark.TheVariants.End e) number answered below is at =
    let same : Some (ends e.call e.message.items) ≡ Some (ends number answered) = sym (mapped_at mark_of marks place (Mark.TheVariants.End e) below is) ∙ at in
    let numbers : e.call ≡ number = cc in
    (e, refl, numbers)

-- ---- the messages

pub response_reported : (asked bytes : List ℕ) (request : RequestOf) (r : Result Response StepFault) → AreRequest asked request → AnswerRead request bytes r → ResponseSaid asked bytes r
response_reported asked bytes request (Ok response) said h = (request, said, h)
response_reported asked bytes request (Err (Unfit kind)) said (is, (item, reason, out)) = λ other response heard reported.
    let same : other ≡ request = same_message SaysRequest RequestFault asked other request heard said in
    let P : RequestOf → Type 0 = λ q. AreResponse q bytes response in
    not_outside (λ t. SaysResponse t request) (λ t. ResponseFault t request) bytes response item reason (subst P same reported) out
response_reported asked bytes request (Err Memory) said h = tt

pub request_unsaid : (asked : List ℕ) (number : ℤ) (fault : CheckFault) (n : ℤ) (side : Side) (o : Message.Outside) → fault ≡ Outside n side o → RequestRead number asked (Err fault)
    → (request : RequestOf) (response : ResponseOf) (bytes : List ℕ) → AreRequest asked request → AreResponse request bytes response → ⊥
request_unsaid asked number fault n side o is h request response bytes said reported =
    let P : CheckFault → Type 0 = λ f. RequestRead number asked (Err f) in
    let there = subst P is h in
    not_outside SaysRequest RequestFault asked request o.item o.kind said there.2

-- ---- the call

-- a call with these marks and messages is recorded so
module _ (marks : List MarkOf) (number : ℤ) (asked : List ℕ) (begin : ℕ) (b : HasBegin marks number begin asked) (request : RequestOf) (said : AreRequest asked request) where
  pub answered_at : (turns : List TurnOf) (bytes : List ℕ) (response : ResponseOf) → IsMessage marks turns number bytes → AreResponse request bytes response → IsAnsweredAt marks turns number response.stamp
  answered_at turns bytes response (of_mark end h) says =
      by_mark (record { number = number; begin = begin; end = Some end; request = request; response = Some response }) response
      (record { asked = asked; carried = b; request = said; ended = has_ended end bytes response h says refl refl }) refl refl refl
  answered_at turns bytes response (of_turn none place a) says =
      by_turn (record { number = number; begin = begin; end = None; request = request; response = None }) a.turn bytes response
      (record { asked = asked; carried = b; request = said; ended = is_open none refl refl }) refl refl (contains_at turns place a.turn a.there) a.named a.answer says refl

-- ---- the turn that answers a call

pub answers_here : (turns : List Turn) (place : ℕ) (turn : Turn) (number : ℤ) (bytes : List ℕ) → place < length turns → turn ≡ get_or turns place turn → AnswersAt (map turn_of turns) number bytes place
    → (turn.call ≡ number) × ((turn_of turn).answer ≡ Some bytes)
answers_here turns place turn number bytes below is a =
    let same : Some (turn_of turn) ≡ Some a.turn = sym (mapped_at turn_of turns place turn below is) ∙ a.there in
    let equal : a.turn ≡ turn_of turn = cc in
    let P : TurnOf → Type 0 = λ t. (t.call ≡ number) × (t.answer ≡ Some bytes) in
    subst P equal (a.named, a.answer)

pub answers_at : (turns : List Turn) (place : ℕ) (turn : Turn) (number : ℤ) (bytes : List ℕ) → place < length turns → turn ≡ get_or turns place turn → turn.call ≡ number → (turn_of turn).answer ≡ Some bytes
    → AnswersAt (map turn_of turns) number bytes place
answers_at turns place turn number bytes below is named answer = record { turn = turn_of turn; there = mapped_at turn_of turns place turn below is; named = named; answer = answer }

-- ---- where none is reported

none_of : (marks : List MarkOf) (turns : List TurnOf) (number : ℤ) → ((c : CallOf) (response : ResponseOf) → IsRecorded marks c → c.number ≡ number → c.response ≡ Some response → ⊥)
    → ((c : CallOf) (t : TurnOf) (bytes : List ℕ) (response : ResponseOf) → IsRecorded marks c → c.number ≡ number → c.response ≡ None → Contains turns t → t.call ≡ number → t.answer ≡ Some bytes
    → AreResponse c.request bytes response → ⊥)
    → (stamp : ℤ) → IsAnsweredAt marks turns number stamp → ⊥
none_of marks turns number no_mark no_turn stamp (by_mark c response is same had at) = no_mark c response is same had
none_of marks turns number no_mark no_turn stamp (by_turn c t bytes response is same had one named some says at) = no_turn c t bytes response is same had one named some says

-- the message that answers a recorded call
message_of_mark : (marks : List MarkOf) (turns : List TurnOf) (number : ℤ) (c : CallOf) (response : ResponseOf) → IsRecorded marks c → c.number ≡ number → c.response ≡ Some response
    → (bytes : List ℕ) × IsMessage marks turns number bytes × AreResponse c.request bytes response
message_of_mark marks turns number c response is same had = by is.ended
  where
    by : IsEnded marks c → (bytes : List ℕ) × IsMessage marks turns number bytes × AreResponse c.request bytes response
    by (has_ended end bytes other h says close reported) =
        let equal : other ≡ response = cc in
        let P : ResponseOf → Type 0 = λ r. AreResponse c.request bytes r in
        let Q : ℤ → Type 0 = λ n. HasEnd marks n end bytes in
        (bytes, of_mark end (subst Q same h), subst P equal says)
    by (is_open none close reported) = absurd cc

message_of_turn : (marks : List MarkOf) (turns : List TurnOf) (number : ℤ) (c : CallOf) (t : TurnOf) (bytes : List ℕ) → IsRecorded marks c → c.number ≡ number → c.response ≡ None → Contains turns t
    → t.call ≡ number → t.answer ≡ Some bytes → IsMessage marks turns number bytes
message_of_turn marks turns number c t bytes is same had one named some = by is.ended (at_contains turns t one)
  where
    by : IsEnded marks c → (i : ℕ) × (slice_get turns i ≡ Some t) → IsMessage marks turns number bytes
    by (has_ended end answered other h says close reported) p = absurd cc
    by (is_open none close reported) p =
        let Q : ℤ → Type 0 = λ n. (end : ℕ) (answered : List ℕ) → HasEnd marks n end answered → ⊥ in
        of_turn (subst Q same none) p.0 (record { turn = t; there = p.1; named = named; answer = some })

turn_before : (turns : List TurnOf) → AllPairs (λ (t u : TurnOf). t.call ≢ u.call) turns → (i j : ℕ) (t u : TurnOf) → i < j → slice_get turns i ≡ Some t → slice_get turns j ≡ Some u → t.call ≡ u.call → ⊥
turn_before turns once i j t u before at there same =
    once i j t before (at_within turns j u there)
    (ap (λ (x : TurnOf). x.call) (get_or_from_slice_get turns i t t at) ∙ same ∙ sym (ap (λ (x : TurnOf). x.call) (get_or_from_slice_get turns j u t there)))

same_turn : (turns : List TurnOf) → AllPairs (λ (t u : TurnOf). t.call ≢ u.call) turns → (i j : ℕ) (t u : TurnOf) → slice_get turns i ≡ Some t → slice_get turns j ≡ Some u → t.call ≡ u.call → t ≡ u
same_turn turns once i j t u at there same = elim (apart i j) [
  | inl h ↦ absurd (turn_before turns once i j t u h at there same)
  | inr g ↦ elim g [ inl h ↦ absurd (turn_before turns once j i u t h there at (sym same)) | inr e ↦ cc ]
]

one_message : (marks : List MarkOf) (turns : List TurnOf) (number : ℤ) (bytes others : List ℕ) → AreRecorded marks → AllPairs (λ (t u : TurnOf). t.call ≢ u.call) turns → IsMessage marks turns number bytes
    → IsMessage marks turns number others → bytes ≡ others
one_message marks turns number bytes others r once (of_mark e h) (of_mark f k) = (same_end marks number e f bytes others r h k).1
one_message marks turns number bytes others r once (of_mark e h) (of_turn none place a) = absurd (none e bytes h)
one_message marks turns number bytes others r once (of_turn none place a) (of_mark f k) = absurd (none f others k)
one_message marks turns number bytes others r once (of_turn none place a) (of_turn never other u) =
    let same = same_turn turns once place other a.turn u.turn a.there u.there (a.named ∙ sym u.named) in
    let x = a.answer in
    let y = u.answer in
    cc

pub unbegun : (marks : List MarkOf) (turns : List TurnOf) (number : ℤ) → ((place : ℕ) (asked : List ℕ) → ¬ (BeginsAt marks number asked place)) → TellsStamp marks turns number None
unbegun marks turns number none r once = none_of marks turns number (λ c response is same had. by c is same) (λ c t bytes response is same had one named some says. by c is same)
  where
    by : (c : CallOf) → IsRecorded marks c → c.number ≡ number → ⊥
    by c is same = let P : ℤ → Type 0 = λ n. HasBegin marks n c.begin is.asked in none c.begin is.asked (subst P same is.carried)

pub unanswered : (marks : List MarkOf) (turns : List TurnOf) (number : ℤ) → ((bytes : List ℕ) → ¬ (IsMessage marks turns number bytes)) → TellsStamp marks turns number None
unanswered marks turns number none r once =
    none_of marks turns number (λ c response is same had. let m = message_of_mark marks turns number c response is same had in none m.0 m.1)
    (λ c t bytes response is same had one named some says. none bytes (message_of_turn marks turns number c t bytes is same had one named some))

pub unsaid : (marks : List MarkOf) (turns : List TurnOf) (number : ℤ) (asked bytes : List ℕ) (begin : ℕ) → HasBegin marks number begin asked → IsMessage marks turns number bytes
    → ((request : RequestOf) (response : ResponseOf) → AreRequest asked request → AreResponse request bytes response → ⊥) → TellsStamp marks turns number None
unsaid marks turns number asked bytes begin b m none r once =
    none_of marks turns number (λ c response is same had. let n = message_of_mark marks turns number c response is same had in by c n.0 response is same n.1 n.2)
    (λ c t others response is same had one named some says. by c others response is same (message_of_turn marks turns number c t others is same had one named some) says)
  where
    by : (c : CallOf) (others : List ℕ) (response : ResponseOf) → IsRecorded marks c → c.number ≡ number → IsMessage marks turns number others → AreResponse c.request others response → ⊥
    by c others response is same n says =
        let P : ℤ → Type 0 = λ z. HasBegin marks z c.begin is.asked in
        let q = same_begin marks number c.begin begin is.asked asked r (subst P same is.carried) b in
        let R : List ℕ → Type 0 = λ bs. AreRequest bs c.request in
        let S : List ℕ → Type 0 = λ bs. AreResponse c.request bs response in
        none c.request response (subst R q.1 is.request) (subst S (one_message marks turns number others bytes r once n m) says)

-- ---- the same of the program's values

-- the begin mark of a number, and the message that answers it
pub record BothAt (items : List Mark) (turns : List Turn) (number : ℤ) (asked bytes : List ℕ) : Type 0 where
  begin : ℕ
  begins : HasBegin (map mark_of items) number begin asked
  message : IsMessage (map mark_of items) (map turn_of turns) number bytes

pub both_at : (lent lent' items : List Mark) (taken turns : List Turn) (n number : ℤ) (asked bytes : List ℕ) → lent ≡ items → lent' ≡ items → taken ≡ turns → n ≡ number
    → ((place : ℕ) × BeginsAt (map mark_of lent) n asked place) → IsMessage (map mark_of lent') (map turn_of taken) n bytes → BothAt items turns number asked bytes
both_at lent lent' items taken turns n number asked bytes e e' g f b m =
    let P : List Mark → Type 0 = λ marks. HasBegin (map mark_of marks) n b.0 asked in
    let Q : ℤ → Type 0 = λ z. HasBegin (map mark_of items) z b.0 asked in
    let R : List Mark → Type 0 = λ marks. IsMessage (map mark_of marks) (map turn_of taken) n bytes in
    let S : List Turn → Type 0 = λ ts. IsMessage (map mark_of items) (map turn_of ts) n bytes in
    let T : ℤ → Type 0 = λ z. IsMessage (map mark_of items) (map turn_of turns) z bytes in
    record { begin = b.0; begins = subst Q f (subst P e b.1); message = subst T f (subst S g (subst R e' m)) }

pub stamp_reported : (items : List Mark) (turns : List Turn) (number : ℤ) (asked bytes : List ℕ) (response : Response) (stamp : ℤ) → BothAt items turns number asked bytes → ResponseSaid asked bytes (Ok response)
    → stamp ≡ response.stamp → IsAnsweredAt (map mark_of items) (map turn_of turns) number stamp
stamp_reported items turns number asked bytes response stamp both read e =
    let P : ℤ → Type 0 = λ z. IsAnsweredAt (map mark_of items) (map turn_of turns) number z in
    subst P (sym e) (answered_at (map mark_of items) number asked both.begin both.begins read.0 read.1 (map turn_of turns) bytes (response_of response) both.message read.2)

pub none_reported : (items : List Mark) (turns : List Turn) (number : ℤ) (asked bytes : List ℕ) (fault : StepFault) (kind : WitnessKind) → BothAt items turns number asked bytes
    → fault ≡ Unfit kind → ResponseSaid asked bytes (Err fault) → TellsStamp (map mark_of items) (map turn_of turns) number None
none_reported items turns number asked bytes fault kind both e read =
    let P : StepFault → Type 0 = λ f. ResponseSaid asked bytes (Err f) in
    unsaid (map mark_of items) (map turn_of turns) number asked bytes both.begin both.begins both.message (subst P e read)

pub none_begun : (lent items : List Mark) (turns : List Turn) (n number : ℤ) → lent ≡ items → n ≡ number → ((place : ℕ) (asked : List ℕ) → ¬ (BeginsAt (map mark_of lent) n asked place))
    → TellsStamp (map mark_of items) (map turn_of turns) number None
none_begun lent items turns n number e f none =
    let P : List Mark → Type 0 = λ marks. (place : ℕ) (asked : List ℕ) → ¬ (BeginsAt (map mark_of marks) n asked place) in
    let Q : ℤ → Type 0 = λ z. (place : ℕ) (asked : List ℕ) → ¬ (BeginsAt (map mark_of items) z asked place) in
    unbegun (map mark_of items) (map turn_of turns) number (subst Q f (subst P e none))

pub none_answered : (lent items : List Mark) (taken turns : List Turn) (n number : ℤ) → lent ≡ items → taken ≡ turns → n ≡ number
    → ((bytes : List ℕ) → ¬ (IsMessage (map mark_of lent) (map turn_of taken) n bytes)) → TellsStamp (map mark_of items) (map turn_of turns) number None
none_answered lent items taken turns n number e g f none =
    let P : List Mark → Type 0 = λ marks. (bytes : List ℕ) → ¬ (IsMessage (map mark_of marks) (map turn_of taken) n bytes) in
    let R : List Turn → Type 0 = λ ts. (bytes : List ℕ) → ¬ (IsMessage (map mark_of items) (map turn_of ts) n bytes) in
    let Q : ℤ → Type 0 = λ z. (bytes : List ℕ) → ¬ (IsMessage (map mark_of items) (map turn_of turns) z bytes) in
    unanswered (map mark_of items) (map turn_of turns) number (subst Q f (subst R g (subst P e none)))

-- the message of an end mark, and else that of a turn
pub message_ended : (marks : List MarkOf) (turns : List TurnOf) (n number : ℤ) (bytes lent : List ℕ) → n ≡ number → lent ≡ bytes → ((place : ℕ) × EndsAt marks n bytes place) → IsMessage marks turns number lent
message_ended marks turns n number bytes lent f e h =
    let P : List ℕ → Type 0 = λ bs. IsMessage marks turns number bs in
    let Q : ℤ → Type 0 = λ z. EndsAt marks z bytes h.0 in
    subst P (sym e) (of_mark h.0 (subst Q f h.1))

pub message_else : (marks : List MarkOf) (turns : List TurnOf) (n number : ℤ) (r : Option (Bor (List ℕ))) → n ≡ number → ((place : ℕ) (answered : List ℕ) → ¬ (EndsAt marks n answered place))
    → MatchOption r ((place : ℕ) (bytes : List ℕ) → ¬ (AnswersAt turns n bytes place)) (λ answer. (place : ℕ) × AnswersAt turns n answer.now place)
    → MatchOption r ((bytes : List ℕ) → ¬ (IsMessage marks turns number bytes)) (λ bytes. IsMessage marks turns number bytes.now)
message_else marks turns n number None f none h = λ bytes m.
    let P : ℤ → Type 0 = λ z. (place : ℕ) (answered : List ℕ) → ¬ (EndsAt marks z answered place) in
    let Q : ℤ → Type 0 = λ z. (place : ℕ) (bytes : List ℕ) → ¬ (AnswersAt turns z bytes place) in
    by bytes (subst P f none) (subst Q f h) m
  where
    by : (bytes : List ℕ) → ((place : ℕ) (answered : List ℕ) → ¬ (EndsAt marks number answered place)) → ((place : ℕ) (bytes : List ℕ) → ¬ (AnswersAt turns number bytes place)) → IsMessage marks turns number bytes → ⊥
    by bytes no_end no_answer (of_mark place e) = no_end place bytes e
    by bytes no_end no_answer (of_turn never place a) = no_answer place bytes a
message_else marks turns n number (Some answer) f none h =
    let P : ℤ → Type 0 = λ z. (place : ℕ) (answered : List ℕ) → ¬ (EndsAt marks z answered place) in
    let Q : ℤ → Type 0 = λ z. AnswersAt turns z answer.now h.0 in
    of_turn (subst P f none) h.0 (subst Q f h.1)

pub none_given : {X Y : Type 0} (f : X → Y) (o : Option X) (y : Y) → o ≡ None → option_map f o ≡ Some y → ⊥
none_given f None y e h = absurd cc
none_given f (Some x) y e h = absurd cc

-- ---- the call of a no

-- an order names no call twice
turns_once : (g : GrantsOf) (calls : List CallOf) (turns : List TurnOf) (order : List StepOf) → IsOrder g calls turns order → AllPairs (λ (t u : TurnOf). t.call ≢ u.call) turns
turns_once g calls turns order o i j d before within same =
    let s = some_at order j (omega (arith, within, o.counted)) in
    let f = o.formed j s.0 s.1 in
    let at = slice_get-get_or turns i d (omega (arith, before, within)) in
    let there = slice_get-get_or turns j d within in
    let here = f.there in
    let turn : get_or turns j d ≡ f.turn = cc in
    f.first (i, before, (get_or turns i d, at, same ∙ ap (λ (t : TurnOf). t.call) turn))

-- the call that a no names has a response with a Time Stamp
pub refused_answered : (marks : List MarkOf) (declared : DeclarationOf) (turns : List TurnOf) (r : Refused) → AreRecorded marks → TellsVerdict marks declared turns (No r)
    → TellsStamp marks turns r.call None → ⊥
refused_answered marks declared turns r recorded_marks (calls, are, (order, is, refused)) none =
    let formed = is.formed refused.turn refused.call refused.there in
    let known = formed.known in
    let P : CallOf → Type 0 = λ c. IsRecorded marks c in
    let made : refused.call.number ≡ formed.call.number = ap (λ (s : StepOf). s.number) formed.step.is in
    let number : formed.call.number ≡ r.call = sym made ∙ refused.number in
    none recorded_marks (turns_once (grants_declared declared) calls turns order is) formed.step.response.stamp
    (by formed.call formed.turn formed.step.response (subst P known.2 (are.recorded known.0 formed.call known.1)) number
    (contains_at turns refused.turn formed.turn formed.there) (formed.step.named ∙ number) formed.step.answered)
  where
    by : (c : CallOf) (t : TurnOf) (response : ResponseOf) → IsRecorded marks c → c.number ≡ r.call → Contains turns t → t.call ≡ r.call → IsAnswered c t response
        → IsAnsweredAt marks turns r.call response.stamp
    by c t response is number one named (recorded had unanswered_turn) = by_mark c response is number had refl
    by c t response is number one named (given bytes unended some says) = by_turn c t bytes response is number unended one named some says refl
