-- What a call says can be judged, where the payloads that it waits for are put in.
use Rattle.std.proofs.Common.{◌≡◌, ◌⊎◌, inl, inr, ◌==◌, ◌||◌, not, if◌then◌else◌, ℕ, zero, suc, Bool, true, false, List, [], ◌∷◌, Option, Some, None, slice_get, refl, sym, ap, ◌∙◌, subst, arith}
use Rattle.std.proofs.lemmas.Bool.Decides.{nat_tests}
use Rattle.kmipa_ttlv.specs.Tree.{Tree}
use Rattle.kmipa_attrs.specs.Tags.{operation_tag, response_payload}
use Rattle.kmipa_attrs.specs.declared.fields.Field.{Field}
use Rattle.kmipa_attrs.specs.declared.fields.Field.TheVariants.{Absent, Wrong, There}
use Rattle.kmipa_attrs.specs.Readings.{Optional}
use Rattle.kmipa_attrs.specs.Fields.{first, at, as_enumeration}
use Rattle.kmipa_attrs.specs.Sets.{Attributes}
use Rattle.kmipa_msgs.specs.declared.operation.Operation.{Operation}
use Rattle.kmipa_msgs.specs.declared.response.Status.{Status}
use Rattle.kmipa_msgs.specs.declared.response.Status.TheVariants.{Success, Failed, Undone}
use Rattle.kmipa_msgs.specs.Operations.{operation_number, is_judged}
use Rattle.kmipa_msgs.specs.Messages.{AskedOf, creates, registers, locates, gets, gets_attributes, activates, revokes, destroys, idles, does_other, AskOf, operation_asked, PayloadOf, AnswerOf, RequestOf, ResponseOf}
use Rattle.kmipa_msgs.specs.Tables.{children}
use Rattle.kmipa_msgs.specs.Headers.{batch}
use Rattle.kmipa_msgs.specs.Outside.{SaysEach}
use Rattle.kmipa_msgs.specs.Replies.{own, or_empty, SaysRequired, SaysMaybe, filled, SaysJudged, SaysShown, SaysAnswer}
use Rattle.kmipa_msgs.specs.Wanted.{NeedsPayload, IsOwn, Wanted}
use Rattle.kmipa_ops.specs.Objects.{is_other}
use Rattle.kmipa_ops.specs.Completes.{can_judge, has_payload, is_idle, is_of, may_have, may_lack}
use Rattle.kmipa_ops.specs.Explains.{is_readable}
use Rattle.kmipa_ops.proofs.SayableLemmas.{payload_said}
use Rattle.kmipa_batch.specs.Calls.{pairs_of}
use Rattle.kmipa_batch.specs.Readable.{AreReadable, IsReadableCall}
use Rattle.kmipa_record.specs.Marks.{MarkOf}
use Rattle.kmipa_record.specs.Witnesses.{BirthOf, FillOf, TurnOf}
use Rattle.kmipa_check.specs.Births.{IsBorn, IsBornAt, as_asked, asked_with, completed, with_birth}
use Rattle.kmipa_check.specs.Calls.{CallOf, AreResponse, IsEnded, has_ended, is_open, IsRecorded}
use Rattle.kmipa_check.specs.Fills.{SaysFill, with_payload, IsFilledAt, stays, put_in, IsFilled}
use Rattle.kmipa_check.specs.Grants.{GrantsOf}
use Rattle.kmipa_check.specs.Steps.{StepOf, IsAnswered, recorded, given, IsStep}
use Rattle.kmipa_check.proofs.FillLemmas.{pair_at, pair_left, pair_right}
use Rattle.kmipa_check.proofs.FillingLemmas.{is_wanted_here}
use Rattle.kmipa_check.proofs.PlaceLemmas.{some_at, at_within}

required : (asked : AskedOf) (t : Option Tree) (p : Option PayloadOf) → SaysRequired (operation_asked asked) t p → has_payload asked p ≡ true
required asked (Some t) (Some p) h = (payload_said asked t p h).0
required asked (Some t) None h = absurd h
required asked None p h = absurd h

maybe : (asked : AskedOf) (t : Option Tree) (p : Option PayloadOf) → SaysMaybe (operation_asked asked) t p → (p ≡ None → may_lack asked ≡ true) → may_have asked p ≡ true
maybe asked None None h lacks = lacks refl
maybe asked None (Some p) h lacks = absurd h
maybe asked (Some t) (Some p) h lacks = (payload_said asked t p h).0
maybe asked (Some t) None h lacks = absurd h

judged : (asked : AskedOf) (status : Status) (t : Option Tree) (p : Option PayloadOf) → SaysJudged (operation_asked asked) status t p → (status ≡ Undone → p ≡ None → may_lack asked ≡ true)
    → can_judge status asked p ≡ true
judged asked Success t p h lacks = required asked (or_empty (operation_asked asked) t) p h
judged asked Failed t p h lacks = refl
judged asked Undone t p h lacks = maybe asked (filled t) p h (lacks refl)

shown : (asked : AskedOf) (status : Status) (t : Option Tree) (p : Option PayloadOf) → SaysShown (Some (operation_asked asked)) status t p
    → (is_judged (operation_asked asked) ≡ true → status ≡ Undone → p ≡ None → may_lack asked ≡ true) → can_judge status asked p ≡ true
shown (idles number) Success t p h lacks = ap (has_payload (idles number)) h
shown (idles number) Failed t p h lacks = refl
shown (idles number) Undone t p h lacks = ap (may_have (idles number)) h
shown (does_other number) Success t p h lacks = absurd h
shown (does_other number) Failed t p h lacks = refl
shown (does_other number) Undone t p h lacks = absurd h
shown asked status t p h lacks = judged asked status t p h (lacks refl)

own_of : (number : ℕ) (operation : Option ℕ) → (operation ≡ None) ⊎ (operation ≡ Some number) → IsOwn number operation
own_of number operation (inl e) = let P : Option ℕ → Type 0 = λ o. IsOwn number o in subst P (sym e) tt
own_of number operation (inr e) = let P : Option ℕ → Type 0 = λ o. IsOwn number o in subst P (sym e) refl

needed : (asked : AskedOf) (ask : AskOf) (answer : AnswerOf) → NeedsPayload (operation_asked asked) → ask.asked ≡ asked → (Wanted ask answer → ⊥)
    → (answer.operation ≡ None) ⊎ (answer.operation ≡ Some (operation_number (operation_asked ask.asked))) → answer.status ≡ Undone → answer.payload ≡ None → ⊥
needed asked ask answer needs is never own undone absent =
    let P : AskedOf → Type 0 = λ a. NeedsPayload (operation_asked a) in
    never (record { asks = subst P (sym is) needs; own = own_of (operation_number (operation_asked ask.asked)) answer.operation own; undone = undone; absent = absent })

lacks_of : (asked : AskedOf) (ask : AskOf) (answer : AnswerOf) → ask.asked ≡ asked → (Wanted ask answer → ⊥)
    → (answer.operation ≡ None) ⊎ (answer.operation ≡ Some (operation_number (operation_asked ask.asked))) → is_judged (operation_asked asked) ≡ true → answer.status ≡ Undone
    → answer.payload ≡ None → may_lack asked ≡ true
lacks_of (creates a) ask answer is never own judged undone absent = absurd (needed (creates a) ask answer tt is never own undone absent)
lacks_of (registers r) ask answer is never own judged undone absent = absurd (needed (registers r) ask answer tt is never own undone absent)
lacks_of (locates q) ask answer is never own judged undone absent = absurd (needed (locates q) ask answer tt is never own undone absent)
lacks_of (does_other number) ask answer is never own judged undone absent = cc
lacks_of asked ask answer is never own judged undone absent = refl

or_true : (a b : Bool) → b ≡ true → (a || b) ≡ true
or_true true b e = refl
or_true false b e = e

-- at the answer's own operation there is what to judge
own_readable : (ask : AskOf) (answer : AnswerOf) (t : Option Tree) → SaysShown (Some (operation_asked ask.asked)) answer.status t answer.payload → (Wanted ask answer → ⊥)
    → (answer.operation ≡ None) ⊎ (answer.operation ≡ Some (operation_number (operation_asked ask.asked))) → is_readable ask answer ≡ true
own_readable ask answer t h never own =
    or_true (is_other (λ (x y : ℕ). x == y) answer.operation (operation_number (operation_asked ask.asked))) (can_judge answer.status ask.asked answer.payload)
    (shown ask.asked answer.status t answer.payload h (lacks_of ask.asked ask answer refl never own))

-- an answer to an item of the request, by the field of its operation
pub answer_readable : (field : Field ℕ) (ask : AskOf) (answer : AnswerOf) (t : Option Tree) (operation : Option ℕ) → answer.operation ≡ operation → Optional field operation
    → SaysShown (own (Some ask) field) answer.status t answer.payload → (Wanted ask answer → ⊥) → is_readable ask answer ≡ true
answer_readable Absent ask answer t None is o h never = own_readable ask answer t h never (inl is)
answer_readable Absent ask answer t (Some n) is o h never = absurd cc
answer_readable Wrong ask answer t None is o h never = absurd cc
answer_readable Wrong ask answer t (Some n) is o h never = absurd cc
answer_readable (There n) ask answer t None is o h never = absurd cc
answer_readable (There n) ask answer t (Some m) is o h never =
    let same : n ≡ m = cc in
    by n (n == operation_number (operation_asked ask.asked)) refl (is ∙ ap Some (sym same)) h
  where
    by : (n : ℕ) (b : Bool) → (n == operation_number (operation_asked ask.asked)) ≡ b → answer.operation ≡ Some n → SaysShown (if b then Some (operation_asked ask.asked) else None) answer.status t answer.payload
        → is_readable ask answer ≡ true
    by n true e at shows =
        let eq : n ≡ operation_number (operation_asked ask.asked) = grind (arith, nat_tests) in
        own_readable ask answer t shows never (inr (at ∙ ap Some eq))
    by n false e at shows =
        ap (λ (o : Option ℕ). is_other (λ (x y : ℕ). x == y) o (operation_number (operation_asked ask.asked)) || can_judge answer.status ask.asked answer.payload) at
        ∙ ap (λ (b : Bool). not b || can_judge answer.status ask.asked answer.payload) e

-- the answer at a place of the request
readable_at : (asks : List AskOf) (ts : List Tree) (answers : List AnswerOf) (place : ℕ) (ask : AskOf) (answer : AnswerOf) → SaysEach (λ i. SaysAnswer (slice_get asks i)) ts answers
    → slice_get asks place ≡ Some ask → slice_get answers place ≡ Some answer → (Wanted ask answer → ⊥) → is_readable ask answer ≡ true
readable_at [] ts answers place ask answer h asked answered never = absurd cc
readable_at (x ∷ asks) ts [] place ask answer h asked answered never = absurd cc
readable_at (x ∷ asks) [] (y ∷ answers) place ask answer h asked answered never = absurd h
readable_at (x ∷ asks) (t ∷ ts) (y ∷ answers) zero ask answer h asked answered never =
    let a : x ≡ ask = cc in
    let b : y ≡ answer = cc in
    let P : AskOf → Type 0 = λ u. (Wanted u y → ⊥) → is_readable u y ≡ true in
    let Q : AnswerOf → Type 0 = λ u. (Wanted ask u → ⊥) → is_readable ask u ≡ true in
    subst Q b (subst P a (λ n. answer_readable (at as_enumeration operation_tag (children t)) x y (first response_payload (children t)) y.operation refl h.0.operation h.0.payload n)) never
readable_at (x ∷ asks) (t ∷ ts) (y ∷ answers) (suc place) ask answer h asked answered never = readable_at asks ts answers place ask answer h.1 asked answered never

-- pairs are readable where each is
pairs_readable : (pairs : List (AskOf × AnswerOf)) → ((place : ℕ) (ask : AskOf) (answer : AnswerOf) → slice_get pairs place ≡ Some (ask, answer) → is_readable ask answer ≡ true) → AreReadable pairs
pairs_readable [] h = tt
pairs_readable (pair ∷ pairs) h = (h 0 pair.0 pair.1 refl, pairs_readable pairs (λ place ask answer there. h (suc place) ask answer there))

-- an answer that has the payload that its fill says
pub filled_readable : (ask : AskOf) (answer : AnswerOf) (fill : FillOf) (p : PayloadOf) → Wanted ask answer → SaysFill fill ask p → is_readable ask (with_payload answer p) ≡ true
filled_readable ask answer fill p wanted says =
    or_true (is_other (λ (x y : ℕ). x == y) answer.operation (operation_number (operation_asked ask.asked))) (can_judge answer.status ask.asked (Some p))
    (ap (λ (s : Status). can_judge s ask.asked (Some p)) wanted.undone ∙ (payload_said ask.asked fill.payload p says.said).0)

-- a call can be judged where the payloads that it waits for are put in
pub call_readable : (request : RequestOf) (bytes : List ℕ) (response : ResponseOf) → AreResponse request bytes response → (fills : List FillOf) (full : ResponseOf)
    → IsFilled request response fills full → IsReadableCall request full
call_readable request bytes response r fills full f unrefused = pairs_readable (pairs_of request full) (λ place ask answer there. by place ask answer there)
  where
    by : (place : ℕ) (ask : AskOf) (filled : AnswerOf) → slice_get (pairs_of request full) place ≡ Some (ask, filled) → is_readable ask filled ≡ true
    by place ask filled there =
        let asked = pair_left request.items full.items place ask filled there in
        let at = pair_right request.items full.items place ask filled there in
        let answer = some_at response.items place (omega (arith, at_within full.items place filled at, f.counted)) in
        here asked answer.1 (f.each place answer.0 filled answer.1 at)
      where
        here : {answer : AnswerOf} → slice_get request.items place ≡ Some ask → slice_get response.items place ≡ Some answer → IsFilledAt request response fills place answer filled
            → is_readable ask filled ≡ true
        here {answer} asked there (stays none is) =
            let P : AnswerOf → Type 0 = λ x. is_readable ask x ≡ true in
            subst P (sym is) (readable_at request.items (batch r.item) response.items place ask answer r.inside.said.items asked there
            (λ w. none (is_wanted_here request response place ask answer asked there w)))
        here {answer} asked there (put_in other w fill one its p says is) =
            let q = pair_left request.items response.items place other answer w.there in
            let same : other ≡ ask = cc in
            let P : AnswerOf → Type 0 = λ x. is_readable ask x ≡ true in
            let Q : AskOf → Type 0 = λ x. Wanted x answer × SaysFill fill x p in
            let its = subst Q same (w.wanted, says) in
            subst P (sym is) (filled_readable ask answer fill p its.0 its.1)

-- what bytes say is the response of the call by the turn
said_by : (marks : List MarkOf) (c : CallOf) (t : TurnOf) (response : ResponseOf) → IsEnded marks c → IsAnswered c t response → (bytes : List ℕ) × AreResponse c.request bytes response
said_by marks c t response ended (given bytes unended answer says) = (bytes, says)
said_by marks c t response (is_open none ends is) (recorded had unanswered) = absurd cc
said_by marks c t response (has_ended e bytes x h says ends is) (recorded had unanswered) =
    let same : x ≡ response = cc in
    let P : ResponseOf → Type 0 = λ y. AreResponse c.request bytes y in
    (bytes, subst P same says)

-- ---- with births

-- a birth leaves the operation, and what of it can be judged
born_operation : (asked : AskedOf) (a : Attributes) → operation_asked (asked_with asked a) ≡ operation_asked asked
born_operation (creates x) a = refl
born_operation (registers r) a = refl
born_operation (locates q) a = refl
born_operation (gets id) a = refl
born_operation (gets_attributes g) a = refl
born_operation (activates id) a = refl
born_operation (revokes r) a = refl
born_operation (destroys id) a = refl
born_operation (idles number) a = refl
born_operation (does_other number) a = refl

judged_alike : (one other : AskedOf) → is_idle one ≡ is_idle other → may_lack one ≡ may_lack other → ((p : PayloadOf) → is_of one p ≡ is_of other p)
    → (status : Status) (payload : Option PayloadOf) → can_judge status one payload ≡ can_judge status other payload
judged_alike one other idle lacks same Success None = idle
judged_alike one other idle lacks same Success (Some p) = same p
judged_alike one other idle lacks same Failed payload = refl
judged_alike one other idle lacks same Undone None = lacks
judged_alike one other idle lacks same Undone (Some p) = same p

born_judged : (status : Status) (asked : AskedOf) (a : Attributes) (payload : Option PayloadOf) → can_judge status (asked_with asked a) payload ≡ can_judge status asked payload
born_judged status (creates x) a payload = judged_alike (asked_with (creates x) a) (creates x) refl refl (λ p. refl) status payload
born_judged status (registers r) a payload = judged_alike (asked_with (registers r) a) (registers r) refl refl (λ p. refl) status payload
born_judged status (locates q) a payload = refl
born_judged status (gets id) a payload = refl
born_judged status (gets_attributes g) a payload = refl
born_judged status (activates id) a payload = refl
born_judged status (revokes r) a payload = refl
born_judged status (destroys id) a payload = refl
born_judged status (idles number) a payload = refl
born_judged status (does_other number) a payload = refl

born_alike : (ask : AskOf) (answer : AnswerOf) (a : Attributes) → is_readable (with_birth ask a) answer ≡ is_readable ask answer
born_alike ask answer a =
    let judge : Bool = can_judge answer.status (asked_with ask.asked a) answer.payload in
    ap (λ (o : Operation). is_other (λ (x y : ℕ). x == y) answer.operation (operation_number o) || judge) (born_operation ask.asked a)
    ∙ ap (λ (b : Bool). is_other (λ (x y : ℕ). x == y) answer.operation (operation_number (operation_asked ask.asked)) || b) (born_judged answer.status ask.asked a answer.payload)

pub readable_born : (g : GrantsOf) (births : List BirthOf) (place : ℕ) (ask full : AskOf) (answer : AnswerOf) → IsBornAt g births place ask full → is_readable ask answer ≡ true → is_readable full answer ≡ true
readable_born g births place ask full answer (as_asked none is) h = ap (λ (x : AskOf). is_readable x answer) is ∙ h
readable_born g births place ask full answer (completed birth one its a of is) h = ap (λ (x : AskOf). is_readable x answer) is ∙ born_alike ask answer a ∙ h

readable_pair : (pairs : List (AskOf × AnswerOf)) (place : ℕ) (ask : AskOf) (answer : AnswerOf) → AreReadable pairs → slice_get pairs place ≡ Some (ask, answer) → is_readable ask answer ≡ true
readable_pair [] place ask answer h there = absurd cc
readable_pair (pair ∷ pairs) zero ask answer h there =
    let same : pair ≡ (ask, answer) = cc in
    let P : AskOf × AnswerOf → Type 0 = λ p. is_readable p.0 p.1 ≡ true in
    subst P same h.0
readable_pair (pair ∷ pairs) (suc place) ask answer h there = readable_pair pairs place ask answer h.1 there

-- so a call that can be judged can be with the births put in
born_readable : (g : GrantsOf) (request asked : RequestOf) (response full : ResponseOf) (births : List BirthOf) → IsBorn g request response births asked → AreReadable (pairs_of request full)
    → AreReadable (pairs_of asked full)
born_readable g request asked response full births b all = pairs_readable (pairs_of asked full) (λ place ask answer there. by place ask answer there)
  where
    by : (place : ℕ) (born : AskOf) (answer : AnswerOf) → slice_get (pairs_of asked full) place ≡ Some (born, answer) → is_readable born answer ≡ true
    by place born answer there =
        let at = pair_left asked.items full.items place born answer there in
        let answered = pair_right asked.items full.items place born answer there in
        let ask = some_at request.items place (omega (arith, at_within asked.items place born at, b.counted)) in
        let pair = pair_at request.items full.items place ask.0 answer ask.1 answered in
        readable_born g births place ask.0 born answer (b.each place ask.0 born ask.1 at) (readable_pair (pairs_of request full) place ask.0 answer all pair)

pub step_readable : (g : GrantsOf) (marks : List MarkOf) (c : CallOf) (t : TurnOf) (s : StepOf) → IsRecorded marks c → IsStep g c t s → IsReadableCall s.request s.response
step_readable g marks c t s r i =
    let b = said_by marks c t i.response r.ended i.answered in
    let Q : StepOf → Type 0 = λ x. IsReadableCall x.request x.response in
    subst Q (sym i.is) (λ unrefused.
    born_readable g c.request i.asked i.response i.full t.births i.born
    (call_readable c.request b.0 i.response b.1 t.fills i.full i.filled (λ r. unrefused (record { answer = r.answer; alone = r.alone; failed = r.failed; unnamed = r.unnamed }))))
