-- The lowest reason of all, from the frame of an answer and what it says was done.
use Rattle.std.proofs.Common.{◌≡◌, ◌||◌, ◌==◌, ◌++◌, ◌∷◌, [], ℕ, ℤ, Bool, true, false, cond, List, find, bytes_eq, Option, Some, None, refl, ap, sym, ◌∙◌}
use Rattle.std.specs.Option.{option_or}
use Rattle.kmipa_store.specs.Ledger.{Meaning}
use Rattle.kmipa_msgs.specs.declared.response.Status.{Status}
use Rattle.kmipa_msgs.specs.declared.response.Status.TheVariants.{Success, Failed, Undone}
use Rattle.kmipa_msgs.specs.Operations.{operation_number}
use Rattle.kmipa_msgs.specs.Messages.{RulesOf, AskedOf, AskOf, operation_asked, PayloadOf, AnswerOf}
use Rattle.kmipa_ops.specs.declared.why.Why.{Why}
use Rattle.kmipa_ops.specs.declared.why.Why.TheVariants.{NoSuchObject, WrongState, IdentifierTaken, NameTaken, BytesDiffer, LengthImpossible, AttributeDiffers, AttributeMissing, ListedWrongly, ListedTooFew, ReasonUnfounded, OperationDiffers, EchoDiffers}
use Rattle.kmipa_ops.specs.Whys.{whys}
use Rattle.kmipa_ops.specs.Objects.{is_other, clash}
use Rattle.kmipa_ops.specs.Judging.{RowJudging, row_speaks}
use Rattle.kmipa_ops.specs.Row.{Row, deed, idle, unknown, seen_in}
use Rattle.kmipa_ops.specs.Rows.{asked_judging, asked_row}
use Rattle.kmipa_ops.specs.Blame.{IsDoneUnopposed, outcome_speaks, frame_speaks, lowest}
use Rattle.kmipa_ops.proofs.DeedLaws.{outer_whys, IsRow}
use Rattle.kmipa_ops.proofs.RowLemmas.{is_row}
use Rattle.kmipa_ops.proofs.FirstLemmas.{or_or, find-append, find-or}
use Rattle.kmipa_msgs.specs.declared.operation.Operation.{Operation}

-- the reasons between the outer ones and the last
abbrev inner_whys : List Why
inner_whys = NoSuchObject ∷ WrongState ∷ IdentifierTaken ∷ NameTaken ∷ BytesDiffer ∷ LengthImpossible ∷ AttributeDiffers ∷ AttributeMissing ∷ ListedWrongly ∷ ListedTooFew ∷ ReasonUnfounded ∷ []

abbrev last_whys : List Why
last_whys = EchoDiffers ∷ []

row_quiet : (operation : Operation) (row : Row) (j : RowJudging row) → IsRow operation row j → (rules : RulesOf) (m : Meaning) (p : Option (List ℕ)) (t : ℤ) (payload : Option PayloadOf) → find (row_speaks row j rules m p t payload) outer_whys ≡ None
row_quiet operation (deed d) j is rules m p t payload = is.quiet rules m p t (seen_in d payload)
row_quiet operation idle j is rules m p t payload = refl
row_quiet operation unknown j is rules m p t payload = refl

quiet : (status : Status) (rules : RulesOf) (m : Meaning) (p : Option (List ℕ)) (t : ℤ) (asked : AskedOf) (reason : Option ℕ) (payload : Option PayloadOf)
    → find (outcome_speaks status rules m p t asked reason payload) outer_whys ≡ None
quiet Success rules m p t asked reason payload = row_quiet (operation_asked asked) (asked_row asked) (asked_judging asked) (is_row asked) rules m p t payload
quiet Undone rules m p t asked reason payload = row_quiet (operation_asked asked) (asked_row asked) (asked_judging asked) (is_row asked) rules m p t payload
quiet Failed rules m p t asked reason payload = refl

last : (f g : Bool) (w : Why) → cond (f || g) (Some w) None ≡ option_or (cond g (Some w) None) (cond f (Some w) None)
last true true w = refl
last true false w = refl
last false true w = refl
last false false w = refl

first : (b : Bool) (w : Why) (z : Option Why) → option_or (cond b (Some w) None) z ≡ cond b (Some w) z
first true w z = refl
first false w z = refl

-- where the frame speaks only at the last of the outer reasons and at the last of all
split : (ask : AskOf) (answer : AnswerOf) (h : Why → Bool) → find h outer_whys ≡ None
    → find (λ (w : Why). frame_speaks ask answer w || h w) whys
    ≡ cond (frame_speaks ask answer OperationDiffers) (Some OperationDiffers) (option_or (find h whys) (cond (frame_speaks ask answer EchoDiffers) (Some EchoDiffers) None))
split ask answer h q =
    let f : Why → Bool = frame_speaks ask answer in
    let both : Why → Bool = λ w. frame_speaks ask answer w || h w in
    let own : Option Why = cond (frame_speaks ask answer OperationDiffers) (Some OperationDiffers) None in
    let echo : Option Why = cond (frame_speaks ask answer EchoDiffers) (Some EchoDiffers) None in
    let outer : find both outer_whys ≡ own = find-or (frame_speaks ask answer) h outer_whys q in
    let mine : find h whys ≡ option_or (find h inner_whys) (find h last_whys) = find-append h outer_whys (inner_whys ++ last_whys) ∙ ap (λ (o : Option Why). option_or o (find h (inner_whys ++ last_whys))) q ∙ find-append h inner_whys last_whys in
    let rest : find both (inner_whys ++ last_whys) ≡ option_or (find h whys) echo =
    find-append both inner_whys last_whys
    ∙ ap (λ (o : Option Why). option_or (find h inner_whys) o) (last (frame_speaks ask answer EchoDiffers) (h EchoDiffers) EchoDiffers)
    ∙ sym (or_or (find h inner_whys) (find h last_whys) echo)
    ∙ ap (λ (o : Option Why). option_or o echo) (sym mine) in
    find-append both outer_whys (inner_whys ++ last_whys)
    ∙ ap (λ (o : Option Why). option_or o (find both (inner_whys ++ last_whys))) outer
    ∙ ap (λ (o : Option Why). option_or own o) rest
    ∙ first (frame_speaks ask answer OperationDiffers) OperationDiffers (option_or (find h whys) echo)

pub lowest_is : (rules : RulesOf) (m : Meaning) (p : Option (List ℕ)) (t : ℤ) (ask : AskOf) (answer : AnswerOf)
    → lowest rules m p t ask answer
    ≡ cond (is_other (λ (x y : ℕ). x == y) answer.operation (operation_number (operation_asked ask.asked))) (Some OperationDiffers)
    (option_or (find (outcome_speaks answer.status rules m p t ask.asked answer.reason answer.payload) whys) (cond (clash bytes_eq answer.batch_id ask.batch_id) (Some EchoDiffers) None))
lowest_is rules m p t ask answer =
    split ask answer (outcome_speaks answer.status rules m p t ask.asked answer.reason answer.payload) (quiet answer.status rules m p t ask.asked answer.reason answer.payload)

-- of another operation: that
pub other_lowest : (rules : RulesOf) (m : Meaning) (p : Option (List ℕ)) (t : ℤ) (ask : AskOf) (answer : AnswerOf)
    → is_other (λ (x y : ℕ). x == y) answer.operation (operation_number (operation_asked ask.asked)) ≡ true → Some OperationDiffers ≡ lowest rules m p t ask answer
other_lowest rules m p t ask answer other =
    let own : Option Why = find (outcome_speaks answer.status rules m p t ask.asked answer.reason answer.payload) whys in
    let echo : Option Why = cond (clash bytes_eq answer.batch_id ask.batch_id) (Some EchoDiffers) None in
    ap (λ (b : Bool). cond b (Some OperationDiffers) (option_or own echo)) (sym other) ∙ sym (lowest_is rules m p t ask answer)

-- where no reason speaks none speaks against what was done
none_own : (b : Bool) (w : Why) (o e : Option Why) → cond b (Some w) (option_or o e) ≡ None → o ≡ None
none_own true w o e h = let bad : ⊥ = cc in absurd bad
none_own false w None e h = refl
none_own false w (Some x) e h = h

none_done : (status : Status) (rules : RulesOf) (m : Meaning) (p : Option (List ℕ)) (t : ℤ) (asked : AskedOf) (reason : Option ℕ) (payload : Option PayloadOf)
    → find (outcome_speaks status rules m p t asked reason payload) whys ≡ None → IsDoneUnopposed status m p t asked payload
none_done Success rules m p t asked reason payload none = (rules, none)
none_done Undone rules m p t asked reason payload none = (rules, none)
none_done Failed rules m p t asked reason payload none = tt

pub done_unopposed : (rules : RulesOf) (m : Meaning) (p : Option (List ℕ)) (t : ℤ) (ask : AskOf) (answer : AnswerOf) → lowest rules m p t ask answer ≡ None
    → IsDoneUnopposed answer.status m p t ask.asked answer.payload
done_unopposed rules m p t ask answer none =
    let own = find (outcome_speaks answer.status rules m p t ask.asked answer.reason answer.payload) whys in
    none_done answer.status rules m p t ask.asked answer.reason answer.payload (none_own _ OperationDiffers own _ (sym (lowest_is rules m p t ask answer) ∙ none))

-- of the operation asked for: the lowest reason against the outcome, or else what its frame says
pub own_lowest : (rules : RulesOf) (m : Meaning) (p : Option (List ℕ)) (t u : ℤ) (ask : AskOf) (answer : AnswerOf) (o : Option Why)
    → is_other (λ (x y : ℕ). x == y) answer.operation (operation_number (operation_asked ask.asked)) ≡ false → u ≡ t
    → o ≡ find (outcome_speaks answer.status rules m p u ask.asked answer.reason answer.payload) whys
    → option_or o (cond (clash bytes_eq answer.batch_id ask.batch_id) (Some EchoDiffers) None) ≡ lowest rules m p t ask answer
own_lowest rules m p t u ask answer o own same is =
    let echo : Option Why = cond (clash bytes_eq answer.batch_id ask.batch_id) (Some EchoDiffers) None in
    ap (λ (x : Option Why). option_or x echo) (is ∙ ap (λ (x : ℤ). find (outcome_speaks answer.status rules m p x ask.asked answer.reason answer.payload) whys) same)
    ∙ ap (λ (b : Bool). cond b (Some OperationDiffers) (option_or (find (outcome_speaks answer.status rules m p t ask.asked answer.reason answer.payload) whys) echo)) (sym own)
    ∙ sym (lowest_is rules m p t ask answer)
