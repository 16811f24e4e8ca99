-- Answers that no inventory allows.
use Rattle.std.proofs.Common.{◌≡◌, ◌≢◌, ◌==◌, ◌<◌, ◌≤◌, ◌⊎◌, inl, inr, ℕ, zero, suc, ℤ, Bool, true, false, not, List, [], ◌∷◌, ◌++◌, map, length, slice_get, get_or, Option, Some, None, option_map, Contains, refl, sym, ap, ◌∙◌, subst, arith}
use Rattle.std.specs.Prelude.{AllPairs, option_and_then, IfSome, IfOk, Result, Ok, Err, bytes_eq}
use Rattle.std.specs.declared.alloc.AllocError.{AllocError}
use denote.Bor.{Bor}
use Rattle.std.proofs.lemmas.Option.{slice_get-map, slice_get-get_or}
use Rattle.std.specs.Bool.{Decides}
use Rattle.std.proofs.lemmas.Bool.Decides.{Decides-eqb}
use Rattle.std.proofs.lemmas.Slice.Eq.{bytes_eq-Decides}
use Rattle.kmipa_object.specs.Inventory.{Thing}
use Rattle.kmipa_attrs.specs.Filters.{FilterOf}
use Rattle.kmipa_record.specs.Marks.{MarkOf, AreRecorded}
use Rattle.kmipa_record.specs.Declarations.{DeclarationOf}
use Rattle.kmipa_record.specs.Witnesses.{BirthOf, FillOf, TurnOf}
use Rattle.kmipa_msgs.specs.declared.response.Status.{Status}
use Rattle.kmipa_msgs.specs.declared.response.Status.TheVariants.{Success, Failed, Undone}
use Rattle.kmipa_msgs.specs.Messages.{created, registered, got, got_attributes, changed, request_of, response_of, lent, RulesOf, AskedOf, creates, registers, locates, gets, gets_attributes, activates, revokes, destroys, idles, does_other, AskOf, operation_asked, RequestOf, PayloadOf, located, AnswerOf, ResponseOf}
use Rattle.kmipa_msgs.specs.Operations.{operation_number}
use Rattle.kmipa_msgs.specs.declared.operation.Operation.{Operation}
use Rattle.kmipa_msgs.specs.declared.request.BatchOption.{BatchOption}
use Rattle.kmipa_attrs.specs.Sets.{Attributes}
use Rattle.kmipa_ops.specs.Objects.{Echoes, Agree, is_other, clash}
use Rattle.kmipa_ops.specs.Locate.{seen_located}
use Rattle.kmipa_ops.specs.Does.{Outcome}
use Rattle.kmipa_ops.specs.Completes.{Fills, DoesSome}
use Rattle.kmipa_ops.specs.Chains.{ChainSome}
use Rattle.kmipa_batch.specs.Calls.{pairs_of, pairs_taken, RefusesMessage, MayTake, CallSomeAlong}
use Rattle.kmipa_batch.specs.Orders.{one_of, along, order_given}
use Rattle.kmipa_batch.specs.Shapes.{HasShape}
use Rattle.kmipa_batch.proofs.PlaceLemmas.{pair_both}
use Rattle.kmipa_batch.proofs.ShapeLemmas.{Alike, shape_alike}
use Rattle.kmipa_batch.proofs.CompletionLemmas.{BatchSome, batch_of_call}
use Rattle.kmipa_check.specs.Calls.{CallOf, AreCalls, call_of}
use Rattle.kmipa_record.specs.declared.call.Call.{Call}
use Rattle.kmipa_check.specs.Births.{IsBorn, IsBornAt, as_asked, asked_with, completed, with_birth}
use Rattle.kmipa_check.specs.Fills.{IsFilled, IsFilledAt, stays, put_in}
use Rattle.kmipa_check.specs.Grants.{GrantsOf, grants_declared}
use Rattle.kmipa_check.specs.Moments.{at_moment}
use Rattle.kmipa_check.specs.Places.{MayBeTaken}
use Rattle.kmipa_check.specs.Runs.{IsRun, Linked, rules_declared}
use Rattle.kmipa_check.specs.Steps.{StepOf, IsStep, IsAnswered, recorded, given, order_of}
use Rattle.kmipa_check.proofs.PlaceLemmas.{contains_at, at_contains, apart, at_within, get_at, mapped_at, some_at}
use Rattle.kmipa_check.proofs.PlacesLemmas.{may_take, refused_at, step_taken}
use Rattle.kmipa_parts.proofs.RunLemmas.{pair_at}
use Rattle.kmipa_orders.specs.LawsOfCheck.{LawsOfCheck}
use Rattle.kmipa_orders.specs.Candidates.{candidate_call}
use Rattle.kmipa_orders.specs.Found.{Finds}
use Rattle.kmipa_orders.specs.declared.found.Found.TheVariants.{Impossible}
use Rattle.kmipa_orders.specs.declared.candidate.Candidate.{Candidate}
use Rattle.kmipa_orders.specs.Hopeless.{SomePlaceOff, IsHopeless, IsHopelessAmong, HopelessExplainsNothing, IsListedWrongly, too_many, twice, IsOff, operation, batch_id, listed, IsOffAt, unshaped, answered}

-- ---- one item of a batch

-- over some inventory the item is done
record IsDone (rules : RulesOf) (t : ℤ) (pair : AskOf × AnswerOf) : Type 0 where
  before : List Thing
  held : Option (List ℕ)
  after : List Thing
  left : Option (List ℕ)
  does : DoesSome rules before held t pair.0 pair.1 after left

item_done : (rules : RulesOf) (t : ℤ) (V : List Thing) (p : Option (List ℕ)) (pairs : List (AskOf × AnswerOf)) (W : List Thing) (q : Option (List ℕ)) (i : ℕ) (pair : AskOf × AnswerOf)
    → ChainSome rules t V p pairs W q → slice_get pairs i ≡ Some pair → IsDone rules t pair
item_done rules t V p [] W q i pair c at = absurd cc
item_done rules t V p (x ∷ xs) W q zero pair c at =
    let same : x ≡ pair = cc in
    let P : AskOf × AnswerOf → Type 0 = λ y. IsDone rules t y in
    subst P same (record { before = V; held = p; after = c.0; left = c.1; does = c.2 })
item_done rules t V p (x ∷ xs) W q (suc i) pair c at = item_done rules t c.0 c.1 xs W q i pair c.3 at

-- what stands at a place stands somewhere along an order that has the place
shifted : {A : Type 0} (o : Option A) (ys : List A) (i : ℕ) (x : A) → slice_get ys i ≡ Some x → (j : ℕ) × (slice_get (one_of o ++ ys) j ≡ Some x)
shifted None ys i x at = (i, at)
shifted (Some y) ys i x at = (suc i, at)

first_of : {A : Type 0} (o : Option A) (ys : List A) (x : A) → o ≡ Some x → (j : ℕ) × (slice_get (one_of o ++ ys) j ≡ Some x)
first_of None ys x is = absurd cc
first_of (Some y) ys x is = (zero, is)

along_has : {A : Type 0} (xs : List A) (order : List ℕ) (position place : ℕ) (x : A) → slice_get order position ≡ Some place → slice_get xs place ≡ Some x
    → (i : ℕ) × (slice_get (along xs order) i ≡ Some x)
along_has xs [] position place x at is = absurd cc
along_has xs (p ∷ order) zero place x at is =
    let same : p ≡ place = cc in
    first_of (slice_get xs p) (along xs order) x (ap (slice_get xs) same ∙ is)
along_has xs (p ∷ order) (suc position) place x at is =
    let rest = along_has xs order position place x at is in
    shifted (slice_get xs p) (along xs order) rest.0 x rest.1

-- whatever the order, an answered place is taken
taken_there : (request : RequestOf) (response : ResponseOf) (order : Option (List ℕ)) (place : ℕ) (ask : AskOf) (answer : AnswerOf) → MayTake request response order
    → slice_get request.items place ≡ Some ask → slice_get response.items place ≡ Some answer
    → (i : ℕ) × (slice_get (pairs_taken request response order) i ≡ Some (ask, answer))
taken_there request response None place ask answer may asked said = (place, pair_both request.items response.items place ask answer asked said)
taken_there request response (Some order) place ask answer may asked said =
    let position = may.2.all place (at_within request.items place ask asked, at_within response.items place answer said) in
    along_has (pairs_of request response) order position.0 place (ask, answer) position.1 (pair_both request.items response.items place ask answer asked said)

-- ---- fields that differ

module _ {A : Type 0} (same : A → A → Bool) (decides : (x y : A) → Decides (same x y) (x ≡ y)) where
  echoes_not : (o : Option A) (x : A) → is_other same o x ≡ true → Echoes o x → ⊥
  echoes_not None x h e = cc
  echoes_not (Some y) x h e = let f : not (same y x) ≡ false = ap not ((decides y x).1 e) in cc

  agree_not : (a b : Option A) → clash same a b ≡ true → Agree a b → ⊥
  agree_not None b h e = cc
  agree_not (Some x) b h e = echoes_not b x h e

-- ---- an answer that is off is never done

same_payload : (asked : AskedOf) (status : Status) (p : PayloadOf) (full : Option PayloadOf) → Fills asked status (Some p) full → full ≡ Some p
same_payload asked Success p full f = f
same_payload asked Failed p full f = f
same_payload asked Undone p full f = f

lists_never : (rules : RulesOf) (status : Status) (V : List Thing) (p : Option (List ℕ)) (t : ℤ) (q : FilterOf) (reason : Option ℕ) (ids : List (List ℕ)) (W : List Thing) (left : Option (List ℕ))
    → status ≢ Failed → IsListedWrongly q ids → Outcome status rules V p t (locates q) reason (Some (located ids)) W left → ⊥
lists_never rules Success V p t q reason ids W left done (too_many over) o = let most = o.0.right.most in cc
lists_never rules Success V p t q reason ids W left done (twice i j id at there differ) o = differ (o.0.right.once i j id at there)
lists_never rules Undone V p t q reason ids W left done (too_many over) o = let most = o.0.right.most in cc
lists_never rules Undone V p t q reason ids W left done (twice i j id at there differ) o = differ (o.0.right.once i j id at there)
lists_never rules Failed V p t q reason ids W left done wrong o = done refl

off_never : (rules : RulesOf) (V : List Thing) (p : Option (List ℕ)) (t : ℤ) (ask : AskOf) (answer : AnswerOf) (W : List Thing) (left : Option (List ℕ))
    → IsOff ask answer → DoesSome rules V p t ask answer W left → ⊥
off_never rules V p t ask answer W left (operation other) d =
    let P : Option ℕ → Type 0 = λ o. Echoes o (operation_number (operation_asked ask.asked)) in
    echoes_not (λ (x y : ℕ). x == y) Decides-eqb answer.operation (operation_number (operation_asked ask.asked)) other (subst P d.completes.operation d.does.operation)
off_never rules V p t ask answer W left (batch_id other) d =
    let P : Option (List ℕ) → Type 0 = λ o. Agree o ask.batch_id in
    agree_not bytes_eq bytes_eq-Decides answer.batch_id ask.batch_id other (subst P d.completes.batch_id d.does.batch_id)
off_never rules V p t ask answer W left (listed q ids asked done shown wrong) d =
    let F : Option PayloadOf → Type 0 = λ o. Fills ask.asked answer.status o d.full.payload in
    let payload = same_payload ask.asked answer.status (located ids) d.full.payload (subst F shown d.completes.payload) in
    let A : AskedOf → Type 0 = λ a. Outcome d.full.status rules V p t a d.full.reason d.full.payload W left in
    let O : Option PayloadOf → Type 0 = λ o. Outcome d.full.status rules V p t (locates q) d.full.reason o W left in
    lists_never rules d.full.status V p t q d.full.reason ids W left (λ failed. done (sym d.completes.status ∙ failed)) wrong (subst O payload (subst A asked d.does.outcome))

-- ---- what filling in leaves

off_filled : (request : RequestOf) (response : ResponseOf) (fills : List FillOf) (place : ℕ) (ask : AskOf) (answer full : AnswerOf) → IsFilledAt request response fills place answer full
    → IsOff ask answer → IsOff ask full
off_filled request response fills place ask answer full (stays never is) off = let P : AnswerOf → Type 0 = λ a. IsOff ask a in subst P (sym is) off
off_filled request response fills place ask answer full (put_in own wanted fill one its p says is) (operation other) =
    let P : AnswerOf → Type 0 = λ a. IsOff ask a in subst P (sym is) (operation other)
off_filled request response fills place ask answer full (put_in own wanted fill one its p says is) (batch_id other) =
    let P : AnswerOf → Type 0 = λ a. IsOff ask a in subst P (sym is) (batch_id other)
off_filled request response fills place ask answer full (put_in own wanted fill one its p says is) (listed q ids asked done shown wrong) =
    let absent = wanted.wanted.absent in
    absurd cc

module _ (request : RequestOf) (response : ResponseOf) (fills : List FillOf) (full : ResponseOf) (f : IsFilled request response fills full) where
  same_status : (place : ℕ) (answer filled : AnswerOf) → IsFilledAt request response fills place answer filled → filled.status ≡ answer.status
  same_status place answer filled (stays none is) = ap (λ (a : AnswerOf). a.status) is
  same_status place answer filled (put_in ask w fill one its p says is) = ap (λ (a : AnswerOf). a.status) is

  alike : Alike full.items response.items
  alike = record { same = λ place. by place (slice_get full.items place) (slice_get response.items place) refl refl }
    where
      by : (place : ℕ) (x y : Option AnswerOf) → slice_get full.items place ≡ x → slice_get response.items place ≡ y
          → option_map (λ (a : AnswerOf). a.status) (slice_get full.items place) ≡ option_map (λ (a : AnswerOf). a.status) (slice_get response.items place)
      by place None None a b = ap (option_map (λ (x : AnswerOf). x.status)) (a ∙ sym b)
      by place None (Some y) a b =
          let some = some_at full.items place (omega (arith, at_within response.items place y b, f.counted)) in
          let bad = some.1 in
          absurd cc
      by place (Some x) None a b =
          let some = some_at response.items place (omega (arith, at_within full.items place x a, f.counted)) in
          let bad = some.1 in
          absurd cc
      by place (Some x) (Some y) a b =
          ap (option_map (λ (u : AnswerOf). u.status)) a ∙ ap Some (same_status place y x (f.each place y x b a)) ∙ sym (ap (option_map (λ (u : AnswerOf). u.status)) b)

  -- a message that is refused was refused before
  pub refused_before : RefusesMessage full → RefusesMessage response
  refused_before r = by (some_at response.items 0 (omega (arith, one, f.counted)))
    where
      one : length full.items ≡ 1
      one = ap length r.alone

      here : slice_get full.items 0 ≡ Some r.answer
      here = ap (λ (xs : List AnswerOf). slice_get xs 0) r.alone

      single : (items : List AnswerOf) (a : AnswerOf) → length items ≡ 1 → slice_get items 0 ≡ Some a → items ≡ a ∷ []
      single [] a long at = absurd cc
      single (x ∷ []) a long at = let same : x ≡ a = cc in ap (λ (u : AnswerOf). u ∷ []) same
      single (x ∷ y ∷ items) a long at = absurd (omega (arith, long))

      kept : (a : AnswerOf) → slice_get response.items 0 ≡ Some a → IsFilledAt request response fills 0 a r.answer → RefusesMessage response
      kept a at (stays none is) = record {
        answer = a;
        alone = single response.items a (sym f.counted ∙ one) at;
        failed = ap (λ (u : AnswerOf). u.status) (sym is) ∙ r.failed;
        unnamed = ap (λ (u : AnswerOf). u.operation) (sym is) ∙ r.unnamed;
      }
      kept a at (put_in ask w fill one its p says is) =
          let status : r.answer.status ≡ a.status = ap (λ (u : AnswerOf). u.status) is in
          let failed = r.failed in
          let undone = w.wanted.undone in
          absurd cc

      by : (a : AnswerOf) × (slice_get response.items 0 ≡ Some a) → RefusesMessage response
      by (a, at) = kept a at (f.each 0 a r.answer at here)

-- ---- what births leave

operation_born : (asked : AskedOf) (birth : Attributes) → operation_asked (asked_with asked birth) ≡ operation_asked asked
operation_born (creates a) birth = refl
operation_born (registers r) birth = refl
operation_born (locates q) birth = refl
operation_born (gets id) birth = refl
operation_born (gets_attributes g) birth = refl
operation_born (activates id) birth = refl
operation_born (revokes r) birth = refl
operation_born (destroys id) birth = refl
operation_born (idles n) birth = refl
operation_born (does_other n) birth = refl

with_birth_off : (ask : AskOf) (answer : AnswerOf) (birth : Attributes) → IsOff ask answer → IsOff (with_birth ask birth) answer
with_birth_off ask answer birth (operation other) =
    let P : Operation → Type 0 = λ o. is_other (λ (x y : ℕ). x == y) answer.operation (operation_number o) ≡ true in
    operation (subst P (sym (operation_born ask.asked birth)) other)
with_birth_off ask answer birth (batch_id other) = batch_id other
with_birth_off ask answer birth (listed q ids asked done shown wrong) = listed q ids (ap (λ (a : AskedOf). asked_with a birth) asked) done shown wrong

born_off : (g : GrantsOf) (births : List BirthOf) (place : ℕ) (ask full : AskOf) (answer : AnswerOf) → IsBornAt g births place ask full → IsOff ask answer → IsOff full answer
born_off g births place ask full answer (as_asked none is) off = let P : AskOf → Type 0 = λ a. IsOff a answer in subst P (sym is) off
born_off g births place ask full answer (completed birth one its attributes of is) off =
    let P : AskOf → Type 0 = λ a. IsOff a answer in subst P (sym is) (with_birth_off ask answer attributes off)

-- ---- a call with a place that is off

module _ (g : GrantsOf) (c : CallOf) (response : ResponseOf) (unrefused : RefusesMessage response → ⊥) (fills : List FillOf) (full : ResponseOf) (f : IsFilled c.request response fills full)
    (births : List BirthOf) (asked : RequestOf) (born : IsBorn g c.request response births asked) (moment : ℤ)
    (order : Option (List ℕ)) (may : MayTake asked (at_moment full moment) order) (rules : RulesOf) (V W : List Thing) (call : CallSomeAlong rules V asked (at_moment full moment) order W) where
  batch : BatchSome rules V asked (at_moment full moment) order W
  batch = batch_of_call rules V asked (at_moment full moment) order W (λ r. unrefused (refused_before c.request response fills full f (refused_at full moment r))) call

  -- the shape of a place hangs on the option and on how many items there are
  shaped_before : (place : ℕ) → HasShape c.request.option (length c.request.items) full.items place (slice_get full.items place)
  shaped_before place =
      let S : BatchOption → Type 0 = λ o. HasShape o (length asked.items) full.items place (slice_get full.items place) in
      let T : ℕ → Type 0 = λ n. HasShape c.request.option n full.items place (slice_get full.items place) in
      subst T born.counted (subst S born.option (batch.shaped place))

  place_never : (place : ℕ) → IsOffAt c.request response place → ⊥
  place_never place (unshaped misfit) =
      misfit (shape_alike c.request.option (length c.request.items) full.items response.items place (alike c.request response fills full f) (shaped_before place))
  place_never place (answered ask answer wanted said off) =
      let filled = some_at full.items place (omega (arith, at_within response.items place answer said, f.counted)) in
      let posed = some_at asked.items place (omega (arith, at_within c.request.items place ask wanted, born.counted)) in
      let there = taken_there asked (at_moment full moment) order place posed.0 filled.0 may posed.1 filled.1 in
      let done = item_done rules moment V None (pairs_taken asked (at_moment full moment) order) batch.last batch.placeholder there.0 (posed.0, filled.0) batch.chain there.1 in
      off_never rules done.before done.held moment posed.0 filled.0 done.after done.left
      (born_off g births place ask posed.0 filled.0 (born.each place ask posed.0 wanted posed.1)
      (off_filled c.request response fills place ask answer filled.0 (f.each place answer filled.0 said filled.1) off)) done.does

-- a call that no turn takes as it was answered is hopeless
pub never_taken : (c : CallOf) (end : ℕ) (response : ResponseOf) → c.end ≡ Some end → c.response ≡ Some response
    → ((g : GrantsOf) (t : TurnOf) (full : ResponseOf) → IsFilled c.request response t.fills full → (asked : RequestOf) → IsBorn g c.request response t.births asked
    → (moment : ℤ) (order : Option (List ℕ)) → MayTake asked (at_moment full moment) order → (rules : RulesOf) (V W : List Thing) → CallSomeAlong rules V asked (at_moment full moment) order W → ⊥)
    → IsHopeless c
never_taken c end response ended said none = record { end = end; ended = ended; never = never }
  where
    never : (g : GrantsOf) (t : TurnOf) (s : StepOf) → IsStep g c t s → (rules : RulesOf) (V W : List Thing) → CallSomeAlong rules V s.request s.response (order_of s) W → ⊥
    never g t s i rules V W call = by i.answered
      where
        C : StepOf → Type 0
        C x = CallSomeAlong rules V x.request x.response (order_of x) W

        M : StepOf → Type 0
        M x = MayBeTaken x.request x.response x.places

        by : IsAnswered c t i.response → ⊥
        by (recorded is bare) =
            let same : i.response ≡ response = cc in
            let F : ResponseOf → Type 0 = λ r. IsFilled c.request r t.fills i.full in
            let B : ResponseOf → Type 0 = λ r. IsBorn g c.request r t.births i.asked in
            none g t i.full (subst F same i.filled) i.asked (subst B same i.born) i.moment (order_given i.places)
            (may_take i.asked (at_moment i.full i.moment) i.places (subst M i.is (step_taken g c t s i))) rules V W (subst C i.is call)
        by (given bytes is answer are) = absurd cc

pub hopeless_call : (c : CallOf) (end : ℕ) (response : ResponseOf) → c.end ≡ Some end → c.response ≡ Some response → (RefusesMessage response → ⊥) → (place : ℕ)
    → IsOffAt c.request response place → IsHopeless c
hopeless_call c end response ended said unrefused place off =
    never_taken c end response ended said (λ g t full f asked born moment order may rules V W call.
    place_never g c response unrefused t.fills full f t.births asked born moment order may rules V W call place off)

-- ---- the law

-- over some inventory the step is possible
record IsTaken (rules : RulesOf) (s : StepOf) : Type 0 where
  before : List Thing
  after : List Thing
  call : CallSomeAlong rules before s.request s.response (order_of s) after

linked_at : (rules : RulesOf) (V : List Thing) (steps : List StepOf) (W : List Thing) (i : ℕ) (s : StepOf) → Linked rules V steps W → slice_get steps i ≡ Some s → IsTaken rules s
linked_at rules V [] W i s l at = absurd cc
linked_at rules V (x ∷ steps) W zero s l at =
    let same : x ≡ s = cc in
    let P : StepOf → Type 0 = λ y. IsTaken rules y in
    subst P same (record { before = V; after = l.0; call = l.1 })
linked_at rules V (x ∷ steps) W (suc i) s l at = linked_at rules l.0 steps W i s l.2 at

module _ (marks : List MarkOf) (calls : List CallOf) (r : AreRecorded marks) (are : AreCalls marks calls) where
  differ : (m n : ℕ) (x y : CallOf) → m < n → slice_get calls m ≡ Some x → slice_get calls n ≡ Some y → x.number ≡ y.number → ⊥
  differ m n x y lt u v same =
      let P : List ℤ → Type 0 = λ xs. AllPairs (λ (a b : ℤ). a ≢ b) xs in
      pair_at (λ (p q : ℤ). p ≢ q) (map (λ (w : CallOf). w.number) calls) m n x.number y.number (subst P (sym are.numbers) r.once) lt
      (get_at (λ (w : CallOf). w.number) calls m x u) (get_at (λ (w : CallOf). w.number) calls n y v) same

  -- calls of one number are one
  one_call : (c d : CallOf) → Contains calls c → Contains calls d → c.number ≡ d.number → c ≡ d
  one_call c d has too e =
      let i = at_contains calls c has in
      let j = at_contains calls d too in
      by i.0 j.0 i.1 j.1 (apart i.0 j.0)
    where
      by : (i j : ℕ) → slice_get calls i ≡ Some c → slice_get calls j ≡ Some d → (i < j) ⊎ ((j < i) ⊎ (i ≡ j)) → c ≡ d
      by i j s t (inl lt) = absurd (differ i j c d lt s t e)
      by i j s t (inr (inl lt)) = absurd (differ j i d c lt t s (sym e))
      by i j s t (inr (inr same)) = let both : Some c ≡ Some d = sym s ∙ ap (slice_get calls) same ∙ t in cc

pub hopeless_explains_nothing_lem : LawsOfCheck → HopelessExplainsNothing
hopeless_explains_nothing_lem laws marks declared place r h x =
    let P : List CallOf → Type 0 = λ cs. IsRun (grants_declared declared) (rules_declared declared) cs x.start x.steps in
    let run = subst P (laws.one_list marks x.calls h.0 r x.are h.1) x.run in
    let c = h.2.0 in
    let hopeless = h.2.2 in
    let has = contains_at h.0 place c h.2.1 in
    let s = run.once.all c hopeless.end has hopeless.ended in
    let of = run.once.of_calls s.0 s.1 in
    let own : of.0.number ≡ c.number = sym (ap (λ (y : StepOf). y.number) of.3.is) ∙ s.2 in
    let same = one_call marks h.0 r h.1 of.0 c of.2 has own in
    let S : CallOf → Type 0 = λ y. IsStep (grants_declared declared) y of.1 s.0 in
    let at = at_contains x.steps s.0 s.1 in
    let taken = linked_at (rules_declared declared) x.start x.steps run.last at.0 s.0 run.linked at.1 in
    hopeless.never (grants_declared declared) of.1 s.0 (subst S same of.3) (rules_declared declared) taken.before taken.after taken.call

-- what is found of a hopeless call is told
pub finds_hopeless : LawsOfCheck → (marks : List MarkOf) (declared : DeclarationOf) (calls : List CallOf) (reported : Option ℕ) (place budget count : ℕ) → AreRecorded marks
    → AreCalls marks calls → count ≤ budget → reported ≡ Some place → IfSome reported (IsHopelessAmong calls) → Finds marks declared budget (Impossible count place)
finds_hopeless laws marks declared calls reported place budget count r are few is h =
    let P : Option ℕ → Type 0 = λ o. IfSome o (IsHopelessAmong calls) in
    let among = subst P is h in
    (few, (calls, are, among), hopeless_explains_nothing_lem laws marks declared place r (calls, are, among))

-- a call at its place
pub hopeless_at : (calls : List Call) (place : ℕ) (call : Call) → place < length calls → call ≡ get_or calls place call → IsHopeless (call_of call) → IsHopelessAmong (map call_of calls) place
hopeless_at calls place call below is hopeless = (call_of call, mapped_at call_of calls place call below is, hopeless)

-- ---- what is looked at

-- one identifier stands at two places
pub same_there : (ids : List (Bor (List ℕ))) (i j : ℕ) (d : Bor (List ℕ)) (reported : Bool) → i < length ids → j < length ids → (i ≡ j → ⊥)
    → reported ≡ bytes_eq (get_or ids i d).now (get_or ids j d).now → reported ≡ true
    → (id : List ℕ) × (slice_get (map lent ids) i ≡ Some id) × (slice_get (map lent ids) j ≡ Some id) × (i ≢ j)
same_there ids i j d reported first second differ is e =
    let same : (get_or ids i d).now ≡ (get_or ids j d).now = (bytes_eq-Decides (get_or ids i d).now (get_or ids j d).now).0 (sym is ∙ e) in (
      (get_or ids i d).now,
      slice_get-map lent ids i ∙ ap (option_map lent) (slice_get-get_or ids i d first),
      slice_get-map lent ids j ∙ ap (option_map lent) (slice_get-get_or ids j d second) ∙ ap Some (sym same),
      differ,
    )

pub list_off : (ask : AskOf) (answer : AnswerOf) (q : FilterOf) (ids : List (List ℕ)) (reported : Result Bool AllocError) → ask.asked ≡ locates q → (answer.status ≡ Failed → ⊥)
    → answer.payload ≡ Some (located ids) → IfOk reported (λ wrong. wrong ≡ true → IsListedWrongly q ids) → IfOk reported (λ off. off ≡ true → IsOff ask answer)
list_off ask answer q ids (Ok wrong) asked done shown h = λ e. listed q ids asked done shown (h e)
list_off ask answer q ids (Err fault) asked done shown h = tt

-- a payload that lists these
pub lists_these : (payload : Option PayloadOf) (ids : List (List ℕ)) → option_and_then seen_located payload ≡ Some ids → payload ≡ Some (located ids)
lists_these None ids e = absurd cc
lists_these (Some (located xs)) ids e = let same : xs ≡ ids = cc in ap (λ (l : List (List ℕ)). Some (located l)) same
lists_these (Some (created r)) ids e = absurd cc
lists_these (Some (registered r)) ids e = absurd cc
lists_these (Some (got g)) ids e = absurd cc
lists_these (Some (got_attributes g)) ids e = absurd cc
lists_these (Some (changed id)) ids e = absurd cc

-- a call of which a place is off
pub hopeless_of : (c : CallOf) (own : Candidate) (reported : Result Bool AllocError) → candidate_call own ≡ c → (RefusesMessage (response_of own.response.now) → ⊥)
    → IfOk reported (λ off. off ≡ true → SomePlaceOff (request_of own.request.now) (response_of own.response.now)) → IfOk reported (λ hopeless. hopeless ≡ true → IsHopeless c)
hopeless_of c own (Ok off) same unrefused h = λ e.
    let some = h e in
    subst (λ (x : CallOf). IsHopeless x) same (hopeless_call (candidate_call own) own.end (response_of own.response.now) refl refl unrefused some.0 some.1)
hopeless_of c own (Err fault) same unrefused h = tt
