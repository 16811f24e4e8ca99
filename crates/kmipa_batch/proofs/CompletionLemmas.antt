-- A batch with answers that may be completed, and the refusal of a whole message.
use Rattle.std.proofs.Common.{◌≡◌, ◌≢◌, ◌<◌, inl, inr, ℕ, zero, suc, ℤ, List, [], ◌∷◌, ◌++◌, length, Option, Some, None, option_map, slice_get, refl, sym, ap, ◌∙◌, subst, arith}
use Rattle.std.specs.List.{zip}
use Rattle.std.proofs.lemmas.Option.{slice_get_within}
use Rattle.kmipa_object.specs.Inventory.{Thing}
use Rattle.kmipa_object.specs.Lists.{updated}
use Rattle.kmipa_object.proofs.ListLemmas.{below_get, get-updated_same, get-updated_other}
use Rattle.kmipa_msgs.specs.declared.request.BatchOption.{BatchOption}
use Rattle.kmipa_msgs.specs.declared.response.Status.{Status}
use Rattle.kmipa_msgs.specs.declared.response.Status.TheVariants.{Success, Failed, Undone}
use Rattle.kmipa_msgs.specs.Messages.{RulesOf, AskedOf, AskOf, RequestOf, PayloadOf, AnswerOf, ResponseOf}
use Rattle.kmipa_ops.specs.Completes.{Fills, CompletesAnswer}
use Rattle.kmipa_ops.specs.Does.{Outcome}
use Rattle.kmipa_ops.specs.Chains.{Chain, ChainSome}
use Rattle.kmipa_batch.specs.Shapes.{IsShaped}
use Rattle.kmipa_batch.specs.Calls.Leaves.{goes_back, goes_on}
use Rattle.kmipa_batch.specs.Orders.{IsAnsweredPlace, IsTakingOrder, one_of, along}
use Rattle.kmipa_batch.specs.Calls.{pairs_of, pairs_taken, Leaves, RefusesMessage, MayTake, CompletesAnswers, CallSome, CallSomeAlong}
use Rattle.kmipa_batch.proofs.ShapeLemmas.{Alike, alike_sym, none_alike, first_alike, shape_alike}
use Rattle.kmipa_batch.proofs.PlaceLemmas.{both, zip_get}
use Rattle.kmipa_batch.proofs.OrderLemmas.{along_same}

-- completed answers have the same statuses
alike_at : (asks : List AskOf) (answers fulls : List AnswerOf) → CompletesAnswers asks answers fulls → (place : ℕ)
    → option_map (λ (a : AnswerOf). a.status) (slice_get answers place) ≡ option_map (λ (a : AnswerOf). a.status) (slice_get fulls place)
alike_at asks [] [] c place = refl
alike_at asks [] (f ∷ fs) c place = absurd c
alike_at asks (a ∷ xs) [] c place = absurd c
alike_at [] (a ∷ xs) (f ∷ fs) c zero = ap (λ (x : AnswerOf). Some x.status) (sym c.0)
alike_at [] (a ∷ xs) (f ∷ fs) c (suc place) = alike_at [] xs fs c.1 place
alike_at (k ∷ ks) (a ∷ xs) (f ∷ fs) c zero = ap (λ (s : Status). Some s) (sym c.0.status)
alike_at (k ∷ ks) (a ∷ xs) (f ∷ fs) c (suc place) = alike_at ks xs fs c.1 place

pub alike_completes : (asks : List AskOf) (answers fulls : List AnswerOf) → CompletesAnswers asks answers fulls → Alike answers fulls
alike_completes asks answers fulls c = record { same = alike_at asks answers fulls c }

-- answers without items of the request stay
stays : (answers : List AnswerOf) → CompletesAnswers [] answers answers
stays [] = tt
stays (a ∷ answers) = (refl, stays answers)

module _ (rules : RulesOf) (t : ℤ) where
  -- a chain of answers that may be completed is one of some completed answers
  chain_full : (V : List Thing) (p : Option (List ℕ)) (asks : List AskOf) (answers : List AnswerOf) (W : List Thing) (q : Option (List ℕ))
      → ChainSome rules t V p (zip asks answers) W q → (fulls : List AnswerOf) × CompletesAnswers asks answers fulls × Chain rules t V p (zip asks fulls) W q
  chain_full V p [] answers W q c = (answers, stays answers, c)
  chain_full V p (k ∷ ks) [] W q c = ([], tt, c)
  chain_full V p (k ∷ ks) (a ∷ xs) W q c =
      let r = chain_full c.0 c.1 ks xs W q c.3 in
      (c.2.full ∷ r.0, (c.2.completes, r.1), (c.0, c.1, c.2.does, r.2))

  -- and back
  chain_some : (V : List Thing) (p : Option (List ℕ)) (asks : List AskOf) (answers fulls : List AnswerOf) (W : List Thing) (q : Option (List ℕ))
      → CompletesAnswers asks answers fulls → Chain rules t V p (zip asks fulls) W q → ChainSome rules t V p (zip asks answers) W q
  chain_some V p [] answers fulls W q e c = c
  chain_some V p (k ∷ ks) [] [] W q e c = c
  chain_some V p (k ∷ ks) [] (f ∷ fs) W q e c = absurd e
  chain_some V p (k ∷ ks) (a ∷ xs) [] W q e c = absurd e
  chain_some V p (k ∷ ks) (a ∷ xs) (f ∷ fs) W q e c =
      (c.0, c.1, record { full = f; completes = e.0; does = c.2 }, chain_some c.0 c.1 ks xs fs W q e.1 c.3)

-- ---- along an order of places

-- what is at one place: completed, or as it was where nothing is asked
abbrev CompletesAt : Option AnswerOf → Option AnswerOf → Option AskOf → Type 0
CompletesAt None None ask = Unit {0}
CompletesAt None (Some full) ask = ⊥
CompletesAt (Some answer) None ask = ⊥
CompletesAt (Some answer) (Some full) None = full ≡ answer
CompletesAt (Some answer) (Some full) (Some ask) = CompletesAnswer ask answer full

completes_at : (asks : List AskOf) (answers fulls : List AnswerOf) → CompletesAnswers asks answers fulls → (place : ℕ)
    → CompletesAt (slice_get answers place) (slice_get fulls place) (slice_get asks place)
completes_at asks [] [] c place = tt
completes_at asks [] (f ∷ fs) c place = absurd c
completes_at asks (a ∷ xs) [] c place = absurd c
completes_at [] (a ∷ xs) (f ∷ fs) c zero = c.0
completes_at [] (a ∷ xs) (f ∷ fs) c (suc place) = completes_at [] xs fs c.1 place
completes_at (k ∷ ks) (a ∷ xs) (f ∷ fs) c zero = c.0
completes_at (k ∷ ks) (a ∷ xs) (f ∷ fs) c (suc place) = completes_at ks xs fs c.1 place

completes_each : (asks : List AskOf) (answers fulls : List AnswerOf) → ((place : ℕ) → CompletesAt (slice_get answers place) (slice_get fulls place) (slice_get asks place))
    → CompletesAnswers asks answers fulls
completes_each asks [] [] h = tt
completes_each asks [] (f ∷ fs) h = h zero
completes_each asks (a ∷ xs) [] h = h zero
completes_each [] (a ∷ xs) (f ∷ fs) h = (h zero, completes_each [] xs fs (λ place. h (suc place)))
completes_each (k ∷ ks) (a ∷ xs) (f ∷ fs) h = (h zero, completes_each ks xs fs (λ place. h (suc place)))

-- what is there to be taken
record IsPair (asks : List AskOf) (answers : List AnswerOf) (place : ℕ) : Type 0 where
  ask : AskOf
  answer : AnswerOf
  asked : slice_get asks place ≡ Some ask
  answered : slice_get answers place ≡ Some answer

module _ (rules : RulesOf) (t : ℤ) (asks : List AskOf) (answers : List AnswerOf) where
  -- full answers at the places of an order, along which they have a chain; the other answers are as they were
  record Filled (order : List ℕ) (V : List Thing) (p : Option (List ℕ)) (W : List Thing) (q : Option (List ℕ)) : Type 0 where
    fulls : List AnswerOf
    done : (position place : ℕ) → slice_get order position ≡ Some place → CompletesAt (slice_get answers place) (slice_get fulls place) (slice_get asks place)
    rest : (place : ℕ) → ((position : ℕ) → slice_get order position ≡ Some place → ⊥) → slice_get fulls place ≡ slice_get answers place
    chain : Chain rules t V p (along (zip asks fulls) order) W q

  -- one place before an order in which it doesn't stand
  module _ (place : ℕ) (order : List ℕ) (apart : (position : ℕ) → slice_get order position ≡ Some place → ⊥) (ask : AskOf) (answer full : AnswerOf) (asked : slice_get asks place ≡ Some ask)
      (answered : slice_get answers place ≡ Some answer) (completes : CompletesAnswer ask answer full) where
    module _ (V : List Thing) (p : Option (List ℕ)) (W : List Thing) (q : Option (List ℕ)) (f : Filled order V p W q) where
      abbrev put : List AnswerOf
      put = updated f.fulls place (λ (x : AnswerOf). full)

      put_here : slice_get put place ≡ Some full
      put_here = get-updated_same f.fulls place (λ (x : AnswerOf). full) answer (f.rest place apart ∙ answered)

      put_there : (other : ℕ) → other ≢ place → slice_get put other ≡ slice_get f.fulls other
      put_there other differs = get-updated_other f.fulls place other (λ (x : AnswerOf). full) differs

      put_done : (position other : ℕ) → slice_get (place ∷ order) position ≡ Some other → CompletesAt (slice_get answers other) (slice_get put other) (slice_get asks other)
      put_done zero other e =
          let is : place ≡ other = cc in
          let P : ℕ → Type 0 = λ n. CompletesAt (slice_get answers n) (slice_get put n) (slice_get asks n) in
          let A : Option AnswerOf → Type 0 = λ o. CompletesAt o (slice_get put place) (slice_get asks place) in
          let F : Option AnswerOf → Type 0 = λ o. CompletesAt (Some answer) o (slice_get asks place) in
          let K : Option AskOf → Type 0 = λ o. CompletesAt (Some answer) (Some full) o in
          subst P is (subst A (sym answered) (subst F (sym put_here) (subst K (sym asked) completes)))
      put_done (suc position) other e =
          let differs : other ≢ place = λ is. apart position (e ∙ ap Some is) in
          let F : Option AnswerOf → Type 0 = λ o. CompletesAt (slice_get answers other) o (slice_get asks other) in
          subst F (sym (put_there other differs)) (f.done position other e)

      put_same : along (zip asks put) order ≡ along (zip asks f.fulls) order
      put_same = along_same (zip asks put) (zip asks f.fulls) order (λ position other e.
          let differs : other ≢ place = λ is. apart position (e ∙ ap Some is) in
          zip_get asks put other ∙ ap (both (slice_get asks other)) (put_there other differs) ∙ sym (zip_get asks f.fulls other))

      put_first : slice_get (zip asks put) place ≡ Some (ask, full)
      put_first = zip_get asks put place ∙ ap (λ (o : Option AskOf). both o (slice_get put place)) asked ∙ ap (both (Some ask)) put_here

      put_more : (U : List Thing) (r : Option (List ℕ)) → Chain rules t U r ((ask, full) ∷ along (zip asks f.fulls) order) W q → Filled (place ∷ order) U r W q
      put_more U r chain = record {
        fulls = put;
        done = put_done;
        rest = λ other none. put_there other (λ is. none zero (ap Some (sym is))) ∙ f.rest other (λ position e. none (suc position) e);
        chain =
            let P : List (AskOf × AnswerOf) → Type 0 = λ xs. Chain rules t U r ((ask, full) ∷ xs) W q in
            let Q : Option (AskOf × AnswerOf) → Type 0 = λ o. Chain rules t U r (one_of o ++ along (zip asks put) order) W q in
            subst Q (sym put_first) (subst P (sym put_same) chain);
      }

  filled : (order : List ℕ) → ((position place : ℕ) → slice_get order position ≡ Some place → IsPair asks answers place)
      → ((position other place : ℕ) → slice_get order position ≡ Some place → slice_get order other ≡ Some place → position ≡ other)
      → (V : List Thing) (p : Option (List ℕ)) (W : List Thing) (q : Option (List ℕ)) → ChainSome rules t V p (along (zip asks answers) order) W q → Filled order V p W q
  filled [] pairs once V p W q c = record { fulls = answers; done = λ position place e. let bad : ⊥ = cc in absurd bad; rest = λ place none. refl; chain = c }
  filled (place ∷ order) pairs once V p W q c =
      let x : IsPair asks answers place = pairs zero place refl in
      let first : slice_get (zip asks answers) place ≡ Some (x.ask, x.answer) =
      zip_get asks answers place ∙ ap (λ (o : Option AskOf). both o (slice_get answers place)) x.asked ∙ ap (both (Some x.ask)) x.answered in
      let P : Option (AskOf × AnswerOf) → Type 0 = λ o. ChainSome rules t V p (one_of o ++ along (zip asks answers) order) W q in
      let d : ChainSome rules t V p ((x.ask, x.answer) ∷ along (zip asks answers) order) W q = subst P first c in
      let f : Filled order d.0 d.1 W q = filled order (λ position other e. pairs (suc position) other e) (λ i j other e g. let s : suc i ≡ suc j = once (suc i) (suc j) other e g in omega (arith, s)) d.0 d.1 W q d.3 in
      let apart : (position : ℕ) → slice_get order position ≡ Some place → ⊥ = λ position e. let s : zero ≡ suc position = once zero (suc position) place refl e in absurd (omega (arith, s)) in
      put_more place order apart x.ask x.answer d.2.full x.asked x.answered d.2.completes d.0 d.1 W q f V p (d.0, d.1, d.2.does, f.chain)

  -- and back
  chain_step : (V : List Thing) (p : Option (List ℕ)) (k : Option AskOf) (x f : Option AnswerOf) (fulls somes : List (AskOf × AnswerOf)) (W : List Thing) (q : Option (List ℕ)) → CompletesAt x f k
      → ((U : List Thing) (r : Option (List ℕ)) → Chain rules t U r fulls W q → ChainSome rules t U r somes W q)
      → Chain rules t V p (one_of (both k f) ++ fulls) W q → ChainSome rules t V p (one_of (both k x) ++ somes) W q
  chain_step V p None x f fulls somes W q c next chain = next V p chain
  chain_step V p (Some k) None None fulls somes W q c next chain = next V p chain
  chain_step V p (Some k) None (Some f) fulls somes W q c next chain = absurd c
  chain_step V p (Some k) (Some a) None fulls somes W q c next chain = absurd c
  chain_step V p (Some k) (Some a) (Some f) fulls somes W q c next chain = (chain.0, chain.1, record { full = f; completes = c; does = chain.2 }, next chain.0 chain.1 chain.3)

  chain_some_along : (order : List ℕ) (V : List Thing) (p : Option (List ℕ)) (fulls : List AnswerOf) (W : List Thing) (q : Option (List ℕ))
      → CompletesAnswers asks answers fulls → Chain rules t V p (along (zip asks fulls) order) W q → ChainSome rules t V p (along (zip asks answers) order) W q
  chain_some_along [] V p fulls W q e c = c
  chain_some_along (place ∷ order) V p fulls W q e c =
      let P : Option (AskOf × AnswerOf) → Type 0 = λ o. Chain rules t V p (one_of o ++ along (zip asks fulls) order) W q in
      let Q : Option (AskOf × AnswerOf) → Type 0 = λ o. ChainSome rules t V p (one_of o ++ along (zip asks answers) order) W q in
      subst Q (sym (zip_get asks answers place))
      (chain_step V p (slice_get asks place) (slice_get answers place) (slice_get fulls place) (along (zip asks fulls) order) (along (zip asks answers) order) W q (completes_at asks answers fulls e place)
      (λ U r d. chain_some_along order U r fulls W q e d) (subst P (zip_get asks fulls place) c))

-- an answered place has its pair
pair_there : (asks : List AskOf) (answers : List AnswerOf) (place : ℕ) → place < length asks → place < length answers → IsPair asks answers place
pair_there asks answers place h g =
    let k = below_get asks place h in
    let a = below_get answers place g in
    record { ask = k.0; answer = a.0; asked = k.1; answered = a.1 }

-- a chain in an order of taking is one of some completed answers
chain_full_along : (rules : RulesOf) (V : List Thing) (p : Option (List ℕ)) (request : RequestOf) (response : ResponseOf) (order : List ℕ) (W : List Thing) (q : Option (List ℕ)) → IsTakingOrder request response order
    → ChainSome rules response.stamp V p (along (pairs_of request response) order) W q
    → (fulls : List AnswerOf) × CompletesAnswers request.items response.items fulls × Chain rules response.stamp V p (along (zip request.items fulls) order) W q
chain_full_along rules V p request response order W q o c =
    let f = filled rules response.stamp request.items response.items order
    (λ position place e. let h : IsAnsweredPlace request response place = o.answered position place e in pair_there request.items response.items place h.0 h.1) o.once V p W q c in
    (f.fulls, completes_each request.items response.items f.fulls (λ place. by f place (slice_get request.items place) refl (slice_get response.items place) refl), f.chain)
  where
    by : (f : Filled rules response.stamp request.items response.items order V p W q) (place : ℕ) (k : Option AskOf) → slice_get request.items place ≡ k → (x : Option AnswerOf) → slice_get response.items place ≡ x
        → CompletesAt (slice_get response.items place) (slice_get f.fulls place) (slice_get request.items place)
    by f place (Some k) e (Some x) g =
        let at = o.all place (slice_get_within request.items place k e, slice_get_within response.items place x g) in
        f.done at.0 place at.1
    by f place k e None g =
        let same : slice_get f.fulls place ≡ None = f.rest place (λ position there.
        let h : IsAnsweredPlace request response place = o.answered position place there in
        let a = below_get response.items place h.1 in
        let b = a.1 in
        let bad : ⊥ = cc in bad) ∙ g in
        let A : Option AnswerOf → Type 0 = λ o. CompletesAt o (slice_get f.fulls place) (slice_get request.items place) in
        let F : Option AnswerOf → Type 0 = λ o. CompletesAt None o (slice_get request.items place) in
        subst A (sym g) (subst F (sym same) tt)
    by f place None e (Some x) g =
        let same : slice_get f.fulls place ≡ Some x = f.rest place (λ position there.
        let h : IsAnsweredPlace request response place = o.answered position place there in
        let a = below_get request.items place h.0 in
        let b = a.1 in
        let bad : ⊥ = cc in bad) ∙ g in
        let A : Option AnswerOf → Type 0 = λ o. CompletesAt o (slice_get f.fulls place) (slice_get request.items place) in
        let F : Option AnswerOf → Type 0 = λ o. CompletesAt (Some x) o (slice_get request.items place) in
        let K : Option AskOf → Type 0 = λ o. CompletesAt (Some x) (Some x) o in
        subst A (sym g) (subst F (sym same) (subst K (sym e) refl))

-- the same by place, or in an order in which the items may be taken
chain_completed : (rules : RulesOf) (V : List Thing) (p : Option (List ℕ)) (request : RequestOf) (response : ResponseOf) (order : Option (List ℕ)) (W : List Thing) (q : Option (List ℕ)) → MayTake request response order
    → ChainSome rules response.stamp V p (pairs_taken request response order) W q
    → (fulls : List AnswerOf) × CompletesAnswers request.items response.items fulls
    × Chain rules response.stamp V p (pairs_taken request (record { stamp = response.stamp; items = fulls }) order) W q
chain_completed rules V p request response None W q may c = chain_full rules response.stamp V p request.items response.items W q c
chain_completed rules V p request response (Some order) W q may c = chain_full_along rules V p request response order W q may.2 c

chain_may_complete : (rules : RulesOf) (t : ℤ) (V : List Thing) (p : Option (List ℕ)) (request : RequestOf) (response full : ResponseOf) (order : Option (List ℕ)) (W : List Thing) (q : Option (List ℕ))
    → CompletesAnswers request.items response.items full.items → Chain rules t V p (pairs_taken request full order) W q → ChainSome rules t V p (pairs_taken request response order) W q
chain_may_complete rules t V p request response full None W q e c = chain_some rules t V p request.items response.items full.items W q e c
chain_may_complete rules t V p request response full (Some order) W q e c = chain_some_along rules t request.items response.items order V p full.items W q e c

leaves_alike : (option : BatchOption) (xs ys : List AnswerOf) (V M W : List Thing) → Alike xs ys → Leaves option xs V M W → Leaves option ys V M W
leaves_alike option xs ys V M W h l = elim l [
  | goes_back o f w is ↦ goes_back o f (first_alike xs ys f h w) is
  | goes_on o is ↦ goes_on (λ u. none_alike xs ys h (o u)) is
]

-- a batch whose answers may be completed
pub record BatchSome (rules : RulesOf) (V : List Thing) (request : RequestOf) (response : ResponseOf) (order : Option (List ℕ)) (W : List Thing) : Type 0 where
  pub shaped : IsShaped request response
  pub last : List Thing
  pub placeholder : Option (List ℕ)
  pub chain : ChainSome rules response.stamp V None (pairs_taken request response order) last placeholder
  pub leaves : Leaves request.option response.items V last W

pub call_of_batch : (rules : RulesOf) (V : List Thing) (request : RequestOf) (response : ResponseOf) (order : Option (List ℕ)) (W : List Thing) → MayTake request response order
    → BatchSome rules V request response order W → CallSomeAlong rules V request response order W
call_of_batch rules V request response order W may b =
    let r = chain_completed rules V None request response order b.last b.placeholder may b.chain in
    let alike : Alike response.items r.0 = alike_completes request.items response.items r.0 r.1 in
    record {
      full = record { stamp = response.stamp; items = r.0 };
      completes = record { stamp = refl; items = r.1 };
      call = inl (record {
        shaped = λ place. shape_alike request.option (length request.items) response.items r.0 place alike (b.shaped place);
        last = b.last;
        placeholder = b.placeholder;
        chain = r.2;
        leaves = leaves_alike request.option response.items r.0 V b.last W alike b.leaves;
      });
    }

no_more : (asks : List AskOf) (a b : AnswerOf) (xs : List AnswerOf) (f : AnswerOf) → CompletesAnswers asks (a ∷ b ∷ xs) (f ∷ []) → ⊥
no_more [] a b xs f c = c.1
no_more (k ∷ []) a b xs f c = c.1
no_more (k ∷ l ∷ ks) a b xs f c = c.1

no_others : (asks : List AskOf) (a f g : AnswerOf) (fs : List AnswerOf) → CompletesAnswers asks (a ∷ []) (f ∷ g ∷ fs) → ⊥
no_others [] a f g fs c = c.1
no_others (k ∷ []) a f g fs c = c.1
no_others (k ∷ l ∷ ks) a f g fs c = c.1

-- what is alone and failed without Operation stays so
refuses_back : (asks : List AskOf) (answers fulls : List AnswerOf) → CompletesAnswers asks answers fulls → (full : AnswerOf) → fulls ≡ full ∷ [] → full.status ≡ Failed → full.operation ≡ None
    → (answer : AnswerOf) × (answers ≡ answer ∷ []) × (answer.status ≡ Failed) × (answer.operation ≡ None)
refuses_back asks answers [] c full is failed unnamed = let bad : ⊥ = cc in absurd bad
refuses_back asks [] (f ∷ fs) c full is failed unnamed = absurd c
refuses_back asks (a ∷ xs) (f ∷ g ∷ fs) c full is failed unnamed = let bad : ⊥ = cc in absurd bad
refuses_back asks (a ∷ b ∷ xs) (f ∷ []) c full is failed unnamed = absurd (no_more asks a b xs f c)
refuses_back [] (a ∷ []) (f ∷ []) c full is failed unnamed =
    let first : f ≡ full = cc in
    (a, refl, ap (λ (x : AnswerOf). x.status) (sym c.0 ∙ first) ∙ failed, ap (λ (x : AnswerOf). x.operation) (sym c.0 ∙ first) ∙ unnamed)
refuses_back (k ∷ ks) (a ∷ []) (f ∷ []) c full is failed unnamed =
    let first : f ≡ full = cc in
    (a, refl, sym c.0.status ∙ ap (λ (x : AnswerOf). x.status) first ∙ failed, sym c.0.operation ∙ ap (λ (x : AnswerOf). x.operation) first ∙ unnamed)

refuses_on : (asks : List AskOf) (answer : AnswerOf) (fulls : List AnswerOf) → CompletesAnswers asks (answer ∷ []) fulls → answer.status ≡ Failed → (full : AnswerOf) × (fulls ≡ full ∷ []) × (full.status ≡ Failed)
refuses_on asks answer [] c failed = absurd c
refuses_on asks answer (f ∷ g ∷ fs) c failed = absurd (no_others asks answer f g fs c)
refuses_on [] answer (f ∷ []) c failed = (f, refl, ap (λ (x : AnswerOf). x.status) c.0 ∙ failed)
refuses_on (k ∷ ks) answer (f ∷ []) c failed = (f, refl, c.0.status ∙ failed)

-- a failed answer is its own completion
fills_failed : (asked : AskedOf) (status : Status) (payload : Option PayloadOf) → status ≡ Failed → Fills asked status payload payload
fills_failed asked Success payload e = refl
fills_failed asked Failed payload e = refl
fills_failed asked Undone payload e = let bad : ⊥ = cc in absurd bad

completes_alone : (asks : List AskOf) (answer : AnswerOf) → answer.status ≡ Failed → CompletesAnswers asks (answer ∷ []) (answer ∷ [])
completes_alone [] answer failed = (refl, tt)
completes_alone (k ∷ ks) answer failed =
    (record { operation = refl; batch_id = refl; status = refl; reason = refl; payload = fills_failed k.asked answer.status answer.payload failed }, tt)

-- a refused message leaves the inventory, and is a call
pub call_of_refused : (rules : RulesOf) (V : List Thing) (request : RequestOf) (response : ResponseOf) → RefusesMessage response → CallSome rules V request response V
call_of_refused rules V request response r =
    let P : List AnswerOf → Type 0 = λ xs. CompletesAnswers request.items xs xs in
    record {
      full = response;
      completes = record { stamp = refl; items = subst P (sym r.alone) (completes_alone request.items r.answer r.failed) };
      call = inr (r, refl);
    }

-- what failed leaves the inventory
outcome_failed : (status : Status) (rules : RulesOf) (V : List Thing) (p : Option (List ℕ)) (t : ℤ) (asked : AskedOf) (reason : Option ℕ) (payload : Option PayloadOf) (W : List Thing) (q : Option (List ℕ))
    → status ≡ Failed → Outcome status rules V p t asked reason payload W q → W ≡ V
outcome_failed Success rules V p t asked reason payload W q e o = let bad : ⊥ = cc in absurd bad
outcome_failed Undone rules V p t asked reason payload W q e o = let bad : ⊥ = cc in absurd bad
outcome_failed Failed rules V p t asked reason payload W q e o = o.leaves

chain_failed : (rules : RulesOf) (t : ℤ) (V : List Thing) (p : Option (List ℕ)) (asks : List AskOf) (full : AnswerOf) (W : List Thing) (q : Option (List ℕ))
    → full.status ≡ Failed → Chain rules t V p (zip asks (full ∷ [])) W q → W ≡ V
chain_failed rules t V p [] full W q e c = c.0
chain_failed rules t V p (k ∷ []) full W q e c = c.3.0 ∙ outcome_failed full.status rules V p t k.asked full.reason full.payload c.0 c.1 e c.2.outcome
chain_failed rules t V p (k ∷ l ∷ ks) full W q e c = c.3.0 ∙ outcome_failed full.status rules V p t k.asked full.reason full.payload c.0 c.1 e c.2.outcome

leaves_same : (option : BatchOption) (answers : List AnswerOf) (V M W : List Thing) → M ≡ V → Leaves option answers V M W → W ≡ V
leaves_same option answers V M W e l = elim l [ goes_back o f w is ↦ is | goes_on o is ↦ is ∙ e ]

-- whatever a refused message is read as, it leaves the inventory
pub refused_leaves : (rules : RulesOf) (V : List Thing) (request : RequestOf) (response : ResponseOf) (W : List Thing) → RefusesMessage response → CallSome rules V request response W → W ≡ V
refused_leaves rules V request response W r s = elim s.call [
  | inr x ↦ x.1
  | inl b ↦ (
      let P : List AnswerOf → Type 0 = λ xs. CompletesAnswers request.items xs s.full.items in
      let on = refuses_on request.items r.answer s.full.items (subst P r.alone s.completes.items) r.failed in
      let Q : List AnswerOf → Type 0 = λ xs. Chain rules s.full.stamp V None (zip request.items xs) b.last b.placeholder in
      leaves_same request.option s.full.items V b.last W (chain_failed rules s.full.stamp V None request.items on.0 b.last b.placeholder on.2 (subst Q on.1 b.chain)) b.leaves)
]

-- a call whose message isn't refused as a whole is a batch
pub batch_of_call : (rules : RulesOf) (V : List Thing) (request : RequestOf) (response : ResponseOf) (order : Option (List ℕ)) (W : List Thing) → (RefusesMessage response → ⊥)
    → CallSomeAlong rules V request response order W → BatchSome rules V request response order W
batch_of_call rules V request response order W unrefused s = elim s.call [
  | inr x ↦ (
      let a = refuses_back request.items response.items s.full.items s.completes.items x.0.answer x.0.alone x.0.failed x.0.unnamed in
      absurd (unrefused (record { answer = a.0; alone = a.1; failed = a.2; unnamed = a.3 })))
  | inl b ↦ (
      let alike : Alike s.full.items response.items = alike_sym response.items s.full.items (alike_completes request.items response.items s.full.items s.completes.items) in
      let P : ℤ → Type 0 = λ t. Chain rules t V None (pairs_taken request s.full order) b.last b.placeholder in
      record {
        shaped = λ place. shape_alike request.option (length request.items) s.full.items response.items place alike (b.shaped place);
        last = b.last;
        placeholder = b.placeholder;
        chain = chain_may_complete rules response.stamp V None request response s.full order b.last b.placeholder s.completes.items (subst P s.completes.stamp b.chain);
        leaves = leaves_alike request.option s.full.items response.items V b.last W alike b.leaves;
      })
]
