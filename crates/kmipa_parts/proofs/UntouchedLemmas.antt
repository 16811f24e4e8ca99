-- Calls that may not touch some objects leave them as they are, whatever they are answered, and in whatever order their items are taken.
use Rattle.std.proofs.Common.{◌≡◌, ◌<◌, ◌+◌, ◌⊎◌, inl, inr, ℕ, zero, suc, ℤ, true, false, List, [], ◌∷◌, ◌++◌, get_or, length, map, slice_get, take, Option, Some, None, Contains, refl, sym, ap, ◌∙◌, subst}
use Rattle.std.specs.List.{zip}
use Rattle.std.proofs.lemmas.List.{map-append, take_more}
use Rattle.std.proofs.lemmas.List.Elements.{Contains-append_cases}
use Rattle.kmipa_object.specs.Inventory.{Thing}
use Rattle.kmipa_msgs.specs.declared.response.Status.{Status}
use Rattle.kmipa_msgs.specs.declared.response.Status.TheVariants.{Success, Failed, Undone}
use Rattle.kmipa_msgs.specs.Messages.{RulesOf, AskedOf, creates, registers, locates, gets, gets_attributes, activates, revokes, destroys, idles, does_other, AskOf, ask_of, PayloadOf, AnswerOf, ResponseOf}
use Rattle.kmipa_msgs.specs.declared.request.Ask.{Ask}
use Rattle.kmipa_ops.specs.Chains.{Chain, ChainSome}
use Rattle.kmipa_ops.specs.Does.{Outcome}
use Rattle.kmipa_ops.specs.Explains.{is_readable}
use Rattle.kmipa_ops.specs.Objects.{meant}
use Rattle.kmipa_batch.specs.Calls.{Batch, RefusesMessage, CompletesAnswers, CallSomeAlong, pairs_of, pairs_taken}
use Rattle.kmipa_batch.specs.Calls.Leaves.{goes_back, goes_on}
use Rattle.kmipa_batch.specs.Orders.{along, one_of}
use Rattle.kmipa_batch.specs.Readable.{AreReadable, IsReadableCall}
use Rattle.kmipa_batch.proofs.CompletionLemmas.{batch_of_call, refused_leaves}
use Rattle.kmipa_check.specs.Steps.{StepOf, order_of}
use Rattle.kmipa_check.proofs.PlaceLemmas.{contains_at, at_contains}
use Rattle.kmipa_parts.specs.Parts.{OwnOf, cut, about, is_change, is_own, LeavesBe, looks, elsewhere, may_mean, may_touch, MayTouch}
use Rattle.kmipa_parts.proofs.CutLemmas.{true_or_not}
use Rattle.kmipa_parts.proofs.ItemLemmas.{leaves_be}

-- ---- an item

module _ (own : OwnOf) (before : Option (List ℕ)) (ask : AskOf) (answer : AnswerOf) (none : may_touch own ask.asked ≡ false) where
  another : (named : Option (List ℕ)) → may_mean own named ≡ false → is_own own (meant named before) ≡ false
  another None e = let bad : ⊥ = cc in absurd bad
  another (Some other) e = e

  looking : (asked : AskedOf) → ask.asked ≡ asked → is_change asked ≡ false → LeavesBe own before ask answer
  looking asked e quiet = looks (ap is_change e ∙ quiet)

  away : (asked : AskedOf) (named : Option (List ℕ)) → ask.asked ≡ asked → may_touch own asked ≡ may_mean own named → about before asked answer.status answer.payload ≡ meant named before → LeavesBe own before ask answer
  away asked named e touch is =
      elsewhere (ap (is_own own) (ap (λ (a : AskedOf). about before a answer.status answer.payload) e ∙ is) ∙ another named (sym touch ∙ sym (ap (may_touch own) e) ∙ none))

  never : (asked : AskedOf) → ask.asked ≡ asked → may_touch own asked ≡ true → ⊥
  never asked e touch =
      let both : true ≡ false = sym touch ∙ sym (ap (may_touch own) e) ∙ none in
      let bad : ⊥ = cc in
      bad

  -- one that may not touch them leaves them as they are
  leaves_untouched : LeavesBe own before ask answer
  leaves_untouched = by ask.asked refl
    where
      by : (asked : AskedOf) → ask.asked ≡ asked → LeavesBe own before ask answer
      by (creates a) e = absurd (never (creates a) e refl)
      by (registers r) e = absurd (never (registers r) e refl)
      by (locates q) e = absurd (never (locates q) e refl)
      by (gets named) e = looking (gets named) e refl
      by (gets_attributes g) e = looking (gets_attributes g) e refl
      by (activates named) e = away (activates named) named e refl refl
      by (revokes r) e = away (revokes r) r.id e refl refl
      by (destroys named) e = away (destroys named) named e refl refl
      by (idles n) e = looking (idles n) e refl
      by (does_other n) e = looking (does_other n) e refl

-- ---- pairs of ask and answer, in any order

abbrev Each : (AskOf × AnswerOf → Type 0) → List (AskOf × AnswerOf) → Type 0
Each P [] = Unit {0}
Each P (pair ∷ pairs) = P pair × Each P pairs

module _ (P : AskOf × AnswerOf → Type 0) where
  each_at : (pairs : List (AskOf × AnswerOf)) (place : ℕ) (pair : AskOf × AnswerOf) → Each P pairs → slice_get pairs place ≡ Some pair → P pair
  each_at [] place pair h at = let bad : ⊥ = cc in absurd bad
  each_at (x ∷ pairs) zero pair h at = let same : x ≡ pair = cc in subst P same h.0
  each_at (x ∷ pairs) (suc place) pair h at = each_at pairs place pair h.1 at

  each_along : (pairs : List (AskOf × AnswerOf)) (order : List ℕ) → Each P pairs → Each P (along pairs order)
  each_along pairs [] h = tt
  each_along pairs (place ∷ order) h = by (each_along pairs order h) (slice_get pairs place) refl
    where
      by : Each P (along pairs order) → (found : Option (AskOf × AnswerOf)) → slice_get pairs place ≡ found → Each P (one_of found ++ along pairs order)
      by rest None e = rest
      by rest (Some pair) e = (each_at pairs place pair h e, rest)

abbrev CanBeJudged : AskOf × AnswerOf → Type 0
CanBeJudged pair = is_readable pair.0 pair.1 ≡ true

abbrev IsUntouched : OwnOf → AskOf × AnswerOf → Type 0
IsUntouched own pair = may_touch own pair.0.asked ≡ false

abbrev HasFailed : AskOf × AnswerOf → Type 0
HasFailed pair = pair.1.status ≡ Failed

each_readable : (pairs : List (AskOf × AnswerOf)) → AreReadable pairs → Each CanBeJudged pairs
each_readable [] r = tt
each_readable (pair ∷ pairs) r = (r.0, each_readable pairs r.1)

each_untouched : (own : OwnOf) (asks : List AskOf) (answers : List AnswerOf) → ((ask : AskOf) → Contains asks ask → may_touch own ask.asked ≡ false) → Each (IsUntouched own) (zip asks answers)
each_untouched own [] answers u = tt
each_untouched own (ask ∷ asks) [] u = tt
each_untouched own (ask ∷ asks) (answer ∷ answers) u =
    (u ask (contains_at (ask ∷ asks) 0 ask refl), each_untouched own asks answers (λ x has. let i = at_contains asks x has in u x (contains_at (ask ∷ asks) (suc i.0) x i.1)))

abbrev AllFailed : List AnswerOf → Type 0
AllFailed [] = Unit {0}
AllFailed (answer ∷ answers) = (answer.status ≡ Failed) × AllFailed answers

each_failed : (asks : List AskOf) (answers fulls : List AnswerOf) → CompletesAnswers asks answers fulls → AllFailed answers → Each HasFailed (zip asks fulls)
each_failed [] answers fulls c f = tt
each_failed (ask ∷ asks) [] [] c f = tt
each_failed (ask ∷ asks) [] (full ∷ fulls) c f = absurd c
each_failed (ask ∷ asks) (answer ∷ answers) [] c f = absurd c
each_failed (ask ∷ asks) (answer ∷ answers) (full ∷ fulls) c f = (c.0.status ∙ f.0, each_failed asks answers fulls c.1 f.1)

-- ---- chains of them

chain_untouched : (rules : RulesOf) (t : ℤ) (own : OwnOf) (V : List Thing) (before : Option (List ℕ)) (pairs : List (AskOf × AnswerOf)) (W : List Thing) (after : Option (List ℕ))
    → Each CanBeJudged pairs → Each (IsUntouched own) pairs → ChainSome rules t V before pairs W after → cut own W ≡ cut own V
chain_untouched rules t own V before [] W after r u c = ap (cut own) c.0
chain_untouched rules t own V before (pair ∷ pairs) W after r u c =
    chain_untouched rules t own c.0 c.1 pairs W after r.1 u.1 c.3
    ∙ leaves_be rules t V before pair.0 pair.1 c.0 c.1 r.0 c.2 own (leaves_untouched own before pair.0 pair.1 u.0)

leaves_failed : (status : Status) (rules : RulesOf) (V : List Thing) (p : Option (List ℕ)) (t : ℤ) (asked : AskedOf) (reason : Option ℕ) (payload : Option PayloadOf) (W : List Thing) (q : Option (List ℕ))
    → status ≡ Failed → Outcome status rules V p t asked reason payload W q → W ≡ V
leaves_failed Success rules V p t asked reason payload W q e o = let bad : ⊥ = cc in absurd bad
leaves_failed Undone rules V p t asked reason payload W q e o = let bad : ⊥ = cc in absurd bad
leaves_failed Failed rules V p t asked reason payload W q e o = o.leaves

chain_failed : (rules : RulesOf) (t : ℤ) (V : List Thing) (before : Option (List ℕ)) (pairs : List (AskOf × AnswerOf)) (W : List Thing) (after : Option (List ℕ))
    → Each HasFailed pairs → Chain rules t V before pairs W after → W ≡ V
chain_failed rules t V before [] W after f c = c.0
chain_failed rules t V before (pair ∷ pairs) W after f c =
    chain_failed rules t c.0 c.1 pairs W after f.1 c.3
    ∙ leaves_failed pair.1.status rules V before t pair.0.asked pair.1.reason pair.1.payload c.0 c.1 f.0 c.2.outcome

-- ---- a call

pub refuses_or_not : (response : ResponseOf) → RefusesMessage response ⊎ (RefusesMessage response → ⊥)
refuses_or_not response = by response.items refl
  where
    by : (items : List AnswerOf) → response.items ≡ items → RefusesMessage response ⊎ (RefusesMessage response → ⊥)
    by [] e = inr (λ r. let both : [] ≡ r.answer ∷ [] = sym e ∙ r.alone in let bad : ⊥ = cc in bad)
    by (a ∷ b ∷ items) e = inr (λ r. let both : a ∷ b ∷ items ≡ r.answer ∷ [] = sym e ∙ r.alone in let bad : ⊥ = cc in bad)
    by (a ∷ []) e = failing a.status a.operation refl refl
      where
        mine : (r : RefusesMessage response) → a ≡ r.answer
        mine r = let both : a ∷ [] ≡ r.answer ∷ [] = sym e ∙ r.alone in cc

        failing : (s : Status) (o : Option ℕ) → a.status ≡ s → a.operation ≡ o → RefusesMessage response ⊎ (RefusesMessage response → ⊥)
        failing Failed None f u = inl (record { answer = a; alone = e; failed = f; unnamed = u })
        failing Failed (Some x) f u = inr (λ r. let both : Some x ≡ None = sym u ∙ ap (λ (y : AnswerOf). y.operation) (mine r) ∙ r.unnamed in let bad : ⊥ = cc in bad)
        failing Success o f u = inr (λ r. let both : Success ≡ Failed = sym f ∙ ap (λ (y : AnswerOf). y.status) (mine r) ∙ r.failed in let bad : ⊥ = cc in bad)
        failing Undone o f u = inr (λ r. let both : Undone ≡ Failed = sym f ∙ ap (λ (y : AnswerOf). y.status) (mine r) ∙ r.failed in let bad : ⊥ = cc in bad)

module _ (rules : RulesOf) (own : OwnOf) (V : List Thing) (c : StepOf) (W : List Thing) (readable : IsReadableCall c.request c.response) (apart : MayTouch own c.request → ⊥) where
  untouching : Each (IsUntouched own) (pairs_of c.request c.response)
  untouching = each_untouched own c.request.items c.response.items (λ ask has. elim (true_or_not (may_touch own ask.asked)) [ inl touch ↦ absurd (apart (ask, has, touch)) | inr none ↦ none ])

  -- a message that is refused as a whole changes nothing, in whatever order it is taken
  refused_untouched : (order : Option (List ℕ)) → RefusesMessage c.response → CallSomeAlong rules V c.request c.response order W → W ≡ V
  refused_untouched None r s = refused_leaves rules V c.request c.response W r s
  refused_untouched (Some order) r s = elim s.call [ inl b ↦ of_batch b | inr x ↦ x.1 ]
    where
      failed : Each HasFailed (pairs_of c.request s.full)
      failed = each_failed c.request.items c.response.items s.full.items s.completes.items (let P : List AnswerOf → Type 0 = λ xs. AllFailed xs in subst P (sym r.alone) (r.failed, tt))

      of_batch : Batch rules V c.request s.full (Some order) W → W ≡ V
      of_batch b =
          let same = chain_failed rules s.full.stamp V None (along (pairs_of c.request s.full) order) b.last b.placeholder (each_along HasFailed (pairs_of c.request s.full) order failed) b.chain in
          (elim b.leaves [ goes_back undo f first is ↦ is | goes_on none is ↦ is ∙ same ])

  batch_untouched : (order : Option (List ℕ)) → (RefusesMessage c.response → ⊥) → CallSomeAlong rules V c.request c.response order W → cut own W ≡ cut own V
  batch_untouched order unrefused s =
      let b = batch_of_call rules V c.request c.response order W unrefused s in
      let same = chain_untouched rules c.response.stamp own V None (pairs_taken c.request c.response order) b.last b.placeholder (judged order) (apart_all order) b.chain in
      (elim b.leaves [ goes_back undo f first is ↦ ap (cut own) is | goes_on none is ↦ ap (cut own) is ∙ same ])
    where
      judged : (o : Option (List ℕ)) → Each CanBeJudged (pairs_taken c.request c.response o)
      judged None = each_readable (pairs_of c.request c.response) (readable unrefused)
      judged (Some places) = each_along CanBeJudged (pairs_of c.request c.response) places (each_readable (pairs_of c.request c.response) (readable unrefused))

      apart_all : (o : Option (List ℕ)) → Each (IsUntouched own) (pairs_taken c.request c.response o)
      apart_all None = untouching
      apart_all (Some places) = each_along (IsUntouched own) (pairs_of c.request c.response) places untouching

  pub call_untouched : CallSomeAlong rules V c.request c.response (order_of c) W → cut own W ≡ cut own V
  call_untouched d = elim (refuses_or_not c.response) [
    | inl r ↦ ap (cut own) (refused_untouched (order_of c) r d)
    | inr unrefused ↦ batch_untouched (order_of c) unrefused d
  ]

-- ---- the asks that were looked at

pub one_more : (own : OwnOf) (xs : List Ask) (i : ℕ) (x : Ask) → i < length xs → x ≡ get_or xs i x → ((ask : AskOf) → Contains (map ask_of (take i xs)) ask → may_touch own ask.asked ≡ false)
    → may_touch own (ask_of x).asked ≡ false → (ask : AskOf) → Contains (map ask_of (take (i + 1) xs)) ask → may_touch own ask.asked ≡ false
one_more own xs i x less is before here ask has =
    let more : map ask_of (take (i + 1) xs) ≡ map ask_of (take i xs) ++ ask_of x ∷ [] = ap (λ ys. map ask_of ys) (take_more xs i x less ∙ ap (λ y. take i xs ++ y ∷ []) (sym is)) ∙ map-append ask_of (take i xs) (x ∷ []) in
    let P : List AskOf → Type 0 = λ ks. Contains ks ask in
    (elim (Contains-append_cases (map ask_of (take i xs)) (ask_of x ∷ []) ask (subst P more has)) [
      | inl l ↦ before ask l
      | inr r ↦ (let k = at_contains (ask_of x ∷ []) ask r in last k.0 k.1)
    ])
  where
    last : (k : ℕ) → slice_get (ask_of x ∷ []) k ≡ Some ask → may_touch own ask.asked ≡ false
    last zero at = let same : ask_of x ≡ ask = cc in let Q : AskOf → Type 0 = λ y. may_touch own y.asked ≡ false in subst Q same here
    last (suc k) at = let bad : ⊥ = cc in absurd bad
