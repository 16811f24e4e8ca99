-- One item of a batch, whatever its operation: where nothing speaks against it the ledger goes on, and what speaks against it allows no choice.
use Rattle.std.proofs.Common.{◌≡◌, ◌||◌, ◌==◌, ℕ, ℤ, Bool, true, false, not, List, bytes_eq, is_some, option_map, MatchOption, Option, Some, None, refl, ap, sym, ◌∙◌, subst, inl, inr}
use Rattle.std.proofs.lemmas.Bool.{or_parts}
use Rattle.std.proofs.lemmas.Bool.Decides.{Decides-eqb}
use Rattle.std.proofs.lemmas.Slice.Eq.{bytes_eq-Decides}
use Rattle.kmipa_object.specs.Inventory.{Card, Thing, cards}
use Rattle.kmipa_store.specs.Ledger.{Meaning, cards_of}
use Rattle.kmipa_store.specs.Choices.{Choice, Chooses, inv, IsSound}
use Rattle.kmipa_store.proofs.InventoryLemmas.{cards-inv}
use Rattle.kmipa_msgs.specs.declared.response.Status.{Status}
use Rattle.kmipa_msgs.specs.declared.response.Status.TheVariants.{Success, Failed, Undone}
use Rattle.kmipa_msgs.specs.Operations.{operation_number}
use Rattle.kmipa_msgs.specs.Messages.{RulesOf, AskedOf, AskOf, operation_asked, PayloadOf, AnswerOf}
use Rattle.kmipa_ops.specs.declared.why.Why.{Why}
use Rattle.kmipa_ops.specs.declared.why.Why.TheVariants.{OperationDiffers, ReasonUnfounded, EchoDiffers}
use Rattle.kmipa_ops.specs.Objects.{Echoes, Agree, is_other}
use Rattle.kmipa_ops.specs.Effects.{brought_by}
use Rattle.kmipa_ops.specs.Judging.{Judging, RowJudging, row_brings, row_speaks, row_leaves, row_holds}
use Rattle.kmipa_ops.specs.Row.{Deed, Row, deed, idle, unknown, seen_in, row_does, row_is_of, row_may_lack, row_is_idle}
use Rattle.kmipa_ops.specs.Rows.{asked_judging, asked_row}
use Rattle.kmipa_ops.specs.Founded.{founded}
use Rattle.kmipa_ops.specs.Does.{Fails, Outcome}
use Rattle.kmipa_ops.specs.Completes.{IsFill, FillsRow, Fills, DoesSome, can_judge}
use Rattle.kmipa_ops.specs.Blame.{outcome_speaks, frame_speaks, speaks, lowest}
use Rattle.kmipa_ops.specs.After.{after, placeholder_after}
use Rattle.kmipa_ops.specs.Explains.{brings, shows, AreBytes, TellsBytes, is_readable}
use Rattle.kmipa_ops.proofs.TestLemmas.{not_false, or_cases, echoes_if, echoes_not, agree_if, agree_not, none_holds}
use Rattle.kmipa_ops.proofs.StepLemmas.{Step, step_as, still_step}
use Rattle.kmipa_ops.proofs.DeedLaws.{Learns, IsDeed, IsRow, one_shows}
use Rattle.kmipa_ops.proofs.RowLemmas.{is_row}
use Rattle.kmipa_ops.proofs.FoundedLemmas.{founded_decides}
use Rattle.kmipa_ttlv.specs.Tree.{Trees}
use Rattle.kmipa_msgs.specs.declared.operation.Operation.{Operation}

module _ (rules : RulesOf) (m : Meaning) (before : Option (List ℕ)) (t : ℤ) where
  -- AN OPERATION WHOSE PAYLOADS ARE READ

  module _ (d : Deed) (j : Judging d) {Says : Trees → PayloadOf → Type 0} {Sayable : d.Shown → Type 0} (is : IsDeed d j Says Sayable) where
    -- done with a payload
    abbrev DoesSeen : Option d.Shown → List Thing → List Thing → Option (List ℕ) → Type 0
    DoesSeen o V V' p = MatchOption o ⊥ (λ shown. d.does rules V before t shown V' p)

    seen_step : (payload : PayloadOf) (o : Option d.Shown) → d.seen payload ≡ o → is_some o ≡ true → IsSound m → AreBytes (brought_by j.effect) → AreBytes (shows (Some payload))
        → ((w : Why) → j.speaks rules m before t o w ≡ false) → Step (λ V V' p. DoesSeen o V V' p) m (j.leaves m before t o) (j.holds before o)
    seen_step payload None e of sound brought shown silent = let bad : ⊥ = cc in absurd bad
    seen_step payload (Some x) e of sound brought shown silent =
        is.step rules m before t x sound brought (subst (λ (p : PayloadOf). AreBytes (shows (Some p))) (one_shows d is payload x e) shown) silent

    seen_never : (o : Option d.Shown) (w : Why) → j.speaks rules m before t o w ≡ true → (c : Choice) → Chooses m.secrets c → (V : List Thing) (p : Option (List ℕ))
        → DoesSeen o (inv c m.objects) V p → ⊥
    seen_never None w h c ch V p x = x
    seen_never (Some x) w h c ch V p y = is.never rules m before t x w h c ch V p y

    -- done with a payload that is left out
    abbrev Hides : List Thing → List Thing → Option (List ℕ) → Type 0
    Hides V V' p = (x : d.Shown) × d.says x × d.does rules V before t x V' p

    abbrev Filled : List Thing → List Thing → Option (List ℕ) → Type 0
    Filled V V' p = (filled : Option PayloadOf) × IsFill d filled × row_does (deed d) rules V before t filled V' p

    hides : (V V' : List Thing) (p : Option (List ℕ)) → Filled V V' p → Hides V V' p
    hides V V' p x =
        let P : Option PayloadOf → Type 0 = λ f. row_does (deed d) rules V before t f V' p in
        let Q : Option d.Shown → Type 0 = λ o. DoesSeen o V V' p in
        (x.1.shown, x.1.sayable, subst Q (is.back x.1.shown) (subst P x.1.is x.2))

    fills : (V V' : List Thing) (p : Option (List ℕ)) → Hides V V' p → Filled V V' p
    fills V V' p x =
        let Q : Option d.Shown → Type 0 = λ o. DoesSeen o V V' p in
        (Some (d.payload x.0), record { shown = x.0; is = refl; sayable = x.1 }, subst Q (sym (is.back x.0)) x.2)

    filled_step : d.may_lack ≡ true → IsSound m → ((w : Why) → j.speaks rules m before t None w ≡ false) → Step Filled m (j.leaves m before t None) (j.holds before None)
    filled_step may sound silent = step_as Hides Filled m (j.leaves m before t None) (j.holds before None) fills hides (is.hidden rules m before t may sound silent)

    filled_never : (w : Why) → j.speaks rules m before t None w ≡ true → (c : Choice) → Chooses m.secrets c → (V : List Thing) (p : Option (List ℕ)) → Filled (inv c m.objects) V p → ⊥
    filled_never w h c ch V p x = let y = hides (inv c m.objects) V p x in is.never rules m before t y.0 w (is.covers rules m before t y.0 w h) c ch V p y.2

  -- ANY OPERATION

  -- with this payload
  abbrev DoesWith : Row → Option PayloadOf → List Thing → List Thing → Option (List ℕ) → Type 0
  DoesWith row payload V V' p = (filled : Option PayloadOf) × (filled ≡ payload) × row_does row rules V before t filled V' p

  with_step : (row : Row) (payload : Option PayloadOf) (n : Meaning) (q : Option (List ℕ)) → Step (λ V V' p. row_does row rules V before t payload V' p) m n q → Step (DoesWith row payload) m n q
  with_step row payload n q s =
      step_as (λ V V' p. row_does row rules V before t payload V' p) (DoesWith row payload) m n q
      (λ V V' p x. (payload, refl, x))
      (λ V V' p x. let P : Option PayloadOf → Type 0 = λ f. row_does row rules V before t f V' p in subst P x.1 x.2)
      s

  done_step : (operation : Operation) (row : Row) (j : RowJudging row) (payload : PayloadOf) → IsRow operation row j → IsSound m → row_is_of row payload ≡ true → AreBytes (row_brings row j) → AreBytes (shows (Some payload))
      → ((w : Why) → row_speaks row j rules m before t (Some payload) w ≡ false)
      → Step (λ V V' p. row_does row rules V before t (Some payload) V' p) m (row_leaves row j m before t (Some payload)) (row_holds row j before (Some payload))
  done_step operation (deed d) j payload is sound of brought shown silent = seen_step d j is payload (d.seen payload) refl of sound brought shown silent
  done_step operation idle j payload is sound of brought shown silent = let bad : ⊥ = cc in absurd bad
  done_step operation unknown j payload is sound of brought shown silent = let bad : ⊥ = cc in absurd bad

  idle_step : IsSound m → Step (λ V V' p. row_does idle rules V before t None V' p) m m before
  idle_step sound = still_step (λ V V' p. row_does idle rules V before t None V' p) m before sound (λ c ch. (refl, refl)) (λ V V' p x. x)

  -- or without one
  idle_done : (row : Row) (j : RowJudging row) → IsSound m → row_is_idle row ≡ true → Step (DoesWith row None) m (row_leaves row j m before t None) (row_holds row j before None)
  idle_done (deed d) j sound is = let bad : ⊥ = cc in absurd bad
  idle_done idle j sound is = with_step idle None m before (idle_step sound)
  idle_done unknown j sound is = let bad : ⊥ = cc in absurd bad

  abbrev Lacks : Row → List Thing → List Thing → Option (List ℕ) → Type 0
  Lacks row V V' p = (filled : Option PayloadOf) × FillsRow row filled × row_does row rules V before t filled V' p

  lacks_step : (operation : Operation) (row : Row) (j : RowJudging row) → IsRow operation row j → IsSound m → row_may_lack row ≡ true → ((w : Why) → row_speaks row j rules m before t None w ≡ false)
      → Step (Lacks row) m (row_leaves row j m before t None) (row_holds row j before None)
  lacks_step operation (deed d) j is sound may silent = filled_step d j is may sound silent
  lacks_step operation idle j is sound may silent = with_step idle None m before (idle_step sound)
  lacks_step operation unknown j is sound may silent = let bad : ⊥ = cc in absurd bad

  with_never : (operation : Operation) (row : Row) (j : RowJudging row) (payload : Option PayloadOf) → IsRow operation row j → (w : Why) → row_speaks row j rules m before t payload w ≡ true
      → (c : Choice) → Chooses m.secrets c → (V : List Thing) (p : Option (List ℕ)) → row_does row rules (inv c m.objects) before t payload V p → ⊥
  with_never operation (deed d) j payload is w h c ch V p x = seen_never d j is (seen_in d payload) w h c ch V p x
  with_never operation idle j payload is w h c ch V p x = cc
  with_never operation unknown j payload is w h c ch V p x = cc

  lacks_never : (operation : Operation) (row : Row) (j : RowJudging row) → IsRow operation row j → (w : Why) → row_speaks row j rules m before t None w ≡ true
      → (c : Choice) → Chooses m.secrets c → (V : List Thing) (p : Option (List ℕ)) → Lacks row (inv c m.objects) V p → ⊥
  lacks_never operation (deed d) j is w h c ch V p x = filled_never d j is w h c ch V p x
  lacks_never operation idle j is w h c ch V p x = cc
  lacks_never operation unknown j is w h c ch V p x = cc

  -- ANY OUTCOME

  -- the outcome of an answer whose payload may be put in
  abbrev OutcomeSome : Status → AskedOf → Option ℕ → Option PayloadOf → List Thing → List Thing → Option (List ℕ) → Type 0
  OutcomeSome status asked reason payload V V' p =
      (filled : Option PayloadOf) × Fills asked status payload filled × Outcome status rules V before t asked reason filled V' p

  fail_step : (asked : AskedOf) (reason : Option ℕ) → IsSound m → not (founded rules (cards_of m.objects) before t asked reason) ≡ false
      → Step (λ V V' p. Fails rules V before t asked reason V' p) m m before
  fail_step asked reason sound h =
      still_step (λ V V' p. Fails rules V before t asked reason V' p) m before sound
      (λ c ch. record {
        founded =
            (founded_decides rules (cards (inv c m.objects)) before t asked reason).0
            (ap (λ (cs : List Card). founded rules cs before t asked reason) (cards-inv c m.objects) ∙ not_false (founded rules (cards_of m.objects) before t asked reason) h);
        leaves = refl;
        placeholder = refl;
      })
      (λ V V' p x. (x.leaves, x.placeholder))

  -- nothing speaks against the outcome
  pub outcome_step : (status : Status) (asked : AskedOf) (reason : Option ℕ) (payload : Option PayloadOf) → IsSound m → can_judge status asked payload ≡ true
      → AreBytes (brings asked) → AreBytes (shows payload)
      → ((w : Why) → outcome_speaks status rules m before t asked reason payload w ≡ false)
      → Step (OutcomeSome status asked reason payload) m (after status m before t asked payload) (placeholder_after status before asked payload)
  outcome_step Failed asked reason payload sound readable brought shown silent =
      step_as (λ V V' p. Fails rules V before t asked reason V' p) (OutcomeSome Failed asked reason payload) m m before
      (λ V V' p x. (payload, refl, x)) (λ V V' p x. x.2) (fail_step asked reason sound (silent ReasonUnfounded))
  outcome_step Success asked reason (Some payload) sound readable brought shown silent =
      with_step (asked_row asked) (Some payload) _ _ (done_step (operation_asked asked) (asked_row asked) (asked_judging asked) payload (is_row asked) sound readable brought shown silent)
  outcome_step Success asked reason None sound readable brought shown silent = idle_done (asked_row asked) (asked_judging asked) sound readable
  outcome_step Undone asked reason (Some payload) sound readable brought shown silent =
      with_step (asked_row asked) (Some payload) _ _ (done_step (operation_asked asked) (asked_row asked) (asked_judging asked) payload (is_row asked) sound readable brought shown silent)
  outcome_step Undone asked reason None sound readable brought shown silent = lacks_step (operation_asked asked) (asked_row asked) (asked_judging asked) (is_row asked) sound readable silent

  -- what speaks against it allows no choice
  some_never : (operation : Operation) (row : Row) (j : RowJudging row) (payload : Option PayloadOf) → IsRow operation row j → (w : Why) → row_speaks row j rules m before t payload w ≡ true
      → (c : Choice) → Chooses m.secrets c → (V : List Thing) (p : Option (List ℕ)) → DoesWith row payload (inv c m.objects) V p → ⊥
  some_never operation row j payload is w h c ch V p x =
      let P : Option PayloadOf → Type 0 = λ f. row_does row rules (inv c m.objects) before t f V p in
      with_never operation row j payload is w h c ch V p (subst P x.1 x.2)

  fail_never : (asked : AskedOf) (reason : Option ℕ) (w : Why) → outcome_speaks Failed rules m before t asked reason None w ≡ true
      → (c : Choice) (V : List Thing) (p : Option (List ℕ)) → Fails rules (inv c m.objects) before t asked reason V p → ⊥
  fail_never asked reason ReasonUnfounded h c V p x =
      let e : not (founded rules (cards_of m.objects) before t asked reason) ≡ false = ap not (ap (λ (cs : List Card). founded rules cs before t asked reason) (sym (cards-inv c m.objects)) ∙ (founded_decides rules (cards (inv c m.objects)) before t asked reason).1 x.founded) in
      cc
  fail_never asked reason w h c V p x = cc

  pub outcome_never : (status : Status) (asked : AskedOf) (reason : Option ℕ) (payload : Option PayloadOf) (w : Why) → outcome_speaks status rules m before t asked reason payload w ≡ true
      → (c : Choice) → Chooses m.secrets c → (V : List Thing) (p : Option (List ℕ)) → OutcomeSome status asked reason payload (inv c m.objects) V p → ⊥
  outcome_never Failed asked reason payload w h c ch V p x = fail_never asked reason w h c V p x.2
  outcome_never Success asked reason payload w h c ch V p x = some_never (operation_asked asked) (asked_row asked) (asked_judging asked) payload (is_row asked) w h c ch V p x
  outcome_never Undone asked reason (Some payload) w h c ch V p x = some_never (operation_asked asked) (asked_row asked) (asked_judging asked) (Some payload) (is_row asked) w h c ch V p x
  outcome_never Undone asked reason None w h c ch V p x = lacks_never (operation_asked asked) (asked_row asked) (asked_judging asked) (is_row asked) w h c ch V p x

  -- the frame of an answer beside its outcome
  abbrev pub Framed : AskOf → AnswerOf → Type 0
  Framed ask answer = Echoes answer.operation (operation_number (operation_asked ask.asked)) × Agree answer.batch_id ask.batch_id

  pub does_some : (ask : AskOf) (answer : AnswerOf) (V V' : List Thing) (p : Option (List ℕ)) → Framed ask answer
      → OutcomeSome answer.status ask.asked answer.reason answer.payload V V' p → DoesSome rules V before t ask answer V' p
  does_some ask answer V V' p framed x = record {
    full = record { operation = answer.operation; batch_id = answer.batch_id; status = answer.status; reason = answer.reason; payload = x.0 };
    completes = record { operation = refl; batch_id = refl; status = refl; reason = refl; payload = x.1 };
    does = record { operation = framed.0; batch_id = framed.1; outcome = x.2 };
  }

  pub some_does : (ask : AskOf) (answer : AnswerOf) (V V' : List Thing) (p : Option (List ℕ)) → DoesSome rules V before t ask answer V' p
      → Framed ask answer × OutcomeSome answer.status ask.asked answer.reason answer.payload V V' p
  some_does ask answer V V' p x =
      let O : Option ℕ → Type 0 = λ o. Echoes o (operation_number (operation_asked ask.asked)) in
      let B : Option (List ℕ) → Type 0 = λ b. Agree b ask.batch_id in
      let S : Status → Type 0 = λ s. Outcome s rules V before t ask.asked x.full.reason x.full.payload V' p in
      let R : Option ℕ → Type 0 = λ r. Outcome answer.status rules V before t ask.asked r x.full.payload V' p in (
        (subst O x.completes.operation x.does.operation, subst B x.completes.batch_id x.does.batch_id),
        (x.full.payload, x.completes.payload, subst R x.completes.reason (subst S x.completes.status x.does.outcome)),
      )

  frame_never : (ask : AskOf) (answer : AnswerOf) (w : Why) → frame_speaks ask answer w ≡ true → Framed ask answer → ⊥
  frame_never ask answer OperationDiffers h f = echoes_not (λ (x y : ℕ). x == y) Decides-eqb answer.operation (operation_number (operation_asked ask.asked)) h f.0
  frame_never ask answer EchoDiffers h f = agree_not bytes_eq bytes_eq-Decides answer.batch_id ask.batch_id h f.1
  frame_never ask answer w h f = cc

  -- no choice allows what something speaks against
  pub never : (ask : AskOf) (answer : AnswerOf) (w : Why) → speaks rules m before t ask answer w ≡ true
      → (c : Choice) → Chooses m.secrets c → (V : List Thing) (p : Option (List ℕ)) → DoesSome rules (inv c m.objects) before t ask answer V p → ⊥
  never ask answer w h c ch V p x =
      let y = some_does ask answer (inv c m.objects) V p x in
      elim (or_cases (frame_speaks ask answer w) (outcome_speaks answer.status rules m before t ask.asked answer.reason answer.payload w) h) [
        | inl q ↦ frame_never ask answer w q y.0
        | inr q ↦ outcome_never answer.status ask.asked answer.reason answer.payload w q c ch V p y.1
      ]

  -- and what nothing speaks against leads on
  pub item_step : (ask : AskOf) (answer : AnswerOf) → IsSound m → is_readable ask answer ≡ true → TellsBytes ask answer → lowest rules m before t ask answer ≡ None
      → Step (λ V V' p. DoesSome rules V before t ask answer V' p) m (after answer.status m before t ask.asked answer.payload) (placeholder_after answer.status before ask.asked answer.payload)
  item_step ask answer sound readable bytes none =
      let silent = none_holds (λ (w : Why). speaks rules m before t ask answer w) none in
      let parts : (w : Why) → (frame_speaks ask answer w ≡ false) × (outcome_speaks answer.status rules m before t ask.asked answer.reason answer.payload w ≡ false) =
      λ w. or_parts (frame_speaks ask answer w) (outcome_speaks answer.status rules m before t ask.asked answer.reason answer.payload w) (silent w) in
      let own : is_other (λ (x y : ℕ). x == y) answer.operation (operation_number (operation_asked ask.asked)) ≡ false = (parts OperationDiffers).0 in
      let framed : Framed ask answer = (
        echoes_if (λ (x y : ℕ). x == y) Decides-eqb answer.operation (operation_number (operation_asked ask.asked)) own,
        agree_if bytes_eq bytes_eq-Decides answer.batch_id ask.batch_id (parts EchoDiffers).0,
      ) in
      let judged : can_judge answer.status ask.asked answer.payload ≡ true = ap (λ (b : Bool). b || can_judge answer.status ask.asked answer.payload) (sym own) ∙ readable in
      let n : Meaning = after answer.status m before t ask.asked answer.payload in
      let p : Option (List ℕ) = placeholder_after answer.status before ask.asked answer.payload in
      step_as (OutcomeSome answer.status ask.asked answer.reason answer.payload) (λ V V' q. DoesSome rules V before t ask answer V' q) m n p
      (λ V V' q x. does_some ask answer V V' q framed x)
      (λ V V' q x. (some_does ask answer V V' q x).1)
      (outcome_step answer.status ask.asked answer.reason answer.payload sound judged bytes.0 bytes.1 (λ w. (parts w).1))

-- what is known afterwards
seen_learns : (d : Deed) (j : Judging d) {Says : Trees → PayloadOf → Type 0} {Sayable : d.Shown → Type 0} → IsDeed d j Says Sayable → (m : Meaning) (before : Option (List ℕ)) (t : ℤ) (payload : PayloadOf) (o : Option d.Shown) → d.seen payload ≡ o
    → Learns m (j.leaves m before t o) (brought_by j.effect) (shows (option_map d.payload o)) → Learns m (j.leaves m before t o) (brought_by j.effect) (shows (Some payload))
seen_learns d j is m before t payload None e h = λ number bytes q. elim (h number bytes q) [
  | inl y ↦ inl y
  | inr y ↦ inr (elim y [ inl z ↦ inl z | inr z ↦ let bad : ⊥ = cc in absurd bad ])
]
seen_learns d j is m before t payload (Some x) e h = subst (λ (p : PayloadOf). Learns m (j.leaves m before t (Some x)) (brought_by j.effect) (shows (Some p))) (sym (one_shows d is payload x e)) h

row_learns : (operation : Operation) (row : Row) (j : RowJudging row) → IsRow operation row j → (m : Meaning) (before : Option (List ℕ)) (t : ℤ) (payload : Option PayloadOf) → Learns m (row_leaves row j m before t payload) (row_brings row j) (shows payload)
row_learns operation (deed d) j is m before t None = is.learns m before t None
row_learns operation (deed d) j is m before t (Some payload) = seen_learns d j is m before t payload (d.seen payload) refl (is.learns m before t (d.seen payload))
row_learns operation idle j is m before t payload = λ number bytes e. inl e
row_learns operation unknown j is m before t payload = λ number bytes e. inl e

pub learns_after : (status : Status) (m : Meaning) (before : Option (List ℕ)) (t : ℤ) (asked : AskedOf) (payload : Option PayloadOf) → Learns m (after status m before t asked payload) (brings asked) (shows payload)
learns_after Success m before t asked payload = row_learns (operation_asked asked) (asked_row asked) (asked_judging asked) (is_row asked) m before t payload
learns_after Undone m before t asked payload = row_learns (operation_asked asked) (asked_row asked) (asked_judging asked) (is_row asked) m before t payload
learns_after Failed m before t asked payload = λ number bytes e. inl e
