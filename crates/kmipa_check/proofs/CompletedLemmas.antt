-- A response with its fills put in completes the one without them, and so does what completes it.
use Rattle.std.proofs.Common.{◌≡◌, ◌<◌, ◌==◌, ℕ, suc, Bool, true, false, cond, List, [], ◌∷◌, map, length, Option, Some, None, slice_get, refl, sym, ap, ◌∙◌, subst, arith}
use Rattle.std.specs.Prelude.{All, IsUtf8, ◌^◌}
use Rattle.std.proofs.lemmas.List.Elements.{All-nil, All-cons}
use Rattle.kmipa_ttlv.specs.Tree.{Tree, Trees, structure, scalar, none, more}
use Rattle.kmipa_ttlv.specs.Tree
use Rattle.kmipa_ttlv.specs.Written.{InRange, AllInRange}
use Rattle.kmipa_attrs.specs.Tags.{object_type_tag, unique_identifier}
use Rattle.kmipa_attrs.specs.declared.fields.Field.TheVariants.{There}
use Rattle.kmipa_attrs.specs.Readings.{Optional}
use Rattle.kmipa_attrs.specs.Attributes.{each}
use Rattle.kmipa_attrs.specs.Fields.{tag_of, first, every, typed, as_text, as_enumeration}
use Rattle.kmipa_msgs.specs.declared.response.Status.{Status}
use Rattle.kmipa_msgs.specs.declared.response.Status.TheVariants.{Undone}
use Rattle.kmipa_msgs.specs.Messages.{AskedOf, creates, registers, locates, AskOf, operation_asked, RegisteredOf, PayloadOf, created, registered, located, AnswerOf}
use Rattle.kmipa_msgs.specs.Payloads.{SaysPayloadOf}
use Rattle.kmipa_msgs.specs.Registers.{SaysRegistered}
use Rattle.kmipa_msgs.specs.Sayable.{SaysNew, IsSayableNumber}
use Rattle.kmipa_msgs.specs.Locates.{SaysLocated}
use Rattle.kmipa_msgs.specs.Wanted.{NeedsPayload, Wanted}
use Rattle.kmipa_ops.specs.Completes.{FillsAbsent, Fills, CompletesAnswer}
use Rattle.kmipa_record.specs.Witnesses.{FillOf}
use Rattle.kmipa_batch.specs.Calls.{CompletesAnswers}
use Rattle.kmipa_check.specs.Fills.{SaysFill, with_payload, IsFilledAt, stays, put_in}
use Rattle.kmipa_check.specs.Laws.{FilledIsCompleted}
use Rattle.kmipa_check.proofs.FillLemmas.{pair_left}

-- ---- what an item holds whose values are in range

first_in_range : (tag : ℕ) (ts : Trees) (t : Tree) → AllInRange ts → first tag ts ≡ Some t → InRange t
unfolding first
first_in_range tag none t h e = absurd cc
first_in_range tag (more u ts) t h e = by (tag_of u == tag) e (first_in_range tag ts t h.1)
  where
    by : (b : Bool) → cond b (Some u) (first tag ts) ≡ Some t → (first tag ts ≡ Some t → InRange t) → InRange t
    by true is rest = let same : u ≡ t = cc in let P : Tree → Type 0 = λ x. InRange x in subst P same h.0
    by false is rest = rest is

text_in_range : (t : Tree) (bytes : List ℕ) → InRange t → as_text t ≡ Some bytes → IsUtf8 bytes
unfolding as_text
text_in_range (scalar n (Tree.text bs)) bytes h e = let same : bs ≡ bytes = cc in let P : List ℕ → Type 0 = λ x. IsUtf8 x in subst P same h.1
text_in_range _ bytes h e = absurd cc

number_in_range : (t : Tree) (number : ℕ) → InRange t → as_enumeration t ≡ Some number → number < 2 ^ 32
unfolding as_enumeration
number_in_range (scalar n (Tree.enumeration x)) number h e = let same : x ≡ number = cc in let P : ℕ → Type 0 = λ k. k < 2 ^ 32 in subst P same h.1
number_in_range _ number h e = absurd cc

-- a text field
text_there : (t : Option Tree) (bytes : List ℕ) → ((u : Tree) → t ≡ Some u → InRange u) → typed as_text t ≡ There bytes → IsUtf8 bytes
text_there None bytes h e = absurd cc
text_there (Some u) bytes h e = by (as_text u) refl e
  where
    by : (o : Option (List ℕ)) → as_text u ≡ o → typed (λ (x : Tree). o) (Some u) ≡ There bytes → IsUtf8 bytes
    by None is there = absurd cc
    by (Some bs) is there = let same : bs ≡ bytes = cc in text_in_range u bytes (h u refl) (is ∙ ap Some same)

-- a field of a number, that may be absent
number_there : (t : Option Tree) (held : Option ℕ) → ((u : Tree) → t ≡ Some u → InRange u) → Optional (typed as_enumeration t) held → IsSayableNumber held
number_there t None h e = tt
number_there None (Some number) h e = absurd cc
number_there (Some u) (Some number) h e = by (as_enumeration u) refl e
  where
    by : (o : Option ℕ) → as_enumeration u ≡ o → Optional (typed (λ (x : Tree). o) (Some u)) (Some number) → number < 2 ^ 32
    by None is there = absurd cc
    by (Some x) is there = let same : x ≡ number = cc in number_in_range u number (h u refl) (is ∙ ap Some same)

registered_says : (ts : Trees) (r : RegisteredOf) → AllInRange ts → SaysRegistered ts r → SaysNew r
registered_says ts r h says = (
  text_there (first unique_identifier ts) r.id (λ u e. first_in_range unique_identifier ts u h e) says.id,
  number_there (first object_type_tag ts) r.object_type (λ u e. first_in_range object_type_tag ts u h e) says.object_type,
)

every_in_range : (tag : ℕ) (ts : Trees) (ids : List (List ℕ)) → AllInRange ts → map as_text (every tag ts) ≡ map Some ids → All (λ (id : List ℕ). IsUtf8 id) ids
unfolding every
every_in_range tag none [] h e = All-nil (λ (id : List ℕ). IsUtf8 id)
every_in_range tag none (i ∷ ids) h e = absurd cc
every_in_range tag (more u ts) ids h e = by (tag_of u == tag) ids (λ others. every_in_range tag ts others h.1) e
  where
    by : (b : Bool) (ids : List (List ℕ)) → ((others : List (List ℕ)) → map as_text (every tag ts) ≡ map Some others → All (λ (id : List ℕ). IsUtf8 id) others)
        → map as_text (cond b (u ∷ every tag ts) (every tag ts)) ≡ map Some ids → All (λ (id : List ℕ). IsUtf8 id) ids
    by false ids rest is = rest ids is
    by true [] rest is = absurd cc
    by true (i ∷ ids) rest is =
        let head : as_text u ≡ Some i = cc in
        let tail : map as_text (every tag ts) ≡ map Some ids = cc in
        All-cons (λ (id : List ℕ). IsUtf8 id) i ids (text_in_range u i h.0 head) (rest ids tail)

located_says : (ts : Trees) (ids : List (List ℕ)) → AllInRange ts → SaysLocated ts ids → All (λ (id : List ℕ). IsUtf8 id) ids
unfolding each
located_says ts ids h says = every_in_range unique_identifier ts ids h says

-- what such a payload says may stand where one is wanted
said_fills : (asked : AskedOf) (t : Tree) (p : PayloadOf) → NeedsPayload (operation_asked asked) → InRange t → SaysPayloadOf (operation_asked asked) t p → FillsAbsent asked (Some p)
said_fills asked (scalar n s) p needs h says = absurd says
said_fills (creates a) (structure n ts) (created x) needs h says = record { shown = x; is = refl; sayable = registered_says ts x h.1 says }
said_fills (registers r) (structure n ts) (registered x) needs h says = record { shown = x; is = refl; sayable = registered_says ts x h.1 says }
said_fills (locates q) (structure n ts) (located ids) needs h says = record { shown = ids; is = refl; sayable = located_says ts ids h.1 says }
said_fills (creates a) (structure n ts) p needs h says = absurd says
said_fills (registers r) (structure n ts) p needs h says = absurd says
said_fills (locates q) (structure n ts) p needs h says = absurd says
said_fills asked (structure n ts) p needs h says = absurd needs

-- ---- one answer

-- an answer stays, or a payload that a fill says is put in
data Put (ask : Option AskOf) (x y : AnswerOf) : Type 0 where
  same : y ≡ x → Put ask x y
  with_fill : (k : AskOf) → ask ≡ Some k → Wanted k x → (fill : FillOf) → InRange fill.payload → (p : PayloadOf) → SaysFill fill k p → y ≡ with_payload x p → Put ask x y

none_put : (x y : AnswerOf) → Put None x y → y ≡ x
none_put x y (same is) = is
none_put x y (with_fill k asks w fill range p says is) = absurd cc

one_completed : (k : AskOf) (x y z : AnswerOf) → Put (Some k) x y → CompletesAnswer k y z → CompletesAnswer k x z
one_completed k x y z (same is) c = let P : AnswerOf → Type 0 = λ u. CompletesAnswer k u z in subst P is c
one_completed k x y z (with_fill j asks wanted fill range p says is) c = record {
  operation = d.operation;
  batch_id = d.batch_id;
  status = d.status;
  reason = d.reason;
  payload =
      let S : Status → Type 0 = λ s. Fills k.asked s x.payload z.payload in
      let O : Option PayloadOf → Type 0 = λ o. Fills k.asked Undone o z.payload in
      let A : Option PayloadOf → Type 0 = λ o. FillsAbsent k.asked o in
      subst S (sym its.0.undone) (subst O (sym its.0.absent) (subst A (sym put) (said_fills k.asked fill.payload p its.0.asks range its.1.said)));
}
  where
    d : CompletesAnswer k (with_payload x p) z
    d = let P : AnswerOf → Type 0 = λ u. CompletesAnswer k u z in subst P is c

    its : Wanted k x × SaysFill fill k p
    its =
        let at : j ≡ k = cc in
        let P : AskOf → Type 0 = λ a. Wanted a x × SaysFill fill a p in
        subst P at (wanted, says)

    put : z.payload ≡ Some p
    put = let F : Status → Type 0 = λ s. Fills k.asked s (Some p) z.payload in subst F its.0.undone d.payload

-- ---- all answers

completed_lists : (asks : List AskOf) (answers fulls fullers : List AnswerOf) → length fulls ≡ length answers
    → ((place : ℕ) (x y : AnswerOf) → slice_get answers place ≡ Some x → slice_get fulls place ≡ Some y → Put (slice_get asks place) x y)
    → CompletesAnswers asks fulls fullers → CompletesAnswers asks answers fullers
completed_lists asks [] [] zs long each c = c
completed_lists asks [] (y ∷ ys) zs long each c = absurd (omega (arith, long))
completed_lists asks (x ∷ xs) [] zs long each c = absurd (omega (arith, long))
completed_lists asks (x ∷ xs) (y ∷ ys) [] long each c = absurd c
completed_lists [] (x ∷ xs) (y ∷ ys) (z ∷ zs) long each c =
    (c.0 ∙ none_put x y (each 0 x y refl refl), completed_lists [] xs ys zs (omega (arith, long)) (λ place u v a b. each (suc place) u v a b) c.1)
completed_lists (k ∷ ks) (x ∷ xs) (y ∷ ys) (z ∷ zs) long each c =
    (one_completed k x y z (each 0 x y refl refl) c.0, completed_lists ks xs ys zs (omega (arith, long)) (λ place u v a b. each (suc place) u v a b) c.1)

pub filled_is_completed_lem : FilledIsCompleted
filled_is_completed_lem request response full fuller fills range f c = record {
  stamp = c.stamp ∙ f.stamp;
  items = completed_lists request.items response.items full.items fuller.items f.counted (λ place x y a b. put place x y (f.each place x y a b)) c.items;
}
  where
    put : (place : ℕ) (x y : AnswerOf) → IsFilledAt request response fills place x y → Put (slice_get request.items place) x y
    put place x y (stays never is) = same is
    put place x y (put_in ask w fill one its p says is) = with_fill ask (pair_left request.items response.items place ask x w.there) w.wanted fill (range fill one) p says is
