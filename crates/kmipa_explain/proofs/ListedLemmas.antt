-- What is wrong in the list of a Locate.
use Rattle.std.proofs.Common.{◌≡◌, inl, inr, ℕ, ℤ, Bool, true, false, not, List, find, take, Option, Some, None, option_map, refl, sym, ap, ◌∙◌, subst, ◌≢◌, ◌<◌, ◌⊎◌, ◌+◌, cond, [], map, bytes_eq, length, slice_get, arith}
use Rattle.std.specs.Prelude.{option_and_then}
use Rattle.std.specs.List.{Contains}
use Rattle.kmipa_attrs.specs.Filters.{FilterOf}
use Rattle.kmipa_object.specs.Inventory.{Card}
use Rattle.kmipa_object.specs.Life.{state}
use Rattle.kmipa_object.specs.declared.state.State.{State as StateOf}
use Rattle.kmipa_store.specs.Ledger.{Meaning, cards_of}
use Rattle.kmipa_msgs.specs.Messages.{RulesOf, RegisteredOf, GotOf, GotAttributesOf, AskedOf, AskOf, PayloadOf, AnswerOf, creates, registers, locates, gets, gets_attributes, activates, revokes, destroys, idles, does_other}
use Rattle.kmipa_msgs.specs.declared.response.Status.{Status}
use Rattle.kmipa_msgs.specs.declared.response.Status.TheVariants.{Success, Failed, Undone}
use Rattle.kmipa_record.specs.Declarations.{DeclarationOf}
use Rattle.kmipa_record.specs.Entries.{EntryOf}
use Rattle.kmipa_ops.specs.Create.{seen_created, CreateReason}
use Rattle.kmipa_ops.specs.Get.{seen_got, GetReason}
use Rattle.kmipa_ops.specs.GetAttributes.{seen_attributes, GetAttributesReason}
use Rattle.kmipa_ops.specs.Locate.{May, is_over, seen_located, ListsRightly, LocateReason}
use Rattle.kmipa_ops.specs.Objects.{card_meant, meant}
use Rattle.kmipa_ops.specs.Reasons.{DoneReason, OutcomeReason}
use Rattle.kmipa_ops.specs.Register.{seen_registered, RegisterReason}
use Rattle.kmipa_ops.specs.declared.judged.Judged.{Judged}
use Rattle.kmipa_ops.specs.declared.why.Why.TheVariants.{ListedWrongly}
use Rattle.kmipa_check.specs.Described.{card_declared, dates_in}
use Rattle.kmipa_check.specs.Left.{declaration_left}
use Rattle.kmipa_check.proofs.PlaceLemmas.{apart, at_contains, contains_at}
use Rattle.kmipa_check.proofs.RecordedLemmas.{taken_at}
use Rattle.kmipa_explain.specs.Filters.{filters, refuses}
use Rattle.kmipa_explain.specs.Ids.{HasIds, has_id}
use Rattle.kmipa_explain.specs.LeftOut.{filter_in}
use Rattle.kmipa_explain.specs.Listed.{IsAgain, IsFault, IsListedWrongly, IsRight, NotesFault, TellsWrong, TellsWrongs, fault_in, object_fault}
use Rattle.kmipa_explain.specs.Meant.{object_held}
use Rattle.kmipa_explain.specs.Told.{IsNoted}
use Rattle.kmipa_explain.specs.declared.held.ListFault.{ListFault}
use Rattle.kmipa_explain.specs.declared.held.ListFault.TheVariants as fault
use Rattle.kmipa_explain.specs.declared.held.WronglyListed.{WronglyListed}
use Rattle.kmipa_explain.specs.declared.id_set.IdSet.{IdSet}
use Rattle.kmipa_explain.proofs.FilterLemmas.{may_if_none, first_no}
use Rattle.kmipa_explain.proofs.CardLemmas.{cards_left}
use Rattle.kmipa_explain.proofs.FindLemmas.{find_map, find_place}
use Rattle.kmipa_explain.proofs.IdLemmas.{id_decides}
use Rattle.kmipa_explain.proofs.LeftOutLemmas.{the_filter}
use Rattle.kmipa_explain.proofs.TestLemmas.{both_ways}
use Rattle.kmipa_explain.proofs.ToldLemmas.{all_pass}

-- ---- the reason

module _ (rules : RulesOf) (m : Meaning) (p : Option (List ℕ)) (t : ℤ) where
  created : (a : _) (x : Option RegisteredOf) → CreateReason rules (cards_of m.objects) a x ListedWrongly → ⊥
  created a None r = r
  created a (Some x) r = r

  registered : (a : _) (x : Option RegisteredOf) → RegisterReason rules (cards_of m.objects) a x ListedWrongly → ⊥
  registered a None r = r
  registered a (Some x) r = r

  got : (about : Option (List ℕ)) (x : Option GotOf) → GetReason rules m about t x ListedWrongly → ⊥
  got about None r = r
  got about (Some x) r = r

  told : (about : Option (List ℕ)) (g : _) (x : Option GotAttributesOf) → GetAttributesReason rules (cards_of m.objects) about t g x ListedWrongly → ⊥
  told about g None r = r
  told about g (Some x) r = r

  -- it speaks against a Locate that lists something
  abbrev Lists : AskedOf → Option PayloadOf → Type 0
  Lists asked payload =
      (q : FilterOf) × (listed : List (List ℕ)) × (filter_in asked ≡ Some q) × (option_and_then seen_located payload ≡ Some listed) × (ListsRightly (cards_of m.objects) t q listed → ⊥)

  located : (q : FilterOf) (payload : Option PayloadOf) (x : Option (List (List ℕ))) → option_and_then seen_located payload ≡ x → LocateReason (cards_of m.objects) t q x ListedWrongly
      → Lists (locates q) payload
  located q payload None is r = absurd r
  located q payload (Some listed) is r = (q, listed, refl, is, r)

  done : (asked : AskedOf) (payload : Option PayloadOf) → DoneReason rules m p t asked payload ListedWrongly → Lists asked payload
  done (creates a) payload r = absurd (created a (option_and_then seen_created payload) r)
  done (registers a) payload r = absurd (registered a (option_and_then seen_registered payload) r)
  done (locates q) payload r = located q payload (option_and_then seen_located payload) refl r
  done (gets id) payload r = absurd (got (meant id p) (option_and_then seen_got payload) r)
  done (gets_attributes g) payload r = absurd (told (meant g.id p) g (option_and_then seen_attributes payload) r)
  done (activates id) payload r = absurd r
  done (revokes a) payload r = absurd r
  done (destroys id) payload r = absurd r
  done (idles number) payload r = absurd r
  done (does_other number) payload r = absurd r

  over : (status : Status) (asked : AskedOf) (reason : Option ℕ) (payload : Option PayloadOf) → OutcomeReason status rules m p t asked reason payload ListedWrongly → Lists asked payload
  over Success asked reason payload r = done asked payload r
  over Undone asked reason payload r = done asked payload r
  over Failed asked reason payload r = absurd r

  pub listed_wrongly : (declared : DeclarationOf) (ask : AskOf) (answer : AnswerOf) → OutcomeReason answer.status rules m p t ask.asked answer.reason answer.payload ListedWrongly
      → IsListedWrongly (declaration_left declared m) t ask answer
  listed_wrongly declared ask answer r =
      let o = over answer.status ask.asked answer.reason answer.payload r in
      let P : List Card → Type 0 = λ cs. ListsRightly cs t o.0 o.1 → ⊥ in
      record { filter = o.0; ids = o.1; locate = record { asks = o.2; lists = o.3 }; wrongly = subst P (sym (cards_left declared m)) o.4 }

-- ---- one identifier

module _ (held : DeclarationOf) (t : ℤ) (q : FilterOf) (listed : List (List ℕ)) (place : ℕ) (id : List ℕ) (seen : IdSet) (has : HasIds (take place listed) seen) where
  again_if : has_id seen id ≡ true → IsAgain listed place id
  again_if h = (id_decides (take place listed) id).0 (sym (has id) ∙ h)

  again_not : has_id seen id ≡ false → IsAgain listed place id → ⊥
  again_not h at = both_ways (has_id seen id) (has id ∙ (id_decides (take place listed) id).1 at) h

  -- a fault that was noted is told
  tells : (f : ListFault) (before after : List WronglyListed) → IsFault held t q listed place id f → NotesFault id (Some f) before after
      → IsNoted (TellsWrong held t q listed place id) (IsRight held t q listed place id) before after
  tells f before after wrong n =
      let P : ListFault → Type 0 = λ g. IsFault held t q listed place id g in
      inl (n.0, n.1, record { identifier = n.2; fault = subst P (sym n.3) wrong })

  of_object : (o : Option EntryOf) → object_held held (Some id) ≡ o → (IsAgain listed place id → ⊥) → (before after : List WronglyListed) → NotesFault id (object_fault t q o) before after
      → IsNoted (TellsWrong held t q listed place id) (IsRight held t q listed place id) before after
  of_object None is once before after n = tells fault.Absent before after (once, is) n
  of_object (Some e) is once before after n = by (find (refuses q s (card_declared e)) filters) refl n
    where
      s : StateOf
      s = state (dates_in e.attributes) t

      by : (o : Option Judged) → find (refuses q (state (dates_in e.attributes) t) (card_declared e)) filters ≡ o → NotesFault id (option_map fault.Excluded o) before after
          → IsNoted (TellsWrong held t q listed place id) (IsRight held t q listed place id) before after
      by None none n = inr (record { once = once; object = e; there = is; may = may_if_none q (state (dates_in e.attributes) t) (card_declared e) none }, n)
      by (Some attribute) found n =
          tells (fault.Excluded attribute) before after
          (once, record { object = e; there = is; first = first_no q (state (dates_in e.attributes) t) (card_declared e) attribute found }) n

  pub noted : (is_new : Bool) (f : Option ListFault) (before after : List WronglyListed) → is_new ≡ not (has_id seen id) → f ≡ fault_in held t q id is_new → NotesFault id f before after
      → IsNoted (TellsWrong held t q listed place id) (IsRight held t q listed place id) before after
  noted is_new f before after new is n = by (has_id seen id) refl
    where
      N : Option ListFault → Type 0
      N o = NotesFault id o before after

      by : (b : Bool) → has_id seen id ≡ b → IsNoted (TellsWrong held t q listed place id) (IsRight held t q listed place id) before after
      by true h =
          let old : is_new ≡ false = new ∙ ap not h in
          tells fault.Again before after (again_if h) (subst N (is ∙ ap (fault_in held t q id) old) n)
      by false h =
          let fresh : is_new ≡ true = new ∙ ap not h in
          of_object (object_held held (Some id)) refl (again_not h) before after (subst N (is ∙ ap (fault_in held t q id) fresh) n)

-- ---- all

-- the object of an identifier is the card of it
card_there : (held : DeclarationOf) (id : List ℕ) (e : EntryOf) → object_held held (Some id) ≡ Some e → card_meant (map card_declared held.entries) (Some id) ≡ Some (card_declared e)
card_there held id e is =
    let test : Card → Bool = λ c. bytes_eq id c.id in
    sym (find_place test (map card_declared held.entries)) ∙ find_map card_declared test held.entries ∙ ap (option_map card_declared) is

module _ (held : DeclarationOf) (t : ℤ) (q : FilterOf) (ids : List (List ℕ)) (right : (k : ℕ) (id : List ℕ) → slice_get ids k ≡ Some id → IsRight held t q ids k id) where
  ahead : (i j : ℕ) (id : List ℕ) → i < j → slice_get ids i ≡ Some id → slice_get ids j ≡ Some id → ⊥
  ahead i j id below a b = (right j id b).once (contains_at (take j ids) i id (taken_at ids i j id below a))

  once : (i j : ℕ) (id : List ℕ) → slice_get ids i ≡ Some id → slice_get ids j ≡ Some id → i ≡ j
  once i j id a b = by (apart i j)
    where
      by : (i < j) ⊎ ((j < i) ⊎ (i ≡ j)) → i ≡ j
      by (inl lower) = absurd (ahead i j id lower a b)
      by (inr (inl lower)) = absurd (ahead j i id lower b a)
      by (inr (inr same)) = same

  fits : (id : List ℕ) → Contains ids id → (c : Card) × (card_meant (map card_declared held.entries) (Some id) ≡ Some c) × May q (state c.dates t) c
  fits id has =
      let place = at_contains ids id has in
      let r = right place.0 id place.1 in
      (card_declared r.object, card_there held id r.object r.there, r.may)

  all_right : is_over q.maximum (length ids) ≡ false → ListsRightly (map card_declared held.entries) t q ids
  all_right most = record { once = once; fits = fits; most = most }

-- a maximum that isn't told isn't passed
not_over : (most : Option ℤ) (count : ℕ) → cond (is_over most count) most None ≡ None → is_over most count ≡ false
not_over None count none = refl
not_over (Some m) count none = by (is_over (Some m) count) refl none
  where
    by : (b : Bool) → is_over (Some m) count ≡ b → cond b (Some m) None ≡ None → is_over (Some m) count ≡ false
    by true is e = absurd cc
    by false is e = is

-- where nothing is wrong, and the maximum isn't passed, the list is right
pub some_wrong : (held : DeclarationOf) (t : ℤ) (ask : AskOf) (answer : AnswerOf) (q : FilterOf) (ids : List (List ℕ)) (maximum : Option ℤ) (wrong : List WronglyListed) → IsListedWrongly held t ask answer
    → filter_in ask.asked ≡ Some q → option_and_then seen_located answer.payload ≡ Some ids → maximum ≡ cond (is_over q.maximum (length ids)) q.maximum None → TellsWrongs held t q ids wrong
    → maximum ≡ None → wrong ≢ []
some_wrong held t ask answer q ids maximum wrong w asks lists told tells within none =
    let same_filter : w.filter ≡ q = the_filter ask answer w.filter q w.ids w.locate asks in
    let same_list : w.ids ≡ ids = (let a = w.locate.lists in cc) in
    let F : FilterOf → Type 0 = λ f. ListsRightly (map card_declared held.entries) t f w.ids → ⊥ in
    let L : List (List ℕ) → Type 0 = λ l. ListsRightly (map card_declared held.entries) t q l → ⊥ in
    let T : List WronglyListed → Type 0 = TellsWrongs held t q ids in
    let pass = all_pass (TellsWrong held t q ids) (IsRight held t q ids) 0 ids (subst T none tells) in
    subst L same_list (subst F same_filter w.wrongly)
    (all_right held t q ids (λ k id at. let P : ℕ → Type 0 = λ n. IsRight held t q ids n id in let e : 0 + k ≡ k = omega arith in subst P e (pass k id at)) (not_over q.maximum (length ids) (sym told ∙ within)))
