-- A Locate that lists identifiers that are set aside, taken.
use Rattle.std.proofs.Common.{◌≡◌, ◌∙◌, ◌+◌, ◌-◌, ◌≤◌, ◌⊎◌, ◌||◌, ◌&&◌, ◌==◌, not, cond, inl, inr, refl, ap, sym, subst, ℕ, suc, ℤ, Bool, true, false, if◌then◌else◌, List, [], ◌∷◌, length, map, Option, Some, None, Result, Ok, Err, bytes_eq, arith}
use Rattle.std.specs.Prelude.{int_lt, pos, ◌-ℤ◌}
use Rattle.std.proofs.lemmas.Bool.{and_parts}
use Rattle.std.proofs.lemmas.Int.{ints}
use Rattle.kmipa_object.specs.Inventory.{Thing}
use Rattle.kmipa_attrs.specs.Filters.{FilterOf}
use Rattle.kmipa_store.specs.Aside.{AsideOf}
use Rattle.kmipa_store.specs.Ledger.{Meaning, LedgerState, cards_of}
use Rattle.kmipa_store.specs.Choices.{Choice, IsSound, inv}
use denote.Bor.{Bor}
use Rattle.kmipa_aside.proofs.ScanLemmas.{length-map}
use Rattle.kmipa_msgs.specs.Messages.{lent, RulesOf, AskedOf, AskOf, AnswerOf, PayloadOf, locates, located, operation_asked}
use Rattle.kmipa_msgs.specs.Operations.{operation_number}
use Rattle.kmipa_msgs.specs.declared.response.Status.{Status}
use Rattle.kmipa_msgs.specs.declared.response.Status.TheVariants.{Success, Failed, Undone}
use Rattle.kmipa_ops.specs.Blame.{lowest}
use Rattle.kmipa_ops.specs.Completes.{DoesSome, can_judge}
use Rattle.kmipa_ops.specs.Explains as item
use Rattle.kmipa_ops.specs.Locate.{has_repeat, is_full, is_over, leaves_out, lists_misfit}
use Rattle.kmipa_ops.specs.Objects.{clash, is_other}
use Rattle.kmipa_ops.specs.declared.why.Why.{Why}
use Rattle.kmipa_ops.specs.declared.why.Why.TheVariants.{OperationDiffers, ListedWrongly, ListedTooFew, EchoDiffers}
use Rattle.kmipa_ops.specs.declared.why.Refusal.{Refusal}
use Rattle.kmipa_ops.specs.declared.why.Refusal.TheVariants.{Impossible, Memory}
use Rattle.kmipa_ops.proofs.ExplainLemmas.{refuted}
use Rattle.kmipa_passed.specs.Leaving.{HeldOf}
use Rattle.kmipa_aside.specs.Becoming.{stand_in}
use Rattle.kmipa_aside.specs.Cases.{case}
use Rattle.kmipa_aside.specs.Does.{is_as_ever}
use Rattle.kmipa_aside.specs.Ever.{held_by, judged_by}
use Rattle.kmipa_aside.specs.Explains.{Refutes, Took, world}
use Rattle.kmipa_aside.specs.Listing.{DoesListing, is_listing, listed_in, lists_over}
use Rattle.kmipa_aside.specs.Lists.{answer_beside, ask_beside, asked_beside, count_aside, is_touched, judged_of, lowered, payload_beside, touched_by}
use Rattle.kmipa_aside.specs.Standing.{StandOf, is_aside}
use Rattle.kmipa_aside.specs.Taking.{TakenListing, Tells, listing_lowest}
use Rattle.kmipa_aside.specs.Worlds.{WorldOf, stand}
use Rattle.kmipa_aside.proofs.NearLemmas.{stand_world}
use Rattle.kmipa_aside.proofs.PlainLemmas.{took_via}

-- ---- those that are set aside, and the others

one_more : (b : Bool) (n m k : ℕ) → n + m ≡ k → (if b then 1 + n else n) + (if b then m else suc m) ≡ suc k
one_more true n m k e = omega (arith, e)
one_more false n m k e = omega (arith, e)

if_length : (b : Bool) (id : List ℕ) (xs : List (List ℕ)) → length (if b then xs else id ∷ xs) ≡ (if b then length xs else suc (length xs))
if_length true id xs = refl
if_length false id xs = refl

pub counted : (s : StandOf) (ids : List (List ℕ)) → count_aside s ids + length (judged_of s ids) ≡ length ids
counted s [] = refl
counted s (id ∷ ids) =
    let n : ℕ = count_aside s ids in
    ap (λ (k : ℕ). (if is_aside s id then 1 + n else n) + k) (if_length (is_aside s id) id (judged_of s ids))
    ∙ one_more (is_aside s id) n (length (judged_of s ids)) (length ids) (counted s ids)

less : (most : ℤ) (n m k : ℕ) → n + m ≡ k → int_lt most (pos k) ≡ true → int_lt (most -ℤ pos n) (pos m) ≡ true
less most n m k e h = grind (arith, ints, e, h)

over_beside : (s : StandOf) (maximum : Option ℤ) (ids : List (List ℕ)) → is_over maximum (length ids) ≡ true → is_over (lowered maximum (count_aside s ids)) (length (judged_of s ids)) ≡ true
over_beside s None ids h = h
over_beside s (Some most) ids h = less most (count_aside s ids) (length (judged_of s ids)) (length ids) (counted s ids) h

-- so there are no more of the others
pub fewer : (s : StandOf) (xs ys : List (Bor (List ℕ))) → map lent ys ≡ judged_of s (map lent xs) → length ys ≤ length xs
fewer s xs ys e =
    let a : length ys ≡ length (judged_of s (map lent xs)) = sym (length-map lent ys) ∙ ap (λ (zs : List (List ℕ)). length zs) e in
    let b : count_aside s (map lent xs) + length (judged_of s (map lent xs)) ≡ length (map lent xs) = counted s (map lent xs) in
    let d : length (map lent xs) ≡ length xs = length-map lent xs in
    omega (arith, a, b, d)

pub left_out : (s : StandOf) (ids : List (List ℕ)) (judged listed : ℕ) → judged ≡ length (judged_of s ids) → listed ≡ length ids → listed - judged ≡ count_aside s ids
left_out s ids judged listed e f = let b : count_aside s ids + length (judged_of s ids) ≡ length ids = counted s ids in omega (arith, b, e, f)

-- ---- what is asked and answered beside them

or_true : (b : Bool) → (b || true) ≡ true
or_true true = refl
or_true false = refl

or_middle : (a b c : Bool) → b ≡ true → (a || b || c) ≡ true
or_middle true b c e = refl
or_middle false true c e = refl
or_middle false false c e = cc

module _ (s : StandOf) where
  beside_readable : (x : Bool) (status : Status) (asked : AskedOf) (payload : Option PayloadOf) → touched_by status s asked payload ≡ true
      → (x || can_judge status (asked_beside s asked payload) (payload_beside s payload)) ≡ true
  beside_readable x Success (locates q) (Some (located ids)) h = or_true x
  beside_readable x Undone (locates q) (Some (located ids)) h = or_true x
  beside_readable x status asked payload h = let bad : ⊥ = cc in absurd bad

  silent : (status : Status) (asked : AskedOf) (payload : Option PayloadOf) → touched_by status s asked payload ≡ true → (bytes : List ℕ)
      → (item.brings (asked_beside s asked payload) ≡ Some bytes) ⊎ ((item.shows (payload_beside s payload) ≡ Some bytes) ⊎ ⊥) → ⊥
  silent Success (locates q) (Some (located ids)) h bytes e = elim e [ inl a ↦ let bad : ⊥ = cc in bad | inr b ↦ elim b [ inl d ↦ let bad : ⊥ = cc in bad | inr z ↦ z ] ]
  silent Undone (locates q) (Some (located ids)) h bytes e = elim e [ inl a ↦ let bad : ⊥ = cc in bad | inr b ↦ elim b [ inl d ↦ let bad : ⊥ = cc in bad | inr z ↦ z ] ]
  silent status asked payload h bytes e = let bad : ⊥ = cc in bad

pub readable_beside : (s : StandOf) (ask : AskOf) (answer : AnswerOf) → is_touched s ask answer ≡ true → item.is_readable (ask_beside s ask answer) (answer_beside s answer) ≡ true
readable_beside s ask answer h = beside_readable s _ answer.status ask.asked answer.payload h

-- what the program makes of them
pub made_beside : (s : StandOf) (ask : AskOf) (answer : AnswerOf) (q : FilterOf) (ids : List (List ℕ)) → ask.asked ≡ locates q → answer.payload ≡ Some (located ids) → has_repeat ids ≡ false
    → (made : FilterOf) → made ≡ record q { maximum = lowered q.maximum (count_aside s ids) } → (judged : List (List ℕ)) → judged ≡ judged_of s ids
    → (has_repeat (listed_in answer.payload) ≡ false) × (record ask { asked = locates made } ≡ ask_beside s ask answer)
    × (record answer { payload = Some (located judged) } ≡ answer_beside s answer)
made_beside s ask answer q ids asks lists once made most judged rest = (
  ap (λ (p : Option PayloadOf). has_repeat (listed_in p)) lists ∙ once,
  ap (λ (a : AskedOf). record ask { asked = a })
      (ap locates most ∙ sym (ap (λ (a : AskedOf). asked_beside s a answer.payload) asks ∙ ap (λ (p : Option PayloadOf). asked_beside s (locates q) p) lists)),
  ap (λ (p : Option PayloadOf). record answer { payload = p })
      (ap (λ (xs : List (List ℕ)). Some (located xs)) rest ∙ sym (ap (λ (p : Option PayloadOf). payload_beside s p) lists)),
)

-- ---- the reasons

abbrev eq : ℕ → ℕ → Bool
eq x y = x == y

abbrev first_why : Bool → Bool → Bool → Bool → Option Why
first_why op bad few echo = cond op (Some OperationDiffers) (cond bad (Some ListedWrongly) (cond few (Some ListedTooFew) (cond echo (Some EchoDiffers) None)))

abbrev other : AskOf → AnswerOf → Bool
other ask answer = is_other eq answer.operation (operation_number (operation_asked ask.asked))

abbrev repeats : AnswerOf → Bool
repeats answer = has_repeat (listed_in answer.payload)

-- of what is listed, and of what is listed beside what is set aside, the same reasons are told, but for what is listed twice
record Reasons (rules : RulesOf) (m : Meaning) (before : HeldOf) (t : ℤ) (ask : AskOf) (answer : AnswerOf) : Type 0 where
  bad : Bool
  few : Bool
  echo : Bool
  whole : listing_lowest rules m before t ask answer ≡ first_why (other ask answer || false) (repeats answer || bad) few echo
  rest : lowest rules m (judged_by before answer) t (ask_beside (stand_in m) ask answer) (answer_beside (stand_in m) answer) ≡ first_why (other ask answer || false) bad few echo
  over : lists_over ask.asked answer.payload ≡ true → bad ≡ true

-- against a list
module _ (m : Meaning) (t : ℤ) (q : FilterOf) (ids : List (List ℕ)) where
  abbrev left : List (List ℕ)
  left = judged_of (stand_in m) ids

  abbrev most : Option ℤ
  most = lowered q.maximum (count_aside (stand_in m) ids)

  abbrev filter : FilterOf
  filter = record q { maximum = most }

  abbrev few_listed : Bool
  few_listed = not (is_full most (length left)) && leaves_out (cards_of m.objects) t filter left

  abbrev wrongly_listed : Bool
  wrongly_listed = has_repeat left || is_over most (length left) || lists_misfit (cards_of m.objects) t filter left

  over_lists : is_over q.maximum (length ids) ≡ true → wrongly_listed ≡ true
  over_lists e = or_middle (has_repeat left) (is_over most (length left)) (lists_misfit (cards_of m.objects) t filter left) (over_beside (stand_in m) q.maximum ids e)

reasons : (rules : RulesOf) (m : Meaning) (before : HeldOf) (t : ℤ) (batch_id : Option (List ℕ)) (asked : AskedOf) (operation : Option ℕ) (answered : Option (List ℕ)) (status : Status) (reason : Option ℕ)
    (payload : Option PayloadOf) → touched_by status (stand_in m) asked payload ≡ true
    → Reasons rules m before t (record { batch_id = batch_id; asked = asked })
    (record { operation = operation; batch_id = answered; status = status; reason = reason; payload = payload })
reasons rules m before t b (locates q) o a Success r (Some (located ids)) h =
    record { bad = wrongly_listed m t q ids; few = few_listed m t q ids; echo = clash bytes_eq a b || false; whole = refl; rest = refl; over = over_lists m t q ids }
reasons rules m before t b (locates q) o a Undone r (Some (located ids)) h =
    record { bad = wrongly_listed m t q ids; few = few_listed m t q ids; echo = clash bytes_eq a b || false; whole = refl; rest = refl; over = over_lists m t q ids }
reasons rules m before t b asked o a Success r payload h = let bad : ⊥ = cc in absurd bad
reasons rules m before t b asked o a Undone r payload h = let bad : ⊥ = cc in absurd bad
reasons rules m before t b asked o a Failed r payload h = let bad : ⊥ = cc in absurd bad

-- ---- a Locate, taken

or_cases : (a b : Bool) → (a || b) ≡ true → (a ≡ true) ⊎ (b ≡ true)
or_cases true b e = inl refl
or_cases false b e = inr e

module _ (rules : RulesOf) (t : ℤ) (ask : AskOf) (answer : AnswerOf) (s : LedgerState) (before : HeldOf) (listing : is_listing rules (stand_in s.now) before ask answer ≡ true) where
  abbrev ask' : AskOf
  ask' = ask_beside (stand_in s.now) ask answer

  abbrev answer' : AnswerOf
  answer' = answer_beside (stand_in s.now) answer

  abbrev by : Option (List ℕ)
  by = judged_by before answer

  abbrev behind : HeldOf
  behind = held_by answer.status before answer.payload

  abbrev D : WorldOf → HeldOf → WorldOf → HeldOf → Type 0
  D = DoesListing rules t ask answer

  pub touched : is_touched (stand_in s.now) ask answer ≡ true
  touched = (and_parts (is_as_ever (case rules (stand_in s.now) before ask answer)) (is_touched (stand_in s.now) ask answer) listing).1

  why : Reasons rules s.now before t ask answer
  why = reasons rules s.now before t ask.batch_id ask.asked answer.operation answer.batch_id answer.status answer.reason answer.payload touched

  listing_in : (c : Choice) → is_listing rules (stand (world c s.now)) before ask answer ≡ true
  listing_in c = ap (λ (x : StandOf). is_listing rules x before ask answer) (stand_world c s.now) ∙ listing

  abbrev Q : List Thing → List Thing → Option (List ℕ) → StandOf → Type 0
  Q V W held x = DoesSome rules V by t (ask_beside x ask answer) (answer_beside x answer) W held

  listing_makes : has_repeat (listed_in answer.payload) ≡ false → (after_it : HeldOf) → after_it ≡ behind → (c : Choice) (V : List Thing) (q : Option (List ℕ))
      → DoesSome rules (inv c s.now.objects) by t ask' answer' V q → D (world c s.now) before (record { things = V; aside = s.now.aside }) after_it
  listing_makes once after_it held c V q d =
      record { listing = listing_in c; once = once; things = V; held = q; does = subst (Q (inv c s.now.objects) V q) (sym (stand_world c s.now)) d; world = refl; placeholder = held }

  listing_takes : (after_it : HeldOf) → after_it ≡ behind → (c : Choice) (w : WorldOf) (h : HeldOf) → D (world c s.now) before w h
      → (V : List Thing) × (q : Option (List ℕ)) × DoesSome rules (inv c s.now.objects) by t ask' answer' V q × (w ≡ record { things = V; aside = s.now.aside }) × (h ≡ after_it)
  listing_takes after_it held c w h d =
      (d.things, d.held, subst (Q (inv c s.now.objects) d.things d.held) (stand_world c s.now) d.does, d.world, d.placeholder ∙ sym held)

  abbrev stays : AsideOf → AsideOf
  stays a = a

  -- by whatever ask, answer and placeholder mean the same
  abbrev TakenBy : Result (Unit {0}) Refusal → LedgerState → Option (List ℕ) → AskOf → AnswerOf → Option (List ℕ) → Type 0
  TakenBy r u q a b p = item.Taken rules s p t a b r u q

  as_seen : (r : Result (Unit {0}) Refusal) (u : LedgerState) (q : Option (List ℕ)) (a : AskOf) (b : AnswerOf) (p : Option (List ℕ)) → a ≡ ask' → b ≡ answer' → p ≡ by
      → TakenBy r u q a b p → TakenBy r u q ask' answer' by
  as_seen r u q a b p same like held x = subst (λ (y : AskOf). TakenBy r u q y answer' by) same (subst (λ (y : AnswerOf). TakenBy r u q a y by) like (subst (TakenBy r u q a b) held x))

  pub listing_taken : (u : LedgerState) (after_it : HeldOf) (q p : Option (List ℕ)) (a : AskOf) (b : AnswerOf) → IsSound s.now → has_repeat (listed_in answer.payload) ≡ false
      → a ≡ ask' → b ≡ answer' → p ≡ by → item.Taken rules s p t a b (Ok tt) u q → after_it ≡ behind → Took D (Tells ask answer) s before u after_it
  listing_taken u after_it q p a b sound once same like holds x held =
      took_via D (Tells ask answer) rules t ask' answer' by s before after_it stays (listing_makes once after_it held) (listing_takes after_it held)
      (λ bytes e. absurd (silent (stand_in s.now) answer.status ask.asked answer.payload touched bytes e)) u u q sound (as_seen (Ok tt) u q a b p same like holds x) refl

  -- no choice allows what kmipa_ops refuses of the rest
  never : (w : Why) → lowest rules s.now by t ask' answer' ≡ Some w → Refutes D s.now before
  never w e = record {
    never = λ c h v y d. let k = listing_takes behind refl c v y d in (refuted rules s.now by t ask' answer' w e).never c h k.0 k.1 k.2;
  }

  -- nor one where something is listed twice
  twice : has_repeat (listed_in answer.payload) ≡ true → Refutes D s.now before
  twice e = record { never = λ c h v y d. let bad : true ≡ false = sym e ∙ d.once in cc }

  pub listing_never : (w : Why) → listing_lowest rules s.now before t ask answer ≡ Some w → Refutes D s.now before
  listing_never w e = elim (repeats answer) as (λ b. repeats answer ≡ b → Refutes D s.now before) [
    | true ↦ λ r. twice r
    | false ↦ λ r. never w (why.rest ∙ sym (ap (λ (b : Bool). first_why (other ask answer || false) (b || why.bad) why.few why.echo) r) ∙ sym why.whole ∙ e)
  ] refl

  pub listing_other : (u : LedgerState) → other ask answer ≡ true → u ≡ s
      → TakenListing rules s before t ask answer (Err (Impossible OperationDiffers)) u
  listing_other u e same =
      let told : Bool → Bool → Option Why = λ op bad. first_why (op || false) bad why.few why.echo in
      (listing, why.whole ∙ ap (λ (b : Bool). told b (has_repeat (listed_in answer.payload) || why.bad)) e, never OperationDiffers (why.rest ∙ ap (λ (b : Bool). told b why.bad) e), same)

  pub listing_wrong : (u : LedgerState) → other ask answer ≡ false
      → (has_repeat (listed_in answer.payload) || lists_over ask.asked answer.payload) ≡ true → u ≡ s → TakenListing rules s before t ask answer (Err (Impossible ListedWrongly)) u
  listing_wrong u e bad same =
      let rep : Bool = has_repeat (listed_in answer.payload) in
      let told : Bool → Bool → Option Why = λ op x. first_why (op || false) x why.few why.echo in
      let whole : listing_lowest rules s.now before t ask answer ≡ told false (rep || why.bad) = why.whole ∙ ap (λ (b : Bool). told b (rep || why.bad)) e in
      elim (or_cases rep (lists_over ask.asked answer.payload) bad) [
        | inl r ↦ (listing, whole ∙ ap (λ (b : Bool). told false (b || why.bad)) r, twice r, same)
        | inr o ↦ (
          listing,
          whole ∙ ap (λ (b : Bool). told false (rep || b)) (why.over o) ∙ ap (told false) (or_true rep),
          never ListedWrongly (why.rest ∙ ap (λ (b : Bool). told b why.bad) e ∙ ap (told false) (why.over o)),
          same,
        )
      ]

  pub listing_refused : (refusal : Refusal) (u : LedgerState) (q p : Option (List ℕ)) (a : AskOf) (b : AnswerOf) → has_repeat (listed_in answer.payload) ≡ false
      → a ≡ ask' → b ≡ answer' → p ≡ by → item.Taken rules s p t a b (Err refusal) u q → TakenListing rules s before t ask answer (Err refusal) u
  listing_refused (Impossible w) u q p a b once same like holds x =
      let y = as_seen (Err (Impossible w)) u q a b p same like holds x in
      let op : Bool = other ask answer in (
        listing,
        why.whole ∙ ap (λ (r : Bool). first_why (op || false) (r || why.bad) why.few why.echo) once ∙ sym why.rest ∙ y.0.named,
        never w y.0.named,
        y.1,
      )
  listing_refused Memory u q p a b once same like holds x = x
