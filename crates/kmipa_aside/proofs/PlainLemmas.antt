-- A judged item that is judged as ever, taken beside what is set aside.
use Rattle.std.proofs.Common.{◌≡◌, ◌∙◌, ◌⊎◌, inl, inr, refl, ap, sym, subst, ℕ, ℤ, Bool, true, false, if◌then◌else◌, List, [], ◌∷◌, length, Option, Some, None, slice_get, Ok, Err, bytes_eq, arith}
use Rattle.kmipa_object.specs.Inventory.{Thing, Card}
use Rattle.kmipa_object.specs.Lists.{updated}
use Rattle.kmipa_object.specs.declared.life.Material.{Material}
use Rattle.kmipa_object.specs.declared.life.Material.TheVariants.{Gone, Secret}
use Rattle.kmipa_object.specs.declared.life.SecretNo.{SecretNo}
use Rattle.kmipa_object.proofs.ListLemmas.{get-append_cases}
use Rattle.kmipa_store.specs.Aside.{AsideOf, Entry, is_named_aside, said_in, says}
use Rattle.kmipa_store.specs.Ledger.{Held, Meaning, LedgerState, with_aside}
use Rattle.kmipa_store.specs.Choices.{Choice, IsSound, inv}
use Rattle.kmipa_store.proofs.SoundLemmas.{number_below, sound_aside, updated_from}
use Rattle.kmipa_msgs.specs.Messages.{RulesOf, AskedOf, AskOf, AnswerOf, PayloadOf, GotOf, RegisteredOf, creates, registers, locates, gets, gets_attributes, activates, revokes, destroys, idles, does_other}
use Rattle.kmipa_msgs.specs.declared.response.Status.{Status}
use Rattle.kmipa_msgs.specs.declared.response.Status.TheVariants.{Success, Failed, Undone}
use Rattle.kmipa_ops.specs.Adding.{with_own}
use Rattle.kmipa_ops.specs.After.{after, after_done}
use Rattle.kmipa_ops.specs.Changes.{changed_at, held_left, material_after}
use Rattle.kmipa_ops.specs.Completes.{DoesSome}
use Rattle.kmipa_ops.specs.Create.{create_leaves}
use Rattle.kmipa_ops.specs.Explains as item
use Rattle.kmipa_ops.specs.Get.{get_leaves, taught, taught_at}
use Rattle.kmipa_ops.specs.Register.{register_leaves}
use Rattle.kmipa_ops.specs.declared.change.Change.{Change}
use Rattle.kmipa_ops.specs.declared.change.Change.TheVariants.{Activate, Revoke, Destroy}
use Rattle.kmipa_ops.specs.declared.why.Why.{Why}
use Rattle.kmipa_ops.specs.declared.why.Refusal.{Refusal}
use Rattle.kmipa_ops.specs.declared.why.Refusal.TheVariants.{Impossible, Memory}
use Rattle.kmipa_passed.specs.Leaving.{HeldOf}
use Rattle.kmipa_aside.specs.Becoming.{stand_in}
use Rattle.kmipa_aside.specs.Ever.{DoesPlain, held_by, id_born, is_plain, judged_by, taken_in}
use Rattle.kmipa_aside.specs.Explains.{Deed, Refutes, SecretsApart, Took, world}
use Rattle.kmipa_aside.specs.Standing.{StandOf}
use Rattle.kmipa_aside.specs.Taking.{TakenAsEver, Tells}
use Rattle.kmipa_aside.specs.Worlds.{WorldOf, stand}
use Rattle.kmipa_aside.proofs.NearLemmas.{stand_world}
use Rattle.kmipa_aside.proofs.BodyLemmas.{ComesFrom, apart_from}

-- ---- secrets stay apart

apart_own : (m : Meaning) (card : Card) (known : Option (List ℕ)) → IsSound m → SecretsApart m.objects → SecretsApart (with_own m card known).objects
apart_own m card known sound a = record { apart = λ p q g h s t x y u v same. by p q g h s t u v same (get-append_cases m.objects new p g x) (get-append_cases m.objects new q h y) }
  where
    new : Held
    new = record { card = card; material = Secret (record { number = length m.secrets }) }

    last : (h : Held) (t : SecretNo) → h ≡ new → h.material ≡ Secret t → length m.secrets ≡ t.number
    last h t is mat =
        let e : Secret (record { number = length m.secrets }) ≡ Secret t = ap (λ (o : Held). o.material) (sym is) ∙ mat in
        let n : record { number = length m.secrets } ≡ t = cc in
        ap (λ (o : SecretNo). o.number) n

    by : (p q : ℕ) (g h : Held) (s t : SecretNo) → g.material ≡ Secret s → h.material ≡ Secret t → s.number ≡ t.number → (slice_get m.objects p ≡ Some g) ⊎ ((p ≡ length m.objects) × (g ≡ new))
        → (slice_get m.objects q ≡ Some h) ⊎ ((q ≡ length m.objects) × (h ≡ new)) → p ≡ q
    by p q g h s t u v same (inl x) (inl y) = a.apart p q g h s t x y u v same
    by p q g h s t u v same (inl x) (inr y) = absurd (omega (arith, same, last h t y.1 v, number_below m p g s sound x u))
    by p q g h s t u v same (inr x) (inl y) = absurd (omega (arith, same, last g s x.1 u, number_below m q h t sound y v))
    by p q g h s t u v same (inr x) (inr y) = x.0 ∙ sym y.0

still_its : (b : Bool) (change : Change) (mat : Material) (s : SecretNo) → (if b then mat else material_after change mat) ≡ Secret s → mat ≡ Secret s
still_its true change mat s e = e
still_its false Activate mat s e = e
still_its false (Revoke code) mat s e = e
still_its false Destroy mat s e = absurd cc

apart_changed : (change : Change) (t : ℤ) (hs : List Held) (place : Option ℕ) → SecretsApart hs → SecretsApart (changed_at hs place (held_left change t))
apart_changed change t hs None a = a
apart_changed change t hs (Some place) a = apart_from (updated hs place (held_left change t)) hs from a
  where
    from : ComesFrom (updated hs place (held_left change t)) hs
    from p g s e is =
        let r = updated_from hs place p (held_left change t) g e in
        (r.0, r.1, elim r.2 [ inl q ↦ ap (λ (o : Held). o.material) (sym q) ∙ is | inr q ↦ still_its _ change r.0.material s (ap (λ (o : Held). o.material) (sym q.1) ∙ is) ])

apart_at : (m : Meaning) (mat : Material) (bytes : List ℕ) → SecretsApart m.objects → SecretsApart (taught_at m mat bytes).objects
apart_at m Gone bytes a = a
apart_at m (Secret s) bytes a = a

apart_taught : (m : Meaning) (o : Option Held) (bytes : List ℕ) → SecretsApart m.objects → SecretsApart (taught m o bytes).objects
apart_taught m None bytes a = a
apart_taught m (Some h) bytes a = apart_at m h.material bytes a

apart_got : (m : Meaning) (about : Option (List ℕ)) (shown : Option GotOf) → SecretsApart m.objects → SecretsApart (get_leaves m about shown).objects
apart_got m about None a = a
apart_got m about (Some x) a = apart_taught m _ x.block.material a

apart_created : (m : Meaning) (t : ℤ) (a : _) (shown : Option RegisteredOf) → IsSound m → SecretsApart m.objects → SecretsApart (create_leaves m t a shown).objects
apart_created m t a None sound h = h
apart_created m t a (Some x) sound h = apart_own m _ None sound h

apart_registered : (m : Meaning) (t : ℤ) (r : _) (shown : Option RegisteredOf) → IsSound m → SecretsApart m.objects → SecretsApart (register_leaves m t r shown).objects
apart_registered m t r None sound h = h
apart_registered m t r (Some x) sound h = apart_own m _ (Some r.block.material) sound h

apart_done : (m : Meaning) (before : Option (List ℕ)) (t : ℤ) (asked : AskedOf) (payload : Option PayloadOf) → IsSound m → SecretsApart m.objects
    → SecretsApart (after_done m before t asked payload).objects
apart_done m before t (creates x) payload sound a = apart_created m t x _ sound a
apart_done m before t (registers r) payload sound a = apart_registered m t r _ sound a
apart_done m before t (locates q) payload sound a = a
apart_done m before t (gets id) payload sound a = apart_got m _ _ a
apart_done m before t (gets_attributes g) payload sound a = a
apart_done m before t (activates id) payload sound a = apart_changed Activate t m.objects _ a
apart_done m before t (revokes r) payload sound a = apart_changed (Revoke r.code) t m.objects _ a
apart_done m before t (destroys id) payload sound a = apart_changed Destroy t m.objects _ a
apart_done m before t (idles number) payload sound a = a
apart_done m before t (does_other number) payload sound a = a

after_apart : (status : Status) (m : Meaning) (before : Option (List ℕ)) (t : ℤ) (asked : AskedOf) (payload : Option PayloadOf) → IsSound m → SecretsApart m.objects
    → SecretsApart (after status m before t asked payload).objects
after_apart Success m before t asked payload sound a = apart_done m before t asked payload sound a
after_apart Undone m before t asked payload sound a = apart_done m before t asked payload sound a
after_apart Failed m before t asked payload sound a = a

-- ---- what is set aside stays

aside_at : (m : Meaning) (mat : Material) (bytes : List ℕ) → (taught_at m mat bytes).aside ≡ m.aside
aside_at m Gone bytes = refl
aside_at m (Secret s) bytes = refl

aside_got : (m : Meaning) (o : Option Held) (bytes : List ℕ) → (taught m o bytes).aside ≡ m.aside
aside_got m None bytes = refl
aside_got m (Some h) bytes = aside_at m h.material bytes

aside_shown : (m : Meaning) (about : Option (List ℕ)) (shown : Option GotOf) → (get_leaves m about shown).aside ≡ m.aside
aside_shown m about None = refl
aside_shown m about (Some x) = aside_got m _ x.block.material

aside_created : (m : Meaning) (t : ℤ) (a : _) (shown : Option RegisteredOf) → (create_leaves m t a shown).aside ≡ m.aside
aside_created m t a None = refl
aside_created m t a (Some x) = refl

aside_registered : (m : Meaning) (t : ℤ) (r : _) (shown : Option RegisteredOf) → (register_leaves m t r shown).aside ≡ m.aside
aside_registered m t r None = refl
aside_registered m t r (Some x) = refl

aside_done : (m : Meaning) (before : Option (List ℕ)) (t : ℤ) (asked : AskedOf) (payload : Option PayloadOf) → (after_done m before t asked payload).aside ≡ m.aside
aside_done m before t (creates x) payload = aside_created m t x _
aside_done m before t (registers r) payload = aside_registered m t r _
aside_done m before t (locates q) payload = refl
aside_done m before t (gets id) payload = aside_shown m _ _
aside_done m before t (gets_attributes g) payload = refl
aside_done m before t (activates id) payload = refl
aside_done m before t (revokes r) payload = refl
aside_done m before t (destroys id) payload = refl
aside_done m before t (idles number) payload = refl
aside_done m before t (does_other number) payload = refl

after_aside : (status : Status) (m : Meaning) (before : Option (List ℕ)) (t : ℤ) (asked : AskedOf) (payload : Option PayloadOf) → (after status m before t asked payload).aside ≡ m.aside
after_aside Success m before t asked payload = aside_done m before t asked payload
after_aside Undone m before t asked payload = aside_done m before t asked payload
after_aside Failed m before t asked payload = refl

-- ---- by kmipa_ops

abbrev now_with : Meaning → AsideOf → Meaning
now_with m a = record { objects = m.objects; secrets = m.secrets; aside = a }

-- a deed that does to the things what an item does, and changes what is set aside
module _ (does : Deed) (tells : List ℕ → Type 0) (rules : RulesOf) (t : ℤ) (ask : AskOf) (answer : AnswerOf) (p : Option (List ℕ)) (s : LedgerState) (before after_it : HeldOf)
    (change : AsideOf → AsideOf)
    (makes : (c : Choice) (V : List Thing) (q : Option (List ℕ)) → DoesSome rules (inv c s.now.objects) p t ask answer V q
    → does (world c s.now) before (record { things = V; aside = change s.now.aside }) after_it)
    (takes : (c : Choice) (w : WorldOf) (h : HeldOf) → does (world c s.now) before w h
    → (V : List Thing) × (q : Option (List ℕ)) × DoesSome rules (inv c s.now.objects) p t ask answer V q × (w ≡ record { things = V; aside = change s.now.aside }) × (h ≡ after_it)) where
  pub took_via : ((bytes : List ℕ) → item.BringsOrShows ((ask, answer) ∷ []) bytes → tells bytes) → (u v : LedgerState) (q : Option (List ℕ)) → IsSound s.now
      → item.Took rules s p t ask answer u q → v ≡ with_aside u (change u.now.aside) → Took does tells s before v after_it
  took_via tell u v q sound x is =
      let kept : u.now.aside ≡ s.now.aside = ap (λ (y : LedgerState). y.now.aside) x.left ∙ after_aside answer.status s.now p t ask.asked answer.payload in
      let W : List Thing → AsideOf → WorldOf = λ V a. record { things = V; aside = change a } in
      let Q : LedgerState → Type 0 = λ y. Took does tells s before y after_it in
      subst Q (sym is)
      (record {
        explains = record {
          sound = λ c h.
              let r = x.explains.sound c h in
              let E : WorldOf → Type 0 = λ w. does (world c s.now) before w after_it in
              (r.0, subst E (sym (ap (λ (V : List Thing). W V u.now.aside) r.1.3.0 ∙ ap (W r.1.0) kept)) (makes c r.1.0 r.1.1 r.1.2));
          complete = λ c h w y d.
              let k = takes c w y d in
              let r = x.explains.complete c h k.0 k.1 (k.0, k.1, k.2, (refl, refl)) in
              (r.0, r.1, r.2, k.3 ∙ ap (λ (V : List Thing). W V s.now.aside) r.3 ∙ ap (W (inv r.0 u.now.objects)) (sym kept), k.4);
          learns = λ number bytes e. elim (x.explains.learns number bytes e) [ inl y ↦ inl y | inr y ↦ inr (tell bytes y) ];
          grows = x.explains.grows;
          extends = x.explains.extends;
          apart = λ a.
              let P : LedgerState → Type 0 = λ y. SecretsApart y.now.objects in
              subst P (sym x.left) (after_apart answer.status s.now p t ask.asked answer.payload sound a);
        };
        sound = sound_aside u.now (change u.now.aside) x.sound;
        marks = x.marks;
      })

  pub refutes_via : (why : Why) → item.Refuted rules s.now p t ask answer why → Refutes does s.now before
  refutes_via why x = record { never = λ c h w y d. let k = takes c w y d in x.never c h k.0 k.1 k.2 }

-- ---- one that is plain

module _ (rules : RulesOf) (t : ℤ) (ask : AskOf) (answer : AnswerOf) (s u : LedgerState) (before : HeldOf) where
  plain_in : (c : Choice) → is_plain rules (stand_in s.now) before ask answer ≡ true → is_plain rules (stand (world c s.now)) before ask answer ≡ true
  plain_in c plain = ap (λ (x : StandOf). is_plain rules x before ask answer) (stand_world c s.now) ∙ plain

  abbrev born : Option (List ℕ)
  born = id_born answer.status answer.payload

  plain_makes : is_plain rules (stand_in s.now) before ask answer ≡ true → (after_it : HeldOf) → after_it ≡ held_by answer.status before answer.payload
      → (c : Choice) (V : List Thing) (q : Option (List ℕ)) → DoesSome rules (inv c s.now.objects) (judged_by before answer) t ask answer V q
      → DoesPlain rules t ask answer (world c s.now) before (record { things = V; aside = taken_in born s.now.aside }) after_it
  plain_makes plain after_it held c V q d = record { plain = plain_in c plain; things = V; held = q; does = d; world = refl; placeholder = held }

  plain_takes : (after_it : HeldOf) → after_it ≡ held_by answer.status before answer.payload → (c : Choice) (w : WorldOf) (h : HeldOf) → DoesPlain rules t ask answer (world c s.now) before w h
      → (V : List Thing) × (q : Option (List ℕ)) × DoesSome rules (inv c s.now.objects) (judged_by before answer) t ask answer V q × (w ≡ record { things = V; aside = taken_in born s.now.aside })
      × (h ≡ after_it)
  plain_takes after_it held c w h d = (d.things, d.held, d.does, d.world, d.placeholder ∙ sym held)

  -- by whatever placeholder means the same
  pub plain_taken : (after_it : HeldOf) (v : LedgerState) (p q : Option (List ℕ)) → IsSound s.now → is_plain rules (stand_in s.now) before ask answer ≡ true → p ≡ judged_by before answer
      → item.Taken rules s p t ask answer (Ok tt) u q → v ≡ with_aside u (taken_in born u.now.aside) → after_it ≡ held_by answer.status before answer.payload
      → Took (DoesPlain rules t ask answer) (Tells ask answer) s before v after_it
  plain_taken after_it v p q sound plain same x is held =
      let P : Option (List ℕ) → Type 0 = λ y. item.Took rules s y t ask answer u q in
      took_via (DoesPlain rules t ask answer) (Tells ask answer) rules t ask answer (judged_by before answer) s before after_it (taken_in born) (plain_makes plain after_it held)
      (plain_takes after_it held) (λ bytes h. h) u v q sound (subst P same x) is

  pub plain_refused : (refusal : Refusal) (p q : Option (List ℕ)) → is_plain rules (stand_in s.now) before ask answer ≡ true → p ≡ judged_by before answer
      → item.Taken rules s p t ask answer (Err refusal) u q → TakenAsEver rules s before t ask answer (Err refusal) u
  plain_refused (Impossible why) p q plain same x =
      let P : Option (List ℕ) → Type 0 = λ y. item.Refuted rules s.now y t ask answer why in
      let r = subst P same x.0 in
      let k = refutes_via (DoesPlain rules t ask answer) (Tells ask answer) rules t ask answer (judged_by before answer) s before (held_by answer.status before answer.payload) (taken_in born)
      (plain_makes plain (held_by answer.status before answer.payload) refl) (plain_takes (held_by answer.status before answer.payload) refl) in
      (plain, r.named, k why r, x.1)
  plain_refused Memory p q plain same x = x

-- ---- an identifier that isn't set aside by its name is none that is taken in

said_same : (es : List Entry) (id : List ℕ) → says es id ≡ false → said_in es id ≡ es
said_same [] id e = refl
said_same (x ∷ es) id e =
    elim (bytes_eq id x.0) as (λ b. (if b then x.1 else says es id) ≡ false → (if b then (x.0, false) ∷ es else x ∷ said_in es id) ≡ x ∷ es) [
      | true ↦ λ is. ap (λ (b : Bool). let y : Entry = (x.0, b) in y ∷ es) (sym is)
      | false ↦ λ rest. ap (λ (ys : List Entry). x ∷ ys) (said_same es id rest)
    ] e

pub taken_same : (a : AsideOf) (id : List ℕ) → is_named_aside a id ≡ false → taken_in (Some id) a ≡ a
taken_same a id e = ap (λ (es : List Entry). let b : AsideOf = record a { ids = es } in b) (said_same a.ids id e)

pub not_named : (s u : LedgerState) (id : List ℕ) → is_named_aside s.now.aside id ≡ false → u ≡ s → u ≡ with_aside s (taken_in (Some id) s.now.aside)
not_named s u id e is = is ∙ ap (with_aside s) (sym (taken_same s.now.aside id e))
