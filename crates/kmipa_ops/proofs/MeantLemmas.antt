-- The object that is meant, as the ledger finds it, and what speaks against a Get of it.
use Rattle.std.proofs.Common.{not, Result, Ok, Err, ◌≡◌, ◌++◌, [], ◌∷◌, ℕ, ℤ, Bool, true, false, cond, List, length, slice_get, find, is_none, option_map, Option, Some, None, refl, ap, sym, ◌∙◌}
use Rattle.std.specs.Option.{option_and_then, option_or}
use Rattle.kmipa_object.specs.Allowances.{allows}
use Rattle.kmipa_object.specs.Inventory.{live}
use Rattle.kmipa_object.specs.Life.{state}
use Rattle.kmipa_object.specs.declared.allow.Act.{Act}
use Rattle.kmipa_object.specs.declared.allow.Act.TheVariants as act
use Rattle.kmipa_object.specs.declared.life.Material.{Material}
use Rattle.kmipa_object.specs.declared.life.Material.TheVariants.{Gone, Secret}
use Rattle.kmipa_object.specs.declared.life.SecretNo.{SecretNo}
use Rattle.kmipa_object.specs.declared.rule.Rule.{Rule}
use Rattle.kmipa_store.specs.Ledger.{Held, Known, Meaning, LedgerState, bytes_at, cards_of, changed, told, with_secret, learned}
use Rattle.kmipa_store.specs.Calls.{differs, breaks, is_unknown}
use Rattle.kmipa_store.specs.Choices.{IsSound, GoneIfDestroyed}
use Rattle.kmipa_store.proofs.ChoiceLemmas.{told-last}
use Rattle.kmipa_store.proofs.LearnLemmas.{told_known}
use Rattle.kmipa_msgs.specs.Messages.{RulesOf, GotOf}
use Rattle.kmipa_ops.specs.declared.why.Why.{Why}
use Rattle.kmipa_ops.specs.declared.why.Why.TheVariants.{NoSuchObject, WrongState, BytesDiffer, LengthImpossible, AttributeDiffers, EchoDiffers}
use Rattle.kmipa_ops.specs.Whys.{whys}
use Rattle.kmipa_ops.specs.After.{Changes, LeavesAfter}
use Rattle.kmipa_ops.specs.Objects.{meant, card_meant, is_other_id}
use Rattle.kmipa_object.specs.declared.state.State.{State}
use Rattle.kmipa_store.specs.Queries.{state_of_place}
use Rattle.kmipa_ops.specs.Founded.{is_must, is_live_there, is_refusable}
use Rattle.kmipa_ops.specs.Shown.{IsSecretOf, live_speak}
use Rattle.kmipa_ops.specs.Meant.{place_meant, object_meant, secret_at, secret_meant, is_excluded}
use Rattle.kmipa_ops.specs.Get.{shows_other, differs_at, get_speaks, taught, taught_at}
use Rattle.kmipa_ops.proofs.ConditionLemmas.{card_meant_is, in_table}
use Rattle.kmipa_ops.proofs.TestLemmas.{true_not}
use Rattle.kmipa_ops.proofs.GetLemmas.{alive_if}

-- the object at the place that is meant
pub object_there : (hs : List Held) (about : Option (List ℕ)) (o : Option ℕ) (p : ℕ) (h : Held) → o ≡ Some p → o ≡ place_meant hs about → slice_get hs p ≡ Some h → object_meant hs about ≡ Some h
object_there hs about o p h here place at = ap (option_and_then (slice_get hs)) (sym place ∙ here) ∙ at

pub object_nowhere : (hs : List Held) (about : Option (List ℕ)) (o : Option ℕ) → o ≡ None → o ≡ place_meant hs about → object_meant hs about ≡ None
object_nowhere hs about o none place = ap (option_and_then (slice_get hs)) (sym place ∙ none)

pub card_there : (hs : List Held) (about : Option (List ℕ)) (o : Option ℕ) (p : ℕ) (h : Held) → o ≡ Some p → o ≡ place_meant hs about → slice_get hs p ≡ Some h → card_meant (cards_of hs) about ≡ Some h.card
card_there hs about o p h here place at = card_meant_is hs about ∙ ap (option_map (λ (g : Held). g.card)) (object_there hs about o p h here place at)

pub card_nowhere : (hs : List Held) (about : Option (List ℕ)) (o : Option ℕ) → o ≡ None → o ≡ place_meant hs about → card_meant (cards_of hs) about ≡ None
card_nowhere hs about o none place = card_meant_is hs about ∙ ap (option_map (λ (g : Held). g.card)) (object_nowhere hs about o none place)

-- its state
some_mapped : {A B : Type 0} (f : A → B) (o : Option A) (y : B) → option_map f o ≡ Some y → (x : A) × (o ≡ Some x) × (f x ≡ y)
some_mapped f None y e = let bad : ⊥ = cc in absurd bad
some_mapped f (Some x) y e = (x, refl, cc)

pub in_state : (hs : List Held) (p : ℕ) (t : ℤ) (s : State) → state_of_place hs p t ≡ Some s → (h : Held) × (slice_get hs p ≡ Some h) × (state h.card.dates t ≡ s)
in_state hs p t s is = some_mapped (λ (g : Held). state g.card.dates t) (slice_get hs p) s is

pub state_there : (hs : List Held) (p : ℕ) (t : ℤ) (s : State) (h : Held) → slice_get hs p ≡ Some h → state_of_place hs p t ≡ Some s → state h.card.dates t ≡ s
state_there hs p t s h at is =
    let x = in_state hs p t s is in
    let same : Some h ≡ Some x.0 = sym at ∙ x.1 in
    let e : h ≡ x.0 = cc in
    ap (λ (g : Held). state g.card.dates t) e ∙ x.2

pub refusable_there : (rules : RulesOf) (hs : List Held) (about : Option (List ℕ)) (act : Act) (t : ℤ) (o : Option ℕ) (p : ℕ) (s : State) → o ≡ Some p → o ≡ place_meant hs about → state_of_place hs p t ≡ Some s
    → not (is_must (allows rules.allow_lines act s)) ≡ is_refusable rules act t (card_meant (cards_of hs) about)
refusable_there rules hs about act t o p s here place is =
    let x = in_state hs p t s is in
    ap (λ (z : State). not (is_must (allows rules.allow_lines act z))) (sym x.2) ∙ ap (is_refusable rules act t) (sym (card_there hs about o p x.0 here place x.1))

pub refusable_nowhere : (rules : RulesOf) (hs : List Held) (about : Option (List ℕ)) (act : Act) (t : ℤ) (o : Option ℕ) → o ≡ None → o ≡ place_meant hs about → false ≡ is_refusable rules act t (card_meant (cards_of hs) about)
refusable_nowhere rules hs about act t o none place = ap (is_refusable rules act t) (sym (card_nowhere hs about o none place))

pub live_there : (hs : List Held) (about : Option (List ℕ)) (o : Option ℕ) (p : ℕ) (h : Held) → o ≡ Some p → o ≡ place_meant hs about → slice_get hs p ≡ Some h → live h.card ≡ is_live_there (card_meant (cards_of hs) about)
live_there hs about o p h here place at = ap is_live_there (sym (card_there hs about o p h here place at))

pub live_nowhere : (hs : List Held) (about : Option (List ℕ)) (o : Option ℕ) → o ≡ None → o ≡ place_meant hs about → false ≡ is_live_there (card_meant (cards_of hs) about)
live_nowhere hs about o none place = ap is_live_there (sym (card_nowhere hs about o none place))

-- its secret is there
pub secret_there : (m : Meaning) (p : ℕ) (h : Held) (s : SecretNo) → IsSound m → slice_get m.objects p ≡ Some h → h.material ≡ Secret s → IsSecretOf m h s
secret_there m p h s sound at mat = let r = sound.in_range.there p h s at mat in record { known = r.0; is = r.1 }

-- the rules exclude a Get where the bytes are gone
gone_dead : (b : Bool) (mat : Material) → mat ≡ Gone → GoneIfDestroyed b mat → b ≡ false
gone_dead false mat e g = refl
gone_dead true Gone e g = absurd g
gone_dead true (Secret s) e g = let bad : ⊥ = cc in absurd bad

excluded_if : (rules : RulesOf) (h : Held) (t : ℤ) → live h.card ≡ false → is_excluded rules act.Get t (Some h) ≡ true
excluded_if rules h t dead =
    let d = h.card.dates in
    (elim (is_excluded rules act.Get t (Some h)) as (λ b. is_excluded rules act.Get t (Some h) ≡ b → b ≡ true) [
      | true ↦ λ e. refl
      | false ↦ λ e. let alive : is_none d.destroy ≡ true = alive_if d.initial d.activation d.deactivation d.destroy d.compromise t (in_table rules act.Get t h.card e) in cc
    ]) refl

-- the reasons against a Get, as far as the object's state
abbrev behind : Meaning → Option (List ℕ) → ℤ → Option GotOf → Option Why
behind m about t None = None
behind m about t (Some a) =
    cond (differs (secret_meant m about) a.block.material) (Some BytesDiffer)
    (cond (breaks (secret_meant m about) a.block.material) (Some LengthImpossible)
    (cond (shows_other a (object_meant m.objects about)) (Some AttributeDiffers) (cond (is_other_id a.id about) (Some EchoDiffers) None)))

whys_of_get : (rules : RulesOf) (m : Meaning) (about : Option (List ℕ)) (t : ℤ) (shown : Option GotOf)
    → find (get_speaks rules m about t shown) whys
    ≡ cond (is_none (object_meant m.objects about)) (Some NoSuchObject) (cond (is_excluded rules act.Get t (object_meant m.objects about)) (Some WrongState) (behind m about t shown))
whys_of_get rules m about t None = refl
whys_of_get rules m about t (Some a) = refl

pub why_absent : (rules : RulesOf) (m : Meaning) (about : Option (List ℕ)) (t : ℤ) (shown : Option GotOf) → object_meant m.objects about ≡ None → Some NoSuchObject ≡ find (get_speaks rules m about t shown) whys
why_absent rules m about t shown e =
    sym (whys_of_get rules m about t shown
    ∙ ap (λ (o : Option Held). cond (is_none o) (Some NoSuchObject) (cond (is_excluded rules act.Get t (object_meant m.objects about)) (Some WrongState) (behind m about t shown))) e)

pub why_excluded : (rules : RulesOf) (m : Meaning) (about : Option (List ℕ)) (t : ℤ) (shown : Option GotOf) (h : Held) → object_meant m.objects about ≡ Some h → is_excluded rules act.Get t (Some h) ≡ true
    → Some WrongState ≡ find (get_speaks rules m about t shown) whys
why_excluded rules m about t shown h e out =
    sym (whys_of_get rules m about t shown
    ∙ ap (λ (o : Option Held). cond (is_none o) (Some NoSuchObject) (cond (is_excluded rules act.Get t o) (Some WrongState) (behind m about t shown))) e
    ∙ ap (λ (b : Bool). cond b (Some WrongState) (behind m about t shown)) out)

-- an object whose state lets it be got has bytes
pub has_secret : (rules : RulesOf) (m : Meaning) (p : ℕ) (t : ℤ) (h : Held) → IsSound m → slice_get m.objects p ≡ Some h → is_excluded rules act.Get t (Some h) ≡ false → h.material ≡ Gone → ⊥
has_secret rules m p t h sound at in_state mat = true_not (is_excluded rules act.Get t (Some h)) (excluded_if rules h t (gone_dead (live h.card) h.material mat (sound.gone p h at))) in_state

cond_or : (x y : Bool) (v w : Why) (r : Option Why) → option_or (cond x (Some v) (cond y (Some w) None)) r ≡ cond x (Some v) (cond y (Some w) r)
cond_or true y v w r = refl
cond_or false true v w r = refl
cond_or false false v w r = refl

behind_is : (m : Meaning) (about : Option (List ℕ)) (t : ℤ) (shown : Option GotOf) (h : Held) (s : SecretNo) → object_meant m.objects about ≡ Some h → secret_meant m about ≡ slice_get m.secrets s.number
    → behind m about t shown ≡ live_speak m about h s shown
behind_is m about t None h s e at = refl
behind_is m about t (Some a) h s e at =
    let b : List ℕ = a.block.material in
    let rest : Option Held → Option Why = λ o. cond (shows_other a o) (Some AttributeDiffers) (cond (is_other_id a.id about) (Some EchoDiffers) None) in
    ap (λ (k : Option Known). cond (differs k b) (Some BytesDiffer) (cond (breaks k b) (Some LengthImpossible) (rest (object_meant m.objects about)))) at
    ∙ ap (λ (o : Option Held). cond (differs (slice_get m.secrets s.number) b) (Some BytesDiffer) (cond (breaks (slice_get m.secrets s.number) b) (Some LengthImpossible) (rest o))) e
    ∙ sym (cond_or (differs (slice_get m.secrets s.number) b) (breaks (slice_get m.secrets s.number) b) BytesDiffer LengthImpossible (rest (Some h)))

pub why_live : (rules : RulesOf) (m : Meaning) (about : Option (List ℕ)) (t : ℤ) (shown : Option GotOf) (h : Held) (s : SecretNo) → IsSound m → object_meant m.objects about ≡ Some h → h.material ≡ Secret s
    → is_excluded rules act.Get t (Some h) ≡ false → live_speak m about h s shown ≡ find (get_speaks rules m about t shown) whys
why_live rules m about t shown h s sound e mat in_state =
    let secret : secret_meant m about ≡ slice_get m.secrets s.number =
    ap (option_and_then (λ (g : Held). secret_at m.secrets g.material)) e ∙ ap (secret_at m.secrets) mat in
    sym (whys_of_get rules m about t shown
    ∙ ap (λ (o : Option Held). cond (is_none o) (Some NoSuchObject) (cond (is_excluded rules act.Get t o) (Some WrongState) (behind m about t shown))) e
    ∙ ap (λ (b : Bool). cond b (Some WrongState) (behind m about t shown)) in_state
    ∙ behind_is m about t shown h s e secret)

-- a new secret that was told its bytes
pub known_made : (s : LedgerState) (rule : Rule) (bytes : List ℕ) (known : Option (List ℕ)) (n : ℕ) (v u : LedgerState) → known ≡ Some bytes → n ≡ length s.now.secrets → v ≡ with_secret s rule
    → u ≡ learned v n bytes → u ≡ changed s (record { objects = s.now.objects; secrets = s.now.secrets ++ record { rule = rule; bytes = known } ∷ []; aside = s.now.aside })
known_made s rule bytes known n v u is number made told =
    let C : List Known → LedgerState = λ ss. changed s (record { objects = s.now.objects; secrets = ss; aside = s.now.aside }) in
    told ∙ ap (λ (x : LedgerState). learned x n bytes) made ∙ ap (λ (k : ℕ). learned (with_secret s rule) k bytes) number
    ∙ ap C (told-last s.now.secrets (record { rule = rule; bytes = None }) bytes) ∙ ap (λ (k : Option (List ℕ)). C (s.now.secrets ++ record { rule = rule; bytes = k } ∷ [])) (sym is)

-- what a Get leaves, by the place of its object
pub leaves_taught : {E : Type 0} (s u : LedgerState) (before id p : Option (List ℕ)) (o : Option ℕ) (bytes : List ℕ) (r : Result (Unit {0}) E) → o ≡ place_meant s.now.objects (meant id before) → p ≡ before
    → Changes s (taught s.now (option_and_then (slice_get s.now.objects) o) bytes) r u → LeavesAfter s (taught s.now (object_meant s.now.objects (meant id before)) bytes) before r u p
leaves_taught s u before id p o bytes (Ok done) place held x = (x ∙ ap (λ (y : Option ℕ). changed s (taught s.now (option_and_then (slice_get s.now.objects) y) bytes)) place, held)
leaves_taught s u before id p o bytes (Err e) place held x = x

some_known : (o : Option Known) (known : List ℕ) → option_map (λ (k : Known). k.bytes) o ≡ Some (Some known) → is_unknown o ≡ false
some_known None known e = let bad : ⊥ = cc in absurd bad
some_known (Some k) known e = let is : k.bytes ≡ Some known = cc in ap is_none is

differs_there : (m : Meaning) (h : Held) (secret : SecretNo) (bytes : List ℕ) → h.material ≡ Secret secret → differs (slice_get m.secrets secret.number) bytes ≡ differs_at m (Some h) bytes
differs_there m h secret bytes mat = ap (λ (x : Material). differs (secret_at m.secrets x) bytes) (sym mat)

taught_here : (s : LedgerState) (o : Option ℕ) (p : ℕ) (h : Held) (bytes : List ℕ) → o ≡ Some p → slice_get s.now.objects p ≡ Some h → taught s.now (Some h) bytes ≡ taught s.now (option_and_then (slice_get s.now.objects) o) bytes
taught_here s o p h bytes here at = ap (λ (x : Option Held). taught s.now x bytes) (sym (ap (option_and_then (slice_get s.now.objects)) here ∙ at))

pub taught_none : (s : LedgerState) (o : Option ℕ) (bytes : List ℕ) → o ≡ None → s ≡ changed s (taught s.now (option_and_then (slice_get s.now.objects) o) bytes)
taught_none s o bytes none = ap (λ (x : Option ℕ). changed s (taught s.now (option_and_then (slice_get s.now.objects) x) bytes)) (sym none)

pub taught_gone : (s : LedgerState) (o : Option ℕ) (p : ℕ) (h : Held) (bytes : List ℕ) → o ≡ Some p → slice_get s.now.objects p ≡ Some h → h.material ≡ Gone → s ≡ changed s (taught s.now (option_and_then (slice_get s.now.objects) o) bytes)
taught_gone s o p h bytes here at mat = ap (λ (x : Material). changed s (taught_at s.now x bytes)) (sym mat) ∙ ap (changed s) (taught_here s o p h bytes here at)

pub taught_secret : (s u : LedgerState) (o : Option ℕ) (p : ℕ) (h : Held) (secret : SecretNo) (bytes : List ℕ) → o ≡ Some p → slice_get s.now.objects p ≡ Some h → h.material ≡ Secret secret → u ≡ learned s secret.number bytes
    → u ≡ changed s (taught s.now (option_and_then (slice_get s.now.objects) o) bytes)
taught_secret s u o p h secret bytes here at mat is = is ∙ ap (λ (x : Material). changed s (taught_at s.now x bytes)) (sym mat) ∙ ap (changed s) (taught_here s o p h bytes here at)

-- bytes that are known are taught already
pub taught_known : (s : LedgerState) (o : Option ℕ) (p : ℕ) (h : Held) (secret : SecretNo) (bytes known : List ℕ) → o ≡ Some p → slice_get s.now.objects p ≡ Some h → h.material ≡ Secret secret
    → bytes_at s.now.secrets secret.number ≡ Some (Some known) → differs_at s.now (option_and_then (slice_get s.now.objects) o) bytes ≡ false
    → s ≡ changed s (taught s.now (option_and_then (slice_get s.now.objects) o) bytes)
taught_known s o p h secret bytes known here at mat is same =
    let there : option_and_then (slice_get s.now.objects) o ≡ Some h = ap (option_and_then (slice_get s.now.objects)) here ∙ at in
    let fits : differs (slice_get s.now.secrets secret.number) bytes ≡ false = differs_there s.now h secret bytes mat ∙ ap (λ (x : Option Held). differs_at s.now x bytes) (sym there) ∙ same in
    let stays : told s.now.secrets secret.number bytes ≡ s.now.secrets = told_known s.now.secrets secret.number bytes (some_known (slice_get s.now.secrets secret.number) known is, fits) in
    taught_secret s s o p h secret bytes here at mat (ap (λ (ks : List Known). changed s (record { objects = s.now.objects; secrets = ks; aside = s.now.aside })) (sym stays))
