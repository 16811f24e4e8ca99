-- Get: where nothing speaks against it the ledger goes on, and what speaks against it allows no choice; it keeps the laws of operations.
use Rattle.std.proofs.Common.{◌≡◌, ◌&&◌, ◌==◌, ◌<◌, ℕ, ℤ, Bool, true, false, not, List, length, slice_get, All, is_none, bytes_eq, option_map, Option, Some, None, refl, ap, sym, ◌∙◌, subst, inl, inr, arith, ◌||◌, find, ◌≢◌}
use Rattle.std.specs.Ordering.{int_eq}
use Rattle.std.specs.Option.{option_and_then}
use Rattle.std.proofs.lemmas.Slice.Eq.{bytes_eq-Decides}
use Rattle.std.proofs.lemmas.Bool.{or_parts, and_parts, and_from}
use Rattle.std.proofs.lemmas.Bool.Decides.{Decides-eqb, Decides-int_eq}
use Rattle.kmipa_attrs.specs.declared.object_type.ObjectType.{ObjectType}
use Rattle.kmipa_attrs.specs.declared.object_type.ObjectType.TheVariants.{SymmetricKey, SecretData}
use Rattle.std.specs.Bool.{Decides}
use Rattle.kmipa_object.specs.Inventory.{Card, Thing, Admitted, place_of, rule_of, admits, live}
use Rattle.kmipa_object.specs.Life.{state}
use Rattle.kmipa_object.specs.Table.{allowed}
use Rattle.kmipa_object.specs.declared.life.Material.{Material}
use Rattle.kmipa_object.specs.declared.life.Material.TheVariants.{Gone, Secret}
use Rattle.kmipa_object.specs.declared.life.SecretNo.{SecretNo}
use Rattle.kmipa_store.specs.Ledger.{Held, Known, Meaning, cards_of, told}
use Rattle.kmipa_store.specs.Calls.{differs, differs_from, breaks}
use Rattle.kmipa_store.specs.Choices.{Choice, Suits, Chooses, inv, thing, bytes_of, IsSound, GoneIfDestroyed}
use Rattle.kmipa_store.proofs.ChoiceLemmas.{override, override_same, agrees_same, Chooses-told, told_bytes, Chooses-override, extends_told, length-told}
use Rattle.kmipa_store.proofs.InventoryLemmas.{cards-inv, get-inv}
use Rattle.kmipa_store.proofs.SoundLemmas.{inv_found, InRange-extends}
use Rattle.kmipa_msgs.specs.Messages.{RulesOf, GotOf, got}
use Rattle.kmipa_ops.specs.declared.why.Why.{Why}
use Rattle.kmipa_ops.specs.declared.why.Why.TheVariants.{NoSuchObject, WrongState, BytesDiffer, LengthImpossible, AttributeDiffers, EchoDiffers}
use Rattle.kmipa_ops.specs.Allowance.{allowance}
use Rattle.kmipa_ops.specs.Objects.{meant, Echoes, Agree, is_other, clash, same_type, is_other_id, Differs}
use Rattle.kmipa_msgs.specs.Sayable.{SaysKey}
use Rattle.kmipa_ops.specs.Get.{Gets, shows_other, get_speaks, taught, taught_at, get_leaves, get_deed, get_judging, IsOther, GetReason}
use Rattle.kmipa_ops.specs.Meant.{object_meant, secret_at, secret_meant, is_not, is_excluded}
use Rattle.kmipa_ops.proofs.TestLemmas.{not_false, not_none, echoes_if, echoes_not, agree_if, agree_not, or_cases, false_if, not_true, true_not, not_decides}
use Rattle.kmipa_ops.proofs.StepLemmas.{Step, chose_before, still_step}
use Rattle.kmipa_msgs.specs.declared.key_block.KeyFormat.TheVariants.{Raw}
use Rattle.kmipa_ops.specs.Explains.{shows}
use Rattle.kmipa_ops.proofs.LearnLemmas.{known_at, told_cases}
use Rattle.kmipa_ops.proofs.DeedLaws.{Learns, outer_whys, IsDeed, KnowSame}
use Rattle.kmipa_object.specs.declared.allow.Act.TheVariants as act
use Rattle.kmipa_ops.proofs.ConditionLemmas.{never_decides, or_decides, none_decides, differs_decides, clashes_decides, id_decides, in_table, is_not_decides, excluded_decides, object_same, none_same, excluded_same}
use Rattle.kmipa_msgs.specs.Gets.{AnswersGet}

pub same_type-Decides : (x y : ObjectType) → Decides (same_type x y) (x ≡ y)
same_type-Decides SymmetricKey SymmetricKey = (λ h. refl, λ h. refl)
same_type-Decides SymmetricKey SecretData = (λ h. let bad : ⊥ = cc in absurd bad, λ h. let bad : ⊥ = cc in absurd bad)
same_type-Decides SecretData SymmetricKey = (λ h. let bad : ⊥ = cc in absurd bad, λ h. let bad : ⊥ = cc in absurd bad)
same_type-Decides SecretData SecretData = (λ h. refl, λ h. refl)

-- the table excludes a Get where the Destroy Date is set
pub alive_if : (i a d e c : Option ℤ) (t : ℤ) → is_not (allowed act.Get (state (record { initial = i; activation = a; deactivation = d; destroy = e; compromise = c }) t)) ≡ false → is_none e ≡ true
alive_if i a d None c t h = refl
alive_if i a d (Some x) None t h = cc
alive_if i a d (Some x) (Some y) t h = cc

-- the object that is meant is at a place, is live, and has a secret
pub record Finds (m : Meaning) (about : Option (List ℕ)) (id : List ℕ) (place : ℕ) (h : Held) (s : SecretNo) : Type 0 where
  pub about_is : about ≡ Some id
  pub named : place_of id (cards_of m.objects) ≡ Some place
  pub stands : slice_get m.objects place ≡ Some h
  pub alive : live h.card ≡ true
  pub secret : h.material ≡ Secret s

pub meant_is : (m : Meaning) (about : Option (List ℕ)) (id : List ℕ) (place : ℕ) (h : Held) → about ≡ Some id → place_of id (cards_of m.objects) ≡ Some place → slice_get m.objects place ≡ Some h → object_meant m.objects about ≡ Some h
meant_is m about id place h e f g = ap (object_meant m.objects) e ∙ ap (option_and_then (slice_get m.objects)) f ∙ g

there_at : (o : Option ℕ) (hs : List Held) (h : Held) → option_and_then (slice_get hs) o ≡ Some h → (p : ℕ) × (o ≡ Some p) × (slice_get hs p ≡ Some h)
there_at None hs h e = let bad : ⊥ = cc in absurd bad
there_at (Some p) hs h e = (p, refl, e)

pub meant_at : (hs : List Held) (about : Option (List ℕ)) (h : Held) → object_meant hs about ≡ Some h → (id : List ℕ) × (about ≡ Some id) × (p : ℕ) × (place_of id (cards_of hs) ≡ Some p) × (slice_get hs p ≡ Some h)
meant_at hs None h e = let bad : ⊥ = cc in absurd bad
meant_at hs (Some id) h e = let r = there_at (place_of id (cards_of hs)) hs h e in (id, refl, r.0, r.1, r.2)

live_secret : (b : Bool) (mat : Material) → b ≡ true → GoneIfDestroyed b mat → (s : SecretNo) × (mat ≡ Secret s)
live_secret false mat e g = let bad : ⊥ = cc in absurd bad
live_secret true Gone e g = absurd g
live_secret true (Secret s) e g = (s, refl)

pub finds : (rules : RulesOf) (m : Meaning) (about : Option (List ℕ)) (t : ℤ) → IsSound m → is_none (object_meant m.objects about) ≡ false → is_excluded rules act.Get t (object_meant m.objects about) ≡ false
    → (id : List ℕ) × (place : ℕ) × (h : Held) × (s : SecretNo) × Finds m about id place h s
finds rules m about t sound there fits =
    let o = not_none (object_meant m.objects about) there in
    let at = meant_at m.objects about o.0 o.1 in
    let d = o.0.card.dates in
    let alive : live o.0.card ≡ true = alive_if d.initial d.activation d.deactivation d.destroy d.compromise t (in_table rules act.Get t o.0.card (ap (is_excluded rules act.Get t) (sym o.1) ∙ fits)) in
    let s = live_secret (live o.0.card) o.0.material alive (sound.gone at.2 o.0 at.4) in
    (at.0, at.2, o.0, s.0, record { about_is = at.1; named = at.3; stands = at.4; alive = alive; secret = s.1 })

module _ (rules : RulesOf) (m : Meaning) (before asked : Option (List ℕ)) (t : ℤ) where
  abbrev about : Option (List ℕ)
  about = meant asked before

  secret_is : (id : List ℕ) (place : ℕ) (h : Held) (s : SecretNo) → Finds m about id place h s → secret_meant m about ≡ slice_get m.secrets s.number
  secret_is id place h s f =
      ap (option_and_then (λ (g : Held). secret_at m.secrets g.material)) (meant_is m about id place h f.about_is f.named f.stands)
      ∙ ap (secret_at m.secrets) f.secret

  -- a Get of it, under a choice that gives it the bytes that are shown
  pub links : (id : List ℕ) (place : ℕ) (h : Held) (s : SecretNo) (a : GotOf) → Finds m about id place h s → is_not (allowance rules act.Get t h.card) ≡ false → shows_other a (object_meant m.objects about) ≡ false → is_other_id a.id about ≡ false
      → (c : Choice) → c s.number ≡ a.block.material → Gets rules (inv c m.objects) before t asked a (inv c m.objects) before
  links id place h s a f may other echo c is =
      let o : shows_other a (Some h) ≡ false = ap (shows_other a) (sym (meant_is m about id place h f.about_is f.named f.stands)) ∙ other in
      let x = or_parts _ (clash int_eq a.block.length h.card.given.length) o in
      let y = or_parts _ (clash (λ (i j : ℕ). i == j) a.block.algorithm h.card.given.algorithm) x.0 in
      let z = or_parts (is_other same_type a.object_type h.card.kind) (not (same_type a.shape h.card.kind)) y.0 in
      record {
        id = id;
        place = place;
        object = thing c h;
        about = f.about_is;
        there = record { named = ap (place_of id) (cards-inv c m.objects) ∙ f.named; stands = get-inv c m.objects place ∙ ap (option_map (thing c)) f.stands };
        alive = f.alive;
        may = λ e. let bad : true ≡ false = sym (ap is_not e) ∙ may in cc;
        bytes = ap (bytes_of c) f.secret ∙ ap Some is;
        kind = echoes_if same_type same_type-Decides a.object_type h.card.kind z.0;
        shape = (same_type-Decides a.shape h.card.kind).0 (not_false (same_type a.shape h.card.kind) z.1);
        algorithm = agree_if (λ (i j : ℕ). i == j) Decides-eqb a.block.algorithm h.card.given.algorithm y.1;
        length = agree_if int_eq Decides-int_eq a.block.length h.card.given.length x.1;
        echo = echoes_if bytes_eq bytes_eq-Decides a.id id (ap (is_other_id a.id) (sym f.about_is) ∙ echo);
        leaves = refl;
        placeholder = refl;
      }

  material_is : (c : Choice) (mat : Material) (b : List ℕ) → bytes_of c mat ≡ Some b → (s : SecretNo) × (mat ≡ Secret s) × (c s.number ≡ b)
  material_is c Gone b e = let bad : ⊥ = cc in absurd bad
  material_is c (Secret s) b e = (s, refl, cc)

  -- what a Get of an inventory under a choice is about
  pub found_by : (a : GotOf) (c : Choice) (V : List Thing) (p : Option (List ℕ)) (x : Gets rules (inv c m.objects) before t asked a V p)
      → (h : Held) × (s : SecretNo) × Finds m about x.id x.place h s × (thing c h ≡ x.object) × (c s.number ≡ a.block.material)
  found_by a c V p x =
      let o = inv_found c m.objects x.place x.object x.there.stands in
      let s = material_is c o.0.material a.block.material (ap (λ (y : Thing). y.bytes) o.2 ∙ x.bytes) in (
        o.0,
        s.0,
        record {
          about_is = x.about;
          named = ap (place_of x.id) (sym (cards-inv c m.objects)) ∙ x.there.named;
          stands = o.1;
          alive = ap (λ (y : Thing). live y.card) o.2 ∙ x.alive;
          secret = s.1;
        },
        o.2,
        s.2,
      )

  one_found : (i j : List ℕ) (p q : ℕ) (g h : Held) (r s : SecretNo) → Finds m about i p g r → Finds m about j q h s → r ≡ s
  one_found i j p q g h r s e f =
      let same : Some g ≡ Some h = sym (meant_is m about i p g e.about_is e.named e.stands) ∙ meant_is m about j q h f.about_is f.named f.stands in
      let is : g ≡ h = cc in
      let mats : Secret r ≡ Secret s = sym e.secret ∙ ap (λ (x : Held). x.material) is ∙ f.secret in
      cc

  -- the bytes that are shown suit the secret
  fits_known : (k : Known) (b x : List ℕ) → differs (Some k) b ≡ false → k.bytes ≡ Some x → b ≡ x
  fits_known k b x h e =
      let f : not (bytes_eq x b) ≡ false = ap (λ (o : Option (List ℕ)). differs_from o b) (sym e) ∙ h in
      sym ((bytes_eq-Decides x b).0 (not_false (bytes_eq x b) f))

  fits_rule : (k : Known) (b : List ℕ) (c : List ℕ) → Suits k c → All (λ x. x < 256) b → differs (Some k) b ≡ false → breaks (Some k) b ≡ false → Admitted k.rule b
  fits_rule k b c u small same fits =
      (elim k.bytes as (λ o. k.bytes ≡ o → (is_none o && not (admits k.rule b)) ≡ false → Admitted k.rule b) [
        | None ↦ λ e q. record { admitted = not_false (admits k.rule b) q; small = small }
        | Some x ↦ λ e q. subst (λ (y : List ℕ). Admitted k.rule y) (u.known x e ∙ sym (fits_known k b x same e)) u.admitted
      ]) refl fits

  taught_is : (id : List ℕ) (place : ℕ) (h : Held) (s : SecretNo) (b : List ℕ) → Finds m about id place h s
      → taught m (object_meant m.objects about) b ≡ record { objects = m.objects; secrets = told m.secrets s.number b; aside = m.aside }
  taught_is id place h s b f =
      ap (λ (o : Option Held). taught m o b) (meant_is m about id place h f.about_is f.named f.stands) ∙ ap (λ (x : Material). taught_at m x b) f.secret

  told_step : (id : List ℕ) (place : ℕ) (h : Held) (s : SecretNo) (k : Known) (a : GotOf) → Finds m about id place h s → slice_get m.secrets s.number ≡ Some k → IsSound m
      → ((x : List ℕ) → k.bytes ≡ Some x → a.block.material ≡ x) → Admitted k.rule a.block.material → is_not (allowance rules act.Get t h.card) ≡ false
      → shows_other a (object_meant m.objects about) ≡ false → is_other_id a.id about ≡ false
      → Step (λ V V' p. Gets rules V before t asked a V' p) m (record { objects = m.objects; secrets = told m.secrets s.number a.block.material; aside = m.aside }) before
  told_step id place h s k a f at sound fits admitted may other echo =
      let b : List ℕ = a.block.material in
      let suits : Suits k b = record { admitted = admitted; known = fits } in
      record {
        sound = λ c ch. (chose_before m.secrets s.number k b c at fits ch, links id place h s a f may other echo c (told_bytes m.secrets s.number k b c at ch));
        complete = λ c ch V p x.
            let r = found_by a c V p x in
            let same : r.1 ≡ s = one_found x.id id x.place place r.0 h r.1 s r.2 f in
            let is : c s.number ≡ b = ap (λ (y : SecretNo). c y.number) (sym same) ∙ r.4 in
            (c, Chooses-told m.secrets s.number k b c at is ch, agrees_same (length m.secrets) c, x.leaves, x.placeholder);
        grows = omega (arith, length-told m.secrets s.number b);
        extends = extends_told m.secrets s.number b;
        kept = record {
          in_range = InRange-extends m.objects m.secrets (told m.secrets s.number b) sound.in_range (extends_told m.secrets s.number b);
          gone = sound.gone;
          distinct = sound.distinct;
          choice = (
            override sound.choice.0 s.number b,
            Chooses-told m.secrets s.number k b (override sound.choice.0 s.number b) at (override_same sound.choice.0 s.number b)
                (Chooses-override m.secrets s.number k b sound.choice.0 at suits sound.choice.1),
          );
        };
      }

  pub get_step : (a : GotOf) → IsSound m → All (λ x. x < 256) a.block.material → ((w : Why) → get_speaks rules m about t (Some a) w ≡ false)
      → Step (λ V V' p. Gets rules V before t asked a V' p) m (taught m (object_meant m.objects about) a.block.material) before
  get_step a sound small silent =
      let b : List ℕ = a.block.material in
      let f = finds rules m about t sound (silent NoSuchObject) (silent WrongState) in
      let r = sound.in_range.there f.1 f.2 f.3 f.4.stands f.4.secret in
      let k : Known = record { rule = rule_of f.2.card; bytes = r.0 } in
      let may : is_not (allowance rules act.Get t f.2.card) ≡ false = ap (is_excluded rules act.Get t) (sym (meant_is m about f.0 f.1 f.2 f.4.about_is f.4.named f.4.stands)) ∙ silent WrongState in
      let is : secret_meant m about ≡ Some k = secret_is f.0 f.1 f.2 f.3 f.4 ∙ r.1 in
      let same : differs (Some k) b ≡ false = ap (λ (o : Option Known). differs o b) (sym is) ∙ silent BytesDiffer in
      let fits : breaks (Some k) b ≡ false = ap (λ (o : Option Known). breaks o b) (sym is) ∙ silent LengthImpossible in
      let admitted = fits_rule k b (sound.choice.0 f.3.number) (sound.choice.1.suits f.3.number k r.1) small same fits in
      let P : Meaning → Type 0 = λ n. Step (λ V V' p. Gets rules V before t asked a V' p) m n before in
      subst P (sym (taught_is f.0 f.1 f.2 f.3 b f.4))
      (told_step f.0 f.1 f.2 f.3 k a f.4 r.1 sound (λ x e. fits_known k b x same e) admitted may (silent AttributeDiffers) (silent EchoDiffers))

  -- what speaks against it allows no choice
  not_absent : (a : GotOf) (c : Choice) (V : List Thing) (p : Option (List ℕ)) → is_none (object_meant m.objects about) ≡ true → Gets rules (inv c m.objects) before t asked a V p → ⊥
  not_absent a c V p h x =
      let r = found_by a c V p x in
      let e : is_none (object_meant m.objects about) ≡ false = ap is_none (meant_is m about x.id x.place r.0 r.2.about_is r.2.named r.2.stands) in
      cc

  not_excluded : (a : GotOf) (c : Choice) (V : List Thing) (p : Option (List ℕ)) → is_excluded rules act.Get t (object_meant m.objects about) ≡ true → Gets rules (inv c m.objects) before t asked a V p → ⊥
  not_excluded a c V p h x =
      let r = found_by a c V p x in
      let e : is_not (allowance rules act.Get t r.0.card) ≡ true =
      ap (is_excluded rules act.Get t) (sym (meant_is m about x.id x.place r.0 r.2.about_is r.2.named r.2.stands)) ∙ h in
      x.may (ap (λ (y : Thing). allowance rules act.Get t y.card) (sym r.3) ∙ (is_not_decides (allowance rules act.Get t r.0.card)).0 e)

  suits_differ : (o : Option Known) (n : ℕ) (b : List ℕ) (c : Choice) → o ≡ slice_get m.secrets n → Chooses m.secrets c → c n ≡ b → differs o b ≡ true → ⊥
  suits_differ None n b c at ch is h = cc
  suits_differ (Some k) n b c at ch is h =
      (elim k.bytes as (λ o. k.bytes ≡ o → differs_from o b ≡ true → ⊥) [
        | None ↦ λ e q. cc
        | Some x ↦ λ e q.
            let same : x ≡ b = sym ((ch.suits n k (sym at)).known x e) ∙ is in
            let f : not (bytes_eq x b) ≡ false = ap not ((bytes_eq-Decides x b).1 same) in
            cc
      ]) refl h

  and_right : (x y : Bool) → (x && y) ≡ true → y ≡ true
  and_right true y h = h
  and_right false y h = cc

  suits_break : (o : Option Known) (n : ℕ) (b : List ℕ) (c : Choice) → o ≡ slice_get m.secrets n → Chooses m.secrets c → c n ≡ b → breaks o b ≡ true → ⊥
  suits_break None n b c at ch is h = cc
  suits_break (Some k) n b c at ch is h =
      let fits : not (admits k.rule b) ≡ false = ap not (ap (admits k.rule) (sym is) ∙ (ch.suits n k (sym at)).admitted.admitted) in
      let q : not (admits k.rule b) ≡ true = and_right (is_none k.bytes) (not (admits k.rule b)) h in
      cc

  not_other : (a : GotOf) (c : Choice) (V : List Thing) (p : Option (List ℕ)) → shows_other a (object_meant m.objects about) ≡ true → Gets rules (inv c m.objects) before t asked a V p → ⊥
  not_other a c V p h x =
      let r = found_by a c V p x in
      let card : x.object.card ≡ r.0.card = sym (ap (λ (y : Thing). y.card) r.3) in
      let g : Card = r.0.card in
      let o : shows_other a (Some r.0) ≡ true = ap (shows_other a) (sym (meant_is m about x.id x.place r.0 r.2.about_is r.2.named r.2.stands)) ∙ h in
      elim (or_cases _ (clash int_eq a.block.length g.given.length) o) [
        | inr q ↦ agree_not int_eq Decides-int_eq a.block.length g.given.length q (subst (λ (y : Card). Agree a.block.length y.given.length) card x.length)
        | inl q ↦ (elim (or_cases _ (clash (λ (i j : ℕ). i == j) a.block.algorithm g.given.algorithm) q) [
          | inr u ↦ agree_not (λ (i j : ℕ). i == j) Decides-eqb a.block.algorithm g.given.algorithm u (subst (λ (y : Card). Agree a.block.algorithm y.given.algorithm) card x.algorithm)
          | inl u ↦ (elim (or_cases (is_other same_type a.object_type g.kind) (not (same_type a.shape g.kind)) u) [
            | inl v ↦ echoes_not same_type same_type-Decides a.object_type g.kind v (subst (λ (y : Card). Echoes a.object_type y.kind) card x.kind)
            | inr v ↦
                let e : not (same_type a.shape g.kind) ≡ false = ap not ((same_type-Decides a.shape g.kind).1 (x.shape ∙ ap (λ (y : Card). y.kind) card)) in
                cc
          ])
        ])
      ]

  pub get_never : (a : GotOf) (w : Why) → get_speaks rules m about t (Some a) w ≡ true → (c : Choice) → Chooses m.secrets c → (V : List Thing) (p : Option (List ℕ)) → Gets rules (inv c m.objects) before t asked a V p → ⊥
  get_never a NoSuchObject h c ch V p x = not_absent a c V p h x
  get_never a WrongState h c ch V p x = not_excluded a c V p h x
  get_never a BytesDiffer h c ch V p x =
      let r = found_by a c V p x in
      suits_differ (secret_meant m about) r.1.number a.block.material c (secret_is x.id x.place r.0 r.1 r.2) ch r.4 h
  get_never a LengthImpossible h c ch V p x =
      let r = found_by a c V p x in
      suits_break (secret_meant m about) r.1.number a.block.material c (secret_is x.id x.place r.0 r.1 r.2) ch r.4 h
  get_never a AttributeDiffers h c ch V p x = not_other a c V p h x
  get_never a EchoDiffers h c ch V p x = echoes_not bytes_eq bytes_eq-Decides a.id x.id (ap (is_other_id a.id) (sym x.about) ∙ h) x.echo
  get_never a w h c ch V p x = cc

quiet_get : (rules : RulesOf) (m : Meaning) (about : Option (List ℕ)) (t : ℤ) (shown : Option GotOf) → find (get_speaks rules m about t shown) outer_whys ≡ None
quiet_get rules m meant_id t None = refl
quiet_get rules m meant_id t (Some a) = refl

covers_get : (rules : RulesOf) (m : Meaning) (about : Option (List ℕ)) (t : ℤ) (a : GotOf) (w : Why) → get_speaks rules m about t None w ≡ true → get_speaks rules m about t (Some a) w ≡ true
covers_get rules m meant_id t a NoSuchObject h = h
covers_get rules m meant_id t a WrongState h = h
covers_get rules m meant_id t a w h = cc

-- an answer without payload: the object's bytes complete it
hidden_get : (rules : RulesOf) (m : Meaning) (before id : Option (List ℕ)) (t : ℤ) → IsSound m → ((w : Why) → get_speaks rules m (meant id before) t None w ≡ false)
    → Step (λ V V' p. (a : GotOf) × SaysKey a × Gets rules V before t id a V' p) m m before
hidden_get rules m before id t sound silent =
    let about : Option (List ℕ) = meant id before in
    let f = finds rules m about t sound (silent NoSuchObject) (silent WrongState) in
    let r = sound.in_range.there f.1 f.2 f.3 f.4.stands f.4.secret in
    let k : Known = record { rule = rule_of f.2.card; bytes = r.0 } in
    let may : is_not (allowance rules act.Get t f.2.card) ≡ false = ap (is_excluded rules act.Get t) (sym (meant_is m about f.0 f.1 f.2 f.4.about_is f.4.named f.4.stands)) ∙ silent WrongState in
    still_step (λ V V' p. (a : GotOf) × SaysKey a × Gets rules V before t id a V' p) m before sound
    (λ c ch.
    let g : GotOf = record { object_type = None; id = None; shape = f.2.card.kind; block = record { format = Raw; material = c f.3.number; algorithm = None; length = None } } in
    let kind : not (same_type f.2.card.kind f.2.card.kind) ≡ false = ap not ((same_type-Decides f.2.card.kind f.2.card.kind).1 refl) in
    let other : shows_other g (Some f.2) ≡ false = ap (λ (b : Bool). (false || b) || false || false) kind in
    let same : shows_other g (object_meant m.objects about) ≡ false = ap (shows_other g) (meant_is m about f.0 f.1 f.2 f.4.about_is f.4.named f.4.stands) ∙ other in (
      g,
      (tt, record { material = (ch.suits f.3.number k r.1).admitted.small; algorithm = tt; length = tt }),
      links rules m before id t f.0 f.1 f.2 f.3 g f.4 may same (ap (is_other_id None) f.4.about_is) c refl,
    ))
    (λ V V' p x. (x.2.leaves, x.2.placeholder))

learns_at : (m : Meaning) (mat : Material) (b : List ℕ) → Learns m (taught_at m mat b) None (Some b)
learns_at m Gone b number bytes e = inl e
learns_at m (Secret s) b number bytes e =
    let k = known_at (slice_get (told m.secrets s.number b) number) bytes e in
    elim (told_cases m.secrets s.number b number k.0 k.1) [
      | inl q ↦ inl (ap (option_map (λ (y : Known). y.bytes)) q ∙ ap Some k.2)
      | inr q ↦ inr (inr (q ∙ k.2))
    ]

learns_taught : (m : Meaning) (o : Option Held) (b : List ℕ) → Learns m (taught m o b) None (Some b)
learns_taught m None b number bytes e = inl e
learns_taught m (Some h) b number bytes e = learns_at m h.material b number bytes e

learns_get : (m : Meaning) (about : Option (List ℕ)) (shown : Option GotOf) → Learns m (get_leaves m about shown) None (shows (option_map got shown))
learns_get m meant_id None number bytes e = inl e
learns_get m meant_id (Some a) number bytes e = learns_taught m (object_meant m.objects meant_id) a.block.material number bytes e

-- its test says what its reasons mean
from_decides : (o : Option (List ℕ)) (bytes : List ℕ) → Decides (differs_from o bytes) (Differs o bytes)
from_decides None bytes = differs_decides bytes_eq bytes_eq-Decides None bytes
from_decides (Some known) bytes = differs_decides bytes_eq bytes_eq-Decides (Some known) bytes

otherwise_at : (o : Option Known) (bytes : List ℕ) → Decides (differs o bytes) ((secret : Known) × (o ≡ Some secret) × Differs secret.bytes bytes)
otherwise_at None bytes = (λ h. let bad : ⊥ = cc in absurd bad, λ x. let e : None ≡ Some x.0 = x.1 in let bad : ⊥ = cc in absurd bad)
otherwise_at (Some k) bytes = (
  λ h. (k, refl, (from_decides k.bytes bytes).0 h),
  λ x.
      let e : Some k ≡ Some x.0 = x.1 in
      let is : x.0 ≡ k = cc in
      (from_decides k.bytes bytes).1 (subst (λ (s : Known). Differs s.bytes bytes) is x.2),
)

none_is : {A : Type 0} (o : Option A) → is_none o ≡ true → o ≡ None
none_is o h = (none_decides o).0 h

impossible_at : (o : Option Known) (bytes : List ℕ) → Decides (breaks o bytes) ((secret : Known) × (o ≡ Some secret) × (secret.bytes ≡ None) × (admits secret.rule bytes ≢ true))
impossible_at None bytes = (λ h. let bad : ⊥ = cc in absurd bad, λ x. let e : None ≡ Some x.0 = x.1 in let bad : ⊥ = cc in absurd bad)
impossible_at (Some k) bytes = (
  λ h.
      let w = and_parts (is_none k.bytes) (not (admits k.rule bytes)) h in
      (k, refl, none_is k.bytes w.0, λ e. true_not (admits k.rule bytes) e (not_true (admits k.rule bytes) w.1)),
  λ x.
      let e : Some k ≡ Some x.0 = x.1 in
      let is : k ≡ x.0 = cc in
      and_from (is_none k.bytes) (not (admits k.rule bytes)) (ap (λ (s : Known). is_none s.bytes) is ∙ ap is_none x.2)
      (ap not (ap (λ (s : Known). admits s.rule bytes) is ∙ false_if (admits x.0.rule bytes) x.3)),
)

other_decides : (a : GotOf) (h : Held) → Decides (shows_other a (Some h)) (IsOther a h.card)
other_decides a h =
    let type = differs_decides same_type same_type-Decides a.object_type h.card.kind in
    let shape = not_decides (same_type a.shape h.card.kind) (same_type-Decides a.shape h.card.kind) in
    let algorithm = clashes_decides (λ (x y : ℕ). x == y) Decides-eqb a.block.algorithm h.card.given.algorithm in
    let bits = clashes_decides int_eq Decides-int_eq a.block.length h.card.given.length in
    or_decides _ _ (or_decides _ _ (or_decides _ _ type shape) algorithm) bits

other_at : (a : GotOf) (o : Option Held) → Decides (shows_other a o) ((h : Held) × (o ≡ Some h) × IsOther a h.card)
other_at a None = (λ h. let bad : ⊥ = cc in absurd bad, λ x. let e : None ≡ Some x.0 = x.1 in let bad : ⊥ = cc in absurd bad)
other_at a (Some h) = (
  λ q. (h, refl, (other_decides a h).0 q),
  λ x.
      let e : Some h ≡ Some x.0 = x.1 in
      let is : x.0 ≡ h = cc in
      (other_decides a h).1 (subst (λ (k : Held). IsOther a k.card) is x.2),
)

get_decides : (rules : RulesOf) (m : Meaning) (meant_id : Option (List ℕ)) (t : ℤ) (shown : Option GotOf) (why : Why) → Decides (get_speaks rules m meant_id t shown why) (GetReason rules m meant_id t shown why)
get_decides rules m meant_id t None NoSuchObject = none_decides (object_meant m.objects meant_id)
get_decides rules m meant_id t None WrongState = excluded_decides rules m.objects meant_id t act.Get
get_decides rules m meant_id t None why = never_decides
get_decides rules m meant_id t (Some a) NoSuchObject = none_decides (object_meant m.objects meant_id)
get_decides rules m meant_id t (Some a) WrongState = excluded_decides rules m.objects meant_id t act.Get
get_decides rules m meant_id t (Some a) BytesDiffer = otherwise_at (secret_meant m meant_id) a.block.material
get_decides rules m meant_id t (Some a) LengthImpossible = impossible_at (secret_meant m meant_id) a.block.material
get_decides rules m meant_id t (Some a) AttributeDiffers = other_at a (object_meant m.objects meant_id)
get_decides rules m meant_id t (Some a) EchoDiffers = id_decides a.id meant_id
get_decides rules m meant_id t (Some a) why = never_decides

-- and the same over ledgers of which the same is known
get_same : (rules : RulesOf) (m n : Meaning) → KnowSame m n → (meant_id : Option (List ℕ)) (t : ℤ) (shown : Option GotOf) (why : Why) → get_speaks rules m meant_id t shown why ≡ get_speaks rules n meant_id t shown why
get_same rules m n same meant_id t shown NoSuchObject = none_same m.objects n.objects same.0 meant_id
get_same rules m n same meant_id t shown WrongState = excluded_same m.objects n.objects same.0 rules act.Get t meant_id
get_same rules m n same meant_id t (Some a) BytesDiffer = ap (λ (o : Option Known). differs o a.block.material) (same.1 meant_id)
get_same rules m n same meant_id t (Some a) LengthImpossible = ap (λ (o : Option Known). breaks o a.block.material) (same.1 meant_id)
get_same rules m n same meant_id t (Some a) AttributeDiffers =
    object_same m.objects n.objects same.0 (shows_other a) (λ h g e. λ i. shows_other a (Some (record { card = e i; material = Gone }))) meant_id
get_same rules m n same meant_id t (Some a) why = refl
get_same rules m n same meant_id t None why = refl

pub is_get : (id : Option (List ℕ)) → IsDeed (get_deed id) (get_judging id) AnswersGet SaysKey
is_get id = record {
  back = λ a. refl;
  each = elim [ got x ↦ inl (x, refl) | _ ↦ inr (refl, λ ts s. s) ];
  carries = λ x. (λ h. (h, tt), λ h. h.0);
  quiet = λ rules m before t shown. quiet_get rules m (meant id before) t shown;
  covers = λ rules m before t a w h. covers_get rules m (meant id before) t a w h;
  step = λ rules m before t a sound brought shown silent. get_step rules m before id t a sound shown silent;
  never = λ rules m before t a w h c ch V p x. get_never rules m before id t a w h c ch V p x;
  hidden = λ rules m before t may sound silent. hidden_get rules m before id t sound silent;
  learns = λ m before t shown. learns_get m (meant id before) shown;
  decides = λ rules m before t shown w. get_decides rules m (meant id before) t shown w;
  same = λ rules m n same before t shown w. get_same rules m n same (meant id before) t shown w;
}
