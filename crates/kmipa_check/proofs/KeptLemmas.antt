-- A ledger that stands as the declaration of its objects opens it.
use Rattle.std.proofs.Common.{◌≡◌, ◌<◌, ◌≤◌, ℕ, zero, suc, ◌+◌, ℤ, Bool, true, false, List, [], ◌∷◌, ◌++◌, map, length, take, is_none, Option, Some, None, option_map, slice_get, refl, sym, ap, ◌∙◌, subst, arith, length-take, add-one}
use Rattle.std.specs.Prelude.{IfSome, is_some}
use Rattle.std.proofs.lemmas.List.{take_all}
use Rattle.std.proofs.lemmas.Option.{slice_get_within}
use Rattle.kmipa_object.specs.Inventory.{live, rule_of}
use Rattle.kmipa_object.specs.declared.life.Material.{Material}
use Rattle.kmipa_object.specs.declared.life.Material.TheVariants.{Gone, Secret}
use Rattle.kmipa_object.specs.declared.life.SecretNo.{SecretNo}
use Rattle.kmipa_object.proofs.ListLemmas.{map-push}
use Rattle.kmipa_store.specs.Aside.{nothing_aside}
use Rattle.kmipa_store.specs.Ledger.{Held, Known, Meaning, bytes_at}
use Rattle.kmipa_store.specs.Choices.{GoneIfDestroyed, IsSound}
use Rattle.kmipa_store.proofs.SoundLemmas.{sound_aside}
use Rattle.kmipa_record.specs.Entries.{EntryOf}
use Rattle.kmipa_record.specs.Declarations.{DeclarationOf, AreDeclared, declaration_of}
use Rattle.kmipa_check.specs.Left.{bytes_left, entry_left}
use Rattle.kmipa_check.specs.Opening.{IsNextNumber, Opened, StandsAsOpened, held_declared, known_declared, opened_by, opened_from, with_declared, with_declared_at}
use Rattle.kmipa_check.specs.SegmentReplays.{IsHeldAs}
use Rattle.kmipa_check.specs.Verdicts.{AreKnown}
use Rattle.kmipa_check.specs.declared.segment.Left.{Left}
use Rattle.kmipa_check.proofs.LeftLemmas.{dead_is, live_is, told_at}
use Rattle.kmipa_check.proofs.OpeningLemmas.{opened_known, opened_more, opened_none, next_declarable, next_unheld}
use Rattle.kmipa_check.proofs.PlaceLemmas.{some_at}
use Rattle.kmipa_check.proofs.RunLemmas.{take_next}

-- one entry more
opened_push : (m : Meaning) (es : List EntryOf) (e : EntryOf) → opened_from m (es ++ e ∷ []) ≡ with_declared (opened_from m es) e
opened_push m [] e = refl
opened_push m (x ∷ es) e = opened_push (with_declared m x) es e

-- ---- what a declaration opens

module _ (declared : DeclarationOf) (may : AreDeclared declared) where
  abbrev es : List EntryOf
  es = declared.entries

  opened_first : (n : ℕ) → n ≤ length es → Opened (take n es) (opened_by (take n es))
  opened_first zero h = opened_none
  opened_first (suc n) h =
      let at = some_at es n (omega (arith, h)) in
      let before = opened_first n (omega (arith, h)) in
      let more : take (suc n) es ≡ take n es ++ at.0 ∷ [] = take_next es n at.0 at.1 in
      let P : List EntryOf → Type 0 = λ l. Opened l (opened_by l) in
      let Q : Meaning → Type 0 = λ m. Opened (take n es ++ at.0 ∷ []) m in
      subst P (sym more) (subst Q (sym (opened_push (record { objects = []; secrets = []; aside = nothing_aside }) (take n es) at.0))
      (opened_more (take n es) at.0 (opened_by (take n es)) before (next_declarable declared may n at.0 at.1) (next_unheld declared may n at.0 at.1 (opened_by (take n es)) before)))

  opened_all : Opened es (opened_by es)
  opened_all = let P : List EntryOf → Type 0 = λ l. Opened l (opened_by l) in subst P (take_all (length es) es (omega arith)) (opened_first (length es) (omega arith))

  pub kept_known : (m : Meaning) → StandsAsOpened m es → AreKnown declared [] m
  kept_known m is =
      let P : Meaning → Type 0 = λ x. AreKnown declared [] x in
      let O : List EntryOf → Type 0 = λ l. Opened l (opened_by es) in
      let k = subst P (sym is) (opened_known declared (length es) (opened_by es) (omega arith) (subst O (sym (take_all (length es) es (omega arith))) opened_all)) in
      record { sound = k.sound; complete = k.complete; reported = k.reported; ascends = k.ascends }

  pub kept_sound : (m : Meaning) → StandsAsOpened m es → IsSound m
  kept_sound m is =
      let P : Meaning → Type 0 = λ x. IsSound x in
      sound_aside (record { objects = m.objects; secrets = m.secrets; aside = nothing_aside }) m.aside (subst P (sym is) opened_all.sound)

-- ---- a ledger, object by object

-- the entries of the first objects open these and their secrets
abbrev pub OpensFirst : Meaning → ℕ → ℕ → Type 0
OpensFirst m place next = opened_by (map (entry_left m.secrets) (take place m.objects)) ≡ record { objects = take place m.objects; secrets = take next m.secrets; aside = nothing_aside }

module _ (m : Meaning) (s : IsSound m) (place next : ℕ) (h : Held) (at : slice_get m.objects place ≡ Some h) (o : OpensFirst m place next) where
  abbrev e : EntryOf
  e = entry_left m.secrets h

  abbrev before : Meaning
  before = record { objects = take place m.objects; secrets = take next m.secrets; aside = nothing_aside }

  objects_more : take (place + 1) m.objects ≡ take place m.objects ++ h ∷ []
  objects_more = ap (λ (k : ℕ). take k m.objects) (add-one place) ∙ take_next m.objects place h at

  opened_with : opened_by (map (entry_left m.secrets) (take (place + 1) m.objects)) ≡ with_declared before e
  opened_with =
      ap (λ (l : List Held). opened_by (map (entry_left m.secrets) l)) objects_more
      ∙ ap (λ (l : List EntryOf). opened_by l) (map-push (entry_left m.secrets) (take place m.objects) h)
      ∙ opened_push (record { objects = []; secrets = []; aside = nothing_aside }) (map (entry_left m.secrets) (take place m.objects)) e
      ∙ ap (λ (x : Meaning). with_declared x e) o

  -- a destroyed one
  pub opens_gone : h.material ≡ Gone → OpensFirst m (place + 1) next
  opens_gone gone =
      let G : Material → Type 0 = λ x. GoneIfDestroyed (live h.card) x in
      let dead : live h.card ≡ false = dead_is (live h.card) (subst G gone (s.gone place h at)) in
      let same : held_declared e Gone ≡ h = ap (λ (x : Material). record { card = h.card; material = x }) (sym gone) in
      opened_with ∙ by h.card.dates.destroy refl dead ∙ ap (λ (x : Held). record { objects = take place m.objects ++ x ∷ []; secrets = take next m.secrets; aside = nothing_aside }) same
      ∙ ap (λ (l : List Held). record { objects = l; secrets = take next m.secrets; aside = nothing_aside }) (sym objects_more)
    where
      by : (destroy : Option ℤ) → h.card.dates.destroy ≡ destroy → is_none h.card.dates.destroy ≡ false
          → with_declared before e ≡ record { objects = take place m.objects ++ held_declared e Gone ∷ []; secrets = take next m.secrets; aside = nothing_aside }
      by (Some date) is dead = ap (λ (d : Option ℤ). with_declared_at d before e) is
      by None is dead = absurd cc

  -- a live one, whose secret is the next
  pub opens_own : (number : SecretNo) → h.material ≡ Secret number → number.number ≡ next → OpensFirst m (place + 1) (next + 1)
  opens_own number own is =
      let G : Material → Type 0 = λ x. GoneIfDestroyed (live h.card) x in
      let alive : live h.card ≡ true = live_is (live h.card) number (subst G own (s.gone place h at)) in
      let there = s.in_range.there place h number at own in
      let here : slice_get m.secrets next ≡ Some (record { rule = rule_of h.card; bytes = there.0 }) = ap (λ (n : ℕ). slice_get m.secrets n) (sym is) ∙ there.1 in
      let within : next < length m.secrets = slice_get_within m.secrets next _ here in
      let many : length (take next m.secrets) ≡ next = omega (arith, within, length-take next m.secrets) in
      let known : e.bytes ≡ there.0 =
      ap (bytes_left m.secrets) own ∙ told_at m.secrets number.number (record { rule = rule_of h.card; bytes = there.0 }) there.1 in
      let secret : known_declared e ≡ record { rule = rule_of h.card; bytes = there.0 } = ap (λ (b : Option (List ℕ)). record { rule = rule_of h.card; bytes = b }) known in
      let last : Secret (record { number = length (take next m.secrets) }) ≡ h.material = ap (λ (n : ℕ). Secret (record { number = n })) (many ∙ sym is) ∙ sym own in
      let held : held_declared e (Secret (record { number = length (take next m.secrets) })) ≡ h = ap (λ (x : Material). record { card = h.card; material = x }) last in
      let secrets_more : take (next + 1) m.secrets ≡ take next m.secrets ++ known_declared e ∷ [] =
      ap (λ (k : ℕ). take k m.secrets) (add-one next) ∙ take_next m.secrets next _ here ∙ ap (λ (k : Known). take next m.secrets ++ k ∷ []) (sym secret) in
      opened_with ∙ by h.card.dates.destroy refl alive
      ∙ ap (λ (x : Held). record { objects = take place m.objects ++ x ∷ []; secrets = take next m.secrets ++ known_declared e ∷ []; aside = nothing_aside }) held
      ∙ ap (λ (l : List Held). record { objects = l; secrets = take next m.secrets ++ known_declared e ∷ []; aside = nothing_aside }) (sym objects_more)
      ∙ ap (λ (l : List Known). record { objects = take (place + 1) m.objects; secrets = l; aside = nothing_aside }) (sym secrets_more)
    where
      by : (destroy : Option ℤ) → h.card.dates.destroy ≡ destroy → is_none h.card.dates.destroy ≡ true
          → with_declared before e
          ≡ record {
            objects = take place m.objects ++ held_declared e (Secret (record { number = length (take next m.secrets) })) ∷ [];
            secrets = take next m.secrets ++ known_declared e ∷ [];
            aside = nothing_aside;
          }
      by (Some date) is alive = absurd cc
      by None is alive = ap (λ (d : Option ℤ). with_declared_at d before e) is

-- one object more
pub opens_more : (m : Meaning) → IsSound m → (place next more : ℕ) (h : Held) (material : Material) → slice_get m.objects place ≡ Some h → OpensFirst m place next → h.material ≡ material
    → IsNextNumber material next more → OpensFirst m (place + 1) more
opens_more m s place next more h Gone at o is n = let P : ℕ → Type 0 = λ k. OpensFirst m (place + 1) k in subst P (sym n) (opens_gone m s place next h at o is)
opens_more m s place next more h (Secret number) at o is n =
    let P : ℕ → Type 0 = λ k. OpensFirst m (place + 1) k in
    subst P (sym n.1) (opens_own m s place next h at o number is n.0)

-- with all objects
pub opens_all : (m : Meaning) (place next : ℕ) → length m.objects ≤ place → OpensFirst m place next
    → opened_by (map (entry_left m.secrets) m.objects) ≡ record { objects = m.objects; secrets = take next m.secrets; aside = nothing_aside }
opens_all m place next past o =
    let all = take_all place m.objects past in
    ap (λ (l : List Held). opened_by (map (entry_left m.secrets) l)) (sym all) ∙ o ∙ ap (λ (l : List Held). record { objects = l; secrets = take next m.secrets; aside = nothing_aside }) all

-- and all secrets
pub opens_whole : (m : Meaning) (own all : ℕ) → opened_by (map (entry_left m.secrets) m.objects) ≡ record { objects = m.objects; secrets = take own m.secrets; aside = nothing_aside } → all ≡ length m.secrets → own ≡ all
    → StandsAsOpened m (map (entry_left m.secrets) m.objects)
opens_whole m own all opened many same =
    let whole : take own m.secrets ≡ m.secrets = take_all own m.secrets (omega (arith, many, same)) in
    sym (opened ∙ ap (λ (l : List Known). record { objects = m.objects; secrets = l; aside = nothing_aside }) whole)

-- ---- where something is left

-- the entries of what is left are those of the ledger, if anything is
abbrev pub IsHeldFor : Option Left → Meaning → Type 0
IsHeldFor left m = IfSome left (λ l. IsHeldAs (declaration_of l.declaration) m)

pub sound_behind : (left : Option Left) (m : Meaning) → is_some left ≡ true → IsHeldFor left m → IsSound m
sound_behind (Some left) m some h = h.sound
sound_behind None m some h = absurd cc

-- the ledger stands as what is left opens it
pub stands_left : (left : Option Left) (m : Meaning) → IsHeldFor left m → StandsAsOpened m (map (entry_left m.secrets) m.objects)
    → IfSome left (λ l. StandsAsOpened m (declaration_of l.declaration).entries)
stands_left (Some left) m h opened = opened ∙ ap (λ (l : List EntryOf). opened_by l) (sym h.entries)
stands_left None m h opened = tt
