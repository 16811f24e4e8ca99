-- The ledger that a declaration opens: without entries, with one entry more, with all.
use Rattle.std.proofs.Common.{◌≡◌, ◌≢◌, ◌<◌, ◌≤◌, ◌⊎◌, inl, inr, ℕ, suc, ◌+◌, ℤ, Bool, true, false, cond, List, [], ◌∷◌, ◌++◌, map, length, take, get_or, is_none, Ok, bytes_eq, Contains, Option, Some, None, option_map, slice_get, refl, sym, ap, ◌∙◌, subst, arith, length-take}
use Rattle.std.specs.Prelude.{AllPairs}
use Rattle.std.specs.List.{AllZip, position_from}
use Rattle.std.proofs.lemmas.Bool.{false_from_ne_true}
use Rattle.std.proofs.lemmas.List.{get_or-take, take_all, take_more}
use Rattle.std.proofs.lemmas.List.Elements.{Contains-append_left, Contains-append_right}
use Rattle.std.proofs.lemmas.Option.{get_or_from_slice_get, slice_get_within}
use Rattle.std.proofs.lemmas.Slice.Eq.{bytes_eq-Decides}
use Rattle.kmipa_object.specs.Inventory.{Card, Thing, Admitted, IsInventory, live, place_of, rule_of}
use Rattle.kmipa_object.specs.declared.life.Material.TheVariants.{Gone, Secret}
use Rattle.kmipa_object.proofs.ListLemmas.{map-push}
use Rattle.kmipa_store.specs.Aside.{nothing_aside}
use Rattle.kmipa_store.specs.Ledger.{Held, Known, Meaning, LedgerState, bytes_at, cards_of}
use Rattle.kmipa_store.specs.Choices.{Choice, Chooses, Suits, inv, thing}
use Rattle.kmipa_store.proofs.ChoiceLemmas.{override, override_same, override_agrees, Chooses-none, Chooses-fewer, Chooses-last, Chooses-more}
use Rattle.kmipa_store.proofs.InventoryLemmas.{inv-append, inv-same}
use Rattle.kmipa_store.proofs.SoundLemmas.{sound_none, inventory_of}
use Rattle.kmipa_ops.proofs.AddLemmas.{destroyed_sound, own_sound}
use Rattle.kmipa_ops.proofs.AscendLemmas.{ascend_dead, ascend_own}
use Rattle.kmipa_record.specs.Entries.{EntryOf, entry_of, IsDeclarable}
use Rattle.kmipa_record.specs.declared.entry.Entry.{Entry}
use Rattle.kmipa_record.specs.Declarations.{DeclarationOf, AreDeclared}
use Rattle.kmipa_check.specs.Described.{IsDescribed, card_declared}
use Rattle.kmipa_check.specs.Opening.{Opened, Declares, held_declared, known_declared, with_declared, with_declared_at}
use Rattle.kmipa_check.specs.Verdicts.{AreKnown, by_declaration}
use Rattle.kmipa_check.proofs.PlaceLemmas.{mapped_at, mapped_from, pushed_at}
use Rattle.kmipa_check.proofs.DescribedLemmas.{zip_push, zip_last, inventory_before, last_bytes, dead_bytes, live_bytes, thing_is}
use Rattle.kmipa_check.proofs.DeclarableLemmas.{gone_undeclared, declared_suits}

-- nothing is declared
pub opened_none : Opened [] (record { objects = []; secrets = []; aside = nothing_aside })
opened_none = record {
  sound = sound_none;
  cards = refl;
  described = λ c h. tt;
  all = all_none;
  reported = λ number bytes known. absurd cc;
  ascends = record { ascend = λ p q g h s t less x y u v. absurd cc };
}
  where
    all_none : (things : List Thing) → IsInventory things → AllZip IsDescribed [] things → (c : Choice) × Chooses [] c × (things ≡ [])
    all_none [] i z = ((λ n. []), Chooses-none (λ n. []), refl)
    all_none (t ∷ things) i z = absurd z

-- an inventory that ends in the thing of one object more
inv_more : (c : Choice) (hs : List Held) (h : Held) (things before : List Thing) (last : Thing) → things ≡ before ++ last ∷ [] → before ≡ inv c hs → last ≡ thing c h → things ≡ inv c (hs ++ h ∷ [])
inv_more c hs h things before last is same own =
    is ∙ ap (λ (x : List Thing). x ++ last ∷ []) same ∙ ap (λ (t : Thing). inv c hs ++ t ∷ []) own ∙ sym (inv-append c hs h)

-- the object of an entry is added, whose identifier no object has
module _ (es : List EntryOf) (e : EntryOf) (m : Meaning) (o : Opened es m) (may : IsDeclarable e) (free : place_of e.id (cards_of m.objects) ≡ None) where
  cards_more : (h : Held) → h.card ≡ card_declared e → cards_of (m.objects ++ h ∷ []) ≡ map card_declared (es ++ e ∷ [])
  cards_more h is =
      map-push (λ (x : Held). x.card) m.objects h
      ∙ ap (λ (cs : List Card). cs ++ h.card ∷ []) o.cards
      ∙ ap (λ (c : Card). map card_declared es ++ c ∷ []) is
      ∙ sym (map-push card_declared es e)

  -- what was declared before it
  reported_before : (bytes : List ℕ) → (x : EntryOf) × Contains es x × (x.bytes ≡ Some bytes) → (x : EntryOf) × Contains (es ++ e ∷ []) x × (x.bytes ≡ Some bytes)
  reported_before bytes (x, has, is) = (x, Contains-append_left es (e ∷ []) x has, is)

  -- a destroyed one
  module _ (date : ℤ) (dead : e.attributes.destroy ≡ Some date) where
    abbrev buried : Held
    buried = held_declared e Gone

    buried_described : (c : Choice) → Chooses m.secrets c → AllZip IsDescribed (es ++ e ∷ []) (inv c (m.objects ++ buried ∷ []))
    buried_described c h =
        let P : List Thing → Type 0 = λ things. AllZip IsDescribed (es ++ e ∷ []) things in
        let own : IsDescribed e (thing c buried) = record { card = refl; bytes = λ b is. let clash : None ≡ Some b = sym (gone_undeclared e date may dead) ∙ is in cc } in
        subst P (sym (inv-append c m.objects buried)) (zip_push IsDescribed es (inv c m.objects) e (thing c buried) (o.described c h) own)

    buried_all : (things : List Thing) → IsInventory things → AllZip IsDescribed (es ++ e ∷ []) things → (c : Choice) × Chooses m.secrets c × (things ≡ inv c (m.objects ++ buried ∷ []))
    buried_all things i z =
        let p = zip_last IsDescribed es e things z in
        let j = subst (λ (x : List Thing). IsInventory x) p.2 i in
        let q = o.all p.0 (inventory_before p.0 p.1 j) p.3 in
        let alive : live p.1.card ≡ false = ap live p.4.card ∙ ap is_none dead in
        let gone = dead_bytes (live p.1.card) (rule_of p.1.card) p.1.bytes alive (last_bytes p.0 p.1 j) in
        (q.0, q.1, inv_more q.0 m.objects buried things p.0 p.1 p.2 q.2 (thing_is p.1 (card_declared e) None p.4.card gone))

    opened_buried : Opened (es ++ e ∷ []) (with_declared_at (Some date) m e)
    opened_buried = record {
      sound = destroyed_sound m buried o.sound free (ap is_none dead) refl;
      cards = cards_more buried refl;
      described = buried_described;
      all = buried_all;
      reported = λ number bytes known. reported_before bytes (o.reported number bytes known);
      ascends = ascend_dead m (card_declared e) o.ascends;
    }

  -- a live one
  module _ (alive : e.attributes.destroy ≡ None) where
    abbrev own : Held
    own = held_declared e (Secret (record { number = length m.secrets }))

    own_described : (c : Choice) → Chooses (m.secrets ++ known_declared e ∷ []) c → AllZip IsDescribed (es ++ e ∷ []) (inv c (m.objects ++ own ∷ []))
    own_described c h =
        let P : List Thing → Type 0 = λ things. AllZip IsDescribed (es ++ e ∷ []) things in
        let suits : Suits (known_declared e) (c (length m.secrets)) = Chooses-last m.secrets (known_declared e) c h in
        let is : IsDescribed e (thing c own) = record { card = refl; bytes = λ b known. ap Some (suits.known b known) } in
        subst P (sym (inv-append c m.objects own))
        (zip_push IsDescribed es (inv c m.objects) e (thing c own) (o.described c (Chooses-fewer m.secrets (known_declared e) c h)) is)

    own_all : (things : List Thing) → IsInventory things → AllZip IsDescribed (es ++ e ∷ []) things
        → (d : Choice) × Chooses (m.secrets ++ known_declared e ∷ []) d × (things ≡ inv d (m.objects ++ own ∷ []))
    own_all things i z =
        let p = zip_last IsDescribed es e things z in
        let j = subst (λ (x : List Thing). IsInventory x) p.2 i in
        let q = o.all p.0 (inventory_before p.0 p.1 j) p.3 in
        let there : live p.1.card ≡ true = ap live p.4.card ∙ ap is_none alive in
        let b = live_bytes (live p.1.card) (rule_of p.1.card) p.1.bytes there (last_bytes p.0 p.1 j) in
        let d : Choice = override q.0 (length m.secrets) b.0 in
        let suits : Suits (known_declared e) b.0 = record {
          admitted = subst (λ (c : Card). Admitted (rule_of c) b.0) p.4.card b.2;
          known = λ k known. let same : Some b.0 ≡ Some k = sym b.1 ∙ p.4.bytes k known in cc;
        } in
        let chosen : b.0 ≡ d (length m.secrets) = sym (override_same q.0 (length m.secrets) b.0) in
        let last : p.1 ≡ thing d own = thing_is p.1 (card_declared e) (Some (d (length m.secrets))) p.4.card (b.1 ∙ ap Some chosen) in
        let before : p.0 ≡ inv d m.objects = q.2 ∙ sym (inv-same m.objects m.secrets q.0 d o.sound.in_range (override_agrees q.0 (length m.secrets) b.0)) in
        (d, Chooses-more m.secrets (known_declared e) q.0 b.0 q.1 suits, inv_more d m.objects own things p.0 p.1 p.2 before last)

    own_reported : (number : ℕ) (bytes : List ℕ) → bytes_at (m.secrets ++ known_declared e ∷ []) number ≡ Some (Some bytes) → (x : EntryOf) × Contains (es ++ e ∷ []) x × (x.bytes ≡ Some bytes)
    own_reported number bytes known = by (slice_get (m.secrets ++ known_declared e ∷ []) number) refl known
      where
        at : (k : Known) → k.bytes ≡ Some bytes → (slice_get m.secrets number ≡ Some k) ⊎ ((number ≡ length m.secrets) × (known_declared e ≡ k))
            → (x : EntryOf) × Contains (es ++ e ∷ []) x × (x.bytes ≡ Some bytes)
        at k is (inl there) = reported_before bytes (o.reported number bytes (ap (option_map (λ (x : Known). x.bytes)) there ∙ ap Some is))
        at k is (inr p) = (e, Contains-append_right es (e ∷ []) e (0, first, refl), ap (λ (x : Known). x.bytes) p.1 ∙ is)
          where
            first : 0 < 1
            first = omega arith

        by : (v : Option Known) → slice_get (m.secrets ++ known_declared e ∷ []) number ≡ v → option_map (λ (k : Known). k.bytes) v ≡ Some (Some bytes)
            → (x : EntryOf) × Contains (es ++ e ∷ []) x × (x.bytes ≡ Some bytes)
        by None there is = absurd cc
        by (Some k) there is =
            let held : k.bytes ≡ Some bytes = cc in
            at k held (pushed_at m.secrets (known_declared e) number k there)

    opened_own : Opened (es ++ e ∷ []) (with_declared_at None m e)
    opened_own =
        let b = declared_suits e may alive in
        record {
          sound = own_sound m (card_declared e) e.bytes b.0 o.sound free (ap is_none alive) b.1;
          cards = cards_more own refl;
          described = own_described;
          all = own_all;
          reported = own_reported;
          ascends = ascend_own m (card_declared e) e.bytes o.sound o.ascends;
        }

  pub opened_more : Opened (es ++ e ∷ []) (with_declared m e)
  opened_more = by e.attributes.destroy refl
    where
      by : (destroy : Option ℤ) → e.attributes.destroy ≡ destroy → Opened (es ++ e ∷ []) (with_declared_at destroy m e)
      by (Some date) dead = opened_buried date dead
      by None alive = opened_own alive

-- no object has an identifier that none of the cards has
unheld : (id : List ℕ) (cs : List Card) (i : ℕ) → ((k : ℕ) (c : Card) → slice_get cs k ≡ Some c → id ≢ c.id) → position_from (λ (c : Card). bytes_eq id c.id) i cs ≡ None
unheld id [] i other = refl
unheld id (c ∷ cs) i other =
    let differs : bytes_eq id c.id ≡ false = false_from_ne_true (bytes_eq id c.id) (λ h. other 0 c refl ((bytes_eq-Decides id c.id).0 h)) in
    ap (λ (t : Bool). cond t (Some i) (position_from (λ (x : Card). bytes_eq id x.id) (i + 1) cs)) differs
    ∙ unheld id cs (i + 1) (λ k. other (suc k))

-- an entry that follows those of which the objects stand has an identifier that none of these has
next_free : (es : List EntryOf) (n : ℕ) (e : EntryOf) (m : Meaning) → AllPairs (λ (a b : EntryOf). a.id ≢ b.id) es → slice_get es n ≡ Some e → Opened (take n es) m
    → place_of e.id (cards_of m.objects) ≡ None
next_free es n e m distinct next o = ap (place_of e.id) o.cards ∙ unheld e.id (map card_declared (take n es)) 0 other
  where
    other : (k : ℕ) (c : Card) → slice_get (map card_declared (take n es)) k ≡ Some c → e.id ≢ c.id
    other k c at same =
        let p = mapped_from card_declared (take n es) k c at in
        let earlier : k < n = omega (arith, slice_get_within (take n es) k p.0 p.1, length-take n es) in
        let here : get_or es k e ≡ p.0 = sym (get_or-take n es k e earlier) ∙ get_or_from_slice_get (take n es) k p.0 e p.1 in
        let id : EntryOf → List ℕ = λ x. x.id in
        distinct k n e earlier (slice_get_within es n e next)
        (ap id here ∙ ap (λ (x : Card). x.id) p.2 ∙ sym same ∙ ap id (sym (get_or_from_slice_get es n e e next)))

-- what the next entry of a declaration of the program declares
pub entry_at : (entries list : List Entry) (n : ℕ) (x : Entry) → list ≡ entries → n < length list → x ≡ get_or list n x → slice_get (map entry_of entries) n ≡ Some (entry_of x)
entry_at entries list n x is below there = ap (λ (es : List Entry). slice_get (map entry_of es) n) (sym is) ∙ mapped_at entry_of list n x below there

-- the next entry of a declaration
module _ (declared : DeclarationOf) (may : AreDeclared declared) (n : ℕ) (e : EntryOf) (next : slice_get declared.entries n ≡ Some e) where
  pub next_declarable : IsDeclarable e
  next_declarable =
      let P : EntryOf → Type 0 = λ x. IsDeclarable x in
      subst P (get_or_from_slice_get declared.entries n e e next) (may.each n e (slice_get_within declared.entries n e next))

  pub next_unheld : (m : Meaning) → Opened (take n declared.entries) m → place_of e.id (cards_of m.objects) ≡ None
  next_unheld m o = next_free declared.entries n e m may.distinct next o

  pub opened_next : (s t : LedgerState) → Opened (take n declared.entries) s.now → Declares s e (Ok tt) t → Opened (take (n + 1) declared.entries) t.now
  opened_next s t o left =
      let P : List EntryOf → Type 0 = λ es. Opened es (with_declared s.now e) in
      let Q : LedgerState → Type 0 = λ x. Opened (take (n + 1) declared.entries) x.now in
      let more : take (n + 1) declared.entries ≡ take n declared.entries ++ e ∷ [] =
      take_more declared.entries n e (slice_get_within declared.entries n e next)
      ∙ ap (λ (x : EntryOf). take n declared.entries ++ x ∷ []) (get_or_from_slice_get declared.entries n e e next) in
      subst Q (sym left) (subst P (sym more) (opened_more (take n declared.entries) e s.now o next_declarable (next_unheld s.now o)))

-- what is set aside stays
pub declared_aside : (s : LedgerState) (e : EntryOf) (t : LedgerState) → Declares s e (Ok tt) t → t.now.aside ≡ s.now.aside
declared_aside s e t left = ap (λ (x : LedgerState). x.now.aside) left ∙ by e.attributes.destroy
  where
    by : (destroy : Option ℤ) → (with_declared_at destroy s.now e).aside ≡ s.now.aside
    by None = refl
    by (Some date) = refl

-- with all entries it is what is known before the first turn
pub opened_known : (declared : DeclarationOf) (n : ℕ) (m : Meaning) → length declared.entries ≤ n → Opened (take n declared.entries) m → AreKnown declared [] m
opened_known declared n m past p =
    let P : List EntryOf → Type 0 = λ es. Opened es m in
    let o = subst P (take_all n declared.entries past) p in
    record {
      sound = λ c h. (inv c m.objects, record { inventory = inventory_of m c o.sound h; objects = o.described c h }, refl);
      complete = λ start V described linked.
          let q = o.all start described.inventory described.objects in
          (q.0, q.1, linked ∙ q.2);
      reported = λ number bytes known. let e = o.reported number bytes known in by_declaration e.0 e.1 e.2;
      ascends = o.ascends;
    }
