-- Records that are put after others.
use Rattle.std.proofs.Common.{◌≡◌, ◌≢◌, ◌<◌, ◌||◌, ◌⊎◌, ℕ, zero, suc, List, [], ◌∷◌, ◌++◌, length, map, get_or, slice_get, Option, Some, None, Bool, true, false, not, cond, refl, sym, ap, subst, ◌∙◌, inl, inr, bytes_eq, string_bytes, String, Result, Ok, Err, arith}
use Rattle.std.specs.Global.{Global}
use Rattle.std.specs.BTreeMap.{BTreeMap, get, Updates, is_at}
use Rattle.std.specs.BTreeSet.{BTreeSet, contains_text}
use Rattle.std.specs.Ordering.{nat_cmp, is_eq}
use Rattle.std.specs.declared.cmp.Ordering.{Ordering}
use Rattle.std.specs.declared.cmp.Ordering.TheVariants.{Less, Equal, Greater}
use Rattle.std.proofs.lemmas.Bool.{cases_eq}
use Rattle.std.proofs.lemmas.Cmp.{ranked}
use Rattle.std.proofs.lemmas.Option.{slice_get-get_or, slice_get_cases}
use Rattle.std.specs.List.{list_any}
use Rattle.std.specs.Prelude.{All, AllPairs, Any, IfOk, MatchResult}
use Rattle.std.proofs.lemmas.Bool.Decides.{same_from_decides, Decides-like}
use Rattle.std.proofs.Math.Seq.{get_or-append_seam}
use Rattle.std.proofs.lemmas.List.{get_or_append_left, length-append, length-map, map-append}
use Rattle.std.proofs.lemmas.List.Elements.{All-push}
use Rattle.std.proofs.lemmas.List.Folds.{Any-from_list_any, list_any_at, list_any-append}
use Rattle.std.proofs.lemmas.List.Quantifiers.{all_pairs_push}
use Rattle.std.proofs.lemmas.Slice.Eq.{bytes_eq-Decides}
use Rattle.kmipa_object.specs.declared.allow.AllowLine.{AllowLine}
use Rattle.kmipa_msgs.specs.Messages.{RowOf, row_of}
use Rattle.kmipa_record.specs.declared.own_attribute.OwnAttribute.{OwnAttribute}
use Rattle.kmipa_record.specs.DeclarationReading.{entries_in, asides_in, declared_by, AreKept, AreOthers, IsFound, Keeps, Takes, has_id, with_others}
use Rattle.kmipa_record.specs.DeclarationRecords.{RecordOf, entry, aside}
use Rattle.kmipa_record.specs.Declarations.{DeclarationOf, IsNewIdentifier, MayFollow, nothing_declared, with_record}
use Rattle.kmipa_record.specs.Hashes.{identifier_hash}
use Rattle.kmipa_record.specs.Entries.{EntryOf, entry_of}
use Rattle.kmipa_record.specs.Taking.{Refuses}
use Rattle.kmipa_record.specs.declared.settings.Settings.{Settings}
use Rattle.kmipa_record.specs.declared.entry.Entry.{Entry}
use Rattle.kmipa_record.specs.declared.fault.RecordKind.{RecordKind}
use Rattle.kmipa_record.specs.declared.records.Records.{Records}

pub same_bytes : (xs ys : List ℕ) → bytes_eq xs ys ≡ bytes_eq ys xs
same_bytes xs ys = same_from_decides (bytes_eq xs ys) (bytes_eq ys xs) (bytes_eq-Decides xs ys) (Decides-like (bytes_eq ys xs) sym sym (bytes_eq-Decides ys xs))

pub not_false : (b : Bool) → false ≡ not b → b ≡ true
not_false true e = refl
not_false false e = absurd cc

pub not_true : (b : Bool) → true ≡ not b → b ≡ false
not_true true e = absurd cc
not_true false e = refl

-- ---- identifiers by their hashes

not_at : (hash other : ℕ) → other ≢ hash → is_at (nat_cmp hash) other ≡ false
not_at hash other ne = by (nat_cmp hash other) refl
  where
    by : (o : Ordering) → nat_cmp hash other ≡ o → is_eq o ≡ false
    by Less e = refl
    by Equal e = absurd (ne (sym (ranked hash other Equal (sym e))))
    by Greater e = refl

module _ {X : Type 0} where
  get-append_cases : (xs : List X) (y : X) (k : ℕ) (x : X) → slice_get (xs ++ y ∷ []) k ≡ Some x → (slice_get xs k ≡ Some x) ⊎ ((k ≡ length xs) × (x ≡ y))
  get-append_cases [] y zero x e = inr (refl, cc)
  get-append_cases [] y (suc k) x e = inl e
  get-append_cases (z ∷ xs) y zero x e = inl e
  get-append_cases (z ∷ xs) y (suc k) x e = elim (get-append_cases xs y k x e) [ inl a ↦ inl a | inr b ↦ inr (ap suc b.0, b.1) ]

or_left : (a b : Bool) → a ≡ true → (a || b) ≡ true
or_left true b e = refl
or_left false b e = absurd cc

or_right : (a b : Bool) → b ≡ true → (a || b) ≡ true
or_right true b e = refl
or_right false b e = e

or_cases : (a b : Bool) → (a || b) ≡ true → (a ≡ true) ⊎ (b ≡ true)
or_cases true b e = inl refl
or_cases false b e = inr e

same_id : (xs ys : List ℕ) → xs ≡ ys → bytes_eq xs ys ≡ true
same_id xs ys e = (bytes_eq-Decides xs ys).1 e

stays_among : (old new : BTreeSet (String Global)) (entries : List EntryOf) (earlier : Option ℕ) → AreOthers old entries earlier new → (id : List ℕ) → contains_text old id ≡ true → contains_text new id ≡ true
stays_among old new entries None o id t = o id ∙ t
stays_among old new entries (Some place) o id t = o id ∙ or_left (contains_text old id) (has_id (slice_get entries place) id) t

joins : (old new : BTreeSet (String Global)) (entries : List EntryOf) (earlier : Option ℕ) (place : ℕ) (e : EntryOf) → AreOthers old entries earlier new → earlier ≡ Some place → slice_get entries place ≡ Some e
    → contains_text new e.id ≡ true
joins old new entries earlier place e o is at =
    let others : AreOthers old entries (Some place) new = subst (λ (x : Option ℕ). AreOthers old entries x new) is o in
    others e.id ∙ or_right (contains_text old e.id) (has_id (slice_get entries place) e.id) (ap (λ (x : Option EntryOf). has_id x e.id) at ∙ same_id e.id e.id refl)

-- the identifier of an entry joins the others
get-map : {X Y : Type 0} (f : X → Y) (xs : List X) (k : ℕ) (x : X) → slice_get xs k ≡ Some x → slice_get (map f xs) k ≡ Some (f x)
get-map f [] k x e = cc
get-map {X} f (z ∷ xs) zero x e = let q : z ≡ x = cc in ap (λ (y : X). Some (f y)) q
get-map f (z ∷ xs) (suc k) x e = get-map f xs k x e

or_swap : (a b : Bool) → cond a true b ≡ (b || a)
or_swap true true = refl
or_swap true false = refl
or_swap false true = refl
or_swap false false = refl

pub joined : (old new : BTreeSet (String Global)) (entries : List Entry) (earlier : Option ℕ) (place : ℕ) (e : Entry) (id : List ℕ) → earlier ≡ Some place → slice_get entries place ≡ Some e → id ≡ string_bytes e.id
    → ((cs : List ℕ) → contains_text new cs ≡ cond (bytes_eq id cs) true (contains_text old cs)) → AreOthers old (map entry_of entries) earlier new
joined old new entries earlier place e id some at is updates =
    let by : AreOthers old (map entry_of entries) (Some place) new = λ cs.
    updates cs
    ∙ or_swap (bytes_eq id cs) (contains_text old cs)
    ∙ ap (λ (bs : List ℕ). contains_text old cs || bytes_eq bs cs) is
    ∙ ap (λ (x : Option EntryOf). contains_text old cs || has_id x cs) (sym (get-map entry_of entries place e at)) in
    subst (λ (x : Option ℕ). AreOthers old (map entry_of entries) x new) (sym some) by

-- an entry whose hash is looked for is among the others then
among_others : (old : Records) (others : BTreeSet (String Global)) (earlier : Option ℕ) (hash place : ℕ) (e : EntryOf) → AreKept old → AreOthers old.others (entries_in old) earlier others
    → earlier ≡ get nat_cmp old.places hash → identifier_hash e.id ≡ hash → slice_get (entries_in old) place ≡ Some e → contains_text others e.id ≡ true
among_others old others earlier hash place e kept o is same at = elim (kept.found place e at) [
  | inl last ↦ joins old.others others (entries_in old) earlier place e o (is ∙ ap (get nat_cmp old.places) (sym same) ∙ last) at
  | inr among ↦ stays_among old.others others (entries_in old) earlier o e.id among
]

-- each of the others is that of an entry
id_of : (entries : List EntryOf) (place : ℕ) (id : List ℕ) → has_id (slice_get entries place) id ≡ true → Any (λ (e : EntryOf). e.id ≡ id) entries
id_of entries place id t = elim (slice_get_cases entries place).1 [
  | inl there ↦
      let e = there.0 in
      let h : bytes_eq e.id id ≡ true = ap (λ (x : Option EntryOf). has_id x id) (sym there.2) ∙ t in
      (place, e, there.1, there.3, (bytes_eq-Decides e.id id).0 h)
  | inr past ↦
      let h : false ≡ true = ap (λ (x : Option EntryOf). has_id x id) (sym past.1) ∙ t in
      absurd cc
]

-- each of the others is that of an entry, or set aside
abbrev IsMet : List EntryOf → List (List ℕ) → List ℕ → Type 0
IsMet entries asides id = Any (λ (e : EntryOf). e.id ≡ id) entries ⊎ Any (λ (other : List ℕ). other ≡ id) asides

pub met_still : (old : Records) (others : BTreeSet (String Global)) (earlier : Option ℕ) → AreKept old → AreOthers old.others (entries_in old) earlier others → (id : List ℕ) → contains_text others id ≡ true
    → IsMet (entries_in old) (asides_in old) id
met_still old others None kept o id t = kept.met id (sym (o id) ∙ t)
met_still old others (Some place) kept o id t = elim (or_cases (contains_text old.others id) (has_id (slice_get (entries_in old) place) id) (sym (o id) ∙ t)) [
  | inl before ↦ kept.met id before
  | inr here ↦ inl (id_of (entries_in old) place id here)
]

module _ {X : Type 0} (P : X → Type 0) where
  any_ahead : (xs : List X) (y : X) → Any P xs → Any P (xs ++ y ∷ [])
  any_ahead xs y any = (any.0, any.1, omega (arith, any.2, length-append xs (y ∷ [])), get_or_append_left xs (y ∷ []) any.1 any.0 any.2 ∙ any.3, any.4)

  any_last : (xs : List X) (y : X) → P y → Any P (xs ++ y ∷ [])
  any_last xs y h = (length xs, y, omega (arith, length-append xs (y ∷ [])), get_or-append_seam xs y [] y, h)

  pub none_such : (xs : List X) → Any P xs → All (λ (x : X). ¬ (P x)) xs → ⊥
  none_such xs any all = all any.0 any.1 any.2 (subst P (sym any.3) any.4)

-- no records
pub kept_none : (records : Records) → records.entries.items ≡ [] → records.asides.items ≡ [] → records.others.keys ≡ [] → AreKept records
kept_none records none unset others =
    let empty : entries_in records ≡ [] = ap (map entry_of) none in
    let no_asides : asides_in records ≡ [] = ap (map string_bytes) unset in
    record {
      found = λ place e at. let clash : None ≡ Some e = sym (ap (λ (l : List EntryOf). slice_get l place) empty) ∙ at in absurd cc;
      apart = subst (All (λ (id : List ℕ). contains_text records.others id ≡ true)) (sym no_asides) (λ k d lt. absurd (omega (arith, lt)));
      met = λ id t. let clash : false ≡ true = sym (ap (λ (ks : List (String Global)). contains_text (record { keys = ks }) id) others) ∙ t in absurd cc;
    }

-- ---- one more entry, and one more identifier that is set aside

-- the identifier is among none of the others, with those that joined: so it is new
module _ (old : Records) (earlier : Option ℕ) (others : BTreeSet (String Global)) (hash : ℕ) (id : List ℕ) (kept : AreKept old) (o : AreOthers old.others (entries_in old) earlier others)
    (is : earlier ≡ get nat_cmp old.places hash) (hashed : hash ≡ identifier_hash id) where
  asides_stay : All (λ (x : List ℕ). contains_text others x ≡ true) (asides_in old)
  asides_stay = λ k d lt. stays_among old.others others (entries_in old) earlier o _ (kept.apart k d lt)

  pub is_new : (s : Settings) → contains_text others id ≡ false → IsNewIdentifier (declared_by s old) id
  is_new s fresh = (unlike, apart)
    where
      unlike : (k : ℕ) (d : EntryOf) → k < length (entries_in old) → (get_or (entries_in old) k d).id ≢ id
      unlike k d lt same =
          let x = get_or (entries_in old) k d in
          let among = among_others old others earlier hash k x kept o is (ap identifier_hash same ∙ sym hashed) (slice_get-get_or (entries_in old) k d lt) in
          let clash : false ≡ true = sym fresh ∙ ap (contains_text others) (sym same) ∙ among in
          absurd cc

      apart : (k : ℕ) (d : List ℕ) → k < length (asides_in old) → get_or (asides_in old) k d ≢ id
      apart k d lt same =
          let clash : false ≡ true = sym fresh ∙ ap (contains_text others) (sym same) ∙ asides_stay k d lt in
          absurd cc

  pub is_used : (s : Settings) → contains_text others id ≡ true → ¬ (IsNewIdentifier (declared_by s old) id)
  is_used s known new = elim (met_still old others earlier kept o id known) [
    | inl any ↦ none_such (λ (e : EntryOf). e.id ≡ id) (entries_in old) any new.0
    | inr any ↦ none_such (λ (x : List ℕ). x ≡ id) (asides_in old) any new.1
  ]

-- an entry more, whose identifier is not among the others
pub kept_more : (old new : Records) (e : Entry) (earlier : Option ℕ) (hash count : ℕ) (placed : BTreeMap ℕ ℕ) (others : BTreeSet (String Global)) → AreKept old
    → AreOthers old.others (entries_in old) earlier others → earlier ≡ get nat_cmp old.places hash → hash ≡ identifier_hash (string_bytes e.id)
    → Updates nat_cmp old.places placed hash (Some count) → count ≡ length old.entries.items
    → new.others ≡ others → new.places ≡ placed → new.entries.items ≡ old.entries.items ++ e ∷ [] → asides_in new ≡ asides_in old → AreKept new
kept_more old new e earlier hash count placed others kept o is hashed updates counted same_others same_places entries asides =
    let grown : entries_in new ≡ entries_in old ++ entry_of e ∷ [] = ap (map entry_of) entries ∙ map-append entry_of old.entries.items (e ∷ []) in
    record {
      found = λ place x at. finds place x (ap (λ (l : List EntryOf). slice_get l place) (sym grown) ∙ at);
      apart = subst (All (λ (id : List ℕ). contains_text new.others id ≡ true)) (sym asides) (λ k d lt. in_others _ (stays_among old.others others (entries_in old) earlier o _ (kept.apart k d lt)));
      met = λ id t.
          elim (met_still old others earlier kept o id (ap (λ (s : BTreeSet (String Global)). contains_text s id) (sym same_others) ∙ t)) [
            | inl any ↦ inl (subst (Any (λ (x : EntryOf). x.id ≡ id)) (sym grown) (any_ahead (λ (x : EntryOf). x.id ≡ id) (entries_in old) (entry_of e) any))
            | inr any ↦ inr (subst (Any (λ (x : List ℕ). x ≡ id)) (sym asides) any)
          ];
    }
  where
    at_hash : (k : ℕ) → get nat_cmp new.places k ≡ get nat_cmp placed k
    at_hash k = ap (λ (m : BTreeMap ℕ ℕ). get nat_cmp m k) same_places

    in_others : (id : List ℕ) → contains_text others id ≡ true → contains_text new.others id ≡ true
    in_others id t = ap (λ (s : BTreeSet (String Global)). contains_text s id) same_others ∙ t

    finds : (place : ℕ) (x : EntryOf) → slice_get (entries_in old ++ entry_of e ∷ []) place ≡ Some x → IsFound new place x
    finds place x at = elim (get-append_cases (entries_in old) (entry_of e) place x at) [
      | inl before ↦ elim (cases_eq (identifier_hash x.id) hash) [
        | inl same ↦ inr (in_others x.id (among_others old others earlier hash place x kept o is same before))
        | inr other ↦ elim (kept.found place x before) [
          | inl last ↦ inl (at_hash (identifier_hash x.id) ∙ updates.2 (identifier_hash x.id) (not_at hash (identifier_hash x.id) other) ∙ last)
          | inr among ↦ inr (in_others x.id (stays_among old.others others (entries_in old) earlier o x.id among))
        ]
      ]
      | inr last ↦
          inl (ap (λ (y : EntryOf). get nat_cmp new.places (identifier_hash y.id)) last.1
          ∙ ap (get nat_cmp new.places) (sym hashed)
          ∙ at_hash hash
          ∙ updates.1
          ∙ ap Some (counted ∙ sym (length-map old.entries.items entry_of) ∙ sym last.0))
    ]

-- an identifier more that is set aside
pub kept_aside : (old new : Records) (id : String Global) (earlier : Option ℕ) (others : BTreeSet (String Global)) → AreKept old → AreOthers old.others (entries_in old) earlier others
    → ((cs : List ℕ) → contains_text new.others cs ≡ cond (bytes_eq (string_bytes id) cs) true (contains_text others cs))
    → new.places ≡ old.places → entries_in new ≡ entries_in old → new.asides.items ≡ old.asides.items ++ id ∷ [] → AreKept new
kept_aside old new id earlier others kept o joined places entries asides =
    let grown : asides_in new ≡ asides_in old ++ string_bytes id ∷ [] = ap (map string_bytes) asides ∙ map-append string_bytes old.asides.items (id ∷ []) in
    record {
      found = λ place x at. finds place x (ap (λ (l : List EntryOf). slice_get l place) (sym entries) ∙ at);
      apart = subst (All (λ (x : List ℕ). contains_text new.others x ≡ true)) (sym grown)
          (All-push (λ (x : List ℕ). contains_text new.others x ≡ true) (asides_in old) (string_bytes id) (λ k d lt. stays _ (stays_among old.others others (entries_in old) earlier o _ (kept.apart k d lt)))
          (joined (string_bytes id) ∙ ap (λ (b : Bool). cond b true (contains_text others (string_bytes id))) (same_id (string_bytes id) (string_bytes id) refl)));
      met = λ x t. meets x (met_with x t) grown;
    }
  where
    stays : (x : List ℕ) → contains_text others x ≡ true → contains_text new.others x ≡ true
    stays x t = joined x ∙ ap (cond (bytes_eq (string_bytes id) x) true) t ∙ either (bytes_eq (string_bytes id) x)
      where
        either : (b : Bool) → cond b true true ≡ true
        either true = refl
        either false = refl

    finds : (place : ℕ) (x : EntryOf) → slice_get (entries_in old) place ≡ Some x → IsFound new place x
    finds place x at = elim (kept.found place x at) [
      | inl last ↦ inl (ap (λ (m : BTreeMap ℕ ℕ). get nat_cmp m (identifier_hash x.id)) places ∙ last)
      | inr among ↦ inr (stays x.id (stays_among old.others others (entries_in old) earlier o x.id among))
    ]

    met_by : (x : List ℕ) (b : Bool) → bytes_eq (string_bytes id) x ≡ b → cond b true (contains_text others x) ≡ true → IsMet (entries_in old) (asides_in old ++ string_bytes id ∷ []) x
    met_by x true e t = inr (any_last (λ (y : List ℕ). y ≡ x) (asides_in old) (string_bytes id) ((bytes_eq-Decides (string_bytes id) x).0 e))
    met_by x false e t = elim (met_still old others earlier kept o x t) [
      | inl any ↦ inl any
      | inr any ↦ inr (any_ahead (λ (y : List ℕ). y ≡ x) (asides_in old) (string_bytes id) any)
    ]

    met_with : (x : List ℕ) → contains_text new.others x ≡ true → IsMet (entries_in old) (asides_in old ++ string_bytes id ∷ []) x
    met_with x t = met_by x (bytes_eq (string_bytes id) x) refl (sym (joined x) ∙ t)

    meets : (x : List ℕ) → IsMet (entries_in old) (asides_in old ++ string_bytes id ∷ []) x → asides_in new ≡ asides_in old ++ string_bytes id ∷ [] → IsMet (entries_in new) (asides_in new) x
    meets x m grown = elim m [
      | inl any ↦ inl (subst (Any (λ (e : EntryOf). e.id ≡ x)) (sym entries) any)
      | inr any ↦ inr (subst (Any (λ (y : List ℕ). y ≡ x)) (sym grown) any)
    ]

-- what is declared with an entry more, and with an identifier more that is set aside
abbrev declared_of : Settings → List RowOf → List AllowLine → List OwnAttribute → List EntryOf → List (List ℕ) → DeclarationOf
declared_of s rows lines attributes entries asides = record { settings = s; rows = rows; allow_lines = lines; own_attributes = attributes; entries = entries; asides = asides }

pub same_declared : (s : Settings) (r q : List RowOf) (l m : List AllowLine) (a b : List OwnAttribute) (e f : List EntryOf) (x y : List (List ℕ)) → r ≡ q → l ≡ m → a ≡ b → e ≡ f → x ≡ y
    → declared_of s r l a e x ≡ declared_of s q m b f y
same_declared s r q l m a b e f x y p1 p2 p3 p4 p5 =
    ap (λ (z : List RowOf). declared_of s z l a e x) p1 ∙ ap (λ (z : List AllowLine). declared_of s q z a e x) p2 ∙ ap (λ (z : List OwnAttribute). declared_of s q m z e x) p3
    ∙ ap (λ (z : List EntryOf). declared_of s q m b z x) p4 ∙ ap (declared_of s q m b f) p5

pub entry_declared : (old new : Records) (e : Entry) (others : BTreeSet (String Global)) (placed moved : Records) → moved ≡ with_others placed others → placed.rows ≡ old.rows → placed.allow_lines ≡ old.allow_lines
    → placed.own_attributes ≡ old.own_attributes → placed.asides ≡ old.asides → new.rows ≡ moved.rows → new.allow_lines ≡ moved.allow_lines → new.own_attributes ≡ moved.own_attributes → new.asides ≡ moved.asides
    → new.entries.items ≡ old.entries.items ++ e ∷ [] → (s : Settings) → declared_by s new ≡ with_record (declared_by s old) (entry (entry_of e))
entry_declared old new e others placed moved same r l a x nr nl na nx entries s =
    same_declared s _ _ _ _ _ _ _ _ _ _
    (ap (λ (v : _). map row_of v.items) (nr ∙ ap (λ (m : Records). m.rows) same ∙ r))
    (ap (λ (v : _). v.items) (nl ∙ ap (λ (m : Records). m.allow_lines) same ∙ l))
    (ap (λ (v : _). v.items) (na ∙ ap (λ (m : Records). m.own_attributes) same ∙ a))
    (ap (map entry_of) entries ∙ map-append entry_of old.entries.items (e ∷ []))
    (ap (λ (v : _). map string_bytes v.items) (nx ∙ ap (λ (m : Records). m.asides) same ∙ x))

pub aside_declared : (old new : Records) (id : String Global) (others : BTreeSet (String Global)) (moved : Records) → moved ≡ with_others old others → new.rows ≡ moved.rows → new.allow_lines ≡ moved.allow_lines
    → new.own_attributes ≡ moved.own_attributes → new.entries ≡ moved.entries → new.asides.items ≡ moved.asides.items ++ id ∷ [] → (s : Settings)
    → declared_by s new ≡ with_record (declared_by s old) (aside (string_bytes id))
aside_declared old new id others moved same nr nl na ne asides s =
    same_declared s _ _ _ _ _ _ _ _ _ _
    (ap (λ (v : _). map row_of v.items) (nr ∙ ap (λ (m : Records). m.rows) same))
    (ap (λ (v : _). v.items) (nl ∙ ap (λ (m : Records). m.allow_lines) same))
    (ap (λ (v : _). v.items) (na ∙ ap (λ (m : Records). m.own_attributes) same))
    (ap (λ (v : _). map entry_of v.items) (ne ∙ ap (λ (m : Records). m.entries) same))
    (ap (map string_bytes) (asides ∙ ap (λ (m : Records). m.asides.items ++ id ∷ []) same) ∙ map-append string_bytes old.asides.items (id ∷ []))

-- ---- what the records stand for

pub keeps_none : (records : Records) → AreKept records → ((s : Settings) → declared_by s records ≡ nothing_declared s) → (s : Settings) → Keeps records (nothing_declared s)
keeps_none records kept none s = record { kept = kept; same = none s }

-- a record more, or its refusal
pub keeps_more : (old new : Records) (d : DeclarationOf) (r : RecordOf) (result : Result (Unit {0}) RecordKind) → Keeps old d → Takes old new r result
    → MatchResult result (λ _. MayFollow d r × Keeps new (with_record d r)) (Refuses d r)
keeps_more old new d r (Ok done) k p = (
  subst (λ (x : DeclarationOf). MayFollow x r) k.same (p.follows d.settings),
  record { kept = p.kept; same = p.declared d.settings ∙ ap (λ (x : DeclarationOf). with_record x r) k.same },
)
keeps_more old new d r (Err kind) k p = subst (λ (x : DeclarationOf). Refuses x r kind) k.same (p d.settings)

-- they are all that is declared
pub keeps_all : (records : Records) (d : DeclarationOf) (s : Settings) → Keeps records d → d.settings ≡ s → declared_by s records ≡ d
keeps_all records d s k named = ap (λ (x : Settings). declared_by x records) (sym named) ∙ k.same
