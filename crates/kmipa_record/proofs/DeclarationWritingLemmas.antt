-- Declarations that are written.
use Rattle.std.proofs.Common.{◌≡◌, ◌≢◌, ◌≤◌, ◌==◌, ◌||◌, get_or, is_some, option_map, string_bytes, String, ℕ, List, [], ◌∷◌, ◌++◌, map, Bool, true, false, cond, Option, None, Some, IsTrue, bytes_eq, append_assoc, refl, sym, ap, subst, ◌∙◌, arith}
use Rattle.std.specs.Global.{Global}
use Rattle.std.specs.List.{list_any, flat_map}
use Rattle.std.specs.Prelude.{All, AllPairs, IsSome}
use Rattle.std.proofs.lemmas.Bool.Decides.{Decides-eqb}
use Rattle.std.proofs.lemmas.Grind.{flat_map-append}
use Rattle.std.proofs.lemmas.List.Elements.{All-push, All-nil, All-cons, All-tail, All-append}
use Rattle.std.proofs.lemmas.List.{append-nil, map-append}
use Rattle.std.proofs.lemmas.List.Folds.{Any-from_list_any, list_any_at, list_any-append}
use Rattle.std.proofs.lemmas.List.Quantifiers.{all_pairs_push}
use Rattle.std.proofs.lemmas.Slice.Eq.{bytes_eq-Decides}
use Rattle.kmipa_ttlv.specs.Tree.{Tree, Trees, Scalar, scalar, none, more, push, forest}
use Rattle.kmipa_ttlv.specs.Spelling.{Spells}
use Rattle.kmipa_ttlv.specs.Stream.{Begins}
use Rattle.kmipa_ttlv.specs.Written.{spelling, size, depths, AllSound, Legal}
use Rattle.kmipa_ttlv.proofs.SpellLemmas.{spells_legal}
use Rattle.kmipa_msgs.specs.Messages.{RowOf}
use Rattle.kmipa_attrs.specs.Attributes.{each, Single, SaysAttributes}
use Rattle.kmipa_attrs.specs.Fields.{tag_of, every, as_enumeration}
use Rattle.kmipa_attrs.specs.Sets.{NameOf, Attributes}
use Rattle.kmipa_attrs.specs.Tags.{activation_date, compromise_date, cryptographic_algorithm, cryptographic_length, cryptographic_usage_mask, deactivation_date, destroy_date, initial_date, object_type_tag, state_tag}
use Rattle.kmipa_attrs.specs.Writing.{short_name, with_scalars, single_rows, enumerated, counted, dated, short_children}
use Rattle.kmipa_attrs.proofs.ShortLemmas.{short_least, short_plain}
use Rattle.kmipa_attrs.proofs.WriteLemmas.{short_said, once-same, said-HasNoRepeats}
use Rattle.kmipa_object.specs.declared.allow.AllowLine.{AllowLine}
use Rattle.kmipa_record.specs.DeclarationRecords.{RecordOf, row, allow, own, entry, aside, row_item, aside_item}
use Rattle.kmipa_record.specs.Declarations.{DeclarationOf, nothing_declared, with_record, MayFollow, IsHeader, IsRecordUnder, Follow, IsDeclarationWithin}
use Rattle.kmipa_record.specs.DeclarationWriting.{AreSayable, MayStand, AreLines, AreOwn, AreDistinct, ids_of, MayStandTogether, MayBeDeclared, IsWritableDeclaration, IsLowestHeader, written_records}
use Rattle.kmipa_record.specs.Entries.{EntryOf, entry_of, listed_tags, is_listed, AreListed, material, ownership, SaysEntry, written_entry}
use Rattle.kmipa_record.specs.Lines.{allow_line_item, own_line_item, IsMovable, AreOfOneCell}
use Rattle.kmipa_record.specs.Reaches.{ReachesSettings, ReachesAsides}
use Rattle.kmipa_record.specs.Settings.{declaration_header, MayHave, IsTolerance, plain_settings}
use Rattle.kmipa_record.specs.Writing.{Appends, IsWrittenDeclarationWithin, Unwritten, no_memory, no_file, AddsAll, Refused, starved, refused}
use Rattle.kmipa_record.specs.declared.declaration_header.DeclarationHeader.{DeclarationHeader}
use Rattle.kmipa_record.specs.declared.declaration_version.DeclarationVersion.{DeclarationVersion}
use Rattle.kmipa_record.specs.declared.declaration_version.DeclarationVersion.TheVariants.{First, Second}
use Rattle.kmipa_record.specs.declared.entry.Entry.{Entry}
use Rattle.kmipa_record.specs.declared.fault.RecordKind.{RecordKind}
use Rattle.kmipa_record.specs.declared.own_attribute.OwnAttribute.{OwnAttribute}
use Rattle.kmipa_record.specs.declared.reach.Reach.{Reach}
use Rattle.kmipa_record.specs.declared.settings.Settings.{Settings}
use Rattle.kmipa_record.proofs.RecordsLemmas.{same_bytes}
use Rattle.kmipa_record.proofs.PairLemmas.{all_right, no_pairs, pairs_append, pairs_left, pairs_right, pairs_across, pairs_with, mapped_all, unmapped_all, mapped_pairs, unmapped_pairs}
use Rattle.kmipa_record.proofs.WritingLemmas.{one_of, begins_spelled}

-- ---- attributes that are listed

listed_push : (ts : Trees) (t : Tree) → AreListed ts → IsTrue (is_listed t) → AreListed (push ts t)
listed_push none t h g = (g, tt)
listed_push (more u ts) t h g = (h.0, listed_push ts t h.1 g)

abbrev ListedRow : ℕ → Option Scalar → Type 0
ListedRow n None = Unit {0}
ListedRow n (Some s) = IsTrue (list_any (λ tag. tag == n) listed_tags)

abbrev ListedRows : List (ℕ × Option Scalar) → Type 0
ListedRows [] = Unit {0}
ListedRows (r ∷ rows) = ListedRow r.0 r.1 × ListedRows rows

listed_rows : (ts : Trees) (rows : List (ℕ × Option Scalar)) → AreListed ts → ListedRows rows → AreListed (with_scalars ts rows)
listed_rows ts [] h g = h
listed_rows ts ((n, None) ∷ rows) h g = listed_rows ts rows h g.1
listed_rows ts ((n, Some s) ∷ rows) h g = listed_rows (push ts (scalar n s)) rows (listed_push ts (scalar n s) h g.0) g.1

listed_row : (n : ℕ) (v : Option Scalar) → list_any (λ tag. tag == n) listed_tags ≡ true → ListedRow n v
listed_row n None e = tt
listed_row n (Some s) e = e

absent_row : (n : ℕ) (v : Option ℕ) → v ≡ None → ListedRow n (enumerated v)
absent_row n None e = tt
absent_row n (Some x) e = absurd cc

listed_names : (names : List NameOf) → AreListed (forest short_name names)
listed_names [] = tt
listed_names (n ∷ names) = (refl, listed_names names)

listed_short : (a : Attributes) → AreSayable a → AreListed (short_children a)
listed_short a s =
    listed_rows (forest short_name a.names) (single_rows a) (listed_names a.names) (
      absent_row object_type_tag a.object_type s.no_type,
      (
        listed_row cryptographic_algorithm (enumerated a.algorithm) refl,
        (
          listed_row cryptographic_length (counted a.length) refl,
          (
            listed_row cryptographic_usage_mask (counted a.mask) refl,
            (
              absent_row state_tag a.state s.no_state,
              (
                listed_row initial_date (dated a.initial) refl,
                (
                  listed_row activation_date (dated a.activation) refl,
                  (listed_row deactivation_date (dated a.deactivation) refl, (listed_row destroy_date (dated a.destroy) refl, (listed_row compromise_date (dated a.compromise) refl, tt))),
                ),
              ),
            ),
          ),
        ),
      ),
    )

none_with : (n : ℕ) (ts : Trees) → list_any (λ tag. tag == n) listed_tags ≡ false → AreListed ts → every n ts ≡ []
unfolding every
none_with n none e h = refl
none_with n (more t ts) e h = by (tag_of t == n) refl (none_with n ts e h.1)
  where
    by : (b : Bool) → (tag_of t == n) ≡ b → every n ts ≡ [] → cond b (t ∷ every n ts) (every n ts) ≡ []
    by true is rest =
        let same : tag_of t ≡ n = (Decides-eqb (tag_of t) n).0 is in
        absurd (let clash : true ≡ false = sym h.0 ∙ ap (λ (k : ℕ). list_any (λ tag. tag == k) listed_tags) same ∙ e in cc)
    by false is rest = rest

no_value : (n : ℕ) (ts : Trees) (v : Option ℕ) → list_any (λ tag. tag == n) listed_tags ≡ false → AreListed ts → Single (each as_enumeration n ts) v → v ≡ None
unfolding each
no_value n ts None e h s = refl
no_value n ts (Some x) e h s = absurd (let clash : [] ≡ Some x ∷ [] = sym (ap (map as_enumeration) (none_with n ts e h)) ∙ s in cc)

-- ---- an entry

sayable : (item : Tree) (e : EntryOf) → SaysEntry item e → AreSayable e.attributes
sayable item e s = record {
  names = said-HasNoRepeats s.attributes e.attributes s.said;
  no_type = no_value object_type_tag s.attributes e.attributes.object_type refl s.listed s.said.object_type;
  no_state = no_value state_tag s.attributes e.attributes.state refl s.listed s.said.state;
}

says_written : (e : EntryOf) → AreSayable e.attributes → SaysEntry (written_entry e) e
says_written e s = record {
  attributes = short_children e.attributes;
  is = refl;
  listed = listed_short e.attributes s;
  said = subst (SaysAttributes (short_children e.attributes)) (once-same e.attributes s.names) (short_said e.attributes);
}

material_plain : (bytes owner : Option (List ℕ)) → (depths (material bytes (ownership owner)) ≤ 1) × AllSound (material bytes (ownership owner))
material_plain None None = (omega arith, tt)
material_plain None (Some o) = (omega arith, (tt, tt))
material_plain (Some bs) None = (omega arith, (tt, tt))
material_plain (Some bs) (Some o) = (omega arith, (tt, (tt, tt)))

-- where some record of it breaks no limit, the one that is written doesn't
legal_written : (item : Tree) (e : EntryOf) → SaysEntry item e → Legal 16 item → Legal 16 (written_entry e)
legal_written item e s legal =
    let short = short_plain e.attributes in
    let last = material_plain e.bytes e.owner in
    record {
      levels = omega (arith, short.0, last.0);
      sound = (tt, (tt, (short.1, last.1)));
      small = omega (arith, ap size s.is, short_least s.attributes e.attributes s.said, legal.small);
    }

-- ---- identifiers

ids_distinct : (entries : List EntryOf) → AllPairs (λ (a b : EntryOf). a.id ≢ b.id) entries → AreDistinct (ids_of entries)
ids_distinct entries p = mapped_pairs (λ (e : EntryOf). e.id) (λ (a b : List ℕ). a ≢ b) entries p

-- no identifier stands twice, among entries and those that are set aside
record AreApart (entries : List EntryOf) (others : List (List ℕ)) : Type 0 where
  distinct : AllPairs (λ (a b : EntryOf). a.id ≢ b.id) entries
  asides : AllPairs (λ (a b : List ℕ). a ≢ b) others
  apart : All (λ (e : EntryOf). All (λ (id : List ℕ). id ≢ e.id) others) entries

none_apart : AreApart [] []
none_apart = record {
  distinct = no_pairs (λ (a b : EntryOf). a.id ≢ b.id);
  asides = no_pairs (λ (a b : List ℕ). a ≢ b);
  apart = λ k d lt. absurd (omega (arith, lt));
}

entry_apart : (entries : List EntryOf) (asides : List (List ℕ)) (e : EntryOf) → AreApart entries asides → All (λ (x : EntryOf). x.id ≢ e.id) entries → All (λ (id : List ℕ). id ≢ e.id) asides → AreApart (entries ++ e ∷ []) asides
entry_apart entries asides e are new apart = record {
  distinct = all_pairs_push (λ (a b : EntryOf). a.id ≢ b.id) entries e are.distinct new;
  asides = are.asides;
  apart = All-push (λ (x : EntryOf). All (λ (id : List ℕ). id ≢ x.id) asides) entries e are.apart apart;
}

aside_apart : (entries : List EntryOf) (asides : List (List ℕ)) (id : List ℕ) → AreApart entries asides → All (λ (x : EntryOf). x.id ≢ id) entries → All (λ (x : List ℕ). x ≢ id) asides → AreApart entries (asides ++ id ∷ [])
aside_apart entries asides id are apart new = record {
  distinct = are.distinct;
  asides = all_pairs_push (λ (a b : List ℕ). a ≢ b) asides id are.asides new;
  apart = λ k x lt. All-push (λ (i : List ℕ). i ≢ (get_or entries k x).id) asides id (are.apart k x lt) (λ same. apart k x lt (sym same));
}

ids_joined : (entries : List EntryOf) (asides : List (List ℕ)) → AreApart entries asides → AreDistinct (ids_of entries ++ asides)
ids_joined entries asides are =
    pairs_append (λ (a b : List ℕ). a ≢ b) (ids_of entries) asides (ids_distinct entries are.distinct) are.asides
    (mapped_all (λ (e : EntryOf). e.id) (λ (a : List ℕ). All (λ (b : List ℕ). a ≢ b) asides) entries (λ k x lt i y lt' same. are.apart k x lt i y lt' (sym same)))

ids_split : (entries : List EntryOf) (asides : List (List ℕ)) → AreDistinct (ids_of entries ++ asides) → AreApart entries asides
ids_split entries asides p =
    let R : List ℕ → List ℕ → Type 0 = λ a b. a ≢ b in
    let across = unmapped_all (λ (e : EntryOf). e.id) (λ (a : List ℕ). All (λ (b : List ℕ). a ≢ b) asides) entries (pairs_across R (ids_of entries) asides p) in
    record {
      distinct = unmapped_pairs (λ (e : EntryOf). e.id) R entries (pairs_left R (ids_of entries) asides p);
      asides = pairs_right R (ids_of entries) asides p;
      apart = λ k x lt i y lt' same. across k x lt i y lt' (sym same);
    }

-- ---- what some bytes declare may be written

all_legal : (items : List Tree) (bytes rest : List ℕ) → Begins items bytes rest → All (Legal 16) items
all_legal [] bytes rest b = All-nil (Legal 16)
all_legal (t ∷ ts) bytes rest b = All-cons (Legal 16) t ts (spells_legal t b.0 b.3) (all_legal ts b.1 rest b.4)

head_legal : (t : Tree) (ts : List Tree) → All (Legal 16) (t ∷ ts) → Legal 16 t
head_legal t ts all = one_of (Legal 16) (t ∷ ts) [] ts t refl all

-- what is declared so far may be written
record IsGood (reach : Reach) (h : DeclarationHeader) (d : DeclarationOf) : Type 0 where
  named : d.settings ≡ h.settings
  lines : AreLines d.allow_lines
  own : AreOwn d.own_attributes
  are : AreApart d.entries d.asides
  sayable : All MayStand d.entries
  entries : All (λ (e : EntryOf). Legal 16 (written_entry e)) d.entries
  asides : All (λ (id : List ℕ). Legal 16 (aside_item id)) d.asides
  aside : d.asides ≢ [] → ReachesAsides reach h.settings

good_none : (reach : Reach) (h : DeclarationHeader) → IsGood reach h (nothing_declared h.settings)
good_none reach h = record {
  named = refl;
  lines = record { each = All-nil IsMovable; distinct = no_pairs (λ (a b : AllowLine). ¬ (AreOfOneCell a b)) };
  own = no_pairs (λ (a b : OwnAttribute). a ≢ b);
  are = none_apart;
  sayable = All-nil MayStand;
  entries = All-nil (λ (e : EntryOf). Legal 16 (written_entry e));
  asides = All-nil (λ (id : List ℕ). Legal 16 (aside_item id));
  aside = λ some. absurd (some refl);
}

module _ (reach : Reach) (h : DeclarationHeader) where
  good_more : (d : DeclarationOf) (r : RecordOf) (item : Tree) → IsGood reach h d → IsRecordUnder reach h item r → MayFollow d r → Legal 16 item → IsGood reach h (with_record d r)
  good_more d (row r) item g u may legal =
      record { named = g.named; lines = g.lines; own = g.own; are = g.are; sayable = g.sayable; entries = g.entries; asides = g.asides; aside = g.aside }
  good_more d (allow l) item g u may legal = record {
    named = g.named;
    lines = record { each = All-push IsMovable d.allow_lines l g.lines.each u.fit; distinct = all_pairs_push (λ (a b : AllowLine). ¬ (AreOfOneCell a b)) d.allow_lines l g.lines.distinct may.2 };
    own = g.own;
    are = g.are;
    sayable = g.sayable;
    entries = g.entries;
    asides = g.asides;
    aside = g.aside;
  }
  good_more d (own a) item g u may legal = record {
    named = g.named;
    lines = g.lines;
    own = all_pairs_push (λ (x y : OwnAttribute). x ≢ y) d.own_attributes a g.own may.1;
    are = g.are;
    sayable = g.sayable;
    entries = g.entries;
    asides = g.asides;
    aside = g.aside;
  }
  good_more d (entry e) item g u may legal = record {
    named = g.named;
    lines = g.lines;
    own = g.own;
    are = entry_apart d.entries d.asides e g.are may.0 may.1;
    sayable = All-push MayStand d.entries e g.sayable (record { declarable = u.fit; sayable = sayable item e u.says });
    entries = All-push (λ (x : EntryOf). Legal 16 (written_entry x)) d.entries e g.entries (legal_written item e u.says legal);
    asides = g.asides;
    aside = g.aside;
  }
  good_more d (aside id) item g u may legal = record {
    named = g.named;
    lines = g.lines;
    own = g.own;
    are = aside_apart d.entries d.asides id g.are may.0 may.1;
    sayable = g.sayable;
    entries = g.entries;
    asides = All-push (λ (x : List ℕ). Legal 16 (aside_item x)) d.asides id g.asides (subst (Legal 16) u.says legal);
    aside = λ some. u.admitted;
  }

  good_all : (items : List Tree) (ahead d : DeclarationOf) → IsGood reach h ahead → Follow reach h ahead items d → All (Legal 16) items → IsGood reach h d
  good_all [] ahead d g f all = subst (IsGood reach h) f g
  good_all (t ∷ items) ahead d g f all = good_all items (with_record ahead f.0) d (good_more ahead f.0 t g f.1 f.2 (head_legal t items all)) f.3 (All-tail (Legal 16) t items all)

tolerable : (v : DeclarationVersion) (s : Settings) → MayHave v s → IsTolerance s.tolerance
tolerable First s m = subst (λ (x : Settings). IsTolerance x.tolerance) (sym m) (omega arith, omega arith)
tolerable Second s m = m

writable : (reach : Reach) (bytes : List ℕ) (d : DeclarationOf) → IsDeclarationWithin reach bytes d → IsWritableDeclaration reach d
writable reach bytes d is =
    let h = is.say.given in
    let all = All-tail (Legal 16) is.header is.records (all_legal (is.header ∷ is.records) bytes [] is.spelled) in
    let g = good_all reach h is.records (nothing_declared h.settings) d (good_none reach h) is.say.follow all in
    record {
      may = record {
        settings = record {
          tolerance = subst (λ (s : Settings). IsTolerance s.tolerance) (sym g.named) (tolerable h.version h.settings is.say.header_is.may);
          reached = subst (ReachesSettings reach) (sym g.named) is.say.header_is.reached;
          aside = subst (λ (s : Settings). d.asides ≢ [] → ReachesAsides reach s) (sym g.named) g.aside;
        };
        lines = g.lines;
        own = g.own;
        together = record { each = g.sayable; distinct = ids_joined d.entries d.asides g.are };
      };
      entries = g.entries;
      asides = g.asides;
    }

pub unwritten : (reach : Reach) (declared : DeclarationOf) (kind : RecordKind) → Refused (IsWritableDeclaration reach declared) kind
    → Unwritten (λ bytes. IsDeclarationWithin reach bytes declared) (record { offset = 0; kind = kind })
unwritten reach declared kind (starved k) = no_memory k
unwritten reach declared kind (refused k n) = no_file refl k (λ bytes d. n (writable reach bytes declared d))

-- ---- the records that are written follow each other

abbrev of : Settings → List RowOf → List AllowLine → List OwnAttribute → List EntryOf → List (List ℕ) → DeclarationOf
of s rows lines attributes entries asides = record { settings = s; rows = rows; allow_lines = lines; own_attributes = attributes; entries = entries; asides = asides }

module _ (reach : Reach) (h : DeclarationHeader) (s : Settings) where
  follow_rows : (rs rows : List RowOf) (rest : List Tree) (e : DeclarationOf) → Follow reach h (of s (rows ++ rs) [] [] [] []) rest e → Follow reach h (of s rows [] [] [] []) (map row_item rs ++ rest) e
  follow_rows [] rows rest e f = subst (λ (l : List RowOf). Follow reach h (of s l [] [] [] []) rest e) (append-nil rows) f
  follow_rows (r ∷ rs) rows rest e f = (
    row r,
    record { says = refl; fit = tt; admitted = tt },
    (refl, refl, (refl, refl)),
    follow_rows rs (rows ++ r ∷ []) rest e (subst (λ (l : List RowOf). Follow reach h (of s l [] [] [] []) rest e) (sym (append_assoc rows (r ∷ []) rs)) f),
  )

  follow_lines : (ls : List AllowLine) (rows : List RowOf) (lines : List AllowLine) (rest : List Tree) (e : DeclarationOf) → All (λ _. h.version ≡ Second) ls → AreLines (lines ++ ls)
      → Follow reach h (of s rows (lines ++ ls) [] [] []) rest e → Follow reach h (of s rows lines [] [] []) (map allow_line_item ls ++ rest) e
  follow_lines [] rows lines rest e v are f = subst (λ (l : List AllowLine). Follow reach h (of s rows l [] [] []) rest e) (append-nil lines) f
  follow_lines (l ∷ ls) rows lines rest e v are f =
      let again = sym (append_assoc lines (l ∷ []) ls) in (
        allow l,
        record { says = refl; fit = all_right IsMovable lines (l ∷ ls) are.each 0 l (omega arith); admitted = v 0 l (omega arith) },
        (refl, (refl, refl), pairs_with (λ (a b : AllowLine). ¬ (AreOfOneCell a b)) lines ls l are.distinct),
        follow_lines ls rows (lines ++ l ∷ []) rest e (All-tail (λ _. h.version ≡ Second) l ls v) (subst AreLines again are) (subst (λ (x : List AllowLine). Follow reach h (of s rows x [] [] []) rest e) again f),
      )

  follow_own : (given : List OwnAttribute) (rows : List RowOf) (lines : List AllowLine) (own' : List OwnAttribute) (rest : List Tree) (e : DeclarationOf) → All (λ _. h.version ≡ Second) given → AreOwn (own' ++ given)
      → Follow reach h (of s rows lines (own' ++ given) [] []) rest e → Follow reach h (of s rows lines own' [] []) (map own_line_item given ++ rest) e
  follow_own [] rows lines own' rest e v are f = subst (λ (l : List OwnAttribute). Follow reach h (of s rows lines l [] []) rest e) (append-nil own') f
  follow_own (a ∷ given) rows lines own' rest e v are f =
      let again = sym (append_assoc own' (a ∷ []) given) in (
        own a,
        record { says = refl; fit = tt; admitted = v 0 a (omega arith) },
        ((refl, refl), pairs_with (λ (x y : OwnAttribute). x ≢ y) own' given a are),
        follow_own given rows lines (own' ++ a ∷ []) rest e (All-tail (λ _. h.version ≡ Second) a given v) (subst AreOwn again are) (subst (λ (x : List OwnAttribute). Follow reach h (of s rows lines x [] []) rest e) again f),
      )

  abbrev Fits : EntryOf → Type 0
  Fits e = MayStand e × (IsSome e.owner → h.version ≡ Second)

  follow_entries : (es : List EntryOf) (rows : List RowOf) (lines : List AllowLine) (own' : List OwnAttribute) (entries : List EntryOf) (rest : List Tree) (e : DeclarationOf) → All Fits es
      → AllPairs (λ (a b : EntryOf). a.id ≢ b.id) (entries ++ es)
      → Follow reach h (of s rows lines own' (entries ++ es) []) rest e → Follow reach h (of s rows lines own' entries []) (map written_entry es ++ rest) e
  follow_entries [] rows lines own' entries rest e fits p f = subst (λ (l : List EntryOf). Follow reach h (of s rows lines own' l []) rest e) (append-nil entries) f
  follow_entries (x ∷ es) rows lines own' entries rest e fits p f =
      let again = sym (append_assoc entries (x ∷ []) es) in
      let R : EntryOf → EntryOf → Type 0 = λ a b. a.id ≢ b.id in
      let one = fits 0 x (omega arith) in (
        entry x,
        record { says = says_written x one.0.sayable; fit = one.0.declarable; admitted = one.1 },
        (pairs_with R entries es x p, λ k d lt. absurd (omega (arith, lt))),
        follow_entries es rows lines own' (entries ++ x ∷ []) rest e (All-tail Fits x es fits) (subst (AllPairs R) again p) (subst (λ (l : List EntryOf). Follow reach h (of s rows lines own' l []) rest e) again f),
      )

  follow_asides : (is : List (List ℕ)) (rows : List RowOf) (lines : List AllowLine) (own' : List OwnAttribute) (entries : List EntryOf) (asides : List (List ℕ)) (e : DeclarationOf) → All (λ _. ReachesAsides reach h.settings) is
      → AreDistinct (asides ++ is) → All (λ (x : EntryOf). All (λ (id : List ℕ). id ≢ x.id) is) entries
      → Follow reach h (of s rows lines own' entries (asides ++ is)) [] e → Follow reach h (of s rows lines own' entries asides) (map aside_item is) e
  follow_asides [] rows lines own' entries asides e u p a f = subst (λ (l : List (List ℕ)). Follow reach h (of s rows lines own' entries l) [] e) (append-nil asides) f
  follow_asides (i ∷ is) rows lines own' entries asides e u p a f =
      let again = sym (append_assoc asides (i ∷ []) is) in (
        aside i,
        record { says = refl; fit = tt; admitted = u 0 i (omega arith) },
        (λ k x lt same. a k x lt 0 i (omega arith) (sym same), pairs_with (λ (x y : List ℕ). x ≢ y) asides is i p),
        follow_asides is rows lines own' entries (asides ++ i ∷ []) e (All-tail (λ _. ReachesAsides reach h.settings) i is u) (subst AreDistinct again p)
            (λ k x lt. All-tail (λ (id : List ℕ). id ≢ (get_or entries k x).id) i is (a k x lt))
            (subst (λ (l : List (List ℕ)). Follow reach h (of s rows lines own' entries l) [] e) again f),
      )

-- ---- whole declarations

second : (v : DeclarationVersion) → (v ≡ First → ⊥) → v ≡ Second
second First n = absurd (n refl)
second Second n = refl

some_version : {X : Type 0} (v : DeclarationVersion) (xs : List X) → (v ≡ First → xs ≡ []) → All (λ _. v ≡ Second) xs
some_version v [] gone = All-nil (λ _. v ≡ Second)
some_version v (x ∷ xs) gone = λ k d lt. second v (λ first. let clash = gone first in absurd cc)

owned : (v : DeclarationVersion) (o : Option (List ℕ)) → (v ≡ First → o ≡ None) → IsSome o → v ≡ Second
owned v None gone some = absurd cc
owned v (Some x) gone some = second v (λ first. let clash = gone first in absurd cc)

some_unjudged : {X P : Type 0} (xs : List X) → (xs ≢ [] → P) → All (λ _. P) xs
some_unjudged {X} {P} [] some = All-nil (λ _. P)
some_unjudged (x ∷ xs) some = λ k d lt. some (λ no. absurd cc)

may_have : (v : DeclarationVersion) (s : Settings) → (v ≡ First → s ≡ plain_settings s.unique_names) → IsTolerance s.tolerance → MayHave v s
may_have First s plain t = plain refl
may_have Second s plain t = t

module _ (reach : Reach) (d : DeclarationOf) (h : DeclarationHeader) (may : MayBeDeclared reach d) (low : IsLowestHeader h d) where
  header_is : IsHeader reach (declaration_header h) h
  header_is = record {
    is = refl;
    may = may_have h.version h.settings (λ first. subst (λ (s : Settings). s ≡ plain_settings s.unique_names) (sym low.settings) (low.serves first).settings) (subst (λ (s : Settings). IsTolerance s.tolerance) (sym low.settings) may.settings.tolerance);
    reached = subst (ReachesSettings reach) (sym low.settings) may.settings.reached;
  }

  written_follow : Follow reach h (nothing_declared h.settings) (written_records d) d
  written_follow =
      let are = ids_split d.entries d.asides may.together.distinct in
      let fits : All (λ (e : EntryOf). MayStand e × (IsSome e.owner → h.version ≡ Second)) d.entries = λ k x lt. (may.together.each k x lt, owned h.version (get_or d.entries k x).owner (λ first. (low.serves first).owners k x lt)) in
      let s = h.settings in
      follow_rows reach h s d.rows [] _ d
      (follow_lines reach h s d.allow_lines d.rows [] _ d (some_version h.version d.allow_lines (λ first. (low.serves first).lines)) may.lines
      (follow_own reach h s d.own_attributes d.rows d.allow_lines [] _ d (some_version h.version d.own_attributes (λ first. (low.serves first).own)) may.own
      (follow_entries reach h s d.entries d.rows d.allow_lines d.own_attributes [] _ d fits are.distinct
      (follow_asides reach h s d.asides d.rows d.allow_lines d.own_attributes d.entries [] d
      (some_unjudged d.asides (λ some. subst (λ (x : Settings). ReachesAsides reach x) (sym low.settings) (may.settings.aside some))) are.asides are.apart
      (ap (λ (x : Settings). of x d.rows d.allow_lines d.own_attributes d.entries d.asides) low.settings)))))

  pub written : (old new : List ℕ) → AddsAll (declaration_header h ∷ written_records d) old new → Appends (IsWrittenDeclarationWithin reach d) old new
  written old new all = record {
    appended = flat_map spelling (declaration_header h ∷ written_records d);
    after = all.after;
    is = record {
      padded = record { items = declaration_header h ∷ written_records d; are = refl };
      is = record {
        header = declaration_header h;
        records = written_records d;
        spelled = begins_spelled (declaration_header h ∷ written_records d) all.spelled;
        say = record { given = h; header_is = header_is; follow = written_follow };
      };
      lowest = low.lowest;
    };
  }

-- ---- items that are appended

pub adds_joined : (xs ys : List Tree) (old mid new : List ℕ) → AddsAll xs old mid → AddsAll ys mid new → AddsAll (xs ++ ys) old new
adds_joined xs ys old mid new a b = record {
  after = b.after ∙ ap (λ (l : List ℕ). l ++ flat_map spelling ys) a.after ∙ append_assoc old (flat_map spelling xs) (flat_map spelling ys)
      ∙ ap (λ (l : List ℕ). old ++ l) (sym (flat_map-append spelling xs ys));
  spelled = All-append (λ t. Spells t (spelling t)) xs ys a.spelled b.spelled;
}

header_sound : (v : DeclarationVersion) (s : Settings) → Legal 16 (declaration_header (record { version = v; settings = s }))
header_sound First s = record { levels = omega arith; sound = (tt, (tt, tt)); small = omega arith }
header_sound Second s = record { levels = omega arith; sound = (tt, (tt, (tt, (tt, (tt, tt))))); small = omega arith }

pub header_legal : (h : DeclarationHeader) → Legal 16 (declaration_header h)
header_legal h = header_sound h.version h.settings

pub rows_legal : (rows : List RowOf) → All (λ (r : RowOf). Legal 16 (row_item r)) rows
rows_legal rows = λ k d lt. record { levels = omega arith; sound = (tt, (tt, tt)); small = omega arith }

pub lines_legal : (lines : List AllowLine) → All (λ (l : AllowLine). Legal 16 (allow_line_item l)) lines
lines_legal lines = λ k d lt. record { levels = omega arith; sound = (tt, (tt, (tt, tt))); small = omega arith }

pub own_legal : (attributes : List OwnAttribute) → All (λ (a : OwnAttribute). Legal 16 (own_line_item a)) attributes
own_legal attributes = λ k d lt. record { levels = omega arith; sound = (tt, tt); small = omega arith }

-- ---- owners

some_owner : (o : Option (String Global)) → is_some o ≡ true → option_map string_bytes o ≡ None → ⊥
some_owner None t e = absurd cc
some_owner (Some x) t e = absurd cc

no_owner : (o : Option (String Global)) → is_some o ≡ false → option_map string_bytes o ≡ None
no_owner None t = refl
no_owner (Some x) t = absurd cc

pub is_owned : (e : Entry) → is_some e.owner ≡ true → (entry_of e).owner ≡ None → ⊥
is_owned e t h = some_owner e.owner t h

pub unowned : (e : Entry) → is_some e.owner ≡ false → (entry_of e).owner ≡ None
unowned e t = no_owner e.owner t

-- ---- identifiers that are noted

abbrev pub is_noted : List ℕ → List (List ℕ) → Bool
is_noted id ids = list_any (bytes_eq id) ids

pub noted_none : AreDistinct []
noted_none = no_pairs (λ (a b : List ℕ). a ≢ b)

-- the identifier is among them
pub noted_twice : (ids : List (List ℕ)) (id : List ℕ) → is_noted id ids ≡ true → ¬ (AreDistinct (ids ++ id ∷ []))
noted_twice ids id known p =
    let any = Any-from_list_any (bytes_eq id) ids known in
    pairs_with (λ (a b : List ℕ). a ≢ b) ids [] id p any.0 any.1 any.2 (any.3 ∙ sym ((bytes_eq-Decides id any.1).0 any.4))

pub noted_new : (ids : List (List ℕ)) (id : List ℕ) → AreDistinct ids → is_noted id ids ≡ false → AreDistinct (ids ++ id ∷ [])
noted_new ids id p fresh = all_pairs_push (λ (a b : List ℕ). a ≢ b) ids id p (λ k d lt same.
    let found = list_any_at (bytes_eq id) ids k d lt ((bytes_eq-Decides id (get_or ids k d)).1 (sym same)) in
    let clash : false ≡ true = sym fresh ∙ found in
    absurd cc)

or_last : (b o : Bool) → cond b true o ≡ (o || (b || false))
or_last true true = refl
or_last true false = refl
or_last false true = refl
or_last false false = refl

pub noted_more : (ids : List (List ℕ)) (id cs : List ℕ) (old new : Bool) → new ≡ cond (bytes_eq id cs) true old → old ≡ is_noted cs ids → new ≡ is_noted cs (ids ++ id ∷ [])
noted_more ids id cs old new after before =
    after ∙ ap (cond (bytes_eq id cs) true) before ∙ or_last (bytes_eq id cs) (is_noted cs ids)
    ∙ ap (λ (b : Bool). is_noted cs ids || (b || false)) (same_bytes id cs)
    ∙ sym (list_any-append (bytes_eq cs) ids (id ∷ []))

-- ---- lists that are tested

pub may_not : (before after : List EntryOf) (asides : List (List ℕ)) (e : EntryOf) → ¬ (MayStand e) → ¬ (MayStandTogether (before ++ e ∷ after) asides)
may_not before after asides e n t = n (one_of MayStand (before ++ e ∷ after) before after e refl t.each)

-- those that are ahead of some identifiers are distinct where all are
pub distinct_ahead : (ids ahead : List (List ℕ)) (id : List ℕ) (behind : List (List ℕ)) → AreDistinct (ids ++ (ahead ++ id ∷ behind)) → AreDistinct ((ids ++ ahead) ++ id ∷ [])
distinct_ahead ids ahead id behind all =
    let R : List ℕ → List ℕ → Type 0 = λ a b. a ≢ b in
    let joined : ids ++ (ahead ++ id ∷ behind) ≡ ((ids ++ ahead) ++ id ∷ []) ++ behind
    = sym (append_assoc ids ahead (id ∷ behind)) ∙ sym (append_assoc (ids ++ ahead) (id ∷ []) behind) in
    pairs_left R ((ids ++ ahead) ++ id ∷ []) behind (subst AreDistinct joined all)

pub ids_ahead : (before after : List EntryOf) (e : EntryOf) → MayStandTogether (before ++ e ∷ after) [] → AreDistinct (ids_of before ++ e.id ∷ [])
ids_ahead before after e t =
    let all : AreDistinct (ids_of before ++ (e.id ∷ ids_of after))
    = subst AreDistinct (append-nil (ids_of (before ++ e ∷ after)) ∙ map-append (λ (x : EntryOf). x.id) before (e ∷ after)) t.distinct in
    distinct_ahead [] (ids_of before) e.id (ids_of after) all

pub entries_together : (entries : List EntryOf) (asides : List (List ℕ)) → MayStandTogether entries asides → MayStandTogether entries []
entries_together entries asides t =
    record { each = t.each; distinct = subst AreDistinct (sym (append-nil (ids_of entries))) (pairs_left (λ (a b : List ℕ). a ≢ b) (ids_of entries) asides t.distinct) }
