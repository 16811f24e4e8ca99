-- Bytes are one declaration, or have one first fault.
use Rattle.std.proofs.Common.{◌≡◌, ℕ, ℤ, List, [], ◌∷◌, ◌++◌, Option, Some, Bool, refl, sym, ap, subst, ◌∙◌, arith}
use Rattle.kmipa_ttlv.specs.Tree.{Tree}
use Rattle.kmipa_attrs.specs.Fields.{tag_of}
use Rattle.kmipa_object.specs.Allowances.{act_number, act_of, allow_number, allow_of, state_numbered}
use Rattle.kmipa_object.specs.Life.{state_number}
use Rattle.kmipa_object.specs.declared.allow.Act.{Act}
use Rattle.kmipa_object.specs.declared.allow.Act.TheVariants as acts
use Rattle.kmipa_object.specs.declared.allow.Allow.{Allow}
use Rattle.kmipa_object.specs.declared.allow.Allow.TheVariants as words
use Rattle.kmipa_object.specs.declared.allow.AllowLine.{AllowLine}
use Rattle.kmipa_object.specs.declared.state.State.{State}
use Rattle.kmipa_object.specs.declared.state.State.TheVariants as states
use Rattle.kmipa_msgs.specs.Messages.{RowOf}
use Rattle.kmipa_msgs.specs.Numbers.{cause_number, cause_of, unjudged_number, unjudged_of, visibility_number, visibility_of}
use Rattle.kmipa_msgs.specs.declared.rules.Cause.{Cause}
use Rattle.kmipa_msgs.specs.declared.rules.Cause.TheVariants.{NotFound, WrongState, TakenName}
use Rattle.kmipa_msgs.specs.declared.rules.Unjudged.{Unjudged}
use Rattle.kmipa_msgs.specs.declared.rules.Unjudged.TheVariants as unjudged
use Rattle.kmipa_msgs.specs.declared.rules.Visibility.{Visibility}
use Rattle.kmipa_msgs.specs.declared.rules.Visibility.TheVariants as visibility
use Rattle.kmipa_record.specs.DeclarationRecords.{row_item, RecordOf, row, allow, own, entry, aside, SaysRecord}
use Rattle.kmipa_record.specs.Declarations.{DeclarationOf, nothing_declared, with_record, MayFollow, IsHeader, IsRecordUnder, Follow, SayDeclaration, IsDeclarationWithin, AreRightInDeclaration, RecordItemFault, no_record, misplaced, misplaced_kind, DeclarationItemFault, DeclarationEndFault, DeclarationFaultWithin}
use Rattle.kmipa_record.specs.Lines.{allow_line_item, own_tag, own_attribute_of, own_line_item}
use Rattle.kmipa_record.specs.Settings.{declaration_header, MayHave, plain_settings}
use Rattle.kmipa_record.specs.Tags.{row_tag, allow_line_tag, own_line_tag, entry_tag, aside_entry_tag}
use Rattle.kmipa_record.specs.declared.declaration_header.DeclarationHeader.{DeclarationHeader}
use Rattle.kmipa_record.specs.declared.declaration_version.DeclarationVersion.{DeclarationVersion}
use Rattle.kmipa_record.specs.declared.declaration_version.DeclarationVersion.TheVariants.{First, Second}
use Rattle.kmipa_record.specs.declared.fault.RecordKind.{RecordKind}
use Rattle.kmipa_record.specs.declared.own_attribute.OwnAttribute.{OwnAttribute}
use Rattle.kmipa_record.specs.declared.own_attribute.OwnAttribute.TheVariants as attributes
use Rattle.kmipa_record.specs.declared.reach.Reach.{Reach}
use Rattle.kmipa_record.specs.declared.settings.Settings.{Settings}
use Rattle.kmipa_record.proofs.EntryLemmas.{one_entry}
use Rattle.kmipa_record.proofs.FirstFaultLemmas.{no_fault, one_fault, nothing_more, compare, same, shorter, longer}

-- ---- numbers and what they stand for

-- what a number gives back is one value
returned : {X : Type 0} (number : X → ℕ) (of : ℕ → Option X) → ((x : X) → of (number x) ≡ Some x) → (a b : X) → number a ≡ number b → a ≡ b
returned number of back a b e = let same : Some a ≡ Some b = sym (back a) ∙ ap of e ∙ back b in cc

cause_back : (c : Cause) → cause_of (cause_number c) ≡ Some c
cause_back NotFound = refl
cause_back WrongState = refl
cause_back TakenName = refl

act_back : (a : Act) → act_of (act_number a) ≡ Some a
act_back acts.Get = refl
act_back acts.GetAttributes = refl
act_back acts.Activate = refl
act_back acts.RevokeCompromised = refl
act_back acts.RevokeOther = refl
act_back acts.Destroy = refl

state_back : (s : State) → state_numbered (state_number s) ≡ Some s
state_back states.PreActive = refl
state_back states.Active = refl
state_back states.Deactivated = refl
state_back states.Compromised = refl
state_back states.Destroyed = refl
state_back states.DestroyedCompromised = refl

allow_back : (w : Allow) → allow_of (allow_number w) ≡ Some w
allow_back words.Must = refl
allow_back words.May = refl
allow_back words.Not = refl

own_back : (a : OwnAttribute) → own_attribute_of (own_tag a) ≡ Some a
own_back attributes.Name = refl
own_back attributes.CryptographicAlgorithm = refl
own_back attributes.CryptographicLength = refl
own_back attributes.CryptographicUsageMask = refl
own_back attributes.ActivationDate = refl
own_back attributes.DeactivationDate = refl

unjudged_back : (u : Unjudged) → unjudged_of (unjudged_number u) ≡ Some u
unjudged_back unjudged.Refused = refl
unjudged_back unjudged.SetAside = refl
unjudged_back unjudged.Unknown = refl

visibility_back : (v : Visibility) → visibility_of (visibility_number v) ≡ Some v
visibility_back visibility.Everyone = refl
visibility_back visibility.MayHide = refl
visibility_back visibility.MustHide = refl

-- ---- an item is one record

row_once : (a b : RowOf) → row_item a ≡ row_item b → a ≡ b
row_once a b e =
    let reason : a.reason ≡ b.reason = cc in
    let number : cause_number a.cause ≡ cause_number b.cause = cc in
    let of : ℕ → Cause → RowOf = λ n c. record { reason = n; cause = c } in
    ap (λ (n : ℕ). of n a.cause) reason ∙ ap (of b.reason) (returned cause_number cause_of cause_back a.cause b.cause number)

pub line_once : (a b : AllowLine) → allow_line_item a ≡ allow_line_item b → a ≡ b
line_once a b e =
    let act : act_number a.act ≡ act_number b.act = cc in
    let state : state_number a.state ≡ state_number b.state = cc in
    let word : allow_number a.allow ≡ allow_number b.allow = cc in
    let of : Act → State → Allow → AllowLine = λ x s w. record { act = x; state = s; allow = w } in
    ap (λ (x : Act). of x a.state a.allow) (returned act_number act_of act_back a.act b.act act)
    ∙ ap (λ (s : State). of b.act s a.allow) (returned state_number state_numbered state_back a.state b.state state)
    ∙ ap (of b.act b.state) (returned allow_number allow_of allow_back a.allow b.allow word)

own_once : (a b : OwnAttribute) → own_line_item a ≡ own_line_item b → a ≡ b
own_once a b e = let tag : own_tag a ≡ own_tag b = cc in returned own_tag own_attribute_of own_back a b tag

abbrev record_tag : RecordOf → ℕ
record_tag (row r) = row_tag
record_tag (allow l) = allow_line_tag
record_tag (own a) = own_line_tag
record_tag (entry e) = entry_tag
record_tag (aside id) = aside_entry_tag

said_tag : (item : Tree) (r : RecordOf) → SaysRecord item r → tag_of item ≡ record_tag r
said_tag item (row r) s = ap tag_of s
said_tag item (allow l) s = ap tag_of s
said_tag item (own a) s = ap tag_of s
said_tag item (entry e) s = ap tag_of s.is
said_tag item (aside id) s = ap tag_of s

pub record_once : (item : Tree) (a b : RecordOf) → SaysRecord item a → SaysRecord item b → a ≡ b
record_once item (row x) (row y) s t = ap row (row_once x y (sym s ∙ t))
record_once item (allow x) (allow y) s t = ap allow (line_once x y (sym s ∙ t))
record_once item (own x) (own y) s t = ap own (own_once x y (sym s ∙ t))
record_once item (entry x) (entry y) s t = ap entry (one_entry item x y s t)
record_once item (aside x) (aside y) s t = let same : x ≡ y = (let both = sym s ∙ t in cc) in ap aside same
record_once item (row x) (allow y) s t = absurd (omega (arith, sym (said_tag item (row x) s) ∙ said_tag item (allow y) t))
record_once item (row x) (own y) s t = absurd (omega (arith, sym (said_tag item (row x) s) ∙ said_tag item (own y) t))
record_once item (row x) (entry y) s t = absurd (omega (arith, sym (said_tag item (row x) s) ∙ said_tag item (entry y) t))
record_once item (row x) (aside y) s t = absurd (omega (arith, sym (said_tag item (row x) s) ∙ said_tag item (aside y) t))
record_once item (allow x) (row y) s t = absurd (omega (arith, sym (said_tag item (allow x) s) ∙ said_tag item (row y) t))
record_once item (allow x) (own y) s t = absurd (omega (arith, sym (said_tag item (allow x) s) ∙ said_tag item (own y) t))
record_once item (allow x) (entry y) s t = absurd (omega (arith, sym (said_tag item (allow x) s) ∙ said_tag item (entry y) t))
record_once item (allow x) (aside y) s t = absurd (omega (arith, sym (said_tag item (allow x) s) ∙ said_tag item (aside y) t))
record_once item (own x) (row y) s t = absurd (omega (arith, sym (said_tag item (own x) s) ∙ said_tag item (row y) t))
record_once item (own x) (allow y) s t = absurd (omega (arith, sym (said_tag item (own x) s) ∙ said_tag item (allow y) t))
record_once item (own x) (entry y) s t = absurd (omega (arith, sym (said_tag item (own x) s) ∙ said_tag item (entry y) t))
record_once item (own x) (aside y) s t = absurd (omega (arith, sym (said_tag item (own x) s) ∙ said_tag item (aside y) t))
record_once item (entry x) (row y) s t = absurd (omega (arith, sym (said_tag item (entry x) s) ∙ said_tag item (row y) t))
record_once item (entry x) (allow y) s t = absurd (omega (arith, sym (said_tag item (entry x) s) ∙ said_tag item (allow y) t))
record_once item (entry x) (own y) s t = absurd (omega (arith, sym (said_tag item (entry x) s) ∙ said_tag item (own y) t))
record_once item (entry x) (aside y) s t = absurd (omega (arith, sym (said_tag item (entry x) s) ∙ said_tag item (aside y) t))
record_once item (aside x) (row y) s t = absurd (omega (arith, sym (said_tag item (aside x) s) ∙ said_tag item (row y) t))
record_once item (aside x) (allow y) s t = absurd (omega (arith, sym (said_tag item (aside x) s) ∙ said_tag item (allow y) t))
record_once item (aside x) (own y) s t = absurd (omega (arith, sym (said_tag item (aside x) s) ∙ said_tag item (own y) t))
record_once item (aside x) (entry y) s t = absurd (omega (arith, sym (said_tag item (aside x) s) ∙ said_tag item (entry y) t))

-- ---- an item is one header

abbrev settings_of : Bool → Unjudged → ℤ → Visibility → Settings
settings_of n u t v = record { unique_names = n; unjudged = u; tolerance = t; visibility = v }

headers_once : (v w : DeclarationVersion) (s t : Settings) → MayHave v s → MayHave w t → declaration_header (record { version = v; settings = s }) ≡ declaration_header (record { version = w; settings = t })
    → (v ≡ w) × (s ≡ t)
headers_once First First s t m n e =
    let names : s.unique_names ≡ t.unique_names = cc in
    (refl, m ∙ ap plain_settings names ∙ sym n)
headers_once First Second s t m n e = absurd cc
headers_once Second First s t m n e = absurd cc
headers_once Second Second s t m n e =
    let names : s.unique_names ≡ t.unique_names = cc in
    let un : unjudged_number s.unjudged ≡ unjudged_number t.unjudged = cc in
    let tolerance : s.tolerance ≡ t.tolerance = cc in
    let vn : visibility_number s.visibility ≡ visibility_number t.visibility = cc in (
      refl,
      ap (λ (b : Bool). settings_of b s.unjudged s.tolerance s.visibility) names
          ∙ ap (λ (u : Unjudged). settings_of t.unique_names u s.tolerance s.visibility) (returned unjudged_number unjudged_of unjudged_back s.unjudged t.unjudged un)
          ∙ ap (λ (z : ℤ). settings_of t.unique_names t.unjudged z s.visibility) tolerance
          ∙ ap (settings_of t.unique_names t.unjudged t.tolerance) (returned visibility_number visibility_of visibility_back s.visibility t.visibility vn),
    )

pub header_once : (reach : Reach) (item : Tree) (a b : DeclarationHeader) → IsHeader reach item a → IsHeader reach item b → a ≡ b
header_once reach item a b i j =
    let both = headers_once a.version b.version a.settings b.settings i.may j.may (sym i.is ∙ j.is) in
    let of : DeclarationVersion → Settings → DeclarationHeader = λ v s. record { version = v; settings = s } in
    ap (λ (v : DeclarationVersion). of v a.settings) both.0 ∙ ap (of b.version) both.1

-- ---- items are one declaration

module _ (reach : Reach) (h : DeclarationHeader) where
  follow_once : (items : List Tree) (ahead a b : DeclarationOf) → Follow reach h ahead items a → Follow reach h ahead items b → a ≡ b
  follow_once [] ahead a b f g = sym f ∙ g
  follow_once (item ∷ items) ahead a b f g =
      let one = record_once item g.0 f.0 g.1.says f.1.says in
      follow_once items (with_record ahead f.0) a b f.3 (subst (λ (r : RecordOf). Follow reach h (with_record ahead r) items b) one g.3)

  -- a declaration that is cut at an item
  record CutAt (items : List Tree) (item : Tree) (ahead : DeclarationOf) : Type 0 where
    front : DeclarationOf
    before : Follow reach h ahead items front
    here : RecordOf
    is : IsRecordUnder reach h item here
    may : MayFollow front here

  cut_at : (items more : List Tree) (item : Tree) (ahead whole : DeclarationOf) → Follow reach h ahead (items ++ item ∷ more) whole → CutAt items item ahead
  cut_at [] more item ahead whole f = record { front = ahead; before = refl; here = f.0; is = f.1; may = f.2 }
  cut_at (i ∷ items) more item ahead whole f =
      let cut = cut_at items more item (with_record ahead f.0) whole f.3 in
      record { front = cut.front; before = (f.0, f.1, f.2, cut.before); here = cut.here; is = cut.is; may = cut.may }

  no_fault_of_cut : (items : List Tree) (item : Tree) (ahead front : DeclarationOf) (kind : RecordKind) → CutAt items item ahead → Follow reach h ahead items front → RecordItemFault reach h front item kind → ⊥
  no_fault_of_cut items item ahead front kind cut f (no_record none k) = none cut.here cut.is
  no_fault_of_cut items item ahead front kind cut f (misplaced r is may_not k) =
      let same = follow_once items ahead cut.front front cut.before f in
      let one = record_once item cut.here r cut.is.says is.says in
      may_not (subst (λ (x : RecordOf). MayFollow front x) one (subst (λ (d : DeclarationOf). MayFollow d cut.here) same cut.may))

  one_record_fault : (declared : DeclarationOf) (item : Tree) (j k : RecordKind) → RecordItemFault reach h declared item j → RecordItemFault reach h declared item k → j ≡ k
  one_record_fault declared item j k (no_record n e) (no_record n' e') = e ∙ sym e'
  one_record_fault declared item j k (no_record n e) (misplaced r is m e') = absurd (n r is)
  one_record_fault declared item j k (misplaced r is m e) (no_record n e') = absurd (n r is)
  one_record_fault declared item j k (misplaced r is m e) (misplaced r' is' m' e') =
      e ∙ ap (λ (x : RecordOf). misplaced_kind x) (record_once item r r' is.says is'.says) ∙ sym e'

module _ (reach : Reach) where
  abbrev FollowsHeader : DeclarationHeader → List Tree → DeclarationOf → Type 0
  FollowsHeader h records d = Follow reach h (nothing_declared h.settings) records d

  pub one_said : (header : Tree) (records : List Tree) (a b : DeclarationOf) → SayDeclaration reach header records a → SayDeclaration reach header records b → a ≡ b
  one_said header records a b s t =
      let one = header_once reach header t.given s.given t.header_is s.header_is in
      follow_once reach s.given records (nothing_declared s.given.settings) a b s.follow (subst (λ (h : DeclarationHeader). FollowsHeader h records b) one t.follow)

  no_faulty : (items more : List Tree) (item : Tree) (kind : RecordKind) → AreRightInDeclaration reach (items ++ item ∷ more) → DeclarationItemFault reach items item kind → ⊥
  no_faulty [] more item kind right f = f.0 right.1.given right.1.header_is
  no_faulty (header ∷ records) more item kind right f =
      let s = right.1 in let t = f.1 in
      let one = header_once reach header s.given t.given s.header_is t.header_is in
      let whole = subst (λ (h : DeclarationHeader). FollowsHeader h (records ++ item ∷ more) right.0) one s.follow in
      no_fault_of_cut reach t.given records item (nothing_declared t.given.settings) f.0 kind (cut_at reach t.given records more item (nothing_declared t.given.settings) right.0 whole) t.follow f.2

  one_item : (items : List Tree) (item : Tree) (j k : RecordKind) → DeclarationItemFault reach items item j → DeclarationItemFault reach items item k → j ≡ k
  one_item [] item j k f g = f.1 ∙ sym g.1
  one_item (header ∷ records) item j k f g =
      let s = f.1 in let t = g.1 in
      let one = header_once reach header t.given s.given t.header_is s.header_is in
      let same = one_said header records g.0 f.0 t s in
      let moved = subst (λ (h : DeclarationHeader). RecordItemFault reach h g.0 item k) one g.2 in
      one_record_fault reach s.given f.0 item j k f.2 (subst (λ (d : DeclarationOf). RecordItemFault reach s.given d item k) same moved)

  one_end : (bytes : List ℕ) (items : List Tree) (o p : ℕ) (j k : RecordKind) → DeclarationEndFault bytes items o j → DeclarationEndFault bytes items p k → (o ≡ p) × (j ≡ k)
  one_end bytes [] o p j k f g = (f.0 ∙ sym g.0, f.1 ∙ sym g.1)
  one_end bytes (header ∷ records) o p j k f g = absurd f

  -- ---- the laws

  pub one_declaration_fault_lem : (bytes : List ℕ) (o p : ℕ) (j k : RecordKind) → DeclarationFaultWithin reach bytes o j → DeclarationFaultWithin reach bytes p k → (o ≡ p) × (j ≡ k)
  one_declaration_fault_lem = one_fault (AreRightInDeclaration reach) (DeclarationItemFault reach) DeclarationEndFault no_faulty one_item one_end

  pub no_fault_of_declaration_lem : (bytes : List ℕ) (declared : DeclarationOf) (offset : ℕ) (kind : RecordKind) → IsDeclarationWithin reach bytes declared → ¬ (DeclarationFaultWithin reach bytes offset kind)
  no_fault_of_declaration_lem bytes declared offset kind d =
      no_fault (AreRightInDeclaration reach) (DeclarationItemFault reach) DeclarationEndFault no_faulty bytes (d.header ∷ d.records) offset kind
      (record { right = (declared, d.say); begins = d.spelled }) (λ f. f)

  same_items : (h g : Tree) (xs ys : List Tree) (declared : DeclarationOf) → h ∷ xs ≡ g ∷ ys → SayDeclaration reach h xs declared → SayDeclaration reach g ys declared
  same_items h g xs ys declared e s =
      let head : h ≡ g = cc in
      let tail : xs ≡ ys = cc in
      subst (λ (l : List Tree). SayDeclaration reach g l declared) tail (subst (λ (t : Tree). SayDeclaration reach t xs declared) head s)

  pub one_declaration_lem : (bytes : List ℕ) (declared other : DeclarationOf) → IsDeclarationWithin reach bytes declared → IsDeclarationWithin reach bytes other → declared ≡ other
  one_declaration_lem bytes declared other t u =
      elim (compare (t.header ∷ t.records) (u.header ∷ u.records) bytes [] [] t.spelled u.spelled) [
        | same e r ↦ one_said u.header u.records declared other (same_items t.header u.header t.records u.records declared e t.say) u.say
        | shorter y more e b ↦ absurd (nothing_more y more [] b)
        | longer x more e b ↦ absurd (nothing_more x more [] b)
      ]
