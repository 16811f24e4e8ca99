-- Unbroken runs of sealed records.
use Rattle.std.proofs.Common.{◌≡◌, ℕ, ℤ, List, [], ◌∷◌, ◌++◌, map, Bool, true, false, append_assoc, refl, sym, ap, subst, ◌∙◌}
use Rattle.std.proofs.lemmas.List.{append-nil, append_cancel_left}
use Rattle.kmipa_ttlv.specs.Tree.{Tree}
use Rattle.kmipa_ttlv.proofs.LawLemmas.{one_spelling_lem}
use Rattle.kmipa_record.specs.Kinds.{ByCause}
use Rattle.kmipa_record.specs.Marks.{MarkOf, begins, ends}
use Rattle.kmipa_record.specs.Seals.{LabelOf, sealed_header, ContentOf, marked, noted, closed, record_item, SealedOf, item_of, IsRecord, SaysRecord, HeadOf, head_at, behind, MayStand, StandFault, behind_close, unsealed, miscounted, earlier, AreUnbroken, head_behind, joined, Sealed, marks_in, marks_of, sealed_items}
use Rattle.kmipa_record.specs.Transcripts.{SealedUpTo, IsNext}
use Rattle.kmipa_record.specs.declared.fault.RecordKind.{RecordKind}
use Rattle.kmipa_record.specs.declared.fault.RecordKind.TheVariants.{Entry, Seal, Order}
use Rattle.kmipa_record.proofs.FirstFaultLemmas.{cut_values}
use Rattle.kmipa_record.proofs.KindLemmas.{caused}

-- ---- one more record

unbroken_more : (head : HeadOf) (records : List SealedOf) (r : SealedOf) → AreUnbroken head records → IsRecord r → MayStand (head_behind head records) r → AreUnbroken head (records ++ r ∷ [])
unbroken_more head [] r u right may = (right, may, tt)
unbroken_more head (x ∷ records) r u right may = (u.0, u.1, unbroken_more (behind head x) records r u.2 right may)

head_more : (head : HeadOf) (records : List SealedOf) (r : SealedOf) → head_behind head (records ++ r ∷ []) ≡ behind (head_behind head records) r
head_more head [] r = refl
head_more head (x ∷ records) r = head_more (behind head x) records r

pub joined-append : (xs ys : List SealedOf) → joined (xs ++ ys) ≡ joined xs ++ joined ys
joined-append [] ys = refl
joined-append (x ∷ xs) ys = ap (λ (l : List ℕ). x.bytes ++ l) (joined-append xs ys) ∙ sym (append_assoc x.bytes (joined xs) (joined ys))

pub marks_of-append : (xs ys : List SealedOf) → marks_of (xs ++ ys) ≡ marks_of xs ++ marks_of ys
marks_of-append [] ys = refl
marks_of-append (x ∷ xs) ys = ap (λ (l : List MarkOf). marks_in x.content ++ l) (marks_of-append xs ys) ∙ sym (append_assoc (marks_in x.content) (marks_of xs) (marks_of ys))

pub marks_of-more : (records : List SealedOf) (r : SealedOf) → marks_of (records ++ r ∷ []) ≡ marks_of records ++ marks_in r.content
marks_of-more records r = marks_of-append records (r ∷ []) ∙ ap (λ (l : List MarkOf). marks_of records ++ l) (append-nil (marks_in r.content))

pub sealed_more : (came : List ℕ) (label : LabelOf) (records : List SealedOf) (head next : HeadOf) (r : SealedOf) → Sealed came label records head → IsRecord r → MayStand head r → next ≡ behind head r
    → Sealed (came ++ r.bytes) label (records ++ r ∷ []) next
sealed_more came label records head next r s right may e =
    let more : joined (records ++ r ∷ []) ≡ joined records ++ r.bytes = joined-append records (r ∷ []) ∙ ap (λ (l : List ℕ). joined records ++ l) (append-nil r.bytes) in
    record {
      labelled = s.labelled;
      header = s.header;
      spelled = s.spelled;
      bytes_are = ap (λ (l : List ℕ). l ++ r.bytes) s.bytes_are ∙ append_assoc s.header (joined records) r.bytes ∙ ap (λ (l : List ℕ). s.header ++ l) (sym more);
      unbroken = unbroken_more (head_at s.header) records r s.unbroken right (subst (λ (h : HeadOf). MayStand h r) s.head_is may);
      head_is = e ∙ ap (λ (h : HeadOf). behind h r) s.head_is ∙ sym (head_more (head_at s.header) records r);
    }

-- ---- a record in the middle

record In (head : HeadOf) (before : List SealedOf) (r : SealedOf) : Type 0 where
  right : IsRecord r
  may : MayStand (head_behind head before) r
  unbroken : AreUnbroken head before

record_in : (head : HeadOf) (before after : List SealedOf) (r : SealedOf) → AreUnbroken head (before ++ r ∷ after) → In head before r
record_in head [] after r u = record { right = u.0; may = u.1; unbroken = tt }
record_in head (x ∷ before) after r u = let more = record_in (behind head x) before after r u.2 in record { right = more.right; may = more.may; unbroken = (u.0, u.1, more.unbroken) }

-- ---- what says the same is the same

item_once : (c d : ContentOf) (m n : ℤ) (s t : List ℕ) → record_item c m s ≡ record_item d n t → (c ≡ d) × (m ≡ n) × (s ≡ t)
item_once (marked (begins call client message)) (marked (begins call' client' message')) m n s t e = (cc, cc, cc)
item_once (marked (begins call client message)) (marked (ends call' message')) m n s t e = absurd cc
item_once (marked (begins call client message)) (noted kind words) m n s t e = absurd cc
item_once (marked (begins call client message)) (closed records) m n s t e = absurd cc
item_once (marked (ends call message)) (marked (begins call' client' message')) m n s t e = absurd cc
item_once (marked (ends call message)) (marked (ends call' message')) m n s t e = (cc, cc, cc)
item_once (marked (ends call message)) (noted kind words) m n s t e = absurd cc
item_once (marked (ends call message)) (closed records) m n s t e = absurd cc
item_once (noted kind words) (marked (begins call client message)) m n s t e = absurd cc
item_once (noted kind words) (marked (ends call message)) m n s t e = absurd cc
item_once (noted kind words) (noted kind' words') m n s t e = (cc, cc, cc)
item_once (noted kind words) (closed records) m n s t e = absurd cc
item_once (closed records) (marked (begins call client message)) m n s t e = absurd cc
item_once (closed records) (marked (ends call message)) m n s t e = absurd cc
item_once (closed records) (noted kind words) m n s t e = absurd cc
item_once (closed records) (closed records') m n s t e = (cc, cc, cc)

abbrev made : List ℕ → ContentOf → ℤ → List ℕ → SealedOf
made bytes content moment seal = record { bytes = bytes; content = content; moment = moment; seal = seal }

record_once : (x y : SealedOf) → x.bytes ≡ y.bytes → item_of x ≡ item_of y → x ≡ y
record_once x y b e =
    let o = item_once x.content y.content x.moment y.moment x.seal y.seal e in
    ap (λ (l : List ℕ). made l x.content x.moment x.seal) b ∙ ap (λ (c : ContentOf). made y.bytes c x.moment x.seal) o.0
    ∙ ap (λ (m : ℤ). made y.bytes y.content m x.seal) o.1 ∙ ap (λ (s : List ℕ). made y.bytes y.content y.moment s) o.2

-- two records that say the same item at the front of the same bytes
spelled_once : (x y : SealedOf) (rest rest' : List ℕ) → IsRecord x → IsRecord y → item_of x ≡ item_of y → x.bytes ++ rest ≡ y.bytes ++ rest' → (x ≡ y) × (rest ≡ rest')
spelled_once x y rest rest' p q e b =
    let one = one_spelling_lem (item_of x) (item_of y) x.bytes y.bytes rest rest' p.spelled q.spelled b in
    (record_once x y one.1 e, append_cancel_left x.bytes rest rest' (b ∙ ap (λ (l : List ℕ). l ++ rest') (sym one.1)))

records_once : (xs ys : List SealedOf) (h g : HeadOf) (rest rest' : List ℕ) → AreUnbroken h xs → AreUnbroken g ys → map item_of xs ≡ map item_of ys → joined xs ++ rest ≡ joined ys ++ rest'
    → (xs ≡ ys) × (rest ≡ rest')
records_once [] [] h g rest rest' u v e b = (refl, b)
records_once [] (y ∷ ys) h g rest rest' u v e b = absurd cc
records_once (x ∷ xs) [] h g rest rest' u v e b = absurd cc
records_once (x ∷ xs) (y ∷ ys) h g rest rest' u v e b =
    let head : item_of x ≡ item_of y = cc in
    let tail : map item_of xs ≡ map item_of ys = cc in
    let one = spelled_once x y (joined xs ++ rest) (joined ys ++ rest') u.0 v.0 head (sym (append_assoc x.bytes (joined xs) rest) ∙ b ∙ append_assoc y.bytes (joined ys) rest') in
    let all = records_once xs ys (behind h x) (behind g y) rest rest' u.2 v.2 tail one.1 in
    (ap (λ (r : SealedOf). r ∷ xs) one.0 ∙ ap (λ (l : List SealedOf). y ∷ l) all.0, all.1)

-- ---- runs at the front of one file

pub record Same {file : List ℕ} {items : List Tree} (a b : SealedUpTo file items) : Type 0 where
  pub records : a.records ≡ b.records
  pub rest : a.rest ≡ b.rest
  pub head : a.head ≡ b.head

run_bytes : (file : List ℕ) (items : List Tree) (a : SealedUpTo file items) → file ≡ a.sealed.header ++ (joined a.records ++ a.rest)
run_bytes file items a = a.split ∙ ap (λ (l : List ℕ). l ++ a.rest) a.sealed.bytes_are ∙ append_assoc a.sealed.header (joined a.records) a.rest

pub run_once : (file : List ℕ) (items : List Tree) (a b : SealedUpTo file items) → Same a b
run_once file items a b =
    let both : sealed_items a.label a.records ≡ sealed_items b.label b.records = sym a.items_are ∙ b.items_are in
    let labels : sealed_header a.label ≡ sealed_header b.label = cc in
    let tails : map item_of a.records ≡ map item_of b.records = cc in
    let bytes : a.sealed.header ++ (joined a.records ++ a.rest) ≡ b.sealed.header ++ (joined b.records ++ b.rest) = sym (run_bytes file items a) ∙ run_bytes file items b in
    let one = one_spelling_lem (sealed_header a.label) (sealed_header b.label) a.sealed.header b.sealed.header (joined a.records ++ a.rest) (joined b.records ++ b.rest) a.sealed.spelled b.sealed.spelled bytes in
    let behind_header = append_cancel_left a.sealed.header (joined a.records ++ a.rest) (joined b.records ++ b.rest) (bytes ∙ ap (λ (l : List ℕ). l ++ (joined b.records ++ b.rest)) (sym one.1)) in
    let all = records_once a.records b.records (head_at a.sealed.header) (head_at b.sealed.header) a.rest b.rest a.sealed.unbroken b.sealed.unbroken tails behind_header in
    record {
      records = all.0;
      rest = all.1;
      head = a.sealed.head_is ∙ ap (λ (l : List ℕ). head_behind (head_at l) a.records) one.1 ∙ ap (head_behind (head_at b.sealed.header)) all.0 ∙ sym b.sealed.head_is;
    }

-- a run that is cut at an item behind its header
pub record CutRun (file : List ℕ) (items : List Tree) (item : Tree) (records : List SealedOf) : Type 0 where
  pub run : SealedUpTo file items
  pub next_record : SealedOf
  pub after : List SealedOf
  pub next : IsNext next_record item run.rest
  pub may : MayStand run.head next_record
  pub records_are : records ≡ run.records ++ next_record ∷ after

pub cut_run : (file : List ℕ) (header item : Tree) (items more : List Tree) (a : SealedUpTo file ((header ∷ items) ++ item ∷ more)) → CutRun file (header ∷ items) item a.records
cut_run file header item items more a =
    let whole : (header ∷ items) ++ item ∷ more ≡ sealed_items a.label a.records = a.items_are in
    let head : header ≡ sealed_header a.label = cc in
    let tail : items ++ item ∷ more ≡ map item_of a.records = cc in
    let cut = cut_values item_of a.records items more item tail in
    let r = cut.value in
    let here = record_in (head_at a.sealed.header) cut.before cut.after r (subst (AreUnbroken (head_at a.sealed.header)) cut.are a.sealed.unbroken) in
    let came = a.sealed.header ++ joined cut.before in
    let rest = r.bytes ++ (joined cut.after ++ a.rest) in
    let parts : joined a.records ≡ joined cut.before ++ (r.bytes ++ joined cut.after) = ap joined cut.are ∙ joined-append cut.before (r ∷ cut.after) in
    let split : file ≡ came ++ rest =
    run_bytes file _ a ∙ ap (λ (l : List ℕ). a.sealed.header ++ (l ++ a.rest)) parts
    ∙ ap (λ (l : List ℕ). a.sealed.header ++ l) (append_assoc (joined cut.before) (r.bytes ++ joined cut.after) a.rest ∙ ap (λ (l : List ℕ). joined cut.before ++ l) (append_assoc r.bytes (joined cut.after) a.rest))
    ∙ sym (append_assoc a.sealed.header (joined cut.before) rest) in
    record {
      run = record {
        label = a.label;
        records = cut.before;
        head = head_behind (head_at a.sealed.header) cut.before;
        came = came;
        rest = rest;
        split = split;
        sealed = record { labelled = a.sealed.labelled; header = a.sealed.header; spelled = a.sealed.spelled; bytes_are = refl; unbroken = here.unbroken; head_is = refl };
        items_are = ap (λ (t : Tree). t ∷ items) head ∙ ap (λ (l : List Tree). sealed_header a.label ∷ l) cut.items_are;
      };
      next_record = r;
      after = cut.after;
      next = record { is = cut.item_is; right = here.right; behind = joined cut.after ++ a.rest; split = refl };
      may = here.may;
      records_are = cut.are;
    }

-- what is next is one record
pub next_once : (x y : SealedOf) (item : Tree) (rest rest' : List ℕ) → rest ≡ rest' → IsNext x item rest → IsNext y item rest' → x ≡ y
next_once x y item rest rest' e a b = (spelled_once x y a.behind b.behind a.right b.right (sym a.is ∙ b.is) (sym a.split ∙ e ∙ b.split)).0

pub next_said : (x : SealedOf) (item : Tree) (rest : List ℕ) → IsNext x item rest → SaysRecord item x.content x.moment x.seal
next_said x item rest n = record { is = n.is; kept = n.right.kept; long = n.right.long }

-- ---- where a record may stand

pub open_and_closed : (b : Bool) → b ≡ false → b ≡ true → ⊥
open_and_closed b e f = absurd cc

pub may_no_fault : (head : HeadOf) (r : SealedOf) (kind : RecordKind) → MayStand head r → StandFault head r kind → ⊥
may_no_fault head r kind may (behind_close c k) = open_and_closed head.closed may.before_close c
may_no_fault head r kind may (unsealed o n k) = n may.sealed
may_no_fault head r kind may (miscounted o s n k) = n may.told
may_no_fault head r kind may (earlier o s t n k) = n may.ordered

pub one_stand_fault : (head : HeadOf) (r : SealedOf) (j k : RecordKind) → StandFault head r j → StandFault head r k → j ≡ k
one_stand_fault head r j k (behind_close c e) (behind_close c' e') = e ∙ sym e'
one_stand_fault head r j k (behind_close c e) (unsealed o n e') = absurd (open_and_closed head.closed o c)
one_stand_fault head r j k (behind_close c e) (miscounted o s n e') = absurd (open_and_closed head.closed o c)
one_stand_fault head r j k (behind_close c e) (earlier o s t n e') = absurd (open_and_closed head.closed o c)
one_stand_fault head r j k (unsealed o n e) (behind_close c e') = absurd (open_and_closed head.closed o c)
one_stand_fault head r j k (unsealed o n e) (unsealed o' n' e') = e ∙ sym e'
one_stand_fault head r j k (unsealed o n e) (miscounted o' s n' e') = e ∙ sym e'
one_stand_fault head r j k (unsealed o n e) (earlier o' s t n' e') = absurd (n s)
one_stand_fault head r j k (miscounted o s n e) (behind_close c e') = absurd (open_and_closed head.closed o c)
one_stand_fault head r j k (miscounted o s n e) (unsealed o' n' e') = e ∙ sym e'
one_stand_fault head r j k (miscounted o s n e) (miscounted o' s' n' e') = e ∙ sym e'
one_stand_fault head r j k (miscounted o s n e) (earlier o' s' t n' e') = absurd (n t)
one_stand_fault head r j k (earlier o s t n e) (behind_close c e') = absurd (open_and_closed head.closed o c)
one_stand_fault head r j k (earlier o s t n e) (unsealed o' n' e') = absurd (n' s)
one_stand_fault head r j k (earlier o s t n e) (miscounted o' s' n' e') = absurd (n' t)
one_stand_fault head r j k (earlier o s t n e) (earlier o' s' t' n' e') = e ∙ sym e'

pub stand_cause : (head : HeadOf) (r : SealedOf) (kind : RecordKind) (D M P : Type 0) → StandFault head r kind → P → ByCause kind D M P
stand_cause head r kind D M P (behind_close c k) p = caused kind Entry D M P k p
stand_cause head r kind D M P (unsealed o n k) p = caused kind Seal D M P k p
stand_cause head r kind D M P (miscounted o s n k) p = caused kind Seal D M P k p
stand_cause head r kind D M P (earlier o s t n k) p = caused kind Order D M P k p
