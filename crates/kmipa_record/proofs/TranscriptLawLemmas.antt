-- Bytes are one transcript, or have one first fault.
use Rattle.std.proofs.Common.{true, ◌≡◌, ◌≢◌, ◌<◌, ℕ, ℤ, pos, ◌≤ℤ◌, ◌<ℤ◌, List, [], ◌∷◌, ◌++◌, length, map, inl, inr, refl, sym, ap, subst, ◌∙◌, arith}
use Rattle.std.specs.Prelude.{Contains, AllPairs}
use Rattle.std.proofs.lemmas.Int.{ints}
use Rattle.std.proofs.lemmas.List.{length-append}
use Rattle.std.proofs.lemmas.List.Elements.{Contains-append_right, All-contains}
use Rattle.std.proofs.Math.ListN.{get_or-append}
use Rattle.std.proofs.Math.Seq.{get_or-append_seam}
use Rattle.kmipa_ttlv.specs.Tree.{Tree}
use Rattle.kmipa_record.specs.Marks.{MarkOf, begins, ends, call_of, mark_item, begun, IsCallNumber, AreRecorded, MarkFault, BeginFault, EndFault, below_one, used, one_too_many, end_below_one, not_begun, ended_before}
use Rattle.kmipa_record.specs.Seals.{sealed_header, ContentOf, marked, SealedOf, HeadOf, StandFault, marks_in, marks_of, sealed_items}
use Rattle.kmipa_record.specs.Transcripts.{transcript_header, plain_items, SealedUpTo, AreMarks, plain, sealed, IsTranscript, AreRightInTranscript, IsNoRecord, no_header, no_mark, no_record, misplaced, IsMarkAfter, plain_mark, sealed_mark, TranscriptItemFault, of_record, of_mark, TranscriptEndFault, without_header, unclosed, TranscriptFault}
use Rattle.kmipa_record.specs.declared.fault.RecordKind.{RecordKind}
use Rattle.kmipa_record.proofs.MarkLemmas.{begun-append}
use Rattle.kmipa_record.proofs.FirstFaultLemmas.{no_fault, one_fault, nothing_more, cut_values, values_once, compare, same, shorter, longer}
use Rattle.kmipa_record.proofs.SealLemmas.{marks_of-append, run_once, cut_run, next_once, next_said, open_and_closed, may_no_fault, one_stand_fault}

-- ---- marks and their items

mark_item_once : (a b : MarkOf) → mark_item a ≡ mark_item b → a ≡ b
mark_item_once (begins call client message) (begins call' client' message') e = cc
mark_item_once (begins call client message) (ends call' message') e = absurd cc
mark_item_once (ends call message) (begins call' client' message') e = absurd cc
mark_item_once (ends call message) (ends call' message') e = cc

items_once : (xs ys : List MarkOf) → map mark_item xs ≡ map mark_item ys → xs ≡ ys
items_once = values_once mark_item mark_item_once

-- ---- marks in order have no fault

number_at : (before after : List MarkOf) (mark : MarkOf) → AreRecorded (before ++ mark ∷ after) → IsCallNumber (call_of mark)
number_at before after mark order =
    All-contains (λ m. IsCallNumber (call_of m)) (before ++ mark ∷ after) mark order.numbered (Contains-append_right before (mark ∷ after) mark (0, omega arith, refl))

pub not_below : (call : ℤ) → pos 1 ≤ℤ call → call <ℤ pos 1 → ⊥
not_below call a b = absurd (omega (arith, ints))

begun_before : (before after : List MarkOf) (call : ℤ) (client message : List ℕ) → AreRecorded (before ++ begins call client message ∷ after) → Contains (begun before) call → ⊥
begun_before before after call client message order c =
    let e = begun-append before (begins call client message ∷ after) in
    let once : AllPairs (λ a b. a ≢ b) (begun before ++ call ∷ begun after) = subst (AllPairs (λ a b. a ≢ b)) e order.once in
    let long : length (begun before) < length (begun before ++ call ∷ begun after) = omega (arith, length-append (begun before) (call ∷ begun after)) in
    once c.0 (length (begun before)) call c.1 long
    (get_or-append (begun before) (call ∷ begun after) call c.0 c.1 ∙ c.2 ∙ sym (get_or-append_seam (begun before) call (begun after) call))

no_begin_fault : (before after : List MarkOf) (call : ℤ) (client message : List ℕ) (kind : RecordKind) → AreRecorded (before ++ begins call client message ∷ after) → BeginFault before call kind → ⊥
no_begin_fault before after call client message kind order (below_one h k) = not_below call (number_at before after (begins call client message) order).least h
no_begin_fault before after call client message kind order (used c k) = begun_before before after call client message order c
no_begin_fault before after call client message kind order (one_too_many h n many k) =
    absurd (omega (arith, order.few, ap length (begun-append before (begins call client message ∷ after)), length-append (begun before) (call ∷ begun after), many))

no_end_fault : (before after : List MarkOf) (call : ℤ) (message : List ℕ) (kind : RecordKind) → AreRecorded (before ++ ends call message ∷ after) → EndFault before call kind → ⊥
no_end_fault before after call message kind order (end_below_one h k) = not_below call (number_at before after (ends call message) order).least h
no_end_fault before after call message kind order (not_begun h n k) = n (order.answered before after call message refl).0
no_end_fault before after call message kind order (ended_before h c d k) = (order.answered before after call message refl).1 d

pub no_mark_fault : (before after : List MarkOf) (mark : MarkOf) (kind : RecordKind) → AreRecorded (before ++ mark ∷ after) → MarkFault before mark kind → ⊥
no_mark_fault before after (begins call client message) kind order f = no_begin_fault before after call client message kind order f
no_mark_fault before after (ends call message) kind order f = no_end_fault before after call message kind order f

-- ---- headers

-- an item of a list that ends with one more
some_item : (items more : List Tree) (item : Tree) → items ++ item ∷ more ≡ [] → ⊥
some_item [] more item e = absurd cc
some_item (x ∷ items) more item e = absurd cc

pub plain_not_sealed : (file : List ℕ) (items : List Tree) (marks : List MarkOf) → items ≡ plain_items marks → SealedUpTo file items → ⊥
plain_not_sealed file items marks e run =
    let both : plain_items marks ≡ sealed_items run.label run.records = sym e ∙ run.items_are in
    let headers : transcript_header ≡ sealed_header run.label = cc in
    absurd cc

plain_some : (items : List Tree) (marks : List MarkOf) → items ≡ [] → items ≡ plain_items marks → ⊥
plain_some items marks none e = absurd (let both : [] ≡ plain_items marks = sym none ∙ e in cc)

sealed_some : (file : List ℕ) (items : List Tree) → items ≡ [] → SealedUpTo file items → ⊥
sealed_some file items none run = absurd (let both : [] ≡ sealed_items run.label run.records = sym none ∙ run.items_are in cc)

header_differs : (file : List ℕ) (marks : List MarkOf) (header : Tree) (items more : List Tree) → (header ∷ items) ++ more ≡ plain_items marks → SealedUpTo file (header ∷ items) → ⊥
header_differs file marks header items more e run =
    let both : header ∷ items ≡ sealed_items run.label run.records = run.items_are in
    let first : header ≡ sealed_header run.label = cc in
    let other : header ≡ transcript_header = cc in
    let headers : transcript_header ≡ sealed_header run.label = sym other ∙ first in
    absurd cc

-- ---- what is right has no fault

no_plain_fault : (file : List ℕ) (marks : List MarkOf) (items more : List Tree) (item : Tree) (kind : RecordKind) → AreRecorded marks → items ++ item ∷ more ≡ plain_items marks
    → TranscriptItemFault file items item kind → ⊥
no_plain_fault file marks [] more item kind recorded e (of_record (no_header none n k)) = n (inl (let first : item ≡ transcript_header = cc in first))
no_plain_fault file marks [] more item kind recorded e (of_record (no_mark before f n k)) = plain_some [] before refl f
no_plain_fault file marks [] more item kind recorded e (of_record (no_record run n k)) = sealed_some file [] refl run
no_plain_fault file marks [] more item kind recorded e (of_record (misplaced run r next f)) = sealed_some file [] refl run
no_plain_fault file marks [] more item kind recorded e (of_mark before mark (plain_mark f is) fault) = plain_some [] before refl f
no_plain_fault file marks [] more item kind recorded e (of_mark before mark (sealed_mark run r next may c is) fault) = sealed_some file [] refl run
no_plain_fault file marks (header ∷ items) more item kind recorded e (of_record (no_header none n k)) = absurd cc
no_plain_fault file marks (header ∷ items) more item kind recorded e (of_record (no_mark before f n k)) =
    let tail : items ++ item ∷ more ≡ map mark_item marks = cc in
    let cut = cut_values mark_item marks items more item tail in
    n cut.value cut.item_is
no_plain_fault file marks (header ∷ items) more item kind recorded e (of_record (no_record run n k)) = header_differs file marks header items (item ∷ more) e run
no_plain_fault file marks (header ∷ items) more item kind recorded e (of_record (misplaced run r next f)) = header_differs file marks header items (item ∷ more) e run
no_plain_fault file marks (header ∷ items) more item kind recorded e (of_mark before mark (plain_mark f is) fault) =
    let tail : items ++ item ∷ more ≡ map mark_item marks = cc in
    let front : items ≡ map mark_item before = cc in
    let cut = cut_values mark_item marks items more item tail in
    let ahead : cut.before ≡ before = items_once cut.before before (sym cut.items_are ∙ front) in
    let one : cut.value ≡ mark = mark_item_once cut.value mark (sym cut.item_is ∙ is) in
    let order : AreRecorded (cut.before ++ cut.value ∷ cut.after) = subst AreRecorded cut.are recorded in
    no_mark_fault cut.before cut.after cut.value kind order
    (subst (λ (l : List MarkOf). MarkFault l cut.value kind) (sym ahead) (subst (λ (m : MarkOf). MarkFault before m kind) (sym one) fault))
no_plain_fault file marks (header ∷ items) more item kind recorded e (of_mark before mark (sealed_mark run r next may c is) fault) = header_differs file marks header items (item ∷ more) e run

no_sealed_fault : (file : List ℕ) (items more : List Tree) (item : Tree) (kind : RecordKind) (run : SealedUpTo file (items ++ item ∷ more)) → AreRecorded (marks_of run.records)
    → TranscriptItemFault file items item kind → ⊥
no_sealed_fault file [] more item kind run recorded (of_record (no_header none n k)) =
    let whole : item ∷ more ≡ sealed_items run.label run.records = run.items_are in
    let first : item ≡ sealed_header run.label = cc in
    n (inr (run.label, run.sealed.labelled, first))
no_sealed_fault file [] more item kind run recorded (of_record (no_mark before f n k)) = plain_some [] before refl f
no_sealed_fault file [] more item kind run recorded (of_record (no_record other n k)) = sealed_some file [] refl other
no_sealed_fault file [] more item kind run recorded (of_record (misplaced other r next f)) = sealed_some file [] refl other
no_sealed_fault file [] more item kind run recorded (of_mark before mark (plain_mark f is) fault) = plain_some [] before refl f
no_sealed_fault file [] more item kind run recorded (of_mark before mark (sealed_mark other r next may c is) fault) = sealed_some file [] refl other
no_sealed_fault file (header ∷ items) more item kind run recorded (of_record (no_header none n k)) = absurd cc
no_sealed_fault file (header ∷ items) more item kind run recorded (of_record (no_mark before f n k)) =
    plain_not_sealed file (header ∷ items) before f (cut_run file header item items more run).run
no_sealed_fault file (header ∷ items) more item kind run recorded (of_record (no_record other n k)) =
    let cut = cut_run file header item items more run in n cut.next_record (next_said cut.next_record item cut.run.rest cut.next)
no_sealed_fault file (header ∷ items) more item kind run recorded (of_record (misplaced other r next f)) =
    let cut = cut_run file header item items more run in
    let once = run_once file (header ∷ items) other cut.run in
    let same : r ≡ cut.next_record = next_once r cut.next_record item other.rest cut.run.rest once.rest next cut.next in
    may_no_fault cut.run.head cut.next_record kind cut.may
    (subst (λ (x : SealedOf). StandFault cut.run.head x kind) same (subst (λ (h : HeadOf). StandFault h r kind) once.head f))
no_sealed_fault file (header ∷ items) more item kind run recorded (of_mark before mark (plain_mark f is) fault) =
    plain_not_sealed file (header ∷ items) before f (cut_run file header item items more run).run
no_sealed_fault file (header ∷ items) more item kind run recorded (of_mark before mark (sealed_mark other r next may c is) fault) =
    let cut = cut_run file header item items more run in
    let once = run_once file (header ∷ items) other cut.run in
    let same : r ≡ cut.next_record = next_once r cut.next_record item other.rest cut.run.rest once.rest next cut.next in
    let holds : cut.next_record.content ≡ marked mark = sym (ap (λ (x : SealedOf). x.content) same) ∙ c in
    let ahead : before ≡ marks_of cut.run.records = is ∙ ap marks_of once.records in
    let parts : marks_of run.records ≡ before ++ mark ∷ marks_of cut.after =
    ap marks_of cut.records_are ∙ marks_of-append cut.run.records (cut.next_record ∷ cut.after)
    ∙ ap (λ (x : ContentOf). marks_of cut.run.records ++ (marks_in x ++ marks_of cut.after)) holds
    ∙ ap (λ (l : List MarkOf). l ++ mark ∷ marks_of cut.after) (sym ahead) in
    no_mark_fault before (marks_of cut.after) mark kind (subst AreRecorded parts recorded) fault

no_faulty_of : (file : List ℕ) (marks : List MarkOf) (items more : List Tree) (item : Tree) (kind : RecordKind) → AreRecorded marks → AreMarks file marks (items ++ item ∷ more)
    → TranscriptItemFault file items item kind → ⊥
no_faulty_of file marks items more item kind recorded (plain e) f = no_plain_fault file marks items more item kind recorded e f
no_faulty_of file marks items more item kind recorded (sealed run e) f = no_sealed_fault file items more item kind run (subst AreRecorded e recorded) f

no_faulty : (file : List ℕ) (items more : List Tree) (item : Tree) (kind : RecordKind) → AreRightInTranscript file (items ++ item ∷ more) → TranscriptItemFault file items item kind → ⊥
no_faulty file items more item kind (inl none) f = some_item items more item none
no_faulty file items more item kind (inr right) f = no_faulty_of file right.0 items more item kind right.2 right.1 f

-- ---- a mark has one fault

one_begin_fault : (before : List MarkOf) (call : ℤ) (j k : RecordKind) → BeginFault before call j → BeginFault before call k → j ≡ k
one_begin_fault before call j k (below_one h e) (below_one h' e') = e ∙ sym e'
one_begin_fault before call j k (below_one h e) (used c e') = e ∙ sym e'
one_begin_fault before call j k (below_one h e) (one_too_many a n m e') = absurd (not_below call a h)
one_begin_fault before call j k (used c e) (below_one h e') = e ∙ sym e'
one_begin_fault before call j k (used c e) (used c' e') = e ∙ sym e'
one_begin_fault before call j k (used c e) (one_too_many a n m e') = absurd (n c)
one_begin_fault before call j k (one_too_many a n m e) (below_one h e') = absurd (not_below call a h)
one_begin_fault before call j k (one_too_many a n m e) (used c e') = absurd (n c)
one_begin_fault before call j k (one_too_many a n m e) (one_too_many a' n' m' e') = e ∙ sym e'

one_end_fault : (before : List MarkOf) (call : ℤ) (j k : RecordKind) → EndFault before call j → EndFault before call k → j ≡ k
one_end_fault before call j k (end_below_one h e) (end_below_one h' e') = e ∙ sym e'
one_end_fault before call j k (end_below_one h e) (not_begun a n e') = absurd (not_below call a h)
one_end_fault before call j k (end_below_one h e) (ended_before a c d e') = absurd (not_below call a h)
one_end_fault before call j k (not_begun a n e) (end_below_one h e') = absurd (not_below call a h)
one_end_fault before call j k (not_begun a n e) (not_begun a' n' e') = e ∙ sym e'
one_end_fault before call j k (not_begun a n e) (ended_before a' c d e') = absurd (n c)
one_end_fault before call j k (ended_before a c d e) (end_below_one h e') = absurd (not_below call a h)
one_end_fault before call j k (ended_before a c d e) (not_begun a' n e') = absurd (n c)
one_end_fault before call j k (ended_before a c d e) (ended_before a' c' d' e') = e ∙ sym e'

one_mark_fault : (before : List MarkOf) (mark : MarkOf) (j k : RecordKind) → MarkFault before mark j → MarkFault before mark k → j ≡ k
one_mark_fault before (begins call client message) j k f g = one_begin_fault before call j k f g
one_mark_fault before (ends call message) j k f g = one_end_fault before call j k f g

one_record : (file : List ℕ) (items : List Tree) (item : Tree) (j k : RecordKind) → IsNoRecord file items item j → IsNoRecord file items item k → j ≡ k
one_record file items item j k (no_header none n e) (no_header none' n' e') = e ∙ sym e'
one_record file items item j k (no_header none n e) (no_mark before f n' e') = absurd (plain_some items before none f)
one_record file items item j k (no_header none n e) (no_record run n' e') = absurd (sealed_some file items none run)
one_record file items item j k (no_header none n e) (misplaced run r next f) = absurd (sealed_some file items none run)
one_record file items item j k (no_mark before f n e) (no_header none n' e') = absurd (plain_some items before none f)
one_record file items item j k (no_mark before f n e) (no_mark before' f' n' e') = e ∙ sym e'
one_record file items item j k (no_mark before f n e) (no_record run n' e') = absurd (plain_not_sealed file items before f run)
one_record file items item j k (no_mark before f n e) (misplaced run r next g) = absurd (plain_not_sealed file items before f run)
one_record file items item j k (no_record run n e) (no_header none n' e') = absurd (sealed_some file items none run)
one_record file items item j k (no_record run n e) (no_mark before f n' e') = absurd (plain_not_sealed file items before f run)
one_record file items item j k (no_record run n e) (no_record run' n' e') = e ∙ sym e'
one_record file items item j k (no_record run n e) (misplaced run' r next g) = absurd (n r (next_said r item run'.rest next))
one_record file items item j k (misplaced run r next f) (no_header none n e) = absurd (sealed_some file items none run)
one_record file items item j k (misplaced run r next f) (no_mark before g n e) = absurd (plain_not_sealed file items before g run)
one_record file items item j k (misplaced run r next f) (no_record run' n e) = absurd (n r (next_said r item run.rest next))
one_record file items item j k (misplaced run r next f) (misplaced run' r' next' f') =
    let once = run_once file items run run' in
    let same : r ≡ r' = next_once r r' item run.rest run'.rest once.rest next next' in
    one_stand_fault run'.head r' j k (subst (λ (x : SealedOf). StandFault run'.head x j) same (subst (λ (h : HeadOf). StandFault h r j) once.head f)) f'

no_record_no_mark : (file : List ℕ) (before : List MarkOf) (items : List Tree) (mark : MarkOf) (item : Tree) (kind : RecordKind) → IsNoRecord file items item kind
    → IsMarkAfter file before items mark item → ⊥
no_record_no_mark file before items mark item kind (no_header none n e) (plain_mark f is) = plain_some items before none f
no_record_no_mark file before items mark item kind (no_header none n e) (sealed_mark run r next may c is) = sealed_some file items none run
no_record_no_mark file before items mark item kind (no_mark others f n e) (plain_mark g is) = n mark is
no_record_no_mark file before items mark item kind (no_mark others f n e) (sealed_mark run r next may c is) = plain_not_sealed file items others f run
no_record_no_mark file before items mark item kind (no_record run n e) (plain_mark f is) = plain_not_sealed file items before f run
no_record_no_mark file before items mark item kind (no_record run n e) (sealed_mark run' r next may c is) = n r (next_said r item run'.rest next)
no_record_no_mark file before items mark item kind (misplaced run r next f) (plain_mark g is) = plain_not_sealed file items before g run
no_record_no_mark file before items mark item kind (misplaced run r next f) (sealed_mark run' r' next' may c is) =
    let once = run_once file items run run' in
    let same : r ≡ r' = next_once r r' item run.rest run'.rest once.rest next next' in
    may_no_fault run'.head r' kind may (subst (λ (x : SealedOf). StandFault run'.head x kind) same (subst (λ (h : HeadOf). StandFault h r kind) once.head f))

one_mark : (file : List ℕ) (before before' : List MarkOf) (items : List Tree) (mark mark' : MarkOf) (item : Tree) → IsMarkAfter file before items mark item
    → IsMarkAfter file before' items mark' item → (before ≡ before') × (mark ≡ mark')
one_mark file before before' items mark mark' item (plain_mark e is) (plain_mark e' is') =
    let both : plain_items before ≡ plain_items before' = sym e ∙ e' in
    let tails : map mark_item before ≡ map mark_item before' = cc in
    (items_once before before' tails, mark_item_once mark mark' (sym is ∙ is'))
one_mark file before before' items mark mark' item (plain_mark e is) (sealed_mark run r next may c f) = absurd (plain_not_sealed file items before e run)
one_mark file before before' items mark mark' item (sealed_mark run r next may c f) (plain_mark e is) = absurd (plain_not_sealed file items before' e run)
one_mark file before before' items mark mark' item (sealed_mark run r next may c f) (sealed_mark run' r' next' may' c' f') =
    let once = run_once file items run run' in
    let same : r ≡ r' = next_once r r' item run.rest run'.rest once.rest next next' in
    let both : marked mark ≡ marked mark' = sym c ∙ ap (λ (x : SealedOf). x.content) same ∙ c' in
    (f ∙ ap marks_of once.records ∙ sym f', cc)

one_item : (file : List ℕ) (items : List Tree) (item : Tree) (j k : RecordKind) → TranscriptItemFault file items item j → TranscriptItemFault file items item k → j ≡ k
one_item file items item j k (of_record f) (of_record g) = one_record file items item j k f g
one_item file items item j k (of_record f) (of_mark before mark is g) = absurd (no_record_no_mark file before items mark item j f is)
one_item file items item j k (of_mark before mark is f) (of_record g) = absurd (no_record_no_mark file before items mark item k g is)
one_item file items item j k (of_mark before mark is f) (of_mark before' mark' is' g) =
    let one = one_mark file before before' items mark mark' item is is' in
    one_mark_fault before' mark' j k (subst (λ (m : MarkOf). MarkFault before' m j) one.1 (subst (λ (l : List MarkOf). MarkFault l mark j) one.0 f)) g

one_end : (bytes : List ℕ) (items : List Tree) (o p : ℕ) (j k : RecordKind) → TranscriptEndFault bytes items o j → TranscriptEndFault bytes items p k → (o ≡ p) × (j ≡ k)
one_end bytes items o p j k (without_header none f e) (without_header none' g e') = (f ∙ sym g, e ∙ sym e')
one_end bytes items o p j k (without_header none f e) (unclosed run c g e') = absurd (sealed_some bytes items none run)
one_end bytes items o p j k (unclosed run c f e) (without_header none g e') = absurd (sealed_some bytes items none run)
one_end bytes items o p j k (unclosed run c f e) (unclosed run' c' g e') = (f ∙ sym g, e ∙ sym e')

-- ---- the laws

pub one_transcript_fault_lem : (bytes : List ℕ) (o p : ℕ) (j k : RecordKind) → TranscriptFault bytes o j → TranscriptFault bytes p k → (o ≡ p) × (j ≡ k)
one_transcript_fault_lem bytes = one_fault (AreRightInTranscript bytes) (TranscriptItemFault bytes) TranscriptEndFault (no_faulty bytes) (one_item bytes) one_end bytes

marks_some : (bytes : List ℕ) (marks : List MarkOf) (items : List Tree) → items ≡ [] → AreMarks bytes marks items → ⊥
marks_some bytes marks items none (plain e) = plain_some items marks none e
marks_some bytes marks items none (sealed run e) = sealed_some bytes items none run

ends_right : (bytes : List ℕ) (marks : List MarkOf) (items : List Tree) (offset : ℕ) (kind : RecordKind) → AreMarks bytes marks items → ((run : SealedUpTo bytes items) → run.head.closed ≡ true)
    → TranscriptEndFault bytes items offset kind → ⊥
ends_right bytes marks items offset kind are closed (without_header none o k) = marks_some bytes marks items none are
ends_right bytes marks items offset kind are closed (unclosed run c o k) = open_and_closed run.head.closed c (closed run)

pub no_fault_of_transcript_lem : (bytes : List ℕ) (marks : List MarkOf) (offset : ℕ) (kind : RecordKind) → IsTranscript bytes marks → ¬ (TranscriptFault bytes offset kind)
no_fault_of_transcript_lem bytes marks offset kind t =
    no_fault (AreRightInTranscript bytes) (TranscriptItemFault bytes) TranscriptEndFault (no_faulty bytes) bytes t.items offset kind
    (record { right = inr (marks, t.are, t.recorded); begins = t.spelled })
    (ends_right bytes marks t.items offset kind t.are t.closed)

marks_once : (bytes : List ℕ) (marks others : List MarkOf) (items : List Tree) → AreMarks bytes marks items → AreMarks bytes others items → marks ≡ others
marks_once bytes marks others items (plain e) (plain f) =
    let both : plain_items marks ≡ plain_items others = sym e ∙ f in
    items_once marks others (let tail : map mark_item marks ≡ map mark_item others = cc in tail)
marks_once bytes marks others items (plain e) (sealed run f) = absurd (plain_not_sealed bytes items marks e run)
marks_once bytes marks others items (sealed run f) (plain e) = absurd (plain_not_sealed bytes items others e run)
marks_once bytes marks others items (sealed run e) (sealed run' f) = e ∙ ap marks_of (run_once bytes items run run').records ∙ sym f

pub one_transcript_lem : (bytes : List ℕ) (marks others : List MarkOf) → IsTranscript bytes marks → IsTranscript bytes others → marks ≡ others
one_transcript_lem bytes marks others t u =
    elim (compare t.items u.items bytes [] [] t.spelled u.spelled) [
      | same e r ↦ marks_once bytes marks others u.items (subst (AreMarks bytes marks) e t.are) u.are
      | shorter y more e b ↦ absurd (nothing_more y more [] b)
      | longer x more e b ↦ absurd (nothing_more x more [] b)
    ]
