-- Facts by the cause of a fault.
use Rattle.std.proofs.Common.{◌≡◌, ◌≢◌, Option, None, Some, IfSome, refl, subst, sym}
use Rattle.kmipa_ttlv.specs.Reading as read
use Rattle.kmipa_ttlv.specs.declared.fault.FaultKind.{FaultKind}
use Rattle.kmipa_ttlv.specs.declared.fault.FaultKind.TheVariants as flaw
use Rattle.kmipa_record.specs.Kinds.{ByCause}
use Rattle.kmipa_record.specs.Reading.{record_kind}
use Rattle.kmipa_record.specs.declared.fault.RecordKind.{RecordKind}
use Rattle.kmipa_record.specs.declared.fault.RecordKind.TheVariants.{Ttlv, Header, Number, EndWithoutBegin, SecondEnd, Identifier, Entry, Calls, Device, Memory, Seal, NoClose, Order}

pub ByCause-map : (k : RecordKind) (D D' M M' P P' : Type 0) → (D → D') → (M → M') → (P → P') → ByCause k D M P → ByCause k D' M' P'
ByCause-map Device D D' M M' P P' d m p h = d h
ByCause-map Memory D D' M M' P P' d m p h = m h
ByCause-map (Ttlv x) D D' M M' P P' d m p h = p h
ByCause-map Header D D' M M' P P' d m p h = p h
ByCause-map Number D D' M M' P P' d m p h = p h
ByCause-map EndWithoutBegin D D' M M' P P' d m p h = p h
ByCause-map SecondEnd D D' M M' P P' d m p h = p h
ByCause-map Identifier D D' M M' P P' d m p h = p h
ByCause-map Entry D D' M M' P P' d m p h = p h
ByCause-map Calls D D' M M' P P' d m p h = p h
ByCause-map Seal D D' M M' P P' d m p h = p h
ByCause-map NoClose D D' M M' P P' d m p h = p h
ByCause-map Order D D' M M' P P' d m p h = p h

-- what is reported of bytes
pub reported_of_bytes : (k : FaultKind) (D M P : Type 0) → k ≢ flaw.Device → k ≢ flaw.Memory → read.ByCause k D M P → P
reported_of_bytes flaw.Device D M P d m h = absurd (d refl)
reported_of_bytes flaw.Memory D M P d m h = absurd (m refl)
reported_of_bytes flaw.Truncated D M P d m h = h
reported_of_bytes flaw.UnknownType D M P d m h = h
reported_of_bytes flaw.BadLength D M P d m h = h
reported_of_bytes flaw.BadBoolean D M P d m h = h
reported_of_bytes flaw.BadText D M P d m h = h
reported_of_bytes flaw.Overrun D M P d m h = h
reported_of_bytes flaw.TooDeep D M P d m h = h
reported_of_bytes flaw.TooLong D M P d m h = h

pub IfSome-map : {A : Type 0} (o : Option A) (P Q : A → Type 0) → ((x : A) → P x → Q x) → IfSome o P → IfSome o Q
IfSome-map None P Q f h = tt
IfSome-map (Some x) P Q f h = f x h

-- a fault of a read, as one of a file
pub cause_same : (k : FaultKind) (D M P : Type 0) (Q : RecordKind → Type 0) → (k ≢ flaw.Device → k ≢ flaw.Memory → P → Q (Ttlv k)) → read.ByCause k D M P → ByCause (record_kind k) D M (Q (record_kind k))
cause_same flaw.Device D M P Q f h = h
cause_same flaw.Memory D M P Q f h = h
cause_same flaw.Truncated D M P Q f h = f (λ e. absurd cc) (λ e. absurd cc) h
cause_same flaw.UnknownType D M P Q f h = f (λ e. absurd cc) (λ e. absurd cc) h
cause_same flaw.BadLength D M P Q f h = f (λ e. absurd cc) (λ e. absurd cc) h
cause_same flaw.BadBoolean D M P Q f h = f (λ e. absurd cc) (λ e. absurd cc) h
cause_same flaw.BadText D M P Q f h = f (λ e. absurd cc) (λ e. absurd cc) h
cause_same flaw.Overrun D M P Q f h = f (λ e. absurd cc) (λ e. absurd cc) h
cause_same flaw.TooDeep D M P Q f h = f (λ e. absurd cc) (λ e. absurd cc) h
cause_same flaw.TooLong D M P Q f h = f (λ e. absurd cc) (λ e. absurd cc) h

-- a fact of the kind that is reported, as one of what was caused
pub caused : (k why : RecordKind) (D M P : Type 0) → k ≡ why → ByCause why D M P → ByCause k D M P
caused k why D M P e h = subst (λ (x : RecordKind). ByCause x D M P) (sym e) h

pub IfSome-always : {A : Type 0} (o : Option A) (P : A → Type 0) → ((x : A) → P x) → IfSome o P
IfSome-always None P f = tt
IfSome-always (Some x) P f = f x
