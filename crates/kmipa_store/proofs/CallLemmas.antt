-- What each call of a ledger leaves, whatever it answers.
use Rattle.std.proofs.Common.{◌≡◌, ◌<◌, ◌≤◌, ℕ, List, [], ◌∷◌, length, None, Result, Ok, Err, refl, ap, ◌∙◌, subst, arith, length-append}
use Rattle.kmipa_object.specs.declared.life.Life.{Life}
use Rattle.kmipa_object.specs.declared.life.SecretNo.{SecretNo}
use Rattle.kmipa_object.specs.declared.rule.Rule.{Rule}
use Rattle.kmipa_store.specs.Ledger.{Held, Meaning, LedgerState, marked, undone, undone_from}
use Rattle.kmipa_store.specs.Memory.{RefusedForMemory}
use Rattle.kmipa_store.specs.Calls.{Adds, Replaces, Renews, MakesSecret, Learns, SetsAside, TakesIn, SetsMark}
use Rattle.kmipa_store.specs.declared.fault.StoreFault.{StoreFault}
use Rattle.kmipa_store.specs.declared.fault.StoreFault.TheVariants.{IdentifierTaken, BytesDiffer, LengthImpossible, Memory}
use Rattle.kmipa_store.specs.declared.ledger.Mark.{Mark}
use Rattle.kmipa_store.proofs.ChoiceLemmas.{length-told}

refused_same : (fault : StoreFault) (s t : LedgerState) → RefusedForMemory fault s t → t ≡ s
refused_same IdentifierTaken s t h = absurd h
refused_same BytesDiffer s t h = absurd h
refused_same LengthImpossible s t h = absurd h
refused_same Memory s t h = h

-- `add` leaves the secrets and the marks
pub adds_secrets : (s : LedgerState) (h : Held) (r : Result ℕ StoreFault) (t : LedgerState) → Adds s h r t → (t.now.secrets ≡ s.now.secrets) × (t.marks ≡ s.marks)
adds_secrets s h (Ok place) t a = (ap (λ (x : LedgerState). x.now.secrets) a.2, ap (λ (x : LedgerState). x.marks) a.2)
adds_secrets s h (Err IdentifierTaken) t a = (ap (λ (x : LedgerState). x.now.secrets) a.1, ap (λ (x : LedgerState). x.marks) a.1)
adds_secrets s h (Err BytesDiffer) t a = absurd a
adds_secrets s h (Err LengthImpossible) t a = absurd a
adds_secrets s h (Err Memory) t a = (ap (λ (x : LedgerState). x.now.secrets) a.1, ap (λ (x : LedgerState). x.marks) a.1)

-- so does `replace`
pub replaces_secrets : (s : LedgerState) (place : ℕ) (life : Life) (r : Result (Unit {0}) StoreFault) (t : LedgerState) → Replaces s place life r t → (t.now.secrets ≡ s.now.secrets) × (t.marks ≡ s.marks)
replaces_secrets s place life (Ok u) t a = (ap (λ (x : LedgerState). x.now.secrets) a, ap (λ (x : LedgerState). x.marks) a)
replaces_secrets s place life (Err fault) t a = let e = refused_same fault s t a in (ap (λ (x : LedgerState). x.now.secrets) e, ap (λ (x : LedgerState). x.marks) e)

-- `new_secret` leaves the objects and the marks, and no fewer secrets
pub makes_more : (s : LedgerState) (rule : Rule) (r : Result SecretNo StoreFault) (t : LedgerState) → MakesSecret s rule r t
    → (length s.now.secrets ≤ length t.now.secrets) × (t.now.objects ≡ s.now.objects) × (t.marks ≡ s.marks)
makes_more s rule (Ok secret) t a =
    (omega (arith, ap (λ (x : LedgerState). length x.now.secrets) a.2, length-append s.now.secrets (record { rule = rule; bytes = None } ∷ [])), ap (λ (x : LedgerState). x.now.objects) a.2, ap (λ (x : LedgerState). x.marks) a.2)
makes_more s rule (Err IdentifierTaken) t a = absurd a
makes_more s rule (Err BytesDiffer) t a = absurd a
makes_more s rule (Err LengthImpossible) t a = (omega (arith, ap (λ (x : LedgerState). length x.now.secrets) a.1), ap (λ (x : LedgerState). x.now.objects) a.1, ap (λ (x : LedgerState). x.marks) a.1)
makes_more s rule (Err Memory) t a = (omega (arith, ap (λ (x : LedgerState). length x.now.secrets) a.1), ap (λ (x : LedgerState). x.now.objects) a.1, ap (λ (x : LedgerState). x.marks) a.1)

-- and the secret that it makes is there
pub makes_there : (s : LedgerState) (rule : Rule) (r : Result SecretNo StoreFault) (secret : SecretNo) (t : LedgerState) → MakesSecret s rule r t → r ≡ Ok secret → secret.number < length t.now.secrets
makes_there s rule r secret t a e =
    let P : Result SecretNo StoreFault → Type 0 = λ x. MakesSecret s rule x t in
    let b = subst P e a in
    omega (arith, b.1, ap (λ (x : LedgerState). length x.now.secrets) b.2, length-append s.now.secrets (record { rule = rule; bytes = None } ∷ []))

-- `learn` leaves the objects, the marks, and as many secrets
pub learns_length : (s : LedgerState) (number : ℕ) (bytes : List ℕ) (r : Result (Unit {0}) StoreFault) (t : LedgerState) → Learns s number bytes r t
    → (length t.now.secrets ≡ length s.now.secrets) × (t.now.objects ≡ s.now.objects) × (t.marks ≡ s.marks)
learns_length s number bytes (Ok u) t a =
    (ap (λ (x : LedgerState). length x.now.secrets) a.2 ∙ length-told s.now.secrets number bytes, ap (λ (x : LedgerState). x.now.objects) a.2, ap (λ (x : LedgerState). x.marks) a.2)
learns_length s number bytes (Err IdentifierTaken) t a = absurd a
learns_length s number bytes (Err BytesDiffer) t a = (ap (λ (x : LedgerState). length x.now.secrets) a.1, ap (λ (x : LedgerState). x.now.objects) a.1, ap (λ (x : LedgerState). x.marks) a.1)
learns_length s number bytes (Err LengthImpossible) t a = (ap (λ (x : LedgerState). length x.now.secrets) a.1, ap (λ (x : LedgerState). x.now.objects) a.1, ap (λ (x : LedgerState). x.marks) a.1)
learns_length s number bytes (Err Memory) t a = (ap (λ (x : LedgerState). length x.now.secrets) a.2, ap (λ (x : LedgerState). x.now.objects) a.2, ap (λ (x : LedgerState). x.marks) a.2)

-- `renew` leaves the secrets and the marks
pub renews_secrets : (s : LedgerState) (place : ℕ) (h : Held) (r : Result (Unit {0}) StoreFault) (t : LedgerState) → Renews s place h r t → (t.now.secrets ≡ s.now.secrets) × (t.marks ≡ s.marks)
renews_secrets s place h (Ok u) t a = (ap (λ (x : LedgerState). x.now.secrets) a, ap (λ (x : LedgerState). x.marks) a)
renews_secrets s place h (Err fault) t a = let e = refused_same fault s t a in (ap (λ (x : LedgerState). x.now.secrets) e, ap (λ (x : LedgerState). x.marks) e)

-- `set_aside` and `take_in` leave the objects, the secrets and the marks
pub sets_aside_same : (s : LedgerState) (id : List ℕ) (r : Result (Unit {0}) StoreFault) (t : LedgerState) → SetsAside s id r t
    → (t.now.objects ≡ s.now.objects) × (t.now.secrets ≡ s.now.secrets) × (t.marks ≡ s.marks)
sets_aside_same s id (Ok u) t a = (ap (λ (x : LedgerState). x.now.objects) a, ap (λ (x : LedgerState). x.now.secrets) a, ap (λ (x : LedgerState). x.marks) a)
sets_aside_same s id (Err fault) t a =
    let e = refused_same fault s t a in
    (ap (λ (x : LedgerState). x.now.objects) e, ap (λ (x : LedgerState). x.now.secrets) e, ap (λ (x : LedgerState). x.marks) e)

pub takes_in_same : (s : LedgerState) (id : List ℕ) (r : Result (Unit {0}) StoreFault) (t : LedgerState) → TakesIn s id r t
    → (t.now.objects ≡ s.now.objects) × (t.now.secrets ≡ s.now.secrets) × (t.marks ≡ s.marks)
takes_in_same s id (Ok u) t a = (ap (λ (x : LedgerState). x.now.objects) a, ap (λ (x : LedgerState). x.now.secrets) a, ap (λ (x : LedgerState). x.marks) a)
takes_in_same s id (Err fault) t a =
    let e = refused_same fault s t a in
    (ap (λ (x : LedgerState). x.now.objects) e, ap (λ (x : LedgerState). x.now.secrets) e, ap (λ (x : LedgerState). x.marks) e)

-- `mark` changes nothing but the marks
pub marks_now : (s : LedgerState) (r : Result Mark StoreFault) (t : LedgerState) → SetsMark s r t → t.now ≡ s.now
marks_now s (Ok mark) t a = ap (λ (x : LedgerState). x.now) a.1
marks_now s (Err fault) t a = ap (λ (x : LedgerState). x.now) (refused_same fault s t a)

pub marks_more : (s : LedgerState) (r : Result Mark StoreFault) (mark : Mark) (t : LedgerState) → SetsMark s r t → r ≡ Ok mark → t ≡ marked s
marks_more s r mark t a e = let P : Result Mark StoreFault → Type 0 = λ x. SetsMark s x t in (subst P e a).1

-- `undo` leaves the secrets
undone_keeps : (now : Meaning) (marks : List Meaning) → (undone_from now marks).now.secrets ≡ now.secrets
undone_keeps now [] = refl
undone_keeps now (m ∷ marks) = refl

pub undone-secrets : (s : LedgerState) → (undone s).now.secrets ≡ s.now.secrets
undone-secrets s = undone_keeps s.now s.marks
