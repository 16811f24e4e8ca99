-- What taking a place comes to.
use Rattle.std.specs.Prelude.{◌≡◌, ℕ, ℤ, true, false, List, [], ◌∷◌, Option, Some, None, Result, Ok, Err, find}
use Rattle.kmipa_store.specs.Ledger.{LedgerState, Meaning}
use Rattle.kmipa_msgs.specs.Messages.{RulesOf, AskOf, AnswerOf}
use Rattle.kmipa_ops.specs.Blame.{frame_speaks, lowest}
use Rattle.kmipa_ops.specs.Explains.{BringsOrShows}
use Rattle.kmipa_ops.specs.Whys.{whys}
use Rattle.kmipa_ops.specs.declared.why.Why.{Why}
use Rattle.kmipa_ops.specs.declared.why.Refusal.{Refusal}
use Rattle.kmipa_ops.specs.declared.why.Refusal.TheVariants.{Impossible, Memory}
use Rattle.kmipa_ops.specs.declared.why.Why.TheVariants.{OperationDiffers}
use Rattle.kmipa_passed.specs.Leaving.{AsideOf as LeftOf, HeldOf, held_of}
use Rattle.kmipa_passed.specs.declared.leaving.Held.{Held}
use Rattle.kmipa_aside.specs.Passed.{PassedOf, DoesPassed, DoesUnread}
use Rattle.kmipa_aside.specs.Becoming.{stand_in}
use Rattle.kmipa_aside.specs.Cases.{case}
use Rattle.kmipa_aside.specs.Does.{DoesExcused, IsExcused}
use Rattle.kmipa_aside.specs.Ever.{DoesPlain, is_plain, judged_by}
use Rattle.kmipa_aside.specs.Listing.{DoesListing, is_listing, listing_speaks}
use Rattle.kmipa_aside.specs.Graves.{grave}
use Rattle.kmipa_aside.specs.Reborn.{DoesReborn, is_reborn, lowest_beside}
use Rattle.kmipa_aside.specs.Explains.{Took, Refutes}
use Rattle.kmipa_aside.specs.declared.case.Case.TheVariants.{AsEver}

-- it tells no bytes
abbrev pub NoBytes : List ℕ → Type 0
NoBytes bytes = ⊥

-- a place that isn't judged: from a ledger `s` and a placeholder to `u` and another. One reason alone speaks against it
abbrev pub TakenPassed : LedgerState → HeldOf → ℤ → PassedOf → Result Held Refusal → LedgerState → Type 0
TakenPassed s before t p (Ok after) u = Took (DoesPassed t p) NoBytes s before u (held_of after)
TakenPassed s before t p (Err (Impossible why)) u = (why ≡ OperationDiffers) × Refutes (DoesPassed t p) s.now before × (u ≡ s)
TakenPassed s before t p (Err Memory) u = u.marks ≡ s.marks

-- a call that can't be read
abbrev pub TakenUnread : {E : Type 0} → LedgerState → ℤ → LeftOf → Result (Unit {0}) E → LedgerState → Type 0
TakenUnread s t left (Ok done) u = (before : HeldOf) → Took (DoesUnread t left) NoBytes s before u before
TakenUnread s t left (Err e) u = u.marks ≡ s.marks

-- the lowest reason against an answer that names another operation, or another item
abbrev pub frame_lowest : AskOf → AnswerOf → Option Why
frame_lowest ask answer = find (λ (why : Why). frame_speaks ask answer why) whys

-- a judged item: it is judged as ever, and nothing is done here; or it is excused
abbrev pub TakenExcused : RulesOf → LedgerState → HeldOf → ℤ → AskOf → AnswerOf → Result (Option Held) Refusal → LedgerState → Type 0
TakenExcused rules s before t ask answer (Ok None) u = (case rules (stand_in s.now) before ask answer ≡ AsEver) × (u ≡ s)
TakenExcused rules s before t ask answer (Ok (Some after)) u = Took (DoesExcused rules t ask answer) NoBytes s before u (held_of after)
TakenExcused rules s before t ask answer (Err (Impossible why)) u =
    IsExcused (case rules (stand_in s.now) before ask answer) × (frame_lowest ask answer ≡ Some why) × Refutes (DoesExcused rules t ask answer) s.now before × (u ≡ s)
TakenExcused rules s before t ask answer (Err Memory) u = u.marks ≡ s.marks

-- what an item tells: the bytes that its request brings, and those that its answer shows
abbrev pub Tells : AskOf → AnswerOf → List ℕ → Type 0
Tells ask answer bytes = BringsOrShows ((ask, answer) ∷ []) bytes

-- a judged item that is judged as ever, and lists nothing that is set aside
abbrev pub TakenAsEver : RulesOf → LedgerState → HeldOf → ℤ → AskOf → AnswerOf → Result Held Refusal → LedgerState → Type 0
TakenAsEver rules s before t ask answer (Ok after) u = Took (DoesPlain rules t ask answer) (Tells ask answer) s before u (held_of after)
TakenAsEver rules s before t ask answer (Err (Impossible why)) u =
    (is_plain rules (stand_in s.now) before ask answer ≡ true) × (lowest rules s.now (judged_by before answer) t ask answer ≡ Some why)
    × Refutes (DoesPlain rules t ask answer) s.now before × (u ≡ s)
TakenAsEver rules s before t ask answer (Err Memory) u = u.marks ≡ s.marks

-- nothing is done here of another one
abbrev pub TakenPlain : RulesOf → LedgerState → HeldOf → ℤ → AskOf → AnswerOf → Result (Option Held) Refusal → LedgerState → Type 0
TakenPlain rules s before t ask answer (Ok None) u = (is_plain rules (stand_in s.now) before ask answer ≡ false) × (u ≡ s)
TakenPlain rules s before t ask answer (Ok (Some after)) u = TakenAsEver rules s before t ask answer (Ok after) u
TakenPlain rules s before t ask answer (Err refusal) u = TakenAsEver rules s before t ask answer (Err refusal) u

-- the lowest reason against a Locate that lists what is set aside
abbrev pub listing_lowest : RulesOf → Meaning → HeldOf → ℤ → AskOf → AnswerOf → Option Why
listing_lowest rules m before t ask answer = find (λ (why : Why). listing_speaks rules m before t ask answer why) whys

-- such a Locate; nothing is done here of another item
abbrev pub TakenListing : RulesOf → LedgerState → HeldOf → ℤ → AskOf → AnswerOf → Result (Option Held) Refusal → LedgerState → Type 0
TakenListing rules s before t ask answer (Ok None) u = (is_listing rules (stand_in s.now) before ask answer ≡ false) × (u ≡ s)
TakenListing rules s before t ask answer (Ok (Some after)) u = Took (DoesListing rules t ask answer) (Tells ask answer) s before u (held_of after)
TakenListing rules s before t ask answer (Err (Impossible why)) u =
    (is_listing rules (stand_in s.now) before ask answer ≡ true) × (listing_lowest rules s.now before t ask answer ≡ Some why) × Refutes (DoesListing rules t ask answer) s.now before
    × (u ≡ s)
TakenListing rules s before t ask answer (Err Memory) u = u.marks ≡ s.marks

-- a judged item whose new object takes the place of a body; nothing is done here of another
abbrev pub TakenReborn : RulesOf → LedgerState → HeldOf → ℤ → AskOf → AnswerOf → Result (Option Held) Refusal → LedgerState → Type 0
TakenReborn rules s before t ask answer (Ok None) u = (is_reborn rules (stand_in s.now) before ask answer ≡ false) × (u ≡ s)
TakenReborn rules s before t ask answer (Ok (Some after)) u = Took (DoesReborn rules t ask answer) (Tells ask answer) s before u (held_of after)
TakenReborn rules s before t ask answer (Err (Impossible why)) u =
    (is_reborn rules (stand_in s.now) before ask answer ≡ true) × (lowest_beside rules s.now before t ask answer (grave (stand_in s.now) ask answer) ≡ Some why)
    × Refutes (DoesReborn rules t ask answer) s.now before × (u ≡ s)
TakenReborn rules s before t ask answer (Err Memory) u = u.marks ≡ s.marks
