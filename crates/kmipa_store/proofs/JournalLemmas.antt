-- What the calls of a journal leave of its meaning.
use Rattle.std.proofs.Common.{◌≡◌, ℕ, suc, ◌+◌, ◌-◌, ◌≤◌, Bool, true, false, if◌then◌else◌, List, [], ◌∷◌, ◌++◌, length, map, take, drop, reverse, slice_get, Option, Some, None, Result, Ok, Err, MatchOption, option_to_list, refl, ap, sym, ◌∙◌, subst, arith, append-nil}
use Rattle.std.proofs.lemmas.List.{reverse-append, length-reverse}
use Rattle.kmipa_object.specs.declared.life.Life.{Life}
use Rattle.kmipa_object.specs.Lists.{updated}
use Rattle.kmipa_store.specs.Aside.{AsideOf, Entry, said_aside, said_in}
use Rattle.kmipa_store.specs.AsideIds.{aside_unmade}
use Rattle.kmipa_store.specs.Ledger.{Held, Known, LedgerState, Meaning, relived, told, changed, marked, kept, undone, undone_from, gone_back, back_from}
use Rattle.kmipa_store.specs.Memory.{RefusedForMemory}
use Rattle.kmipa_store.specs.Calls.{Replaces, Renews, Learns, SetsAside, TakesIn}
use Rattle.kmipa_store.specs.Secrets.{Judges}
use Rattle.kmipa_store.specs.Histories.{history, rolled, fits, while_marked, Logged, Logs, RolledTo}
use Rattle.kmipa_store.specs.Present.{Dated, Standing, LogsObjects, dated_unmade}
use Rattle.kmipa_store.specs.Journal.{Asides, secret_unmade, object_places, secret_places, aside_places, at_places, dated_at_marks, secrets_at_marks, aside_at_marks, paired, journal_state}
use Rattle.kmipa_store.specs.declared.fault.StoreFault.{StoreFault}
use Rattle.kmipa_store.specs.declared.secrets.Lesson.TheVariants.{New}
use Rattle.kmipa_store.specs.declared.changes.Place.{Place}
use Rattle.kmipa_store.specs.declared.changes.AsideChange.{AsideChange}
use Rattle.kmipa_store.specs.declared.changes.ObjectChange.{ObjectChange}
use Rattle.kmipa_store.specs.declared.changes.SecretChange.{SecretChange}
use Rattle.kmipa_store.proofs.LearnLemmas.{unknown_differs}
use Rattle.kmipa_store.proofs.HistoryLemmas.{fits_head, fits_mark, fits_rest, fits_rolled, history_logged, history_mark, history_keep, history_rolled}

-- the newest place stands first
places_first : (ps ps1 : List Place) (p : Place) → ps ≡ ps1 ++ p ∷ [] → reverse ps ≡ p ∷ reverse ps1
places_first ps ps1 p e = ap reverse e ∙ reverse-append ps1 (p ∷ [])

pub places_last : (f : Place → ℕ) (ps ps1 : List Place) (p : Place) → ps ≡ ps1 ++ p ∷ [] → map f (reverse ps) ≡ f p ∷ map f (reverse ps1)
places_last f ps ps1 p e = ap (map f) (places_first ps ps1 p e)

-- what holds with a mark more and without holds of what came of setting it
pub pushed_or_not : (b : Bool) (ps ps1 : List Place) (p : Place) → ps1 ≡ (if b then ps ++ p ∷ [] else ps) → (P : List Place → Type 0) → P (ps ++ p ∷ []) → P ps → P ps1
pushed_or_not true ps ps1 p e P more same = subst P (sym e) more
pushed_or_not false ps ps1 p e P more same = subst P (sym e) same

-- a mark more fits
pub fits_marked : (f : Place → ℕ) (n : ℕ) (ps : List Place) (p : Place) → f p ≡ n → fits n (map f (reverse ps)) ≡ true → fits n (map f (reverse (ps ++ p ∷ []))) ≡ true
fits_marked f n ps p is e = ap (fits n) (places_last f (ps ++ p ∷ []) ps p refl ∙ ap (λ m. m ∷ map f (reverse ps)) is) ∙ fits_mark n (map f (reverse ps)) e

-- what is set aside, by its parts
abbrev pub asides : List Entry → List AsideChange → Bool → Bool → Asides
asides es bs rest over = record { aside = record { ids = es; rest = rest; over = over }; changes = bs }

-- the objects changed, and that was written down
pub objects_logged : (os os1 : Dated) (wanted : List Held) (cs cs1 : List ObjectChange) (ks : List Known) (ds : List SecretChange) (a : Asides) (ps : List Place)
    → os1.objects ≡ wanted → Logged dated_unmade ps os cs os1 cs1 → fits (length cs) (object_places ps) ≡ true
    → journal_state os1 cs1 ks ds a ps ≡ changed (journal_state os cs ks ds a ps) (record { objects = wanted; secrets = ks; aside = a.aside })
objects_logged os os1 wanted cs cs1 ks ds a ps e l f =
    ap (λ (x : List Held). record { now = record { objects = x; secrets = ks; aside = a.aside }; marks = paired (dated_at_marks os1 cs1 ps) (secrets_at_marks ks ds ps) (aside_at_marks a ps) }) e
    ∙ ap (λ (x : List Dated). record { now = record { objects = wanted; secrets = ks; aside = a.aside }; marks = paired x (secrets_at_marks ks ds ps) (aside_at_marks a ps) }) (history_logged dated_unmade (λ (p : Place). p.objects) ps os os1 cs cs1 l f)

-- the secrets changed, and that was written down
pub secrets_logged : (os : Dated) (cs : List ObjectChange) (ks ks1 wanted : List Known) (ds ds1 : List SecretChange) (a : Asides) (ps : List Place)
    → ks1 ≡ wanted → Logged secret_unmade ps ks ds ks1 ds1 → fits (length ds) (secret_places ps) ≡ true
    → journal_state os cs ks1 ds1 a ps ≡ changed (journal_state os cs ks ds a ps) (record { objects = os.objects; secrets = wanted; aside = a.aside })
secrets_logged os cs ks ks1 wanted ds ds1 a ps e l f =
    ap (λ (x : List Known). record { now = record { objects = os.objects; secrets = x; aside = a.aside }; marks = paired (dated_at_marks os cs ps) (secrets_at_marks ks1 ds1 ps) (aside_at_marks a ps) }) e
    ∙ ap (λ (x : List (List Known)). record { now = record { objects = os.objects; secrets = wanted; aside = a.aside }; marks = paired (dated_at_marks os cs ps) x (aside_at_marks a ps) }) (history_logged secret_unmade (λ (p : Place). p.secrets) ps ks ks1 ds ds1 l f)

-- what is set aside changed, and that was written down
pub asides_logged : (os : Dated) (cs : List ObjectChange) (ks : List Known) (ds : List SecretChange) (es es1 wanted : List Entry) (bs bs1 : List AsideChange) (rest over : Bool) (ps : List Place)
    → es1 ≡ wanted → Logged aside_unmade ps es bs es1 bs1 → fits (length bs) (aside_places ps) ≡ true
    → journal_state os cs ks ds (asides es1 bs1 rest over) ps ≡ changed (journal_state os cs ks ds (asides es bs rest over) ps) (record { objects = os.objects; secrets = ks; aside = record { ids = wanted; rest = rest; over = over } })
asides_logged os cs ks ds es es1 wanted bs bs1 rest over ps e l f =
    ap (λ (x : List Entry). record { now = record { objects = os.objects; secrets = ks; aside = record { ids = x; rest = rest; over = over } }; marks = paired (dated_at_marks os cs ps) (secrets_at_marks ks ds ps) (aside_at_marks (asides es1 bs1 rest over) ps) }) e
    ∙ ap (λ (x : List (List Entry)). record { now = record { objects = os.objects; secrets = ks; aside = record { ids = wanted; rest = rest; over = over } }; marks = paired (dated_at_marks os cs ps) (secrets_at_marks ks ds ps) (at_places x (reverse ps)) }) (history_logged aside_unmade (λ (p : Place). p.asides) ps es es1 bs bs1 l f)

-- nothing changed
pub objects_same : (os os1 : Dated) (cs cs1 : List ObjectChange) (ks : List Known) (ds : List SecretChange) (a : Asides) (ps : List Place)
    → os1 ≡ os → cs1 ≡ cs → journal_state os1 cs1 ks ds a ps ≡ journal_state os cs ks ds a ps
objects_same os os1 cs cs1 ks ds a ps e f = ap (λ (x : Dated). journal_state x cs1 ks ds a ps) e ∙ ap (λ (x : List ObjectChange). journal_state os x ks ds a ps) f

pub secrets_same : (os : Dated) (cs : List ObjectChange) (ks ks1 : List Known) (ds ds1 : List SecretChange) (a : Asides) (ps : List Place)
    → ks1 ≡ ks → ds1 ≡ ds → journal_state os cs ks1 ds1 a ps ≡ journal_state os cs ks ds a ps
secrets_same os cs ks ks1 ds ds1 a ps e f = ap (λ (x : List Known). journal_state os cs x ds1 a ps) e ∙ ap (λ (x : List SecretChange). journal_state os cs ks x a ps) f

pub asides_same : (os : Dated) (cs : List ObjectChange) (ks : List Known) (ds : List SecretChange) (es es1 : List Entry) (bs bs1 : List AsideChange) (rest over : Bool) (ps : List Place)
    → es1 ≡ es → bs1 ≡ bs → journal_state os cs ks ds (asides es1 bs1 rest over) ps ≡ journal_state os cs ks ds (asides es bs rest over) ps
asides_same os cs ks ds es es1 bs bs1 rest over ps e f =
    ap (λ (x : List Entry). journal_state os cs ks ds (asides x bs1 rest over) ps) e ∙ ap (λ (x : List AsideChange). journal_state os cs ks ds (asides es x rest over) ps) f

-- what was written down while no mark stands doesn't matter
pub state_forgotten : (os : Dated) (cs cs1 : List ObjectChange) (ks : List Known) (ds ds1 : List SecretChange) (es : List Entry) (bs bs1 : List AsideChange) (rest over : Bool) (ps : List Place)
    → cs1 ≡ while_marked ps cs → ds1 ≡ while_marked ps ds → bs1 ≡ while_marked ps bs → journal_state os cs1 ks ds1 (asides es bs1 rest over) ps ≡ journal_state os cs ks ds (asides es bs rest over) ps
state_forgotten os cs cs1 ks ds ds1 es bs bs1 rest over [] e f g = refl
state_forgotten os cs cs1 ks ds ds1 es bs bs1 rest over (p ∷ ps) e f g =
    ap (λ (x : List ObjectChange). journal_state os x ks ds1 (asides es bs1 rest over) (p ∷ ps)) e
    ∙ ap (λ (x : List SecretChange). journal_state os cs ks x (asides es bs1 rest over) (p ∷ ps)) f
    ∙ ap (λ (x : List AsideChange). journal_state os cs ks ds (asides es x rest over) (p ∷ ps)) g

length-paired : (ps : List Place) (os : Dated) (cs : List ObjectChange) (ks : List Known) (ds : List SecretChange) (es : List Entry) (bs : List AsideChange)
    → length (paired (history dated_unmade os cs (map (λ (p : Place). p.objects) ps)) (history secret_unmade ks ds (map (λ (p : Place). p.secrets) ps)) (at_places (history aside_unmade es bs (map (λ (p : Place). p.asides) ps)) ps)) ≡ length ps
length-paired [] os cs ks ds es bs = refl
length-paired (p ∷ ps) os cs ks ds es bs = ap suc (length-paired ps _ _ _ _ _ _)

-- as many marks as places
pub length-marks : (os : Dated) (cs : List ObjectChange) (ks : List Known) (ds : List SecretChange) (a : Asides) (ps : List Place) → length (journal_state os cs ks ds a ps).marks ≡ length ps
length-marks os cs ks ds a ps = length-paired (reverse ps) os (reverse cs) ks (reverse ds) a.aside.ids (reverse a.changes) ∙ length-reverse ps

-- one more mark
pub journal_marked : (os : Dated) (cs : List ObjectChange) (ks : List Known) (ds : List SecretChange) (a : Asides) (ps ps1 : List Place) (p : Place)
    → ps1 ≡ ps ++ p ∷ [] → p.objects ≡ length cs → p.secrets ≡ length ds → p.asides ≡ length a.changes → p.rest ≡ a.aside.rest → p.over ≡ a.aside.over
    → journal_state os cs ks ds a ps1 ≡ marked (journal_state os cs ks ds a ps)
journal_marked os cs ks ds a ps ps1 p e f g h rest over =
    let now : Meaning = record { objects = os.objects; secrets = ks; aside = a.aside } in
    let o : dated_at_marks os cs ps1 ≡ os ∷ dated_at_marks os cs ps =
    ap (history dated_unmade os (reverse cs)) (places_last (λ (q : Place). q.objects) ps1 ps p e ∙ ap (λ (n : ℕ). n ∷ object_places ps) (f ∙ sym (length-reverse cs)))
    ∙ history_mark dated_unmade os (reverse cs) (object_places ps) in
    let s : secrets_at_marks ks ds ps1 ≡ ks ∷ secrets_at_marks ks ds ps =
    ap (history secret_unmade ks (reverse ds)) (places_last (λ (q : Place). q.secrets) ps1 ps p e ∙ ap (λ (n : ℕ). n ∷ secret_places ps) (g ∙ sym (length-reverse ds)))
    ∙ history_mark secret_unmade ks (reverse ds) (secret_places ps) in
    let es : history aside_unmade a.aside.ids (reverse a.changes) (aside_places ps1) ≡ a.aside.ids ∷ history aside_unmade a.aside.ids (reverse a.changes) (aside_places ps) =
    ap (history aside_unmade a.aside.ids (reverse a.changes)) (places_last (λ (q : Place). q.asides) ps1 ps p e ∙ ap (λ (n : ℕ). n ∷ aside_places ps) (h ∙ sym (length-reverse a.changes)))
    ∙ history_mark aside_unmade a.aside.ids (reverse a.changes) (aside_places ps) in
    let t : aside_at_marks a ps1 ≡ a.aside ∷ aside_at_marks a ps =
    ap (λ (x : List (List Entry)). at_places x (reverse ps1)) es
    ∙ ap (at_places (a.aside.ids ∷ history aside_unmade a.aside.ids (reverse a.changes) (aside_places ps))) (places_first ps1 ps p e)
    ∙ ap (λ (x : Bool). record { ids = a.aside.ids; rest = x; over = p.over } ∷ aside_at_marks a ps) rest
    ∙ ap (λ (x : Bool). record { ids = a.aside.ids; rest = a.aside.rest; over = x } ∷ aside_at_marks a ps) over in
    ap (λ (x : List Dated). record { now = now; marks = paired x (secrets_at_marks ks ds ps1) (aside_at_marks a ps1) }) o
    ∙ ap (λ (x : List (List Known)). record { now = now; marks = paired (os ∷ dated_at_marks os cs ps) x (aside_at_marks a ps1) }) s
    ∙ ap (λ (x : List AsideOf). record { now = now; marks = paired (os ∷ dated_at_marks os cs ps) (ks ∷ secrets_at_marks ks ds ps) x }) t

-- the meaning at these places
abbrev pub state_at : Dated → List ObjectChange → List Known → List SecretChange → Asides → List ℕ → List ℕ → List ℕ → List Place → LedgerState
state_at os cs ks ds a ns ms ls ps = record {
  now = record { objects = os.objects; secrets = ks; aside = a.aside };
  marks = paired (history dated_unmade os (reverse cs) ns) (history secret_unmade ks (reverse ds) ms) (at_places (history aside_unmade a.aside.ids (reverse a.changes) ls) ps);
}

-- a mark fewer, and nothing goes back
kept_from_place : {X C : Type 0} (unmade : X → C → X) (x : X) (cs : List C) (n : ℕ) (ns : List ℕ) → fits (length cs) (n ∷ ns) ≡ true
    → history unmade x (reverse cs) ns ≡ history unmade (rolled unmade x (take (length (reverse cs) - n) (reverse cs))) (drop (length (reverse cs) - n) (reverse cs)) ns
kept_from_place unmade x cs n ns f =
    let g = fits_head (length cs) n ns f in
    let below : n ≤ length (reverse cs) = omega (arith, g.0, length-reverse cs) in
    history_keep unmade x (reverse cs) n ns below g.1

kept_at : (os : Dated) (cs : List ObjectChange) (ks : List Known) (ds : List SecretChange) (a : Asides) (n m l : ℕ) (ns ms ls : List ℕ) (p : Place) (ps : List Place)
    → fits (length cs) (n ∷ ns) ≡ true → fits (length ds) (m ∷ ms) ≡ true → fits (length a.changes) (l ∷ ls) ≡ true
    → state_at os cs ks ds a ns ms ls ps ≡ kept (state_at os cs ks ds a (n ∷ ns) (m ∷ ms) (l ∷ ls) (p ∷ ps))
kept_at os cs ks ds a n m l ns ms ls p ps f g h =
    let now : Meaning = record { objects = os.objects; secrets = ks; aside = a.aside } in
    let os1 = rolled dated_unmade os (take (length (reverse cs) - n) (reverse cs)) in
    let ks1 = rolled secret_unmade ks (take (length (reverse ds) - m) (reverse ds)) in
    ap (λ (x : List Dated). record { now = now; marks = paired x (history secret_unmade ks (reverse ds) ms) (at_places (history aside_unmade a.aside.ids (reverse a.changes) ls) ps) }) (kept_from_place dated_unmade os cs n ns f)
    ∙ ap (λ (x : List (List Known)). record { now = now; marks = paired (history dated_unmade os1 (drop (length (reverse cs) - n) (reverse cs)) ns) x (at_places (history aside_unmade a.aside.ids (reverse a.changes) ls) ps) }) (kept_from_place secret_unmade ks ds m ms g)
    ∙ ap (λ (x : List (List Entry)). record { now = now; marks = paired (history dated_unmade os1 (drop (length (reverse cs) - n) (reverse cs)) ns) (history secret_unmade ks1 (drop (length (reverse ds) - m) (reverse ds)) ms) (at_places x ps) }) (kept_from_place aside_unmade a.aside.ids a.changes l ls h)

undone_at : (os os1 : Dated) (cs cs1 : List ObjectChange) (ks : List Known) (ds : List SecretChange) (a : Asides) (es1 : List Entry) (bs1 : List AsideChange) (n m l : ℕ) (ns ms ls : List ℕ) (p : Place) (ps : List Place)
    → RolledTo dated_unmade os cs n os1 cs1 → fits (length ds) (m ∷ ms) ≡ true → RolledTo aside_unmade a.aside.ids a.changes l es1 bs1
    → state_at os1 cs1 ks ds (asides es1 bs1 p.rest a.aside.over) ns ms ls ps ≡ undone (state_at os cs ks ds a (n ∷ ns) (m ∷ ms) (l ∷ ls) (p ∷ ps))
undone_at os os1 cs cs1 ks ds a es1 bs1 n m l ns ms ls p ps b g c =
    let now : Meaning = record { objects = os.objects; secrets = ks; aside = a.aside } in
    ap (λ (x : List (List Known)). record { now = record { objects = os1.objects; secrets = ks; aside = record { ids = es1; rest = p.rest; over = a.aside.over } }; marks = paired (history dated_unmade os1 (reverse cs1) ns) x (at_places (history aside_unmade es1 (reverse bs1) ls) ps) }) (kept_from_place secret_unmade ks ds m ms g)
    ∙ ap (λ (x : List Dated). undone_from now (paired x (history secret_unmade ks (reverse ds) (m ∷ ms)) (at_places (es1 ∷ history aside_unmade es1 (reverse bs1) ls) (p ∷ ps)))) (sym (history_rolled dated_unmade os os1 cs cs1 n ns b))
    ∙ ap (λ (x : List (List Entry)). undone_from now (paired (history dated_unmade os (reverse cs) (n ∷ ns)) (history secret_unmade ks (reverse ds) (m ∷ ms)) (at_places x (p ∷ ps)))) (sym (history_rolled aside_unmade a.aside.ids es1 a.changes bs1 l ls c))

back_at : (os os1 : Dated) (cs cs1 : List ObjectChange) (ks ks1 : List Known) (ds ds1 : List SecretChange) (a : Asides) (es1 : List Entry) (bs1 : List AsideChange) (n m l : ℕ) (ns ms ls : List ℕ) (p : Place) (ps : List Place)
    → RolledTo dated_unmade os cs n os1 cs1 → RolledTo secret_unmade ks ds m ks1 ds1 → RolledTo aside_unmade a.aside.ids a.changes l es1 bs1
    → state_at os1 cs1 ks1 ds1 (asides es1 bs1 p.rest p.over) ns ms ls ps ≡ gone_back (state_at os cs ks ds a (n ∷ ns) (m ∷ ms) (l ∷ ls) (p ∷ ps))
back_at os os1 cs cs1 ks ks1 ds ds1 a es1 bs1 n m l ns ms ls p ps b d c =
    let now : Meaning = record { objects = os.objects; secrets = ks; aside = a.aside } in
    ap (λ (x : List Dated). back_from now (paired x (ks1 ∷ history secret_unmade ks1 (reverse ds1) ms) (at_places (es1 ∷ history aside_unmade es1 (reverse bs1) ls) (p ∷ ps)))) (sym (history_rolled dated_unmade os os1 cs cs1 n ns b))
    ∙ ap (λ (x : List (List Known)). back_from now (paired (history dated_unmade os (reverse cs) (n ∷ ns)) x (at_places (es1 ∷ history aside_unmade es1 (reverse bs1) ls) (p ∷ ps)))) (sym (history_rolled secret_unmade ks ks1 ds ds1 m ms d))
    ∙ ap (λ (x : List (List Entry)). back_from now (paired (history dated_unmade os (reverse cs) (n ∷ ns)) (history secret_unmade ks (reverse ds) (m ∷ ms)) (at_places x (p ∷ ps)))) (sym (history_rolled aside_unmade a.aside.ids es1 a.changes bs1 l ls c))

-- the newest place stands first, among those of objects, of secrets and of what is set aside
state_first : (os : Dated) (cs : List ObjectChange) (ks : List Known) (ds : List SecretChange) (a : Asides) (ps ps1 : List Place) (p : Place) → ps ≡ ps1 ++ p ∷ []
    → journal_state os cs ks ds a ps ≡ state_at os cs ks ds a (p.objects ∷ object_places ps1) (p.secrets ∷ secret_places ps1) (p.asides ∷ aside_places ps1) (p ∷ reverse ps1)
state_first os cs ks ds a ps ps1 p e =
    ap (λ (x : List ℕ). state_at os cs ks ds a x (secret_places ps) (aside_places ps) (reverse ps)) (places_last (λ (q : Place). q.objects) ps ps1 p e)
    ∙ ap (λ (x : List ℕ). state_at os cs ks ds a (p.objects ∷ object_places ps1) x (aside_places ps) (reverse ps)) (places_last (λ (q : Place). q.secrets) ps ps1 p e)
    ∙ ap (λ (x : List ℕ). state_at os cs ks ds a (p.objects ∷ object_places ps1) (p.secrets ∷ secret_places ps1) x (reverse ps)) (places_last (λ (q : Place). q.asides) ps ps1 p e)
    ∙ ap (state_at os cs ks ds a (p.objects ∷ object_places ps1) (p.secrets ∷ secret_places ps1) (p.asides ∷ aside_places ps1)) (places_first ps ps1 p e)

fits_first : (f : Place → ℕ) (n : ℕ) (ps ps1 : List Place) (p : Place) → ps ≡ ps1 ++ p ∷ [] → fits n (map f (reverse ps)) ≡ true → fits n (f p ∷ map f (reverse ps1)) ≡ true
fits_first f n ps ps1 p e h = ap (fits n) (sym (places_last f ps ps1 p e)) ∙ h

none_left : {X : Type 0} (xs : List X) → length xs ≡ 0 → xs ≡ []
none_left [] e = refl
none_left (x ∷ xs) e = absurd (omega arith)

-- one place fewer
pub fits_popped : (f : Place → ℕ) (n : ℕ) (ps ps1 : List Place) (r : Option Place) → ps ≡ ps1 ++ option_to_list r → fits n (map f (reverse ps)) ≡ true → fits n (map f (reverse ps1)) ≡ true
fits_popped f n ps ps1 None e h = ap (λ (x : List Place). fits n (map f (reverse x))) (sym (e ∙ append-nil ps1)) ∙ h
fits_popped f n ps ps1 (Some p) e h = fits_rest n (f p) (map f (reverse ps1)) (fits_first f n ps ps1 p e h)

pub journal_kept : (os : Dated) (cs : List ObjectChange) (ks : List Known) (ds : List SecretChange) (a : Asides) (ps ps1 : List Place) (n n1 : ℕ) (r : Option Place)
    → n ≡ length ps → n1 ≡ length ps1 → ps ≡ ps1 ++ option_to_list r → MatchOption r ((n ≡ 0) × (n1 ≡ 0)) (λ _. n1 + 1 ≡ n)
    → fits (length cs) (object_places ps) ≡ true → fits (length ds) (secret_places ps) ≡ true → fits (length a.changes) (aside_places ps) ≡ true
    → journal_state os cs ks ds a ps1 ≡ kept (journal_state os cs ks ds a ps)
journal_kept os cs ks ds a ps ps1 n n1 None l l1 e h f g i =
    ap (journal_state os cs ks ds a) (none_left ps1 (sym l1 ∙ h.1)) ∙ ap (λ (x : List Place). kept (journal_state os cs ks ds a x)) (sym (none_left ps (sym l ∙ h.0)))
journal_kept os cs ks ds a ps ps1 n n1 (Some p) l l1 e h f g i =
    kept_at os cs ks ds a p.objects p.secrets p.asides (object_places ps1) (secret_places ps1) (aside_places ps1) p (reverse ps1)
    (fits_first (λ (q : Place). q.objects) (length cs) ps ps1 p e f) (fits_first (λ (q : Place). q.secrets) (length ds) ps ps1 p e g) (fits_first (λ (q : Place). q.asides) (length a.changes) ps ps1 p e i)
    ∙ ap kept (sym (state_first os cs ks ds a ps ps1 p e))

pub journal_undone : (os os1 : Dated) (cs cs1 : List ObjectChange) (ks : List Known) (ds : List SecretChange) (a : Asides) (es1 : List Entry) (bs1 : List AsideChange) (ps ps1 : List Place) (p : Place)
    → ps ≡ ps1 ++ p ∷ [] → RolledTo dated_unmade os cs p.objects os1 cs1 → fits (length ds) (secret_places ps) ≡ true → RolledTo aside_unmade a.aside.ids a.changes p.asides es1 bs1
    → journal_state os1 cs1 ks ds (asides es1 bs1 p.rest a.aside.over) ps1 ≡ undone (journal_state os cs ks ds a ps)
journal_undone os os1 cs cs1 ks ds a es1 bs1 ps ps1 p e b g c =
    undone_at os os1 cs cs1 ks ds a es1 bs1 p.objects p.secrets p.asides (object_places ps1) (secret_places ps1) (aside_places ps1) p (reverse ps1) b (fits_first (λ (q : Place). q.secrets) (length ds) ps ps1 p e g) c
    ∙ ap undone (sym (state_first os cs ks ds a ps ps1 p e))

pub journal_back : (os os1 : Dated) (cs cs1 : List ObjectChange) (ks ks1 : List Known) (ds ds1 : List SecretChange) (a : Asides) (es1 : List Entry) (bs1 : List AsideChange) (ps ps1 : List Place) (p : Place)
    → ps ≡ ps1 ++ p ∷ [] → RolledTo dated_unmade os cs p.objects os1 cs1 → RolledTo secret_unmade ks ds p.secrets ks1 ds1 → RolledTo aside_unmade a.aside.ids a.changes p.asides es1 bs1
    → journal_state os1 cs1 ks1 ds1 (asides es1 bs1 p.rest p.over) ps1 ≡ gone_back (journal_state os cs ks ds a ps)
journal_back os os1 cs cs1 ks ks1 ds ds1 a es1 bs1 ps ps1 p e b d c =
    back_at os os1 cs cs1 ks ks1 ds ds1 a es1 bs1 p.objects p.secrets p.asides (object_places ps1) (secret_places ps1) (aside_places ps1) p (reverse ps1) b d c
    ∙ ap gone_back (sym (state_first os cs ks ds a ps ps1 p e))

-- places after rolling back
pub fits_back : {X C : Type 0} (unmade : X → C → X) (x y : X) (cs ds : List C) (f : Place → ℕ) (ps ps1 : List Place) (p : Place)
    → ps ≡ ps1 ++ p ∷ [] → RolledTo unmade x cs (f p) y ds → fits (length cs) (map f (reverse ps)) ≡ true → fits (length ds) (map f (reverse ps1)) ≡ true
fits_back unmade x y cs ds f ps ps1 p e b h = fits_rolled unmade x y cs ds (f p) (map f (reverse ps1)) b (fits_first f (length cs) ps ps1 p e h)

-- what `replace` and `renew` answer
pub journal_replaces : (os os1 : Standing) (cs cs1 : List ObjectChange) (ks : List Known) (ds : List SecretChange) (a : Asides) (ps : List Place) (place : ℕ) (life : Life) (r : Result (Unit {0}) StoreFault)
    → LogsObjects ps os cs (relived os.dated.objects place life) r os1 cs1 → fits (length cs) (object_places ps) ≡ true
    → Replaces (journal_state os.dated cs ks ds a ps) place life r (journal_state os1.dated cs1 ks ds a ps)
journal_replaces os os1 cs cs1 ks ds a ps place life (Ok u) l f = objects_logged os.dated os1.dated (relived os.dated.objects place life) cs cs1 ks ds a ps l.0 l.2 f
journal_replaces os os1 cs cs1 ks ds a ps place life (Err fault) l f =
    let P : StoreFault → Type 0 = λ x. RefusedForMemory x (journal_state os.dated cs ks ds a ps) (journal_state os1.dated cs1 ks ds a ps) in
    subst P (sym l.0) (objects_same os.dated os1.dated cs cs1 ks ds a ps (ap (λ (x : Standing). x.dated) l.1) l.2)

pub journal_renews : (os os1 : Standing) (cs cs1 : List ObjectChange) (ks : List Known) (ds : List SecretChange) (a : Asides) (ps : List Place) (place : ℕ) (h : Held) (r : Result (Unit {0}) StoreFault)
    → LogsObjects ps os cs (updated os.dated.objects place (λ _. h)) r os1 cs1 → fits (length cs) (object_places ps) ≡ true
    → Renews (journal_state os.dated cs ks ds a ps) place h r (journal_state os1.dated cs1 ks ds a ps)
journal_renews os os1 cs cs1 ks ds a ps place h (Ok u) l f = objects_logged os.dated os1.dated (updated os.dated.objects place (λ _. h)) cs cs1 ks ds a ps l.0 l.2 f
journal_renews os os1 cs cs1 ks ds a ps place h (Err fault) l f =
    let P : StoreFault → Type 0 = λ x. RefusedForMemory x (journal_state os.dated cs ks ds a ps) (journal_state os1.dated cs1 ks ds a ps) in
    subst P (sym l.0) (objects_same os.dated os1.dated cs cs1 ks ds a ps (ap (λ (x : Standing). x.dated) l.1) l.2)

-- what `learn` answers, of bytes that are new
pub journal_tells : (os : Dated) (cs : List ObjectChange) (ks ks1 : List Known) (ds ds1 : List SecretChange) (a : Asides) (ps : List Place) (number : ℕ) (b bytes : List ℕ) (r : Result (Unit {0}) StoreFault)
    → Logs secret_unmade ps ks ds (told ks number b) r ks1 ds1 → b ≡ bytes → Judges (slice_get ks number) bytes (Ok New) → fits (length ds) (secret_places ps) ≡ true
    → Learns (journal_state os cs ks ds a ps) number bytes r (journal_state os cs ks1 ds1 a ps)
journal_tells os cs ks ks1 ds ds1 a ps number b bytes (Ok u) l e j f =
    (unknown_differs (slice_get ks number) bytes j.0, j.1, secrets_logged os cs ks ks1 (told ks number bytes) ds ds1 a ps (l.0 ∙ ap (told ks number) e) l.1 f)
journal_tells os cs ks ks1 ds ds1 a ps number b bytes (Err fault) l e j f =
    let P : StoreFault → Type 0 = λ x. Learns (journal_state os cs ks ds a ps) number bytes (Err x) (journal_state os cs ks1 ds1 a ps) in
    subst P (sym l.0) (j.0, j.1, secrets_same os cs ks ks1 ds ds1 a ps l.1 l.2)

-- what `set_aside` and `take_in` answer
pub journal_sets_aside : (os : Dated) (cs : List ObjectChange) (ks : List Known) (ds : List SecretChange) (es es1 wanted : List Entry) (bs bs1 : List AsideChange) (rest over : Bool) (ps : List Place) (id : List ℕ) (r : Result (Unit {0}) StoreFault)
    → Logs aside_unmade ps es bs wanted r es1 bs1 → said_aside es id ≡ wanted → fits (length bs) (aside_places ps) ≡ true
    → SetsAside (journal_state os cs ks ds (asides es bs rest over) ps) id r (journal_state os cs ks ds (asides es1 bs1 rest over) ps)
journal_sets_aside os cs ks ds es es1 wanted bs bs1 rest over ps id (Ok u) l e f = asides_logged os cs ks ds es es1 (said_aside es id) bs bs1 rest over ps (l.0 ∙ sym e) l.1 f
journal_sets_aside os cs ks ds es es1 wanted bs bs1 rest over ps id (Err fault) l e f =
    let P : StoreFault → Type 0 = λ x. RefusedForMemory x (journal_state os cs ks ds (asides es bs rest over) ps) (journal_state os cs ks ds (asides es1 bs1 rest over) ps) in
    subst P (sym l.0) (asides_same os cs ks ds es es1 bs bs1 rest over ps l.1 l.2)

pub journal_takes_in : (os : Dated) (cs : List ObjectChange) (ks : List Known) (ds : List SecretChange) (es es1 wanted : List Entry) (bs bs1 : List AsideChange) (rest over : Bool) (ps : List Place) (id : List ℕ) (r : Result (Unit {0}) StoreFault)
    → Logs aside_unmade ps es bs wanted r es1 bs1 → said_in es id ≡ wanted → fits (length bs) (aside_places ps) ≡ true
    → TakesIn (journal_state os cs ks ds (asides es bs rest over) ps) id r (journal_state os cs ks ds (asides es1 bs1 rest over) ps)
journal_takes_in os cs ks ds es es1 wanted bs bs1 rest over ps id (Ok u) l e f = asides_logged os cs ks ds es es1 (said_in es id) bs bs1 rest over ps (l.0 ∙ sym e) l.1 f
journal_takes_in os cs ks ds es es1 wanted bs bs1 rest over ps id (Err fault) l e f =
    let P : StoreFault → Type 0 = λ x. RefusedForMemory x (journal_state os cs ks ds (asides es bs rest over) ps) (journal_state os cs ks ds (asides es1 bs1 rest over) ps) in
    subst P (sym l.0) (asides_same os cs ks ds es es1 bs bs1 rest over ps l.1 l.2)

-- no mark stood
pub forgotten_empty : {C : Type 0} (ps ps1 : List Place) (cs : List C) → ps ≡ ps1 ++ [] → while_marked ps cs ≡ cs → while_marked ps1 cs ≡ cs
forgotten_empty ps ps1 cs e h = ap (λ (x : List Place). while_marked x cs) (sym (e ∙ append-nil ps1)) ∙ h
