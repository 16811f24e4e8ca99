-- Which object an item is about, and what it does, by the row of its operation.
use Rattle.std.proofs.Common.{◌≡◌, ◌∙◌, ℕ, Bool, List, Option, Some, None, option_and_then, refl, sym, ap}
use Rattle.kmipa_attrs.specs.Sets.{NameOf}
use Rattle.kmipa_object.specs.declared.allow.Act.{Act}
use Rattle.kmipa_msgs.specs.declared.response.Status.{Status}
use Rattle.kmipa_msgs.specs.declared.response.Status.TheVariants.{Success, Failed, Undone}
use Rattle.kmipa_msgs.specs.Messages.{AskedOf, PayloadOf, RegisteredOf, creates, registers, gets}
use Rattle.kmipa_msgs.specs.Named.{asked_naming, id_named}
use Rattle.kmipa_ops.specs.Adding.{names_new}
use Rattle.kmipa_ops.specs.After.{placeholder_done}
use Rattle.kmipa_ops.specs.Create.{seen_created}
use Rattle.kmipa_ops.specs.Effects.{EffectOf}
use Rattle.kmipa_ops.specs.Judging.{about_by}
use Rattle.kmipa_ops.specs.Objects.{meant}
use Rattle.kmipa_ops.specs.Register.{seen_registered}
use Rattle.kmipa_ops.specs.Row.{SubjectOf, id_by, on_names, on_nothing, on_object}
use Rattle.kmipa_ops.specs.Rows.{effect_asked, subject_asked}
use Rattle.kmipa_parts.specs.Making.{adds_or_changes, touches, unless_failed}
use Rattle.kmipa_parts.specs.Parts.{OwnOf, about, is_change, made, may_touch, written}

-- the identifier that is named is the row's
named_by_row : (asked : AskedOf) → id_named asked ≡ id_by (subject_asked asked)
named_by_row (gets id) = refl
named_by_row asked = refl

new_id : (status : Status) (shown : Option RegisteredOf) → made status shown ≡ unless_failed status (names_new None shown)
new_id Success None = refl
new_id Success (Some x) = refl
new_id Undone None = refl
new_id Undone (Some x) = refl
new_id Failed shown = refl

-- what an item made, as the ID Placeholder holds it then
abbrev pub new_by : AskedOf → Status → Option PayloadOf → Option (List ℕ)
new_by asked status payload = unless_failed status (placeholder_done None asked payload)

about_by_row : (before : Option (List ℕ)) (asked : AskedOf) (status : Status) (payload : Option PayloadOf)
    → about before asked status payload ≡ about_by (subject_asked asked) (new_by asked status payload) before
about_by_row before (creates a) status payload = new_id status (option_and_then seen_created payload)
about_by_row before (registers r) status payload = new_id status (option_and_then seen_registered payload)
about_by_row before asked status payload = refl

pub about_meant : (before : Option (List ℕ)) (asked : AskedOf) (status : Status) (payload : Option PayloadOf) (id : Option (List ℕ)) (act : Act) (unjudged : Bool)
    → on_object id act unjudged ≡ subject_asked asked → meant (id_named asked) before ≡ about before asked status payload
about_meant before asked status payload id act unjudged e =
    ap (λ (i : Option (List ℕ)). meant i before) (named_by_row asked ∙ ap id_by (sym e))
    ∙ ap (λ (s : SubjectOf). about_by s (new_by asked status payload) before) e ∙ sym (about_by_row before asked status payload)

pub about_new : (before : Option (List ℕ)) (asked : AskedOf) (status : Status) (payload : Option PayloadOf) (names : List NameOf)
    → on_names names ≡ subject_asked asked → new_by asked status payload ≡ about before asked status payload
about_new before asked status payload names e =
    ap (λ (s : SubjectOf). about_by s (new_by asked status payload) before) e ∙ sym (about_by_row before asked status payload)

pub about_none : (before : Option (List ℕ)) (asked : AskedOf) (status : Status) (payload : Option PayloadOf)
    → on_nothing ≡ subject_asked asked → None ≡ about before asked status payload
about_none before asked status payload e =
    ap (λ (s : SubjectOf). about_by s (new_by asked status payload) before) e ∙ sym (about_by_row before asked status payload)

-- the ask with the identifier written out names it
pub written_named : (id : List ℕ) (asked : AskedOf) → asked_naming (Some id) asked ≡ written id asked
written_named id (gets shown) = refl
written_named id asked = refl

change_by_row : (asked : AskedOf) → adds_or_changes (effect_asked asked) ≡ is_change asked
change_by_row (gets id) = refl
change_by_row asked = refl

-- an operation whose row has this effect
pub is_change_by : (effect : EffectOf) (asked : AskedOf) → effect ≡ effect_asked asked → adds_or_changes effect ≡ is_change asked
is_change_by effect asked e = ap adds_or_changes e ∙ change_by_row asked

touch_by_row : (own : OwnOf) (asked : AskedOf) → touches own (subject_asked asked) (effect_asked asked) ≡ may_touch own asked
touch_by_row own (gets id) = refl
touch_by_row own asked = refl

-- an operation whose row has this subject and this effect
pub may_touch_by : (own : OwnOf) (subject : SubjectOf) (effect : EffectOf) (asked : AskedOf) → subject ≡ subject_asked asked → effect ≡ effect_asked asked
    → touches own subject effect ≡ may_touch own asked
may_touch_by own subject effect asked s e =
    ap (λ (x : SubjectOf). touches own x effect) s ∙ ap (touches own (subject_asked asked)) e ∙ touch_by_row own asked
