use Rattle.std.proofs.Common.{◌≡◌, ◌∙◌, ℕ, List, None, map, refl, ap, subst}
use Rattle.std.specs.String.{string_bytes}
use Rattle.kmipa_record.specs.Declarations.{declaration_of}
use Rattle.kmipa_check.proofs.PlaceLemmas.{mapped_at}
use Rattle.kmipa_explain.specs.Items.{ItemOf}
use Rattle.kmipa_explain.specs.Reading.{IsStoryAt, seen_item}
use Rattle.kmipa_explain.specs.Meant.{text_of}
use Rattle.kmipa_explain.specs.declared.item.Item.{Item}
use Rattle.kmipa_explain.proofs.StoryLemmas.{no_story, not_about, story_there}
use Rattle.kmipa_explain.proofs.story.story_in.Goals as goal

pub returns-in_default : goal.returns-in_default
returns-in_default c = no_story c.args.refused (map seen_item c.args.items.now) c.in_default.ensures.found

pub returns-in_ok-story_at-in-Some-about : goal.returns-in_ok-story_at-in-Some-about
returns-in_ok-story_at-in-Some-about c =
    let items = map seen_item c.args.items.now in
    let at = c.in-Some.ensures.found in
    let there = mapped_at seen_item c.args.items.now c.in-Some.at c.index-items-at.result c.in-Some.ensures.within c.index-items-at.is in
    let its : at.0 ≡ seen_item c.index-items-at.result = cc in
    let id = string_bytes c.in-Some-about.id in
    let P : List ℕ → Type 0 = λ x. IsStoryAt (declaration_of c.args.declaration.now) items c.in-Some.at x c.in_ok-story_at-in-Some-about.field-0 in
    story_there (declaration_of c.args.declaration.now) items c.args.refused c.in-Some.at at id c.in_ok-story_at-in-Some-about.field-0
    (ap (λ (i : ItemOf). i.about) its ∙ ap (λ (x : Item). text_of x.about) c.index-items-at.is ∙ ap text_of c.in-Some-about.is)
    (subst P c.as_str.ensures.value c.in_ok-story_at-in-Some-about.ensures)

pub returns-in-None : goal.returns-in-None
returns-in-None c =
    let items = map seen_item c.args.items.now in
    let at = c.in-Some.ensures.found in
    let there = mapped_at seen_item c.args.items.now c.in-Some.at c.index-items-at.result c.in-Some.ensures.within c.index-items-at.is in
    let its : at.0 ≡ seen_item c.index-items-at.result = cc in
    absurd (not_about (declaration_of c.args.declaration.now) items c.args.refused c.in-Some.at at None (ap (λ (i : ItemOf). i.about) its ∙ ap (λ (x : Item). text_of x.about) c.index-items-at.is ∙ ap text_of c.in-None.is) refl)
