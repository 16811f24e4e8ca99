use Rattle.std.proofs.Common.{◌∙◌, sym}
use Rattle.kmipa_attrs.specs.Filters.{filter_of}
use Rattle.kmipa_object.specs.Inventory.{card_of}
use Rattle.kmipa_ops.proofs.LocateLemmas.{fits_not, fits_may, fits_must}
use Rattle.kmipa_ops.proofs.fit.fit_of.Goals as goal

pub returns-then-says_no : goal.returns-then-says_no
returns-then-says_no c = fits_not (filter_of c.args.filter.now) c.args.state (card_of c.args.object.now) (sym c.says_no.ensures ∙ c.if-says_no.true)

pub returns-then-is_doubtful : goal.returns-then-is_doubtful
returns-then-is_doubtful c =
    fits_may (filter_of c.args.filter.now) c.args.state (card_of c.args.object.now) (sym c.says_no.ensures ∙ c.if-says_no.false) (sym c.is_doubtful.ensures ∙ c.if-is_doubtful.true)

pub returns : goal.returns
returns c = fits_must (filter_of c.args.filter.now) c.args.state (card_of c.args.object.now) (sym c.says_no.ensures ∙ c.if-says_no.false) (sym c.is_doubtful.ensures ∙ c.if-is_doubtful.false)
