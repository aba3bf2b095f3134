use Rattle.std.proofs.Common.{sym, ◌∙◌}
use Rattle.pals_code.proofs.LaidOutCodes.{listed}
use Rattle.pals_code.proofs.laws.one_listing_one_design.Goals as goal

pub returns : goal.returns
returns c root other_root bundle other_bundle status other_status text one other =
    let keeps = c.designs_of_texts_keep_their_rules.ensures.rules in
    let first = one.accepted in
    let second = other.accepted in
    c.listings_tell.ensures one.design other.design one.programs other.programs
    (listed one.design one.programs (keeps first.tree root one.design (first.text, first.parsed.read) first.design_in)
    one.laid_out one.fit)
    (listed other.design other.programs
    (keeps second.tree other_root other.design (second.text, second.parsed.read) second.design_in)
    other.laid_out other.fit)
    (sym one.text_is ∙ other.text_is)
