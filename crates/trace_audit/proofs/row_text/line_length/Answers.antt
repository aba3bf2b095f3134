use Rattle.std.proofs.Common.{◌≡◌, Some, None, length, sym, ◌∙◌}
use Rattle.trace_audit.proofs.TextLines.{feed_at}
use Rattle.trace_audit.proofs.row_text.line_length.Goals as goal

pub returns-in-Some-clause-value : goal.returns-in-Some-clause-value
returns-in-Some-clause-value c line rest is same =
    let found : Some c.in-Some.at ≡ Some (length line) = sym c.in-Some.is ∙ c.line_feed.ensures.value
    ∙ feed_at c.args.text.now line rest is same in
    cc

pub returns-in-None-clause-value : goal.returns-in-None-clause-value
returns-in-None-clause-value c line rest is same =
    let found : None ≡ Some (length line) = sym c.in-None.is ∙ c.line_feed.ensures.value
    ∙ feed_at c.args.text.now line rest is same in
    absurd (cc)
