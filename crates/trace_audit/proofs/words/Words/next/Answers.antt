use Rattle.std.proofs.Common.{◌∙◌, ap}
use Rattle.trace_audit.specs.proof.RemainingWords.{words_in}
use Rattle.trace_audit.proofs.FirstWords.{cut_once}
use Rattle.trace_audit.proofs.words.Words.next.Goals as goal

pub returns-in-Some : goal.returns-in-Some
returns-in-Some c =
    ap words_in c.in_ok-rest.was ∙ cut_once c.in_ok-rest.rest.now c.in-Some.word c.in-Some.more c.in-Some.ensures.cases
