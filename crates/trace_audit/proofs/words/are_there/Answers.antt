use Rattle.std.proofs.Common.{rules}
use Rattle.std.proofs.lemmas.Iterator.Search.{all_from_yields_List}
use Rattle.std.proofs.lemmas.Iterator.Splits.{YieldsList-from_slice_split}
use Rattle.run_laws.specs.LineForms.{is_there}
use Rattle.trace_audit.specs.proof.RemainingWords.{is_space}
use Rattle.trace_audit.proofs.words.are_there.Goals as goal

pub returns : goal.returns
returns c =
    all_from_yields_List is_there _ _ _ c.all.ensures.ran
    (YieldsList-from_slice_split _ is_space _ c.split.ensures.rest c.split.ensures.done c.split.ensures.closure
    (λ x b q h. search rules))
    (λ x b q h. search rules)
