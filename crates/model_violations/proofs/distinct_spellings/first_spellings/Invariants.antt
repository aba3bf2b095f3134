use Rattle.std.proofs.Common.{◌≡◌, [], drop}
use Rattle.model_violations.specs.IgnoredProperties.{all_behind}
use Rattle.model_violations.specs.proof.SpellingTables.{KnowsAll}
use Rattle.model_violations.proofs.distinct_spellings.first_spellings.Given as goal

-- the remaining names are still to be added, and the table has the added names
abbrev pub invariant-loop-name : goal.invariant-loop-name
invariant-loop-name l =
    record {
      left : all_behind [] l.names ≡ all_behind l.first (drop l.name-index l.names);
      known : KnowsAll l.numbers l.first;
    }
