use Rattle.aadl_grammar.proofs.CanonicalRoundTrip.{no_other}
use Rattle.aadl_parse.proofs.UniqueParseResults.{one_text_fault, tree_or_fault}
use Rattle.aadl_parse.proofs.one_answer.Goals as goal

pub returns-clause-tree : goal.returns-clause-tree
returns-clause-tree c = no_other

pub returns-clause-fault : goal.returns-clause-fault
returns-clause-fault c = one_text_fault

pub returns-clause-either : goal.returns-clause-either
returns-clause-either c = tree_or_fault
