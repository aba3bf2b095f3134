use Rattle.aadl_tree.specs.PackagesBehavioursAndNesting.{IsPackage}
use Rattle.aadl_grammar.proofs.Fates.GrammarLanguages.{packages}
use Rattle.aadl_grammar.proofs.Fates.Answers.{answers_text, answers_fault, answers_depth}
use Rattle.aadl_grammar.proofs.fate_and_uniqueness_laws.fate_of_package.Goals as goal

pub returns-clause-finished : goal.returns-clause-finished
returns-clause-finished c end spots = answers_text IsPackage 0 end packages spots

pub returns-clause-syntax : goal.returns-clause-syntax
returns-clause-syntax c end spots at = answers_fault IsPackage 0 end packages spots at

pub returns-clause-deep : goal.returns-clause-deep
returns-clause-deep c end spots at = answers_depth IsPackage 0 end packages spots at
