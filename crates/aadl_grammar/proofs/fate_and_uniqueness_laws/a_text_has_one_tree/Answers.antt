use Rattle.aadl_grammar.proofs.DerivationTrees.UniqueTrees.{one_package, one_behaviour, package_kept, behaviour_kept}
use Rattle.aadl_grammar.proofs.fate_and_uniqueness_laws.a_text_has_one_tree.Goals as goal

pub returns-clause-package : goal.returns-clause-package
returns-clause-package c ks t u sp sq = one_package ks t u sp sq

pub returns-clause-behaviour : goal.returns-clause-behaviour
returns-clause-behaviour c ks t u sp sq = one_behaviour ks t u sp sq

pub returns-clause-kept_of_package : goal.returns-clause-kept_of_package
returns-clause-kept_of_package c ks t u sp sq = package_kept ks t u sp sq

pub returns-clause-kept_of_behaviour : goal.returns-clause-kept_of_behaviour
returns-clause-kept_of_behaviour c ks t u sp sq = behaviour_kept ks t u sp sq
