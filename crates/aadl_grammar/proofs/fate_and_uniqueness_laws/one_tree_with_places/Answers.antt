use Rattle.aadl_grammar.proofs.UniquePlacedTrees.OneTreeWithPlaces.{one_placed_package, one_placed_behaviour}
use Rattle.aadl_grammar.proofs.UniquePlacedTrees.TreesFromKeptTerminals.{same_package}
use Rattle.aadl_grammar.proofs.fate_and_uniqueness_laws.one_tree_with_places.Goals as goal

pub returns-clause-package : goal.returns-clause-package
returns-clause-package c ss t u w v = one_placed_package ss t u w v

pub returns-clause-behaviour : goal.returns-clause-behaviour
returns-clause-behaviour c ss t u w v = one_placed_behaviour ss t u w v

pub returns-clause-moved : goal.returns-clause-moved
returns-clause-moved c t ss ts w r e = same_package t ss ts w r e
