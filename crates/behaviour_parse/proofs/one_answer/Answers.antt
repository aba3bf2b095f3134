use Rattle.std.proofs.Common.{true}
use Rattle.aadl_tree.specs.Terminals.{spots_from}
use Rattle.aadl_tree.specs.PackagesBehavioursAndNesting.{IsBehaviour}
use Rattle.aadl_tree.specs.proof.BehaviourFaultPlaces.{end_of}
use Rattle.aadl_grammar.proofs.Fates.ExclusiveFates.{fails_once, fails_not_deep, deep_once}
use Rattle.aadl_grammar.proofs.Fates.FateMeanings.{fails_no_text, deep_not_shallow}
use Rattle.behaviour_parse.proofs.ParseResults.{only_one, is_behaviour}
use Rattle.behaviour_parse.proofs.one_answer.Goals as goal

pub returns-clause-tree : goal.returns-clause-tree
returns-clause-tree c text tokens t u a b = only_one text tokens u t b a

pub returns-clause-stop : goal.returns-clause-stop
returns-clause-stop c text tokens a b f g =
    fails_once IsBehaviour 1 (end_of tokens) (spots_from true text tokens) a b f g

pub returns-clause-nest : goal.returns-clause-nest
returns-clause-nest c text tokens a b f g = deep_once IsBehaviour 1 (spots_from true text tokens) a b f g

pub returns-clause-tree_or_stop : goal.returns-clause-tree_or_stop
returns-clause-tree_or_stop c text tokens t a given f =
    fails_no_text IsBehaviour 1 (end_of tokens) (spots_from true text tokens) a f (is_behaviour text tokens t given)

pub returns-clause-tree_or_nest : goal.returns-clause-tree_or_nest
returns-clause-tree_or_nest c text tokens t a given f =
    deep_not_shallow IsBehaviour 1 (spots_from true text tokens) a f given.shallow

pub returns-clause-stop_or_nest : goal.returns-clause-stop_or_nest
returns-clause-stop_or_nest c text tokens a b f g =
    fails_not_deep IsBehaviour 1 (end_of tokens) (spots_from true text tokens) a b f g
