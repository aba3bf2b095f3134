use Rattle.aadl_tree.proofs.SpellingParts.{kept_spells, written_spells}
use Rattle.aadl_tree.proofs.laws.kept_is_spelled.Goals as goal

pub returns-clause-kept : goal.returns-clause-kept
returns-clause-kept c ps rest = kept_spells ps rest

pub returns-clause-written : goal.returns-clause-written
returns-clause-written c ps ss rest w = written_spells ps ss rest w
