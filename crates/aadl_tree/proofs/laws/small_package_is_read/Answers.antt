use Rattle.aadl_tree.proofs.EmptyPackage.{lexed, read}
use Rattle.aadl_tree.proofs.laws.small_package_is_read.Goals as goal

pub returns-clause-tokens : goal.returns-clause-tokens
returns-clause-tokens c = lexed

pub returns-clause-tree : goal.returns-clause-tree
returns-clause-tree c = read
