use Rattle.aadl_tree.proofs.LexedSymbols.{symbol_known}
use Rattle.aadl_tree.proofs.laws.marks_are_read.Goals as goal

pub returns-clause-known : goal.returns-clause-known
returns-clause-known c = symbol_known
