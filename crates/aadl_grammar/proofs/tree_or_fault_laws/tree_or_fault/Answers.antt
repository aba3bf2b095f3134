use Rattle.aadl_grammar.proofs.TreeOrFault.{tree_or_fault}
use Rattle.aadl_grammar.proofs.tree_or_fault_laws.tree_or_fault.Goals as goal

pub returns : goal.returns
returns c = tree_or_fault
