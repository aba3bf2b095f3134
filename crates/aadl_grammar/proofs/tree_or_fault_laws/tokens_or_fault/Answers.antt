use Rattle.aadl_grammar.proofs.TokensOrFault.{tokens_or_fault}
use Rattle.aadl_grammar.proofs.tree_or_fault_laws.tokens_or_fault.Goals as goal

pub returns : goal.returns
returns c = tokens_or_fault
