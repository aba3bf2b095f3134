use Rattle.aadl_lex.proofs.UniqueTokens.{one_list, one_fault, not_both}
use Rattle.aadl_lex.proofs.one_answer.Goals as goal

pub returns-clause-tokens : goal.returns-clause-tokens
returns-clause-tokens c = one_list

pub returns-clause-fault : goal.returns-clause-fault
returns-clause-fault c = one_fault

pub returns-clause-either : goal.returns-clause-either
returns-clause-either c = not_both
