use Rattle.answer_laws.proofs.UniqueDesignsAndRefusals.{one_list_text, fault_or_list, one_fault_text}
use Rattle.answer_laws.proofs.bundle_uniqueness.one_refusal.Goals as goal

pub returns-clause-violations : goal.returns-clause-violations
returns-clause-violations c = one_list_text

pub returns-clause-either : goal.returns-clause-either
returns-clause-either c = fault_or_list

pub returns-clause-fault : goal.returns-clause-fault
returns-clause-fault c = one_fault_text c.one_fault.ensures
