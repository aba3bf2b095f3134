use Rattle.std.proofs.Common.{ap}
use Rattle.aadl_names.specs.NameResolution.{implementation_in}
use Rattle.model_violations.proofs.declaration_findings.add_implementation_findings.Goals as goal

pub add_thread_findings-requires-clause-number : goal.add_thread_findings-requires-clause-number
add_thread_findings-requires-clause-number c = ap implementation_in c.requires.number
