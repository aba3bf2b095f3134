-- Processors of a scenario as round budgets see them.
use Rattle.analysis_fields.specs.declared.processors.Processor.{Processor as Described}
use Rattle.round_budget.specs.BudgetText.{Processor}
use Rattle.round_budget.specs.Budgets.{numbers}

abbrev pub processor_of : Described → Processor
processor_of p = record { name = p.name; nanos = p.nanos; members = numbers p.components }
