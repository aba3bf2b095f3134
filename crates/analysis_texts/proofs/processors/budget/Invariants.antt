use Rattle.std.proofs.Common.{◌≡◌, not, take}
use Rattle.std.specs.List.{flat_map, list_any}
use Rattle.pals_model.specs.RoundTexts.{text_of}
use Rattle.analysis_fields.specs.declared.processors.Processor.{Processor}
use Rattle.round_budget.specs.BudgetText.{fits_on, processor_lines}
use Rattle.analysis_texts.specs.BudgetedProcessors.{processor_of}
use Rattle.analysis_texts.proofs.processors.budget.Given as goal

-- the lines of the processors so far, and whether one of these has more to do than fits
abbrev pub invariant-loop-processor : goal.invariant-loop-processor
invariant-loop-processor l = record {
  lines : l.text.items ≡ text_of
      (flat_map (λ (p : Processor). processor_lines l.design l.codes (processor_of p))
      (take l.processor-index l.processors));
  over : l.over ≡ list_any (λ (p : Processor). not (fits_on l.design l.codes (processor_of p)))
      (take l.processor-index l.processors);
}
