use Rattle.std.proofs.Common.{not, ap, ◌∙◌, sym, arith}
use Rattle.std.specs.List.{list_any}
use Rattle.std.proofs.lemmas.List.{take_all}
use Rattle.std.proofs.lemmas.List.Folds.{flat_map-map}
use Rattle.list_lemmas.proofs.Elements.{list_any-map}
use Rattle.pals_model.specs.RoundTexts.{text_of}
use Rattle.analysis_fields.specs.declared.processors.Processor.{Processor}
use Rattle.round_budget.specs.BudgetText.{Processor as Served, fits_on, processor_lines}
use Rattle.analysis_texts.specs.BudgetedProcessors.{processor_of}
use Rattle.analysis_texts.proofs.LineBlocks.{blocks_all}
use Rattle.analysis_texts.proofs.processors.budget.Goals as goal

pub returns-clause-text : goal.returns-clause-text
returns-clause-text c =
    let lines = processor_lines c.args.design.now c.args.codes.now in
    c.loop-processor.invariant.lines
    ∙ blocks_all (λ (p : Processor). lines (processor_of p)) c.args.processors.now c.loop-processor.processor-index
    (omega arith)
    ∙ sym (ap text_of (flat_map-map lines processor_of c.args.processors.now))

pub returns-clause-over : goal.returns-clause-over
returns-clause-over c =
    let is_over = λ (p : Served). not (fits_on c.args.design.now c.args.codes.now p) in
    c.loop-processor.invariant.over
    ∙ ap (list_any (λ (p : Processor). is_over (processor_of p)))
    (take_all c.loop-processor.processor-index c.args.processors.now (omega arith))
    ∙ sym (list_any-map is_over processor_of c.args.processors.now)
