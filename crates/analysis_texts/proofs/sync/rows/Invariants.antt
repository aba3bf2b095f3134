use Rattle.std.proofs.Common.{◌≡◌, length}
use Rattle.pals_model.specs.Composition.{comp}
use Rattle.pals_model.specs.RoundTexts.{report}
use Rattle.analysis_texts.proofs.sync.rows.Given as goal

-- the product is at the round, the text has the rows before it, and there is a value for each root in port
abbrev pub invariant-loop-round : goal.invariant-loop-round
invariant-loop-round l = record {
  design : l.product.design ≡ l.fn.product.design;
  stands : l.product.configuration ≡ comp l.fn.product.design l.env l.round;
  rows : l.text.items ≡ report l.fn.product.design l.env l.round;
  values : length l.values.items ≡ length l.env.lists;
}
