use Rattle.pals_model.proofs.TextLineLaws.{text_splits, row_splits, report_splits}
use Rattle.pals_model.proofs.laws.lines.texts_split_into_lines.Goals as goal

pub returns : goal.returns
returns c = record { text = text_splits; row = row_splits; report = report_splits }
