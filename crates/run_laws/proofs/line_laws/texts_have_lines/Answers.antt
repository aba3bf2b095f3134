use Rattle.run_laws.proofs.TextLines.{texts_have_lines}
use Rattle.run_laws.proofs.line_laws.texts_have_lines.Goals as goal

pub returns : goal.returns
returns c = texts_have_lines
