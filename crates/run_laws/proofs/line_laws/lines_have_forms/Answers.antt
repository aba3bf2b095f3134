use Rattle.run_laws.proofs.EntryForms.{lines_have_forms, entries_have_lines}
use Rattle.run_laws.proofs.line_laws.lines_have_forms.Goals as goal

pub returns : goal.returns
returns c = record { lines = entries_have_lines; forms = lines_have_forms }
