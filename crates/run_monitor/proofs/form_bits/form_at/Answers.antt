use Rattle.std.proofs.lemmas.Option.{slice_get-get_or}
use Rattle.run_monitor.proofs.form_bits.form_at.Goals as goal

pub returns : goal.returns
returns c = slice_get-get_or c.args.forms.now c.args.at _ c.requires
