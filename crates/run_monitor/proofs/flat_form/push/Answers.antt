use Rattle.run_monitor.proofs.FlatForms.{adds_one}
use Rattle.run_monitor.proofs.flat_form.push.Goals as goal

pub returns : goal.returns
returns c =
    adds_one c.args.forms.now c.push.new.self c.len-at.result c.args.form c.requires.order c.requires.parts
    c.len-at.ensures c.in_ok-push.ensures.ok
