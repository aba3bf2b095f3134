use Rattle.std.proofs.Common.{◌<◌, length, rules}
use Rattle.step_code.proofs.HeightPropagation.{place_there}
use Rattle.step_code.proofs.weights.number_at.Goals as goal

pub bounds-best-place : goal.bounds-best-place
bounds-best-place c = place_there (length c.args.best.now) c.args.place c.in-Some.place c.in-Some.is c.requires

pub offset_bounds-best-place : goal.offset_bounds-best-place
offset_bounds-best-place c =
    let within : c.in-Some.place < length c.args.best.now =
    place_there (length c.args.best.now) c.args.place c.in-Some.place c.in-Some.is c.requires in
    search rules
