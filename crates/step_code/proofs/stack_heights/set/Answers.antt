use Rattle.std.proofs.Common.{◌<◌, length, rules}
use Rattle.step_code.proofs.HeightPropagation.{place_there, is_set}
use Rattle.step_code.proofs.stack_heights.set.Goals as goal

pub bounds-heights-place : goal.bounds-heights-place
bounds-heights-place c = place_there (length c.args.heights.now) c.args.place c.in-Some.place c.in-Some.is c.requires

pub offset_bounds-heights-place : goal.offset_bounds-heights-place
offset_bounds-heights-place c =
    let within : c.in-Some.place < length c.args.heights.now =
    place_there (length c.args.heights.now) c.args.place c.in-Some.place c.in-Some.is c.requires in
    search rules

pub returns-in-Some : goal.returns-in-Some
returns-in-Some c = is_set c.args.heights.now c.args.place c.in-Some.place c.args.height c.in-Some.is c.requires
