use Rattle.std.proofs.Common.{◌≡◌, ◌∙◌, ◌+◌, ap, sym, length, take, map, arith}
use Rattle.std.specs.Option.{option_copied}
use Rattle.std.proofs.lemmas.Grind.{common_steps}
use Rattle.std.proofs.lemmas.List.{length-map, get_or-map}
use Rattle.list_lemmas.proofs.ListOperations.{filled_more, filled_all}
use Rattle.plant_fuse.specs.proof.PairSteps.{member_of_pair, side_value}
use Rattle.plant_fuse.proofs.pair_steps.write_read.Goals as goal

pub loop-at-preserved : goal.loop-at-preserved
loop-at-preserved c =
    let at = c.loop-at.at in
    let f = side_value c.args.round (member_of_pair c.args.side) c.args.step (option_copied c.args.last) in
    let sources = c.args.side.wired.sources.now in
    let wanted = map f sources in
    let size : length wanted ≡ length sources = length-map sources f in
    let item = c.place_read.ensures ∙ sym (get_or-map f sources at _ c.place_read.result c.loop-at-test.true) in
    record {
      len = grind (arith, common_steps);
      done =
          ap (take (at + 1)) c.set.ensures
          ∙ filled_more c.loop-at.inputs wanted at c.place_read.result (omega (arith, c.requires.count)) (omega arith)
          item c.loop-at.invariant.done;
    }

pub returns-clause-inputs : goal.returns-clause-inputs
returns-clause-inputs c =
    let f = side_value c.args.round (member_of_pair c.args.side) c.args.step (option_copied c.args.last) in
    let sources = c.args.side.wired.sources.now in
    let wanted = map f sources in
    let size : length wanted ≡ length sources = length-map sources f in
    filled_all c.loop-at.inputs wanted c.loop-at.at (omega (arith, c.requires.count)) (omega arith)
    c.loop-at.invariant.done
