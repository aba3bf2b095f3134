use Rattle.std.proofs.Common.{◌≡◌, ◌∙◌, ap, ◌++◌, ◌∷◌, [], map, ◌+◌, ◌-◌, rules}
use Rattle.pals_base.specs.Adaptors.{joined, groups}
use Rattle.input_adaptors.proofs.OneMoreGroup.{join_step}
use Rattle.input_adaptors.proofs.to_lower_rate.join_all.Goals as goal

pub loop-group_number-preserved : goal.loop-group_number-preserved
loop-group_number-preserved c =
    let pushed : c.push.new.self ≡ c.loop-group_number.tuple ++ joined c.args.adaptor c.split_at.result.0.now ∷ [] =
    search rules in
    ap (λ t. t ++ map (joined c.args.adaptor)
    (groups (c.args.count - (c.loop-group_number._group_number + 1)) c.args.m c.split_at.result.1.now)) pushed
    ∙ join_step (joined c.args.adaptor) _ c.loop-group_number.tuple c.loop-group_number.rest.now c.split_at.result.0.now
    c.split_at.result.1.now c.args.count c.loop-group_number._group_number c.args.m c.min.result
    c.loop-group_number-test.true c.min.ensures c.split_at.ensures.front c.split_at.ensures.back
    c.loop-group_number.invariant
