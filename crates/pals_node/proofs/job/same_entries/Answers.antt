use Rattle.std.proofs.Common.{◌≡◌, rules}
use Rattle.std.specs.Bool.{Decides}
use Rattle.std.proofs.lemmas.Slice.Eq.{slice_eq-Decides}
use Rattle.pals_node.proofs.job.same_entries.Goals as goal

pub returns : goal.returns
returns c =
    let d : Decides c.eq.result (c.args.left.now ≡ c.args.right.now) =
    slice_eq-Decides (λ a b. search rules) _ _ _ c.eq.ensures in
    search rules
