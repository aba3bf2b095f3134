use Rattle.std.proofs.Common.{sym, subst, subst₂}
use Rattle.std.specs.Arc.{arc_value}
use Rattle.plant_fuse.specs.proof.Fusibility.{IsEnd}
use Rattle.plant_fuse.specs.FusedComposition.{ArePairs}
use Rattle.analysis_texts.proofs.FusedRows.{none_bad}
use Rattle.analysis_texts.proofs.plants.begin.Goals as goal

pub unreachable-requires : goal.unreachable-requires
unreachable-requires c =
    let design = arc_value c.in_ok-new.field-0 in
    let pairs = c.in_ok-pairs.pairs in
    none_bad design pairs c.in-Err-BadPair.field-0-0
    (subst₂ ArePairs (sym c.in_ok-new.ensures.ok) (sym c.in_ok-pairs.ensures) c.requires)
    (subst (IsEnd design pairs) c.in-Err-BadPair.field-0-is c.in-Err-BadPair.ensures.end)
