use Rattle.std.proofs.Common.{map, ap, arith}
use Rattle.std.proofs.lemmas.List.{length-map}
use Rattle.aadl_tree.specs.proof.ValueViews.{value_view}
use Rattle.aadl_tree.specs.proof.PlaceMaps.{kept_place}
use Rattle.component_checks.specs.TypeFindings.{text_kind}
use Rattle.component_checks.proofs.SingleTexts.{no_only_text}
use Rattle.component_checks.proofs.type_findings.only_kind.Goals as goal

pub returns-in_default-2 : goal.returns-in_default-2
returns-in_default-2 c =
    ap text_kind (no_only_text (map (value_view kept_place) c.args.values.now) (rw length-map (omega arith)))
