use Rattle.std.proofs.Common.{◌∙◌, sym, ap}
use Rattle.std.specs.Prelude.{option_map}
use Rattle.aadl_tree.specs.proof.PlaceMaps.{kept_place}
use Rattle.aadl_tree.specs.proof.DeclarationViews.{connection_view}
use Rattle.component_checks.specs.AdaptorTexts.{adaptor_named}
use Rattle.model_violations.specs.ConnectionsAndCarriers.{adaptor_text}
use Rattle.model_violations.specs.ChainEnds.{end_name, end_kind, end_rate}
use Rattle.model_violations.specs.proof.ThreadRates.{tree_of}
use Rattle.model_violations.proofs.EqualOrUnknownRates.{nothing_added}
use Rattle.model_violations.proofs.chain_findings.add_adaptor_findings.Goals as goal

pub returns-then-is_plain : goal.returns-then-is_plain
returns-then-is_plain c =
    let tree = tree_of c.args.rated.now in
    let threads = c.args.rated.now.threads.now in
    let rates = c.args.rated.now.rates.now in
    let chain = c.args.chain.now in
    let carrier = connection_view kept_place c.args.connection.now in
    nothing_added carrier.name.at (end_name tree threads chain.to) c.args.said.adaptor
    (option_map adaptor_named (adaptor_text carrier)) (end_kind tree threads chain.to)
    c.end_rate-source.result (end_rate rates chain.from) c.end_rate-target.result (end_rate rates chain.to)
    c.args.found.now
    (ap (λ said. said.adaptor) c.requires.said) c.end_rate-source.ensures.value c.end_rate-target.ensures.value
    (sym c.is_plain.ensures ∙ c.if-is_plain.true)
