use Rattle.std.proofs.Common.{◌∙◌, ◌++◌, map, subst, sym, ap}
use Rattle.std.specs.Prelude.{flat_map}
use Rattle.aadl_tree.specs.proof.PackageViews.{placed}
use Rattle.component_checks.specs.ThreadRatesAndFindings.{thread_rate, greatest_rate, thread_findings}
use Rattle.model_violations.specs.proof.UnsortedFindings.{shown, AddUsed, AreFindings}
use Rattle.model_violations.proofs.RatesWithinLimits.{rates_positive, greatest_fits}
use Rattle.model_violations.proofs.UnsortedFindings.{all_found}
use Rattle.model_violations.proofs.all_violations.findings_of.Goals as goal

pub add_root_findings-requires : goal.add_root_findings-requires
add_root_findings-requires c =
    greatest_fits (placed c.args.properties.now.uses.now.names.tree.now) c.args.instance.now.root
    c.as_slice-threads.result.now c.as_slice.result.now c.greatest_rate-greatest.result
    (c.as_slice.ensures.value ∙ c.in_ok-rates.ensures)
    c.greatest_rate-greatest.ensures

pub add_chain_findings-requires : goal.add_chain_findings-requires
add_chain_findings-requires c =
    rates_positive (placed c.args.properties.now.uses.now.names.tree.now) c.args.instance.now.root
    c.as_slice-threads.result.now c.as_slice-2.result.now (c.as_slice-2.ensures.value ∙ c.in_ok-rates.ensures)

pub returns : goal.returns
returns c =
    let tree = placed c.args.properties.now.uses.now.names.tree.now in
    let root = c.args.instance.now.root in
    let threads = c.as_slice-threads.ensures.value in
    let others =
    subst (λ t. AddUsed (placed t) (shown c.args.instance.now) c.add_chain_findings.new.found
    c.add_used_findings.new.found) (sym c.requires) c.in_ok-add_used_findings.ensures in
    subst (λ t. AreFindings (placed t) (shown c.args.instance.now) c.add_used_findings.new.found) c.requires
    (record {
      used = others.used;
      is_use = others.is_use;
      all =
          all_found tree (shown c.args.instance.now) c.as_slice-2.result.now c.greatest_rate-greatest.result others.used
          c.new-found.result c.add_root_findings.new.found c.add_threads_findings.new.found
          c.add_chain_findings.new.found c.add_used_findings.new.found
          (c.as_slice-2.ensures.value ∙ c.in_ok-rates.ensures ∙ ap (map (thread_rate tree root)) threads)
          (c.greatest_rate-greatest.ensures
          ∙ ap greatest_rate (c.as_slice.ensures.value ∙ sym c.as_slice-2.ensures.value)) c.new-found.ensures
          c.in_ok-add_root_findings.ensures
          (c.in_ok-add_threads_findings.ensures
          ∙ ap (λ l. c.add_root_findings.new.found ++ flat_map (thread_findings tree root) l) threads)
          c.in_ok-add_chain_findings.ensures others.added;
    })
