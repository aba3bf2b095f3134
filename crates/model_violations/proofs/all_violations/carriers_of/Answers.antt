use Rattle.std.proofs.Common.{◌∙◌, map, ap}
use Rattle.std.specs.Prelude.{◌||◌}
use Rattle.model_violations.specs.ConnectionsAndCarriers.{carries}
use Rattle.model_violations.specs.Violations.{carrier_numbers}
use Rattle.model_violations.proofs.ChainCarriers.{carries_all}
use Rattle.model_violations.proofs.all_violations.carriers_of.Goals as goal

pub returns : goal.returns
returns c =
    carries_all c.new-carriers.result c.add_carriers.new.carriers c.add_carriers-2.new.carriers
    c.add_carriers-3.new.carriers (map carrier_numbers c.args.instance.now.links)
    (map carrier_numbers c.args.instance.now.feeds)
    (map carrier_numbers c.args.instance.now.taps) c.new-carriers.ensures
    (λ n i. c.in_ok-add_carriers.ensures n i
    ∙ ap (λ l. carries c.new-carriers.result n i || carries (map carrier_numbers l) n i) c.as_slice.ensures.value)
    (λ n i. c.in_ok-add_carriers-2.ensures n i
    ∙ ap (λ l. carries c.add_carriers.new.carriers n i || carries (map carrier_numbers l) n i)
    c.as_slice-2.ensures.value)
    (λ n i. c.in_ok-add_carriers-3.ensures n i
    ∙ ap (λ l. carries c.add_carriers-2.new.carriers n i || carries (map carrier_numbers l) n i)
    c.as_slice-3.ensures.value)
