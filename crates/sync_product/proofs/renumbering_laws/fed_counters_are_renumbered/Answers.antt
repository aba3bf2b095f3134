use Rattle.sync_product.proofs.CounterDesigns.{fed_counters_are_designs}
use Rattle.sync_product.proofs.ExchangedCounters.{fed_counters_are_renumbered, exchanged_inputs}
use Rattle.sync_product.proofs.renumbering_laws.fed_counters_are_renumbered.Goals as goal

pub returns : goal.returns
returns c =
    record { designs = fed_counters_are_designs; renumbered = fed_counters_are_renumbered; inputs = exchanged_inputs }
