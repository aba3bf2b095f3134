use Rattle.sync_product.proofs.CounterDesigns.{counters_are_designs}
use Rattle.sync_product.proofs.ExchangedCounters.{counters_are_renumbered, no_inputs}
use Rattle.sync_product.proofs.renumbering_laws.counters_are_renumbered.Goals as goal

pub returns : goal.returns
returns c = record { designs = counters_are_designs; renumbered = counters_are_renumbered; inputs = no_inputs }
