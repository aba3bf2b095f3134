use Rattle.std.proofs.Common.{◌≡◌, List, length, map, take}
use Rattle.pals_base.specs.declared.basic_types.PortValue.{PortValue}
use Rattle.sync_product.specs.proof.ProductSizes.{message_sizes}
use Rattle.plant_fuse.specs.proof.Messages.{sent_on}
use Rattle.plant_fuse.proofs.messages.send_all.Given as goal

-- the first messages are written
abbrev pub invariant-loop-number : goal.invariant-loop-number
invariant-loop-number l = record {
  sizes : map (λ (tuple : List PortValue). length tuple) l.messages ≡ message_sizes l.design;
  done : take l.number l.messages ≡ take l.number (map (sent_on l.tables.pairs l.stages) l.link-items);
}
