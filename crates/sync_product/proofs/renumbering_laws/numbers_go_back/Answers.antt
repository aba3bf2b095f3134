use Rattle.sync_product.proofs.InverseRenumbering.{undone, same_inputs_back}
use Rattle.sync_product.proofs.renumbering_laws.numbers_go_back.Goals as goal

pub returns : goal.returns
returns c = record {
  numbers = λ to a b sound r. undone to a b r sound;
  inputs = λ to a b env_a env_b r inputs. same_inputs_back to a b r env_a env_b inputs;
}
