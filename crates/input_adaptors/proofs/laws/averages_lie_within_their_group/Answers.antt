use Rattle.pals_base.specs.declared.basic_types.PortValue.TheVariants.{Present}
use Rattle.pals_base.specs.declared.allowed_adaptors.Adaptor.TheVariants.{Average}
use Rattle.input_adaptors.specs.proof.PlacesAndGroupValues.{group_at}
use Rattle.input_adaptors.proofs.TupleLengthsAndGroups.{joined-from}
use Rattle.input_adaptors.proofs.MeanBounds.{IsAboveSome-joined, IsBelowSome-joined}
use Rattle.input_adaptors.proofs.laws.averages_lie_within_their_group.Goals as goal

pub returns-clause-above : goal.returns-clause-above
returns-clause-above c =
    λ p q k tuple v lower given.
    IsAboveSome-joined (group_at p q k tuple) v (joined-from Average p q k tuple (Present v) lower given)

pub returns-clause-below : goal.returns-clause-below
returns-clause-below c =
    λ p q k tuple v lower given.
    IsBelowSome-joined (group_at p q k tuple) v (joined-from Average p q k tuple (Present v) lower given)
