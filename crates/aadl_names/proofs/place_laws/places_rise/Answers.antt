use Rattle.aadl_names.proofs.RisingPlaces.{places_rise}
use Rattle.aadl_names.proofs.place_laws.places_rise.Goals as goal

pub returns : goal.returns
returns c = λ text tree given p q stands. places_rise text tree given p q stands
