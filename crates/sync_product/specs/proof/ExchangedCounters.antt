-- The two counters, with their numbers exchanged.
use Rattle.std.specs.Prelude.{ℕ, ◌-◌, List, [], ◌∷◌, None, codes, reverse}
use Rattle.pals_base.specs.declared.basic_types.PortValue.{PortValue}
use Rattle.pals_model.specs.declared.design.Feed.{Feed}
use Rattle.pals_model.specs.declared.design.DesignParts.{DesignParts}
use Rattle.pals_model.specs.declared.environment.Env.{Env}
use Rattle.pals_model.specs.proof.TwoCounters.{two_counters}

abbrev pub exchange : ℕ → ℕ
exchange n = 1 - n

-- each is linked to the other, so the links stay as they are
abbrev pub exchanged_counters : DesignParts
exchanged_counters = record two_counters { components = reverse two_counters.components }

-- ---- the two counters with root in ports x and y in place of the links
abbrev pub fed : List ℕ → ℕ → Feed
fed name node = record { name = name; target = record { 0 = node }; in_port = 0; adaptor = None }

abbrev pub fed_counters : DesignParts
fed_counters = record two_counters { links = []; feeds = fed (codes "x") 0 ∷ fed (codes "y") 1 ∷ [] }

-- y comes first here, so its values do too
abbrev pub exchanged_fed_counters : DesignParts
exchanged_fed_counters = record exchanged_counters { links = []; feeds = fed (codes "y") 0 ∷ fed (codes "x") 1 ∷ [] }

abbrev pub inputs_of_two : List PortValue → List PortValue → Env
inputs_of_two first second = record { lists = first ∷ second ∷ [] }
