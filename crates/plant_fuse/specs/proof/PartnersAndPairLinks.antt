-- The partner of a component in its pair, and whether a link goes to the partner of its source.
use Rattle.std.specs.Prelude.{ℕ, nat_eq, Bool, false, if◌then◌else◌, List, [], ◌∷◌, length, map, Option, Some, None}
use Rattle.pals_base.specs.declared.basic_types.NodeNo.{NodeNo}
use Rattle.pals_base.specs.UpwardNumbers.{upwards}
use Rattle.pals_model.specs.declared.design.Link.{Link}
use Rattle.pals_model.specs.declared.design.DesignParts.{DesignParts}
use Rattle.pals_runs.specs.declared.plant_pairs.Pair.{Pair}

-- by the first pair that contains it
abbrev pub partner_of : List Pair → ℕ → Option NodeNo
partner_of [] node = None
partner_of (pair ∷ pairs) node =
    if nat_eq pair.plant.0 node then Some pair.controller
    else if nat_eq pair.controller.0 node then Some pair.plant
    else partner_of pairs node

abbrev pub all_partners : DesignParts → List Pair → List (Option NodeNo)
all_partners design pairs = map (partner_of pairs) (upwards 0 (length design.components))

-- whether a link goes to the partner of its source
abbrev pub is_inside : Option NodeNo → Link → Bool
is_inside None link = false
is_inside (Some partner) link = nat_eq partner.0 link.target.0
