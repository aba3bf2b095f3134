-- The message of each link after a round: whole inside a pair, and else cut to the steps that are sent.
use Rattle.std.specs.Prelude.{ℕ, Bool, if◌then◌else◌, List, [], length, Option, Some, None, slice_get}
use Rattle.pals_base.specs.declared.basic_types.PortValue.{PortValue}
use Rattle.pals_base.specs.Tuples.{column, cut}
use Rattle.pals_model.specs.declared.design.Link.{Link}
use Rattle.pals_runs.specs.declared.plant_pairs.Pair.{Pair}
use Rattle.sync_product.specs.declared.component_stage.Stage.{Stage}
use Rattle.plant_fuse.specs.proof.PartnersAndPairLinks.{partner_of, is_inside}

-- how many places of a tuple are sent: all of them inside a pair
abbrev pub sent_count : Bool → Stage → ℕ
sent_count inside stage = if inside then length stage.rows else stage.sent

abbrev pub sent_from : Bool → Option Stage → ℕ → List PortValue
sent_from inside None port = []
sent_from inside (Some stage) port = cut (sent_count inside stage) (column port stage.rows)

-- the message of a link, from the rows of its source
abbrev pub sent_on : List Pair → List Stage → Link → List PortValue
sent_on pairs stages link =
    sent_from (is_inside (partner_of pairs link.source.0) link) (slice_get stages link.source.0) link.out_port
