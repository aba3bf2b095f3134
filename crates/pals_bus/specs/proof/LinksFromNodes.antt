-- The links from each node of a design.
use Rattle.std.specs.Prelude.{◌≡◌, ℕ, ◌<◌, List, [], length, map, filter, slice_index_or}
use Rattle.std.specs.List.{enumerate_from}
use Rattle.pals_base.specs.declared.basic_types.LinkNo.{LinkNo}
use Rattle.pals_model.specs.declared.design.Link.{Link}
use Rattle.pals_bus.specs.proof.RoundMessages.{is_from}

abbrev pub no_numbers : List LinkNo
no_numbers = []

abbrev pub number_of : ℕ × Link → LinkNo
number_of numbered = record { 0 = numbered.0 }

-- the numbers of the links from a node, in rising order
abbrev pub links_from : ℕ → List Link → List LinkNo
links_from node links = map number_of (filter (λ numbered. is_from node numbered.1) (enumerate_from 0 links))

-- one list for each node, of the links from it
pub record AreOutgoing (nodes : ℕ) (links : List Link) (lists : List (List LinkNo)) : Type 0 where
  pub count : length lists ≡ nodes
  pub each : (node : ℕ) → node < nodes → slice_index_or lists node no_numbers ≡ links_from node links
