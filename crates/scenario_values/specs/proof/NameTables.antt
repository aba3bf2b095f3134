-- The tables of a design's names: each gives the number that a component, link or feed of that name has in the
-- design.
use Rattle.std.specs.Prelude.{◌≡◌, ℕ, bytes_eq, List, String, position}
use Rattle.std.specs.List.{position_from}
use Rattle.std.specs.declared.alloc.Global.{Global}
use Rattle.std.specs.BTreeMap.{BTreeMap, get_by_text}
use Rattle.pals_model.specs.declared.design.DesignParts.{DesignParts}
use Rattle.pals_model.specs.ComponentInputs.{feed_names, root_inputs}
use Rattle.pals_model.specs.ComponentAndLinkNames.{node_named, link_named}
use Rattle.pals_model.specs.DesignRules.{IsDesign}

-- a table gives for each name its first number in a list of names that are numbered from a number on
abbrev pub Numbers : BTreeMap (String Global) ℕ → ℕ → List (List ℕ) → Type 0
Numbers table start names = (name : List ℕ) → get_by_text table name ≡ position_from (bytes_eq name) start names

-- what the tables of a design give
pub record AreTables (design : DesignParts) (nodes links feeds : BTreeMap (String Global) ℕ)
    (roots : List (List ℕ)) : Type 0 where
  pub nodes_are : (name : List ℕ) → get_by_text nodes name ≡ node_named design name
  pub links_are : (name : List ℕ) → get_by_text links name ≡ link_named design name
  pub feeds_are : (name : List ℕ) → get_by_text feeds name ≡ position (bytes_eq name) (feed_names design)
  pub roots_are : roots ≡ root_inputs design
  pub rules : IsDesign design
