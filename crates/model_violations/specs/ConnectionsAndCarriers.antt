-- The properties of connections: whether they are delayed, and the text of their adaptor; and which connections are
-- carriers.
use Rattle.std.specs.Prelude.{ℕ, Bool, ◌&&◌, nat_eq, List, codes, Option, slice_get}
use Rattle.std.specs.List.{list_any}
use Rattle.std.specs.Option.{option_and_then}
use Rattle.aadl_tree.specs.Declarations.{Connection, PackageTree}
use Rattle.aadl_names.specs.declared.recognised_properties.PropertyName.TheVariants.{Timing, Adaptor}
use Rattle.aadl_names.specs.RecognisedProperties.{association_named, association_value, name_of}
use Rattle.aadl_names.specs.PropertyValueShapes.{text_of}
use Rattle.aadl_names.specs.NameResolution.{implementation_at, connections_of}
use Rattle.aadl_instance.specs.declared.chain.ConnectionAt.{ConnectionAt}
use Rattle.component_checks.specs.ThreadRatesAndFindings.{says}

abbrev pub connection_of : PackageTree ℕ → ConnectionAt → Option (Connection ℕ)
connection_of tree c = slice_get (connections_of (implementation_at tree c.declaration)) c.connection

abbrev pub is_delayed : Connection ℕ → Bool
is_delayed c = says (codes "Delayed") (association_named c.properties (name_of Timing))

abbrev pub adaptor_text : Connection ℕ → Option (List ℕ)
adaptor_text c = option_and_then (λ a. text_of (association_value a)) (association_named c.properties (name_of Adaptor))

-- whether a table has a connection of a declaration, by their numbers
abbrev pub carries : List (ℕ × ℕ) → ℕ → ℕ → Bool
carries table n i = list_any (λ k. nat_eq n k.0 && nat_eq i k.1) table
