-- The properties of a connection that apply to its connection chains: whether they are delayed, and their adaptor.
use Rattle.std.specs.Prelude.{ℕ, List, [], map, codes, Option, Some, None, option_map, slice_get}
use Rattle.std.specs.Option.{option_and_then}
use Rattle.pals_base.specs.declared.allowed_adaptors.Adaptor.{Adaptor}
use Rattle.aadl_tree.specs.Values.{Association, Associations}
use Rattle.aadl_tree.specs.Declarations.{Declaration}
use Rattle.aadl_names.specs.RecognisedProperties.{association_named, association_value, name_of}
use Rattle.aadl_names.specs.PropertyValueShapes.{text_of}
use Rattle.aadl_names.specs.NameResolution.{implementation_in, connections_of}
use Rattle.component_checks.specs.declared.chain_properties.ChainProperties.{ChainProperties}
use Rattle.component_checks.specs.AdaptorTexts.{adaptor_named}
use Rattle.component_checks.specs.ThreadRatesAndFindings.{says}
use Rattle.aadl_names.specs.declared.recognised_properties.PropertyName.TheVariants as properties

abbrev pub adaptor_of : Option (Association ℕ) → Option (Option Adaptor)
adaptor_of x = option_map adaptor_named (option_and_then (λ a. text_of (association_value a)) x)

abbrev pub carried_by : Associations ℕ → ChainProperties
carried_by xs =
    record {
      delayed = says (codes "Delayed") (association_named xs (name_of properties.Timing));
      adaptor = adaptor_of (association_named xs (name_of properties.Adaptor));
    }

-- by the connections of a declaration
abbrev pub connections_carried : Declaration ℕ → List ChainProperties
connections_carried d = map (λ c. carried_by c.properties) (connections_of (implementation_in (Some d)))

-- the list at a number, or the empty list
abbrev pub or_none : Option (List ChainProperties) → List ChainProperties
or_none None = []
or_none (Some carried) = carried

abbrev pub carried_at : List (List ChainProperties) → ℕ → ℕ → Option ChainProperties
carried_at carried n i = slice_get (or_none (slice_get carried n)) i
