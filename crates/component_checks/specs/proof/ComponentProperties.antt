-- The properties of components: the period and the dispatch, by the numbers of declarations and subcomponents.
use Rattle.std.specs.Prelude.{ℕ, Bool, List, [], map, codes, Option, Some, None, option_map, slice_get}
use Rattle.std.specs.Option.{option_and_then, option_or}
use Rattle.aadl_tree.specs.Values.{Association, Associations}
use Rattle.aadl_tree.specs.Declarations.{Subcomponent, Declaration, PackageTree}
use Rattle.aadl_names.specs.declared.recognised_properties.PropertyName.TheVariants.{Period, Dispatch}
use Rattle.aadl_names.specs.RecognisedProperties.{association_value}
use Rattle.aadl_names.specs.PropertyValueShapes.{reference_of, time_of}
use Rattle.aadl_names.specs.NameResolution.{type_in, implementation_in, subcomponents_of}
use Rattle.component_checks.specs.declared.component_properties.ComponentProperties.{ComponentProperties}
use Rattle.component_checks.specs.BoundsAndRates.{within_hour}
use Rattle.component_checks.specs.ThreadRatesAndFindings.{is_word}
use Rattle.component_checks.specs.PropertyLookup.{type_lists, own_lists, sub_lists, first_in}

-- the given period; `None` above one hour
abbrev pub period_at : Option (Association ℕ) → Option (Option ℕ)
period_at x = option_map (λ a. option_and_then within_hour (time_of (association_value a))) x

-- whether the given dispatch is periodic
abbrev pub dispatch_at : Option (Association ℕ) → Option Bool
dispatch_at x = option_map (λ a. is_word (codes "Periodic") (reference_of (association_value a))) x

abbrev pub timed_by : List (Associations ℕ) → ComponentProperties
timed_by lists = record { period = period_at (first_in Period lists); periodic = dispatch_at (first_in Dispatch lists) }

-- properties that are not given are taken from further out
abbrev pub nearer : ComponentProperties → ComponentProperties → ComponentProperties
nearer a b = record { period = option_or a.period b.period; periodic = option_or a.periodic b.periodic }

-- ---- by the numbers of declarations and subcomponents
abbrev pub type_timed : Declaration ℕ → ComponentProperties
type_timed d = timed_by (type_lists (type_in (Some d)))

abbrev pub own_timed : PackageTree ℕ → Declaration ℕ → ComponentProperties
own_timed tree d = timed_by (own_lists tree (implementation_in (Some d)))

abbrev pub sub_timed : PackageTree ℕ → Subcomponent ℕ → ComponentProperties
sub_timed tree sub = timed_by (sub_lists tree (Some sub))

abbrev pub subs_timed : PackageTree ℕ → Declaration ℕ → List ComponentProperties
subs_timed tree d = map (sub_timed tree) (subcomponents_of (implementation_in (Some d)))

-- ---- the entry at a number, or no properties
abbrev pub or_nothing : Option ComponentProperties → ComponentProperties
or_nothing None = timed_by []
or_nothing (Some timed) = timed

abbrev pub numbered : List ComponentProperties → Option ℕ → ComponentProperties
numbered timed number = or_nothing (option_and_then (slice_get timed) number)

-- the same in one of several lists
abbrev pub or_none : Option (List ComponentProperties) → List ComponentProperties
or_none None = []
or_none (Some timed) = timed

abbrev pub numbered_in : List (List ComponentProperties) → ℕ → ℕ → ComponentProperties
numbered_in timed n i = or_nothing (slice_get (or_none (slice_get timed n)) i)
