-- How a fault names its position: the field, and a name or an index inside it.
use Rattle.std.specs.Prelude.{ℕ, codes, decimal, List, ◌++◌}
use Rattle.scenario_values.specs.declared.placed_faults.Place.{Place}
use Rattle.scenario_values.specs.declared.placed_faults.Place.TheVariants.{Field, Name, Index, NameIndex}

abbrev pub inside : List ℕ → List ℕ → List ℕ
inside outer inner = outer ++ codes "/" ++ inner

abbrev pub place_text : Place → List ℕ
place_text (Field field) = field.now
place_text (Name field name) = inside field.now name.now
place_text (Index field index) = inside field.now (decimal index)
place_text (NameIndex field name index) = inside (inside field.now name.now) (decimal index)
