-- For `check_port`: the entries of a type's ports, by their numbers.
use Rattle.std.proofs.Common.{◌≡◌, ℕ, List, map, Option, ap, ◌∙◌}
use Rattle.std.specs.Prelude.{slice_get, option_map}
use Rattle.std.proofs.lemmas.Option.{slice_get-map}
use Rattle.aadl_tree.specs.Declarations.{Feature}
use Rattle.aadl_names.specs.DuplicateNames.{entry_of}
use Rattle.aadl_names.specs.DuplicatesByNamespace.{port_entries}

pub entry_there : {A : Type 0} (view : A → Feature ℕ) (ports : List A) (k : ℕ) (there : (Option A))
    → slice_get ports k ≡ there
    → slice_get (port_entries (map view ports)) k
    ≡ option_map (λ (p : Feature ℕ). entry_of p.name) (option_map view there)
entry_there view ports k there is =
    slice_get-map (λ (p : Feature ℕ). entry_of p.name) (map view ports) k
    ∙ ap (option_map (λ (p : Feature ℕ). entry_of p.name)) (slice_get-map view ports k ∙ ap (option_map view) is)
