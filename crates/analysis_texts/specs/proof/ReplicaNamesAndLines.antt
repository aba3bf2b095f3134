-- The names of replicas and their lines, as they are gathered for votes.
use Rattle.std.specs.Prelude.{ℕ, Bool, if◌then◌else◌, List, map, flat_map}
use Rattle.std.specs.List.{enumerate_from}
use Rattle.pals_base.specs.declared.frames.Frame.{Frame}
use Rattle.pals_base.specs.UpwardNumbers.{upwards}
use Rattle.pals_model.specs.declared.design.Component.{Component}
use Rattle.triple_vote.specs.VotedComposition.{is_replicated}
use Rattle.triple_vote.specs.VotedText.{replica_name, replica_lines}

-- ---- the names of replicas: PATH, or PATH#1, PATH#2 and PATH#3
abbrev pub names_of : List ℕ → Bool → List (List ℕ)
names_of path replicated = map (replica_name path replicated) (upwards 0 (if replicated then 3 else 1))

abbrev pub all_names : List Component → List Bool → List (List (List ℕ))
all_names components replicated =
    map (λ numbered. names_of numbered.1.path (is_replicated replicated numbered.0)) (enumerate_from 0 components)

-- ---- the lines of replicas, where components are numbered from a number on
abbrev pub all_lines : List Bool → (ℕ → ℕ → Frame) → ℕ → List Component → List (List ℕ)
all_lines replicated frame node components =
    flat_map (λ numbered. replica_lines replicated frame numbered.0 numbered.1) (enumerate_from node components)
