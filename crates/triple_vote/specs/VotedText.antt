-- The report of rounds that are voted on: that of the composition, with a line for each replica of a component in
-- place of the component's line.
use Rattle.std.specs.Prelude.{ℕ, suc, codes, decimal, Bool, if◌then◌else◌, List, ◌∷◌, ◌++◌, map, flat_map, slice_get}
use Rattle.std.specs.List.{enumerate_from}
use Rattle.pals_base.specs.declared.basic_types.PortValue.{PortValue}
use Rattle.pals_base.specs.declared.frames.Frame.{Frame}
use Rattle.pals_base.specs.UpwardNumbers.{upwards}
use Rattle.pals_model.specs.declared.design.Component.{Component}
use Rattle.pals_model.specs.declared.design.Tap.{Tap}
use Rattle.pals_model.specs.declared.design.DesignParts.{DesignParts}
use Rattle.pals_model.specs.declared.environment.Env.{Env}
use Rattle.pals_model.specs.PortKindsAndRates.{out_kind}
use Rattle.pals_model.specs.Composition.{state, steps_of_round, tuple_of}
use Rattle.pals_model.specs.RoundTexts.{text_of, round_line, component_line, tap_line}
use Rattle.pals_runs.specs.declared.replica_faults.VoteFault.{VoteFault}
use Rattle.triple_vote.specs.VotedComposition.{is_replicated, copies_of, frame_at, voted_composition, voted_tap}

-- ---- the lines of a component: PATH, or PATH#1, PATH#2 and PATH#3
abbrev pub replica_name : List ℕ → Bool → ℕ → List ℕ
replica_name path replicated replica = if replicated then path ++ codes "#" ++ decimal (suc replica) else path

abbrev pub replica_lines : List Bool → (ℕ → ℕ → Frame) → ℕ → Component → List (List ℕ)
replica_lines replicated frame node c =
    map (λ replica. component_line (replica_name c.path (is_replicated replicated node) replica) c.behaviour
    (frame node replica)) (upwards 0 (copies_of replicated node))

abbrev pub shown_line : DesignParts → (Tap → List PortValue) → Tap → List ℕ
shown_line design shown tap =
    tap_line (out_kind (slice_get design.components tap.source.0) tap.out_port) tap (shown tap)

-- the row of a round, from the frames of replicas and the values of root out ports
abbrev pub voted_row : DesignParts → List Bool → (ℕ → ℕ → Frame) → (Tap → List PortValue) → ℕ → List (List ℕ)
voted_row design replicated frame shown round =
    round_line round
    ∷ flat_map (λ numbered. replica_lines replicated frame numbered.0 numbered.1) (enumerate_from 0 design.components)
    ++ map (shown_line design shown) design.taps

-- ---- the report of *votes*
abbrev pub voted_lines : DesignParts → Env → List Bool → (ℕ → List VoteFault) → ℕ → List (List ℕ)
voted_lines design env replicated faults round =
    voted_row design replicated (frame_at (voted_composition design env replicated faults (suc round)))
    (λ tap. voted_tap design env replicated faults tap round) round

abbrev pub voted_report : DesignParts → Env → List Bool → (ℕ → List VoteFault) → ℕ → List ℕ
voted_report design env replicated faults n =
    text_of (flat_map (voted_lines design env replicated faults) (upwards 0 n))

-- ---- the report of the composition, with each line of a replicated component three times
abbrev pub tripled_lines : DesignParts → Env → List Bool → ℕ → List (List ℕ)
tripled_lines design env replicated round =
    voted_row design replicated (λ node replica. state design env node (suc round))
    (λ tap. tuple_of (steps_of_round design env round) tap.source.0 tap.out_port) round

abbrev pub tripled_report : DesignParts → Env → List Bool → ℕ → List ℕ
tripled_report design env replicated n = text_of (flat_map (tripled_lines design env replicated) (upwards 0 n))
