-- Computing one round after another gives, after any number of rounds, the configuration of the solution for these
-- rounds: the claim RoundsFollow.
use Rattle.std.proofs.Common.{◌≡◌, ◌∙◌, ℕ, zero, suc, ◌+◌, ◌*◌, List, [], ◌∷◌, map, refl, sym, ap, ap₂, subst, arith}
use Rattle.pals_base.specs.declared.frames.Frame.{Frame}
use Rattle.pals_base.specs.SingleStep.{initial}
use Rattle.pals_base.specs.StepSequences.{frame_after}
use Rattle.pals_base.specs.UpwardNumbers.{upwards}
use Rattle.pals_model.specs.declared.design.Component.{Component}
use Rattle.pals_model.specs.declared.design.DesignParts.{DesignParts}
use Rattle.pals_model.specs.declared.environment.Env.{Env}
use Rattle.pals_model.specs.ComponentInputs.{values_at}
use Rattle.pals_model.specs.Composition.{Configuration, opening}
use Rattle.pals_model.specs.DesignRules.{IsDesign}
use Rattle.pals_runs.specs.declared.plant_pairs.Pair.{Pair}
use Rattle.plant_fuse.specs.FusedComposition.{ArePairs, Inputs, inputs_to, vector_of, messages_before, IsFused}
use Rattle.plant_fuse.specs.proof.SolutionConfiguration.{first_rounds, frame_of, fused}
use Rattle.plant_fuse.specs.proof.RoundEquations.{IsFusedRound, after_round, last_round, AreRounds}
use Rattle.plant_fuse.specs.proof.FusedLaws.{RoundsFollow}
use Rattle.plant_fuse.proofs.FunctionTables.{table, table_same}
use Rattle.plant_fuse.proofs.StepDependencies.{read_at}
use Rattle.plant_fuse.proofs.SolutionPrefixes.{solution_goes_on}
use Rattle.plant_fuse.proofs.LastRoundOfSolution.{fused_is, rounds_go_on}
use Rattle.plant_fuse.proofs.RoundUniqueness.{round_is_one}

table_map : {X Y : Type 0} (f : X → Y) (from : ℕ) (xs : List X) → table (λ place x. f x) from xs ≡ map f xs
table_map f from [] = refl
table_map f from (x ∷ xs) = ap (λ ys. f x ∷ ys) (table_map f (from + 1) xs)

-- before the first round
pub opens : (design : DesignParts) (pairs : List Pair) (env : Env) (ins : Inputs) → IsDesign design
    → ArePairs design pairs → IsFused design pairs env 0 ins → fused design pairs 0 ins ≡ opening design
opens design pairs env ins sound are is =
    fused_is design pairs 0 ins
    ∙ ap (λ (frames : List Frame). let at : Configuration =
    record { frames = frames; messages = messages_before design pairs ins 0 } in at)
    (table_same (frame_of ins) (λ place (c : Component). initial c.behaviour) design.components
    (λ node c is_c.
    let none : 0 * c.rate ≡ 0 = omega arith in
    ap (frame_after c.behaviour (initial c.behaviour))
    (ap (λ (v : Inputs). inputs_to v node) is
    ∙ read_at design pairs sound are env 0 ins node c is_c
    ∙ ap (λ n. map (vector_of design pairs env ins node c) (upwards 0 n)) none))
    ∙ table_map (λ (c : Component). initial c.behaviour) 0 design.components)

pub rounds_follow : RoundsFollow
rounds_follow design pairs env at vectors zero ins sound are rounds is =
    rounds.begins ∙ sym (opens design pairs env ins sound are is)
rounds_follow design pairs env at vectors (suc n) ins sound are rounds is =
    let first = first_rounds design n ins in
    let fewer : AreRounds design pairs env n at vectors = record {
      begins = rounds.begins;
      reads = λ round below. rounds.reads round (omega arith);
      leaves = λ round below. rounds.leaves round (omega arith);
    } in
    let before =
    rounds_follow design pairs env at vectors n first sound are fewer
    (solution_goes_on design pairs env n ins sound are is) in
    let last = rounds_go_on design pairs env n ins sound are is in
    let reads =
    subst (λ (c : Configuration). IsFusedRound design pairs (values_at env n) c (vectors n)) before
    (rounds.reads n (omega arith)) in
    let same =
    round_is_one design pairs (values_at env n) (fused design pairs n first) (vectors n) (last_round design n ins)
    are reads last.0 in
    rounds.leaves n (omega arith) ∙ ap₂ (after_round design pairs) before same ∙ sym last.1
