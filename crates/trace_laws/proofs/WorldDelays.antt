-- The run of a world has messages that take the minimum delay of the network.
use Rattle.std.proofs.Common.{◌≡◌, ℕ, zero, suc, ◌-◌, ◌<◌, List, [], ◌∷◌, length, map, refl, ap, ◌∙◌, arith}
use Rattle.std.specs.Prelude.{min, slice_index_or}
use Rattle.pals_model.specs.declared.design.Link.{Link}
use Rattle.pals_model.specs.Delays.{delay_in, delay_of}
use Rattle.bus_machine.specs.proof.AgreementLaws.{IsRunOf}
use Rattle.run_laws.specs.Worlds.{world_run}
use Rattle.pals_model.specs.declared.design.DesignParts.{DesignParts}
use Rattle.pals_model.specs.declared.environment.Env.{Env}
use Rattle.trace_laws.specs.WorldTraces.{IsCarriedInTime}

one_list : (m : ℕ) (links : List Link) (k : ℕ) → k < length links
    → slice_index_or (map (λ (_ : Link). m ∷ []) links) k [] ≡ m ∷ []
one_list m [] k within = absurd (omega (arith, within))
one_list m (l ∷ links) zero within = refl
one_list m (l ∷ links) (suc k) within = one_list m links k (omega (arith, within))

one_delay : (m round : ℕ) → delay_in (m ∷ []) round ≡ m
one_delay m round =
    let first : min round (length (m ∷ []) - 1) ≡ 0 = omega arith in
    ap (λ i. slice_index_or (m ∷ []) i 0) first

pub world_runs_are_carried : (design : DesignParts) (env : Env) (rounds : ℕ) → IsRunOf (world_run design env rounds)
    → IsCarriedInTime (world_run design env rounds)
world_runs_are_carried design env rounds rules = λ link round within.
    let g = design.gamma in
    let is : delay_of (world_run design env rounds).delays link round ≡ g.mu_min =
    ap (λ list. delay_in list round) (one_list g.mu_min design.links link within) ∙ one_delay g.mu_min round in
    let order = rules.design.gamma.network.0 in
    (omega (arith, is), omega (arith, is, order))
