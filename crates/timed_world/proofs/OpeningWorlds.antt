-- A world before its first event.
use Rattle.std.proofs.Common.{◌≡◌, ℕ, zero, suc, ◌≤◌, List, [], ◌∷◌, length, map, refl, ap₂, ◌∙◌, arith}
use Rattle.std.specs.Prelude.{All}
use Rattle.std.proofs.lemmas.List.{length-map}
use Rattle.std.proofs.lemmas.List.Elements.{All-map}
use Rattle.pals_base.specs.declared.limits.TheConstants.{HOUR, ROUNDS}
use Rattle.pals_base.specs.declared.period_bound_and_releases.Gamma.{Gamma}
use Rattle.pals_model.specs.declared.design.DesignParts.{DesignParts}
use Rattle.pals_model.specs.declared.design.Link.{Link}
use Rattle.pals_model.specs.declared.design.Component.{Component}
use Rattle.pals_model.specs.declared.delays.Delays.{Delays}
use Rattle.pals_model.specs.declared.environment.Env.{Env}
use Rattle.pals_model.specs.Delays.{AreDelays, IsDelayList}
use Rattle.pals_model.specs.DesignRules.{IsDesign, IsGamma}
use Rattle.step_code.specs.declared.instr.CodeParts.{CodeParts}
use Rattle.bus_machine.specs.proof.AgreementLaws.{IsRunOf}
use Rattle.pals_bus.specs.BusValues.{BusValue}
use Rattle.run_laws.specs.Worlds.{world_run}
use Rattle.run_laws.proofs.OpeningWorlds.{opening_keeps_time}
use Rattle.timed_world.specs.proof.WorldValuesAndMoves.{WorldValue, KeepsWorld, opening_value}

-- ---- the delays
one_within : (delay most : ℕ) → delay ≤ most → All (λ d. d ≤ most) (delay ∷ [])
one_within delay most small zero d below = small
one_within delay most small (suc k) d below = absurd (omega arith)

-- the minimum delay on each link
abbrev pub least_delays : DesignParts → Delays
least_delays design = record { lists = map (λ (_ : Link). design.gamma.mu_min ∷ []) design.links }

-- they are such as a run may have
pub least_fit : (g : Gamma) (links : List Link) → IsGamma g
    → AreDelays (length links) (record { lists = map (λ (_ : Link). g.mu_min ∷ []) links })
least_fit g links rules =
    let least = rules.network.0 in
    let most = rules.network.1 in
    let small : g.mu_min ≤ HOUR = omega arith in
    let list : IsDelayList (g.mu_min ∷ []) = record { some' = omega arith; within = one_within g.mu_min HOUR small } in
    record {
      each = length-map links (λ (_ : Link). g.mu_min ∷ []);
      lists = All-map IsDelayList (λ (_ : Link). g.mu_min ∷ []) links (λ k d below. list);
    }

-- ---- the world
pub opening_kept : (design : DesignParts) (codes : List CodeParts) (env : Env) (rounds : ℕ) → IsDesign design
    → 1 ≤ rounds → rounds ≤ ROUNDS
    → KeepsWorld (opening_value design codes env rounds)
opening_kept design codes env rounds rules some few =
    let is_run : IsRunOf (world_run design env rounds) = record { design = rules; rounds = some } in
    record { rules = is_run; few = few; apart = refl; keeps = opening_keeps_time (world_run design env rounds) is_run }

abbrev pub no_sendings : DesignParts → List (List ℕ)
no_sendings design = map (λ (_ : Component). []) design.components

-- a world is determined by its parts
pub same_world : (old : WorldValue) (bus : BusValue) (time : ℕ) (readings since ready : List ℕ)
    (sent_at : List (List ℕ)) → bus ≡ old.bus → time ≡ old.time
    → readings ≡ old.readings → since ≡ old.since → ready ≡ old.ready → sent_at ≡ old.sent_at
    → record { bus = bus; time = time; readings = readings; since = since; ready = ready; sent_at = sent_at } ≡ old
same_world old bus time readings since ready sent_at is_bus is_time is_readings is_since is_ready is_sent =
    let first : (b : BusValue) (r : List ℕ) → WorldValue =
    λ b r. record { bus = b; time = time; readings = r; since = since; ready = ready; sent_at = sent_at } in
    let second : (s r : List ℕ) → WorldValue =
    λ s r. record {
      bus = old.bus;
      time = time;
      readings = old.readings;
      since = s;
      ready = r;
      sent_at = sent_at;
    } in
    let third : (t : ℕ) (m : List (List ℕ)) → WorldValue = λ t m. record old { time = t; sent_at = m } in
    ap₂ first is_bus is_readings ∙ ap₂ second is_since is_ready ∙ ap₂ third is_time is_sent
