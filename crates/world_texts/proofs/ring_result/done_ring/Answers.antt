use Rattle.std.proofs.Common.{◌≡◌, ◌∙◌, List, ap, subst}
use Rattle.pals_base.specs.declared.basic_types.PortValue.{PortValue}
use Rattle.pals_model.specs.declared.design.DesignParts.{DesignParts}
use Rattle.pals_model.specs.declared.environment.Env.{Env}
use Rattle.pals_model.specs.ComponentInputs.{no_env}
use Rattle.pals_runs.specs.declared.events_and_faults.Event.{Event}
use Rattle.timed_world.specs.proof.WorldValuesAndMoves.{WorldValue, opening_value}
use Rattle.timed_world.specs.proof.EventLists.{Leads}
use Rattle.world_texts.proofs.DoneRings.{all_done}
use Rattle.world_texts.proofs.ring_result.done_ring.Goals as goal

pub returns : goal.returns
returns c =
    let design : DesignParts = c.in_ok-design.design in
    let env : Env = record { lists = c.new.result } in
    let old : WorldValue = c.in_ok-world.world in
    let new : WorldValue = c.go_through.new.world in
    let empty : env ≡ no_env = ap (λ (lists : List (List PortValue)). record { lists = lists }) c.new.ensures in
    let opened : old ≡ opening_value design c.in_ok-codes.codes env c.args.rounds =
    c.in_ok-world.ensures ∙ ap (λ (d : DesignParts). opening_value d c.in_ok-codes.codes env c.args.rounds)
    c.in_ok-new.ensures.ok in
    let leads =
    subst (λ (events : List Event). Leads old events new) c.as_slice.ensures.value c.in_ok-go_through.ensures in
    all_done c.args.nodes c.args.rounds design c.in_ok-codes.codes env c.in_ok-events.events old new
    c.in_ok-design.ensures empty opened c.in_ok-events.ensures.whole leads
