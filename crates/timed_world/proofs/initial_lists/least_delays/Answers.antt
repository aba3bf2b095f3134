use Rattle.std.proofs.Common.{◌≡◌, ℕ, List, ◌∙◌, [], ◌∷◌, ◌++◌, length, map, ap, sym, subst, arith}
use Rattle.std.proofs.lemmas.Grind.{common_steps}
use Rattle.pals_model.specs.declared.design.Link.{Link}
use Rattle.bus_machine.specs.Plans.{no_link}
use Rattle.pals_bus.proofs.Openings.{map_more}
use Rattle.pals_model.specs.Delays.{AreDelays}
use Rattle.pals_model.specs.DesignRules.{IsGamma}
use Rattle.timed_world.proofs.OpeningWorlds.{least_fit}
use Rattle.timed_world.proofs.initial_lists.least_delays.Goals as goal

pub loop-link-preserved : goal.loop-link-preserved
loop-link-preserved c =
    let least = c.gamma-least.result.mu_min in
    let links = c.links-link-items.result.now in
    map_more (λ (_ : Link). least ∷ []) links c.loop-link._link-index no_link c.loop-link.lists
    c.push-in-loop-link.new.self c.push.new.self c.loop-link-test.true
    c.loop-link.invariant (c.in_ok-push.ensures.ok ∙ ap (λ (xs : List ℕ). xs ++ least ∷ []) c.new-list.ensures)
    c.in_ok-push-2.ensures.ok

pub returns-clause-fits : goal.returns-clause-fits
returns-clause-fits c =
    let links = c.args.design.now.links in
    let least = c.gamma-least.result.mu_min in
    let same : c.loop-link.lists ≡ map (λ (_ : Link). least ∷ []) links = grind (arith, common_steps) in
    let fits =
    least_fit c.gamma-least.result links
    (subst IsGamma (sym c.gamma-least.ensures.value) c.gamma-least.ensures.rules.gamma) in
    subst (λ (lists : List (List ℕ)). AreDelays (length links) (record { lists = lists })) (sym same) fits
