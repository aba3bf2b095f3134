use Rattle.std.proofs.Common.{◌≡◌, ◌∙◌, Some, false, is_some, refl, sym, subst, rules, tests, arith}
use Rattle.pals_bus.specs.proof.BusInvariant.{value_of}
use Rattle.pals_bus.specs.BusValues.{BusValue}
use Rattle.pals_bus.specs.proof.Meeting.{HasEnded}
use Rattle.pals_bus.proofs.LeastTargets.{some_within, least_of}
use Rattle.pals_bus.proofs.NodeTargets.{target_listed, within_list, all_listed, within_run, still_going}
use Rattle.pals_bus.proofs.bus.Bus.meet.Goals as goal

pub returns-then-least-own-clause-answer : goal.returns-then-least-own-clause-answer
returns-then-least-own-clause-answer c =
    let f = c.self.inside.fields in
    let b = c.args.self.now in
    let targets = c.targets-targets.result.now in
    let node = c.args.node.0 in
    let first = c.first-first.result in
    let shows : value_of f ≡ b = c.self.view_is in
    let are = c.targets-targets.ensures in
    let own_there =
    within_list f targets node are (all_listed f b targets node c.self.invariant shows are c.requires.node) in
    let least_is = sym c.target-2.ensures ∙ c.in-Some-target.is in
    let there = within_list f targets first are (some_within targets first c.in-Some-target.least least_is) in
    record {
      within = within_run f b c.self.invariant shows first there;
      own = c.in-Some.own;
      least = c.in-Some-target.least;
      own_is =
          target_listed f b targets node (Some c.in-Some.own) c.self.invariant shows are own_there
          (sym c.target.ensures ∙ c.in-Some.is);
      least_is =
          target_listed f b targets first (Some c.in-Some-target.least) c.self.invariant shows are there least_is;
      less = c.if-least-own.true;
    }

pub returns-else-least-own-clause-answer : goal.returns-else-least-own-clause-answer
returns-else-least-own-clause-answer c =
    let f = c.self.inside.fields in
    let b = c.args.self.now in
    let targets = c.targets-targets.result.now in
    let node = c.args.node.0 in
    let own = c.in-Some.own in
    let shows : value_of f ≡ b = c.self.view_is in
    let are = c.targets-targets.ensures in
    let own_there =
    within_list f targets node are (all_listed f b targets node c.self.invariant shows are c.requires.node) in
    let not_less = c.if-least-own.false in
    let not_closed : f.closed ≡ false = search (rules, tests) in
    let no_stop : is_some f.stop ≡ false = search (rules, tests) in
    record {
      going = subst (λ (v : BusValue). HasEnded v → ⊥) shows (still_going (value_of f) not_closed no_stop);
      own = own;
      own_is =
          target_listed f b targets node (Some own) c.self.invariant shows are own_there
          (sym c.target.ensures ∙ c.in-Some.is);
      reading_is = refl;
      least = λ other least lt is.
          let there = within_list f targets other are (all_listed f b targets other c.self.invariant shows are lt) in
          least_of targets c.first-first.result other own c.in-Some-target.least least c.first-first.ensures
          (sym c.target-2.ensures ∙ c.in-Some-target.is) (omega (arith, not_less))
          (sym (target_listed f b targets other _ c.self.invariant shows are there refl) ∙ is);
    }
