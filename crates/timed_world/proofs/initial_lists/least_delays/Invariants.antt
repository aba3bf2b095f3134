use Rattle.std.proofs.Common.{◌≡◌, [], ◌∷◌, map, take}
use Rattle.pals_model.specs.declared.design.Link.{Link}
use Rattle.timed_world.proofs.initial_lists.least_delays.Given as goal

abbrev pub invariant-loop-link : goal.invariant-loop-link
invariant-loop-link l = l.lists ≡ map (λ (_ : Link). l.least ∷ []) (take l._link-index l._link-items)
