use Rattle.std.proofs.Common.{◌≡◌, ◌+◌, ◌<◌, [], length, take, Some, None, option_map, sym, ap, ◌∙◌, subst}
use Rattle.std.proofs.Common.{arith}
use Rattle.std.proofs.lemmas.Grind.{common_steps}
use Rattle.pals_model.specs.declared.flight_copy.FlightCopy.{FlightCopy}
use Rattle.pals_model.specs.Flights.{without_oldest}
use Rattle.link_buffers.specs.proof.CopiesByRound.{copies_of, AreByRound}
use Rattle.link_buffers.proofs.OldestCopies.{oldest_none, oldest_some, round_is, length_left, by_round-taken}
use Rattle.link_buffers.proofs.flight.Flight.flight_take.Goals.{After-give_back}
use Rattle.link_buffers.proofs.flight.Flight.flight_take.Goals as goal

pub returns-in_err-node-clause-taken : goal.returns-in_err-node-clause-taken
returns-in_err-node-clause-taken c =
    let f = c.self.inside in
    let none : copies_of c.args.round f.rounds.items ≡ [] = grind (arith, common_steps) in
    let nothing : c.from_residual.result ≡ None = grind (arith, common_steps) in
    rw (← c.self.view_is) (nothing
    ∙ ap (option_map (λ (copy : FlightCopy). copy.tuple))
    (sym (oldest_none f.rounds.items f.order.copies c.self.invariant.1 c.args.round none).0))

pub returns-in_err-node-clause-others : goal.returns-in_err-node-clause-others
returns-in_err-node-clause-others c =
    let f = c.self.inside in
    let none : copies_of c.args.round f.rounds.items ≡ [] = grind (arith, common_steps) in
    rw (← c.self.view_is) (sym (oldest_none f.rounds.items f.order.copies c.self.invariant.1 c.args.round none).1)

-- ---- if there is a copy of the round
some : (c : After-give_back) → 0 < length (copies_of c.args.round c.self.inside.rounds.items)
some c = grind (arith, common_steps)

first : (c : After-give_back) → c.in_ok-node.node ≡ take 1 (copies_of c.args.round c.self.inside.rounds.items)
first c = grind (arith, common_steps)

left_is : (c : After-give_back)
    → c.without_oldest-self-inside.result.copies ≡ without_oldest c.args.round c.self.inside.order.copies
left_is c =
    let f = c.self.inside in
    c.without_oldest-self-inside.ensures
    ∙ ap (λ round. without_oldest round f.order.copies)
    (round_is f.rounds.items f.order.copies c.self.invariant.1 c.args.round c.in_ok-node.node c.copy_in.result.now
    (some c) (first c) c.copy_in.ensures)

pub invariant_of-self-2 : goal.invariant_of-self-2
invariant_of-self-2 c =
    let f = c.self.inside in
    let round = c.args.round in
    let left = left_is c in
    let by_round = by_round-taken f.rounds.items c.split_oldest.new.rounds.items f.order.copies c.self.invariant.1 round
    c.split_oldest.ensures.left c.split_oldest.ensures.others in
    let less : length c.without_oldest-self-inside.result.copies + 1 ≡ length f.order.copies = rw left (length_left
    f.rounds.items f.order.copies c.self.invariant.1 round c.in_ok-node.node c.copy_in.result.now (some c)
    (first c) c.copy_in.ensures) in (
      c.split_oldest.ensures.rising,
      subst (AreByRound c.split_oldest.new.rounds.items) (sym left) by_round,
      omega (arith, less, c.self.invariant.2, c.give_back.ensures.free, c.give_back.ensures.made),
      omega (arith, c.self.invariant.3, c.give_back.ensures.made),
      omega (arith, c.self.invariant.4, c.give_back.ensures.free),
      omega (arith, c.self.invariant.5, c.split_oldest.ensures.length, c.split_oldest.ensures.capacity),
    )

pub returns-clause-taken : goal.returns-clause-taken
returns-clause-taken c =
    let f = c.self.inside in
    let copy = c.copy_in.result.now in
    let is = oldest_some f.rounds.items f.order.copies c.self.invariant.1 c.args.round c.in_ok-node.node copy (some c)
    (first c)
    c.copy_in.ensures in
    rw (← c.self.view_is) (ap Some (c.give_back.ensures.tuple copy c.copy_in.ensures)
    ∙ sym (ap (option_map (λ (copy : FlightCopy). copy.tuple)) is))

pub returns-clause-others : goal.returns-clause-others
returns-clause-others c = rw (← c.self.view_is) (left_is c)
