use Rattle.std.proofs.Common.{◌∙◌, ◌+◌, length, refl, sym, ap, arith}
use Rattle.triple_vote.specs.proof.ThreeLayers.{sent_in, received_of}
use Rattle.triple_vote.proofs.FaultTables.{sent_first}
use Rattle.triple_vote.proofs.VotedMessagesAndTaps.{sent_size, received_three}
use Rattle.triple_vote.proofs.received_messages.receive.Goals as goal

pub vote_into-requires-clause-to : goal.vote_into-requires-clause-to
vote_into-requires-clause-to c =
    let x =
    sent_first c.args.table.faults.now c.args.table.places.now c.args.number 0 (c.args.at + 1) c.args.at c.place.result
    c.sent_at-first.result.now c.sent_to-x.result.now
    c.requires.places (omega arith) c.requires.at refl c.place.ensures c.sent_to-x.ensures in
    sym (sent_size c.args.table.faults.now (sent_in c.args.layers.now) c.args.number c.args.at (c.args.at + 1)
    (length c.args.to.now) refl c.requires.sent c.requires.faults 0 1
    c.sent_at-first.result.now c.sent_to-x.result.now c.sent_at-first.ensures x (omega arith))

pub vote_into-requires-clause-y : goal.vote_into-requires-clause-y
vote_into-requires-clause-y c =
    let x =
    sent_first c.args.table.faults.now c.args.table.places.now c.args.number 0 (c.args.at + 1) c.args.at c.place.result
    c.sent_at-first.result.now c.sent_to-x.result.now
    c.requires.places (omega arith) c.requires.at refl c.place.ensures c.sent_to-x.ensures in
    let y =
    sent_first c.args.table.faults.now c.args.table.places.now c.args.number 1 (c.args.at + 1) c.args.at
    c.place-then-three.result c.sent_at-second.result.now c.sent_to-y.result.now
    c.requires.places (omega arith) c.requires.at refl c.place-then-three.ensures c.sent_to-y.ensures in
    sent_size c.args.table.faults.now (sent_in c.args.layers.now) c.args.number c.args.at (c.args.at + 1)
    (length c.args.to.now) refl c.requires.sent c.requires.faults 1 2
    c.sent_at-second.result.now c.sent_to-y.result.now c.sent_at-second.ensures y (omega arith)
    ∙ sym (sent_size c.args.table.faults.now (sent_in c.args.layers.now) c.args.number c.args.at (c.args.at + 1)
    (length c.args.to.now) refl c.requires.sent c.requires.faults 0 1
    c.sent_at-first.result.now c.sent_to-x.result.now c.sent_at-first.ensures x (omega arith))

pub vote_into-requires-clause-z : goal.vote_into-requires-clause-z
vote_into-requires-clause-z c =
    let x =
    sent_first c.args.table.faults.now c.args.table.places.now c.args.number 0 (c.args.at + 1) c.args.at c.place.result
    c.sent_at-first.result.now c.sent_to-x.result.now
    c.requires.places (omega arith) c.requires.at refl c.place.ensures c.sent_to-x.ensures in
    let z =
    sent_first c.args.table.faults.now c.args.table.places.now c.args.number 2 (c.args.at + 1) c.args.at
    c.place-then-three-2.result c.sent_at-third.result.now c.sent_to-z.result.now
    c.requires.places (omega arith) c.requires.at refl c.place-then-three-2.ensures c.sent_to-z.ensures in
    sent_size c.args.table.faults.now (sent_in c.args.layers.now) c.args.number c.args.at (c.args.at + 1)
    (length c.args.to.now) refl c.requires.sent c.requires.faults 2 3
    c.sent_at-third.result.now c.sent_to-z.result.now c.sent_at-third.ensures z (omega arith)
    ∙ sym (sent_size c.args.table.faults.now (sent_in c.args.layers.now) c.args.number c.args.at (c.args.at + 1)
    (length c.args.to.now) refl c.requires.sent c.requires.faults 0 1
    c.sent_at-first.result.now c.sent_to-x.result.now c.sent_at-first.ensures x (omega arith))

pub copy_from_slice-requires : goal.copy_from_slice-requires
copy_from_slice-requires c = sym (ap length c.sent_at-first.ensures ∙ c.requires.sent 0 (omega arith))

pub returns-then-three : goal.returns-then-three
returns-then-three c =
    let faults = c.args.table.faults.now in
    let sent = sent_in c.args.layers.now in
    let x =
    sent_first c.args.table.faults.now c.args.table.places.now c.args.number 0 (c.args.at + 1) c.args.at c.place.result
    c.sent_at-first.result.now c.sent_to-x.result.now
    c.requires.places (omega arith) c.requires.at refl c.place.ensures c.sent_to-x.ensures in
    let y =
    sent_first c.args.table.faults.now c.args.table.places.now c.args.number 1 (c.args.at + 1) c.args.at
    c.place-then-three.result c.sent_at-second.result.now c.sent_to-y.result.now
    c.requires.places (omega arith) c.requires.at refl c.place-then-three.ensures c.sent_to-y.ensures in
    let z =
    sent_first c.args.table.faults.now c.args.table.places.now c.args.number 2 (c.args.at + 1) c.args.at
    c.place-then-three-2.result c.sent_at-third.result.now c.sent_to-z.result.now
    c.requires.places (omega arith) c.requires.at refl c.place-then-three-2.ensures c.sent_to-z.ensures in
    received_three faults sent c.args.number c.args.at (c.args.at + 1) (length c.args.to.now) refl c.requires.sent
    c.requires.faults
    c.sent_at-first.result.now c.sent_at-second.result.now c.sent_at-third.result.now c.sent_to-x.result.now
    c.sent_to-y.result.now c.sent_to-z.result.now
    c.vote_into.new.to c.sent_at-first.ensures c.sent_at-second.ensures c.sent_at-third.ensures x y z
    c.vote_into.ensures
    ∙ sym (ap (λ b. received_of b faults sent c.args.number c.args.at) c.if-three.true)

pub returns-else-three : goal.returns-else-three
returns-else-three c =
    c.copy_from_slice.ensures ∙ c.sent_at-first.ensures
    ∙ sym (ap (λ b. received_of b c.args.table.faults.now (sent_in c.args.layers.now) c.args.number c.args.at)
    c.if-three.false)
