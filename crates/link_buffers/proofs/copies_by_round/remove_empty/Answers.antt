use Rattle.std.proofs.Common.{◌≡◌, ◌<◌, ◌++◌, length, drop, take, filter, ap, ◌∙◌, arith}
use Rattle.circular_buffer.specs.Buffer.{buffer}
use Rattle.link_buffers.specs.proof.CopiesByRound.{has_copies}
use Rattle.link_buffers.proofs.KeptItems.{turned, turned_more, turned_all}
use Rattle.link_buffers.proofs.copies_by_round.remove_empty.Goals as goal

pub loop-preserved : goal.loop-preserved
loop-preserved c =
    let xs = c.args.rounds.now.items in
    let n = c.loop.counter in
    let within : n < length xs = omega (arith, c.loop.invariant.0, c.loop-test.true) in (
      c.loop.invariant.0,
      c.turn_on.ensures.fits,
      c.turn_on.ensures.turned
          ∙ ap (λ b. buffer (drop 1 b.items ++ filter has_copies (take 1 b.items)) b.capacity) c.loop.invariant.2
          ∙ ap (λ ys. buffer ys c.args.rounds.now.capacity) (turned_more has_copies xs n within),
    )

pub returns : goal.returns
returns c =
    c.loop.invariant.2
    ∙ ap (λ ys. buffer ys c.args.rounds.now.capacity)
    (ap (turned has_copies c.args.rounds.now.items)
    (let n : c.loop.counter ≡ length c.args.rounds.now.items = omega (arith, c.loop.invariant.0) in n)
    ∙ turned_all has_copies c.args.rounds.now.items)
