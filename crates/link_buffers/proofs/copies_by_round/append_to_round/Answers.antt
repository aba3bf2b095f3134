use Rattle.std.proofs.Common.{◌≡◌, ℕ, ◌+◌, ◌^◌, ◌<◌, ◌++◌, true, false, List, [], length, set, insert, get_or}
use Rattle.std.proofs.Common.{slice_get, sym, ap, ◌∙◌, subst}
use Rattle.std.proofs.Common.{arith, length-set}
use Rattle.std.specs.Option.{option_map_or}
use Rattle.pals_model.specs.declared.flight_copy.FlightCopy.{FlightCopy}
use Rattle.link_buffers.specs.declared.copies_by_round.RoundCopies.{RoundCopies}
use Rattle.link_buffers.specs.proof.CopiesByRound.{is_for, copies_of, AreRising, HaveSameOthers}
use Rattle.link_buffers.proofs.CopiesByRound.{inside, copies_there, rising_changed, copies_changed}
use Rattle.link_buffers.proofs.CopiesByRound.{others_changed, nowhere, rising_added, copies_added, others_added}
use Rattle.link_buffers.proofs.copies_by_round.append_to_round.Goals.{After-is_round_at, After-append_at, After-put_at}
use Rattle.link_buffers.proofs.copies_by_round.append_to_round.Goals as goal

-- ---- where the entry of the round is there
module _ (c : After-is_round_at) (found : c.is_round_at.result ≡ true) where
  abbrev r : ℕ
  r = c.args.round

  abbrev xs : List RoundCopies
  xs = c.args.rounds.now.items

  abbrev n : ℕ
  n = c.place_of-place.result

  there : option_map_or (is_for r) (slice_get xs n) false ≡ true
  there = sym c.is_round_at.ensures ∙ found

  within : n < length xs
  within = inside r xs n c.requires.rising c.place_of-place.ensures.bound c.place_of-place.ensures.parts there

  copies_are : (d : RoundCopies) → copies_of r xs ≡ (get_or xs n d).copies
  copies_are = copies_there r xs n c.requires.rising c.place_of-place.ensures.bound c.place_of-place.ensures.parts there

pub append_at-requires-clause-place : goal.append_at-requires-clause-place
append_at-requires-clause-place c =
    within (goal.at.append_at-requires-clause-place c).After-is_round_at c.if-is_round_at.true

pub append_at-requires-clause-few : goal.append_at-requires-clause-few
append_at-requires-clause-few c d =
    let here = copies_are (goal.at.append_at-requires-clause-few c).After-is_round_at c.if-is_round_at.true d in
    subst (λ (ys : List FlightCopy). length ys + length c.args.copies < 2 ^ 63) here c.requires.few

-- any item serves as the default
abbrev d : RoundCopies
d = record { round = 0; copies = [] }

module _ (c : After-append_at) where
  abbrev ys : List FlightCopy
  ys = (get_or c.args.rounds.now.items c.place_of-place.result d).copies ++ c.args.copies

  there-2 : option_map_or (is_for c.args.round) (slice_get c.args.rounds.now.items c.place_of-place.result) false ≡ true
  there-2 = sym c.is_round_at.ensures ∙ c.if-is_round_at.true

  items : c.append_at.new.rounds.items ≡ set c.args.rounds.now.items c.place_of-place.result
      (record (get_or c.args.rounds.now.items c.place_of-place.result d) { copies = ys })
  items = ap (λ b. b.items) (c.append_at.ensures d)

pub returns-then-is_round_at-clause-rising : goal.returns-then-is_round_at-clause-rising
returns-then-is_round_at-clause-rising c =
    subst AreRising (sym (items c))
    (rising_changed c.args.round c.args.rounds.now.items c.place_of-place.result c.requires.rising
    c.place_of-place.ensures.bound c.place_of-place.ensures.parts (there-2 c) d (ys c))

pub returns-then-is_round_at-clause-copies : goal.returns-then-is_round_at-clause-copies
returns-then-is_round_at-clause-copies c =
    ap (copies_of c.args.round) (items c)
    ∙ copies_changed c.args.round c.args.rounds.now.items c.place_of-place.result c.requires.rising
    c.place_of-place.ensures.bound c.place_of-place.ensures.parts (there-2 c) d (ys c)
    ∙ ap (λ zs. zs ++ c.args.copies)
    (sym (copies_there c.args.round c.args.rounds.now.items c.place_of-place.result c.requires.rising
    c.place_of-place.ensures.bound c.place_of-place.ensures.parts (there-2 c) d))

pub returns-then-is_round_at-clause-others : goal.returns-then-is_round_at-clause-others
returns-then-is_round_at-clause-others c =
    subst (HaveSameOthers c.args.round c.args.rounds.now.items) (sym (items c))
    (others_changed c.args.round c.args.rounds.now.items c.place_of-place.result c.requires.rising
    c.place_of-place.ensures.bound c.place_of-place.ensures.parts (there-2 c) d (ys c))

pub returns-then-is_round_at-clause-more : goal.returns-then-is_round_at-clause-more
returns-then-is_round_at-clause-more c =
    let long = ap length (items c) ∙ length-set c.args.rounds.now.items c.place_of-place.result _ in omega (arith, long)

pub returns-then-is_round_at-clause-capacity : goal.returns-then-is_round_at-clause-capacity
returns-then-is_round_at-clause-capacity c = ap (λ b. b.capacity) (c.append_at.ensures d)

-- ---- if it is not
module _ (c : After-put_at) where
  absent : option_map_or (is_for c.args.round) (slice_get c.args.rounds.now.items c.place_of-place.result) false ≡ false
  absent = sym c.is_round_at.ensures ∙ c.if-is_round_at.false

  items-2 : c.put_at.new.ring.items ≡ insert c.args.rounds.now.items c.place_of-place.result
      (record { round = c.args.round; copies = c.args.copies })
  items-2 = ap (λ b. b.items) c.put_at.ensures

pub returns-else-is_round_at-clause-rising : goal.returns-else-is_round_at-clause-rising
returns-else-is_round_at-clause-rising c =
    subst AreRising (sym (items-2 c))
    (rising_added c.args.round c.args.rounds.now.items c.place_of-place.result c.requires.rising
    c.place_of-place.ensures.bound c.place_of-place.ensures.parts (absent c) c.args.copies)

pub returns-else-is_round_at-clause-copies : goal.returns-else-is_round_at-clause-copies
returns-else-is_round_at-clause-copies c =
    ap (copies_of c.args.round) (items-2 c)
    ∙ copies_added c.args.round c.args.rounds.now.items c.place_of-place.result c.requires.rising
    c.place_of-place.ensures.bound c.place_of-place.ensures.parts (absent c) c.args.copies
    ∙ ap (λ zs. zs ++ c.args.copies)
    (sym (nowhere c.args.round c.args.rounds.now.items c.place_of-place.result c.requires.rising
    c.place_of-place.ensures.bound c.place_of-place.ensures.parts (absent c)))

pub returns-else-is_round_at-clause-others : goal.returns-else-is_round_at-clause-others
returns-else-is_round_at-clause-others c =
    subst (HaveSameOthers c.args.round c.args.rounds.now.items) (sym (items-2 c))
    (others_added c.args.round c.args.rounds.now.items c.place_of-place.result c.requires.rising
    c.place_of-place.ensures.bound c.place_of-place.ensures.parts (absent c) c.args.copies)
