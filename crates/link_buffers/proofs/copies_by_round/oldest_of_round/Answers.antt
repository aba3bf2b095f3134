use Rattle.std.proofs.Common.{◌≡◌, ◌<◌, true, false, List, [], ◌∷◌, length, Option, Some, None, IsSome, IfSome}
use Rattle.std.proofs.Common.{option_copied, Bor, get_or, slice_get, refl, sym, ap, ◌∙◌, arith}
use Rattle.std.specs.Option.{option_map_or}
use Rattle.pals_model.specs.declared.flight_copy.FlightCopy.{FlightCopy}
use Rattle.link_buffers.specs.declared.copies_by_round.RoundCopies.{RoundCopies}
use Rattle.link_buffers.specs.proof.CopiesByRound.{is_for, copies_of}
use Rattle.link_buffers.proofs.CopiesByRound.{inside, copies_there, no_copies, entry_is_for}
use Rattle.link_buffers.proofs.copies_by_round.oldest_of_round.Goals.{After-has_copies_at}
use Rattle.link_buffers.proofs.copies_by_round.oldest_of_round.Goals as goal

pub returns-then-not-has_copies_at : goal.returns-then-not-has_copies_at
returns-then-not-has_copies_at c =
    sym (ap (λ (ys : List FlightCopy). slice_get ys 0)
    (no_copies c.args.round c.args.rounds.now.items c.place_of-place.result c.requires c.place_of-place.ensures.bound
    c.place_of-place.ensures.parts (sym c.has_copies_at.ensures ∙ c.if-not-has_copies_at.true)))

module _ (c : After-has_copies_at) (some : c.has_copies_at.result ≡ true) where
  there : option_map_or (is_for c.args.round) (slice_get c.args.rounds.now.items c.place_of-place.result) false ≡ true
  there = entry_is_for c.args.round (slice_get c.args.rounds.now.items c.place_of-place.result)
      (sym c.has_copies_at.ensures ∙ some)

  within : c.place_of-place.result < length c.args.rounds.now.items
  within =
      inside c.args.round c.args.rounds.now.items c.place_of-place.result c.requires c.place_of-place.ensures.bound
      c.place_of-place.ensures.parts there

  copies_are : (d : RoundCopies) → copies_of c.args.round c.args.rounds.now.items
      ≡ (get_or c.args.rounds.now.items c.place_of-place.result d).copies
  copies_are =
      copies_there c.args.round c.args.rounds.now.items c.place_of-place.result c.requires
      c.place_of-place.ensures.bound
      c.place_of-place.ensures.parts there

-- what `front` gives
first_front : (ys : List FlightCopy) (o : Option (Bor FlightCopy))
    → (IsSome o → 0 < length ys) × (0 < length ys → IsSome o) → IfSome o (λ x. x.now ≡ get_or ys 0 x.now)
    → option_copied o ≡ slice_get ys 0
first_front [] None variant lookup = refl
first_front [] (Some x) variant lookup = absurd (omega (arith, variant.0 refl))
first_front (y ∷ ys) None variant lookup = let some = variant.1 (omega arith) in absurd (cc)
first_front (y ∷ ys) (Some x) variant lookup = ap Some lookup

pub standing_at-requires : goal.standing_at-requires
standing_at-requires c = within (goal.at.standing_at-requires c).After-has_copies_at c.if-not-has_copies_at.false

pub returns : goal.returns
returns c =
    let e = c.standing_at.result.now in
    let same : copies_of c.args.round c.args.rounds.now.items ≡ e.copies =
    copies_are (goal.at.returns c).After-has_copies_at c.if-not-has_copies_at.false e
    ∙ ap (λ (x : RoundCopies). x.copies) (c.standing_at.ensures e) in
    rw same (first_front e.copies c.front.result c.front.ensures.variant c.front.ensures.lookup)
