use Rattle.std.proofs.Common.{◌≡◌, ℕ, ◌<◌, true, false, List, [], length, get_or, set, take, drop, slice_get}
use Rattle.std.proofs.Common.{refl, sym, ap, ◌∙◌, subst, length-set}
use Rattle.std.specs.Option.{option_map_or}
use Rattle.pals_model.specs.declared.flight_copy.FlightCopy.{FlightCopy}
use Rattle.link_buffers.specs.declared.copies_by_round.RoundCopies.{RoundCopies}
use Rattle.link_buffers.specs.proof.CopiesByRound.{is_for, copies_of, AreRising, HaveSameOthers, has_copies_for}
use Rattle.link_buffers.proofs.CopiesByRound.{inside, copies_there, rising_changed, copies_changed}
use Rattle.link_buffers.proofs.CopiesByRound.{others_changed, no_copies, entry_is_for, entry_has_copies}
use Rattle.link_buffers.proofs.copies_by_round.split_oldest.Goals.{After-has_copies_at, After-split_first_at}
use Rattle.link_buffers.proofs.copies_by_round.split_oldest.Goals as goal

-- any item serves as the default
abbrev d : RoundCopies
d = record { round = 0; copies = [] }

-- ---- no copies
module _ (c : After-has_copies_at) (none : c.has_copies_at.result ≡ false) where
  empty : copies_of c.args.round c.args.rounds.now.items ≡ []
  empty =
      no_copies c.args.round c.args.rounds.now.items c.place_of-place.result c.requires c.place_of-place.ensures.bound
      c.place_of-place.ensures.parts (sym c.has_copies_at.ensures ∙ none)

pub returns-then-not-has_copies_at-clause-none : goal.returns-then-not-has_copies_at-clause-none
returns-then-not-has_copies_at-clause-none c =
    (empty (goal.at.returns-then-not-has_copies_at-clause-none c).After-has_copies_at c.if-not-has_copies_at.true, refl)

pub returns-then-not-has_copies_at-clause-left : goal.returns-then-not-has_copies_at-clause-left
returns-then-not-has_copies_at-clause-left c =
    let none = empty (goal.at.returns-then-not-has_copies_at-clause-left c).After-has_copies_at
    c.if-not-has_copies_at.true in
    none ∙ sym (ap (drop 1) none)

-- ---- some copies
module _ (c : After-has_copies_at) (some : c.has_copies_at.result ≡ true) where
  abbrev r : ℕ
  r = c.args.round

  abbrev xs : List RoundCopies
  xs = c.args.rounds.now.items

  abbrev n : ℕ
  n = c.place_of-place.result

  has : option_map_or (has_copies_for r) (slice_get xs n) false ≡ true
  has = sym c.has_copies_at.ensures ∙ some

  there : option_map_or (is_for r) (slice_get xs n) false ≡ true
  there = entry_is_for r (slice_get xs n) has

  within : n < length xs
  within = inside r xs n c.requires c.place_of-place.ensures.bound c.place_of-place.ensures.parts there

  copies_are : (e : RoundCopies) → copies_of r xs ≡ (get_or xs n e).copies
  copies_are = copies_there r xs n c.requires c.place_of-place.ensures.bound c.place_of-place.ensures.parts there

  some_there : (e : RoundCopies) → 0 < length (get_or xs n e).copies
  some_there e = entry_has_copies r xs n e has

pub split_first_at-requires-clause-place : goal.split_first_at-requires-clause-place
split_first_at-requires-clause-place c =
    within (goal.at.split_first_at-requires-clause-place c).After-has_copies_at c.if-not-has_copies_at.false

pub split_first_at-requires-clause-some : goal.split_first_at-requires-clause-some
split_first_at-requires-clause-some c =
    some_there (goal.at.split_first_at-requires-clause-some c).After-has_copies_at c.if-not-has_copies_at.false

module _ (c : After-split_first_at) where
  abbrev old : RoundCopies
  old = get_or c.args.rounds.now.items c.place_of-place.result d

  abbrev found : c.has_copies_at.result ≡ true
  found = c.if-not-has_copies_at.false

  items : c.split_first_at.new.rounds.items
      ≡ set c.args.rounds.now.items c.place_of-place.result (record old { copies = drop 1 old.copies })
  items = ap (λ b. b.items) (c.split_first_at.ensures.others d)

pub returns-clause-rising : goal.returns-clause-rising
returns-clause-rising c =
    let h = (goal.at.returns-clause-rising c).After-has_copies_at in
    subst AreRising (sym (items c))
    (rising_changed c.args.round c.args.rounds.now.items c.place_of-place.result c.requires
    c.place_of-place.ensures.bound c.place_of-place.ensures.parts (there h (found c)) d (drop 1 (old c).copies))

pub returns-clause-some : goal.returns-clause-some
returns-clause-some c =
    let h = (goal.at.returns-clause-some c).After-has_copies_at in
    let same = copies_are h (found c) d in (
      subst (λ (ys : List FlightCopy). 0 < length ys) (sym same) (some_there h (found c) d),
      c.split_first_at.ensures.first d ∙ sym (ap (take 1) same),
    )

pub returns-clause-left : goal.returns-clause-left
returns-clause-left c =
    let h = (goal.at.returns-clause-left c).After-has_copies_at in
    ap (copies_of c.args.round) (items c)
    ∙ copies_changed c.args.round c.args.rounds.now.items c.place_of-place.result c.requires
    c.place_of-place.ensures.bound c.place_of-place.ensures.parts (there h (found c)) d (drop 1 (old c).copies)
    ∙ sym (ap (drop 1) (copies_are h (found c) d))

pub returns-clause-others : goal.returns-clause-others
returns-clause-others c =
    let h = (goal.at.returns-clause-others c).After-has_copies_at in
    subst (HaveSameOthers c.args.round c.args.rounds.now.items) (sym (items c))
    (others_changed c.args.round c.args.rounds.now.items c.place_of-place.result c.requires
    c.place_of-place.ensures.bound c.place_of-place.ensures.parts (there h (found c)) d (drop 1 (old c).copies))

pub returns-clause-length : goal.returns-clause-length
returns-clause-length c = ap length (items c) ∙ length-set c.args.rounds.now.items c.place_of-place.result _
