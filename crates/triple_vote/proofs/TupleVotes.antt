-- The votes of tuples, place by place; a tuple that two of three agree on wins.
use Rattle.std.proofs.Common.{◌≡◌, ◌∙◌, inl, inr, ℕ, zero, suc, ◌+◌, ◌<◌, ◌≤◌, List, [], ◌∷◌, length, get_or, slice_set}
use Rattle.std.proofs.Common.{refl, sym, ap, arith, eq-or-lt_of_le, ap₂}
use Rattle.std.proofs.lemmas.List.{get_or-set_other, ext_get_or}
use Rattle.std.proofs.lemmas.Grind.{get_or-set_at}
use Rattle.pals_base.specs.declared.basic_types.PortValue.{PortValue}
use Rattle.pals_base.specs.declared.basic_types.PortValue.TheVariants.{Absent}
use Rattle.triple_vote.specs.Votes.{vote, votes}
use Rattle.triple_vote.proofs.MajorityVotes.{vote-first_two, vote-last_two, vote-outer_two}

pub length-votes : (x y z : List PortValue) → length y ≡ length x → length z ≡ length x
    → length (votes x y z) ≡ length x
length-votes [] y z same_y same_z = refl
length-votes (a ∷ x) [] z same_y same_z = absurd (omega arith)
length-votes (a ∷ x) (b ∷ y) [] same_y same_z = absurd (omega arith)
length-votes (a ∷ x) (b ∷ y) (c ∷ z) same_y same_z = ap suc (length-votes x y z (omega arith) (omega arith))

votes-at : (x y z : List PortValue) (k : ℕ) → length y ≡ length x → length z ≡ length x → k < length x
    → get_or (votes x y z) k Absent ≡ vote (get_or x k Absent) (get_or y k Absent) (get_or z k Absent)
votes-at [] y z k same_y same_z within = absurd (omega arith)
votes-at (a ∷ x) [] z k same_y same_z within = absurd (omega arith)
votes-at (a ∷ x) (b ∷ y) [] k same_y same_z within = absurd (omega arith)
votes-at (a ∷ x) (b ∷ y) (c ∷ z) zero same_y same_z within = refl
votes-at (a ∷ x) (b ∷ y) (c ∷ z) (suc k) same_y same_z within =
    votes-at x y z k (omega arith) (omega arith) (omega arith)

-- the places before one are voted on
abbrev pub VotedTo : List PortValue → List PortValue → List PortValue → List PortValue → ℕ → Type 0
VotedTo to x y z at = (k : ℕ) → k < at → get_or to k Absent ≡ get_or (votes x y z) k Absent

pub voted_more : (to new x y z : List PortValue) (at : ℕ) (value : PortValue) → length to ≡ length x
    → length y ≡ length x → length z ≡ length x → at < length x
    → value ≡ vote (get_or x at Absent) (get_or y at Absent) (get_or z at Absent) → new ≡ slice_set to at value
    → VotedTo to x y z at → VotedTo new x y z (at + 1)
voted_more to new x y z at value same_to same_y same_z within is set_is before = λ k below.
    let upto : k ≤ at = omega (arith, below) in
    ap (λ (t : List PortValue). get_or t k Absent) set_is
    ∙ elim (eq-or-lt_of_le upto) [
      | inl here ↦
          get_or-set_at to at k value Absent here (omega (arith, within, same_to)) ∙ is
          ∙ sym (ap (λ n. get_or (votes x y z) n Absent) here ∙ votes-at x y z at same_y same_z within)
      | inr less ↦ get_or-set_other to at k value Absent (λ same. omega (arith, same, less)) ∙ before k less
    ]

pub voted_all : (to x y z : List PortValue) (at : ℕ) → length to ≡ length x → length y ≡ length x → length z ≡ length x
    → length x ≤ at → VotedTo to x y z at → to ≡ votes x y z
voted_all to x y z at same_to same_y same_z past voted =
    ext_get_or Absent to (votes x y z) (same_to ∙ sym (length-votes x y z same_y same_z))
    (λ k within. voted k (omega (arith, within, same_to, past)))

pub votes-first_two : (m z : List PortValue) → length z ≡ length m → votes m m z ≡ m
votes-first_two [] z same = refl
votes-first_two (x ∷ m) [] same = absurd (omega arith)
votes-first_two (x ∷ m) (z ∷ zs) same =
    ap₂ (λ p (ps : List PortValue). p ∷ ps) (vote-first_two x z) (votes-first_two m zs (omega arith))

pub votes-outer_two : (m y : List PortValue) → length y ≡ length m → votes m y m ≡ m
votes-outer_two [] y same = refl
votes-outer_two (x ∷ m) [] same = absurd (omega arith)
votes-outer_two (x ∷ m) (y ∷ ys) same =
    ap₂ (λ p (ps : List PortValue). p ∷ ps) (vote-outer_two x y) (votes-outer_two m ys (omega arith))

pub votes-last_two : (m x : List PortValue) → length x ≡ length m → votes x m m ≡ m
votes-last_two [] [] same = refl
votes-last_two [] (x ∷ xs) same = absurd (omega arith)
votes-last_two (y ∷ m) [] same = absurd (omega arith)
votes-last_two (y ∷ m) (x ∷ xs) same =
    ap₂ (λ p (ps : List PortValue). p ∷ ps) (vote-last_two x y) (votes-last_two m xs (omega arith))
