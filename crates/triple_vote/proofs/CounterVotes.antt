-- The two counters with replicas, computed.
use Rattle.std.proofs.Common.{◌≡◌, ◌∙◌, ℕ, zero, suc, ◌<◌, [], ◌∷◌, Contains, slice_index_or, refl, sym, ap, arith}
use Rattle.std.proofs.lemmas.List.Elements.{All-nil, All-cons}
use Rattle.std.specs.Fmt.{digits}
use Rattle.pals_base.specs.SingleStep.{fire}
use Rattle.triple_vote.specs.VotedComposition.{voted_composition, voted_tap}
use Rattle.pals_model.specs.proof.TwoCounters.{two_counters}
use Rattle.pals_runs.specs.declared.replica_faults.VoteFault.{VoteFault}
use Rattle.triple_vote.specs.proof.VoteLaws.{IsFault}
use Rattle.triple_vote.specs.proof.CounterVotes.{liar, first_round, OneLiarIsOutvoted, TwoLiarsAreNot, OneLiarText}
use Rattle.triple_vote.specs.proof.CounterVotes.{TwoLiarsText, OneLiarIsFault, OneLiarIsAllowed}

pub one_liar_is_outvoted : OneLiarIsOutvoted
unfolding fire voted_composition
one_liar_is_outvoted = refl

pub two_liars_are_not : TwoLiarsAreNot
unfolding fire voted_composition
two_liars_are_not = refl

pub one_liar_text : OneLiarText
unfolding digits fire voted_composition voted_tap
one_liar_text = refl

pub two_liars_text : TwoLiarsText
unfolding digits fire voted_composition voted_tap
two_liars_text = refl

-- ---- such a fault is one that the laws allow
in_one : (x f : VoteFault) (k : ℕ) → k < 1 → slice_index_or (x ∷ []) k f ≡ f → x ≡ f
in_one x f zero within is = is
in_one x f (suc k) within is = absurd (omega arith)

is_liar : (round : ℕ) (f : VoteFault) → Contains (first_round (liar 2 ∷ []) round) f → liar 2 ≡ f
is_liar zero f at = in_one (liar 2) f at.0 at.1 at.2
is_liar (suc round) f at = absurd (let below : at.0 < 0 = at.1 in omega arith)

same_replica : (m n : ℕ) (f g : VoteFault) → Contains (first_round (liar 2 ∷ []) m) f
    → Contains (first_round (liar 2 ∷ []) n) g → f.replica ≡ g.replica
same_replica m n f g in_f in_g =
    sym (ap (λ (x : VoteFault). x.replica) (is_liar m f in_f)) ∙ ap (λ (x : VoteFault). x.replica) (is_liar n g in_g)

pub one_liar_is_fault : OneLiarIsFault
one_liar_is_fault zero =
    All-cons (IsFault two_counters) (liar 2) [] (record { source = refl; values = refl })
    (All-nil (IsFault two_counters))
one_liar_is_fault (suc round) = All-nil (IsFault two_counters)

pub one_liar_is_allowed : OneLiarIsAllowed
one_liar_is_allowed = (
  λ m n f g in_f in_g source. same_replica m n f g in_f in_g,
  λ round f g in_f in_g link target. same_replica round round f g in_f in_g,
)
