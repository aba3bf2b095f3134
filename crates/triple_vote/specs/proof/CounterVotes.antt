-- The two counters over three rounds, the first of them three times, with one replica at fault, and with two.
use Rattle.std.specs.Prelude.{◌≡◌, ℕ, zero, suc, ℤ, pos, true, false, List, [], ◌∷◌, ◌++◌, codes, map, flat_map}
use Rattle.std.specs.Prelude.{slice_index_or}
use Rattle.pals_base.specs.declared.basic_types.PortValue.TheVariants.{Present}
use Rattle.pals_base.specs.declared.frames.Frame.{Frame}
use Rattle.pals_base.specs.UpwardNumbers.{upwards}
use Rattle.pals_model.specs.proof.TwoCounters.{two_counters}
use Rattle.pals_model.specs.ComponentInputs.{no_env}
use Rattle.pals_runs.specs.declared.replica_faults.VoteFault.{VoteFault}
use Rattle.pals_model.specs.RoundTexts.{line_end}
use Rattle.triple_vote.specs.VotedComposition.{VotedConfiguration, voted_composition}
use Rattle.triple_vote.specs.VotedText.{voted_report}
use Rattle.triple_vote.specs.OutvotedFaults.{AreOutvoted}
use Rattle.triple_vote.specs.proof.VoteLaws.{AreFaults, NameOneEach}

-- a replica of p.a sends 100 on p.b.i
abbrev pub liar : ℕ → VoteFault
liar replica =
    record {
      source = record { 0 = 0 };
      replica = replica;
      link = record { 0 = 1 };
      target_replica = 1;
      values = Present (pos 100) ∷ [];
    }

-- in round 0
abbrev pub first_round : List VoteFault → ℕ → List VoteFault
first_round faults zero = faults
first_round faults (suc round) = []

-- x of each replica, p.a's three before p.b
abbrev pub xs_in : VotedConfiguration → List ℤ
xs_in v = flat_map (λ frames. map (λ (frame : Frame). slice_index_or frame.vars 0 (pos 0)) frames) v.frames

abbrev pub counted : List VoteFault → List (List ℤ)
counted faults =
    map (λ round. xs_in (voted_composition two_counters no_env (true ∷ false ∷ []) (first_round faults) (suc round)))
    (upwards 0 3)

abbrev pub four : ℕ → List ℤ
four x = pos x ∷ pos x ∷ pos x ∷ pos x ∷ []

abbrev pub OneLiarIsOutvoted : Type 0
OneLiarIsOutvoted = counted (liar 2 ∷ []) ≡ four 1 ∷ four 3 ∷ four 7 ∷ []

abbrev pub TwoLiarsAreNot : Type 0
TwoLiarsAreNot = counted (liar 2 ∷ liar 1 ∷ []) ≡ four 1 ∷ (pos 3 ∷ pos 3 ∷ pos 3 ∷ pos 102 ∷ []) ∷ four 106 ∷ []

-- ---- and their text
abbrev line : List ℕ → List ℕ
line text = text ++ line_end

abbrev text_with : List VoteFault → List ℕ
text_with faults = voted_report two_counters no_env (true ∷ false ∷ []) (first_round faults) 3

abbrev pub OneLiarText : Type 0
OneLiarText = text_with (liar 2 ∷ []) ≡
    line (codes "round 0") ++ line (codes "p.a#1 s x=1") ++ line (codes "p.a#2 s x=1") ++ line (codes "p.a#3 s x=1")
    ++ line (codes "p.b s x=1")
    ++ line (codes "round 1") ++ line (codes "p.a#1 s x=3") ++ line (codes "p.a#2 s x=3") ++ line (codes "p.a#3 s x=3")
    ++ line (codes "p.b s x=3")
    ++ line (codes "round 2") ++ line (codes "p.a#1 s x=7") ++ line (codes "p.a#2 s x=7") ++ line (codes "p.a#3 s x=7")
    ++ line (codes "p.b s x=7")

abbrev pub TwoLiarsText : Type 0
TwoLiarsText = text_with (liar 2 ∷ liar 1 ∷ []) ≡
    line (codes "round 0") ++ line (codes "p.a#1 s x=1") ++ line (codes "p.a#2 s x=1") ++ line (codes "p.a#3 s x=1")
    ++ line (codes "p.b s x=1")
    ++ line (codes "round 1") ++ line (codes "p.a#1 s x=3") ++ line (codes "p.a#2 s x=3") ++ line (codes "p.a#3 s x=3")
    ++ line (codes "p.b s x=102")
    ++ line (codes "round 2") ++ line (codes "p.a#1 s x=106") ++ line (codes "p.a#2 s x=106")
    ++ line (codes "p.a#3 s x=106") ++ line (codes "p.b s x=106")

-- ---- one faulty replica meets the condition of the laws
abbrev pub OneLiarIsFault : Type 0
OneLiarIsFault = AreFaults two_counters (first_round (liar 2 ∷ []))

abbrev pub OneLiarIsAllowed : Type 0
OneLiarIsAllowed = NameOneEach (first_round (liar 2 ∷ [])) × AreOutvoted (first_round (liar 2 ∷ []))
