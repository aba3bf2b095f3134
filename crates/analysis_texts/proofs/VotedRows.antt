-- The rows of rounds that are voted on.
use Rattle.std.proofs.Common.{◌≡◌, ◌∙◌, ℕ, suc, ◌+◌, ◌≤◌, Bool, true, false, cond, List, ◌++◌, map, sym, ap, arith}
use Rattle.std.proofs.Common.{append_assoc, add-one}
use Rattle.pals_base.specs.declared.frames.Frame.{Frame}
use Rattle.pals_base.specs.declared.basic_types.PortValue.{PortValue}
use Rattle.pals_model.specs.declared.design.Component.{Component}
use Rattle.pals_model.specs.declared.design.Tap.{Tap}
use Rattle.pals_model.specs.declared.design.DesignParts.{DesignParts}
use Rattle.pals_model.specs.declared.environment.Env.{Env}
use Rattle.pals_model.specs.ComponentInputs.{values_at}
use Rattle.pals_model.specs.RoundTexts.{line_end, text_of, round_line, component_line}
use Rattle.pals_model.proofs.TextLineLaws.{text_of-append}
use Rattle.pals_runs.specs.declared.replica_faults.VoteFault.{VoteFault}
use Rattle.triple_vote.specs.VotedComposition.{VotedConfiguration, is_replicated, copies_of, frame_at}
use Rattle.triple_vote.specs.VotedComposition.{voted_composition, voted_tap}
use Rattle.triple_vote.specs.proof.VotedStates.{VotedState, voted_advanced}
use Rattle.triple_vote.specs.VotedText.{replica_name, shown_line, voted_row, voted_lines, voted_report}
use Rattle.analysis_texts.specs.proof.ReplicaNamesAndLines.{all_lines}
use Rattle.analysis_texts.proofs.LineBlocks.{line_before}
use Rattle.analysis_texts.proofs.ProductRoundsAndRows.{rows_more}

-- the line of a replica
abbrev pub replica_line : List Bool → (ℕ → ℕ → Frame) → ℕ → Component → ℕ → List ℕ
replica_line replicated frame node c replica =
    component_line (replica_name c.path (is_replicated replicated node) replica) c.behaviour (frame node replica)

-- a component has at most three replicas
few_of : (b : Bool) → cond b 3 1 ≤ 3
few_of true = omega arith
few_of false = omega arith

pub copies_few : (replicated : List Bool) (node : ℕ) → copies_of replicated node ≤ 3
copies_few replicated node = few_of (is_replicated replicated node)

-- ---- a row from its parts
pub row_of_parts : (design : DesignParts) (replicated : List Bool) (frame : ℕ → ℕ → Frame)
    (shown : Tap → List PortValue)
    (round : ℕ) (t0 t1 t2 t3 : List ℕ)
    → t1 ≡ t0 ++ round_line round ++ line_end → t2 ≡ t1 ++ text_of (all_lines replicated frame 0 design.components)
    → t3 ≡ t2 ++ text_of (map (shown_line design shown) design.taps)
    → t3 ≡ t0 ++ text_of (voted_row design replicated frame shown round)
row_of_parts design replicated frame shown round t0 t1 t2 t3 first second third =
    let lines = all_lines replicated frame 0 design.components in
    let taps = map (shown_line design shown) design.taps in
    line_before t0 (round_line round) t1 t3 (lines ++ taps) first
    (third ∙ ap (λ t. t ++ text_of taps) second ∙ append_assoc t1 (text_of lines) (text_of taps)
    ∙ ap (λ t. t1 ++ t) (sym (text_of-append lines taps)))

-- ---- one round further
pub record HasVoted (design : DesignParts) (env : Env) (replicated : List Bool) (faults : ℕ → List VoteFault)
    (round : ℕ) (voted : VotedConfiguration) (text : List ℕ) : Type 0 where
  pub stands : voted ≡ voted_composition design env replicated faults round
  pub rows : text ≡ voted_report design env replicated faults round

-- a product that has computed one more round, with the round's values and faults
pub record MakesRound (design : DesignParts) (env : Env) (replicated : List Bool) (faults : ℕ → List VoteFault)
    (round : ℕ) (old new : VotedState) : Type 0 where
  pub design_is : old.design ≡ design
  pub replicated_is : old.replicated ≡ replicated
  pub voted_is : old.voted ≡ voted_composition design env replicated faults round
  pub made : new ≡ voted_advanced old (values_at env round) (faults round)

-- it is the round computed from the state before
made_from : (design : DesignParts) (env : Env) (replicated : List Bool) (faults : ℕ → List VoteFault) (round : ℕ)
    (old new : VotedState)
    → MakesRound design env replicated faults round old new
    → new ≡ voted_advanced (record {
      design = design;
      replicated = replicated;
      voted = voted_composition design env replicated faults round;
      shown = old.shown;
    }) (values_at env round) (faults round)
made_from design env replicated faults round old new h =
    let state = λ (d : DesignParts) (r : List Bool) (v : VotedConfiguration).
    voted_advanced (record { design = d; replicated = r; voted = v; shown = old.shown }) (values_at env round)
    (faults round) in
    h.made ∙ ap (λ d. state d old.replicated old.voted) h.design_is ∙ ap (λ r. state design r old.voted) h.replicated_is
    ∙ ap (state design replicated) h.voted_is

pub stands_next : (design : DesignParts) (env : Env) (replicated : List Bool) (faults : ℕ → List VoteFault) (round : ℕ)
    (old new : VotedState)
    → MakesRound design env replicated faults round old new
    → new.voted ≡ voted_composition design env replicated faults (suc round)
unfolding voted_composition
stands_next design env replicated faults round old new h =
    ap (λ (s : VotedState). s.voted) (made_from design env replicated faults round old new h)

-- the values of its root out ports
pub shows_next : (design : DesignParts) (env : Env) (replicated : List Bool) (faults : ℕ → List VoteFault) (round : ℕ)
    (old new : VotedState)
    → MakesRound design env replicated faults round old new
    → new.shown ≡ map (λ tap. voted_tap design env replicated faults tap round) new.design.taps
unfolding voted_tap
shows_next design env replicated faults round old new h =
    let made = made_from design env replicated faults round old new h in
    ap (λ (s : VotedState). s.shown) made
    ∙ ap (λ (s : VotedState). map (λ tap. voted_tap design env replicated faults tap round) s.design.taps) (sym made)

-- and the row of the round after the text
pub voted_more : (design : DesignParts) (env : Env) (replicated : List Bool) (faults : ℕ → List VoteFault) (round : ℕ)
    (old new : VotedState) (text longer : List ℕ)
    → MakesRound design env replicated faults round old new → text ≡ voted_report design env replicated faults round
    → ((shown : Tap → List PortValue) → new.shown ≡ map shown new.design.taps
    → longer ≡ text ++ text_of (voted_row new.design new.replicated (frame_at new.voted) shown round))
    → HasVoted design env replicated faults (round + 1) new.voted longer
voted_more design env replicated faults round old new text longer h rows row =
    let shown = λ (tap : Tap). voted_tap design env replicated faults tap round in
    let made = made_from design env replicated faults round old new h in
    let line =
    λ (d : DesignParts) (r : List Bool) (v : VotedConfiguration). text
    ++ text_of (voted_row d r (frame_at v) shown round) in
    record {
      stands =
          stands_next design env replicated faults round old new h
          ∙ ap (voted_composition design env replicated faults) (sym (add-one round));
      rows = row shown (shows_next design env replicated faults round old new h)
          ∙ ap (λ (s : VotedState). line s.design new.replicated new.voted) made
          ∙ ap (λ (s : VotedState). line design s.replicated new.voted) made
          ∙ ap (line design replicated) (stands_next design env replicated faults round old new h)
          ∙ rows_more (voted_lines design env replicated faults) round text rows;
    }
