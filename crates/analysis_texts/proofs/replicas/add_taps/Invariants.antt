use Rattle.std.proofs.Common.{◌≡◌, ◌++◌, List, map, take}
use Rattle.pals_base.specs.declared.basic_types.PortValue.{PortValue}
use Rattle.pals_model.specs.declared.design.Tap.{Tap}
use Rattle.pals_model.specs.RoundTexts.{text_of}
use Rattle.triple_vote.specs.VotedText.{shown_line}
use Rattle.analysis_texts.proofs.replicas.add_taps.Given as goal

-- the lines so far, whatever the ports show
abbrev pub invariant-loop-number : goal.invariant-loop-number
invariant-loop-number l =
    (all : Tap → List PortValue) → l.shown ≡ map all l.design.taps
    → l.text.items ≡ l.initial.text.items ++ text_of (map (shown_line l.design all) (take l.number l.design.taps))
