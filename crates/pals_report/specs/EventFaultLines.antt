-- The line of a rejected event: `event`, its index among the events, the fault, and the details of the fault.
use Rattle.std.specs.Prelude.{ℕ, codes, decimal, List, [], ◌∷◌, ◌++◌}
use Rattle.pals_model.specs.declared.design.DesignParts.{DesignParts}
use Rattle.pals_runs.specs.declared.events_and_faults.EventFault.{EventFault}
use Rattle.pals_runs.specs.declared.events_and_faults.EventFault.TheVariants.{BadName, LossOrRepeat, TimeBack}
use Rattle.pals_runs.specs.declared.events_and_faults.EventFault.TheVariants.{ClockBack, ClockApart, PastDeadline}
use Rattle.pals_runs.specs.declared.events_and_faults.EventFault.TheVariants.{WrongPhase, NoSuchMessage, NotDue}
use Rattle.pals_runs.specs.declared.events_and_faults.EventFault.TheVariants.{TooSoon, Memory}
use Rattle.pals_runs.specs.declared.events_and_faults.EventSubject.{EventSubject}
use Rattle.pals_runs.specs.declared.events_and_faults.EventSubject.TheVariants.{Node, Message}
use Rattle.pals_runs.specs.JournalLines.{node_word, link_word, spaced}

-- a node by its path, a message by its link and its round
abbrev pub subject_words : DesignParts → EventSubject → List (List ℕ)
subject_words design (Node node) = node_word design node.0 ∷ []
subject_words design (Message link round) = link_word design link.0 ∷ decimal round ∷ []

-- an allocation failure is not a fault of an event
abbrev pub event_fault_words : DesignParts → EventFault → List (List ℕ)
event_fault_words design BadName = codes "BadName" ∷ []
event_fault_words design LossOrRepeat = codes "LossOrRepeat" ∷ []
event_fault_words design (TimeBack time) = codes "TimeBack" ∷ decimal time ∷ []
event_fault_words design (ClockBack node reading) = codes "ClockBack" ∷ node_word design node.0 ∷ decimal reading ∷ []
event_fault_words design (ClockApart node reading) = codes "ClockApart" ∷ node_word design node.0 ∷ decimal reading ∷ []
event_fault_words design (PastDeadline subject last) =
    codes "PastDeadline" ∷ subject_words design subject ++ decimal last ∷ []
event_fault_words design (WrongPhase node) = codes "WrongPhase" ∷ node_word design node.0 ∷ []
event_fault_words design (NoSuchMessage link round) =
    codes "NoSuchMessage" ∷ link_word design link.0 ∷ decimal round ∷ []
event_fault_words design (NotDue node alarm reading) =
    codes "NotDue" ∷ node_word design node.0 ∷ decimal alarm ∷ decimal reading ∷ []
event_fault_words design (TooSoon subject earliest) =
    codes "TooSoon" ∷ subject_words design subject ++ decimal earliest ∷ []
event_fault_words design Memory = codes "Memory" ∷ []

abbrev pub event_fault_line : DesignParts → ℕ → EventFault → List ℕ
event_fault_line design index fault = spaced (codes "event" ∷ decimal index ∷ event_fault_words design fault)
