-- The line of each entry has its form.
use Rattle.std.proofs.Common.{◌≡◌, ℕ, ◌≤◌, true, cond, List, [], ◌∷◌, Option, Some, None, refl, ap, ◌∙◌}
use Rattle.std.specs.Prelude.{decimal}
use Rattle.std.specs.Option.{option_and_then}
use Rattle.std.specs.List.{list_all}
use Rattle.pals_base.specs.declared.limits.TheConstants.{ROUNDS}
use Rattle.pals_model.specs.declared.design.DesignParts.{DesignParts}
use Rattle.pals_model.specs.DesignRules.{IsDesign}
use Rattle.pals_runs.specs.declared.journal.Arrived.{Arrived}
use Rattle.pals_runs.specs.declared.journal.Arrived.TheVariants.{Kept, Ignored, Early}
use Rattle.pals_runs.specs.declared.journal.Cause.{Cause}
use Rattle.pals_runs.specs.declared.journal.Cause.TheVariants.{NotSent, InTransit, Lost}
use Rattle.pals_runs.specs.declared.journal.Stop.{Stop}
use Rattle.pals_runs.specs.declared.journal.Stop.TheVariants as stop
use Rattle.pals_runs.specs.declared.journal.JournalEntry.{JournalEntry}
use Rattle.pals_runs.specs.declared.journal.JournalEntry.TheVariants as entry
use Rattle.pals_runs.specs.JournalLines.{node_word, link_word, reading_word, arrived_word, cause_word, spaced}
use Rattle.pals_runs.specs.JournalLines.{stop_words, entry_words}
use Rattle.run_laws.specs.LineForms.{LineForm, ArriveLine, StartLine, StepLine, FinishLine, SendLine, DropLine}
use Rattle.run_laws.specs.LineForms.{RepeatLine}
use Rattle.run_laws.specs.LineForms.{EarlyLine, MissedLine, is_there, form_of_words, form_of, named, read, at_end}
use Rattle.run_laws.specs.LineForms.{with_result, with_cause, with_step}
use Rattle.run_laws.specs.proof.EntryLines.{stop_form, entry_form, LinesHaveForms, EntriesHaveLines}
use Rattle.run_laws.specs.EntriesOfDesigns.{IsReading, IsOfNode, IsOfLink, IsStopIn, IsEntryIn}
use Rattle.run_laws.proofs.PlainWords.{is_plain, ArePlain, end, before, words_are, all_there, is_one_line}
use Rattle.run_laws.proofs.DecimalNumbers.{round_is, reading_is, round_plain, reading_plain}
use Rattle.run_laws.proofs.PlainNames.{node_plain, link_plain}

-- ---- the words of an entry are plain
result_plain : (result : Arrived) → is_plain (arrived_word result) ≡ true
result_plain Kept = refl
result_plain Ignored = refl
result_plain Early = refl

cause_plain : (cause : Cause) → is_plain (cause_word cause) ≡ true
cause_plain NotSent = refl
cause_plain InTransit = refl
cause_plain Lost = refl

-- a name, a round and the remaining words
node_words : (design : DesignParts) (node round : ℕ) (reading : Option ℕ) (rest : List (List ℕ)) → IsDesign design
    → IsOfNode design node round reading → ArePlain rest
    → ArePlain (node_word design node ∷ decimal round ∷ rest)
node_words design node round reading rest rules is plain =
    before (node_plain design node rules is.0) (before (round_plain round is.1) plain)

link_words : (design : DesignParts) (link round : ℕ) (reading : Option ℕ) (rest : List (List ℕ)) → IsDesign design
    → IsOfLink design link round reading → ArePlain rest
    → ArePlain (link_word design link ∷ decimal round ∷ rest)
link_words design link round reading rest rules is plain =
    before (link_plain design link rules is.0) (before (round_plain round is.1) plain)

last_reading : (reading : Option ℕ) → IsReading reading → ArePlain (reading_word reading ∷ [])
last_reading reading is = before (reading_plain reading is) end

stop_plain : (design : DesignParts) (why : Stop) → IsDesign design → IsStopIn design why
    → ArePlain (stop_words design why)
stop_plain design (stop.Missed link round reading cause) rules is =
    before refl (before refl
    (link_words design link.0 round reading (reading_word reading ∷ cause_word cause ∷ []) rules is
    (before (reading_plain reading is.2) (before (cause_plain cause) end))))
stop_plain design (stop.Early link round reading) rules is =
    before refl (before refl
    (link_words design link.0 round reading (reading_word reading ∷ []) rules is (last_reading reading is.2)))

entry_plain : (design : DesignParts) (e : JournalEntry) → IsDesign design → IsEntryIn design e
    → ArePlain (entry_words design e)
entry_plain design (entry.Arrive link round reading result) rules is =
    before refl (link_words design link.0 round reading (reading_word reading ∷ arrived_word result ∷ []) rules is
    (before (reading_plain reading is.2) (before (result_plain result) end)))
entry_plain design (entry.Start node round reading) rules is =
    before refl (node_words design node.0 round reading (reading_word reading ∷ []) rules is
    (last_reading reading is.2))
entry_plain design (entry.Step node round step reading) rules is =
    before refl (node_words design node.0 round reading (decimal step ∷ reading_word reading ∷ []) rules is.0
    (before (round_plain step is.1) (last_reading reading is.0.2)))
entry_plain design (entry.Finish node round) rules is =
    before refl (node_words design node.0 round None [] rules is end)
entry_plain design (entry.Send node round reading) rules is =
    before refl (node_words design node.0 round reading (reading_word reading ∷ []) rules is
    (last_reading reading is.2))
entry_plain design (entry.Drop link round) rules is = before refl (link_words design link.0 round None [] rules is end)
entry_plain design (entry.Repeat link round) rules is =
    before refl (link_words design link.0 round None [] rules is end)
entry_plain design (entry.Stopped why) rules is = stop_plain design why rules is

-- ---- what they are read as
named_is : (name : List ℕ) (round : ℕ) (rest : List (List ℕ)) (go : List ℕ → ℕ → List (List ℕ) → Option LineForm)
    → round ≤ ROUNDS
    → named (name ∷ decimal round ∷ rest) go ≡ go name round rest
named_is name round rest go within = ap (option_and_then (λ r. go name r rest)) (round_is round within)

read_is : (reading : Option ℕ) (rest : List (List ℕ)) (go : Option ℕ → List (List ℕ) → Option LineForm)
    → IsReading reading
    → read (reading_word reading ∷ rest) go ≡ go reading rest
read_is reading rest go within = ap (option_and_then (λ r. go r rest)) (reading_is reading within)

result_is : (result : Arrived) (go : Arrived → LineForm) → with_result (arrived_word result ∷ []) go ≡ Some (go result)
result_is Kept go = refl
result_is Ignored go = refl
result_is Early go = refl

cause_is : (cause : Cause) (go : Cause → LineForm) → with_cause (cause_word cause ∷ []) go ≡ Some (go cause)
cause_is NotSent go = refl
cause_is InTransit go = refl
cause_is Lost go = refl

-- only a name and a round
named_last : (name : List ℕ) (round : ℕ) (go : List ℕ → ℕ → LineForm) → round ≤ ROUNDS
    → named (name ∷ decimal round ∷ []) (λ n r left. at_end (go n r) left) ≡ Some (go name round)
named_last name round go within = named_is name round [] (λ n r left. at_end (go n r) left) within

-- a name, a round and a reading
read_last : (name : List ℕ) (round : ℕ) (reading : Option ℕ) (go : List ℕ → ℕ → Option ℕ → LineForm) → round ≤ ROUNDS
    → IsReading reading
    → named (name ∷ decimal round ∷ reading_word reading ∷ [])
    (λ n r more. read more (λ i left. at_end (go n r i) left)) ≡ Some (go name round reading)
read_last name round reading go within at =
    named_is name round (reading_word reading ∷ []) (λ n r more. read more (λ i left. at_end (go n r i) left)) within
    ∙ read_is reading [] (λ i left. at_end (go name round i) left) at

stop_reads : (design : DesignParts) (why : Stop) → IsStopIn design why
    → form_of_words (stop_words design why) ≡ Some (stop_form design why)
stop_reads design (stop.Missed link round reading cause) is =
    named_is (link_word design link.0) round (reading_word reading ∷ cause_word cause ∷ [])
    (λ n r more. read more (λ i left. with_cause left (λ why. MissedLine n r i why))) is.1
    ∙ read_is reading (cause_word cause ∷ [])
    (λ i left. with_cause left (λ why. MissedLine (link_word design link.0) round i why)) is.2
    ∙ cause_is cause (λ why. MissedLine (link_word design link.0) round reading why)
stop_reads design (stop.Early link round reading) is =
    read_last (link_word design link.0) round reading (λ n r i. EarlyLine n r i) is.1 is.2

entry_reads : (design : DesignParts) (e : JournalEntry) → IsEntryIn design e
    → form_of_words (entry_words design e) ≡ Some (entry_form design e)
entry_reads design (entry.Arrive link round reading result) is =
    named_is (link_word design link.0) round (reading_word reading ∷ arrived_word result ∷ [])
    (λ n r more. read more (λ i left. with_result left (λ a. ArriveLine n r i a))) is.1
    ∙ read_is reading (arrived_word result ∷ [])
    (λ i left. with_result left (λ a. ArriveLine (link_word design link.0) round i a)) is.2
    ∙ result_is result (λ a. ArriveLine (link_word design link.0) round reading a)
entry_reads design (entry.Start node round reading) is =
    read_last (node_word design node.0) round reading (λ n r i. StartLine n r i) is.1 is.2
entry_reads design (entry.Step node round step reading) is =
    let name = node_word design node.0 in
    named_is name round (decimal step ∷ reading_word reading ∷ []) with_step is.0.1
    ∙ ap (option_and_then (λ i. read (reading_word reading ∷ []) (λ o left. at_end (StepLine name round i o) left)))
    (round_is step is.1)
    ∙ read_is reading [] (λ o left. at_end (StepLine name round step o) left) is.0.2
entry_reads design (entry.Finish node round) is =
    named_last (node_word design node.0) round (λ n r. FinishLine n r) is.1
entry_reads design (entry.Send node round reading) is =
    read_last (node_word design node.0) round reading (λ n r i. SendLine n r i) is.1 is.2
entry_reads design (entry.Drop link round) is = named_last (link_word design link.0) round (λ n r. DropLine n r) is.1
entry_reads design (entry.Repeat link round) is =
    named_last (link_word design link.0) round (λ n r. RepeatLine n r) is.1
entry_reads design (entry.Stopped why) is = stop_reads design why is

-- ---- lines
-- a line of plain words has the form of these
form_is : (words : List (List ℕ)) (form : LineForm) → ArePlain words → form_of_words words ≡ Some form
    → form_of (spaced words) ≡ Some form
form_is [] form plain is = absurd (cc)
form_is (word ∷ words) form plain is =
    ap (λ ws. cond (list_all is_there ws) (form_of_words ws) None) (words_are word words plain)
    ∙ ap (λ b. cond b (form_of_words (word ∷ words)) None) (all_there (word ∷ words) plain)
    ∙ is

pub lines_have_forms : LinesHaveForms
lines_have_forms design e rules is =
    form_is (entry_words design e) (entry_form design e) (entry_plain design e rules is) (entry_reads design e is)

pub entries_have_lines : EntriesHaveLines
entries_have_lines design e rules is = is_one_line (entry_words design e) (entry_plain design e rules is)
