-- Reading the line of an entry gives the entry.
use Rattle.std.proofs.Common.{◌≡◌, ℕ, Option, Some, None, sym, ap, ◌∙◌}
use Rattle.std.specs.Option.{option_map, option_and_then}
use Rattle.std.proofs.lemmas.Option.{same_Some}
use Rattle.pals_base.specs.declared.basic_types.NodeNo.{NodeNo}
use Rattle.pals_base.specs.declared.basic_types.LinkNo.{LinkNo}
use Rattle.pals_model.specs.declared.design.DesignParts.{DesignParts}
use Rattle.pals_model.specs.DesignRules.{IsDesign}
use Rattle.pals_runs.specs.declared.journal.Stop.{Stop}
use Rattle.pals_runs.specs.declared.journal.Stop.TheVariants as stop
use Rattle.pals_runs.specs.declared.journal.JournalEntry.{JournalEntry}
use Rattle.pals_runs.specs.declared.journal.JournalEntry.TheVariants as entry
use Rattle.pals_runs.specs.JournalLines.{node_word, link_word}
use Rattle.run_laws.specs.EntriesInLines.{of_node, of_link, entry_of, entry_of_line}
use Rattle.run_laws.specs.proof.EntryLines.{stop_form, entry_form, LinesTellEntries, LinesDiffer}
use Rattle.run_laws.specs.EntriesOfDesigns.{IsOfNode, IsOfLink, IsStopIn, IsEntryIn}
use Rattle.run_laws.proofs.PlainNames.{node_found, link_found}
use Rattle.run_laws.proofs.EntryForms.{lines_have_forms}

of_this_node : (design : DesignParts) (node : NodeNo) (round : ℕ) (reading : Option ℕ) (go : NodeNo → JournalEntry)
    → IsDesign design
    → IsOfNode design node.0 round reading → of_node design (node_word design node.0) go ≡ Some (go node)
of_this_node design node round reading go rules is =
    ap (option_map (λ (n : ℕ). go (record { 0 = n }))) (node_found design node.0 rules is.0)

of_this_link : (design : DesignParts) (link : LinkNo) (round : ℕ) (reading : Option ℕ) (go : LinkNo → JournalEntry)
    → IsDesign design
    → IsOfLink design link.0 round reading → of_link design (link_word design link.0) go ≡ Some (go link)
of_this_link design link round reading go rules is =
    ap (option_map (λ (n : ℕ). go (record { 0 = n }))) (link_found design link.0 rules is.0)

stop_is : (design : DesignParts) (why : Stop) → IsDesign design → IsStopIn design why
    → entry_of design (stop_form design why) ≡ Some (entry.Stopped why)
stop_is design (stop.Missed link round reading cause) rules is =
    of_this_link design link round reading (λ l. entry.Stopped (stop.Missed l round reading cause)) rules is
stop_is design (stop.Early link round reading) rules is =
    of_this_link design link round reading (λ l. entry.Stopped (stop.Early l round reading)) rules is

entry_is : (design : DesignParts) (e : JournalEntry) → IsDesign design → IsEntryIn design e
    → entry_of design (entry_form design e) ≡ Some e
entry_is design (entry.Arrive link round reading result) rules is =
    of_this_link design link round reading (λ l. entry.Arrive l round reading result) rules is
entry_is design (entry.Start node round reading) rules is =
    of_this_node design node round reading (λ n. entry.Start n round reading) rules is
entry_is design (entry.Step node round step reading) rules is =
    of_this_node design node round reading (λ n. entry.Step n round step reading) rules is.0
entry_is design (entry.Finish node round) rules is =
    of_this_node design node round None (λ n. entry.Finish n round) rules is
entry_is design (entry.Send node round reading) rules is =
    of_this_node design node round reading (λ n. entry.Send n round reading) rules is
entry_is design (entry.Drop link round) rules is =
    of_this_link design link round None (λ l. entry.Drop l round) rules is
entry_is design (entry.Repeat link round) rules is =
    of_this_link design link round None (λ l. entry.Repeat l round) rules is
entry_is design (entry.Stopped why) rules is = stop_is design why rules is

pub lines_tell_entries : LinesTellEntries
lines_tell_entries design e rules is =
    ap (option_and_then (entry_of design)) (lines_have_forms design e rules is) ∙ entry_is design e rules is

pub lines_differ : LinesDiffer
lines_differ design e rules is other other_is same =
    same_Some e other (sym (lines_tell_entries design e rules is) ∙ ap (entry_of_line design) same
    ∙ lines_tell_entries design other rules other_is)
