-- The entry that a line denotes belongs to the design.
use Rattle.std.proofs.Common.{◌≡◌, ℕ, ◌<◌, ◌≤◌, nat_le, Bool, true, false, ◌&&◌, cond, List, [], ◌∷◌, length, Option}
use Rattle.std.proofs.Common.{Some, None, refl, sym, subst}
use Rattle.std.specs.Prelude.{codes, decimal, bytes_eq, IfSome}
use Rattle.std.specs.Option.{option_map, option_and_then}
use Rattle.std.specs.List.{list_all}
use Rattle.std.proofs.lemmas.Bool.{leb-true}
use Rattle.std.proofs.lemmas.Option.{same_Some, slice_get_within}
use Rattle.pals_base.specs.declared.limits.TheConstants.{ROUNDS, READING}
use Rattle.pals_base.specs.declared.basic_types.NodeNo.{NodeNo}
use Rattle.pals_base.specs.declared.basic_types.LinkNo.{LinkNo}
use Rattle.pals_model.specs.declared.design.Component.{Component}
use Rattle.pals_model.specs.declared.design.Link.{Link}
use Rattle.pals_model.specs.declared.design.DesignParts.{DesignParts}
use Rattle.pals_model.specs.ComponentAndLinkNames.{link_name, node_named, link_named}
use Rattle.pals_model.proofs.FirstMatches.{found_at}
use Rattle.pals_runs.specs.declared.journal.Arrived.{Arrived}
use Rattle.pals_runs.specs.declared.journal.Cause.{Cause}
use Rattle.pals_runs.specs.declared.journal.Stop.TheVariants as stop
use Rattle.pals_runs.specs.declared.journal.JournalEntry.{JournalEntry}
use Rattle.pals_runs.specs.declared.journal.JournalEntry.TheVariants as entry
use Rattle.run_laws.specs.LineForms.{LineForm, ArriveLine, StartLine, StepLine, FinishLine, SendLine, DropLine}
use Rattle.run_laws.specs.LineForms.{RepeatLine}
use Rattle.run_laws.specs.LineForms.{EarlyLine, MissedLine, is, is_there, spelled, number_up_to, round_in, reading_in}
use Rattle.run_laws.specs.LineForms.{arrived_in, cause_in, named, at_end, read, with_result, with_cause, with_step}
use Rattle.run_laws.specs.LineForms.{arrive_line, start_line, step_line, finish_line, send_line, drop_line, repeat_line}
use Rattle.run_laws.specs.LineForms.{early_line, missed_line, stop_line, form_of_words, words_of, form_of}
use Rattle.run_laws.specs.EntriesInLines.{of_node, of_link, entry_of, entry_of_line}
use Rattle.run_laws.specs.proof.EntryLines.{ToldAreIn}
use Rattle.run_laws.specs.EntriesOfDesigns.{IsReading, IsEntryIn}

-- ---- numbers
number_by : (same less : Bool) (most n m : ℕ) → nat_le n most ≡ less
    → cond (same && less) (Some n) None ≡ Some m → m ≤ most
number_by true true most n m le got = subst (λ k. k ≤ most) (same_Some n m got) (leb-true n most le)
number_by true false most n m le got = absurd (cc)
number_by false less most n m le got = absurd (cc)

number_fits : (most : ℕ) (word : List ℕ) (n : ℕ) → number_up_to most word ≡ Some n → n ≤ most
number_fits most word n got =
    number_by (is word (decimal (spelled word))) (nat_le (spelled word) most) most (spelled word) n refl got

reading_by : (none : Bool) (o reading : Option ℕ) → ((n : ℕ) → o ≡ Some n → n ≤ READING)
    → cond none (Some None) (option_map (λ n. Some n) o) ≡ Some reading → IsReading reading
reading_by true o reading fits got = subst IsReading (same_Some None reading got) tt
reading_by false None reading fits got = absurd (cc)
reading_by false (Some n) reading fits got = subst IsReading (same_Some (Some n) reading got) (fits n refl)

reading_fits : (word : List ℕ) (reading : Option ℕ) → reading_in word ≡ Some reading → IsReading reading
reading_fits word reading got =
    reading_by (is word (codes "_")) (number_up_to READING word) reading (λ n is_n. number_fits READING word n is_n) got

-- ---- forms with numbers within their limits
abbrev Fits : LineForm → Type 0
Fits (ArriveLine name round reading result) = (round ≤ ROUNDS) × IsReading reading
Fits (StartLine name round reading) = (round ≤ ROUNDS) × IsReading reading
Fits (StepLine name round step reading) = (round ≤ ROUNDS) × IsReading reading × (step ≤ ROUNDS)
Fits (FinishLine name round) = round ≤ ROUNDS
Fits (SendLine name round reading) = (round ≤ ROUNDS) × IsReading reading
Fits (DropLine name round) = round ≤ ROUNDS
Fits (RepeatLine name round) = round ≤ ROUNDS
Fits (EarlyLine name round reading) = (round ≤ ROUNDS) × IsReading reading
Fits (MissedLine name round reading cause) = (round ≤ ROUNDS) × IsReading reading

-- if a form is read, its numbers are within their limits
abbrev AllFit : Option LineForm → Type 0
AllFit o = IfSome o Fits

then_fit : {A : Type 0} (o : Option A) (go : A → Option LineForm) → ((a : A) → o ≡ Some a → AllFit (go a))
    → AllFit (option_and_then go o)
then_fit None go fits = tt
then_fit (Some a) go fits = fits a refl

if_fit : (b : Bool) (x y : Option LineForm) → AllFit x → AllFit y → AllFit (cond b x y)
if_fit true x y here there = here
if_fit false x y here there = there

named_fit : (words : List (List ℕ)) (go : List ℕ → ℕ → List (List ℕ) → Option LineForm)
    → ((name : List ℕ) (round : ℕ) (rest : List (List ℕ)) → round ≤ ROUNDS → AllFit (go name round rest))
    → AllFit (named words go)
named_fit [] go fits = tt
named_fit (name ∷ []) go fits = tt
named_fit (name ∷ word ∷ rest) go fits =
    then_fit (round_in word) (λ r. go name r rest) (λ r got. fits name r rest (number_fits ROUNDS word r got))

read_fit : (words : List (List ℕ)) (go : Option ℕ → List (List ℕ) → Option LineForm)
    → ((reading : Option ℕ) (rest : List (List ℕ)) → IsReading reading → AllFit (go reading rest))
    → AllFit (read words go)
read_fit [] go fits = tt
read_fit (word ∷ rest) go fits =
    then_fit (reading_in word) (λ reading. go reading rest)
    (λ reading got. fits reading rest (reading_fits word reading got))

end_fit : (form : LineForm) (words : List (List ℕ)) → Fits form → AllFit (at_end form words)
end_fit form [] fits = fits
end_fit form (word ∷ rest) fits = tt

result_fit : (words : List (List ℕ)) (go : Arrived → LineForm) → ((result : Arrived) → Fits (go result))
    → AllFit (with_result words go)
result_fit [] go fits = tt
result_fit (word ∷ rest) go fits =
    then_fit (arrived_in word) (λ result. at_end (go result) rest)
    (λ result got. end_fit (go result) rest (fits result))

cause_fit : (words : List (List ℕ)) (go : Cause → LineForm) → ((cause : Cause) → Fits (go cause))
    → AllFit (with_cause words go)
cause_fit [] go fits = tt
cause_fit (word ∷ rest) go fits =
    then_fit (cause_in word) (λ cause. at_end (go cause) rest) (λ cause got. end_fit (go cause) rest (fits cause))

-- a name, a round and a reading
timed_fit : (words : List (List ℕ)) (go : List ℕ → ℕ → Option ℕ → LineForm)
    → ((name : List ℕ) (round : ℕ) (reading : Option ℕ) → round ≤ ROUNDS → IsReading reading
    → Fits (go name round reading))
    → AllFit (named words (λ name round more. read more (λ reading left. at_end (go name round reading) left)))
timed_fit words go fits =
    named_fit words (λ name round more. read more (λ reading left. at_end (go name round reading) left))
    (λ name round more few. read_fit more (λ reading left. at_end (go name round reading) left)
    (λ reading left at. end_fit (go name round reading) left (fits name round reading few at)))

-- only a name and a round
round_fit : (words : List (List ℕ)) (go : List ℕ → ℕ → LineForm)
    → ((name : List ℕ) (round : ℕ) → round ≤ ROUNDS → Fits (go name round))
    → AllFit (named words (λ name round left. at_end (go name round) left))
round_fit words go fits =
    named_fit words (λ name round left. at_end (go name round) left)
    (λ name round left few. end_fit (go name round) left (fits name round few))

-- ---- each line
step_fit : (name : List ℕ) (round : ℕ) (words : List (List ℕ)) → round ≤ ROUNDS → AllFit (with_step name round words)
step_fit name round [] few = tt
step_fit name round (word ∷ rest) few =
    then_fit (round_in word) (λ i. read rest (λ reading left. at_end (StepLine name round i reading) left))
    (λ i got. read_fit rest (λ reading left. at_end (StepLine name round i reading) left)
    (λ reading left at. end_fit (StepLine name round i reading) left (few, at, number_fits ROUNDS word i got)))

arrive_fit : (words : List (List ℕ)) → AllFit (arrive_line words)
arrive_fit words =
    named_fit words (λ name round more.
    read more (λ reading left. with_result left (λ result. ArriveLine name round reading result)))
    (λ name round more few. read_fit more
    (λ reading left. with_result left (λ result. ArriveLine name round reading result))
    (λ reading left at. result_fit left (λ result. ArriveLine name round reading result) (λ result. (few, at))))

missed_fit : (words : List (List ℕ)) → AllFit (missed_line words)
missed_fit words =
    named_fit words (λ name round more.
    read more (λ reading left. with_cause left (λ cause. MissedLine name round reading cause)))
    (λ name round more few. read_fit more
    (λ reading left. with_cause left (λ cause. MissedLine name round reading cause))
    (λ reading left at. cause_fit left (λ cause. MissedLine name round reading cause) (λ cause. (few, at))))

stop_fit : (words : List (List ℕ)) → AllFit (stop_line words)
stop_fit [] = tt
stop_fit (why ∷ rest) =
    if_fit (is why (codes "early")) (early_line rest) (cond (is why (codes "missed")) (missed_line rest) None)
    (timed_fit rest (λ n r i. EarlyLine n r i) (λ n r i few at. (few, at)))
    (if_fit (is why (codes "missed")) (missed_line rest) None (missed_fit rest) tt)

words_fit : (words : List (List ℕ)) → AllFit (form_of_words words)
words_fit [] = tt
words_fit (first ∷ rest) =
    let by_stop = if_fit (is first (codes "stop")) (stop_line rest) None (stop_fit rest) tt in
    let by_repeat =
    if_fit (is first (codes "repeat")) (repeat_line rest) _
    (round_fit rest (λ n r. RepeatLine n r) (λ n r few. few)) by_stop in
    let by_drop =
    if_fit (is first (codes "drop")) (drop_line rest) _ (round_fit rest (λ n r. DropLine n r) (λ n r few. few))
    by_repeat in
    let by_send =
    if_fit (is first (codes "send")) (send_line rest) _
    (timed_fit rest (λ n r i. SendLine n r i) (λ n r i few at. (few, at))) by_drop in
    let by_finish =
    if_fit (is first (codes "finish")) (finish_line rest) _
    (round_fit rest (λ n r. FinishLine n r) (λ n r few. few)) by_send in
    let by_step = if_fit (is first (codes "step")) (step_line rest) _ (named_fit rest with_step step_fit) by_finish in
    let by_start =
    if_fit (is first (codes "start")) (start_line rest) _
    (timed_fit rest (λ n r i. StartLine n r i) (λ n r i few at. (few, at))) by_step in
    if_fit (is first (codes "arrive")) (arrive_line rest) _ (arrive_fit rest) by_start

line_fits : (line : List ℕ) → AllFit (form_of line)
line_fits line =
    if_fit (list_all is_there (words_of line)) (form_of_words (words_of line)) None (words_fit (words_of line)) tt

-- ---- names
node_within : (design : DesignParts) (name : List ℕ) (n : ℕ) → node_named design name ≡ Some n
    → n < length design.components
node_within design name n found =
    let at = found_at (λ (c : Component). bytes_eq name c.path) design.components n found in
    slice_get_within design.components n at.0 at.1

link_within : (design : DesignParts) (name : List ℕ) (n : ℕ) → link_named design name ≡ Some n → n < length design.links
link_within design name n found =
    let at = found_at (λ (link : Link). bytes_eq name (link_name design link)) design.links n found in
    slice_get_within design.links n at.0 at.1

-- the entry for this number, if the number is found
told_by : (P : JournalEntry → Type 0) (o : Option ℕ) (go : ℕ → JournalEntry) (e : JournalEntry)
    → ((n : ℕ) → o ≡ Some n → P (go n)) → option_map go o ≡ Some e → P e
told_by P None go e fits got = absurd (cc)
told_by P (Some n) go e fits got = subst P (same_Some (go n) e got) (fits n refl)

node_told : (design : DesignParts) (name : List ℕ) (go : NodeNo → JournalEntry) (e : JournalEntry)
    → ((n : ℕ) → n < length design.components → IsEntryIn design (go (record { 0 = n })))
    → of_node design name go ≡ Some e → IsEntryIn design e
node_told design name go e fits got =
    told_by (IsEntryIn design) (node_named design name) (λ n. go (record { 0 = n })) e
    (λ n found. fits n (node_within design name n found)) got

link_told : (design : DesignParts) (name : List ℕ) (go : LinkNo → JournalEntry) (e : JournalEntry)
    → ((n : ℕ) → n < length design.links → IsEntryIn design (go (record { 0 = n })))
    → of_link design name go ≡ Some e → IsEntryIn design e
link_told design name go e fits got =
    told_by (IsEntryIn design) (link_named design name) (λ n. go (record { 0 = n })) e
    (λ n found. fits n (link_within design name n found)) got

-- ---- each form
form_told : (design : DesignParts) (form : LineForm) (e : JournalEntry) → Fits form → entry_of design form ≡ Some e
    → IsEntryIn design e
form_told design (ArriveLine name round reading result) e fits got =
    link_told design name (λ link. entry.Arrive link round reading result) e (λ n within. (within, fits.0, fits.1)) got
form_told design (StartLine name round reading) e fits got =
    node_told design name (λ node. entry.Start node round reading) e (λ n within. (within, fits.0, fits.1)) got
form_told design (StepLine name round step reading) e fits got =
    node_told design name (λ node. entry.Step node round step reading) e
    (λ n within. ((within, fits.0, fits.1), fits.2)) got
form_told design (FinishLine name round) e fits got =
    node_told design name (λ node. entry.Finish node round) e (λ n within. (within, fits, tt)) got
form_told design (SendLine name round reading) e fits got =
    node_told design name (λ node. entry.Send node round reading) e (λ n within. (within, fits.0, fits.1)) got
form_told design (DropLine name round) e fits got =
    link_told design name (λ link. entry.Drop link round) e (λ n within. (within, fits, tt)) got
form_told design (RepeatLine name round) e fits got =
    link_told design name (λ link. entry.Repeat link round) e (λ n within. (within, fits, tt)) got
form_told design (EarlyLine name round reading) e fits got =
    link_told design name (λ link. entry.Stopped (stop.Early link round reading)) e
    (λ n within. (within, fits.0, fits.1)) got
form_told design (MissedLine name round reading cause) e fits got =
    link_told design name (λ link. entry.Stopped (stop.Missed link round reading cause)) e
    (λ n within. (within, fits.0, fits.1)) got

told_from : (design : DesignParts) (o : Option LineForm) (e : JournalEntry) → AllFit o
    → option_and_then (entry_of design) o ≡ Some e → IsEntryIn design e
told_from design None e fits got = absurd (cc)
told_from design (Some form) e fits got = form_told design form e fits got

pub told_are_in : ToldAreIn
told_are_in design line e got = told_from design (form_of line) e (line_fits line) got

-- for what a call answers
pub if_told : (design : DesignParts) (line : List ℕ) (o : Option JournalEntry) → o ≡ entry_of_line design line
    → IfSome o (IsEntryIn design)
if_told design line None same = tt
if_told design line (Some e) same = told_are_in design line e (sym same)
