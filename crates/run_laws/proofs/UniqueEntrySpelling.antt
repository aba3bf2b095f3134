-- A line that denotes an entry of a design is that entry's line.
use Rattle.std.proofs.Common.{◌≡◌, ℕ, nat_le, nat_eq, Bool, true, false, ◌&&◌, cond, List, [], ◌∷◌, Option, Some, None}
use Rattle.std.proofs.Common.{refl, sym, ap, ◌∙◌, subst}
use Rattle.std.specs.Prelude.{codes, decimal, bytes_eq, IfSome}
use Rattle.std.specs.Option.{option_map, option_and_then}
use Rattle.std.specs.List.{list_all, slice_split}
use Rattle.std.proofs.lemmas.Bool.{eqb-true}
use Rattle.std.proofs.lemmas.List.Splits.{join_with_byte-slice_split}
use Rattle.std.proofs.lemmas.Option.{same_Some}
use Rattle.std.proofs.lemmas.Slice.Eq.{bytes_eq-Decides}
use Rattle.pals_base.specs.declared.limits.TheConstants.{ROUNDS, READING}
use Rattle.pals_base.specs.declared.basic_types.NodeNo.{NodeNo}
use Rattle.pals_base.specs.declared.basic_types.LinkNo.{LinkNo}
use Rattle.pals_model.specs.declared.design.Component.{Component}
use Rattle.pals_model.specs.declared.design.Link.{Link}
use Rattle.pals_model.specs.declared.design.DesignParts.{DesignParts}
use Rattle.pals_model.specs.ComponentAndLinkNames.{link_name, node_named, link_named}
use Rattle.pals_model.proofs.FirstMatches.{found_at}
use Rattle.pals_runs.specs.declared.journal.Arrived.{Arrived}
use Rattle.pals_runs.specs.declared.journal.Arrived.TheVariants.{Kept, Ignored, Early}
use Rattle.pals_runs.specs.declared.journal.Cause.{Cause}
use Rattle.pals_runs.specs.declared.journal.Cause.TheVariants.{NotSent, InTransit, Lost}
use Rattle.pals_runs.specs.declared.journal.Stop.TheVariants as stop
use Rattle.pals_runs.specs.declared.journal.JournalEntry.{JournalEntry}
use Rattle.pals_runs.specs.declared.journal.JournalEntry.TheVariants as entry
use Rattle.pals_runs.specs.JournalLines.{path_in, node_word, name_in, link_word, reading_word, arrived_word, cause_word}
use Rattle.pals_runs.specs.JournalLines.{entry_words, spaced, entry_line}
use Rattle.run_laws.specs.LineForms.{LineForm, ArriveLine, StartLine, StepLine, FinishLine, SendLine, DropLine}
use Rattle.run_laws.specs.LineForms.{RepeatLine}
use Rattle.run_laws.specs.LineForms.{EarlyLine, MissedLine, is, is_there, spelled, number_up_to, round_in, reading_in}
use Rattle.run_laws.specs.LineForms.{arrived_in, cause_in, named, at_end, read, with_result, with_cause, with_step}
use Rattle.run_laws.specs.LineForms.{arrive_line, start_line, step_line, finish_line, send_line, drop_line, repeat_line}
use Rattle.run_laws.specs.LineForms.{early_line, missed_line, stop_line, form_of_words, words_of, form_of}
use Rattle.run_laws.specs.EntriesInLines.{of_node, of_link, entry_of, entry_of_line}

-- ---- the words of a form
abbrev form_words : LineForm → List (List ℕ)
form_words (ArriveLine name round reading result) =
    codes "arrive" ∷ name ∷ decimal round ∷ reading_word reading ∷ arrived_word result ∷ []
form_words (StartLine name round reading) = codes "start" ∷ name ∷ decimal round ∷ reading_word reading ∷ []
form_words (StepLine name round step reading) =
    codes "step" ∷ name ∷ decimal round ∷ decimal step ∷ reading_word reading ∷ []
form_words (FinishLine name round) = codes "finish" ∷ name ∷ decimal round ∷ []
form_words (SendLine name round reading) = codes "send" ∷ name ∷ decimal round ∷ reading_word reading ∷ []
form_words (DropLine name round) = codes "drop" ∷ name ∷ decimal round ∷ []
form_words (RepeatLine name round) = codes "repeat" ∷ name ∷ decimal round ∷ []
form_words (EarlyLine name round reading) =
    codes "stop" ∷ codes "early" ∷ name ∷ decimal round ∷ reading_word reading ∷ []
form_words (MissedLine name round reading cause) =
    codes "stop" ∷ codes "missed" ∷ name ∷ decimal round ∷ reading_word reading ∷ cause_word cause ∷ []

-- ---- words that are read
same_words : (xs ys : List ℕ) → bytes_eq xs ys ≡ true → xs ≡ ys
same_words xs ys same = (bytes_eq-Decides xs ys).0 same

number_by : (word : List ℕ) (n m : ℕ) (same less : Bool) → is word (decimal n) ≡ same
    → cond (same && less) (Some n) None ≡ Some m → word ≡ decimal m
number_by word n m true true eq got = same_words word (decimal n) eq ∙ ap decimal (same_Some n m got)
number_by word n m true false eq got = absurd (cc)
number_by word n m false less eq got = absurd (cc)

number_is : (most : ℕ) (word : List ℕ) (n : ℕ) → number_up_to most word ≡ Some n → word ≡ decimal n
number_is most word n got =
    number_by word (spelled word) n (is word (decimal (spelled word))) (nat_le (spelled word) most) refl got

reading_some : (word : List ℕ) (o : Option ℕ) (reading : Option ℕ) → ((n : ℕ) → o ≡ Some n → word ≡ decimal n)
    → option_map (λ n. Some n) o ≡ Some reading → word ≡ reading_word reading
reading_some word None reading spells got = absurd (cc)
reading_some word (Some n) reading spells got = spells n refl ∙ ap reading_word (same_Some (Some n) reading got)

reading_by : (word : List ℕ) (none : Bool) (o reading : Option ℕ) → is word (codes "_") ≡ none
    → ((n : ℕ) → o ≡ Some n → word ≡ decimal n) → cond none (Some None) (option_map (λ n. Some n) o) ≡ Some reading
    → word ≡ reading_word reading
reading_by word true o reading eq spells got =
    same_words word (codes "_") eq ∙ ap reading_word (same_Some None reading got)
reading_by word false o reading eq spells got = reading_some word o reading spells got

reading_is : (word : List ℕ) (reading : Option ℕ) → reading_in word ≡ Some reading → word ≡ reading_word reading
reading_is word reading got =
    reading_by word (is word (codes "_")) (number_up_to READING word) reading refl
    (λ n is_n. number_is READING word n is_n) got

result_by : (word : List ℕ) (result : Arrived) (kept ignored early : Bool) → is word (codes "kept") ≡ kept
    → is word (codes "ignored") ≡ ignored → is word (codes "early") ≡ early
    → cond kept (Some Kept) (cond ignored (Some Ignored) (cond early (Some Early) None)) ≡ Some result
    → word ≡ arrived_word result
result_by word result true ignored early k i e got =
    same_words word (codes "kept") k ∙ ap arrived_word (same_Some Kept result got)
result_by word result false true early k i e got =
    same_words word (codes "ignored") i ∙ ap arrived_word (same_Some Ignored result got)
result_by word result false false true k i e got =
    same_words word (codes "early") e ∙ ap arrived_word (same_Some Early result got)
result_by word result false false false k i e got = absurd (cc)

result_is : (word : List ℕ) (result : Arrived) → arrived_in word ≡ Some result → word ≡ arrived_word result
result_is word result got =
    result_by word result (is word (codes "kept")) (is word (codes "ignored")) (is word (codes "early")) refl
    refl refl got

cause_by : (word : List ℕ) (cause : Cause) (not_sent transit lost : Bool) → is word (codes "not-sent") ≡ not_sent
    → is word (codes "in-transit") ≡ transit → is word (codes "lost") ≡ lost
    → cond not_sent (Some NotSent) (cond transit (Some InTransit) (cond lost (Some Lost) None)) ≡ Some cause
    → word ≡ cause_word cause
cause_by word cause true transit lost n t l got =
    same_words word (codes "not-sent") n ∙ ap cause_word (same_Some NotSent cause got)
cause_by word cause false true lost n t l got =
    same_words word (codes "in-transit") t ∙ ap cause_word (same_Some InTransit cause got)
cause_by word cause false false true n t l got =
    same_words word (codes "lost") l ∙ ap cause_word (same_Some Lost cause got)
cause_by word cause false false false n t l got = absurd (cc)

cause_is : (word : List ℕ) (cause : Cause) → cause_in word ≡ Some cause → word ≡ cause_word cause
cause_is word cause got =
    cause_by word cause (is word (codes "not-sent")) (is word (codes "in-transit")) (is word (codes "lost")) refl
    refl refl got

-- ---- if these words are read as a form, the form has these words
abbrev Spells : List (List ℕ) → Option LineForm → Type 0
Spells words o = IfSome o (λ form. words ≡ form_words form)

then_spells : {A : Type 0} (words : List (List ℕ)) (o : Option A) (go : A → Option LineForm)
    → ((a : A) → o ≡ Some a → Spells words (go a)) → Spells words (option_and_then go o)
then_spells words None go spells = tt
then_spells words (Some a) go spells = spells a refl

if_spells : (words : List (List ℕ)) (b : Bool) (x y : Option LineForm) → (b ≡ true → Spells words x) → Spells words y
    → Spells words (cond b x y)
if_spells words true x y here there = here refl
if_spells words false x y here there = there

-- words after known words
abbrev Behind : Type 0
Behind = List (List ℕ) → List (List ℕ)

named_spells : (front : Behind) (words : List (List ℕ)) (go : List ℕ → ℕ → List (List ℕ) → Option LineForm)
    → ((name : List ℕ) (round : ℕ) (rest : List (List ℕ))
    → Spells (front (name ∷ decimal round ∷ rest)) (go name round rest)) → Spells (front words) (named words go)
named_spells front [] go spells = tt
named_spells front (name ∷ []) go spells = tt
named_spells front (name ∷ word ∷ rest) go spells =
    then_spells (front (name ∷ word ∷ rest)) (round_in word) (λ r. go name r rest)
    (λ r got. subst (λ w. Spells (front (name ∷ w ∷ rest)) (go name r rest)) (sym (number_is ROUNDS word r got))
    (spells name r rest))

read_spells : (front : Behind) (words : List (List ℕ)) (go : Option ℕ → List (List ℕ) → Option LineForm)
    → ((reading : Option ℕ) (rest : List (List ℕ)) → Spells (front (reading_word reading ∷ rest)) (go reading rest))
    → Spells (front words) (read words go)
read_spells front [] go spells = tt
read_spells front (word ∷ rest) go spells =
    then_spells (front (word ∷ rest)) (reading_in word) (λ reading. go reading rest)
    (λ reading got. subst (λ w. Spells (front (w ∷ rest)) (go reading rest)) (sym (reading_is word reading got))
    (spells reading rest))

end_spells : (front : Behind) (form : LineForm) (words : List (List ℕ)) → front [] ≡ form_words form
    → Spells (front words) (at_end form words)
end_spells front form [] here = here
end_spells front form (word ∷ rest) here = tt

result_spells : (front : Behind) (words : List (List ℕ)) (go : Arrived → LineForm)
    → ((result : Arrived) → front (arrived_word result ∷ []) ≡ form_words (go result))
    → Spells (front words) (with_result words go)
result_spells front [] go here = tt
result_spells front (word ∷ rest) go here =
    then_spells (front (word ∷ rest)) (arrived_in word) (λ result. at_end (go result) rest)
    (λ result got. subst (λ w. Spells (front (w ∷ rest)) (at_end (go result) rest)) (sym (result_is word result got))
    (end_spells (λ ws. front (arrived_word result ∷ ws)) (go result) rest (here result)))

cause_spells : (front : Behind) (words : List (List ℕ)) (go : Cause → LineForm)
    → ((cause : Cause) → front (cause_word cause ∷ []) ≡ form_words (go cause))
    → Spells (front words) (with_cause words go)
cause_spells front [] go here = tt
cause_spells front (word ∷ rest) go here =
    then_spells (front (word ∷ rest)) (cause_in word) (λ cause. at_end (go cause) rest)
    (λ cause got. subst (λ w. Spells (front (w ∷ rest)) (at_end (go cause) rest)) (sym (cause_is word cause got))
    (end_spells (λ ws. front (cause_word cause ∷ ws)) (go cause) rest (here cause)))

-- a name, a round and a reading
timed_spells : (front : Behind) (words : List (List ℕ)) (go : List ℕ → ℕ → Option ℕ → LineForm)
    → ((name : List ℕ) (round : ℕ) (reading : Option ℕ)
    → front (name ∷ decimal round ∷ reading_word reading ∷ []) ≡ form_words (go name round reading))
    → Spells (front words) (named words
    (λ name round more. read more (λ reading left. at_end (go name round reading) left)))
timed_spells front words go here =
    named_spells front words (λ name round more. read more (λ reading left. at_end (go name round reading) left))
    (λ name round more. read_spells (λ ws. front (name ∷ decimal round ∷ ws)) more
    (λ reading left. at_end (go name round reading) left)
    (λ reading left. end_spells (λ ws. front (name ∷ decimal round ∷ reading_word reading ∷ ws)) (go name round reading)
    left (here name round reading)))

-- only a name and a round
round_spells : (front : Behind) (words : List (List ℕ)) (go : List ℕ → ℕ → LineForm)
    → ((name : List ℕ) (round : ℕ) → front (name ∷ decimal round ∷ []) ≡ form_words (go name round))
    → Spells (front words) (named words (λ name round left. at_end (go name round) left))
round_spells front words go here =
    named_spells front words (λ name round left. at_end (go name round) left)
    (λ name round left. end_spells (λ ws. front (name ∷ decimal round ∷ ws)) (go name round) left (here name round))

-- ---- each line
abbrev after_word : List ℕ → Behind
after_word word = λ ws. word ∷ ws

step_spells : (name : List ℕ) (round : ℕ) (words : List (List ℕ))
    → Spells (codes "step" ∷ name ∷ decimal round ∷ words) (with_step name round words)
step_spells name round [] = tt
step_spells name round (word ∷ rest) =
    then_spells (codes "step" ∷ name ∷ decimal round ∷ word ∷ rest) (round_in word)
    (λ i. read rest (λ reading left. at_end (StepLine name round i reading) left))
    (λ i got. subst (λ w. Spells (codes "step" ∷ name ∷ decimal round ∷ w ∷ rest)
    (read rest (λ reading left. at_end (StepLine name round i reading) left))) (sym (number_is ROUNDS word i got))
    (read_spells (λ ws. codes "step" ∷ name ∷ decimal round ∷ decimal i ∷ ws) rest
    (λ reading left. at_end (StepLine name round i reading) left)
    (λ reading left. end_spells (λ ws. codes "step" ∷ name ∷ decimal round ∷ decimal i ∷ reading_word reading ∷ ws)
    (StepLine name round i reading) left refl)))

arrive_spells : (words : List (List ℕ)) → Spells (codes "arrive" ∷ words) (arrive_line words)
arrive_spells words =
    named_spells (after_word (codes "arrive")) words
    (λ name round more. read more
    (λ reading left. with_result left (λ result. ArriveLine name round reading result)))
    (λ name round more. read_spells (λ ws. codes "arrive" ∷ name ∷ decimal round ∷ ws) more
    (λ reading left. with_result left (λ result. ArriveLine name round reading result))
    (λ reading left. result_spells (λ ws. codes "arrive" ∷ name ∷ decimal round ∷ reading_word reading ∷ ws) left
    (λ result. ArriveLine name round reading result) (λ result. refl)))

missed_spells : (words : List (List ℕ)) → Spells (codes "stop" ∷ codes "missed" ∷ words) (missed_line words)
missed_spells words =
    named_spells (λ ws. codes "stop" ∷ codes "missed" ∷ ws) words
    (λ name round more. read more (λ reading left. with_cause left (λ cause. MissedLine name round reading cause)))
    (λ name round more. read_spells (λ ws. codes "stop" ∷ codes "missed" ∷ name ∷ decimal round ∷ ws) more
    (λ reading left. with_cause left (λ cause. MissedLine name round reading cause))
    (λ reading left. cause_spells
    (λ ws. codes "stop" ∷ codes "missed" ∷ name ∷ decimal round ∷ reading_word reading ∷ ws) left
    (λ cause. MissedLine name round reading cause) (λ cause. refl)))

-- a line with this first word
with_first : (first word : List ℕ) (rest : List (List ℕ)) (o : Option LineForm) → Spells (word ∷ rest) o
    → is first word ≡ true → Spells (first ∷ rest) o
with_first first word rest o spells same = subst (λ w. Spells (w ∷ rest) o) (sym (same_words first word same)) spells

stop_spells : (words : List (List ℕ)) → Spells (codes "stop" ∷ words) (stop_line words)
stop_spells [] = tt
stop_spells (why ∷ rest) =
    if_spells (codes "stop" ∷ why ∷ rest) (is why (codes "early")) (early_line rest)
    (cond (is why (codes "missed")) (missed_line rest) None)
    (λ same. subst (λ w. Spells (codes "stop" ∷ w ∷ rest) (early_line rest)) (sym (same_words why (codes "early") same))
    (timed_spells (λ ws. codes "stop" ∷ codes "early" ∷ ws) rest (λ n r i. EarlyLine n r i) (λ n r i. refl)))
    (if_spells (codes "stop" ∷ why ∷ rest) (is why (codes "missed")) (missed_line rest) None
    (λ same. subst (λ w. Spells (codes "stop" ∷ w ∷ rest) (missed_line rest))
    (sym (same_words why (codes "missed") same)) (missed_spells rest))
    tt)

words_spell : (words : List (List ℕ)) → Spells words (form_of_words words)
words_spell [] = tt
words_spell (first ∷ rest) =
    let all = first ∷ rest in
    let by_stop =
    if_spells all (is first (codes "stop")) (stop_line rest) None
    (with_first first (codes "stop") rest (stop_line rest) (stop_spells rest)) tt in
    let by_repeat =
    if_spells all (is first (codes "repeat")) (repeat_line rest) _
    (with_first first (codes "repeat") rest (repeat_line rest)
    (round_spells (after_word (codes "repeat")) rest (λ n r. RepeatLine n r) (λ n r. refl))) by_stop in
    let by_drop =
    if_spells all (is first (codes "drop")) (drop_line rest) _
    (with_first first (codes "drop") rest (drop_line rest)
    (round_spells (after_word (codes "drop")) rest (λ n r. DropLine n r) (λ n r. refl))) by_repeat in
    let by_send =
    if_spells all (is first (codes "send")) (send_line rest) _
    (with_first first (codes "send") rest (send_line rest)
    (timed_spells (after_word (codes "send")) rest (λ n r i. SendLine n r i) (λ n r i. refl))) by_drop in
    let by_finish =
    if_spells all (is first (codes "finish")) (finish_line rest) _
    (with_first first (codes "finish") rest (finish_line rest)
    (round_spells (after_word (codes "finish")) rest (λ n r. FinishLine n r) (λ n r. refl))) by_send in
    let by_step =
    if_spells all (is first (codes "step")) (step_line rest) _
    (with_first first (codes "step") rest (step_line rest)
    (named_spells (after_word (codes "step")) rest with_step step_spells)) by_finish in
    let by_start =
    if_spells all (is first (codes "start")) (start_line rest) _
    (with_first first (codes "start") rest (start_line rest)
    (timed_spells (after_word (codes "start")) rest (λ n r i. StartLine n r i) (λ n r i. refl))) by_step in
    if_spells all (is first (codes "arrive")) (arrive_line rest) _
    (with_first first (codes "arrive") rest (arrive_line rest) (arrive_spells rest)) by_start

-- ---- names
node_is_named : (design : DesignParts) (name : List ℕ) (n : ℕ) → node_named design name ≡ Some n
    → node_word design n ≡ name
node_is_named design name n found =
    let at = found_at (λ (c : Component). bytes_eq name c.path) design.components n found in
    ap path_in at.1 ∙ sym (same_words name at.0.path at.2)

link_is_named : (design : DesignParts) (name : List ℕ) (n : ℕ) → link_named design name ≡ Some n
    → link_word design n ≡ name
link_is_named design name n found =
    let at = found_at (λ (link : Link). bytes_eq name (link_name design link)) design.links n found in
    ap (name_in design) at.1 ∙ sym (same_words name (link_name design at.0) at.2)

-- the entry for this number has these words
told_by : (design : DesignParts) (words : List (List ℕ)) (o : Option ℕ) (go : ℕ → JournalEntry) (e : JournalEntry)
    → ((n : ℕ) → o ≡ Some n → entry_words design (go n) ≡ words) → option_map go o ≡ Some e
    → entry_words design e ≡ words
told_by design words None go e spells got = absurd (cc)
told_by design words (Some n) go e spells got = ap (entry_words design) (sym (same_Some (go n) e got)) ∙ spells n refl

of_node_spelled : (design : DesignParts) (name : List ℕ) (go : NodeNo → JournalEntry) (e : JournalEntry)
    (front : List ℕ → List (List ℕ))
    → ((n : ℕ) → entry_words design (go (record { 0 = n })) ≡ front (node_word design n))
    → of_node design name go ≡ Some e → entry_words design e ≡ front name
of_node_spelled design name go e front here got =
    told_by design (front name) (node_named design name) (λ n. go (record { 0 = n })) e
    (λ n found. here n ∙ ap front (node_is_named design name n found)) got

of_link_spelled : (design : DesignParts) (name : List ℕ) (go : LinkNo → JournalEntry) (e : JournalEntry)
    (front : List ℕ → List (List ℕ))
    → ((n : ℕ) → entry_words design (go (record { 0 = n })) ≡ front (link_word design n))
    → of_link design name go ≡ Some e → entry_words design e ≡ front name
of_link_spelled design name go e front here got =
    told_by design (front name) (link_named design name) (λ n. go (record { 0 = n })) e
    (λ n found. here n ∙ ap front (link_is_named design name n found)) got

form_spelled : (design : DesignParts) (form : LineForm) (e : JournalEntry) → entry_of design form ≡ Some e
    → entry_words design e ≡ form_words form
form_spelled design (ArriveLine name round reading result) e got =
    of_link_spelled design name (λ link. entry.Arrive link round reading result) e
    (λ w. form_words (ArriveLine w round reading result)) (λ n. refl) got
form_spelled design (StartLine name round reading) e got =
    of_node_spelled design name (λ node. entry.Start node round reading) e (λ w. form_words (StartLine w round reading))
    (λ n. refl) got
form_spelled design (StepLine name round step reading) e got =
    of_node_spelled design name (λ node. entry.Step node round step reading) e
    (λ w. form_words (StepLine w round step reading)) (λ n. refl) got
form_spelled design (FinishLine name round) e got =
    of_node_spelled design name (λ node. entry.Finish node round) e (λ w. form_words (FinishLine w round))
    (λ n. refl) got
form_spelled design (SendLine name round reading) e got =
    of_node_spelled design name (λ node. entry.Send node round reading) e (λ w. form_words (SendLine w round reading))
    (λ n. refl) got
form_spelled design (DropLine name round) e got =
    of_link_spelled design name (λ link. entry.Drop link round) e (λ w. form_words (DropLine w round)) (λ n. refl) got
form_spelled design (RepeatLine name round) e got =
    of_link_spelled design name (λ link. entry.Repeat link round) e (λ w. form_words (RepeatLine w round))
    (λ n. refl) got
form_spelled design (EarlyLine name round reading) e got =
    of_link_spelled design name (λ link. entry.Stopped (stop.Early link round reading)) e
    (λ w. form_words (EarlyLine w round reading)) (λ n. refl) got
form_spelled design (MissedLine name round reading cause) e got =
    of_link_spelled design name (λ link. entry.Stopped (stop.Missed link round reading cause)) e
    (λ w. form_words (MissedLine w round reading cause)) (λ n. refl) got

-- ---- lines
from_words : (design : DesignParts) (words : List (List ℕ)) (o : Option LineForm) (e : JournalEntry) → Spells words o
    → option_and_then (entry_of design) o ≡ Some e → words ≡ entry_words design e
from_words design words None e spells got = absurd (cc)
from_words design words (Some form) e spells got = spells ∙ sym (form_spelled design form e got)

swapped : (b : ℕ) (x y : Bool) → nat_eq 32 b ≡ x → nat_eq b 32 ≡ y → x ≡ y
swapped b true true is_x is_y = refl
swapped b false false is_x is_y = refl
swapped b true false is_x is_y = let same : 32 ≡ b = eqb-true 32 b is_x in
    sym is_x ∙ ap (nat_eq 32) (sym same) ∙ ap (λ k. nat_eq k 32) same ∙ is_y
swapped b false true is_x is_y = let same : b ≡ 32 = eqb-true b 32 is_y in
    sym is_x ∙ ap (nat_eq 32) same ∙ ap (λ k. nat_eq k 32) (sym same) ∙ is_y

joined : (line : List ℕ) → spaced (words_of line) ≡ line
joined line =
    ap (λ (p : ℕ → Bool). spaced (slice_split p line)) (λ i b. swapped b (nat_eq 32 b) (nat_eq b 32) refl refl i)
    ∙ join_with_byte-slice_split 32 line

pub told_is_line : (design : DesignParts) (line : List ℕ) (e : JournalEntry) → entry_of_line design line ≡ Some e
    → line ≡ entry_line design e
told_is_line design line e got =
    let words = words_of line in
    sym (joined line)
    ∙ ap spaced (from_words design words (form_of line) e
    (if_spells words (list_all is_there words) (form_of_words words) None (λ there. words_spell words) tt) got)
