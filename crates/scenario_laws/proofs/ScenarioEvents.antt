-- The events of a scenario are within the limit of a list, and the events of a loose world are events of that world.
use Rattle.std.proofs.Common.{◌≡◌, ℕ, ◌<◌, ◌≤◌, ◌+◌, true, List, [], ◌∷◌, ◌++◌, length, codes, decimal, Ok, All, refl}
use Rattle.std.proofs.Common.{ap, subst, arith, length-append}
use Rattle.std.specs.Prelude.{nat_le, option_and_then}
use Rattle.std.proofs.lemmas.Bool.{leb-true}
use Rattle.std.proofs.lemmas.List.Elements.{All-nil, All-push}
use Rattle.serde_json.specs.Data.{Data}
use Rattle.serde_json.specs.Find.{as_str}
use Rattle.pals_base.specs.declared.limits.TheConstants.{ROUNDS, LIST_ITEMS}
use Rattle.pals_base.specs.declared.basic_types.NodeNo.{NodeNo}
use Rattle.pals_base.specs.declared.basic_types.LinkNo.{LinkNo}
use Rattle.pals_model.specs.declared.design.DesignParts.{DesignParts}
use Rattle.pals_runs.specs.declared.commands.Command.{Command}
use Rattle.pals_runs.specs.declared.events_and_faults.Event.{Event}
use Rattle.pals_runs.specs.declared.events_and_faults.Event.TheVariants as event
use Rattle.scenario_values.specs.declared.fault.ScenarioFault.TheVariants.{WrongKind, OutOfRange}
use Rattle.scenario_values.specs.ResultCombinators.{◌>>=◌, given, only_if, through}
use Rattle.scenario_values.specs.FaultPlaces.{inside}
use Rattle.scenario_values.specs.FieldValues.{elements, short_list, text, whole, is_whole}
use Rattle.scenario_values.proofs.SuccessfulResults.{ok_same, ok_bind, ok_only_if}
use Rattle.scenario_values.specs.NameLookup.{node_at, link_at, node_no, link_no}
use Rattle.scenario_json.specs.declared.events.EventWord.{EventWord}
use Rattle.scenario_json.specs.declared.events.EventWord.TheVariants.{Pass, Start, Step, Finish, Send, Arrive, Drop}
use Rattle.scenario_json.specs.declared.events.EventWord.TheVariants.{Repeat}
use Rattle.scenario_json.specs.Events.{word_of, is_usual, node_part, link_parts, event_of, usual_word, event_from}
use Rattle.scenario_json.specs.Events.{event_in, with_event, events_in}
use Rattle.analysis_fields.proofs.ProcessorValidity.{node_within}
use Rattle.loose_world.specs.LooseRuns.{IsLooseIn}
use Rattle.scenario_laws.specs.proof.LooseEvents.{loose_world_command, AreLooseEvents}
use Rattle.scenario_laws.proofs.LinkNamesInDesign.{link_below}

-- ---- nodes and links
node_part_below : (design : DesignParts) (place : List ℕ) (ds : List Data) (node : NodeNo)
    → node_part design place ds ≡ Ok node → node.0 < length design.components
unfolding node_part
node_part_below design place [] node e = absurd (cc)
node_part_below design place (d ∷ []) node e =
    let path = ok_bind (text place d) (λ path. node_at place design path >>= λ n. Ok (node_no n)) node e in
    let at = ok_bind (node_at place design path.0) (λ n. Ok (node_no n)) node path.2 in
    subst (λ (n : NodeNo). n.0 < length design.components) (ok_same (node_no at.0) node at.2)
    (node_within design place path.0 at.0 at.1)
node_part_below design place (d ∷ x ∷ ds) node e = absurd (cc)

link_parts_below : (design : DesignParts) (place : List ℕ) (ds : List Data) (p : LinkNo × ℕ)
    → link_parts design place ds ≡ Ok p → p.0.0 < length design.links
unfolding link_parts
link_parts_below design place [] p e = absurd (cc)
link_parts_below design place (d ∷ []) p e = absurd (cc)
link_parts_below design place (d ∷ round ∷ []) p e =
    let name =
    ok_bind (text place d) (λ name.
    only_if (is_whole round) (WrongKind place)
    (link_at place design name >>= λ link. whole place 0 ROUNDS round >>= λ r. Ok (link_no link, r))) p e in
    let passed =
    ok_only_if (is_whole round) (WrongKind place)
    (link_at place design name.0 >>= λ link. whole place 0 ROUNDS round >>= λ r. Ok (link_no link, r)) p name.2 in
    let link =
    ok_bind (link_at place design name.0) (λ link. whole place 0 ROUNDS round >>= λ r. Ok (link_no link, r))
    p passed.1 in
    let number = ok_bind (whole place 0 ROUNDS round) (λ r. Ok (link_no link.0, r)) p link.2 in
    subst (λ (q : LinkNo × ℕ). q.0.0 < length design.links) (ok_same (link_no link.0, number.0) p number.2)
    (link_below place design name.0 link.0 link.1)
link_parts_below design place (d ∷ round ∷ x ∷ ds) p e = absurd (cc)

-- ---- events
by_node : (design : DesignParts) (place : List ℕ) (ds : List Data) (make : NodeNo → Event) (e : Event)
    → ((n : NodeNo) → n.0 < length design.components → IsLooseIn design (make n))
    → (node_part design place ds >>= λ n. Ok (make n)) ≡ Ok e → IsLooseIn design e
by_node design place ds make e loose is =
    let node = ok_bind (node_part design place ds) (λ n. Ok (make n)) e is in
    subst (IsLooseIn design) (ok_same (make node.0) e node.2)
    (loose node.0 (node_part_below design place ds node.0 node.1))

by_link : (design : DesignParts) (place : List ℕ) (ds : List Data) (make : LinkNo → ℕ → Event) (e : Event)
    → ((l : LinkNo) (round : ℕ) → l.0 < length design.links → IsLooseIn design (make l round))
    → (link_parts design place ds >>= λ p. Ok (make p.0 p.1)) ≡ Ok e → IsLooseIn design e
by_link design place ds make e loose is =
    let link = ok_bind (link_parts design place ds) (λ p. Ok (make p.0 p.1)) e is in
    subst (IsLooseIn design) (ok_same (make link.0.0 link.0.1) e link.2)
    (loose link.0.0 link.0.1 (link_parts_below design place ds link.0 link.1))

word_loose : (design : DesignParts) (root place : List ℕ) (word : EventWord) (ds : List Data) (e : Event)
    → is_usual (loose_world_command root) word ≡ true → event_of design place word ds ≡ Ok e → IsLooseIn design e
unfolding event_of
word_loose design root place Pass ds e usual is = absurd (cc)
word_loose design root place Start ds e usual is =
    by_node design place ds (λ n. event.Start n) e (λ n below. record { what = _; is_what = refl; named = below }) is
word_loose design root place Step ds e usual is =
    by_node design place ds (λ n. event.Step n) e (λ n below. record { what = _; is_what = refl; named = below }) is
word_loose design root place Finish ds e usual is =
    by_node design place ds (λ n. event.Finish n) e (λ n below. record { what = _; is_what = refl; named = below }) is
word_loose design root place Send ds e usual is =
    by_node design place ds (λ n. event.Send n) e (λ n below. record { what = _; is_what = refl; named = below }) is
word_loose design root place Arrive ds e usual is =
    by_link design place ds (λ l r. event.Arrive l r) e
    (λ l r below. record { what = _; is_what = refl; named = below }) is
word_loose design root place Drop ds e usual is =
    by_link design place ds (λ l r. event.Drop l r) e
    (λ l r below. record { what = _; is_what = refl; named = below }) is
word_loose design root place Repeat ds e usual is =
    by_link design place ds (λ l r. event.Repeat l r) e
    (λ l r below. record { what = _; is_what = refl; named = below }) is

usual_is : (command : Command) (place : List ℕ) (d : Data) (word : EventWord) → usual_word command place d ≡ Ok word
    → is_usual command word ≡ true
unfolding usual_word
usual_is command place d word e =
    let known =
    ok_bind (given (WrongKind place) (option_and_then word_of (as_str d)))
    (λ w. only_if (is_usual command w) (WrongKind place) (Ok w)) word e in
    let passed = ok_only_if (is_usual command known.0) (WrongKind place) (Ok known.0) word known.2 in
    subst (λ w. is_usual command w ≡ true) (ok_same known.0 word passed.1) passed.0

parts_loose : (design : DesignParts) (root place : List ℕ) (ds : List Data) (e : Event)
    → event_from design (loose_world_command root) place ds ≡ Ok e → IsLooseIn design e
parts_loose design root place [] e is = absurd (cc)
parts_loose design root place (d ∷ ds) e is =
    let word = ok_bind (usual_word (loose_world_command root) place d) (λ word. event_of design place word ds) e is in
    word_loose design root place word.0 ds e (usual_is (loose_world_command root) place d word.0 word.1) word.2

event_loose : (design : DesignParts) (root place : List ℕ) (d : Data) (e : Event)
    → event_in design (loose_world_command root) place d ≡ Ok e → IsLooseIn design e
unfolding event_in
event_loose design root place d e is =
    let parts = ok_bind (elements place d) (λ ds. event_from design (loose_world_command root) place ds) e is in
    parts_loose design root place parts.0 e parts.2

-- ---- lists of events
module _ (design : DesignParts) (command : Command) (P : Event → Type 0)
    (keeps : (place : List ℕ) (d : Data) (e : Event) → event_in design command place d ≡ Ok e → P e) where
  -- such events, as many as were read
  record AreRead (count : ℕ) (events : List Event) : Type 0 where
    each : All P events
    as_many : length events ≡ count

  one_more : (count : ℕ) (events : List Event) (d : Data) (more : List Event) → AreRead count events
      → with_event design command events d ≡ Ok more → AreRead (count + 1) more
  one_more count events d more are e =
      let place = inside (codes "events") (decimal (length events)) in
      let next = ok_bind (event_in design command place d) (λ v. Ok (events ++ v ∷ [])) more e in
      let many = length-append events (next.0 ∷ []) in
      let many_are = are.as_many in
      subst (AreRead (count + 1)) (ok_same (events ++ next.0 ∷ []) more next.2) (record {
        each = All-push P events next.0 are.each (keeps place d next.0 next.1);
        as_many = omega (arith, many, many_are);
      })

  all_read : (count : ℕ) (events : List Event) (ds : List Data) (more : List Event) → AreRead count events
      → through (with_event design command) events ds ≡ Ok more
      → AreRead (count + length ds) more
  all_read count events [] more are e =
      subst (λ n. AreRead n more) (omega arith) (subst (AreRead count) (ok_same events more e) are)
  all_read count events (d ∷ ds) more are e =
      let first =
      ok_bind (with_event design command events d) (λ next. through (with_event design command) next ds) more e in
      subst (λ n. AreRead n more) (omega arith)
      (all_read (count + 1) first.0 ds more (one_more count events d first.0 are first.1) first.2)

  events_keep : (d : Data) (events : List Event) → events_in design command d ≡ Ok events
      → All P events × (length events ≤ LIST_ITEMS)
  unfolding events_in short_list
  events_keep d events e =
      let short =
      ok_bind (short_list (codes "events") LIST_ITEMS d)
      (λ ds. through (with_event design command) [] ds) events e in
      let items =
      ok_bind (elements (codes "events") d)
      (λ ds. only_if (nat_le (length ds) LIST_ITEMS) (OutOfRange (codes "events")) (Ok ds)) short.0 short.1 in
      let passed =
      ok_only_if (nat_le (length items.0) LIST_ITEMS) (OutOfRange (codes "events")) (Ok items.0) short.0 items.2 in
      let within = leb-true _ _ passed.0 in
      let many = ap length (ok_same items.0 short.0 passed.1) in
      let none : AreRead 0 [] = record { each = All-nil P; as_many = refl } in
      let read = all_read 0 [] short.0 events none short.2 in
      let count = read.as_many in
      (read.each, omega (arith, within, many, count))

pub events_few : (design : DesignParts) (command : Command) (d : Data) (events : List Event)
    → events_in design command d ≡ Ok events → length events ≤ LIST_ITEMS
events_few design command d events read =
    (events_keep design command (λ _. Unit {0}) (λ place d e is. tt) d events read).1

pub events_loose : (design : DesignParts) (root : List ℕ) (d : Data) (events : List Event)
    → events_in design (loose_world_command root) d ≡ Ok events → AreLooseEvents design events
events_loose design root d events read =
    let kept = events_keep design (loose_world_command root) (IsLooseIn design) (event_loose design root) d events read
    in
    record { each = kept.0; few = kept.1 }
