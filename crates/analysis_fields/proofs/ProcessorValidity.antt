-- Each parsed processor has a time for an instruction, and runs components of the design.
use Rattle.std.proofs.Common.{◌≡◌, ℕ, zero, suc, ◌<◌, ◌≤◌, ◌+◌, Bool, true, false, ◌&&◌, cond, List, [], ◌∷◌, ◌++◌}
use Rattle.std.proofs.Common.{length, map, get_or, codes, Result, Ok, Option, Some, None, All, replicate, refl, ap, ◌∙◌}
use Rattle.std.proofs.Common.{subst, arith}
use Rattle.std.specs.Prelude.{nat_eq, nat_lt, nat_le, filter, slice_set, slice_index, AllPairs}
use Rattle.std.specs.List.{enumerate_from}
use Rattle.std.proofs.lemmas.Bool.{eq-eqb}
use Rattle.std.proofs.lemmas.Bool.Decides.{nat_tests}
use Rattle.std.proofs.lemmas.Grind.{common_steps}
use Rattle.std.proofs.lemmas.List.{length-set, length-map, get_or-map, get_or-set_same}
use Rattle.std.proofs.lemmas.List.Elements.{All-nil, All-push, All-map, All-filter}
use Rattle.std.proofs.lemmas.List.FromFn.{length-enumerate_from, get_or-enumerate_from}
use Rattle.std.proofs.lemmas.List.Kept.{AllPairs-filter}
use Rattle.serde_json.specs.Data.{Data}
use Rattle.pals_base.specs.Names.{is_word}
use Rattle.pals_base.specs.declared.limits.TheConstants.{HOUR}
use Rattle.pals_base.specs.declared.basic_types.NodeNo.{NodeNo}
use Rattle.pals_model.specs.declared.design.DesignParts.{DesignParts}
use Rattle.pals_model.specs.ComponentAndLinkNames.{node_named}
use Rattle.scenario_values.specs.declared.fault.ScenarioFault.{ScenarioFault}
use Rattle.scenario_values.specs.declared.fault.ScenarioFault.TheVariants.{Unknown, OutOfRange}
use Rattle.scenario_values.specs.ResultCombinators.{◌>>=◌, only_if, through}
use Rattle.scenario_values.specs.FaultPlaces.{inside}
use Rattle.scenario_values.specs.FieldValues.{entries, text, whole}
use Rattle.scenario_values.proofs.SuccessfulResults.{ok_same, ok_bind, ok_given, ok_only_if, through_keeps}
use Rattle.scenario_values.proofs.SuccessfulResults.{whole_within}
use Rattle.scenario_values.specs.NameLookup.{node_no, node_at}
use Rattle.scenario_values.proofs.NameSearch.{within}
use Rattle.analysis_fields.specs.proof.ReplicaFaultsAndProcessors.{IsProcessorOf}
use Rattle.analysis_fields.specs.declared.limits.TheConstants.{PROCESSORS}
use Rattle.analysis_fields.specs.declared.processors.Processor.{Processor}
use Rattle.analysis_fields.specs.Processors.{with_member, with_members, nodes_of, processor_parts, processor_in}
use Rattle.analysis_fields.specs.Processors.{with_processor, all_placed, first_unplaced, processors_in}

-- ---- the components of a processor, by their indices among the owners
rising_places : (n : ℕ) (owners : List ℕ) → AllPairs (λ (a b : ℕ × ℕ). a.0 < b.0) (enumerate_from n owners)
rising_places n owners i j d before inside_it =
    let long = length-enumerate_from n owners in
    let at_i = ap (λ (p : ℕ × ℕ). p.0) (get_or-enumerate_from n owners i d (omega arith)) in
    let at_j = ap (λ (p : ℕ × ℕ). p.0) (get_or-enumerate_from n owners j d (omega arith)) in
    omega arith

places_within : (n : ℕ) (owners : List ℕ) → All (λ (p : ℕ × ℕ). p.0 < n + length owners) (enumerate_from n owners)
places_within n owners i d inside_it =
    let long = length-enumerate_from n owners in
    let at_i = ap (λ (p : ℕ × ℕ). p.0) (get_or-enumerate_from n owners i d (omega arith)) in
    omega arith

pairs_map : {X Y : Type 0} (R : Y → Y → Type 0) (f : X → Y) (xs : List X) → AllPairs (λ a b. R (f a) (f b)) xs
    → AllPairs R (map f xs)
pairs_map R f [] pairs i j d before inside_it = absurd (omega arith)
pairs_map R f (x ∷ xs) pairs i j d before inside_it =
    let long = length-map (x ∷ xs) f in
    let at_i = get_or-map f (x ∷ xs) i x d (omega arith) in
    let at_j = get_or-map f (x ∷ xs) j x d (omega arith) in
    let fits : j < length (x ∷ xs) = omega arith in
    rw (at_i, at_j) (pairs i j x before fits)

-- an element that passes is in the filtered list
stays_by : {X : Type 0} (test : X → Bool) (x : X) (xs : List X) (b : Bool) → (b ≡ false → 0 < length (filter test xs))
    → 0 < length (cond b (x ∷ filter test xs) (filter test xs))
stays_by test x xs true later = omega arith
stays_by test x xs false later = later refl

stays : {X : Type 0} (test : X → Bool) (xs : List X) (i : ℕ) (d : X) → i < length xs → test (get_or xs i d) ≡ true
    → 0 < length (filter test xs)
stays test [] i d within_it passes = absurd (omega arith)
stays test (x ∷ xs) zero d within_it passes = stays_by test x xs (test x) (λ fails. absurd (cc))
stays test (x ∷ xs) (suc i) d within_it passes =
    stays_by test x xs (test x) (λ fails. stays test xs i d (omega arith) passes)

nodes_rise : (owners : List ℕ) (number : ℕ) → AllPairs (λ (a b : NodeNo). a.0 < b.0) (nodes_of owners number)
nodes_rise owners number =
    pairs_map (λ (a b : NodeNo). a.0 < b.0) (λ (p : ℕ × ℕ). node_no p.0) _
    (AllPairs-filter (λ (a b : ℕ × ℕ). a.0 < b.0) (λ p. nat_eq p.1 number) (enumerate_from 0 owners)
    (rising_places 0 owners))

nodes_within : (owners : List ℕ) (number : ℕ) → All (λ (n : NodeNo). n.0 < 0 + length owners) (nodes_of owners number)
nodes_within owners number =
    All-map (λ (n : NodeNo). n.0 < 0 + length owners) (λ (p : ℕ × ℕ). node_no p.0) _
    (All-filter (λ p. nat_eq p.1 number) (λ (p : ℕ × ℕ). p.0 < 0 + length owners) (enumerate_from 0 owners)
    (places_within 0 owners))

nodes_some : (owners : List ℕ) (number at : ℕ) → at < length owners → get_or owners at 0 ≡ number
    → 0 < length (nodes_of owners number)
nodes_some owners number at within_it is =
    let long = length-enumerate_from 0 owners in
    let pair = get_or-enumerate_from 0 owners at (0, 0) within_it in
    let passes : nat_eq (get_or (enumerate_from 0 owners) at (0, 0)).1 number ≡ true =
    ap (λ (p : ℕ × ℕ). nat_eq p.1 number) pair ∙ eq-eqb (get_or owners at 0) number is in
    let some = stays (λ (p : ℕ × ℕ). nat_eq p.1 number) (enumerate_from 0 owners) at (0, 0) (omega arith) passes in
    let kept =
    length-map (filter (λ (p : ℕ × ℕ). nat_eq p.1 number) (enumerate_from 0 owners)) (λ (p : ℕ × ℕ). node_no p.0) in
    omega arith

-- ---- members
-- a component is assigned to the processor with a number
record IsServed (count number : ℕ) (owners : List ℕ) : Type 0 where
  long : length owners ≡ count
  at : ℕ
  at_within : at < count
  at_is : get_or owners at 0 ≡ number

pub node_within : (design : DesignParts) (place path : List ℕ) (node : ℕ) → node_at place design path ≡ Ok node
    → node < length design.components
unfolding node_at
node_within design place path node e =
    within _ design.components node (ok_given (Unknown place) (node_named design path) node e)

member_keeps : (design : DesignParts) (place : List ℕ) (number : ℕ) (owners : List ℕ) (d : Data) (more : List ℕ)
    → length owners ≡ length design.components → with_member design place number owners d ≡ Ok more
    → IsServed (length design.components) number more
unfolding with_member
member_keeps design place number owners d more long e =
    let tail : ℕ → Result (List ℕ) ScenarioFault =
    λ node. only_if (nat_eq (slice_index owners node) 0) (OutOfRange place) (Ok (slice_set owners node number)) in
    let path = ok_bind (text place d) (λ path. node_at place design path >>= λ node. tail node) more e in
    let node = ok_bind (node_at place design path.0) (λ node. tail node) more path.2 in
    let passed =
    ok_only_if (nat_eq (slice_index owners node.0) 0) (OutOfRange place) (Ok (slice_set owners node.0 number))
    more node.2 in
    let fits : node.0 < length design.components = node_within design place path.0 node.0 node.1 in
    subst (IsServed (length design.components) number)
    (ok_same (slice_set owners node.0 number) more passed.1) (record {
      long = length-set owners node.0 number ∙ long;
      at = node.0;
      at_within = fits;
      at_is = get_or-set_same owners node.0 number 0 (omega arith);
    })

members_keep : (design : DesignParts) (place : List ℕ) (number : ℕ) (owners : List ℕ) (ds : List Data) (more : List ℕ)
    → length owners ≡ length design.components → 0 < length ds → with_members design place number owners ds ≡ Ok more
    → IsServed (length design.components) number more
members_keep design place number owners [] more long some e = absurd (omega arith)
members_keep design place number owners (d ∷ ds) more long some e =
    let step = with_member design place number in
    let first = ok_bind (step owners d) (λ next. through step next ds) more e in
    through_keeps (IsServed (length design.components) number) step
    (λ s x t served turn. member_keeps design place number s x t served.long turn) first.0 ds more
    (member_keeps design place number owners d first.0 long first.1) first.2

-- ---- processors
record ArePlaced (design : DesignParts) (placing : List ℕ × List Processor) : Type 0 where
  long : length placing.0 ≡ length design.components
  each : All (IsProcessorOf design) placing.1

record IsPlaced (design : DesignParts) (p : List ℕ × Processor) : Type 0 where
  long : length p.0 ≡ length design.components
  is : IsProcessorOf design p.1

made_of : List ℕ → List ℕ → ℕ → ℕ → List ℕ × Processor
made_of name placed number nanos = (placed, record { name = name; nanos = nanos; components = nodes_of placed number })

served : (design : DesignParts) (name placed : List ℕ) (number nanos : ℕ)
    → IsServed (length design.components) number placed → (1 ≤ nanos) × (nanos ≤ HOUR)
    → IsPlaced design (made_of name placed number nanos)
unfolding made_of
served design name placed number nanos is range = record {
  long = is.long;
  is = record {
    time = range;
    some = nodes_some placed number is.at (let long = is.long in let fits = is.at_within in omega arith) is.at_is;
    rising = nodes_rise placed number;
    within = let P : ℕ → Type 0 = λ n. All (λ (m : NodeNo). m.0 < n) (nodes_of placed number) in
        subst P (let long = is.long in omega arith) (nodes_within placed number);
  };
}

processor_keeps : (design : DesignParts) (owners : List ℕ) (number : ℕ) (entry : List ℕ × Data) (p : List ℕ × Processor)
    → length owners ≡ length design.components → processor_in design owners number entry ≡ Ok p → IsPlaced design p
unfolding processor_in made_of
processor_keeps design owners number entry p long e =
    let place = inside (codes "processors") entry.0 in
    let with_time : Data × List Data → List ℕ → Result (List ℕ × Processor) ScenarioFault =
    λ parts placed. whole place 1 HOUR parts.0 >>= λ nanos. Ok (made_of entry.0 placed number nanos) in
    let with_parts : Data × List Data → Result (List ℕ × Processor) ScenarioFault =
    λ parts. only_if (nat_lt 0 (length parts.1)) (OutOfRange place)
    (with_members design place number owners parts.1 >>= λ placed. with_time parts placed) in
    let named =
    ok_only_if (is_word entry.0) (OutOfRange place)
    (processor_parts place entry.1 >>= λ parts. with_parts parts) p e in
    let parts = ok_bind (processor_parts place entry.1) (λ parts. with_parts parts) p named.1 in
    let some =
    ok_only_if (nat_lt 0 (length parts.0.1)) (OutOfRange place)
    (with_members design place number owners parts.0.1 >>= λ placed. with_time parts.0 placed) p parts.2 in
    let placed =
    ok_bind (with_members design place number owners parts.0.1) (λ placed. with_time parts.0 placed) p some.1 in
    let nanos =
    ok_bind (whole place 1 HOUR parts.0.0) (λ nanos. Ok (made_of entry.0 placed.0 number nanos)) p placed.2 in
    let any : 0 < length parts.0.1 = grind (arith, nat_tests) in
    subst (IsPlaced design) (ok_same (made_of entry.0 placed.0 number nanos.0) p nanos.2)
    (served design entry.0 placed.0 number nanos.0
    (members_keep design place number owners parts.0.1 placed.0 long any placed.1)
    (whole_within place 1 HOUR parts.0.0 nanos.0 nanos.1))

placing_keeps : (design : DesignParts) (before : List ℕ × List Processor) (entry : List ℕ × Data)
    (more : List ℕ × List Processor) → ArePlaced design before → with_processor design before entry ≡ Ok more
    → ArePlaced design more
placing_keeps design before entry more keeps e =
    let made =
    ok_bind (processor_in design before.0 (length before.1 + 1) entry)
    (λ p. Ok (p.0, before.1 ++ p.1 ∷ [])) more e in
    let is = processor_keeps design before.0 (length before.1 + 1) entry made.0 keeps.long made.1 in
    subst (ArePlaced design) (ok_same (made.0.0, before.1 ++ made.0.1 ∷ []) more made.2) (record {
      long = is.long;
      each = All-push (IsProcessorOf design) before.1 made.0.1 keeps.each is.is;
    })

all_placed_keeps : (design : DesignParts) (placed : List Processor) (left : Option ℕ) (processors : List Processor)
    → all_placed design placed left ≡ Ok processors → placed ≡ processors
all_placed_keeps design placed None processors e = ok_same placed processors e
all_placed_keeps design placed (Some node) processors e = absurd (cc)

pub processors_are_valid : (design : DesignParts) (d : Data) (processors : List Processor)
    → processors_in design d ≡ Ok processors → All (IsProcessorOf design) processors
unfolding processors_in
processors_are_valid design d processors e =
    let first : List ℕ × List Processor = (replicate (length design.components) 0, []) in
    let tail : List (List ℕ × Data) → Result (List Processor) ScenarioFault =
    λ es. through (with_processor design) first es >>= λ placing.
    all_placed design placing.1 (first_unplaced placing.0) in
    let es =
    ok_bind (entries (codes "processors") d)
    (λ es. only_if (nat_le 1 (length es) && nat_le (length es) PROCESSORS) (OutOfRange (codes "processors"))
    (tail es)) processors e in
    let passed =
    ok_only_if (nat_le 1 (length es.0) && nat_le (length es.0) PROCESSORS) (OutOfRange (codes "processors"))
    (tail es.0) processors es.2 in
    let placing =
    ok_bind (through (with_processor design) first es.0)
    (λ placing. all_placed design placing.1 (first_unplaced placing.0)) processors passed.1 in
    let none : ArePlaced design first =
    record { long = grind (arith, common_steps); each = All-nil (IsProcessorOf design) } in
    let kept =
    through_keeps (ArePlaced design) (with_processor design) (placing_keeps design) first es.0 placing.0 none
    placing.1 in
    let P : List Processor → Type 0 = λ ps. All (IsProcessorOf design) ps in
    subst P (all_placed_keeps design placing.0.1 (first_unplaced placing.0.0) processors placing.2) kept.each
