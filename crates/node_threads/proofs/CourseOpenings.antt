-- For `opened` and `new`: how a course begins, with the bus at its opening and no clock list picked from.
use Rattle.std.proofs.Common.{◌≡◌, inl, inr, ℕ, zero, suc, ◌+◌, ◌<◌, ◌≤◌, Bool, true, false, List, [], ◌∷◌, ◌++◌}
use Rattle.std.proofs.Common.{length, map, take, replicate, All, Some, refl, sym, ap, ◌∙◌, subst, arith}
use Rattle.std.specs.List.Sorted.{IsNonDecreasing}
use Rattle.std.proofs.lemmas.Bool.{cases_lt}
use Rattle.std.proofs.lemmas.List.Elements.{All-push}
use Rattle.std.proofs.lemmas.List.{length-map, length-replicate, get_or-replicate, get_or_past}
use Rattle.pals_base.specs.declared.limits.TheConstants.{ROUNDS}
use Rattle.pals_clock.specs.ClockStates.{ClockState, unpicked}
use Rattle.pals_clock.specs.declared.clock.Clocks.{Clocks}
use Rattle.pals_clock.specs.declared.clock.Clocks.TheVariants.{Meet, Lists}
use Rattle.pals_model.specs.DesignRules.{IsDesign}
use Rattle.pals_bus.specs.BusValues.{BusValue}
use Rattle.pals_bus.specs.proof.OpeningNodes.{opening_bus}
use Rattle.pals_bus.proofs.Openings.{map_more}
use Rattle.run_laws.specs.Runs.{clock_at, no_clock, lists_in, HaveFreshClocks, opens}
use Rattle.node_threads.specs.declared.node_end.NodeNote.TheVariants as note
use Rattle.node_threads.specs.proof.SharedCourses.{clocks_of, course_of, note_at, IsCourse, AreMany, AreClocksOf}
use Rattle.node_threads.specs.proof.SharedCourses.{fresh_of}

-- ---- the opening
many_lists : (b : BusValue) (clocks : Clocks) → HaveFreshClocks b.run clocks
    → AreMany (length b.run.design.components) clocks
many_lists b Meet begin = tt
many_lists b (Lists lists) begin = begin.count

all_open : (count node : ℕ) → note_at (replicate count note.Open) node ≡ note.Open
all_open count node = elim (cases_lt node count) [
  | inl within ↦ get_or-replicate count node note.Open note.Open within
  | inr past ↦ get_or_past (replicate count note.Open) node note.Open
      (let size = length-replicate count note.Open in omega arith)
]

opens_by : (b : BusValue) (lists : List ClockState) → IsDesign b.run.design → 1 ≤ b.run.rounds → b.run.rounds ≤ ROUNDS
    → HaveFreshClocks b.run (clocks_of b.meeting lists)
    → IsCourse (course_of (opening_bus b.run b.codes b.meeting) lists
    (replicate (length b.run.design.components) note.Open))
opens_by b lists design rounds few begin =
    let count = length b.run.design.components in
    record {
      rules = record { design = design; rounds = rounds };
      few = few;
      runs = opens (clocks_of b.meeting lists) begin;
      lists = many_lists b (clocks_of b.meeting lists) begin;
      notes = length-replicate count note.Open;
      ended =
          λ node goal is. absurd (let both : note.Open ≡ note.ClockEnded goal = sym (all_open count node) ∙ is in cc);
      closed = λ is. absurd (cc);
    }

pub course_opens : (b : BusValue) (lists : List ClockState) → b ≡ opening_bus b.run b.codes b.meeting
    → IsDesign b.run.design → (1 ≤ b.run.rounds) × (b.run.rounds ≤ ROUNDS)
    → HaveFreshClocks b.run (clocks_of b.meeting lists)
    → IsCourse (course_of b lists (replicate (length b.run.design.components) note.Open))
course_opens b lists fresh design rounds begin =
    let count = length b.run.design.components in
    subst (λ (v : BusValue). IsCourse (course_of v lists (replicate count note.Open))) (sym fresh)
    (opens_by b lists design rounds.0 rounds.1 begin)

-- ---- the lists at the opening
-- the first of them are fresh, and none of their readings falls
abbrev pub AreUnpicked : List ClockState → ℕ → List ClockState → Type 0
AreUnpicked lists count fresh =
    (fresh ≡ map (λ (c : ClockState). unpicked c.readings) (take count lists))
    × All (λ (c : ClockState). IsNonDecreasing c.readings) fresh

pub one_unpicked : (lists : List ClockState) (k : ℕ) (fresh more : List ClockState) (c : ClockState) → k < length lists
    → AreUnpicked lists k fresh → c ≡ unpicked (clock_at lists k).readings → IsNonDecreasing (clock_at lists k).readings
    → more ≡ fresh ++ c ∷ []
    → AreUnpicked lists (k + 1) more
one_unpicked lists k fresh more c within are is order push =
    let falls : IsNonDecreasing c.readings = subst (λ (d : ClockState). IsNonDecreasing d.readings) (sym is) order in (
      map_more (λ (d : ClockState). unpicked d.readings) lists k no_clock fresh more c within are.0 is push,
      subst (All (λ (d : ClockState). IsNonDecreasing d.readings)) (sym push)
          (All-push (λ (d : ClockState). IsNonDecreasing d.readings) fresh c are.1 falls),
    )

-- lists with equal readings at each place
pub all_same : (lists others : List ClockState) → length lists ≡ length others
    → ((k : ℕ) → k < length lists → (clock_at lists k).readings ≡ (clock_at others k).readings)
    → map (λ (c : ClockState). c.readings) lists ≡ map (λ (c : ClockState). c.readings) others
all_same [] [] size same = refl
all_same [] (d ∷ ds) size same = absurd (omega arith)
all_same (c ∷ cs) [] size same = absurd (omega arith)
all_same (c ∷ cs) (d ∷ ds) size same =
    let head : c.readings ≡ d.readings = same zero (omega arith) in
    let tail = all_same cs ds (omega arith) (λ k below. same (suc k) (omega arith)) in
    ap (λ (rs : List ℕ). rs ∷ map (λ (e : ClockState). e.readings) cs) head
    ∙ ap (λ (rss : List (List ℕ)). d.readings ∷ rss) tail

fresh_clock : (lists : List ClockState) (node : ℕ)
    → (clock_at (map (λ (c : ClockState). unpicked c.readings) lists) node).left
    ≡ (clock_at (map (λ (c : ClockState). unpicked c.readings) lists) node).readings
fresh_clock [] node = refl
fresh_clock (c ∷ cs) zero = refl
fresh_clock (c ∷ cs) (suc node) = fresh_clock cs node

same_readings : (lists : List ClockState)
    → map (λ (c : ClockState). c.readings) (map (λ (c : ClockState). unpicked c.readings) lists)
    ≡ map (λ (c : ClockState). c.readings) lists
same_readings [] = refl
same_readings (c ∷ cs) = ap (λ rs. c.readings ∷ rs) (same_readings cs)

begins_by : (b : BusValue) (clocks : Clocks) (meeting : Bool) → b.meeting ≡ meeting → AreClocksOf b clocks
    → All (λ (c : ClockState). IsNonDecreasing c.readings) (fresh_of clocks)
    → HaveFreshClocks b.run (clocks_of meeting (fresh_of clocks))
    × (lists_in (clocks_of meeting (fresh_of clocks)) ≡ lists_in clocks)
begins_by b Meet true is are order = (tt, refl)
begins_by b Meet false is are order = absurd (let both : false ≡ true = sym is ∙ are in cc)
begins_by b (Lists lists) true is are order = absurd (let both : true ≡ false = sym is ∙ are.0 in cc)
begins_by b (Lists lists) false is are order = (
  record {
    count = length-map lists (λ (c : ClockState). unpicked c.readings) ∙ are.1;
    each = λ node within. fresh_clock lists node;
    order = λ node within. order node no_clock within;
  },
  ap Some (same_readings lists),
)

-- the clocks begin, with the readings of the given lists
pub record Begins (b : BusValue) (clocks : Clocks) (lists : List ClockState) : Type 0 where
  pub begin : HaveFreshClocks b.run (clocks_of b.meeting lists)
  pub same : lists_in (clocks_of b.meeting lists) ≡ lists_in clocks

pub begins : (b : BusValue) (clocks : Clocks) (lists : List ClockState) → AreClocksOf b clocks → lists ≡ fresh_of clocks
    → All (λ (c : ClockState). IsNonDecreasing c.readings) lists → Begins b clocks lists
begins b clocks lists are is order =
    let both =
    begins_by b clocks b.meeting refl are (subst (All (λ (c : ClockState). IsNonDecreasing c.readings)) is order) in
    subst (λ ls. Begins b clocks ls) (sym is) (record { begin = both.0; same = both.1 })
