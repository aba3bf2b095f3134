-- The last readings that a journal shows, entry by entry, are at most the readings of the clocks.
use Rattle.std.proofs.Common.{◌≡◌, ℕ, ◌≤◌, nat_eq, Bool, true, false, cond, List, [], ◌∷◌, ◌++◌, Option}
use Rattle.std.proofs.Common.{Some, None, refl, ap, arith}
use Rattle.std.specs.Option.{unwrap_or}
use Rattle.std.proofs.lemmas.Bool.{eqb-true}
use Rattle.pals_model.specs.declared.design.DesignParts.{DesignParts}
use Rattle.pals_runs.specs.declared.journal.JournalEntry.{JournalEntry}
use Rattle.run_laws.specs.EntryEventsAndReadings.{Timed, timed}
use Rattle.run_laws.specs.JournalReadings.{last_of, latest}
use Rattle.run_laws.proofs.SoundTraces.{latest_one}

-- a journal shows no reading above these
abbrev pub ShowsAtMost : DesignParts → (ℕ → ℕ) → List JournalEntry → ℕ → Type 0
ShowsAtMost design readings journal node = latest design node journal ≤ readings node

shown_by : (readings : ℕ → ℕ) (node before : ℕ) (t : Timed) (b : Bool) → nat_eq t.node node ≡ b → before ≤ readings node
    → unwrap_or t.reading 0 ≡ readings t.node → cond b (unwrap_or t.reading 0) before ≤ readings node
shown_by readings node before t true is most shows =
    let same : readings t.node ≡ readings node = ap readings (eqb-true t.node node is) in omega (arith, same, shows)
shown_by readings node before t false is most shows = most

-- an entry shows the reading of its node's clock, or `None`
abbrev pub ShowsClock : (ℕ → ℕ) → Option Timed → Type 0
ShowsClock readings None = Unit {0}
ShowsClock readings (Some t) = unwrap_or t.reading 0 ≡ readings t.node

last_at_most : (readings : ℕ → ℕ) (node before : ℕ) (o : Option Timed) → before ≤ readings node → ShowsClock readings o
    → last_of node before o ≤ readings node
last_at_most readings node before None most shows = most
last_at_most readings node before (Some t) most shows =
    shown_by readings node before t (nat_eq t.node node) refl most shows

pub one_more_at_most : (design : DesignParts) (readings : ℕ → ℕ) (journal : List JournalEntry) (e : JournalEntry)
    (node : ℕ)
    → ShowsAtMost design readings journal node → ShowsClock readings (timed design e)
    → ShowsAtMost design readings (journal ++ e ∷ []) node
one_more_at_most design readings journal e node most shows =
    let is = latest_one design node journal e in
    let last = last_at_most readings node (latest design node journal) (timed design e) most shows in
    omega (arith, is, last)
