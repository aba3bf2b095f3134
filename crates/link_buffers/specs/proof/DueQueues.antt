-- What a queue of due messages holds.
use Rattle.std.specs.Prelude.{◌≡◌, ℕ, nat_eq, nat_lt, nat_le, Bool, false, not, ◌&&◌, ◌||◌, List, ◌∷◌, ◌++◌, filter}
use Rattle.std.specs.Prelude.{AllPairs}
use Rattle.std.specs.List.{before_first, after_first}
use Rattle.link_buffers.specs.declared.due_queue.DueEntry.{DueEntry}

-- the entries in rising order, and how many more have room
pub record QueueState : Type 0 where
  pub entries : List DueEntry
  pub spare : ℕ

abbrev pub queue_of : List DueEntry → ℕ → QueueState
queue_of list room = record { entries = list; spare = room }

-- the order of entries: by due reading, then by link, then by round
abbrev pub comes_before : DueEntry → DueEntry → Bool
comes_before a b =
    nat_lt a.due b.due || nat_eq a.due b.due
    && (nat_lt a.link.0 b.link.0 || nat_eq a.link.0 b.link.0 && nat_lt a.round b.round)

-- no entry precedes, in the order of entries, an entry that is earlier in the list
abbrev pub IsRising : List DueEntry → Type 0
IsRising entries = AllPairs (λ earlier later. comes_before later earlier ≡ false) entries

abbrev pub is_entry : DueEntry → DueEntry → Bool
is_entry a b = nat_eq a.due b.due && nat_eq a.link.0 b.link.0 && nat_eq a.round b.round

-- the entries with one more, which follows the entries that it does not precede in the order
abbrev pub with_entry : DueEntry → List DueEntry → List DueEntry
with_entry entry entries =
    filter (λ other. not (comes_before entry other)) entries ++ entry ∷ filter (comes_before entry) entries

-- the entries without the first that equals this one, or all entries if none does
abbrev pub without_entry : DueEntry → List DueEntry → List DueEntry
without_entry entry entries = before_first (is_entry entry) entries ++ after_first (is_entry entry) entries

-- an entry that is due at this reading
abbrev pub is_due_at : ℕ → DueEntry → Bool
is_due_at reading entry = nat_le entry.due reading
