-- Bundles: the text of a design, the line `%%%`, and a scenario.
use Rattle.std.specs.Prelude.{ℕ, ◌-◌, ◌<◌, ◌≡◌, nat_eq, Bool, ◌||◌, if◌then◌else◌, codes, bytes_eq, List, [], ◌∷◌}
use Rattle.std.specs.Prelude.{length, take, drop, slice_index, Option, Some, None}

-- the bytes after an LF
abbrev pub behind_line_feed : List ℕ → Option (List ℕ)
behind_line_feed [] = None
behind_line_feed (byte ∷ rest) = if nat_eq byte 10 then Some rest else None

-- the bytes after the end of a line: LF, CR LF, or the end of the bytes
abbrev pub behind_line_end : List ℕ → Option (List ℕ)
behind_line_end [] = Some []
behind_line_end (byte ∷ rest) = if nat_eq byte 13 then behind_line_feed rest else behind_line_feed (byte ∷ rest)

-- the bytes after the line `%%%`, if the bytes begin with it
abbrev pub behind_divider : List ℕ → Option (List ℕ)
behind_divider bytes = if bytes_eq (take 3 bytes) (codes "%%%") then behind_line_end (drop 3 bytes) else None

-- a line begins at this position: it is the first one, or the position is after an LF
abbrev pub begins_line : List ℕ → ℕ → Bool
begins_line bytes at = nat_eq at 0 || nat_eq (slice_index bytes (at - 1)) 10

-- the bytes after the line that begins at this position, if the line is `%%%`
abbrev pub divided_at : List ℕ → ℕ → Option (List ℕ)
divided_at bytes at = if begins_line bytes at then behind_divider (drop at bytes) else None

-- The bundle's design text ends at the start of its first line `%%%`, and this scenario is after that line.
pub record IsSplit (bundle design scenario : List ℕ) : Type 0 where
  pub at : ℕ
  pub divided : divided_at bundle at ≡ Some scenario
  pub first : (before : ℕ) → before < at → divided_at bundle before ≡ None
  pub design_is : design ≡ take at bundle

-- No line of the bundle is `%%%`.
abbrev pub HasNoDivider : List ℕ → Type 0
HasNoDivider bundle = (at : ℕ) → at < length bundle → divided_at bundle at ≡ None
