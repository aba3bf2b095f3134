-- At most i bytes follow the last line end of a text's first i bytes: for the columns of positions.
use Rattle.std.proofs.Common.{ℕ, ◌≤◌, not, nat_eq, List, take, length-take, arith}
use Rattle.std.specs.List.{suffix_len}
use Rattle.std.proofs.lemmas.List.Sums.{suffix_len-le-length}

abbrev pub behind_line_end : List ℕ → ℕ
behind_line_end bytes = suffix_len (λ byte. not (nat_eq byte 10)) bytes

-- at most all bytes
pub behind_within : (text : List ℕ) (i : ℕ) → behind_line_end (take i text) ≤ i
behind_within text i =
    omega (arith, suffix_len-le-length (λ (byte : ℕ). not (nat_eq byte 10)) (take i text), length-take i text)
