-- Names and paths, as bytes.
use Rattle.std.specs.Prelude.{◌≢◌, ℕ, nat_eq, nat_le, Bool, false, ◌&&◌, ◌||◌, List, [], ◌∷◌, length, AllPairs}
use Rattle.std.specs.List.{list_all, slice_split}
use Rattle.pals_base.specs.declared.limits.TheConstants.{NAME_BYTES}

-- a letter of ASCII
abbrev pub is_letter : ℕ → Bool
is_letter c = (nat_le 65 c && nat_le c 90) || (nat_le 97 c && nat_le c 122)

abbrev pub is_digit : ℕ → Bool
is_digit c = nat_le 48 c && nat_le c 57

-- a letter, a digit or `_`
abbrev pub is_word_byte : ℕ → Bool
is_word_byte c = is_letter c || is_digit c || nat_eq c 95

abbrev pub is_led_by_letter : List ℕ → Bool
is_led_by_letter [] = false
is_led_by_letter (c ∷ cs) = is_letter c

-- a word: a letter followed by letters, digits and `_`, at most 64 bytes in total
abbrev pub is_word : List ℕ → Bool
is_word name = nat_le (length name) NAME_BYTES && is_led_by_letter name && list_all is_word_byte name

abbrev pub is_dot : ℕ → Bool
is_dot c = nat_eq c 46

-- a path: words separated by `.`
abbrev pub is_path : List ℕ → Bool
is_path path = list_all is_word (slice_split is_dot path)

-- the names are pairwise distinct
abbrev pub AreDistinct : List (List ℕ) → Type 0
AreDistinct names = AllPairs (λ a b. a ≢ b) names
