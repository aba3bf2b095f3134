-- The texts of answers that are the same for every bundle.
use Rattle.std.specs.Prelude.{ℕ, codes, List, ◌++◌}
use Rattle.pals_model.specs.RoundTexts.{line_end}

abbrev pub usage_line : List ℕ
usage_line = codes "usage: pals_code ROOT" ++ line_end

abbrev pub read_fault_line : List ℕ
read_fault_line = codes "read fault" ++ line_end

abbrev pub too_long_line : List ℕ
too_long_line = codes "too long" ++ line_end
