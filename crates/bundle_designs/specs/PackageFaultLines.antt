-- The line of a package without an instance model.
use Rattle.std.specs.Prelude.{ℕ, codes, decimal, List, ◌++◌}
use Rattle.aadl_names.specs.declared.fault.PackageFault.{PackageFault}
use Rattle.aadl_names.specs.declared.fault.PackageFault.TheVariants.{NoRoot, Unknown, Twice, WrongKind, Recursive}
use Rattle.aadl_names.specs.declared.fault.PackageFault.TheVariants.{DeadEnd, TwoSources, TooMany, Memory}
use Rattle.aadl_names.specs.FirstFaults.{number_of}
use Rattle.bundle_designs.specs.LinesAndColumns.{position_text}

-- a space and a word, for each word
abbrev pub and_word : List ℕ → List ℕ
and_word word = codes " " ++ word

-- the fault, with the name or the exceeded limit, and with the position, if it has them
abbrev pub package_fault_words : List ℕ → PackageFault → List ℕ
package_fault_words text NoRoot = codes "NoRoot"
package_fault_words text (Unknown name at) = codes "Unknown" ++ and_word name ++ and_word (position_text text at)
package_fault_words text (Twice name at) = codes "Twice" ++ and_word name ++ and_word (position_text text at)
package_fault_words text (WrongKind at) = codes "WrongKind" ++ and_word (position_text text at)
package_fault_words text (Recursive name at) = codes "Recursive" ++ and_word name ++ and_word (position_text text at)
package_fault_words text (DeadEnd name at) = codes "DeadEnd" ++ and_word name ++ and_word (position_text text at)
package_fault_words text (TwoSources name at) = codes "TwoSources" ++ and_word name ++ and_word (position_text text at)
package_fault_words text (TooMany what) = codes "TooMany" ++ and_word what
package_fault_words text Memory = codes "Memory"

-- `flat NUMBER NAME` and the details
abbrev pub package_fault_line : List ℕ → PackageFault → List ℕ
package_fault_line text fault = codes "flat " ++ decimal (number_of fault) ++ and_word (package_fault_words text fault)
