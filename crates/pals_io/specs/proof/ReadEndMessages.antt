-- The messages of the errors of `read_all`.
use Rattle.std.specs.Prelude.{ℕ, List, codes}
use Rattle.pals_io.specs.declared.stream_errors.ReadEnd.{ReadEnd}
use Rattle.pals_io.specs.declared.stream_errors.ReadEnd.TheVariants.{ReadFault, TooLong, Memory}

abbrev pub message_of : ReadEnd → List ℕ
message_of ReadFault = codes "read fault"
message_of TooLong = codes "too long"
message_of Memory = codes "out of memory"
