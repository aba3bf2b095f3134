-- The lines of a rejected design text.
use Rattle.std.specs.Prelude.{ℕ, codes, List, ◌++◌, length}
use Rattle.aadl_lex.specs.declared.fault.LexFault.{LexFault}
use Rattle.aadl_parse.specs.declared.text_fault.TextFault.{TextFault}
use Rattle.aadl_parse.specs.declared.text_fault.TextFault.TheVariants.{Lex, Memory, Syntax, TooDeep}
use Rattle.bundle_designs.specs.LinesAndColumns.{position_text}
use Rattle.aadl_lex.specs.declared.fault.LexFault.TheVariants as lexical

-- ---- the name of a fault and its position; an allocation failure is not a fault of a text, and has position 0
abbrev pub lexical_name : LexFault → List ℕ
lexical_name (lexical.NotUtf8 at) = codes "NotUtf8"
lexical_name (lexical.BadByte at) = codes "BadByte"
lexical_name (lexical.OpenString at) = codes "OpenString"
lexical_name (lexical.OpenAnnex at) = codes "OpenAnnex"
lexical_name (lexical.BigNumber at) = codes "BigNumber"
lexical_name (lexical.LongName at) = codes "LongName"
lexical_name lexical.Memory = codes "Memory"

abbrev pub lexical_place : LexFault → ℕ
lexical_place (lexical.NotUtf8 at) = at
lexical_place (lexical.BadByte at) = at
lexical_place (lexical.OpenString at) = at
lexical_place (lexical.OpenAnnex at) = at
lexical_place (lexical.BigNumber at) = at
lexical_place (lexical.LongName at) = at
lexical_place lexical.Memory = 0

abbrev pub fault_name : TextFault → List ℕ
fault_name (Lex fault) = lexical_name fault
fault_name (Syntax at) = codes "Syntax"
fault_name (TooDeep at) = codes "TooDeep"
fault_name Memory = codes "Memory"

abbrev pub fault_place : TextFault → ℕ
fault_place (Lex fault) = lexical_place fault
fault_place (Syntax at) = at
fault_place (TooDeep at) = at
fault_place Memory = 0

-- ---- the line `text LINE:COLUMN NAME`
abbrev pub text_line : List ℕ → ℕ → List ℕ → List ℕ
text_line text at name = codes "text " ++ position_text text at ++ codes " " ++ name

abbrev pub text_fault_line : List ℕ → TextFault → List ℕ
text_fault_line text fault = text_line text (fault_place fault) (fault_name fault)

-- no line of a bundle is `%%%`; this fault is at its end
abbrev pub no_divider_line : List ℕ → List ℕ
no_divider_line bundle = text_line bundle (length bundle) (codes "NoDivider")
