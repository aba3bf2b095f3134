-- Keywords and symbols: the text of each, and the contexts in which a word is a keyword.
use Rattle.std.specs.Prelude.{ℕ, Bool, true, false, codes, List, [], ◌∷◌, Option}
use Rattle.std.specs.List.{find}
use Rattle.std.specs.Str.{bytes_eq, str_eq_ignore_ascii_case}
use Rattle.aadl_tree.specs.declared.mark.Mark.{Mark}
use Rattle.aadl_tree.specs.declared.mark.Mark.TheVariants as k

-- the bytes of a keyword, in lower case, or of a symbol
abbrev pub mark_text : Mark → List ℕ
mark_text k.Package = codes "package"
mark_text k.Public = codes "public"
mark_text k.With = codes "with"
mark_text k.End = codes "end"
mark_text k.System = codes "system"
mark_text k.Process = codes "process"
mark_text k.Thread = codes "thread"
mark_text k.Features = codes "features"
mark_text k.Properties = codes "properties"
mark_text k.Implementation = codes "implementation"
mark_text k.Subcomponents = codes "subcomponents"
mark_text k.Connections = codes "connections"
mark_text k.Nothing = codes "none"
mark_text k.In = codes "in"
mark_text k.Out = codes "out"
mark_text k.Data = codes "data"
mark_text k.Port = codes "port"
mark_text k.Annex = codes "annex"
mark_text k.Constant = codes "constant"
mark_text k.Applies = codes "applies"
mark_text k.To = codes "to"
mark_text k.Reference = codes "reference"
mark_text k.Classifier = codes "classifier"
mark_text k.Variables = codes "variables"
mark_text k.States = codes "states"
mark_text k.Transitions = codes "transitions"
mark_text k.Initial = codes "initial"
mark_text k.Complete = codes "complete"
mark_text k.State = codes "state"
mark_text k.On = codes "on"
mark_text k.Dispatch = codes "dispatch"
mark_text k.Otherwise = codes "otherwise"
mark_text k.If = codes "if"
mark_text k.Elsif = codes "elsif"
mark_text k.Else = codes "else"
mark_text k.For = codes "for"
mark_text k.And = codes "and"
mark_text k.Or = codes "or"
mark_text k.Xor = codes "xor"
mark_text k.Then = codes "then"
mark_text k.Mod = codes "mod"
mark_text k.Rem = codes "rem"
mark_text k.Abs = codes "abs"
mark_text k.Not = codes "not"
mark_text k.True = codes "true"
mark_text k.False = codes "false"
mark_text k.Fresh = codes "fresh"
mark_text k.Semicolon = codes ";"
mark_text k.Colon = codes ":"
mark_text k.Comma = codes ","
mark_text k.Dot = codes "."
mark_text k.Range = codes ".."
mark_text k.Scope = codes "::"
mark_text k.Becomes = codes "=>"
mark_text k.Appends = codes "+=>"
mark_text k.Arrow = codes "->"
mark_text k.GuardOpen = codes "-["
mark_text k.GuardClose = codes "]->"
mark_text k.BraceOpen = codes "{"
mark_text k.BraceClose = codes "}"
mark_text k.ParenOpen = codes "("
mark_text k.ParenClose = codes ")"
mark_text k.BracketOpen = codes "["
mark_text k.BracketClose = codes "]"
mark_text k.Plus = codes "+"
mark_text k.Minus = codes "-"
mark_text k.Star = codes "*"
mark_text k.Slash = codes "/"
mark_text k.Equal = codes "="
mark_text k.NotEqual = codes "!="
mark_text k.Less = codes "<"
mark_text k.LessOrEqual = codes "<="
mark_text k.Greater = codes ">"
mark_text k.GreaterOrEqual = codes ">="
mark_text k.Assign = codes ":="
mark_text k.Bang = codes "!"
mark_text k.Tick = codes "'"
mark_text k.AnnexOpen = codes "{**"
mark_text k.AnnexClose = codes "**}"

-- the keywords of declarations, outside behaviour annexes
abbrev pub keywords_outside : List Mark
keywords_outside =
    k.Package ∷ k.Public ∷ k.With ∷ k.End ∷ k.System ∷ k.Process ∷ k.Thread ∷ k.Features ∷ k.Properties ∷
    k.Implementation ∷ k.Subcomponents ∷ k.Connections ∷ k.Nothing ∷ k.In ∷ k.Out ∷ k.Data ∷ k.Port ∷
    k.Annex ∷ k.Constant ∷ k.Applies ∷ k.To ∷ k.Reference ∷ k.Classifier ∷ []

-- the keywords inside a behaviour annex: the words of every construct that can occur there, including properties
abbrev pub keywords_inside : List Mark
keywords_inside =
    k.Variables ∷ k.States ∷ k.Transitions ∷ k.Constant ∷ k.Applies ∷ k.To ∷ k.Reference ∷ k.Classifier ∷
    k.Initial ∷ k.Complete ∷ k.State ∷ k.On ∷ k.Dispatch ∷ k.Otherwise ∷ k.If ∷ k.Elsif ∷ k.Else ∷ k.End ∷
    k.For ∷ k.In ∷ k.And ∷ k.Or ∷ k.Xor ∷ k.Then ∷ k.Mod ∷ k.Rem ∷ k.Abs ∷ k.Not ∷ k.True ∷ k.False ∷
    k.Fresh ∷ []

abbrev pub keywords : Bool → List Mark
keywords false = keywords_outside
keywords true = keywords_inside

abbrev pub symbols : List Mark
symbols =
    k.Semicolon ∷ k.Colon ∷ k.Comma ∷ k.Dot ∷ k.Range ∷ k.Scope ∷ k.Becomes ∷ k.Appends ∷ k.Arrow ∷
    k.GuardOpen ∷ k.GuardClose ∷ k.BraceOpen ∷ k.BraceClose ∷ k.ParenOpen ∷ k.ParenClose ∷ k.BracketOpen ∷
    k.BracketClose ∷ k.Plus ∷ k.Minus ∷ k.Star ∷ k.Slash ∷ k.Equal ∷ k.NotEqual ∷ k.Less ∷ k.LessOrEqual ∷
    k.Greater ∷ k.GreaterOrEqual ∷ k.Assign ∷ k.Bang ∷ k.Tick ∷ []

-- the keyword that a word is, inside or outside a behaviour annex, in any case
abbrev pub keyword_of : Bool → List ℕ → Option Mark
keyword_of inside word = find (λ m. str_eq_ignore_ascii_case word (mark_text m)) (keywords inside)

abbrev pub symbol_of : List ℕ → Option Mark
symbol_of bytes = find (λ m. bytes_eq bytes (mark_text m)) symbols
