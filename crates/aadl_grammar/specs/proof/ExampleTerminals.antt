-- Example terminals for the machine; the place of each is its index.
use Rattle.std.specs.Prelude.{ℕ, ◌+◌, List, [], ◌∷◌, ◌++◌, replicate, codes}
use Rattle.aadl_tree.specs.Terminals.{PlainTerminal, word, mark, PlacedTerminal}
use Rattle.aadl_tree.specs.declared.mark.Mark.TheVariants as k

abbrev pub numbered : ℕ → List PlainTerminal → List PlacedTerminal
numbered n [] = []
numbered n (kind ∷ ks) = record { kind = kind; at = n } ∷ numbered (n + 1) ks

-- x := ;
abbrev pub without_value : List PlainTerminal
without_value = word (codes "x") ∷ mark k.Assign ∷ mark k.Semicolon ∷ []

-- n `(` before a word, and n `)` after it
abbrev pub nested : ℕ → List PlainTerminal
nested n = replicate n (mark k.ParenOpen) ++ word (codes "x") ∷ replicate n (mark k.ParenClose)

-- package P public system S features none ; end S ; end P ;
abbrev pub small_package : List PlainTerminal
small_package =
    mark k.Package ∷ word (codes "P") ∷ mark k.Public ∷ mark k.System ∷ word (codes "S") ∷ mark k.Features
    ∷ mark k.Nothing ∷ mark k.Semicolon
    ∷ mark k.End ∷ word (codes "S") ∷ mark k.Semicolon ∷ mark k.End ∷ word (codes "P") ∷ mark k.Semicolon ∷ []
