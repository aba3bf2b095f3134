use Rattle.std.proofs.Common.{◌≡◌, ◌++◌, ◌∷◌, map, take}
use Rattle.aadl_uses.proofs.paths_to_marked.add_below.Given as goal

abbrev pub invariant-loop-path : goal.invariant-loop-path
invariant-loop-path l =
    map (λ path. path.items) l.row.items
    ≡ map (λ path. path.items) l.fn.row.items ++ map (λ path. l.sub ∷ path.items) (take l.path-index l.below)
