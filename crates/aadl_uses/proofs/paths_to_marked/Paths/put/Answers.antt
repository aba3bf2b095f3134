use Rattle.std.proofs.Common.{map, set, ap, ◌∙◌}
use Rattle.std.proofs.lemmas.List.{map-set}
use Rattle.aadl_uses.proofs.paths_to_marked.Paths.put.Goals as goal

pub returns : goal.returns
returns c =
    map-set (λ row. map (λ path. path.items) row.items) c.self.inside.rows.items c.args.number c.args.row
    ∙ ap (λ rows. set rows c.args.number (map (λ path. path.items) c.args.row.items)) c.self.view_is
