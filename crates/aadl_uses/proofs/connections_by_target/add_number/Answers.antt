use Rattle.std.proofs.Common.{refl, ◌∙◌, option_copied}
use Rattle.indexmap.proofs.CallerLemmas.{insert_entry-new}
use Rattle.aadl_names.proofs.NameTables.{found_none}
use Rattle.aadl_uses.proofs.FirstConnections.{number-added}
use Rattle.aadl_uses.proofs.connections_by_target.add_number.Goals as goal

pub returns-in_ok-insert : goal.returns-in_ok-insert
returns-in_ok-insert c =
    let none =
    found_none option_copied refl c.get.result _ c.is_none.result c.is_none.ensures c.get.ensures.value
    c.if-is_none.true in
    number-added c.args.firsts.now.entries c.insert.new.self.entries c.args.target c.args.number
    (c.in_ok-insert.ensures.entries ∙ insert_entry-new _ c.args.firsts.now c.args.target c.args.number none)
