use Rattle.std.proofs.Common.{◌∙◌, ◌+◌, ap, subst, sym, arith, List, Option, ℕ, nat_eq}
use Rattle.std.proofs.lemmas.List.{nil_from_length}
use Rattle.indexmap.specs.IndexSet.{insert_key}
use Rattle.aadl_uses.specs.proof.ContainmentGraphs.{AreAdded}
use Rattle.aadl_uses.proofs.GraphSearches.{Searched, searched_first, searched_more, searched_past, searched_end}
use Rattle.aadl_uses.proofs.reached_declarations.reached.Goals.{in-Some+in_ok-add_all, in_default}
use Rattle.aadl_uses.proofs.reached_declarations.reached.Goals as goal

pub loop-at-init : goal.loop-at-init
loop-at-init c =
    searched_first c.args.graph.now c.args.from c.insert.new.self.keys
    (c.in_ok-insert.ensures.keys
    ∙ ap (λ (l : List ℕ). insert_key nat_eq l c.args.from)
    (nil_from_length c.new-found.result.keys c.new-found.ensures.len))
    c.insert.ensures.unique

pub loop-at-preserved : goal.loop-at-preserved
loop-at-preserved c =
    let g = c.args.graph.now in
    let from = c.args.from in
    let at = c.loop-at.at in
    let keys = c.loop-at.found.keys in
    elim c.match-get_index.branch [
      | in-Some+in_ok-add_all w ↦
          subst (λ f. Searched g from (at + 1) f.keys) (sym w.found-is)
          (searched_more g from at keys c.loop-at.invariant w.in-Some.number.now w.add_all.new.found.keys
          (sym w.in-Some.ensures.key)
          (subst (λ (l : List (Option ℕ)). AreAdded l keys w.add_all.new.found.keys) w.targets.ensures
          w.in_ok-add_all.ensures))
      | in_default w ↦
          subst (λ f. Searched g from (at + 1) f.keys) (sym w.found-is)
          (searched_past g from at keys c.loop-at.invariant (sym w.in_default.ensures.key))
    ]

pub returns : goal.returns
returns c =
    searched_end c.args.graph.now c.args.from c.loop-at.at c.loop-at.found.keys c.requires.within c.requires.from
    (omega arith) c.loop-at.invariant
