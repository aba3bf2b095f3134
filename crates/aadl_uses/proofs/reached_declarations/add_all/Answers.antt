use Rattle.std.proofs.Common.{◌++◌, ◌∷◌, [], ◌∙◌, ap, subst, sym, take, List, Option, ℕ, None, Some}
use Rattle.std.proofs.lemmas.List.{take_more}
use Rattle.aadl_uses.specs.proof.ContainmentGraphs.{AreAdded}
use Rattle.aadl_uses.proofs.GraphSearches.{added_skip, added_more}
use Rattle.aadl_uses.proofs.reached_declarations.add_all.Goals.{in-Some+in_ok-insert, in_default}
use Rattle.aadl_uses.proofs.reached_declarations.add_all.Goals as goal

pub loop-target-preserved : goal.loop-target-preserved
loop-target-preserved c =
    let ts = c.args.targets.now in
    let i = c.loop-target.target-index in
    let old = c.args.found.now.keys in
    let front = take i ts in
    elim c.match-target.branch [
      | in-Some+in_ok-insert w ↦
          subst (λ (l : List (Option ℕ)). AreAdded l old c.match-target.found.keys)
          (sym (take_more ts i None c.loop-target-test.true ∙ ap (λ x. front ++ x ∷ []) w.in-Some.is))
          (subst (λ f. AreAdded (front ++ Some w.in-Some.number ∷ []) old f.keys) (sym w.found-is)
          (added_more front old c.loop-target.found.keys c.loop-target.invariant w.in-Some.number w.insert.new.self.keys
          w.in_ok-insert.ensures.keys w.insert.ensures.unique))
      | in_default w ↦
          subst (λ (l : List (Option ℕ)). AreAdded l old c.match-target.found.keys)
          (sym (take_more ts i None c.loop-target-test.true ∙ ap (λ x. front ++ x ∷ []) w.in_default.is))
          (subst (λ f. AreAdded (front ++ None ∷ []) old f.keys) (sym w.found-is)
          (added_skip front old c.loop-target.found.keys c.loop-target.invariant))
    ]
